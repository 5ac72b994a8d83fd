-- What is known of the files whose reports were begun.
use Rattle.std.proofs.Common.{◌≡◌, ℕ, zero, suc, Bool, false, is_some, List, [], ◌∷◌, length, take, zip, Vec, Global, Option, Some, None, unwrap_or, sym, ap, subst, ◌∙◌, arith, inl, inr, length-take, refl}
use Rattle.std.specs.Prelude.{option_and_then}
use Rattle.std.specs.List.{AllByRecursion, flat_map}
use Rattle.std.proofs.lemmas.Bool.{cases_lt}
use Rattle.std.proofs.lemmas.List.{take_all}
use Rattle.std.proofs.lemmas.Option.{same_Some}
use Rattle.asm_image.specs.Faults.{FirstBroken}
use Rattle.cc_base.specs.Files.{Held, READ_LIMIT}
use Rattle.cc_base.specs.Sink.{AppendsPrefix}
use Rattle.check_driver.specs.Checked.{AreBegun, AreHeldBegun, IfReports, held_files, report_of}
use Rattle.assembly_reports.specs.Reportable.{IsReportable}
use Rattle.result_cache.specs.Entries.{Entry}
use Rattle.unit_verdicts.specs.Picks.{Manner, limit_manner}
use Rattle.unit_verdicts.specs.VerdictCache.{manner_under}
use Rattle.unit_verdicts.specs.declared.source.Source.TheVariants.{Cache as OfCache}
use Rattle.check_driver.specs.CacheMet.{IsCacheUnder, cache_entries, command_cache}
use Rattle.check_driver.specs.CallRead.{cache_bytes}
use Rattle.check_driver.specs.Expected.{check_manner}
use Rattle.check_driver.specs.Met.{AreContents, AreUnder, IsCacheContent, IsContent, bytes_read}
use Rattle.check_driver.proofs.CacheCuts.{entries_held}
use Rattle.check_driver.proofs.SeveralFiles.{begun_none}
use Rattle.command_words.specs.Words.{check_files, checked_indexes, file_indexes, word_at, words_at}
use Rattle.command_words.specs.declared.check_words.CheckWords.{CheckWords}
use Rattle.command_words.specs.declared.command.Command.{Command}
use Rattle.command_words.specs.declared.command.Command.TheVariants as commands
use Rattle.assembly_answers.proofs.CutFiles.{large_first}

-- A file that was cut is refused.
cut_same : (whole bytes : List ℕ) (limit : ℕ) → limit ≡ READ_LIMIT → take limit whole ≡ bytes → FirstBroken bytes ≡ None → bytes ≡ whole
cut_same whole bytes limit is cut accepted =
    elim (cases_lt (length whole) limit) [
      | inl lt ↦ sym cut ∙ take_all limit whole (omega arith)
      | inr ge ↦
          let large = large_first bytes (rw (sym cut) (omega (arith, length-take limit whole, is, ge))) in
          absurd (let both = sym accepted ∙ large in cc)
    ]

pub content_same : (under : Option (List ℕ)) (bytes held : List ℕ) → under ≡ Some held → IsContent under bytes → FirstBroken bytes ≡ None → bytes ≡ held
content_same under bytes held is (inl whole) accepted = same_Some bytes held (sym whole ∙ is)
content_same (Some whole) bytes held is (inr cut) accepted =
    cut_same whole bytes READ_LIMIT refl (same_Some (take READ_LIMIT whole) bytes cut) accepted ∙ same_Some whole held is
content_same None bytes held is (inr cut) accepted = absurd cc

-- Of files that were read and can be reported, what was read is what is held.
held_same : (held : Held) (names : List (List ℕ)) (met : List (Option (List ℕ))) (read : List (Vec ℕ Global)) (n : ℕ) → AreUnder (Some held) names met → AreContents met read
    → AllByRecursion (λ file. IsReportable file.1) (take n (zip names (bytes_read read))) → take n (zip names (bytes_read read)) ≡ take n (held_files held names)
held_same held names met read zero under contents known = refl
held_same held [] [] [] (suc n) under contents known = refl
held_same held (name ∷ names) (under ∷ met) (bytes ∷ read) (suc n) (is, later) (content, others) known =
    let whole = by_content under (is held refl) content in
    ap (λ (b : List ℕ). (name, b) ∷ take n (zip names (bytes_read read))) whole
    ∙ ap (λ (files : List (List ℕ × List ℕ)). (name, unwrap_or (held name) []) ∷ files) (held_same held names met read n later others known.1)
  where
    by_content : (under : Option (List ℕ)) → held name ≡ under → IsContent under bytes.items → bytes.items ≡ unwrap_or (held name) []
    by_content (Some whole) is content =
        content_same (Some whole) bytes.items whole refl content known.0.accepted ∙ sym (ap (λ (u : Option (List ℕ)). unwrap_or u []) is)
    by_content None is (inl content) = absurd cc
    by_content None is (inr cut) = absurd cc
held_same held [] [] (bytes ∷ read) (suc n) under contents known = absurd contents
held_same held [] (met ∷ others) read (suc n) under contents known = absurd under
held_same held (name ∷ names) [] read (suc n) under contents known = absurd under
held_same held (name ∷ names) (met ∷ others) [] (suc n) under contents known = absurd contents

-- What is known of files that were read is known of what is held.
held_begun : (infer : Bool) (manner : Manner) (held : Held) (names : List (List ℕ)) (met : List (Option (List ℕ))) (read : List (Vec ℕ Global)) (old new : Option (List ℕ))
    → AreUnder (Some held) names met → AreContents met read → AreBegun infer manner (zip names (bytes_read read)) old new → AreBegun infer manner (held_files held names) old new
held_begun infer manner held names met read old new under contents begun =
    let same = held_same held names met read begun.count under contents begun.each in record {
      count = begun.count;
      each = subst (AllByRecursion (λ file. IsReportable file.1)) same begun.each;
      prefix = subst (λ (files : List (List ℕ × List ℕ)). AppendsPrefix old new (flat_map (report_of infer manner) files)) same begun.prefix;
    }

-- The assembly that is verified is the first of two files.
verified_begun : (manner : Manner) (held : Held) (name by : List ℕ) (met : List (Option (List ℕ))) (read : List (Vec ℕ Global)) (old new : Option (List ℕ))
    → AreUnder (Some held) (name ∷ by ∷ []) met → AreContents met read → AreBegun false manner (zip (name ∷ []) (bytes_read read)) old new
    → AreBegun false manner (held_files held (name ∷ [])) old new
verified_begun manner held name by (under ∷ met) (bytes ∷ read) old new is contents begun =
    held_begun false manner held (name ∷ []) (under ∷ []) (bytes ∷ []) old new (is.0, tt) (contents.0, tt) begun
verified_begun manner held name by [] read old new is contents begun = absurd is
verified_begun manner held name by (under ∷ met) [] old new is contents begun = absurd contents

-- The manner of a check by what was read of its cache is that by what is held.
manner_held : (check : CheckWords) (read held : Option (List ℕ)) → cache_entries read ≡ cache_entries held → check_manner check read ≡ check_manner check held
manner_held check read held same = ap (λ (entries : List Entry). manner_under (is_some check.show) (OfCache entries)) same

-- The reports of a command's assemblies were begun as far as was written, told of what was read of them, and of its
-- cache.
abbrev ReadBegun : List (List ℕ) → List (Vec ℕ Global) → Option (List ℕ) → Option (List ℕ) → Option (List ℕ) → Command → Type 0
ReadBegun words read cache old new command =
    IfReports command cache (λ infer manner. AreBegun infer manner (zip (words_at words (checked_indexes command)) (bytes_read read)) old new)

-- The same of what is held.
abbrev HeldBegun : Held → List (List ℕ) → Option (List ℕ) → Option (List ℕ) → Option (List ℕ) → Command → Type 0
HeldBegun held words cache old new command =
    IfReports command cache (λ infer manner. AreBegun infer manner (held_files held (words_at words (checked_indexes command))) old new)

begun_here : (held : Held) (command : Command) (words : List (List ℕ)) (met : List (Option (List ℕ))) (read : List (Vec ℕ Global)) (cache its : Option (List ℕ)) (old new : Option (List ℕ))
    → AreUnder (Some held) (words_at words (file_indexes command)) met → AreContents met read → cache_entries cache ≡ cache_entries its
    → ReadBegun words read cache old new command → HeldBegun held words its old new command
begun_here held (commands.Check check) words met read cache its old new under contents same begun =
    let names = words_at words (check_files check) in
    subst (λ (manner : Manner). AreBegun (is_some check.infer) manner (held_files held names) old new) (manner_held check cache its same)
    (held_begun (is_some check.infer) (check_manner check cache) held names met read old new under contents begun)
begun_here held (commands.Linked linked) words met read cache its old new under contents same begun = tt
begun_here held (commands.Verify file proof) words met read cache its old new under contents same (manner, begun) =
    (manner, verified_begun manner held (word_at words file) (word_at words proof) met read old new under contents begun)
begun_here held (commands.Unit file) words met read cache its old new under contents same begun = tt
begun_here held (commands.List file) words met read cache its old new under contents same begun = tt
begun_here held (commands.Il file method) words met read cache its old new under contents same begun = tt
begun_here held (commands.Run run) words met read cache its old new under contents same begun = tt
begun_here held (commands.Refute file method runs) words met read cache its old new under contents same begun = tt
begun_here held (commands.Gen seed count) words met read cache its old new under contents same begun = tt

pub held_checked : (told : Option Held) (command : Command) (words : List (List ℕ)) (met : List (Option (List ℕ))) (read : List (Vec ℕ Global)) (cache : Option (List ℕ)) (its_read : Option (Vec ℕ Global)) (old new : Option (List ℕ))
    → AreUnder told (words_at words (file_indexes command)) met → AreContents met read → IsCacheUnder told (command_cache words command) cache → IsCacheContent cache its_read
    → ReadBegun words read (cache_bytes its_read) old new command → AreHeldBegun told words command old new
held_checked told command words met read cache its_read old new under contents is_cache content begun = λ held told_is.
    let files = subst (λ (t : Option Held). AreUnder t (words_at words (file_indexes command)) met) told_is under in
    let its = subst (λ (t : Option Held). IsCacheUnder t (command_cache words command) cache) told_is is_cache in
    begun_here held command words met read (cache_bytes its_read) (option_and_then held (command_cache words command)) old new files contents
    (entries_held held (command_cache words command) cache its_read its content) begun

none_here : (held : Held) (command : Command) (words : List (List ℕ)) (cache : Option (List ℕ)) (old : Option (List ℕ)) → HeldBegun held words cache old old command
none_here held (commands.Check check) words cache old =
    begun_none (is_some check.infer) (check_manner check cache) (held_files held (words_at words (check_files check))) old old refl
none_here held (commands.Linked linked) words cache old = tt
none_here held (commands.Verify file proof) words cache old =
    (limit_manner false, begun_none false (limit_manner false) (held_files held (words_at words (file ∷ []))) old old refl)
none_here held (commands.Unit file) words cache old = tt
none_here held (commands.List file) words cache old = tt
none_here held (commands.Il file method) words cache old = tt
none_here held (commands.Run run) words cache old = tt
none_here held (commands.Refute file method runs) words cache old = tt
none_here held (commands.Gen seed count) words cache old = tt

-- None was begun where nothing was written.
pub none_begun : (told : Option Held) (command : Command) (words : List (List ℕ)) (old : Option (List ℕ)) → AreHeldBegun told words command old old
none_begun told command words old = λ held told_is. none_here held command words (option_and_then held (command_cache words command)) old
