-- What is known of a unit's file whose report was begun.
use Rattle.std.proofs.Common.{◌≡◌, ◌⊎◌, ℕ, ◌<◌, List, [], ◌∷◌, length, take, Vec, Global, Option, Some, None, sym, ap, subst, ◌∙◌, inl, inr, length-take, arith}
use Rattle.std.proofs.lemmas.Bool.{cases_lt}
use Rattle.std.proofs.lemmas.List.{take_all}
use Rattle.std.proofs.lemmas.Option.{same_Some}
use Rattle.cc_base.specs.Files.{Held, READ_LIMIT}
use Rattle.cil_model.specs.declared.unit.Unit.{Unit as MethodUnit}
use Rattle.command_words.specs.Words.{file_indexes, word_at, words_at}
use Rattle.command_words.specs.declared.command.Command.{Command}
use Rattle.command_words.specs.declared.command.Command.TheVariants as commands
use Rattle.unit_form.specs.Spelling.{IsSpelledBy}
use Rattle.method_unit.specs.UnitFile.{unit_of}
use Rattle.method_unit.specs.Units.{IsUnit}
use Rattle.check_driver.specs.Expected.{file_at}
use Rattle.check_driver.specs.Met.{AreContents, AreUnder, IsContent, bytes_read}
use Rattle.check_driver.specs.ProvedUnit.{AreSpelled, IfUnit, IsHeldSpelled}

pub are_spelled : (bytes : List ℕ) (unit : MethodUnit) → length bytes < READ_LIMIT → IsSpelledBy unit bytes → unit ≡ unit_of bytes
    → IsUnit unit → AreSpelled bytes
are_spelled bytes unit whole spelled same is_unit = record {
  whole = whole;
  is_unit = subst IsUnit same is_unit;
  spelled = subst (λ (u : MethodUnit). IsSpelledBy u bytes) same spelled;
}

-- ---- what is held

-- What was read, of less bytes than a read gives at most, was not cut.
uncut_same : (whole bytes : List ℕ) (limit : ℕ) → take limit whole ≡ bytes → length bytes < limit → bytes ≡ whole
uncut_same whole bytes limit cut short =
    elim (cases_lt (length whole) limit) [
      | inl lt ↦ sym cut ∙ take_all limit whole (omega arith)
      | inr ge ↦ let long : length bytes ≡ limit = ap length (sym cut) ∙ omega (arith, length-take limit whole, ge) in absurd (omega (arith, long, short))
    ]

content_same : (under : Option (List ℕ)) (bytes held : List ℕ) → under ≡ Some held → IsContent under bytes → length bytes < READ_LIMIT → bytes ≡ held
content_same under bytes held is (inl whole) short = same_Some bytes held (sym whole ∙ is)
content_same (Some whole) bytes held is (inr cut) short =
    uncut_same whole bytes READ_LIMIT (same_Some (take READ_LIMIT whole) bytes cut) short ∙ same_Some whole held is
content_same None bytes held is (inr cut) short = absurd cc

-- What is known of what was read of the only file is known of what is held.
one_spelled : (files : Option Held) (name : List ℕ) (met : List (Option (List ℕ))) (read : List (Vec ℕ Global)) → AreUnder files (name ∷ []) met → AreContents met read
    → AreSpelled (file_at (bytes_read read) 0) → IsHeldSpelled files name
one_spelled files name (under ∷ []) (bytes ∷ read) (is, last) (content, rest) known =
    λ held whole told_is at. subst AreSpelled (content_same under bytes.items whole (sym (is held told_is) ∙ at) content known.whole) known
one_spelled files name (under ∷ []) [] is contents known = absurd contents
one_spelled files name [] read is contents known = absurd is
one_spelled files name (under ∷ other ∷ met) read is contents known = absurd is.1

pub held_spelled : (files : Option Held) (command : Command) (words : List (List ℕ)) (met : List (Option (List ℕ))) (read : List (Vec ℕ Global)) (same : Type 0)
    → AreUnder files (words_at words (file_indexes command)) met → AreContents met read → same ⊎ IfUnit command (λ _. AreSpelled (file_at (bytes_read read) 0))
    → same ⊎ IfUnit command (λ file. IsHeldSpelled files (word_at words file))
held_spelled files command words met read same under contents (inl is) = inl is
held_spelled files (commands.Unit file) words met read same under contents (inr known) = inr (one_spelled files (word_at words file) met read under contents known)
held_spelled files (commands.Check check) words met read same under contents (inr known) = inr tt
held_spelled files (commands.Linked linked) words met read same under contents (inr known) = inr tt
held_spelled files (commands.Verify file proof) words met read same under contents (inr known) = inr tt
held_spelled files (commands.List file) words met read same under contents (inr known) = inr tt
held_spelled files (commands.Il file method) words met read same under contents (inr known) = inr tt
held_spelled files (commands.Run run) words met read same under contents (inr known) = inr tt
held_spelled files (commands.Refute file method runs) words met read same under contents (inr known) = inr tt
held_spelled files (commands.Gen seed count) words met read same under contents (inr known) = inr tt
