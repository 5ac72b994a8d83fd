-- A check in its parts: its cache is opened, its assemblies are answered, and its cache is left.
use Rattle.std.proofs.Common.{◌≡◌, ℕ, ◌≤◌, max, nat_le, Bool, true, false, ◌&&◌, ◌||◌, List, [], ◌∷◌, length, Vec, Global, Option, Some, None, is_none, is_some, Result, Ok, Err, if◌then◌else◌, refl, sym, ap, subst, ◌∙◌, arith, inl, inr}
use Rattle.std.specs.Prelude.{IfOk, IfSome, OnOk}
use Rattle.std.proofs.lemmas.Bool.{cases_lt, le-leb}
use Rattle.std.proofs.lemmas.List.{length-map}
use Rattle.asm_image.specs.Faults.{FirstBroken}
use Rattle.asm_image.specs.declared.fault.AsmFault.{AsmFault}
use Rattle.cc_base.specs.Counts.{Kept, Rose}
use Rattle.cc_base.specs.Files.{Held}
use Rattle.cc_base.proofs.CountLemmas.{Kept-Rose, Kept-refl}
use Rattle.cc_base.proofs.SinkLemmas.{AppendsPrefix-none}
use Rattle.answer_lines.specs.Answers.{Answer}
use Rattle.answer_lines.specs.Outcome.{Gives, WritesAll}
use Rattle.answer_lines.specs.Writing.{Change, Writes}
use Rattle.answer_lines.specs.declared.interrupt.Interrupt.{Interrupt}
use Rattle.answer_lines.specs.declared.interrupt.Interrupt.TheVariants as interrupts
use Rattle.answer_lines.proofs.Replacing.{gives_after_line, gives_line_stop, gives_until_replaced}
use Rattle.answer_lines.proofs.Writings.{change}
use Rattle.command_words.specs.Words.{check_files, word_at, words_at}
use Rattle.command_words.specs.declared.check_words.CheckWords.{CheckWords}
use Rattle.command_words.specs.declared.command.Command.{Command}
use Rattle.command_words.specs.declared.command.Command.TheVariants as commands
use Rattle.result_cache.specs.Entries.{Entry}
use Rattle.unit_verdicts.specs.Asked.{Asks, distinct}
use Rattle.unit_verdicts.specs.Picks.{Manner, entries_in, pick_from, pick_of}
use Rattle.unit_verdicts.specs.ProofLeft.{IsProofLeft}
use Rattle.unit_verdicts.specs.VerdictCache.{CachedUnits}
use Rattle.unit_verdicts.specs.declared.source.Source.TheVariants.{Cache as OfCache}
use Rattle.check_driver.specs.Asked.{begun_units, bytes_asked, check_keys}
use Rattle.assembly_reports.specs.JudgedUnits.{asked_for, with_judged}
use Rattle.check_driver.specs.CacheMet.{cache_entries, cache_refusal, command_cache, command_proof}
use Rattle.assembly_reports.specs.CheckText.{all_methods_proved}
use Rattle.check_driver.specs.Expected.{bytes_answer, check_answer, check_manner, checked_before}
use Rattle.check_driver.specs.FilesLeft.{AnswerLeaves, AreLeft, PrefixIsLeft, GivesOrUnreplaced, IfEither, IfNamed, LeftFile, are_accepted, bytes_left, check_left, left_where}
use Rattle.check_driver.specs.HonestCaches.{HonestWhereHonest}
use Rattle.check_driver.specs.Known.{AreAllRunnable, KnowsCheck}
use Rattle.check_driver.specs.Met.{bytes_read}
use Rattle.check_driver.proofs.LeftFiles.{all_left, keeps_same}

-- What is so in any case is so where the call gave something.
pub where_ok : {X E P : Type 0} (r : Result X E) → P → OnOk r P
where_ok (Ok x) holds = holds
where_ok (Err e) holds = tt

pub if_ok : {X E P : Type 0} (r : Result X E) → P → IfOk r (λ _. P)
if_ok (Ok x) holds = holds
if_ok (Err e) holds = tt

-- ---- the status tells whether a file was refused

small_greater : (proved : Bool) (n : ℕ) → nat_le (max (if proved then 0 else 1) n) 1 ≡ nat_le n 1
small_greater true n = ap (λ (m : ℕ). nat_le m 1) (omega arith)
small_greater false n =
    elim (cases_lt 1 n) [
      | inl more ↦ let is : max 1 n ≡ n = omega (arith, more) in ap (λ (m : ℕ). nat_le m 1) is
      | inr few ↦ let is : max 1 n ≡ 1 = omega (arith, few) in ap (λ (m : ℕ). nat_le m 1) is ∙ sym (le-leb n 1 (omega (arith, few)))
    ]

accepted_before : (infer : Bool) (name : List ℕ) (manner : Manner) (bytes : List ℕ) (fault : Option AsmFault) (others : Answer) (accepted : Bool) → nat_le others.status 1 ≡ accepted
    → nat_le (checked_before infer name manner bytes fault others).status 1 ≡ (is_none fault && accepted)
accepted_before infer name manner bytes (Some fault) others accepted same = refl
accepted_before infer name manner bytes None others accepted same = small_greater (all_methods_proved infer manner.pick bytes) others.status ∙ same

pub few_where_accepted : (infer : Bool) (manner : Manner) (names files : List (List ℕ)) → length files ≡ length names → nat_le (check_answer infer manner names files).status 1 ≡ are_accepted files
few_where_accepted infer manner [] [] long = refl
few_where_accepted infer manner (name ∷ names) (bytes ∷ files) long =
    accepted_before infer name manner bytes (FirstBroken bytes) (check_answer infer manner names files) (are_accepted files)
    (few_where_accepted infer manner names files (omega (arith, long)))
few_where_accepted infer manner [] (bytes ∷ files) long = absurd (omega (arith, long))
few_where_accepted infer manner (name ∷ names) [] long = absurd (omega (arith, long))

-- What is left is what is expected.
pub left_is : (infer : Bool) (words : List (List ℕ)) (check : CheckWords) (met : Option (List ℕ)) (manner : Manner) (names files : List (List ℕ)) (status : ℕ) (cache : CachedUnits)
    → length files ≡ length names → status ≡ (check_answer infer manner names files).status
    → cache ≡ with_judged (begun_units check met) (check_keys infer (pick_of (cache_entries met)) files)
    → left_where (nat_le status 1) (command_proof words (commands.Check check)) (command_cache words (commands.Check check)) cache.held cache.keys
    ≡ check_left infer words (commands.Check check) met files
left_is infer words check met manner names files status cache long is judged =
    let proof = command_proof words (commands.Check check) in
    let own = command_cache words (commands.Check check) in
    ap (λ (c : CachedUnits). left_where (nat_le status 1) proof own c.held c.keys) judged
    ∙ ap (λ (accepted : Bool). left_where accepted proof own (OfCache (cache_entries met)) (distinct (check_keys infer (pick_of (cache_entries met)) files)))
    (ap (λ (n : ℕ). nat_le n 1) is ∙ few_where_accepted infer manner names files long)

-- ---- answers

-- The call was interrupted before its files were changed.
pub leaves_as_before : (left : List LeftFile) (text : List ℕ) (i : Interrupt) (out : Change) (old new : Option Held) → new ≡ old → AnswerLeaves left text (Err i) out old new
leaves_as_before left text i out old new same = record { whole = tt; either = inl same }

-- Nothing is to be left.
pub leaves_none : (text : List ℕ) (r : Result ℕ Interrupt) (out : Change) (old new : Option Held) → new ≡ old → AnswerLeaves [] text r out old new
leaves_none text (Ok status) out old new same = record { whole = λ other. same; either = inl same }
leaves_none text (Err i) out old new same = record { whole = tt; either = inl same }

-- All was written, and then the first of what was to be left was left.
pub leaves_ended : (left other : List LeftFile) (text : List ℕ) (i : Interrupt) (out : Change) (old new : Option Held) → other ≡ left → WritesAll out text
    → PrefixIsLeft other old new → AnswerLeaves left text (Err i) out old new
leaves_ended left other text i out old new same all is =
    record { whole = tt; either = inr (subst (λ (files : List LeftFile). PrefixIsLeft files old new) same is, all) }

pub leaves_whole : (left other : List LeftFile) (text : List ℕ) (status : ℕ) (out : Change) (old new : Option Held) → other ≡ left → WritesAll out text
    → AreLeft other old new → AnswerLeaves left text (Ok status) out old new
leaves_whole left other text status out old new same all is =
    let its = subst (λ (files : List LeftFile). AreLeft files old new) same is in
    record { whole = λ _. its; either = inr (all_left left old new its, all) }

-- ---- honest caches

-- Files that are as before are so in any case.
pub honest_as_before : (name proof : Option (List ℕ)) (entries : List Entry) (old new : Option Held) → new ≡ old → HonestWhereHonest name proof entries old new
honest_as_before None proof entries old new same = tt
honest_as_before (Some name) proof entries old new same = λ honest differs. keeps_same name old new same

-- What came late in a call came in it.
one_rose : (name : Option (List ℕ)) (f0 f1 f2 : ℕ) → Kept f0 f1 → IfNamed name (Rose f1 f2) → IfNamed name (Rose f0 f2)
one_rose None f0 f1 f2 kept never = never
one_rose (Some name) f0 f1 f2 kept rose = Kept-Rose f0 f1 f2 kept rose

pub named_rose : (proof cache : Option (List ℕ)) (f0 f1 f2 : ℕ) → Kept f0 f1 → IfEither proof cache (Rose f1 f2) → IfEither proof cache (Rose f0 f2)
named_rose proof cache f0 f1 f2 kept (inl rose) = inl (one_rose proof f0 f1 f2 kept rose)
named_rose proof cache f0 f1 f2 kept (inr rose) = inr (one_rose cache f0 f1 f2 kept rose)

-- Invariants are kept where a proof file or a cache is to be left.
pub keeps_for : {X : Type 0} (proof : Option X) (other infers keeps : Bool) → keeps ≡ (other || (is_some proof || infers)) → IfSome proof (λ _. keeps ≡ true)
keeps_for None other infers keeps is = tt
keeps_for (Some one) true infers keeps is = is
keeps_for (Some one) false infers keeps is = is

pub infers_keeps : (cache proof infers keeps : Bool) → keeps ≡ (cache || (proof || infers)) → infers ≡ true → keeps ≡ true
infers_keeps true proof infers keeps is so = is
infers_keeps false true infers keeps is so = is
infers_keeps false false infers keeps is so = is ∙ so

pub first_keeps_for : {X : Type 0} (cache : Option X) (other keeps : Bool) → keeps ≡ (is_some cache || other) → IfSome cache (λ _. keeps ≡ true)
first_keeps_for None other keeps is = tt
first_keeps_for (Some one) other keeps is = is

-- As many files as names.
pub as_many : (words : List (List ℕ)) (files : List ℕ) (read : List (Vec ℕ Global)) → length read ≡ length files
    → length (bytes_read read) ≡ length (words_at words files)
as_many words files read long = length-map read (λ (bytes : Vec ℕ Global). bytes.items) ∙ long ∙ sym (length-map files (word_at words))

-- ---- a check, as far as it came

module _ (check : CheckWords) (words : List (List ℕ)) (met : Option (List ℕ)) (files : List (List ℕ)) where
  abbrev command : Command
  command = commands.Check check

  abbrev name : Option (List ℕ)
  name = command_cache words command

  abbrev line : List ℕ
  line = cache_refusal name met

  abbrev names : List (List ℕ)
  names = words_at words (check_files check)

  abbrev infer : Bool
  infer = is_some check.infer

  abbrev manner : Manner
  manner = check_manner check met

  -- The units of the reports, over a cache.
  abbrev keys_over : CachedUnits → List (List ℕ)
  keys_over cache = check_keys infer (pick_from cache.held) files

  abbrev reports : Answer
  reports = check_answer infer manner names files

  abbrev answer : Answer
  answer = bytes_answer command words met None files

  -- Its cache was refused, and the line was interrupted.
  pub stopped_at_line : {X : Type 0} (i : Interrupt) (unreplaced : Type 0) (o : Option (List ℕ)) (p : Option ℕ) (f : ℕ) (err : Change) → Writes {X = X} (Err i) err line
      → GivesOrUnreplaced answer unreplaced (Err i) (change o o p p f f) err
  stopped_at_line {X} i unreplaced o p f err w = inl (inl (gives_line_stop {X = X} line reports i o p f err w))

  module _ {X : Type 0} (one : X) (out : Change) (e0 e1 e2 : Option (List ℕ)) (p0 p1 p2 : Option ℕ) (f0 f1 f2 : ℕ) (w : Writes (Ok one) (change e0 e1 p0 p1 f0 f1) line) where
    abbrev behind : Change
    behind = change e1 e2 p1 p2 f1 f2

    abbrev err : Change
    err = change e0 e2 p0 p2 f0 f2

    with_line : (r : Result ℕ Interrupt) → Gives reports r out behind → Gives answer r out err
    with_line r gives = gives_after_line {X = X} one line reports out e0 e1 e2 p0 p1 p2 f0 f1 f2 w r gives

    -- The reports came, whole or in part.
    pub reported : (unreplaced : Type 0) (r : Result ℕ Interrupt) → Gives reports r out behind → GivesOrUnreplaced answer unreplaced r out err
    reported unreplaced r gives = inl (inl (with_line r gives))

    -- They came, and the cache was not left.
    pub stopped_at_cache : (unreplaced : Type 0) (status : ℕ) (i : Interrupt) → Gives reports (Ok status) out behind → (i ≡ interrupts.CannotWrite → unreplaced)
        → GivesOrUnreplaced answer unreplaced (Err i) out err
    stopped_at_cache unreplaced status i gives failed = gives_until_replaced answer [] ⊥ unreplaced status i out err (with_line (Ok status) gives) failed

  -- What was asked for the reports.
  pub asked_reports : {X E : Type 0} (cache : CachedUnits) (r : Result X E) (old new : List (List ℕ)) → cache ≡ begun_units check met → Asks (asked_for cache (keys_over cache)) r old new
      → Asks (bytes_asked command met files) r old new
  asked_reports cache r old new is asks = subst (λ (c : CachedUnits). Asks (asked_for c (keys_over c)) r old new) is asks

  -- What is left is what is expected.
  module _ (status : ℕ) (begun cache : CachedUnits) (long : length files ≡ length names) (is : status ≡ reports.status) (begins : begun ≡ begun_units check met)
      (judged : cache ≡ with_judged begun (keys_over begun)) where
    abbrev left : List LeftFile
    left = bytes_left command words met files

    abbrev own : List LeftFile
    own = left_where (nat_le status 1) (command_proof words command) name cache.held cache.keys

    units_are : cache ≡ with_judged (begun_units check met) (keys_over (begun_units check met))
    units_are = judged ∙ ap (λ (c : CachedUnits). with_judged c (keys_over c)) begins

    own_is : own ≡ left
    own_is = left_is infer words check met manner names files status cache long is units_are

    pub left_or_not : (i : Interrupt) (out : Change) (old new : Option Held) → WritesAll out reports.out → PrefixIsLeft own old new → AnswerLeaves left answer.out (Err i) out old new
    left_or_not i out old new all is = leaves_ended left own answer.out i out old new own_is all is

    pub left_at_last : (out : Change) (old new : Option Held) → WritesAll out reports.out → AreLeft own old new → AnswerLeaves left answer.out (Ok status) out old new
    left_at_last out old new all is = leaves_whole left own answer.out status out old new own_is all is

    -- What is known of its files and of its proof file.
    pub knows_check : AreAllRunnable files → (status ≤ 1 → IfSome check.proof (λ _. IsProofLeft cache.held cache.keys)) → KnowsCheck check met files status
    knows_check runnable its = record {
      runnable = runnable;
      left = λ few. subst (λ (c : CachedUnits). IfSome check.proof (λ _. IsProofLeft c.held c.keys)) units_are (its few);
    }

    -- The cache that is left is honest.
    pub honest_left : (old new : Option Held) → HonestWhereHonest name (command_proof words command) (entries_in cache.held) old new
        → HonestWhereHonest name (command_proof words command) (cache_entries met) old new
    honest_left old new honest = subst (λ (c : CachedUnits). HonestWhereHonest name (command_proof words command) (entries_in c.held) old new) units_are honest

-- ---- texts

-- Memory ran out before anything was written.
pub writes_no_memory : {X : Type 0} (o : Option (List ℕ)) (p : Option ℕ) (f : ℕ) (text : List ℕ) → Writes {X = X} (Err interrupts.NoMemory) (change o o p p f f) text
writes_no_memory o p f text = record { whole = tt; puts = tt; prefix = AppendsPrefix-none o o text refl; cause = λ is. absurd cc; kept = Kept-refl f }
