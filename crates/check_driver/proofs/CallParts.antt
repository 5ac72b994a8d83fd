-- A call that opens a cache, reports files and leaves a proof file and the cache, as far as it came, whatever its
-- reports are.
use Rattle.std.proofs.Common.{◌≡◌, ℕ, nat_le, Bool, List, [], Option, Result, Ok, Err, ap, subst, ◌∙◌, inl}
use Rattle.cc_base.specs.Files.{Held}
use Rattle.answer_lines.specs.Answers.{Answer}
use Rattle.answer_lines.specs.Outcome.{Gives, WritesAll, after_line}
use Rattle.answer_lines.specs.Writing.{Change, Writes}
use Rattle.answer_lines.specs.declared.interrupt.Interrupt.{Interrupt}
use Rattle.answer_lines.specs.declared.interrupt.Interrupt.TheVariants as interrupts
use Rattle.answer_lines.proofs.Replacing.{gives_after_line, gives_line_stop, gives_until_replaced}
use Rattle.answer_lines.proofs.Writings.{change}
use Rattle.command_words.specs.declared.check_words.CheckWords.{CheckWords}
use Rattle.unit_verdicts.specs.Asked.{Asks, distinct, without_entry}
use Rattle.unit_verdicts.specs.Picks.{entries_in}
use Rattle.unit_verdicts.specs.VerdictCache.{CachedUnits}
use Rattle.unit_verdicts.specs.declared.source.Source.TheVariants.{Cache as OfCache}
use Rattle.check_driver.specs.Asked.{begun_units}
use Rattle.assembly_reports.specs.JudgedUnits.{asked_for, with_judged}
use Rattle.check_driver.specs.CacheMet.{cache_entries, cache_refusal}
use Rattle.check_driver.specs.FilesLeft.{AnswerLeaves, AreLeft, PrefixIsLeft, GivesOrUnreplaced, LeftFile, left_where}
use Rattle.check_driver.specs.HonestCaches.{HonestWhereHonest}
use Rattle.check_driver.proofs.CheckParts.{leaves_ended, leaves_whole}

-- The names of the proof file and of the cache, what is met under the latter, the answer that the reports are, and the
-- units that are judged for them.
module _ (check : CheckWords) (proof name met : Option (List ℕ)) (reports : Answer) (keys : List (List ℕ)) where
  abbrev line : List ℕ
  line = cache_refusal name met

  abbrev answer : Answer
  answer = after_line line reports

  -- The cache was refused, and the line was interrupted.
  pub stopped_at_line : {X : Type 0} (i : Interrupt) (unreplaced : Type 0) (o : Option (List ℕ)) (p : Option ℕ) (f : ℕ) (err : Change) → Writes {X = X} (Err i) err line
      → GivesOrUnreplaced answer unreplaced (Err i) (change o o p p f f) err
  stopped_at_line {X} i unreplaced o p f err w = inl (inl (gives_line_stop {X = X} line reports i o p f err w))

  module _ {X : Type 0} (one : X) (out : Change) (e0 e1 e2 : Option (List ℕ)) (p0 p1 p2 : Option ℕ) (f0 f1 f2 : ℕ) (w : Writes (Ok one) (change e0 e1 p0 p1 f0 f1) line) where
    abbrev behind : Change
    behind = change e1 e2 p1 p2 f1 f2

    abbrev err : Change
    err = change e0 e2 p0 p2 f0 f2

    with_line : (r : Result ℕ Interrupt) → Gives reports r out behind → Gives answer r out err
    with_line r gives = gives_after_line {X = X} one line reports out e0 e1 e2 p0 p1 p2 f0 f1 f2 w r gives

    -- The reports came, whole or in part.
    pub reported : (unreplaced : Type 0) (r : Result ℕ Interrupt) → Gives reports r out behind → GivesOrUnreplaced answer unreplaced r out err
    reported unreplaced r gives = inl (inl (with_line r gives))

    -- They came, and a file was not left.
    pub stopped_at_files : (unreplaced : Type 0) (status : ℕ) (i : Interrupt) → Gives reports (Ok status) out behind → (i ≡ interrupts.CannotWrite → unreplaced)
        → GivesOrUnreplaced answer unreplaced (Err i) out err
    stopped_at_files unreplaced status i gives failed = gives_until_replaced answer [] ⊥ unreplaced status i out err (with_line (Ok status) gives) failed

  -- What was asked for the reports.
  pub asked_reports : {X E : Type 0} (cache : CachedUnits) (r : Result X E) (old new : List (List ℕ)) → cache ≡ begun_units check met → Asks (asked_for cache keys) r old new
      → Asks (without_entry (cache_entries met) (distinct keys)) r old new
  asked_reports cache r old new is asks = subst (λ (c : CachedUnits). Asks (asked_for c keys) r old new) is asks

  -- What is left is what is expected, where the status tells whether all files were accepted.
  module _ (accepted : Bool) (status : ℕ) (begun cache : CachedUnits) (few : nat_le reports.status 1 ≡ accepted) (is : status ≡ reports.status) (begins : begun ≡ begun_units check met)
      (judged : cache ≡ with_judged begun keys) where
    abbrev left : List LeftFile
    left = left_where accepted proof name (OfCache (cache_entries met)) (distinct keys)

    abbrev own : List LeftFile
    own = left_where (nat_le status 1) proof name cache.held cache.keys

    units_are : cache ≡ with_judged (begun_units check met) keys
    units_are = judged ∙ ap (λ (c : CachedUnits). with_judged c keys) begins

    own_is : own ≡ left
    own_is =
        ap (λ (c : CachedUnits). left_where (nat_le status 1) proof name c.held c.keys) units_are
        ∙ ap (λ (all : Bool). left_where all proof name (OfCache (cache_entries met)) (distinct keys)) (ap (λ (n : ℕ). nat_le n 1) is ∙ few)

    pub left_or_not : (i : Interrupt) (out : Change) (old new : Option Held) → WritesAll out reports.out → PrefixIsLeft own old new → AnswerLeaves left answer.out (Err i) out old new
    left_or_not i out old new all prefix = leaves_ended left own answer.out i out old new own_is all prefix

    pub left_at_last : (out : Change) (old new : Option Held) → WritesAll out reports.out → AreLeft own old new → AnswerLeaves left answer.out (Ok status) out old new
    left_at_last out old new all files = leaves_whole left own answer.out status out old new own_is all files

    -- The cache that is left is honest.
    pub honest_left : (old new : Option Held) → HonestWhereHonest name proof (entries_in cache.held) old new → HonestWhereHonest name proof (cache_entries met) old new
    honest_left old new honest = subst (λ (c : CachedUnits). HonestWhereHonest name proof (entries_in c.held) old new) units_are honest
