-- What a call leaves whose answer may be that memory ran out before a proof file was read.
use Rattle.std.proofs.Common.{◌≡◌, ◌≢◌, ◌⊎◌, ℕ, List, Option, Result, Ok, Err, refl, subst, inl, inr, arith}
use Rattle.std.specs.Prelude.{IfOk}
use Rattle.cc_base.specs.Counts.{Kept, Rose}
use Rattle.cc_base.specs.Sink.{AppendsPrefix}
use Rattle.answer_lines.specs.Answers.{Answer}
use Rattle.answer_lines.specs.Outcome.{GivesOrFails, Leaves, last_line, status_of}
use Rattle.answer_lines.specs.Writing.{Change}
use Rattle.answer_lines.specs.declared.interrupt.Interrupt.{Interrupt}
use Rattle.answer_lines.specs.declared.interrupt.Interrupt.TheVariants as interrupts
use Rattle.answer_lines.proofs.Causes as causes
use Rattle.answer_lines.proofs.Leaving.{IsUninterrupted, leaves}
use Rattle.answer_lines.proofs.Writings.{change}
use Rattle.assembly_answers.proofs.Statuses.{plain_below}

-- An answer that came with the status that is expected tells no interruption.
abbrev pub AnswersPlainly : Result ℕ Interrupt → Answer → Type 0
AnswersPlainly r x = IfOk r (λ status. status ≡ x.status → IsUninterrupted status)

-- The same texts with the status 0.
abbrev plain : Answer → Answer
plain x = record { out = x.out; err = x.err; status = 0 }

plain_zero : IsUninterrupted 0
plain_zero = plain_below 0 (omega arith)

-- No answer came, but perhaps that a file was not read.
abbrev IsEnded : Result ℕ Interrupt → Type 0
IsEnded r = IfOk r (λ status. status ≡ 4)

module _ (x : Answer) (names : List (List ℕ)) (failed unreplaced : Type 0) (out err : Change) where
  -- The status that is expected tells no interruption, or else it makes no difference.
  plain_or_ended : (r : Result ℕ Interrupt) → AnswersPlainly r x → GivesOrFails x names failed unreplaced r out err
      → IsUninterrupted x.status ⊎ (GivesOrFails (plain x) names failed unreplaced r out err × IsEnded r)
  plain_or_ended (Ok status) plainly (inl (inl g)) = inl (subst IsUninterrupted g.status (plainly g.status))
  plain_or_ended (Ok status) plainly (inl (inr (f, (k, name, lt, at, g)))) = inr (inl (inr (f, (k, name, lt, at, g))), g.status)
  plain_or_ended (Ok status) plainly (inr (f, u)) = absurd (let never = u.interrupted in cc)
  plain_or_ended (Err i) plainly (inl (inl g)) =
      inr (
        inl (inl (record {
          status = tt;
          out_all = tt;
          err_all = tt;
          out_puts = tt;
          err_puts = tt;
          out_prefix = g.out_prefix;
          err_prefix = g.err_prefix;
          cause = g.cause;
          out_kept = g.out_kept;
          err_kept = g.err_kept;
        })),
        tt,
      )
  plain_or_ended (Err i) plainly (inl (inr any)) = inr (inl (inr any), tt)
  plain_or_ended (Err i) plainly (inr (f, u)) =
      inr (inr (f, record { interrupted = u.interrupted; out_all = u.out_all; err_all = u.err_all; out_kept = u.out_kept; err_kept = u.err_kept }), tt)

never_answered : (r : Result ℕ Interrupt) → IsEnded r → status_of r ≢ 4 → status_of r ≢ 6 → status_of r ≢ 7 → ⊥
never_answered (Ok status) ended read written memory = read ended
never_answered (Err interrupts.CannotWrite) ended read written memory = written refl
never_answered (Err interrupts.NoMemory) ended read written memory = memory refl

-- The status and the last line end the call.
pub leaves_plainly : (x : Answer) (names : List (List ℕ)) (failed unreplaced : Type 0) (r : Result ℕ Interrupt) (out : Change) (old mid new : Option (List ℕ)) (p0 p1 p2 : Option ℕ) (g0 g1 g2 : ℕ)
    → AnswersPlainly r x → GivesOrFails x names failed unreplaced r out (change old mid p0 p1 g0 g1) → AppendsPrefix mid new (last_line r)
    → IfOk r (λ _. p2 ≡ p1) → Leaves x names failed (status_of r) out (change old new p0 p2 g0 g2)
leaves_plainly x names failed unreplaced r out old mid new p0 p1 p2 g0 g1 g2 plainly gives tried kept =
    elim (plain_or_ended x names failed unreplaced out (change old mid p0 p1 g0 g1) r plainly gives) [
      | inl uninterrupted ↦ leaves x names failed unreplaced r out old mid new p0 p1 p2 g0 g1 g2 uninterrupted gives tried kept
      | inr ended ↦
          let its = leaves (plain x) names failed unreplaced r out old mid new p0 p1 p2 g0 g1 g2 plain_zero ended.0 tried kept in
          record {
            answered = λ a b c. absurd (never_answered r ended.1 a b c);
            lines = its.lines;
            prefix = its.prefix;
            unread = its.unread;
            unread_out = its.unread_out;
            unread_lines = its.unread_lines;
            unwritten = its.unwritten;
            no_memory = its.no_memory;
          }
    ]

pub unread_cause : (x : Answer) (names : List (List ℕ)) (failed unreplaced : Type 0) (r : Result ℕ Interrupt) (out err : Change) → AnswersPlainly r x
    → GivesOrFails x names failed unreplaced r out err → status_of r ≡ 4 → failed
unread_cause x names failed unreplaced r out err plainly gives is =
    elim (plain_or_ended x names failed unreplaced out err r plainly gives) [
      | inl uninterrupted ↦ causes.unread_cause x names failed unreplaced r out err uninterrupted gives is
      | inr ended ↦ causes.unread_cause (plain x) names failed unreplaced r out err plain_zero ended.0 is
    ]

pub unwritten_cause : (x : Answer) (names : List (List ℕ)) (failed unreplaced : Type 0) (r : Result ℕ Interrupt) (out err : Change) (last : ℕ) → AnswersPlainly r x
    → GivesOrFails x names failed unreplaced r out err → Kept err.faults_after last → status_of r ≡ 6
    → unreplaced ⊎ (Rose out.faults_before out.faults_after ⊎ Rose err.faults_before last)
unwritten_cause x names failed unreplaced r out err last plainly gives kept is =
    elim (plain_or_ended x names failed unreplaced out err r plainly gives) [
      | inl uninterrupted ↦ causes.unwritten_cause x names failed unreplaced r out err last uninterrupted gives kept is
      | inr ended ↦ causes.unwritten_cause (plain x) names failed unreplaced r out err last plain_zero ended.0 kept is
    ]
