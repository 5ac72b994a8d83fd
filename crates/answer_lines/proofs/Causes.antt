-- Each status that tells of a device has its cause.
use Rattle.std.proofs.Common.{◌≡◌, ◌⊎◌, ℕ, List, Result, Ok, Err, refl, sym, ◌∙◌, inl, inr, arith}
use Rattle.cc_base.specs.Counts.{Kept, Rose}
use Rattle.cc_base.proofs.CountLemmas.{Rose-Kept}
use Rattle.answer_lines.specs.Answers.{Answer}
use Rattle.answer_lines.specs.Outcome.{GivesOrFails, GivesOrUnread, status_of}
use Rattle.answer_lines.specs.Writing.{Change}
use Rattle.answer_lines.specs.declared.interrupt.Interrupt.{Interrupt}
use Rattle.answer_lines.specs.declared.interrupt.Interrupt.TheVariants as interrupts
use Rattle.answer_lines.proofs.Leaving.{IsUninterrupted}

-- A file that was not replaced interrupts a call, so its status is none that tells an answer.
never_unread : (r : Result ℕ Interrupt) → r ≡ Err interrupts.CannotWrite → status_of r ≡ 4 → ⊥
never_unread (Ok status) is e = cc
never_unread (Err interrupts.CannotWrite) is e = omega (arith, e)
never_unread (Err interrupts.NoMemory) is e = omega (arith, e)

pub unread_cause : (x : Answer) (names : List (List ℕ)) (failed unreplaced : Type 0) (r : Result ℕ Interrupt) (out err : Change) → IsUninterrupted x.status
    → GivesOrFails x names failed unreplaced r out err → status_of r ≡ 4 → failed
unread_cause x names failed unreplaced (Ok status) out err plain (inl (inl g)) e = absurd (plain.read (sym g.status ∙ e))
unread_cause x names failed unreplaced (Err interrupts.CannotWrite) out err plain (inl (inl g)) e = absurd (omega (arith, e))
unread_cause x names failed unreplaced (Err interrupts.NoMemory) out err plain (inl (inl g)) e = absurd (omega (arith, e))
unread_cause x names failed unreplaced r out err plain (inl (inr (f, g))) e = f
unread_cause x names failed unreplaced r out err plain (inr (f, u)) e = absurd (never_unread r u.interrupted e)

sinks_cause : (x : Answer) (names : List (List ℕ)) (failed : Type 0) (r : Result ℕ Interrupt) (out err : Change) → IsUninterrupted x.status → GivesOrUnread x names failed r out err
    → status_of r ≡ 6 → Rose out.faults_before out.faults_after ⊎ Rose err.faults_before err.faults_after
sinks_cause x names failed (Ok status) out err plain (inl g) e = absurd (plain.written (sym g.status ∙ e))
sinks_cause x names failed (Ok status) out err plain (inr (f, (k, name, lt, at, g))) e = absurd (omega (arith, g.status, e))
sinks_cause x names failed (Err interrupts.CannotWrite) out err plain (inl g) e = g.cause refl
sinks_cause x names failed (Err interrupts.CannotWrite) out err plain (inr (f, (k, name, lt, at, g))) e = g.cause refl
sinks_cause x names failed (Err interrupts.NoMemory) out err plain g e = absurd (omega (arith, e))

errors_kept : (x : Answer) (names : List (List ℕ)) (failed : Type 0) (r : Result ℕ Interrupt) (out err : Change) → GivesOrUnread x names failed r out err → Kept err.faults_before err.faults_after
errors_kept x names failed r out err (inl g) = g.err_kept
errors_kept x names failed r out err (inr (f, (k, name, lt, at, g))) = g.err_kept

-- What the sink of errors refuses at last changes no count for the worse.
pub unwritten_cause : (x : Answer) (names : List (List ℕ)) (failed unreplaced : Type 0) (r : Result ℕ Interrupt) (out err : Change) (last : ℕ) → IsUninterrupted x.status
    → GivesOrFails x names failed unreplaced r out err → Kept err.faults_after last → status_of r ≡ 6
    → unreplaced ⊎ (Rose out.faults_before out.faults_after ⊎ Rose err.faults_before last)
unwritten_cause x names failed unreplaced r out err last plain (inr (f, u)) kept e = inl f
unwritten_cause x names failed unreplaced r out err last plain (inl gives) kept e =
    elim (sinks_cause x names failed r out err plain gives e) [
      | inl rose ↦ inr (inl rose)
      | inr rose ↦ inr (inr (Rose-Kept err.faults_before err.faults_after last (errors_kept x names failed r out err gives) rose kept))
    ]
