-- Answers after which a file is replaced, and answers after a line of errors.
use Rattle.std.proofs.Common.{◌≡◌, ℕ, List, [], ◌++◌, Option, Result, Ok, Err, refl, ap, ◌∙◌, inl, inr, ◌⊎◌}
use Rattle.cc_base.specs.Counts.{Rose}
use Rattle.cc_base.specs.Sink.{appended, counted}
use Rattle.cc_base.proofs.CountLemmas.{Kept-Rose, Kept-refl, Kept-trans}
use Rattle.cc_base.proofs.SinkLemmas.{AppendsPrefix-after, AppendsPrefix-all, AppendsPrefix-more, AppendsPrefix-none, appended-appended}
use Rattle.answer_lines.specs.Answers.{Answer}
use Rattle.answer_lines.specs.LineCounts.{line_count}
use Rattle.answer_lines.specs.Outcome.{Gives, GivesOrFails, IsUnreplaced, after_line}
use Rattle.answer_lines.specs.Writing.{Change, Writes}
use Rattle.answer_lines.specs.declared.interrupt.Interrupt.{Interrupt}
use Rattle.answer_lines.specs.declared.interrupt.Interrupt.TheVariants as interrupts
use Rattle.answer_lines.proofs.LineLemmas.{counted-lines}
use Rattle.answer_lines.proofs.Writings.{change, retold}

-- ---- a file is replaced

-- All was written, and then memory ran out.
pub gives_whole_no_memory : (x : Answer) (status : ℕ) (out err : Change) → Gives x (Ok status) out err → Gives x (Err interrupts.NoMemory) out err
gives_whole_no_memory x status out err g = record {
  status = tt;
  out_all = tt;
  err_all = tt;
  out_puts = tt;
  err_puts = tt;
  out_prefix = AppendsPrefix-all out.old out.new x.out g.out_all;
  err_prefix = AppendsPrefix-all err.old err.new x.err g.err_all;
  cause = λ is. absurd cc;
  out_kept = g.out_kept;
  err_kept = g.err_kept;
}

-- All was written, and then a file was not replaced.
pub unreplaced_after : (x : Answer) (status : ℕ) (out err : Change) → Gives x (Ok status) out err → IsUnreplaced x (Err interrupts.CannotWrite) out err
unreplaced_after x status out err g =
    record { interrupted = refl; out_all = g.out_all; err_all = g.err_all; out_kept = g.out_kept; err_kept = g.err_kept }

-- All was written, and then the call was interrupted as a file was to be replaced.
pub gives_until_replaced : (x : Answer) (names : List (List ℕ)) (unread unreplaced : Type 0) (status : ℕ) (i : Interrupt) (out err : Change) → Gives x (Ok status) out err
    → (i ≡ interrupts.CannotWrite → unreplaced) → GivesOrFails x names unread unreplaced (Err i) out err
gives_until_replaced x names unread unreplaced status interrupts.CannotWrite out err g failed = inr (failed refl, unreplaced_after x status out err g)
gives_until_replaced x names unread unreplaced status interrupts.NoMemory out err g failed = inl (inl (gives_whole_no_memory x status out err g))

-- ---- a line of errors comes first

-- The line was interrupted.
pub gives_line_stop : {X : Type 0} (line : List ℕ) (x : Answer) (i : Interrupt) (o : Option (List ℕ)) (p : Option ℕ) (f : ℕ) (err : Change)
    → Writes {X = X} (Err i) err line → Gives (after_line line x) (Err i) (change o o p p f f) err
gives_line_stop {X} line x i o p f err w = record {
  status = tt;
  out_all = tt;
  err_all = tt;
  out_puts = tt;
  err_puts = tt;
  out_prefix = AppendsPrefix-none o o x.out refl;
  err_prefix = AppendsPrefix-more err.old err.new line x.err w.prefix;
  cause = λ is. inr (w.cause (retold {X = ℕ} {Y = X} i interrupts.CannotWrite is));
  out_kept = Kept-refl f;
  err_kept = w.kept;
}

-- The line was put, and then came an answer.
module _ {X : Type 0} (one : X) (line : List ℕ) (x : Answer) (out : Change) (e0 e1 e2 : Option (List ℕ)) (p0 p1 p2 : Option ℕ) (f0 f1 f2 : ℕ)
    (w : Writes (Ok one) (change e0 e1 p0 p1 f0 f1) line) where
  later_cause : Rose out.faults_before out.faults_after ⊎ Rose f1 f2 → Rose out.faults_before out.faults_after ⊎ Rose f0 f2
  later_cause (inl rose) = inl rose
  later_cause (inr rose) = inr (Kept-Rose f0 f1 f2 w.kept rose)

  pub gives_after_line : (r : Result ℕ Interrupt) → Gives x r out (change e1 e2 p1 p2 f1 f2) → Gives (after_line line x) r out (change e0 e2 p0 p2 f0 f2)
  gives_after_line (Ok status) g = record {
    status = g.status;
    out_all = g.out_all;
    err_all = g.err_all ∙ ap (λ (e : Option (List ℕ)). appended e x.err) w.whole ∙ appended-appended e0 line x.err;
    out_puts = g.out_puts;
    err_puts = g.err_puts ∙ ap (λ (p : Option ℕ). counted (line_count x.err) p) w.puts ∙ counted-lines line x.err p0;
    out_prefix = tt;
    err_prefix = tt;
    cause = λ never. absurd cc;
    out_kept = g.out_kept;
    err_kept = Kept-trans f0 f1 f2 w.kept g.err_kept;
  }
  gives_after_line (Err i) g = record {
    status = tt;
    out_all = tt;
    err_all = tt;
    out_puts = tt;
    err_puts = tt;
    out_prefix = g.out_prefix;
    err_prefix = AppendsPrefix-after e0 e1 e2 line x.err w.whole g.err_prefix;
    cause = λ is. later_cause (g.cause is);
    out_kept = g.out_kept;
    err_kept = Kept-trans f0 f1 f2 w.kept g.err_kept;
  }
