-- What a call of the program leaves, from what its answer gave.
use Rattle.std.proofs.Common.{◌≡◌, ◌≢◌, ℕ, List, [], ◌∷◌, Any, Option, Result, Ok, Err, refl, sym, ap, ◌∙◌, arith, inl, inr, ◌⊎◌}
use Rattle.std.specs.Prelude.{IfOk}
use Rattle.cc_base.specs.Sink.{appended, counted, AppendsPrefix}
use Rattle.cc_base.proofs.SinkLemmas.{appended-appended, appended-nil, IsPrefix-nil, AppendsPrefix-all, AppendsPrefix-prefix}
use Rattle.answer_lines.specs.Answers.{Answer, unread_line, UNWRITTEN_LINE, NO_MEMORY_LINE}
use Rattle.answer_lines.specs.LineCounts.{line_count}
use Rattle.answer_lines.specs.Outcome.{GivesOrFails, GivesOrUnread, IsUnreplaced, Leaves, Interrupted, last_line, status_of}
use Rattle.answer_lines.specs.Writing.{Change}
use Rattle.answer_lines.proofs.LineLemmas.{unread_is_line}
use Rattle.answer_lines.proofs.Writings.{change}
use Rattle.answer_lines.specs.declared.interrupt.Interrupt.{Interrupt}
use Rattle.answer_lines.specs.declared.interrupt.Interrupt.TheVariants as interrupts

-- The status tells no interruption.
pub record IsUninterrupted (status : ℕ) : Type 0 where
  pub read : status ≢ 4
  pub written : status ≢ 6
  pub memory : status ≢ 7

-- ---- what was written

-- Nothing, where the answer writes nothing, is a prefix of what is expected.
unwritten_prefix : (out : Change) (text : List ℕ) → AppendsPrefix out.old out.new [] → AppendsPrefix out.old out.new text
unwritten_prefix out text h = AppendsPrefix-prefix out.old out.new [] text h (IsPrefix-nil text)

-- What was written is a prefix of what is expected, whatever came of it.
pub prefix_given : (x : Answer) (names : List (List ℕ)) (failed unreplaced : Type 0) (r : Result ℕ Interrupt) (out err : Change)
    → GivesOrFails x names failed unreplaced r out err → AppendsPrefix out.old out.new x.out
prefix_given x names failed unreplaced (Ok status) out err (inl (inl g)) = AppendsPrefix-all out.old out.new x.out g.out_all
prefix_given x names failed unreplaced (Ok status) out err (inl (inr (f, (k, name, lt, at, g)))) =
    unwritten_prefix out x.out (AppendsPrefix-all out.old out.new [] g.out_all)
prefix_given x names failed unreplaced (Err i) out err (inl (inl g)) = g.out_prefix
prefix_given x names failed unreplaced (Err i) out err (inl (inr (f, (k, name, lt, at, g)))) = unwritten_prefix out x.out g.out_prefix
prefix_given x names failed unreplaced r out err (inr (f, u)) = AppendsPrefix-all out.old out.new x.out u.out_all

-- ---- an answer that came

-- A prefix of nothing changes nothing.
same_behind : (mid new : Option (List ℕ)) → AppendsPrefix mid new [] → new ≡ mid
same_behind mid new ([], (rest, whole), is) = is ∙ appended-nil mid
same_behind mid new (c ∷ cs, (rest, whole), is) = absurd cc

leaves_answer : (x : Answer) (names : List (List ℕ)) (failed : Type 0) (status : ℕ) (out : Change) (old mid new : Option (List ℕ)) (p0 p1 p2 : Option ℕ) (g0 g1 g2 : ℕ)
    → new ≡ mid → p2 ≡ p1 → IsUninterrupted x.status → GivesOrUnread x names failed (Ok status) out (change old mid p0 p1 g0 g1) → Leaves x names failed status out (change old new p0 p2 g0 g2)
unfolding line_count
leaves_answer x names failed status out old mid new p0 p1 p2 g0 g1 g2 same kept plain (inl g) = record {
  answered = λ a b c. (g.status, g.out_all, same ∙ g.err_all);
  lines = λ a b c. (g.out_puts, kept ∙ g.err_puts);
  prefix = AppendsPrefix-all out.old out.new x.out g.out_all;
  unread = λ e. absurd (plain.read (sym g.status ∙ e));
  unread_out = λ e. absurd (plain.read (sym g.status ∙ e));
  unread_lines = λ e. absurd (plain.read (sym g.status ∙ e));
  unwritten = λ e. absurd (plain.written (sym g.status ∙ e));
  no_memory = λ e. absurd (plain.memory (sym g.status ∙ e));
}
leaves_answer x names failed status out old mid new p0 p1 p2 g0 g1 g2 same kept plain (inr (f, (k, name, lt, at, g))) = record {
  answered = λ a b c. absurd (a g.status);
  lines = λ a b c. absurd (a g.status);
  prefix = unwritten_prefix out x.out (AppendsPrefix-all out.old out.new [] g.out_all);
  unread = λ e. (f, (k, name, lt, at, same ∙ g.err_all));
  unread_out = λ e. g.out_all;
  unread_lines = λ e. (g.out_puts, kept ∙ g.err_puts ∙ ap (λ (n : ℕ). counted n p0) (unread_is_line name));
  unwritten = λ e. absurd (omega (arith, g.status));
  no_memory = λ e. absurd (omega (arith, g.status));
}

-- ---- an interruption

-- A prefix of a text, and after it a prefix of a line.
two_prefixes : (old mid new : Option (List ℕ)) (text line : List ℕ) (p0 p2 : Option ℕ) (before after : ℕ) → AppendsPrefix old mid text → AppendsPrefix mid new line → Interrupted line text (change old new p0 p2 before after)
two_prefixes old mid new text line p0 p2 before after (first, infirst, m) (second, insecond, n) =
    (first, second, infirst, insecond, n ∙ ap (λ (o : Option (List ℕ)). appended o second) m ∙ appended-appended old first second)

-- The ways in which a call that was interrupted can have begun.
begun : (x : Answer) (names : List (List ℕ)) (failed unreplaced : Type 0) (i : Interrupt) (out : Change) (old mid new : Option (List ℕ)) (p0 p1 p2 : Option ℕ) (g0 g1 g2 : ℕ) (line : List ℕ)
    → GivesOrFails x names failed unreplaced (Err i) out (change old mid p0 p1 g0 g1) → AppendsPrefix mid new line
    → Interrupted line x.err (change old new p0 p2 g0 g2) ⊎ (failed × Any (λ name. Interrupted line (unread_line name) (change old new p0 p2 g0 g2)) names)
begun x names failed unreplaced i out old mid new p0 p1 p2 g0 g1 g2 line (inl (inl g)) tried = inl (two_prefixes old mid new x.err line p0 p2 g0 g2 g.err_prefix tried)
begun x names failed unreplaced i out old mid new p0 p1 p2 g0 g1 g2 line (inl (inr (f, (k, name, lt, at, g)))) tried =
    inr (f, (k, name, lt, at, two_prefixes old mid new (unread_line name) line p0 p2 g0 g2 g.err_prefix tried))
begun x names failed unreplaced i out old mid new p0 p1 p2 g0 g1 g2 line (inr (f, u)) tried =
    inl (two_prefixes old mid new x.err line p0 p2 g0 g2 (AppendsPrefix-all old mid x.err u.err_all) tried)

-- ---- the end of a call

-- An answer is no interruption.
never_interrupted : (r : Result ℕ Interrupt) (status : ℕ) → r ≡ Ok status → r ≡ Err interrupts.CannotWrite → ⊥
never_interrupted r status answered is = cc

-- The status and the last line end the call.
pub leaves : (x : Answer) (names : List (List ℕ)) (failed unreplaced : Type 0) (r : Result ℕ Interrupt) (out : Change) (old mid new : Option (List ℕ)) (p0 p1 p2 : Option ℕ) (g0 g1 g2 : ℕ)
    → IsUninterrupted x.status → GivesOrFails x names failed unreplaced r out (change old mid p0 p1 g0 g1) → AppendsPrefix mid new (last_line r)
    → IfOk r (λ _. p2 ≡ p1) → Leaves x names failed (status_of r) out (change old new p0 p2 g0 g2)
leaves x names failed unreplaced (Ok status) out old mid new p0 p1 p2 g0 g1 g2 plain (inl gives) tried kept =
    leaves_answer x names failed status out old mid new p0 p1 p2 g0 g1 g2 (same_behind mid new tried) kept plain gives
leaves x names failed unreplaced (Ok status) out old mid new p0 p1 p2 g0 g1 g2 plain (inr (f, u)) tried kept = absurd (never_interrupted (Ok status) status refl u.interrupted)
leaves x names failed unreplaced (Err interrupts.CannotWrite) out old mid new p0 p1 p2 g0 g1 g2 plain gives tried kept = record {
  answered = λ a b c. absurd (b refl);
  lines = λ a b c. absurd (b refl);
  prefix = prefix_given x names failed unreplaced (Err interrupts.CannotWrite) out (change old mid p0 p1 g0 g1) gives;
  unread = λ e. absurd (omega (arith, e));
  unread_out = λ e. absurd (omega (arith, e));
  unread_lines = λ e. absurd (omega (arith, e));
  unwritten = λ e. begun x names failed unreplaced interrupts.CannotWrite out old mid new p0 p1 p2 g0 g1 g2 UNWRITTEN_LINE gives tried;
  no_memory = λ e. absurd (omega (arith, e));
}
leaves x names failed unreplaced (Err interrupts.NoMemory) out old mid new p0 p1 p2 g0 g1 g2 plain gives tried kept = record {
  answered = λ a b c. absurd (c refl);
  lines = λ a b c. absurd (c refl);
  prefix = prefix_given x names failed unreplaced (Err interrupts.NoMemory) out (change old mid p0 p1 g0 g1) gives;
  unread = λ e. absurd (omega (arith, e));
  unread_out = λ e. absurd (omega (arith, e));
  unread_lines = λ e. absurd (omega (arith, e));
  unwritten = λ e. absurd (omega (arith, e));
  no_memory = λ e. begun x names failed unreplaced interrupts.NoMemory out old mid new p0 p1 p2 g0 g1 g2 NO_MEMORY_LINE gives tried;
}
