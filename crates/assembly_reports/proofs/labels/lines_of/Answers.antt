use Rattle.std.proofs.Common.{◌≡◌, ℕ, suc, ◌+◌, ◌<◌, List, ◌∷◌, ◌++◌, drop, get_or, length, refl, sym, ap, ◌∙◌, append_assoc, arith}
use Rattle.std.proofs.Math.Seq.{drop-cons}
use Rattle.cil_model.specs.declared.clause.Clause.{Clause}
use Rattle.assembly_reports.specs.Labels.{inferred_line, inferred_lines}
use Rattle.assembly_reports.proofs.labels.lines_of.Goals as goal

-- The line of one clause more.
line_more : (lines whole : List ℕ) (first i : ℕ) (clauses : List Clause) (clause : Clause) → i < length clauses
    → clause ≡ get_or clauses i clause → lines ++ inferred_lines (first + i) (drop i clauses) ≡ whole
    → (lines ++ inferred_line (first + i) clause) ++ inferred_lines (first + (i + 1)) (drop (i + 1) clauses) ≡ whole
line_more lines whole first i clauses clause below is so_far =
    let next : suc i ≡ i + 1 = omega arith in
    let number : first + (i + 1) ≡ first + i + 1 = omega arith in
    let rest : drop i clauses ≡ clause ∷ drop (i + 1) clauses =
    drop-cons clauses i clause below ∙ ap (λ (c : Clause). c ∷ drop (suc i) clauses) (sym is)
    ∙ ap (λ (n : ℕ). clause ∷ drop n clauses) next in
    append_assoc lines (inferred_line (first + i) clause) (inferred_lines (first + (i + 1)) (drop (i + 1) clauses))
    ∙ ap (λ (n : ℕ). lines ++ (inferred_line (first + i) clause ++ inferred_lines n (drop (i + 1) clauses))) number
    ∙ ap (λ (l : List Clause). lines ++ inferred_lines (first + i) l) (sym rest) ∙ so_far

pub loop-i-preserved : goal.loop-i-preserved
loop-i-preserved c = record {
  end = refl;
  lines = rw c.in_ok-append_line.ensures
      (line_more c.loop-i.lines.items _ c.args.first c.loop-i.i c.args.clauses.now c.index-clauses-i.result c.loop-i-test.true
      c.index-clauses-i.is c.loop-i.invariant.lines);
}
