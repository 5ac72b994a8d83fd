use Rattle.std.proofs.Common.{ℕ, ◌+◌, ◌∙◌, sym, subst}
use Rattle.std.proofs.lemmas.Bool.{eq-eqb, ne_eqb}
use Rattle.proof_files.proofs.CutScan.{IsScanned, scan_ends, scan_line, scan_on}
use Rattle.proof_files.proofs.cuts.find_end.Goals as goal
use Rattle.proof_files.proofs.cuts.find_end.Goals.{then-text-place-eq10+else-is_end, else-text-place-eq10}

pub returns-then-is_end : goal.returns-then-is_end
returns-then-is_end c =
    scan_ends c.args.text.now c.loop-place.start c.loop-place.place c.loop-place.invariant c.loop-place-test.true
    (eq-eqb _ _ c.if-text-place-eq10.true)
    (sym c.is_end.ensures ∙ c.if-is_end.true)

pub loop-place-preserved : goal.loop-place-preserved
loop-place-preserved c =
    elim c.if-text-place-eq10.branch [
      | then-text-place-eq10+else-is_end w ↦
          subst (λ (s : ℕ). IsScanned c.args.text.now s (c.loop-place.place + 1)) (sym w.start-is)
          (scan_line c.args.text.now c.loop-place.start c.loop-place.place c.loop-place.invariant c.loop-place-test.true
          (eq-eqb _ _ w.if-text-place-eq10.true) (sym w.is_end.ensures ∙ w.if-is_end.false))
      | else-text-place-eq10 w ↦
          subst (λ (s : ℕ). IsScanned c.args.text.now s (c.loop-place.place + 1)) (sym w.start-is)
          (scan_on c.args.text.now c.loop-place.start c.loop-place.place c.loop-place.invariant c.loop-place-test.true
          (ne_eqb _ _ w.if-text-place-eq10.false))
    ]
