use Rattle.std.proofs.Common.{◌≢◌, ◌<◌, ◌∙◌, length, get_or, None, Some, pos, refl, sym, arith, inl, inr}
use Rattle.std.proofs.lemmas.Bool.{cases_eq}
use Rattle.std.proofs.lemmas.List.{length-set, get_or-set_same, get_or-set_other}
use Rattle.pentagon_domain.proofs.Reaches.{direct_row}
use Rattle.pentagon_domain.proofs.TightGaps.{direct_apart, direct_same}
use Rattle.pentagon_domain.proofs.bounds.Bounds.stored_from.Goals as goal

pub returns-else-s-gaps : goal.returns-else-s-gaps
returns-else-s-gaps c = λ t inside.
    let start : t < length c.clear.new.gaps = omega arith in
    let apart : c.args.s ≢ t = λ e. omega (arith, e, inside, c.if-s-gaps.false) in
    direct_row c.args.self.now c.args.s t (get_or c.clear.new.gaps t None) (get_or c.raise_all.new.gaps t None) c.rows_from.ensures.form
    (c.clear.ensures t start) (rw c.rows_from.ensures.value at (c.raise_all.ensures t inside))
    ∙ sym (direct_apart c.args.self.now c.args.s t apart)

pub returns-then-s-gaps : goal.returns-then-s-gaps
returns-then-s-gaps c = λ t inside.
    let first : t < length c.raise_all.new.gaps = omega (arith, inside, length-set c.raise_all.new.gaps c.args.s (Some (pos 0))) in
    let start : t < length c.clear.new.gaps = omega arith in
    elim (cases_eq c.args.s t) [
      | inl same ↦
          rw (← same)
          (get_or-set_same c.raise_all.new.gaps c.args.s (Some (pos 0)) None c.if-s-gaps.true ∙ sym (direct_same c.args.self.now c.args.s c.args.s refl))
      | inr apart ↦
          get_or-set_other c.raise_all.new.gaps c.args.s t (Some (pos 0)) None (λ e. apart (sym e))
          ∙ direct_row c.args.self.now c.args.s t (get_or c.clear.new.gaps t None) (get_or c.raise_all.new.gaps t None) c.rows_from.ensures.form
          (c.clear.ensures t start) (rw c.rows_from.ensures.value at (c.raise_all.ensures t first))
          ∙ sym (direct_apart c.args.self.now c.args.s t apart)
    ]
