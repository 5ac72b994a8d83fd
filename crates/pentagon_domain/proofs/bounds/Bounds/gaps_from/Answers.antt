use Rattle.std.proofs.Common.{◌≢◌, ◌<◌, ◌∙◌, length, get_or, None, Some, pos, refl, sym, arith, inl, inr}
use Rattle.std.proofs.lemmas.Bool.{cases_eq}
use Rattle.std.proofs.lemmas.List.{length-set, get_or-set_same, get_or-set_other}
use Rattle.pentagon_domain.proofs.Reaches.{gap_row, gap_same}
use Rattle.pentagon_domain.proofs.bounds.Bounds.gaps_from.Goals as goal

pub returns-else-s-gaps : goal.returns-else-s-gaps
returns-else-s-gaps c = λ t inside.
    let first : t < length c.raise_all.new.gaps = omega arith in
    let start : t < length c.clear.new.gaps = omega arith in
    let apart : c.args.s ≢ t = λ e. omega (arith, e, inside, c.if-s-gaps.false) in
    gap_row c.args.self.now c.args.s t (get_or c.clear.new.gaps t None) (get_or c.raise_all.new.gaps t None) (get_or c.raise_behind.new.gaps t None)
    c.rows_from-firsts.ensures.form apart (c.clear.ensures t start) (rw c.rows_from-firsts.ensures.value at (c.raise_all.ensures t first))
    (rw c.rows_from-firsts.ensures.value at (c.raise_behind.ensures t inside (λ e. apart (sym e))))

pub returns-then-s-gaps : goal.returns-then-s-gaps
returns-then-s-gaps c = λ t inside.
    let last : t < length c.raise_behind.new.gaps = omega (arith, inside, length-set c.raise_behind.new.gaps c.args.s (Some (pos 0))) in
    let first : t < length c.raise_all.new.gaps = omega arith in
    let start : t < length c.clear.new.gaps = omega arith in
    elim (cases_eq c.args.s t) [
      | inl same ↦
          rw (← same)
          (get_or-set_same c.raise_behind.new.gaps c.args.s (Some (pos 0)) None c.if-s-gaps.true ∙ sym (gap_same c.args.self.now c.args.s c.args.s refl))
      | inr apart ↦
          get_or-set_other c.raise_behind.new.gaps c.args.s t (Some (pos 0)) None (λ e. apart (sym e))
          ∙ gap_row c.args.self.now c.args.s t (get_or c.clear.new.gaps t None) (get_or c.raise_all.new.gaps t None) (get_or c.raise_behind.new.gaps t None)
          c.rows_from-firsts.ensures.form apart (c.clear.ensures t start) (rw c.rows_from-firsts.ensures.value at (c.raise_all.ensures t first))
          (rw c.rows_from-firsts.ensures.value at (c.raise_behind.ensures t last (λ e. apart (sym e))))
    ]
