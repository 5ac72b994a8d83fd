-- One segment over a whole array has the form, and holds where the value has each item.
use Rattle.std.proofs.Common.{◌≡◌, ℕ, ◌<◌, ℤ, pos, Bool, false, List, length, arith, refl}
use Rattle.std.proofs.lemmas.Int.{ints}
use Rattle.domain_api.specs.declared.expr.Expr.{Expr}
use Rattle.array_segments.specs.Meaning.{Covers, Holds, worth}
use Rattle.array_segments.specs.SegmentLists.{HasForm, whole}

pub whole_form : {C : Type 0} (end : Expr) (value : C) (may_be_empty : Bool) → HasForm (whole end value may_be_empty)
whole_form end value may_be_empty = record {
  some = omega arith;
  most = omega arith;
  bounded = omega arith;
  marked = omega arith;
  few = (record { some = omega arith; most = omega arith }, (record { some = omega arith; most = omega arith }, tt));
  from_zero = (0, omega arith, refl);
}

pub whole_law : {C : Type 0} (contains : C → ℤ → Type 0) (number : ℕ → ℤ) (items : List ℤ) (end : Expr) (value : C) (may_be_empty : Bool) → number 0 ≡ pos 0 → worth number end ≡ pos (length items) →
    (may_be_empty ≡ false → 0 < length items) → Covers contains items value (pos 0) (pos (length items)) → Holds contains number items (whole end value may_be_empty)
whole_law contains number items end value may_be_empty zero ends some has = record {
  from_zero = (omega (arith, ints), tt);
  spans = (
    pos (length items),
    record { ends = (ends, tt); order = omega (arith, ints); rises = λ unmarked. let s = some unmarked in omega (arith, ints); covers = has },
    refl,
  );
}
