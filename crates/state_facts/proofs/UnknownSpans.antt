-- The int32 of a span whose ends and hole are brought to 64 bits.
use Rattle.std.proofs.Common.{◌≡◌, ℤ, pos, negsuc, ◌≤ℤ◌, ◌<ℤ◌, true, ◌||◌, int_le, int_lt, Option, Some, None, [], inl, inr, refl, sym, ap, ◌∙◌, arith}
use Rattle.std.specs.Int.{int_min, int_max}
use Rattle.std.specs.Option.{option_map}
use Rattle.std.proofs.lemmas.Bool.{cases_Bool}
use Rattle.std.proofs.lemmas.Int.{ints, clamps}
use Rattle.cil_model.specs.Arithmetic.{LEAST, GREATEST}
use Rattle.interval_domain.specs.Arithmetic.{near}
use Rattle.interval_domain.specs.Interval.{without}
use Rattle.number_spans.proofs.NoNumbers.{none_below}
use Rattle.number_spans.specs.Stored.{range_without}
use Rattle.number_facts.specs.Facts.{Facts}
use Rattle.number_facts.specs.Fresh.{fresh, is_long, noted}
use Rattle.number_spans.specs.declared.span.Span.{Span}
use Rattle.state_facts.specs.UnknownValues.{long_hole}

near_least : (lo : ℤ) → lo ≤ℤ GREATEST → int_max (near lo) LEAST ≡ int_max lo LEAST
unfolding near
near_least (pos n) below = grind (arith, ints, clamps)
near_least (negsuc n) below = grind (arith, ints, clamps)

near_greatest : (hi : ℤ) → LEAST ≤ℤ hi → int_min (near hi) GREATEST ≡ int_min hi GREATEST
unfolding near
near_greatest (pos n) above = grind (arith, ints, clamps)
near_greatest (negsuc n) above = grind (arith, ints, clamps)

near_above : (lo : ℤ) → GREATEST <ℤ lo → GREATEST <ℤ near lo
unfolding near
near_above (pos n) above = grind (arith, ints)
near_above (negsuc n) above = grind (arith, ints)

near_below : (hi : ℤ) → hi <ℤ LEAST → near hi <ℤ LEAST
unfolding near
near_below (pos n) below = grind (arith, ints)
near_below (negsuc n) below = grind (arith, ints)

-- a hole beyond 64 bits lies outside of what is cut to int32
hole_range : (lo hi : ℤ) (hole : Option ℤ) → LEAST ≤ℤ lo → hi ≤ℤ GREATEST → range_without lo hi (long_hole hole) ≡ range_without lo hi hole
unfolding range_without without
hole_range lo hi None least greatest = refl
hole_range lo hi (Some hole) least greatest = elim (cases_Bool (is_long hole)) [
  | inl is ↦ rw is refl
  | inr far ↦ let past : (int_lt hole lo || int_lt hi hole) ≡ true = grind (arith, ints, far, least, greatest) in rw (far, past) refl
]

empty_range : (lo hi : ℤ) (hole : Option ℤ) → int_min hi GREATEST <ℤ int_max lo LEAST → int_min (near hi) GREATEST <ℤ int_max (near lo) LEAST
    → range_without (int_max (near lo) LEAST) (int_min (near hi) GREATEST) (long_hole hole) ≡ range_without (int_max lo LEAST) (int_min hi GREATEST) hole
empty_range lo hi hole none near_none =
    none_below (int_max (near lo) LEAST) (int_min (near hi) GREATEST) (long_hole hole) near_none
    ∙ sym (none_below (int_max lo LEAST) (int_min hi GREATEST) hole none)

pub near_range : (lo hi : ℤ) (hole : Option ℤ)
    → range_without (int_max (near lo) LEAST) (int_min (near hi) GREATEST) (long_hole hole) ≡ range_without (int_max lo LEAST) (int_min hi GREATEST) hole
near_range lo hi hole = elim (cases_Bool (int_le lo GREATEST)) [
  | inr past ↦
      let above : GREATEST <ℤ lo = grind (arith, ints, past) in
      let beyond = near_above lo above in
      empty_range lo hi hole (omega (arith, ints, clamps, above)) (omega (arith, ints, clamps, beyond))
  | inl within ↦ elim (cases_Bool (int_le LEAST hi)) [
    | inr short ↦
        let below : hi <ℤ LEAST = grind (arith, ints, short) in
        let beyond = near_below hi below in
        empty_range lo hi hole (omega (arith, ints, clamps, below)) (omega (arith, ints, clamps, beyond))
    | inl some ↦
        rw (near_least lo (grind (arith, ints, within)), near_greatest hi (grind (arith, ints, some)))
        (hole_range (int_max lo LEAST) (int_min hi GREATEST) hole (omega (arith, ints, clamps)) (omega (arith, ints, clamps)))
  ]
]

-- So what is made of a span is made of its ends and its hole as they are brought to 64 bits.
pub fresh_of_near : (facts : Facts) (r : Span) → fresh facts (near r.lo) (near r.hi) (long_hole r.hole) [] ≡ fresh facts r.lo r.hi r.hole []
unfolding fresh
fresh_of_near facts r = ap (λ o. option_map (λ x. noted facts x []) o) (near_range r.lo r.hi r.hole)
