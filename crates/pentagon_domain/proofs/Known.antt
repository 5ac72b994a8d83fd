-- Bounds that are known already.
use Rattle.std.proofs.Common.{◌≡◌, ℕ, ℤ, ◌≤ℤ◌, false, List, [], ◌∷◌, None, Some, refl, sym, ap, ◌∙◌, arith, inl, inr}
use Rattle.std.specs.Int.{int_max}
use Rattle.std.proofs.lemmas.Bool.{cases_Bool}
use Rattle.std.proofs.lemmas.Int.{ints}
use Rattle.pentagon_domain.specs.declared.bound_row.BoundRow.{BoundRow}
use Rattle.pentagon_domain.specs.Rows.{is_pair, is_before, is_of, AreBounds, put, stored, with_bound}
use Rattle.pentagon_domain.proofs.Searches.{before_other, hit, nothing_later, skipped}

pub with_bound_idle : (rows : List BoundRow) (s t : ℕ) (k : ℤ) → is_pair s t ≡ false → with_bound rows s t k ≡ rows
with_bound_idle rows s t k none = rw none refl

not_less : (k l m : ℤ) → Some l ≡ Some m → k ≤ℤ m → int_max l k ≡ l
not_less k l m is less = let same : l ≡ m = some_same is in grind (arith, ints)
  where
    some_same : Some l ≡ Some m → l ≡ m
    some_same e = cc

-- Where a bound is stored that tells as much, a bound changes no row.
put_idle : (rows : List BoundRow) (s t : ℕ) (k l : ℤ) → AreBounds rows → stored rows s t ≡ Some l → k ≤ℤ l → put rows s t k ≡ rows
put_idle [] s t k l form is less = absurd cc
put_idle (row ∷ rows) s t k l form is less =
    elim (cases_Bool (is_before row s t)) [
      | inl before ↦
          let later : stored rows s t ≡ Some l = sym (skipped row rows s t (before_other row s t before)) ∙ is in
          rw before (ap (λ ys. row ∷ ys) (put_idle rows s t k l form.2 later less))
      | inr behind ↦
          elim (cases_Bool (is_of row s t)) [
            | inl here ↦ rw (behind, here) (ap (λ n. record row { k = n } ∷ rows) (not_less k row.k l (sym (hit row rows s t here) ∙ is) less))
            | inr other ↦ absurd (nothing (sym (skipped row rows s t other ∙ nothing_later row rows s t behind other form.1) ∙ is))
          ]
    ]
  where
    nothing : None ≡ Some l → ⊥
    nothing e = cc

pub with_bound_known : (rows : List BoundRow) (s t : ℕ) (k l : ℤ) → AreBounds rows → stored rows s t ≡ Some l → k ≤ℤ l → with_bound rows s t k ≡ rows
with_bound_known rows s t k l form is less =
    elim (cases_Bool (is_pair s t)) [ inl pair ↦ rw pair (put_idle rows s t k l form is less) | inr none ↦ rw none refl ]

-- What a bound that is known rests on.
pub ruleset known_already = (with_bound_idle, with_bound_known)
