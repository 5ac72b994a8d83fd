-- What a stored bound tells, a gap tells.
use Rattle.std.proofs.Common.{◌≡◌, ◌≢◌, ℕ, ℤ, pos, negsuc, ◌≤ℤ◌, true, int_le, List, Option, Some, None, refl, sym, arith, inl, inr}
use Rattle.std.specs.Prelude.{int_lt, option_and_then}
use Rattle.std.proofs.lemmas.Bool.{cases_Bool, ne_eqb}
use Rattle.std.proofs.lemmas.Int.{ints}
use Rattle.domain_api.specs.Order.{greater_gap}
use Rattle.pentagon_domain.specs.declared.bound_row.BoundRow.{BoundRow}
use Rattle.pentagon_domain.specs.Gaps as by_bounds
use Rattle.pentagon_domain.specs.Rows.{rows_from, stored}
use Rattle.merged_numbers.specs.Known as side_rule
use Rattle.merged_numbers.specs.Known.{Known}
use Rattle.domain_api.specs.Order.{gap_is_at_least}

-- A number of 64 bits.
record IsLong (k : ℤ) : Type 0 where
  low : negsuc 9223372036854775807 ≤ℤ k
  high : k ≤ℤ pos 9223372036854775807

cut_reaches : (k g n : ℤ) → k ≤ℤ g → negsuc 9223372036854775807 ≤ℤ k → k ≤ℤ pos 9223372036854775807 → int_le n k ≡ true → gap_is_at_least (by_bounds.cut g) n ≡ true
unfolding by_bounds.cut
cut_reaches k g n up low high is = grind (arith, ints)

up_more : (k g m : ℤ) → k ≤ℤ g → int_lt g m ≡ true → k ≤ℤ m
up_more k g m up less = grind (arith, ints)

itself_up : (k : ℤ) → k ≤ℤ k
itself_up k = grind (arith, ints)

one_more : (k g n : ℤ) (more : Option ℤ) → k ≤ℤ g → IsLong k → int_le n k ≡ true → gap_is_at_least (option_and_then by_bounds.cut (greater_gap (Some g) more)) n ≡ true
one_more k g n None up long is = cut_reaches k g n up long.low long.high is
one_more k g n (Some m) up long is =
    elim (cases_Bool (int_lt g m)) [
      | inl less ↦ rw less (cut_reaches k m n (up_more k g m up less) long.low long.high is)
      | inr not_less ↦ rw not_less (cut_reaches k g n up long.low long.high is)
    ]

two_more : (k b n : ℤ) (more : Option ℤ) → IsLong k → int_le n k ≡ true
    → gap_is_at_least (option_and_then by_bounds.cut (greater_gap (greater_gap (Some k) more) (Some b))) n ≡ true
two_more k b n None long is = one_more k k n (Some b) (itself_up k) long is
two_more k b n (Some m) long is =
    elim (cases_Bool (int_lt k m)) [
      | inl less ↦ rw less (one_more k m n (Some b) (up_more k k m (itself_up k) less) long is)
      | inr not_less ↦ rw not_less (one_more k k n (Some b) (itself_up k) long is)
    ]

gap_reaches : (rows : List BoundRow) (s t : ℕ) (k n : ℤ) → s ≢ t → stored rows s t ≡ Some k → IsLong k → int_le n k ≡ true
    → gap_is_at_least (by_bounds.gap rows s t) n ≡ true
unfolding by_bounds.gap by_bounds.exact_gap
gap_reaches rows s t k n apart there long is =
    rw (ne_eqb s t apart, there) (one_more k k n (by_bounds.greatest_sum rows (rows_from rows s) t) (itself_up k) long is)

gap_with_reaches : (rows : List BoundRow) (between : ℤ) (s t : ℕ) (k n : ℤ) → s ≢ t → stored rows s t ≡ Some k → IsLong k → int_le n k ≡ true
    → gap_is_at_least (by_bounds.gap_with rows between s t) n ≡ true
unfolding by_bounds.gap_with by_bounds.exact_gap
gap_with_reaches rows between s t k n apart there long is =
    rw (ne_eqb s t apart, there) (two_more k between n (by_bounds.greatest_sum rows (rows_from rows s) t) long is)

either_reaches : (rows : List BoundRow) (between : Option ℤ) (s t : ℕ) (k n : ℤ) → s ≢ t → stored rows s t ≡ Some k → IsLong k → int_le n k ≡ true
    → gap_is_at_least (side_rule.gap_or rows between s t) n ≡ true
either_reaches rows None s t k n apart there long is = gap_reaches rows s t k n apart there long is
either_reaches rows (Some b) s t k n apart there long is = gap_with_reaches rows b s t k n apart there long is

stored_some : (a : Known) (s t : ℕ) (k n : ℤ) → s ≢ t → stored a.bounds s t ≡ Some k → negsuc 9223372036854775807 ≤ℤ k
    → k ≤ℤ pos 9223372036854775807 → int_le n k ≡ true → gap_is_at_least (side_rule.gap a s t) n ≡ true
unfolding side_rule.gap
stored_some a s t k n apart there low high is =
    either_reaches a.bounds (side_rule.between a s t) s t k n apart there (record { low = low; high = high }) is

-- A stored constant of 64 bits that is no less than a number tells that the gap is no less.
pub stored_reaches : (a : Known) (s t : ℕ) (told : Option ℤ) (n : ℤ) → s ≢ t → told ≡ stored a.bounds s t
    → ((k : ℤ) → told ≡ Some k → negsuc 9223372036854775807 ≤ℤ k) → ((k : ℤ) → told ≡ Some k → k ≤ℤ pos 9223372036854775807)
    → gap_is_at_least told n ≡ true → gap_is_at_least (side_rule.gap a s t) n ≡ true
stored_reaches a s t None n apart there low high is = absurd cc
stored_reaches a s t (Some k) n apart there low high is = stored_some a s t k n apart (sym there) (low k refl) (high k refl) is
