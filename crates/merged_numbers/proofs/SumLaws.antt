-- Where bounds behind each other add nothing to what is stored, that is the row of a symbol.
use Rattle.std.proofs.Common.{◌≡◌, ◌≢◌, ℕ, ℤ, ◌+ℤ◌, ◌==◌, true, false, List, [], ◌∷◌, get_or, Option, Some, None, option_map, refl, sym, ap, ◌∙◌, inl, inr, arith}
use Rattle.std.specs.Prelude.{EachIndex, option_and_then}
use Rattle.std.specs.List.{list_all}
use Rattle.std.proofs.lemmas.Bool.{and_parts, cases_Bool, cases_eq, eqb-true, ne_eqb}
use Rattle.std.proofs.lemmas.Int.{ints}
use Rattle.domain_api.specs.Order.{gap_is_at_least, greater_gap}
use Rattle.pentagon_domain.specs.declared.bound_row.BoundRow.{BoundRow}
use Rattle.pentagon_domain.specs.Gaps as by_bounds
use Rattle.pentagon_domain.specs.Gaps.{cut, direct_gap, greatest_sum}
use Rattle.pentagon_domain.specs.Rows.{rows_from, stored}
use Rattle.pentagon_domain.proofs.Cuts.{greater_gap-none, greater_gap_assoc}
use Rattle.pentagon_domain.proofs.Reaches.{gap_same}
use Rattle.pentagon_domain.proofs.TightGaps.{direct_apart, direct_same}
use Rattle.merged_numbers.specs.Known.{Known}
use Rattle.merged_numbers.specs.Rows.{IsRow, add_nothing, adds_nothing}
use Rattle.merged_numbers.proofs.ApartLaws.{cut_below, not_less}
use Rattle.merged_numbers.proofs.RowLaws.{gap_tells}

-- ---- one sum

cut_reaches : (m n : ℤ) (known : Option ℤ) → cut m ≡ known → gap_is_at_least known n ≡ true → greater_gap (Some m) (Some n) ≡ Some m
cut_reaches m n None is least = absurd cc
cut_reaches m n (Some k) is least =
    let below = cut_below m k is in
    rw (not_less m n (omega (arith, ints, below, least))) refl

reaches : (known : Option ℤ) (n : ℤ) → gap_is_at_least (option_and_then cut known) n ≡ true → greater_gap known (Some n) ≡ known
reaches None n least = absurd cc
reaches (Some m) n least = cut_reaches m n (cut m) refl least

-- What is behind a bound adds nothing.
one_told : (rows : List BoundRow) (row : List (Option ℤ)) (s t : ℕ) (known : Option ℤ) (first : BoundRow) → s ≢ t
    → get_or row t None ≡ option_and_then cut known → list_all (adds_nothing row s first) rows ≡ true
    → greater_gap known (option_map (λ k. first.k +ℤ k) (stored rows first.t t)) ≡ known
one_told [] row s t known first other is all = greater_gap-none known
one_told (next ∷ rows) row s t known first other is all =
    let parts = and_parts (adds_nothing row s first next) (list_all (adds_nothing row s first) rows) all in
    elim (cases_Bool (next.s == first.t)) [
      | inl from ↦
          elim (cases_Bool (next.t == t)) [
            | inl here ↦
                let to : next.t ≡ t = eqb-true next.t t here in
                let away : (next.t == s) ≡ false = ne_eqb next.t s (λ e. other (sym e ∙ to)) in
                let least : gap_is_at_least (get_or row next.t None) (first.k +ℤ next.k) ≡ true = rw (from, away) at parts.0 in
                rw (from, here) (reaches known (first.k +ℤ next.k) (ap (λ g. gap_is_at_least g (first.k +ℤ next.k)) (sym is ∙ ap (λ u. get_or row u None) (sym to)) ∙ least))
            | inr past ↦ rw (from, past) (one_told rows row s t known first other is parts.1)
          ]
      | inr apart ↦ rw apart (one_told rows row s t known first other is parts.1)
    ]

-- ---- all sums

sums_told : (rows some : List BoundRow) (row : List (Option ℤ)) (s t : ℕ) (known : Option ℤ) → s ≢ t
    → get_or row t None ≡ option_and_then cut known → list_all (add_nothing rows row s) some ≡ true
    → greater_gap known (greatest_sum rows (rows_from some s) t) ≡ known
unfolding greatest_sum
sums_told rows [] row s t known other is all = greater_gap-none known
sums_told rows (first ∷ some) row s t known other is all =
    let parts = and_parts (add_nothing rows row s first) (list_all (add_nothing rows row s) some) all in
    let rest = sums_told rows some row s t known other is parts.1 in
    elim (cases_Bool (first.s == s)) [
      | inl same ↦
          let nexts : list_all (adds_nothing row s first) rows ≡ true = rw same at parts.0 in
          let one = option_map (λ k. first.k +ℤ k) (stored rows first.t t) in
          let more = greatest_sum rows (rows_from some s) t in
          rw same
          (sym (greater_gap_assoc known one more) ∙ ap (λ k. greater_gap k more) (one_told rows row s t known first other is nexts) ∙ rest)
      | inr apart ↦ rw apart rest
    ]

stored_alone : (rows : List BoundRow) (row : List (Option ℤ)) (s t : ℕ) → s ≢ t → get_or row t None ≡ direct_gap rows s t
    → list_all (add_nothing rows row s) rows ≡ true → direct_gap rows s t ≡ by_bounds.gap rows s t
unfolding by_bounds.gap by_bounds.exact_gap direct_gap
stored_alone rows row s t other is all =
    rw (sums_told rows rows row s t (stored rows s t) other (is ∙ direct_apart rows s t other) all) refl

direct_alone : (rows : List BoundRow) (row : List (Option ℤ)) (s t : ℕ) → get_or row t None ≡ direct_gap rows s t
    → list_all (add_nothing rows row s) rows ≡ true → get_or row t None ≡ by_bounds.gap rows s t
direct_alone rows row s t is all =
    elim (cases_eq s t) [
      | inl same ↦ is ∙ direct_same rows s t same ∙ sym (gap_same rows s t same)
      | inr other ↦ is ∙ stored_alone rows row s t other is all
    ]

-- Then what is stored is the row.
pub alone_tell : (side : Known) (s : ℕ) (row : List (Option ℤ)) → EachIndex row (λ t. get_or row t None ≡ direct_gap side.bounds s t)
    → list_all (add_nothing side.bounds row s) side.bounds ≡ true → IsRow row side s
alone_tell side s row are all = λ t inside. gap_tells side s t (get_or row t None) (direct_alone side.bounds row s t (are t inside) all)
