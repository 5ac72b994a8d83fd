-- What bounds a sum from above, by one difference after another.
use Rattle.std.proofs.Common.{◌≡◌, ℕ, suc, ◌+◌, ◌<◌, ◌≤◌, ℤ, ◌+ℤ◌, ◌-ℤ◌, List, [], ◌∷◌, ◌++◌, Option, Some, None, length, get_or, drop, drop-cons, add-one, refl, sym, ap, ◌∙◌, arith, inl, inr, ◌==◌}
use Rattle.std.proofs.lemmas.Bool.{cases_Bool}
use Rattle.std.proofs.lemmas.List.{drop_all, append_assoc, append-nil}
use Rattle.std.specs.Int.{int_max, int_min}
use Rattle.std.specs.Option.{option_map}
use Rattle.std.proofs.lemmas.Int.{ints, clamps}
use Rattle.domain_api.specs.declared.expr.Expr.{Expr}
use Rattle.number_spans.specs.Sizes.{IsBounded}
use Rattle.symbolic_values.specs.declared.def.Def.{Def}
use Rattle.symbolic_values.specs.declared.def.Def.TheVariants.{Eq, Lt, LtUn, NullTest, Sub}
use Rattle.number_facts.specs.Additions.{above, above_difference, above_each, all_above, at_most, cut_by, with_some}
use Rattle.number_facts.specs.Differences.{differences, subtracting}
use Rattle.number_facts.specs.Gaps.{gap}
use Rattle.number_spans.specs.Spans.{shifted}
use Rattle.number_facts.specs.Ends.{range_of, span_at}
use Rattle.number_facts.specs.Facts.{Facts}
use Rattle.number_facts.specs.declared.differences.Difference.{Difference}
use Rattle.number_facts.specs.declared.relation.Relation.{Relation}

-- ---- exact ends and constants

pub regrouped : (a b x y g : ℤ) → ((a +ℤ b) -ℤ (y +ℤ g)) +ℤ x ≡ x +ℤ (((a +ℤ b) -ℤ y) -ℤ g)
regrouped a b x y g = omega (arith, ints)

pub ruleset regroups = (regrouped)

same_sum : (g more : ℤ) → more +ℤ g ≡ g +ℤ more
same_sum g more = omega (arith, ints)

pub same_greater : (g more n : ℤ) → int_max n (more +ℤ g) ≡ int_max n (g +ℤ more)
same_greater g more n = ap (int_max n) (same_sum g more)

pub greater_bounded : (a b : ℤ) → IsBounded a → IsBounded b → IsBounded (int_max a b)
greater_bounded a b first second = record {
  least = omega (arith, ints, clamps, first.least);
  greatest = omega (arith, ints, clamps, first.greatest, second.greatest);
}

pub ruleset raises = (same_greater, greater_bounded)

-- ---- what differences say

-- All that definitions say is said by the differences among them that subtract the symbol of a.
pub above_by_subtracting : (facts : Facts) (a b : Expr) (rows : List (ℕ × Def))
    → above_each facts a b (subtracting a.sym (differences rows)) ≡ all_above facts a b rows
above_by_subtracting facts a b [] = refl
above_by_subtracting facts a b ((d, Sub x y) ∷ rows) =
    let rest = above_by_subtracting facts a b rows in
    elim (cases_Bool (y.sym == a.sym)) [
      | inl here ↦ rw here (ap (λ us. with_some (above a b x y (gap facts b.sym d)) us) rest)
      | inr other ↦ rw other rest
    ]
above_by_subtracting facts a b ((d, Eq x y) ∷ rows) = above_by_subtracting facts a b rows
above_by_subtracting facts a b ((d, Lt x y) ∷ rows) = above_by_subtracting facts a b rows
above_by_subtracting facts a b ((d, LtUn x y) ∷ rows) = above_by_subtracting facts a b rows
above_by_subtracting facts a b ((d, NullTest r is) ∷ rows) = above_by_subtracting facts a b rows

-- ---- an end that is cut

cut_first : (facts : Facts) (o : Option Expr) (es : List Expr) (hi : ℤ) → cut_by facts (with_some o es) hi ≡ cut_by facts es (cut_by facts (with_some o []) hi)
cut_first facts None es hi = refl
cut_first facts (Some e) es hi = refl

pub cut_more : (facts : Facts) (a b : Expr) (ds : List Difference) (i : ℕ) (hi now whole : ℤ) (d : Difference) → i < length ds
    → now ≡ cut_by facts (with_some (above_difference facts a b (get_or ds i d)) []) hi
    → cut_by facts (above_each facts a b (drop i ds)) hi ≡ whole → cut_by facts (above_each facts a b (drop (i + 1) ds)) now ≡ whole
cut_more facts a b ds i hi now whole d inside becomes so_far =
    let split : drop i ds ≡ get_or ds i d ∷ drop (suc i) ds = drop-cons ds i d inside in
    let rest = above_each facts a b (drop (suc i) ds) in
    let one = above_difference facts a b (get_or ds i d) in
    rw (add-one, becomes) (sym (cut_first facts one rest hi) ∙ rw split at so_far)

pub cut_all : (facts : Facts) (a b : Expr) (ds : List Difference) (i : ℕ) (hi whole : ℤ) → length ds ≤ i
    → cut_by facts (above_each facts a b (drop i ds)) hi ≡ whole → hi ≡ whole
cut_all facts a b ds i hi whole past so_far = let none : drop i ds ≡ [] = drop_all i ds past in rw none at so_far

pub cut_none_yet : (facts : Facts) (a b : Expr) (rows : List (ℕ × Def)) (ds : List Difference) (hi : ℤ) → ds ≡ subtracting a.sym (differences rows)
    → cut_by facts (above_each facts a b ds) hi ≡ cut_by facts (all_above facts a b rows) hi
cut_none_yet facts a b rows ds hi is = rw is (ap (λ us. cut_by facts us hi) (above_by_subtracting facts a b rows))

pub ruleset cuts = (cut_more, cut_all, cut_none_yet)

pub cut_by_both : (facts : Facts) (es fs : List Expr) (hi : ℤ) → cut_by facts fs (cut_by facts es hi) ≡ cut_by facts (es ++ fs) hi
cut_by_both facts [] fs hi = refl
cut_by_both facts (e ∷ es) fs hi = cut_by_both facts es fs _

pub ruleset both = (cut_by_both)

-- ---- relations that are noted

noted_first : (o : Option Expr) (es : List Expr) → at_most (with_some o es) ≡ at_most (with_some o []) ++ at_most es
noted_first None es = refl
noted_first (Some e) es = refl

pub note_more : (facts : Facts) (a b : Expr) (ds : List Difference) (i : ℕ) (known now whole : List Relation) (d : Difference) → i < length ds
    → now ≡ known ++ at_most (with_some (above_difference facts a b (get_or ds i d)) [])
    → known ++ at_most (above_each facts a b (drop i ds)) ≡ whole → now ++ at_most (above_each facts a b (drop (i + 1) ds)) ≡ whole
note_more facts a b ds i known now whole d inside becomes so_far =
    let split : drop i ds ≡ get_or ds i d ∷ drop (suc i) ds = drop-cons ds i d inside in
    let rest = above_each facts a b (drop (suc i) ds) in
    let one = above_difference facts a b (get_or ds i d) in
    rw (add-one, becomes) (append_assoc known (at_most (with_some one [])) (at_most rest) ∙ ap (λ rs. known ++ rs) (sym (noted_first one rest)) ∙ rw split at so_far)

pub note_all : (facts : Facts) (a b : Expr) (ds : List Difference) (i : ℕ) (known whole : List Relation) → length ds ≤ i
    → known ++ at_most (above_each facts a b (drop i ds)) ≡ whole → known ≡ whole
note_all facts a b ds i known whole past so_far =
    let none : drop i ds ≡ [] = drop_all i ds past in sym (append-nil known) ∙ rw none at so_far

pub note_none_yet : (facts : Facts) (a b : Expr) (rows : List (ℕ × Def)) (ds : List Difference) (known : List Relation) → ds ≡ subtracting a.sym (differences rows)
    → known ++ at_most (above_each facts a b ds) ≡ known ++ at_most (all_above facts a b rows)
note_none_yet facts a b rows ds known is = rw is (ap (λ us. known ++ at_most us) (above_by_subtracting facts a b rows))

pub ruleset notes = (note_more, note_all, note_none_yet)

at_most_both : (es fs : List Expr) → at_most (es ++ fs) ≡ at_most es ++ at_most fs
at_most_both [] fs = refl
at_most_both (e ∷ es) fs = ap (λ rs. at_most (e ∷ []) ++ rs) (at_most_both es fs)

pub all_noted : (rs qs : List Relation) (es fs : List Expr) → ((rs ++ qs) ++ at_most es) ++ at_most fs ≡ rs ++ (qs ++ at_most (es ++ fs))
all_noted rs qs es fs =
    append_assoc (rs ++ qs) (at_most es) (at_most fs) ∙ append_assoc rs qs (at_most es ++ at_most fs)
    ∙ ap (λ us. rs ++ (qs ++ us)) (sym (at_most_both es fs))

pub ruleset noted = (all_noted)

pub both_pushed : (known : List Relation) (first second : Relation) → (known ++ first ∷ []) ++ second ∷ [] ≡ known ++ (first ∷ second ∷ [])
both_pushed known first second = append_assoc known (first ∷ []) (second ∷ [])

-- ---- one difference

pub cut_some : (facts : Facts) (o : Option Expr) (s : ℕ) (k hi : ℤ) → option_map {U = ℕ × ℤ} (λ (u : Expr). (u.sym, u.k)) o ≡ Some (s, k)
    → int_min hi ((span_at facts s).hi +ℤ k) ≡ cut_by facts (with_some o []) hi
unfolding range_of shifted
cut_some facts None s k hi is = absurd cc
cut_some facts (Some e) s k hi is =
    let same : (e.sym, e.k) ≡ (s, k) = some_is (e.sym, e.k) (s, k) is in
    rw (← ap (λ (p : ℕ × ℤ). p.0) same, ← ap (λ (p : ℕ × ℤ). p.1) same) refl
  where
    some_is : (p q : ℕ × ℤ) → Some p ≡ Some q → p ≡ q
    some_is p q is = cc
