-- Relations that are noted where a test says so.
use Rattle.std.proofs.Common.{◌≡◌, ℤ, pos, Bool, true, false, ◌&&◌, List, ◌++◌, inl, inr, refl, arith}
use Rattle.std.specs.Prelude.{int_le}
use Rattle.std.proofs.lemmas.Bool.{cases_Bool}
use Rattle.std.proofs.lemmas.Int.{ints}
use Rattle.std.proofs.lemmas.List.{append-nil}
use Rattle.number_spans.specs.Spans.{is_not_negative}
use Rattle.number_spans.specs.declared.span.Span.{Span}
use Rattle.number_facts.specs.Arith.{are_plain, is_positive, quotient_relations, where_so}
use Rattle.number_facts.specs.Ends.{range_of}
use Rattle.number_facts.specs.Facts.{Facts}
use Rattle.number_facts.specs.declared.relation.Relation.{Relation}
use Rattle.domain_api.specs.declared.expr.Expr.{Expr}

pub noted_within : (b c : Bool) (xs ys : List Relation) → where_so b xs ++ where_so (b && c) ys ≡ where_so b (xs ++ where_so c ys)
noted_within true c xs ys = refl
noted_within false c xs ys = refl

pub ruleset within = (noted_within)

pub all_within : (b c d : Bool) (xs ys : List Relation) → where_so (b && c) xs ++ where_so (b && d) ys ≡ where_so b (where_so c xs ++ where_so d ys)
all_within true c d xs ys = refl
all_within false c d xs ys = refl

pub ruleset both_within = (all_within)

pub one_noted : (b : Bool) (xs ys : List Relation) → where_so b xs ++ where_so false ys ≡ where_so b xs
one_noted b xs ys = append-nil (where_so b xs)

positive_plain : (n : ℤ) → int_le (pos 1) n ≡ true → int_le (pos 0) n ≡ true
positive_plain n positive = grind (arith, ints, positive)

plain_again : (r q : Span) (rs : List Relation)
    → where_so (is_not_negative r && is_positive q) rs ≡ where_so (is_not_negative r && is_not_negative q) (where_so (is_not_negative r && is_positive q) rs)
plain_again r q rs =
    elim (cases_Bool (is_not_negative r)) [
      | inl first ↦
          elim (cases_Bool (is_positive q)) [
            | inl second ↦ let plain = positive_plain q.lo second in rw (first, second, plain) refl
            | inr other ↦ elim (cases_Bool (is_not_negative q)) [ inl plain ↦ rw (first, other, plain) refl | inr less ↦ rw (first, other, less) refl ]
          ]
      | inr other ↦ rw other refl
    ]

-- where a quotient has an order, both numbers are taken as they are
pub quotient_plain : (facts : Facts) (a b : Expr) → quotient_relations facts a b ≡ where_so (are_plain facts a b) (quotient_relations facts a b)
unfolding quotient_relations
quotient_plain facts a b = plain_again (range_of facts a) (range_of facts b) _

pub ruleset orders = (one_noted, quotient_plain)
