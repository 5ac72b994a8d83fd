-- What is known of the result of an operator.
use Rattle.std.specs.Prelude.{◌==◌, ◌^◌, ◌/◌, ◌-◌, ℤ, pos, negsuc, ◌-ℤ◌, Bool, ◌&&◌, int_le, unsigned_abs, List, [], ◌∷◌, ◌++◌, Option, Some, None, if◌then◌else◌}
use Rattle.domain_api.specs.declared.expr.Expr.{Expr}
use Rattle.cil_model.specs.declared.instruction.BinOp.{BinOp}
use Rattle.cil_model.specs.declared.instruction.BinOp.TheVariants as operators
use Rattle.number_spans.specs.Bits.{common_bits, bits_of_either}
use Rattle.number_spans.specs.Constants.{constant, of_constants}
use Rattle.number_spans.specs.Product.{corners, is_the_constant}
use Rattle.number_spans.specs.Quotient.{quotients}
use Rattle.number_spans.specs.Remainder.{remainders}
use Rattle.number_spans.specs.Shifts.{shifted_right}
use Rattle.number_spans.specs.Spans.{between, full, is_not_negative, wrapped}
use Rattle.number_spans.specs.declared.span.Span.{Span}
use Rattle.number_facts.specs.Additions.{sum, sum_relations, difference, difference_relations, exact_sum, exact_difference}
use Rattle.number_facts.specs.Facts.{Facts}
use Rattle.number_facts.specs.Ends.{range_of}
use Rattle.number_facts.specs.Fresh.{Made, fresh}
use Rattle.number_facts.specs.declared.outcome.Outcome.{Outcome}
use Rattle.number_facts.specs.declared.outcome.Outcome.TheVariants.{Is, Within}
use Rattle.number_facts.specs.declared.relation.Relation.{Relation}
use Rattle.number_facts.specs.declared.relation.Relation.TheVariants.{AtMost}

-- The result is no more than an expression less a number.
abbrev pub no_more : Expr → ℤ → List Relation
no_more e less = AtMost e.sym (e.k -ℤ less) ∷ []

abbrev pub where_so : Bool → List Relation → List Relation
where_so b relations = if b then relations else []

-- ---- products (ECMA-335 III.3.48)

unfoldable pub product : Facts → Expr → Expr → Outcome
product facts a b =
    if is_the_constant b (pos 1) then Is a
    else if is_the_constant a (pos 1) then Is b
    else Within (wrapped (corners (range_of facts a) (range_of facts b)))

-- ---- quotients and remainders (III.3.31, III.3.32, III.3.55 and III.3.56)

abbrev pub is_positive : Span → Bool
is_positive r = int_le (pos 1) r.lo

abbrev pub is_above_one : Span → Bool
is_above_one r = int_le (pos 2) r.lo

-- The quotient of a number that is not negative by a positive one is no more than that number, and less where that is
-- positive and the divisor more than 1.
unfoldable pub quotient_relations : Facts → Expr → Expr → List Relation
quotient_relations facts a b =
    where_so (is_not_negative (range_of facts a) && is_positive (range_of facts b))
    (no_more a (pos 0) ++ where_so (is_positive (range_of facts a) && is_above_one (range_of facts b)) (no_more a (pos 1)))

-- The remainder of a number that is not negative is no more than that number, and by a positive one less than that.
unfoldable pub remainder_relations : Facts → Expr → Expr → List Relation
remainder_relations facts a b =
    where_so (is_not_negative (range_of facts a)) (no_more a (pos 0)) ++ where_so (is_positive (range_of facts b)) (no_more b (pos 1))

-- Unsigned numbers that are not negative are taken as they are.
abbrev pub are_plain : Facts → Expr → Expr → Bool
are_plain facts a b = is_not_negative (range_of facts a) && is_not_negative (range_of facts b)

unfoldable pub quotient : Facts → Expr → Expr → Span
quotient facts a b = quotients (range_of facts a) (range_of facts b) (b.sym == 0)

unfoldable pub remainder : Facts → Expr → Expr → Span
remainder facts a b = remainders (range_of facts a) (range_of facts b)

-- ---- bits (III.3.3)

-- Common bits are no more than each side that is not negative.
unfoldable pub common_relations : Facts → Expr → Expr → List Relation
common_relations facts a b =
    where_so (is_not_negative (range_of facts a)) (no_more a (pos 0)) ++ where_so (is_not_negative (range_of facts b)) (no_more b (pos 0))

-- ---- shifts (III.3.58 to III.3.60)

-- To the left by a constant: the product by a power of 2.
unfoldable pub shifted_left : Facts → Expr → Expr → Outcome
shifted_left facts a b = if b.sym == 0 then product facts a (constant (pos (2 ^ unsigned_abs b.k))) else Within full

-- An unsigned number that is not negative is shifted as it is. By a constant n other than 0, another has n ones less
-- than 32.
unfoldable pub shifted_right_unsigned : Facts → Expr → Expr → Outcome
shifted_right_unsigned facts a b =
    if is_not_negative (range_of facts a) then Within (shifted_right (range_of facts a) b)
    else if b.sym == 0 then (if unsigned_abs b.k == 0 then Is a else Within (between (pos 0) (pos ((2 ^ 32 - 1) / 2 ^ unsigned_abs b.k))))
    else Within full

-- A number that is not negative is no more than it was behind a shift to the right.
abbrev pub shift_relations : Facts → Expr → List Relation
shift_relations facts a = where_so (is_not_negative (range_of facts a)) (no_more a (pos 0))

-- ---- each operator

-- Where the result of an operator that may overflow lies before it is judged. Others are not asked for.
unfoldable pub exact : BinOp → Facts → Expr → Expr → Span
exact operators.AddOvf facts a b = exact_sum facts a b
exact operators.SubOvf facts a b = exact_difference facts a b
exact operators.MulOvf facts a b = corners (range_of facts a) (range_of facts b)
exact _ facts a b = full

-- The expression or the numbers of a result. The comparisons are not asked for.
unfoldable pub by_facts : BinOp → Facts → Expr → Expr → Outcome
by_facts operators.Add facts a b = sum facts a b
by_facts operators.Sub facts a b = difference facts a b
by_facts operators.Mul facts a b = product facts a b
by_facts operators.Div facts a b = Within (quotient facts a b)
by_facts operators.DivUn facts a b = Within (if are_plain facts a b then quotient facts a b else full)
by_facts operators.Rem facts a b = Within (remainder facts a b)
by_facts operators.RemUn facts a b = Within (if are_plain facts a b then remainder facts a b else full)
by_facts operators.And facts a b = Within (common_bits (range_of facts a) (range_of facts b))
by_facts operators.Or facts a b = Within (bits_of_either (range_of facts a) (range_of facts b))
by_facts operators.Xor facts a b = Within (bits_of_either (range_of facts a) (range_of facts b))
by_facts operators.Shl facts a b = shifted_left facts a b
by_facts operators.Shr facts a b = Within (shifted_right (range_of facts a) b)
by_facts operators.ShrUn facts a b = shifted_right_unsigned facts a b
by_facts op facts a b = Within (exact op facts a b)

-- What else is known of a new symbol for it.
unfoldable pub relations : BinOp → Facts → Expr → Expr → List Relation
relations operators.Add facts a b = sum_relations facts a b
relations operators.Sub facts a b = difference_relations facts a b
relations operators.Div facts a b = quotient_relations facts a b
relations operators.DivUn facts a b = where_so (are_plain facts a b) (quotient_relations facts a b)
relations operators.Rem facts a b = remainder_relations facts a b
relations operators.RemUn facts a b = where_so (are_plain facts a b) (remainder_relations facts a b)
relations operators.And facts a b = common_relations facts a b
relations operators.Shr facts a b = shift_relations facts a
relations operators.ShrUn facts a b = shift_relations facts a
relations _ facts a b = []

abbrev pub known_or : Option ℤ → Outcome → Outcome
known_or None outcome = outcome
known_or (Some n) outcome = Is (constant n)

-- Of two constants it is the constant, and else it goes by what is known.
unfoldable pub outcome : BinOp → Facts → Expr → Expr → Outcome
outcome op facts a b = known_or (of_constants op a b) (by_facts op facts a b)

-- The constant of a result is one of -2^32 to 2^32, since the result is an int32.
abbrev pub is_kept : Expr → Bool
is_kept e = int_le (negsuc 4294967295) e.k && int_le e.k (pos 4294967296)

-- The result, of which this is known. None: nothing is reached.
unfoldable pub settled : Facts → Outcome → List Relation → Option Made
settled facts (Is e) relations = if is_kept e then Some (record { expr = e; facts = facts }) else None
settled facts (Within r) relations = fresh facts r.lo r.hi None relations
