-- What operators give is kept, and no exact result lies beyond its ends.
use Rattle.std.proofs.Common.{◌≡◌, ℕ, ◌==◌, ◌/◌, ◌^◌, ℤ, pos, ◌+ℤ◌, ◌-ℤ◌, ◌*ℤ◌, Bool, true, false, ◌&&◌}
use Rattle.std.proofs.Common.{int_div, int_rem, Option, Ok, Err, refl, FitsSigned, w32, arith}
use Rattle.std.specs.Prelude.{Result, IfOk, OnOk}
use Rattle.std.specs.Int.{w64, int_shr}
use Rattle.std.specs.Result.{result_ok}
use Rattle.std.proofs.lemmas.Bool.{cond_both, and_parts}
use Rattle.std.proofs.lemmas.Int.{ints, clamps}
use Rattle.domain_api.specs.declared.expr.Expr.{Expr}
use Rattle.cc_base.specs.Wrap.{wrap32}
use Rattle.cil_model.specs.Arithmetic.{operated, signed, unsigned}
use Rattle.cil_model.specs.declared.instruction.BinOp.{BinOp}
use Rattle.cil_model.specs.declared.instruction.BinOp.TheVariants as operators
use Rattle.cil_model.specs.declared.machine.FaultKind.{FaultKind}
use Rattle.cil_model.proofs.ArithmeticFits.{operated_fits}
use Rattle.interval_domain.specs.Arithmetic.{near, least, greatest}
use Rattle.interval_domain.specs.Laws.Ends.{near_below, near_above}
use Rattle.symbolic_values.specs.Worth.{worth}
use Rattle.number_spans.specs.Constants.{exact_of, is_constant}
use Rattle.number_spans.specs.Product.{corners, is_the_constant}
use Rattle.number_spans.specs.Spans.{Has, full}
use Rattle.number_spans.proofs.BitLaws.{common_bits_have, bits_of_either_have, bits_of_one_have}
use Rattle.number_spans.proofs.OperatorLaws.{ok_same, divided_gives, divided_unsigned_gives, shifted_gives, exact_gives}
use Rattle.number_spans.proofs.ConstantLaws.{exact_gives_it}
use Rattle.number_spans.proofs.ProductLaws.{corners_have}
use Rattle.number_spans.proofs.ShiftLaws.{shifted_right_has}
use Rattle.number_spans.proofs.Wrapping.{full_has}
use Rattle.number_facts.specs.Arith as rule
use Rattle.number_facts.specs.Ends.{range_of}
use Rattle.number_facts.specs.Facts.{Facts, AreNarrow, IsNamed}
use Rattle.number_facts.specs.Fresh.{expr_made, facts_made}
use Rattle.number_facts.specs.Laws.Allowing.{AllowsNumbers}
use Rattle.number_facts.specs.Results.{AreExactEnds, IsExact, KeepsResult}
use Rattle.number_facts.specs.declared.outcome.Outcome.{Outcome}
use Rattle.number_facts.proofs.AdditionLaws.{sum_covers, sum_relations_true, difference_covers}
use Rattle.number_facts.proofs.AdditionLaws.{difference_relations_true, exact_sum_has, exact_difference_has}
use Rattle.number_facts.proofs.Knowing.{range_has, zero_number, constant_worth}
use Rattle.number_facts.proofs.NewSymbols.{zero_worth}
use Rattle.number_facts.proofs.OperatorLaws.{product_covers, shifted_left_covers, quotient_has, remainder_has}
use Rattle.number_facts.proofs.OperatorLaws.{unsigned_quotient_has, unsigned_remainder_has}
use Rattle.number_facts.proofs.OperatorLaws.{shifted_right_unsigned_covers}
use Rattle.number_facts.proofs.OperatorLaws.{quotient_relations_true, remainder_relations_true}
use Rattle.number_facts.proofs.OperatorLaws.{unsigned_quotient_relations_true, unsigned_remainder_relations_true}
use Rattle.number_facts.proofs.OperatorLaws.{common_relations_true, shift_relations_true, unsigned_shift_relations_true}
use Rattle.number_facts.proofs.ResultKeeping.{Knows, AreTrueOf, Covers, settled_keeps}
use Rattle.number_facts.proofs.ResultNames.{outcome_named, relations_named}
use Rattle.number_facts.proofs.NearRanges.{range_small}

-- All that is known is so, and the two expressions are worth int32 by it.
record Given (facts : Facts) (number : ℕ → ℤ) (is_null : ℕ → Bool) (a b : Expr) : Type 0 where
  knows : Knows facts number is_null
  narrow : AreNarrow facts
  first : IsNamed facts a
  second : IsNamed facts b
  one : FitsSigned w32 (worth number a)
  other : FitsSigned w32 (worth number b)

-- ---- two constants

both_constants : (facts : Facts) (number : ℕ → ℤ) (a b : Expr) → AllowsNumbers facts number → (b.sym == 0) ≡ true
    → FitsSigned w32 (worth number b) → is_the_constant a (pos 1) ≡ true → (is_constant a && is_constant b) ≡ true
both_constants facts number a b allowed zero fits one =
    let parts = and_parts (a.sym == 0) _ one in
    rw (parts.0, zero) refl

not_both : (x : Bool) → x ≡ false → x ≡ true → ⊥
not_both x is other = grind (arith, is, other)

-- ---- each operator

facts_cover : (op : BinOp) (facts : Facts) (number : ℕ → ℤ) (is_null : ℕ → Bool) (a b : Expr) (n : ℤ)
    → Given facts number is_null a b → (is_constant a && is_constant b) ≡ false → FitsSigned w32 n
    → operated op (worth number a) (worth number b) ≡ Ok n → Covers number (rule.by_facts op facts a b) n
unfolding rule.by_facts rule.exact
facts_cover operators.Add f v z a b n g apart fits is = rw (← ok_same _ _ _ refl is)
    (sum_covers f v z a b g.knows g.first g.second)
facts_cover operators.Sub f v z a b n g apart fits is = rw (← ok_same _ _ _ refl is)
    (difference_covers f v z a b g.knows g.first g.second)
facts_cover operators.Mul f v z a b n g apart fits is =
    rw (← ok_same _ _ _ refl is) (product_covers f v a b g.knows.holds.allowed g.first g.second g.one (λ e. g.other))
facts_cover operators.Div f v z a b n g apart fits is =
    let gives = divided_gives (worth v a) (worth v b) (int_div (worth v a) (worth v b)) n is in
    rw (← gives.1) (quotient_has f v a b g.knows.holds.allowed g.first g.second gives.0)
facts_cover operators.DivUn f v z a b n g apart fits is =
    let gives = divided_unsigned_gives _ _ _ is in
    rw (← gives.1) (unsigned_quotient_has f v a b g.knows.holds.allowed g.first g.second g.one g.other gives.0)
facts_cover operators.Rem f v z a b n g apart fits is =
    let gives = divided_gives (worth v a) (worth v b) (int_rem (worth v a) (worth v b)) n is in
    rw (← gives.1) (remainder_has f v a b g.knows.holds.allowed g.first g.second gives.0)
facts_cover operators.RemUn f v z a b n g apart fits is =
    let gives = divided_unsigned_gives _ _ _ is in
    rw (← gives.1) (unsigned_remainder_has f v a b g.knows.holds.allowed g.first g.second g.one g.other gives.0)
facts_cover operators.And f v z a b n g apart fits is =
    rw (← ok_same _ _ _ refl is)
    (common_bits_have _ _ _ _ g.one g.other (range_has f v a g.knows.holds.allowed g.first)
    (range_has f v b g.knows.holds.allowed g.second))
facts_cover operators.Or f v z a b n g apart fits is =
    rw (← ok_same _ _ _ refl is)
    (bits_of_either_have _ _ _ _ (range_small f v a g.knows.holds.allowed g.narrow g.first g.one)
    (range_small f v b g.knows.holds.allowed g.narrow g.second g.other) g.one g.other
    (range_has f v a g.knows.holds.allowed g.first) (range_has f v b g.knows.holds.allowed g.second))
facts_cover operators.Xor f v z a b n g apart fits is =
    rw (← ok_same _ _ _ refl is)
    (bits_of_one_have _ _ _ _ (range_small f v a g.knows.holds.allowed g.narrow g.first g.one)
    (range_small f v b g.knows.holds.allowed g.narrow g.second g.other) g.one g.other
    (range_has f v a g.knows.holds.allowed g.first) (range_has f v b g.knows.holds.allowed g.second))
facts_cover operators.Shl f v z a b n g apart fits is =
    let gives = shifted_gives (worth v b) n (λ k. wrap32 (worth v a *ℤ pos (2 ^ k))) is in
    rw (← gives) (shifted_left_covers f v a b g.knows.holds.allowed g.first g.one (rw gives fits)
    (λ zero one. not_both _ apart (both_constants f v a b g.knows.holds.allowed zero g.other one)))
facts_cover operators.Shr f v z a b n g apart fits is =
    let gives = shifted_gives (worth v b) n (λ k. int_shr (worth v a) k) is in
    rw (← gives)
    (shifted_right_has (range_of f a) b (worth v a) (worth v b) (range_has f v a g.knows.holds.allowed g.first)
    (constant_worth f v b g.knows.holds.allowed))
facts_cover operators.ShrUn f v z a b n g apart fits is =
    let gives = shifted_gives (worth v b) n (λ k. signed (unsigned (worth v a) / 2 ^ k)) is in
    rw (← gives) (shifted_right_unsigned_covers f v a b g.knows.holds.allowed g.first g.one)
facts_cover operators.AddOvf f v z a b n g apart fits is =
    rw (← exact_gives (worth v a +ℤ worth v b) n is) (exact_sum_has f v z a b g.knows g.first g.second)
facts_cover operators.MulOvf f v z a b n g apart fits is =
    rw (← exact_gives (worth v a *ℤ worth v b) n is)
    (corners_have _ _ _ _ (range_has f v a g.knows.holds.allowed g.first)
    (range_has f v b g.knows.holds.allowed g.second))
facts_cover operators.SubOvf f v z a b n g apart fits is =
    rw (← exact_gives (worth v a -ℤ worth v b) n is) (exact_difference_has f v z a b g.knows g.first g.second)
facts_cover operators.Ceq f v z a b n g apart fits is = full_has n fits
facts_cover operators.Cgt f v z a b n g apart fits is = full_has n fits
facts_cover operators.CgtUn f v z a b n g apart fits is = full_has n fits
facts_cover operators.Clt f v z a b n g apart fits is = full_has n fits
facts_cover operators.CltUn f v z a b n g apart fits is = full_has n fits

relations_true : (op : BinOp) (facts : Facts) (number : ℕ → ℤ) (is_null : ℕ → Bool) (a b : Expr) (n : ℤ)
    → Given facts number is_null a b → operated op (worth number a) (worth number b) ≡ Ok n
    → AreTrueOf number is_null n (rule.relations op facts a b)
unfolding rule.relations
relations_true operators.Add f v z a b n g is = rw (← ok_same _ _ _ refl is)
    (sum_relations_true f v z a b g.knows g.first g.second)
relations_true operators.Sub f v z a b n g is = rw (← ok_same _ _ _ refl is)
    (difference_relations_true f v z a b g.knows g.first g.second)
relations_true operators.Div f v z a b n g is =
    let gives = divided_gives (worth v a) (worth v b) (int_div (worth v a) (worth v b)) n is in
    rw (← gives.1) (quotient_relations_true f v z a b g.knows.holds.allowed g.first g.second)
relations_true operators.DivUn f v z a b n g is =
    let gives = divided_unsigned_gives (worth v b) n _ is in
    rw (← gives.1) (unsigned_quotient_relations_true f v z a b g.knows.holds.allowed g.first g.second g.one g.other)
relations_true operators.Rem f v z a b n g is =
    let gives = divided_gives (worth v a) (worth v b) (int_rem (worth v a) (worth v b)) n is in
    rw (← gives.1) (remainder_relations_true f v z a b g.knows.holds.allowed g.first g.second)
relations_true operators.RemUn f v z a b n g is =
    let gives = divided_unsigned_gives (worth v b) n _ is in
    rw (← gives.1) (unsigned_remainder_relations_true f v z a b g.knows.holds.allowed g.first g.second g.one g.other)
relations_true operators.And f v z a b n g is =
    rw (← ok_same _ _ _ refl is) (common_relations_true f v z a b g.knows.holds.allowed g.first g.second g.one g.other)
relations_true operators.Shr f v z a b n g is =
    let gives = shifted_gives (worth v b) n (λ k. int_shr (worth v a) k) is in
    rw (← gives) (shift_relations_true f v z a (worth v b) g.knows.holds.allowed g.first)
relations_true operators.ShrUn f v z a b n g is =
    let gives = shifted_gives (worth v b) n (λ k. signed (unsigned (worth v a) / 2 ^ k)) is in
    rw (← gives) (unsigned_shift_relations_true f v z a (worth v b) g.knows.holds.allowed g.first g.one)
relations_true operators.Mul f v z a b n g is = tt
relations_true operators.Or f v z a b n g is = tt
relations_true operators.Xor f v z a b n g is = tt
relations_true operators.Shl f v z a b n g is = tt
relations_true operators.AddOvf f v z a b n g is = tt
relations_true operators.MulOvf f v z a b n g is = tt
relations_true operators.SubOvf f v z a b n g is = tt
relations_true operators.Ceq f v z a b n g is = tt
relations_true operators.Cgt f v z a b n g is = tt
relations_true operators.CgtUn f v z a b n g is = tt
relations_true operators.Clt f v z a b n g is = tt
relations_true operators.CltUn f v z a b n g is = tt

-- ---- the whole

constants_cover : (o : Option ℤ) (r : Result ℤ FaultKind) (otherwise : Outcome) (facts : Facts) (number : ℕ → ℤ) (n : ℤ)
    → AllowsNumbers facts number → r ≡ Ok n → o ≡ result_ok r → Covers number (rule.known_or o otherwise) n
constants_cover o r otherwise facts number n allowed gives is =
    rw is (rw gives (zero_worth number n n (zero_number facts number allowed) refl))

outcome_covers : (op : BinOp) (facts : Facts) (number : ℕ → ℤ) (is_null : ℕ → Bool) (a b : Expr) (n : ℤ)
    → Given facts number is_null a b → FitsSigned w32 n → operated op (worth number a) (worth number b) ≡ Ok n
    → Covers number (rule.outcome op facts a b) n
unfolding rule.outcome
outcome_covers op facts number is_null a b n given fits is =
    let allowed = given.knows.holds.allowed in
    cond_both (is_constant a && is_constant b) _ _ (λ o. Covers number (rule.known_or o (rule.by_facts op facts a b)) n)
    (λ e.
    let parts = and_parts (is_constant a) (is_constant b) e in
    let m = constant_worth facts number a allowed parts.0 in
    let k = constant_worth facts number b allowed parts.1 in
    let gives = exact_gives_it op (worth number a) (worth number b) n given.one given.other fits is in
    constants_cover (result_ok (exact_of op a.k b.k)) (exact_of op (worth number a) (worth number b))
    (rule.by_facts op facts a b) facts number n allowed gives (rw (m, k) refl))
    (λ e. facts_cover op facts number is_null a b n given e fits is)

result_fits : (r : Result ℤ FaultKind) (n : ℤ) → r ≡ Ok n → IfOk r (FitsSigned w32) → FitsSigned w32 n
result_fits r n is fits = rw is at fits

-- The result of each operator is kept.
pub result_keeps : (op : BinOp) (facts : Facts) (a b : Expr) → IsNamed facts a → IsNamed facts b → AreNarrow facts
    → KeepsResult op a b facts
    (expr_made (rule.settled facts (rule.outcome op facts a b) (rule.relations op facts a b)))
    (facts_made facts (rule.settled facts (rule.outcome op facts a b) (rule.relations op facts a b)))
result_keeps op facts a b first second narrow = λ number is_null n named holds int32 is.
    let given : Given facts number is_null a b = record {
      knows = record { holds = holds; named = named };
      narrow = narrow;
      first = first;
      second = second;
      one = int32.first;
      other = int32.second;
    } in
    let fits = result_fits (operated op (worth number a) (worth number b)) n is
    (operated_fits op (worth number a) (worth number b) int32.first int32.second) in
    settled_keeps facts number is_null (rule.outcome op facts a b)
    (rule.relations op facts a b) n given.knows narrow fits
    (outcome_named op facts a b first second) (outcome_covers op facts number is_null a b n given fits is)
    (relations_named op facts a b first second named) (relations_true op facts number is_null a b n given is)

pub result_where_ok : {E : Type 0} (op : BinOp) (before : Facts) (a b : Expr) (result : Result (Option Expr) E)
    (after : Facts) → IsNamed before a → IsNamed before b → AreNarrow before
    → IfOk result (λ e. e ≡ expr_made (rule.settled before (rule.outcome op before a b) (rule.relations op before a b)))
    → OnOk result
    (after ≡ facts_made before (rule.settled before (rule.outcome op before a b) (rule.relations op before a b)))
    → IfOk result (λ e. KeepsResult op a b before e after)
result_where_ok op before a b (Ok e) after first second narrow value facts =
    rw (value, facts) (result_keeps op before a b first second narrow)
result_where_ok op before a b (Err e) after first second narrow value facts = value

-- ---- exact results

-- what is to be shown of an exact result, by its operator
each_exact : (P : BinOp → Type 0) (op : BinOp) (m n exact : ℤ) → IsExact op m n exact
    → (exact ≡ m +ℤ n → P operators.AddOvf) → (exact ≡ m -ℤ n → P operators.SubOvf)
    → (exact ≡ m *ℤ n → P operators.MulOvf) → P op
each_exact P operators.AddOvf m n k is sum difference product = sum is
each_exact P operators.SubOvf m n k is sum difference product = difference is
each_exact P operators.MulOvf m n k is sum difference product = product is
each_exact P operators.Add m n k is sum difference product = elim is [ ]
each_exact P operators.Sub m n k is sum difference product = elim is [ ]
each_exact P operators.Mul m n k is sum difference product = elim is [ ]
each_exact P operators.Div m n k is sum difference product = elim is [ ]
each_exact P operators.DivUn m n k is sum difference product = elim is [ ]
each_exact P operators.Rem m n k is sum difference product = elim is [ ]
each_exact P operators.RemUn m n k is sum difference product = elim is [ ]
each_exact P operators.And m n k is sum difference product = elim is [ ]
each_exact P operators.Or m n k is sum difference product = elim is [ ]
each_exact P operators.Xor m n k is sum difference product = elim is [ ]
each_exact P operators.Shl m n k is sum difference product = elim is [ ]
each_exact P operators.Shr m n k is sum difference product = elim is [ ]
each_exact P operators.ShrUn m n k is sum difference product = elim is [ ]
each_exact P operators.Ceq m n k is sum difference product = elim is [ ]
each_exact P operators.Cgt m n k is sum difference product = elim is [ ]
each_exact P operators.CgtUn m n k is sum difference product = elim is [ ]
each_exact P operators.Clt m n k is sum difference product = elim is [ ]
each_exact P operators.CltUn m n k is sum difference product = elim is [ ]

exact_has : (op : BinOp) (facts : Facts) (number : ℕ → ℤ) (is_null : ℕ → Bool) (a b : Expr) (n : ℤ)
    → Knows facts number is_null → IsNamed facts a → IsNamed facts b → IsExact op (worth number a) (worth number b) n
    → Has (rule.exact op facts a b) n
unfolding rule.exact
exact_has op f v z a b n knows p q is =
    each_exact (λ o. Has (rule.exact o f a b) n) op (worth v a) (worth v b) n is
    (λ sum. rw sum (exact_sum_has f v z a b knows p q))
    (λ difference. rw difference (exact_difference_has f v z a b knows p q))
    (λ product. rw product
    (corners_have _ _ _ _ (range_has f v a knows.holds.allowed p) (range_has f v b knows.holds.allowed q)))

-- the exact result of two int32 has 64 bits
product_fits : (m n : ℤ) → FitsSigned w32 m → FitsSigned w32 n → FitsSigned w64 (m *ℤ n)
unfolding corners least greatest
product_fits m n one other = let has = corners_have full full m n (full_has m one) (full_has n other) in
    omega (arith, ints, clamps, has.above, has.below)

exact_fits : (op : BinOp) (m n exact : ℤ) → FitsSigned w32 m → FitsSigned w32 n → IsExact op m n exact
    → FitsSigned w64 exact
exact_fits op m n k one other is =
    each_exact (λ o. FitsSigned w64 k) op m n k is
    (λ sum. omega (arith, ints, one, other, sum))
    (λ difference. omega (arith, ints, one, other, difference))
    (λ product. rw product (product_fits m n one other))

-- No exact result lies beyond the ends, each brought to 64 bits.
pub exact_within : (op : BinOp) (facts : Facts) (a b : Expr) (lo hi : ℤ) → IsNamed facts a → IsNamed facts b
    → lo ≡ near (rule.exact op facts a b).lo → hi ≡ near (rule.exact op facts a b).hi → AreExactEnds op a b facts lo hi
exact_within op facts a b lo hi first second low high = λ number is_null exact named holds int32 is.
    let has = exact_has op facts number is_null a b exact (record { holds = holds; named = named }) first second is in
    let fits = exact_fits op (worth number a) (worth number b) exact int32.first int32.second is in
    let above = near_below (rule.exact op facts a b).lo exact has.above fits in
    let below = near_above (rule.exact op facts a b).hi exact has.below fits in
    (omega (arith, ints, low, above), omega (arith, ints, high, below))
