-- Results of operators keep the form of what is known.
use Rattle.std.proofs.Common.{◌≡◌, ℕ, ◌==◌, ◌+◌, ◌<◌, ℤ, neg_ℤ, Bool, ◌&&◌, Option, Some, None, List, [], ◌∷◌, ◌++◌, length, int_eq, refl, ap, ◌∙◌, arith}
use Rattle.std.specs.Prelude.{pos, IfSome}
use Rattle.std.specs.List.{AllByRecursion}
use Rattle.std.specs.Int.{int_min, int_max}
use Rattle.std.specs.Option.{option_map}
use Rattle.std.proofs.lemmas.Bool.{cond_both}
use Rattle.cil_model.specs.Arithmetic.{LEAST, GREATEST}
use Rattle.cil_model.specs.declared.instruction.BinOp.{BinOp}
use Rattle.cil_model.specs.declared.instruction.BinOp.TheVariants as operators
use Rattle.domain_api.specs.declared.expr.Expr.{Expr}
use Rattle.interval_domain.specs.Interval.{Interval}
use Rattle.number_spans.specs.Sums.{negated}
use Rattle.number_spans.specs.Spans.{is_not_negative}
use Rattle.number_spans.specs.Stored.{range_without}
use Rattle.number_facts.proofs.ResultForms.{result_form, result_there}
use Rattle.number_facts.proofs.ResultNames.{all_both}
use Rattle.number_facts.specs.Additions.{at_most, difference_relations, difference_span, is_inside, sum_relations, sum_span, uppers}
use Rattle.number_facts.specs.Arith.{are_plain, common_relations, is_above_one, is_kept, is_positive, no_more, outcome, quotient_relations, relations, remainder_relations, settled, where_so}
use Rattle.number_facts.specs.Ends.{range_of}
use Rattle.number_facts.specs.Facts.{AreNarrow, Facts, IsThere}
use Rattle.number_facts.specs.Fresh.{Made, bounded, defined, expr_made, facts_made, fresh, is_long, noted, related_so}
use Rattle.number_facts.specs.Holds.{KeepsForm}
use Rattle.number_facts.specs.declared.outcome.Outcome.{Outcome}
use Rattle.number_facts.specs.declared.outcome.Outcome.TheVariants as outcomes
use Rattle.number_facts.specs.declared.relation.Relation.{Relation}
use Rattle.number_facts.specs.declared.relation.Relation.TheVariants.{AtLeast, AtMost, Is}
use Rattle.symbolic_values.specs.declared.def.Def.{Def}
use Rattle.state_facts.specs.Arithmetic.{with_result}
use Rattle.state_facts.specs.Forms.{HasForm, HasNumber, TestsOf}
use Rattle.state_facts.specs.Moves.{on_top}
use Rattle.state_facts.specs.StateFacts.{StateFacts}
use Rattle.state_facts.proofs.ComparisonForms.{grows_by}
use Rattle.state_facts.proofs.Growing.{Formed, Grows, same_facts}
use Rattle.state_facts.proofs.MadeNumbers.{on_top_form}

-- ---- what operators owe

pub is_there : (known : StateFacts) (e : Expr) → HasNumber known e → IsThere known.facts e
is_there known e is = record { there = is.there; least = is.near.least; greatest = is.near.greatest }

pub are_narrow : (known : StateFacts) → HasForm known → AreNarrow known.facts
are_narrow known form = form.narrow

-- ---- a new symbol has one definition at most

abbrev pub IsBound : Relation → Type 0
IsBound (AtLeast s k) = Unit {0}
IsBound (AtMost s k) = Unit {0}
IsBound (Is def) = ⊥

-- A definition comes first, and its reference is there, of so many.
abbrev pub MayDefine : ℕ → List Relation → Type 0
MayDefine references [] = Unit {0}
MayDefine references (AtLeast s k ∷ rs) = AllByRecursion IsBound rs
MayDefine references (AtMost s k ∷ rs) = AllByRecursion IsBound rs
MayDefine references (Is def ∷ rs) = TestsOf references def × AllByRecursion IsBound rs

bound_alone : (facts : Facts) (s t : ℕ) (k : ℤ) → (bounded facts s t k).definitions ≡ facts.definitions
unfolding bounded
bound_alone facts s t k = cond_both (is_long k) _ _ (λ (f : Facts). f.definitions ≡ facts.definitions) (λ e. refl) (λ e. refl)

bounds_alone : (facts : Facts) (t : ℕ) (rs : List Relation) → AllByRecursion IsBound rs → (related_so facts t rs).definitions ≡ facts.definitions
bounds_alone facts t [] all = refl
bounds_alone facts t (AtLeast s k ∷ rs) all = bounds_alone (bounded facts s t k) t rs all.1 ∙ bound_alone facts s t k
bounds_alone facts t (AtMost s k ∷ rs) all = bounds_alone (bounded facts t s (neg_ℤ k)) t rs all.1 ∙ bound_alone facts t s (neg_ℤ k)
bounds_alone facts t (Is def ∷ rs) all = elim all.0 [ ]

appended : (facts : Facts) (t : ℕ) (def : Def) → (defined facts t def).definitions ≡ facts.definitions ++ (t, def) ∷ []
unfolding defined
appended facts t def = refl

grows_alone : (known : StateFacts) (facts : Facts) → HasForm known → facts.definitions ≡ known.facts.definitions → KeepsForm known.facts facts → Grows known facts
grows_alone known facts form same kept = record { form = kept; rising = rw same form.rising; tests = rw same form.tests }

grows_so : (known : StateFacts) (facts : Facts) (t : ℕ) (rs : List Relation) → HasForm known → facts.definitions ≡ known.facts.definitions
    → length known.facts.ranges < t → MayDefine (length known.references) rs → KeepsForm known.facts (related_so facts t rs)
    → Grows known (related_so facts t rs)
grows_so known facts t [] form same later may kept = grows_alone known facts form same kept
grows_so known facts t (AtLeast s k ∷ rs) form same later may kept =
    grows_alone known _ form (bounds_alone facts t (AtLeast s k ∷ rs) (tt, may) ∙ same) kept
grows_so known facts t (AtMost s k ∷ rs) form same later may kept =
    grows_alone known _ form (bounds_alone facts t (AtMost s k ∷ rs) (tt, may) ∙ same) kept
grows_so known facts t (Is def ∷ rs) form same later may kept =
    grows_by known _ t def form kept later
    (bounds_alone (defined facts t def) t rs may.1 ∙ appended facts t def ∙ ap (λ (ds : List (ℕ × Def)). ds ++ (t, def) ∷ []) same) may.0

noted_grows : (known : StateFacts) (r : Interval) (rs : List Relation) → HasForm known → MayDefine (length known.references) rs
    → KeepsForm known.facts (noted known.facts r rs).facts → Grows known (noted known.facts r rs).facts
unfolding noted
noted_grows known r rs form may kept =
    cond_both (int_eq r.lo r.hi) _ _ (λ (m : Made). KeepsForm known.facts m.facts → Grows known m.facts) (λ e k. same_facts known form)
    (λ e k. grows_so known _ (length known.facts.ranges + 1) rs form refl (omega arith) may k) kept

abbrev pub EachGrows : StateFacts → Option Made → Type 0
EachGrows known None = Unit {0}
EachGrows known (Some made) = Grows known made.facts

some_grows : (known : StateFacts) (o : Option Interval) (rs : List Relation) → HasForm known → MayDefine (length known.references) rs
    → KeepsForm known.facts (facts_made known.facts (option_map (λ r. noted known.facts r rs) o))
    → EachGrows known (option_map (λ r. noted known.facts r rs) o)
some_grows known None rs form may kept = tt
some_grows known (Some r) rs form may kept = noted_grows known r rs form may kept

settled_grows : (known : StateFacts) (o : Outcome) (rs : List Relation) → HasForm known → MayDefine (length known.references) rs
    → KeepsForm known.facts (facts_made known.facts (settled known.facts o rs)) → EachGrows known (settled known.facts o rs)
unfolding settled fresh
settled_grows known (outcomes.Is e) rs form may kept = cond_both (is_kept e) _ _ (EachGrows known) (λ so. same_facts known form) (λ so. tt)
settled_grows known (outcomes.Within r) rs form may kept =
    some_grows known (range_without (int_max r.lo LEAST) (int_min r.hi GREATEST) None) rs form may kept

-- ---- what is known of results

may_bound : (references : ℕ) (rs : List Relation) → AllByRecursion IsBound rs → MayDefine references rs
may_bound references [] all = tt
may_bound references (AtLeast s k ∷ rs) all = all.1
may_bound references (AtMost s k ∷ rs) all = all.1
may_bound references (Is def ∷ rs) all = elim all.0 [ ]

where_bound : (b : Bool) (rs : List Relation) → AllByRecursion IsBound rs → AllByRecursion IsBound (where_so b rs)
where_bound b rs all = cond_both b _ _ (AllByRecursion IsBound) (λ e. all) (λ e. tt)

at_most_bound : (us : List Expr) → AllByRecursion IsBound (at_most us)
at_most_bound [] = tt
at_most_bound (u ∷ us) = (tt, at_most_bound us)

sum_bound : (facts : Facts) (a b : Expr) → AllByRecursion IsBound (sum_relations facts a b)
unfolding sum_relations
sum_bound facts a b = cond_both (is_inside (sum_span facts a b)) _ _ (AllByRecursion IsBound)
    (λ e. (tt, (tt, (tt, (tt, at_most_bound (uppers facts a b)))))) (λ e. tt)

difference_may : (references : ℕ) (facts : Facts) (a b : Expr) → MayDefine references (difference_relations facts a b)
unfolding difference_relations
difference_may references facts a b =
    cond_both (b.sym == 0) _ _ (MayDefine references) (λ e. may_bound references _ (sum_bound facts a (negated b)))
    (λ e. cond_both (is_inside (difference_span facts a b)) _ _ (MayDefine references) (λ f. (tt, (tt, (tt, tt)))) (λ f. tt))

two_bound : (b c : Bool) (rs qs : List Relation) → AllByRecursion IsBound rs → AllByRecursion IsBound qs
    → AllByRecursion IsBound (where_so b rs ++ where_so c qs)
two_bound b c rs qs first second = all_both IsBound (where_so b rs) (where_so c qs) (where_bound b rs first) (where_bound c qs second)

quotient_bound : (facts : Facts) (a b : Expr) → AllByRecursion IsBound (quotient_relations facts a b)
unfolding quotient_relations
quotient_bound facts a b =
    let less : List Relation = where_so (is_positive (range_of facts a) && is_above_one (range_of facts b)) (no_more a (pos 1)) in
    let less_bound : AllByRecursion IsBound less = where_bound (is_positive (range_of facts a) && is_above_one (range_of facts b)) (no_more a (pos 1)) (tt, tt) in
    where_bound (is_not_negative (range_of facts a) && is_positive (range_of facts b)) (no_more a (pos 0) ++ less) (tt, less_bound)

remainder_bound : (facts : Facts) (a b : Expr) → AllByRecursion IsBound (remainder_relations facts a b)
unfolding remainder_relations
remainder_bound facts a b = two_bound _ _ (no_more a (pos 0)) (no_more b (pos 1)) (tt, tt) (tt, tt)

common_bound : (facts : Facts) (a b : Expr) → AllByRecursion IsBound (common_relations facts a b)
unfolding common_relations
common_bound facts a b = two_bound _ _ (no_more a (pos 0)) (no_more b (pos 0)) (tt, tt) (tt, tt)

relations_may : (op : BinOp) (references : ℕ) (facts : Facts) (a b : Expr) → MayDefine references (relations op facts a b)
unfolding relations
relations_may operators.Add references facts a b = may_bound references _ (sum_bound facts a b)
relations_may operators.Sub references facts a b = difference_may references facts a b
relations_may operators.Div references facts a b = may_bound references _ (quotient_bound facts a b)
relations_may operators.DivUn references facts a b = may_bound references _ (where_bound (are_plain facts a b) _ (quotient_bound facts a b))
relations_may operators.Rem references facts a b = may_bound references _ (remainder_bound facts a b)
relations_may operators.RemUn references facts a b = may_bound references _ (where_bound (are_plain facts a b) _ (remainder_bound facts a b))
relations_may operators.And references facts a b = may_bound references _ (common_bound facts a b)
relations_may operators.Shr references facts a b = may_bound references _ (where_bound _ (no_more a (pos 0)) (tt, tt))
relations_may operators.ShrUn references facts a b = may_bound references _ (where_bound _ (no_more a (pos 0)) (tt, tt))
relations_may operators.Mul references facts a b = tt
relations_may operators.Or references facts a b = tt
relations_may operators.Xor references facts a b = tt
relations_may operators.Shl references facts a b = tt
relations_may operators.AddOvf references facts a b = tt
relations_may operators.SubOvf references facts a b = tt
relations_may operators.MulOvf references facts a b = tt
relations_may operators.Ceq references facts a b = tt
relations_may operators.Cgt references facts a b = tt
relations_may operators.CgtUn references facts a b = tt
relations_may operators.Clt references facts a b = tt
relations_may operators.CltUn references facts a b = tt

-- ---- a result on top

each_result : (known : StateFacts) (o : Option Made) → HasForm known → EachGrows known o → IfSome (expr_made o) (IsThere (facts_made known.facts o))
    → Formed (option_map (on_top known) o)
each_result known None form grows there = tt
each_result known (Some made) form grows there =
    on_top_form known made form grows (record { there = there.there; near = record { least = there.least; greatest = there.greatest } })

pub with_result_form : (op : BinOp) (a b : Expr) (known : StateFacts) → HasForm known → HasNumber known a → HasNumber known b
    → Formed (with_result op a b known)
unfolding with_result
with_result_form op a b known form first second =
    each_result known _ form
    (settled_grows known (outcome op known.facts a b) (relations op known.facts a b) form (relations_may op (length known.references) known.facts a b)
    (result_form op known.facts a b first.there second.there))
    (result_there op known.facts a b first.there second.there)
