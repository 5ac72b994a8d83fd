-- A new symbol, of which more is known, keeps what is so.
use Rattle.std.proofs.Common.{◌≡◌, ◌≢◌, ℕ, zero, suc, ◌==◌, ◌+◌, ◌≤◌, ◌<◌, ℤ, pos, neg_ℤ, ◌+ℤ◌, ◌≤ℤ◌, Bool, true, false, int_eq, Option, Some, None, List, [], ◌∷◌, ◌++◌, length, get_or, inl, inr, refl, sym, ap, ◌∙◌, add-one, arith}
use Rattle.std.specs.Prelude.{if◌then◌else◌, Result, Ok, Err, IfOk, OnOk}
use Rattle.std.specs.Option.{option_map}
use Rattle.std.specs.Int.{int_min, int_max}
use Rattle.std.specs.List.{AllByRecursion}
use Rattle.std.proofs.lemmas.Int.{ints, clamps}
use Rattle.std.proofs.lemmas.Bool.{cases_Bool, cond_both, eqb-true, eqb-false}
use Rattle.std.proofs.lemmas.Bool.Decides.{Decides-int_eq, nat_tests}
use Rattle.domain_api.specs.declared.expr.Expr.{Expr}
use Rattle.interval_domain.specs.Interval.{Interval, one}
use Rattle.pentagon_domain.specs.Rows.{with_bound}
use Rattle.pentagon_domain.proofs.Allowing.{allows_agreeing, with_bound_allows}
use Rattle.symbolic_values.specs.Meaning.{told}
use Rattle.symbolic_values.specs.Worth.{worth}
use Rattle.symbolic_values.specs.declared.def.Def.{Def}
use Rattle.symbolic_values.specs.declared.def.Def.TheVariants.{Eq, Lt, LtUn, NullTest, Sub}
use Rattle.number_spans.specs.Constants.{constant}
use Rattle.cil_model.specs.Arithmetic.{LEAST, GREATEST}
use Rattle.number_spans.specs.Stored.{Allows, SomeAllows, range_without}
use Rattle.number_spans.proofs.Lost.{range_without_allows}
use Rattle.number_facts.specs.Facts.{Facts, range_at}
use Rattle.number_facts.specs.Fresh.{Made, bounded, defined, expr_made, facts_made, fresh, is_long, noted, related, related_so}
use Rattle.number_facts.specs.Holds.{Holds, HoldsWith, KeepsFresh, YieldsSome, IsDefined, IsRelated, Names, NamesOwn, AreNamed, is_below}
use Rattle.number_facts.specs.declared.relation.Relation.{Relation}
use Rattle.number_facts.specs.declared.relation.Relation.TheVariants.{AtLeast, AtMost, Is}
use Rattle.number_facts.proofs.Knowing.{zero_number}

-- the numbers, and one more for a new symbol
abbrev pub with_number : (ℕ → ℤ) → ℕ → ℤ → ℕ → ℤ
with_number number t n s = if s == t then n else number s

not_next : (s count : ℕ) → s ≤ count → (s == (count + 1)) ≡ false
not_next s count h = grind (arith, nat_tests, h)

pub as_before : (number : ℕ → ℤ) (count : ℕ) (n : ℤ) (s : ℕ) → s ≤ count → with_number number (count + 1) n s ≡ number s
as_before number count n s there = rw (not_next s count there) refl

itself : (t : ℕ) → (t == t) ≡ true
itself t = grind (arith, nat_tests)

pub new_number : (number : ℕ → ℤ) (t : ℕ) (n : ℤ) → with_number number t n t ≡ n
new_number number t n = rw (itself t) refl

-- ---- what was known is so of numbers that agree on the symbols that are there

same_worth : (number later : ℕ → ℤ) (count : ℕ) (e : Expr) → e.sym ≤ count → ((s : ℕ) → s ≤ count → later s ≡ number s) → worth later e ≡ worth number e
same_worth number later count e there agrees = ap (λ n. n +ℤ e.k) (agrees e.sym there)

pub same_told : (number later : ℕ → ℤ) (is_null : ℕ → Bool) (count : ℕ) (def : Def) → Names count def → ((s : ℕ) → s ≤ count → later s ≡ number s)
    → told is_below later is_null def ≡ told is_below number is_null def
same_told number later is_null count (Eq x y) named agrees = rw (same_worth number later count x named.0 agrees, same_worth number later count y named.1 agrees) refl
same_told number later is_null count (Lt x y) named agrees = rw (same_worth number later count x named.0 agrees, same_worth number later count y named.1 agrees) refl
same_told number later is_null count (LtUn x y) named agrees = rw (same_worth number later count x named.0 agrees, same_worth number later count y named.1 agrees) refl
same_told number later is_null count (NullTest r is) named agrees = refl
same_told number later is_null count (Sub x y) named agrees = rw (same_worth number later count x named.0 agrees, same_worth number later count y named.1 agrees) refl

still_defined : (number later : ℕ → ℤ) (is_null : ℕ → Bool) (count : ℕ) (ds : List (ℕ × Def)) → AllByRecursion (NamesOwn count) ds
    → ((s : ℕ) → s ≤ count → later s ≡ number s) → AllByRecursion (IsDefined number is_null) ds → AllByRecursion (IsDefined later is_null) ds
still_defined number later is_null count [] named agrees so = tt
still_defined number later is_null count (d ∷ ds) named agrees so =
    (agrees d.0 named.0.0 ∙ so.0 ∙ sym (same_told number later is_null count d.1 named.0.1 agrees), still_defined number later is_null count ds named.1 agrees so.1)

-- ---- one more range

get_appended : (rs : List Interval) (r d : Interval) (i : ℕ) → i < length rs → get_or (rs ++ r ∷ []) i d ≡ get_or rs i d
get_appended [] r d i inside = absurd (omega arith)
get_appended (q ∷ rs) r d zero inside = refl
get_appended (q ∷ rs) r d (suc i) inside = get_appended rs r d i (omega arith)

get_last : (rs : List Interval) (r d : Interval) → get_or (rs ++ r ∷ []) (length rs) d ≡ r
get_last [] r d = refl
get_last (q ∷ rs) r d = get_last rs r d

length_appended : (rs : List Interval) (r : Interval) → length (rs ++ r ∷ []) ≡ length rs + 1
length_appended [] r = refl
length_appended (q ∷ rs) r =
    let rest = length_appended rs r in
    let longer : suc (length (rs ++ r ∷ [])) ≡ suc (length rs) + 1 = omega (arith, rest) in
    longer

appended_allows : (facts : Facts) (number later : ℕ → ℤ) (r : Interval) → ((s : ℕ) → s ≤ length facts.ranges → Allows (range_at facts s) (number s))
    → ((s : ℕ) → s ≤ length facts.ranges → later s ≡ number s) → Allows r (later (length facts.ranges + 1))
    → (s : ℕ) → s ≤ length facts.ranges + 1 → Allows (range_at (record facts { ranges = facts.ranges ++ r ∷ [] }) s) (later s)
unfolding range_at
appended_allows facts number later r allowed agrees new zero there = rw (agrees zero (omega arith)) (allowed zero (omega arith))
appended_allows facts number later r allowed agrees new (suc s) there =
    elim (cases_Bool (s == length facts.ranges)) [
      | inl last ↦
          let is : s ≡ length facts.ranges = eqb-true s (length facts.ranges) last in
          rw is (rw (get_last facts.ranges r (one (pos 0))) (rw (add-one (length facts.ranges)) at new))
      | inr other ↦
          let apart : s ≢ length facts.ranges = eqb-false s (length facts.ranges) other in
          let inside : s < length facts.ranges = omega (arith, there, apart) in
          rw (get_appended facts.ranges r (one (pos 0)) s inside, agrees (suc s) (omega (arith, inside))) (allowed (suc s) (omega (arith, inside)))
    ]

appended_holds : (facts : Facts) (number later : ℕ → ℤ) (is_null : ℕ → Bool) (r : Interval) → Holds facts number is_null → AreNamed facts
    → ((s : ℕ) → s ≤ length facts.ranges → later s ≡ number s) → Allows r (later (length facts.ranges + 1))
    → Holds (record facts { ranges = facts.ranges ++ r ∷ [] }) later is_null
appended_holds facts number later is_null r holds named agrees new = record {
  allowed = record {
    ranges = λ s there. appended_allows facts number later r holds.allowed.ranges agrees new s (rw (length_appended facts.ranges r) at there);
    bounds = allows_agreeing facts.bounds number later (length facts.ranges + 1) named.bounds (λ s there. sym (agrees s (omega (arith, there)))) holds.allowed.bounds;
  };
  definitions = still_defined number later is_null (length facts.ranges) facts.definitions named.definitions agrees holds.definitions;
}

-- ---- what else is known of it

same_ranges : (facts : Facts) (s t : ℕ) (k : ℤ) (u : ℕ) → range_at (record facts { bounds = with_bound facts.bounds s t k }) u ≡ range_at facts u
unfolding range_at
same_ranges facts s t k zero = refl
same_ranges facts s t k (suc u) = refl

bounded_holds : (facts : Facts) (number : ℕ → ℤ) (is_null : ℕ → Bool) (s t : ℕ) (k : ℤ) → Holds facts number is_null → (number s +ℤ k) ≤ℤ number t
    → Holds (bounded facts s t k) number is_null
unfolding bounded
bounded_holds facts number is_null s t k holds above = cond_both (is_long k) _ _ (λ (f : Facts). Holds f number is_null)
    (λ e. record {
      allowed = record {
        ranges = λ u there. rw (same_ranges facts s t k u) (holds.allowed.ranges u there);
        bounds = with_bound_allows facts.bounds number s t k holds.allowed.bounds above;
      };
      definitions = holds.definitions;
    })
    (λ e. holds)

all_appended : (number : ℕ → ℤ) (is_null : ℕ → Bool) (ds : List (ℕ × Def)) (d : ℕ × Def) → AllByRecursion (IsDefined number is_null) ds
    → IsDefined number is_null d → AllByRecursion (IsDefined number is_null) (ds ++ d ∷ [])
all_appended number is_null [] d all so = (so, tt)
all_appended number is_null (e ∷ ds) d all so = (all.0, all_appended number is_null ds d all.1 so)

same_stored : (facts : Facts) (t : ℕ) (def : Def) (u : ℕ) → range_at (record facts { definitions = facts.definitions ++ (t, def) ∷ [] }) u ≡ range_at facts u
unfolding range_at
same_stored facts t def zero = refl
same_stored facts t def (suc u) = refl

defined_holds : (facts : Facts) (number : ℕ → ℤ) (is_null : ℕ → Bool) (t : ℕ) (def : Def) → Holds facts number is_null
    → number t ≡ told is_below number is_null def → Holds (defined facts t def) number is_null
unfolding defined
defined_holds facts number is_null t def holds so = record {
  allowed = record {
    ranges = λ u there. rw (same_stored facts t def u) (holds.allowed.ranges u there);
    bounds = holds.allowed.bounds;
  };
  definitions = all_appended number is_null facts.definitions (t, def) holds.definitions so;
}

related_holds : (facts : Facts) (number : ℕ → ℤ) (is_null : ℕ → Bool) (t : ℕ) (r : Relation) → Holds facts number is_null → IsRelated number is_null t r
    → Holds (related facts t r) number is_null
related_holds facts number is_null t (AtLeast s k) holds so = bounded_holds facts number is_null s t k holds so
related_holds facts number is_null t (AtMost s k) holds so = bounded_holds facts number is_null t s (neg_ℤ k) holds (omega (arith, ints, so))
related_holds facts number is_null t (Is def) holds so = defined_holds facts number is_null t def holds so

all_related : (facts : Facts) (number : ℕ → ℤ) (is_null : ℕ → Bool) (t : ℕ) (rs : List Relation) → Holds facts number is_null
    → AllByRecursion (IsRelated number is_null t) rs → Holds (related_so facts t rs) number is_null
all_related facts number is_null t [] holds so = holds
all_related facts number is_null t (r ∷ rs) holds so =
    all_related (related facts t r) number is_null t rs (related_holds facts number is_null t r holds so.0) so.1

-- ---- the law

new_worth : (later : ℕ → ℤ) (t : ℕ) (n : ℤ) → later t ≡ n → worth later (record { sym = t; k = pos 0 }) ≡ n
new_worth later t n is = omega (arith, ints, is)

pub zero_worth : (number : ℕ → ℤ) (k n : ℤ) → number 0 ≡ pos 0 → k ≡ n → worth number (constant k) ≡ n
zero_worth number k n none is = omega (arith, ints, none, is)

-- A number of a range, of which these relations are so, is a new symbol of the range with these relations.
pub noted_holds : (facts : Facts) (number : ℕ → ℤ) (is_null : ℕ → Bool) (r : Interval) (relations : List Relation) (n : ℤ) → Holds facts number is_null
    → AreNamed facts → Allows r n
    → AllByRecursion (IsRelated (with_number number (length facts.ranges + 1) n) is_null (length facts.ranges + 1)) relations
    → HoldsWith facts (noted facts r relations).facts number is_null (noted facts r relations).expr n
unfolding noted
noted_holds facts number is_null r relations n holds named allowed so =
    cond_both (int_eq r.lo r.hi) _ _ (λ (m : Made). HoldsWith facts m.facts number is_null m.expr n)
    (λ e.
    let same = (Decides-int_eq r.lo r.hi).0 e in
    record {
      later = number;
      agrees = λ s there. refl;
      holds = holds;
      is = zero_worth number r.lo n (zero_number facts number holds.allowed) (omega (arith, ints, same, allowed.above, allowed.below));
    })
    (λ e.
    let t = length facts.ranges + 1 in
    let later = with_number number t n in
    let agrees = as_before number (length facts.ranges) n in
    let own : later t ≡ n = new_number number t n in
    record {
      later = later;
      agrees = agrees;
      holds = all_related (record facts { ranges = facts.ranges ++ r ∷ [] }) later is_null t relations
          (appended_holds facts number later is_null r holds named agrees (rw own allowed)) so;
      is = new_worth later t n own;
    })

noted_some : (facts : Facts) (number : ℕ → ℤ) (is_null : ℕ → Bool) (o : Option Interval) (n : ℤ) → Holds facts number is_null → AreNamed facts → SomeAllows o n
    → YieldsSome facts (facts_made facts (option_map (λ r. noted facts r []) o)) number is_null (expr_made (option_map (λ r. noted facts r []) o)) n
noted_some facts number is_null None n holds named allowed = elim allowed [ ]
noted_some facts number is_null (Some r) n holds named allowed = noted_holds facts number is_null r [] n holds named allowed tt

-- an int32 of a range is a new number of it
fresh_keeps : (facts : Facts) (lo hi : ℤ) (hole : Option ℤ) → KeepsFresh lo hi hole facts (expr_made (fresh facts lo hi hole [])) (facts_made facts (fresh facts lo hi hole []))
unfolding fresh
fresh_keeps facts lo hi hole = λ number is_null n named holds fits above below apart.
    noted_some facts number is_null (range_without (int_max lo LEAST) (int_min hi GREATEST) hole) n holds named
    (range_without_allows (int_max lo LEAST) (int_min hi GREATEST) n hole (omega (arith, ints, clamps, fits, above)) (omega (arith, ints, clamps, fits, below)) apart)

pub fresh_where_ok : {E : Type 0} (before : Facts) (lo hi : ℤ) (hole : Option ℤ) (result : Result (Option Expr) E) (after : Facts)
    → IfOk result (λ e. e ≡ expr_made (fresh before lo hi hole [])) → OnOk result (after ≡ facts_made before (fresh before lo hi hole []))
    → IfOk result (λ e. KeepsFresh lo hi hole before e after)
fresh_where_ok before lo hi hole (Ok e) after value facts = rw (value, facts) (fresh_keeps before lo hi hole)
fresh_where_ok before lo hi hole (Err e) after value facts = value
