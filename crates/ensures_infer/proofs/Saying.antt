-- What rows say can be said of the method, so the clauses that say it may be added to those of the method.
use Rattle.std.proofs.Common.{◌≡◌, ℕ, zero, suc, ◌+◌, ◌≤◌, ℤ, pos, ◌≤ℤ◌, Bool, true, false, ◌&&◌, int_le, int_lt, List, [], ◌∷◌, ◌++◌, length, map, slice_get, Option, Some, None, if◌then◌else◌, refl, sym, ap, subst, ◌∙◌, length-append, arith}
use Rattle.std.specs.Prelude.{FitsSigned, option_to_list, sum_by}
use Rattle.std.specs.Int.{w32}
use Rattle.std.specs.List.{AllByRecursion}
use Rattle.std.specs.Option.{option_and_then, option_or}
use Rattle.std.proofs.lemmas.Bool.{cond_both, false≢true}
use Rattle.std.proofs.lemmas.Int.{ints}
use Rattle.std.proofs.lemmas.List.{length-map}
use Rattle.std.proofs.lemmas.List.Sums.{sum_by-append, sum_by-cons}
use Rattle.std.proofs.lemmas.Option.{none-some, same_Some}
use Rattle.cil_model.specs.Arithmetic.{LEAST, GREATEST}
use Rattle.cil_model.specs.Kinds.{kind_of}
use Rattle.cil_model.specs.Limits.{MAX_CLAUSES, MAX_CONDITIONS, MAX_NODES, MAX_OLD_VALUES}
use Rattle.cil_model.specs.TermCodes.{preorder}
use Rattle.cil_model.specs.Terms as terms
use Rattle.cil_model.specs.Terms.{Term, condition_depth, old_count, term_size}
use Rattle.cil_model.specs.TreeKinds.{IsNumberClause, kind_in, length_kind}
use Rattle.cil_model.specs.WellFormed.{ClausesWithinLimits, HasInts, IsAdded, IsIntRoot}
use Rattle.cil_model.specs.declared.clause.Clause.{Clause}
use Rattle.cil_model.specs.declared.instruction.CmpOp.TheVariants as comparisons
use Rattle.cil_model.specs.declared.place.Kind.{Kind}
use Rattle.cil_model.specs.declared.place.Kind.TheVariants as kinds
use Rattle.cil_model.specs.declared.place.Place.{Place}
use Rattle.cil_model.specs.declared.place.Place.TheVariants as places
use Rattle.cil_model.proofs.Lists.{all_append}
use Rattle.number_spans.specs.declared.span.Span.{Span}
use Rattle.ensures_infer.specs.Inferred.{clause_of, measured, tree_of, weaker}
use Rattle.ensures_infer.specs.Rows.{at_least, at_most, below, below_each, ends_within, has_measure, highest, highest_row, int32_rows, lowest, lowest_row, rows}
use Rattle.ensures_infer.specs.Strengthening.{CanBeAdded}
use Rattle.ensures_infer.specs.declared.inferred.Inferred.{Inferred}
use Rattle.ensures_infer.specs.declared.inferred.Inferred.TheVariants as facts
use Rattle.ensures_infer.specs.declared.inferred.Measure.{Measure}
use Rattle.ensures_infer.specs.declared.inferred.Measure.TheVariants as measures

-- ---- what can be said

-- There is an argument of this number that has such a number.
pub record HasArg (args : List Place) (measure : Measure) (i : ℕ) : Type 0 where
  pub place : Place
  pub there : slice_get args i ≡ Some place
  pub has : has_measure measure place ≡ true

-- A result of this type is a number.
abbrev pub IsNumber : Place → Type 0
IsNumber place = kind_of place ≡ Some kinds.Int

abbrev pub IsArray : Place → Type 0
IsArray places.Bools = Unit {0}
IsArray places.Ints = Unit {0}
IsArray places.Void = ⊥
IsArray places.Bool = ⊥
IsArray places.Int = ⊥

abbrev pub CanSay : List Place → Place → Inferred → Type 0
CanSay args place (facts.AtLeast lo) = IsNumber place × FitsSigned w32 lo
CanSay args place (facts.AtMost hi) = IsNumber place × FitsSigned w32 hi
CanSay args place facts.NotNull = IsArray place
CanSay args place (facts.Below measure i) = IsNumber place × HasArg args measure i
CanSay args place (facts.NotAbove measure i) = IsNumber place × HasArg args measure i

-- ---- rows

module _ (args : List Place) (place : Place) (least greatest : ℤ) (number : IsNumber place) (low : LEAST ≤ℤ least)
    (high : greatest ≤ℤ GREATEST) where
  lowest_said : (lo : Option ℤ) → AllByRecursion (CanSay args place) (lowest_row least greatest lo)
  lowest_said None = tt
  lowest_said (Some lo) =
      cond_both (int_lt least lo && int_le lo greatest) _ _
      (λ (row : Option Inferred). AllByRecursion (CanSay args place) (option_to_list row))
      (λ within. ((number, grind (arith, ints, within, low, high)), tt)) (λ outside. tt)

  highest_said : (hi : Option ℤ) → AllByRecursion (CanSay args place) (highest_row least greatest hi)
  highest_said None = tt
  highest_said (Some hi) =
      cond_both (int_le least hi && int_lt hi greatest) _ _
      (λ (row : Option Inferred). AllByRecursion (CanSay args place) (option_to_list row))
      (λ within. ((number, grind (arith, ints, within, low, high)), tt)) (λ outside. tt)

  ends_said : (ranges : List Span) → AllByRecursion (CanSay args place) (ends_within least greatest ranges)
  ends_said ranges =
      all_append (CanSay args place) (lowest_row least greatest (lowest ranges))
      (highest_row least greatest (highest ranges)) (lowest_said (lowest ranges)) (highest_said (highest ranges))

-- Of arguments that are all from a number on.
below_said : (measure : Measure) (all : List Place) (i : ℕ) (rest : List Place)
    → ((n : ℕ) → slice_get rest n ≡ slice_get all (i + n))
    → AllByRecursion (CanSay all places.Int) (below_each measure i rest)
below_said measure all i [] same = tt
below_said measure all i (place ∷ rest) same =
    all_append (CanSay all places.Int) (option_to_list (below measure i place)) (below_each measure (i + 1) rest)
    (cond_both (has_measure measure place) _ _
    (λ (row : Option Inferred). AllByRecursion (CanSay all places.Int) (option_to_list row))
    (λ has. ((refl, record { place = place; there = here; has = has }), tt)) (λ not. tt))
    (below_said measure all (i + 1) rest
    (λ n. let next : i + suc n ≡ i + 1 + n = omega arith in same (suc n) ∙ ap (slice_get all) next))
  where
    here : slice_get all i ≡ Some place
    here = let first : i ≡ i + 0 = omega arith in ap (slice_get all) first ∙ sym (same 0)

pub rows_said : (place : Place) (args : List Place) (ranges : List Span)
    → AllByRecursion (CanSay args place) (rows place args ranges)
unfolding rows
rows_said places.Void args ranges = tt
rows_said places.Bool args ranges =
    ends_said args places.Bool (pos 0) (pos 255) refl (grind (arith, ints)) (grind (arith, ints)) ranges
rows_said places.Int args ranges =
    let can = CanSay args places.Int in
    let each = λ (measure : Measure).
    below_said measure args 0 args (λ n. let same : n ≡ 0 + n = omega arith in ap (slice_get args) same) in
    let ends = ends_within LEAST GREATEST ranges in
    all_append can (ends ++ below_each measures.Value 0 args) (below_each measures.Length 0 args)
    (all_append can ends (below_each measures.Value 0 args)
    (ends_said args places.Int LEAST GREATEST refl (grind (arith, ints)) (grind (arith, ints)) ranges)
    (each measures.Value))
    (each measures.Length)
rows_said places.Bools args ranges = (tt, tt)
rows_said places.Ints args ranges = (tt, tt)

-- ---- what is taken of rows

module _ (args : List Place) (place : Place) where
  weaker_said : (fact other : Inferred) → CanSay args place fact → weaker fact ≡ Some other → CanSay args place other
  weaker_said (facts.AtLeast lo) other can is = absurd (none-some other is)
  weaker_said (facts.AtMost hi) other can is = absurd (none-some other is)
  weaker_said facts.NotNull other can is = absurd (none-some other is)
  weaker_said (facts.Below measure i) other can is =
      subst (CanSay args place) (same_Some (facts.NotAbove measure i) other is) can
  weaker_said (facts.NotAbove measure i) other can is = absurd (none-some other is)

  -- Those of which this is so.
  abbrev if_so : (Inferred → Bool) → Inferred → Option Inferred
  if_so test fact = if test fact then Some fact else None

  so_said : (test : Inferred → Bool) (fact other : Inferred) → CanSay args place fact → if_so test fact ≡ Some other
      → CanSay args place other
  so_said test fact other can =
      cond_both (test fact) _ _ (λ (o : Option Inferred). o ≡ Some other → CanSay args place other)
      (λ so is. subst (CanSay args place) (same_Some fact other is) can) (λ not is. absurd (none-some other is))

  -- Either a row or what is weaker.
  pub one_said : (test : Inferred → Bool) (fact other : Inferred) → CanSay args place fact
      → option_or (if_so test fact) (option_and_then (if_so test) (weaker fact)) ≡ Some other
      → CanSay args place other
  one_said test fact other can =
      cond_both (test fact) _ _
      (λ (o : Option Inferred). option_or o (option_and_then (if_so test) (weaker fact)) ≡ Some other
      → CanSay args place other)
      (λ so is. subst (CanSay args place) (same_Some fact other is) can) (λ not is. by (weaker fact) refl is)
    where
      by : (o : Option Inferred) → weaker fact ≡ o → option_and_then (if_so test) o ≡ Some other
          → CanSay args place other
      by None at is = absurd (none-some other is)
      by (Some less) at is = so_said test less other (weaker_said fact less can at) is

-- ---- clauses

zero_fits : FitsSigned w32 (pos 0)
zero_fits = grind (arith, ints)

measured_ints : (measure : Measure) (i : ℕ) → AllByRecursion IsIntRoot (preorder (measured measure i))
measured_ints measures.Value i = (tt, tt)
measured_ints measures.Length i = (tt, (tt, tt))

-- The roots of a tree that is denied, behind those of its comparison and of the result.
denied_ints : (other : Term) → AllByRecursion IsIntRoot (preorder other)
    → AllByRecursion IsIntRoot (preorder other ++ preorder (terms.Const (pos 0)))
denied_ints other all =
    all_append IsIntRoot (preorder other) (preorder (terms.Const (pos 0))) all (zero_fits, tt)

ints_said : (args : List Place) (place : Place) (fact : Inferred) → CanSay args place fact → HasInts (clause_of fact)
ints_said args place (facts.AtLeast lo) can = (tt, (tt, (tt, (can.1, (zero_fits, tt)))))
ints_said args place (facts.AtMost hi) can = (tt, (tt, (tt, (can.1, (zero_fits, tt)))))
ints_said args place facts.NotNull can = (tt, (tt, (tt, tt)))
ints_said args place (facts.Below measure i) can = (tt, (tt, measured_ints measure i))
ints_said args place (facts.NotAbove measure i) can =
    (tt, (tt, (tt, denied_ints (measured measure i) (measured_ints measure i))))

measured_kind : (args : List Place) (place : Place) (measure : Measure) (i : ℕ) → HasArg args measure i
    → kind_in args place true (measured measure i) ≡ Some kinds.Int
measured_kind args result measures.Value i arg = rw arg.there (by arg.place arg.has)
  where
    by : (place : Place) → has_measure measures.Value place ≡ true → kind_of place ≡ Some kinds.Int
    by places.Int has = refl
    by places.Bool has = absurd (false≢true has)
    by places.Bools has = absurd (false≢true has)
    by places.Ints has = absurd (false≢true has)
    by places.Void has = absurd (false≢true has)
measured_kind args result measures.Length i arg = rw arg.there (by arg.place arg.has)
  where
    by : (place : Place) → has_measure measures.Length place ≡ true
        → length_kind (kind_of place) ≡ Some kinds.Int
    by places.Int has = absurd (false≢true has)
    by places.Bool has = absurd (false≢true has)
    by places.Bools has = refl
    by places.Ints has = refl
    by places.Void has = absurd (false≢true has)

number_said : (args : List Place) (place : Place) (fact : Inferred) → CanSay args place fact
    → IsNumberClause args place (clause_of fact)
number_said args place (facts.AtLeast lo) can = rw can.0 refl
number_said args place (facts.AtMost hi) can = rw can.0 refl
number_said args places.Bools facts.NotNull can = refl
number_said args places.Ints facts.NotNull can = refl
number_said args places.Void facts.NotNull can = absurd can
number_said args places.Bool facts.NotNull can = absurd can
number_said args places.Int facts.NotNull can = absurd can
number_said args place (facts.Below measure i) can = rw (can.0, measured_kind args place measure i can.1) refl
number_said args place (facts.NotAbove measure i) can = rw (can.0, measured_kind args place measure i can.1) refl

measured_small : (measure : Measure) (i : ℕ) → term_size (measured measure i) ≤ 2
measured_small measures.Value i = omega arith
measured_small measures.Length i = omega arith

small_said : (fact : Inferred) → term_size (tree_of fact) ≤ MAX_NODES
small_said (facts.AtLeast lo) = omega arith
small_said (facts.AtMost hi) = omega arith
small_said facts.NotNull = omega arith
small_said (facts.Below measure i) = omega (arith, measured_small measure i)
small_said (facts.NotAbove measure i) = omega (arith, measured_small measure i)

measured_flat : (measure : Measure) (i : ℕ) → condition_depth (measured measure i) ≡ 0
measured_flat measures.Value i = refl
measured_flat measures.Length i = refl

flat_said : (fact : Inferred) → condition_depth (tree_of fact) ≤ MAX_CONDITIONS
flat_said (facts.AtLeast lo) = omega arith
flat_said (facts.AtMost hi) = omega arith
flat_said facts.NotNull = omega arith
flat_said (facts.Below measure i) = omega (arith, measured_flat measure i)
flat_said (facts.NotAbove measure i) = omega (arith, measured_flat measure i)

measured_new : (measure : Measure) (i : ℕ) → old_count (measured measure i) ≡ 0
measured_new measures.Value i = refl
measured_new measures.Length i = refl

new_said : (fact : Inferred) → old_count (tree_of fact) ≡ 0
new_said (facts.AtLeast lo) = refl
new_said (facts.AtMost hi) = refl
new_said facts.NotNull = refl
new_said (facts.Below measure i) = rw (measured_new measure i) refl
new_said (facts.NotAbove measure i) = rw (measured_new measure i) refl

all_new : (said : List Inferred) → sum_by (λ clause. old_count clause.tree) (map clause_of said) ≡ 0
all_new [] = refl
all_new (fact ∷ said) =
    omega (
      arith,
      sum_by-cons (λ (clause : Clause). old_count clause.tree) (clause_of fact) (map clause_of said),
      new_said fact,
      all_new said,
    )

module _ (args : List Place) (place : Place) where
  each_clause : (P : Clause → Type 0) → ((fact : Inferred) → CanSay args place fact → P (clause_of fact))
      → (said : List Inferred) → AllByRecursion (CanSay args place) said → AllByRecursion P (map clause_of said)
  each_clause P is [] all = tt
  each_clause P is (fact ∷ said) all = (is fact all.0, each_clause P is said all.1)

  -- They may be added to clauses that leave room for them.
  pub may_be_added : (clauses : List Clause) (said : List Inferred) → ClausesWithinLimits clauses
      → AllByRecursion (CanSay args place) said → length clauses + length said ≤ MAX_CLAUSES
      → CanBeAdded args place clauses (map clause_of said)
  may_be_added clauses said within all few = record {
    ensures = each_clause IsAdded (λ fact can. (refl, ints_said args place fact can)) said all;
    numbers = each_clause (IsNumberClause args place) (λ fact can. number_said args place fact can) said all;
    limits = record {
      count = omega (arith, few, length-append clauses (map clause_of said), length-map said clause_of);
      nodes = all_append (λ clause. term_size clause.tree ≤ MAX_NODES) clauses (map clause_of said) within.nodes
          (each_clause (λ clause. term_size clause.tree ≤ MAX_NODES) (λ fact can. small_said fact) said all);
      conditions =
          all_append (λ clause. condition_depth clause.tree ≤ MAX_CONDITIONS) clauses (map clause_of said)
          within.conditions
          (each_clause (λ clause. condition_depth clause.tree ≤ MAX_CONDITIONS) (λ fact can. flat_said fact) said all);
      old_values =
          omega (
            arith,
            within.old_values,
            sum_by-append (λ (clause : Clause). old_count clause.tree) clauses (map clause_of said),
            all_new said,
          );
    };
  }
