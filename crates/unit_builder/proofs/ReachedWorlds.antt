-- The world of a method all of whose reach is analysed: its units agree on what they say of each other, and each of
-- them is the unit of a method that is reached.
use Rattle.std.proofs.Common.{◌≡◌, ◌↔◌, ℕ, zero, suc, ◌+◌, ◌-◌, ◌<◌, ◌≤◌, ◌^◌, ◌==◌, true, not, List, [], ◌∷◌, ◌++◌, length, filter_map, get_or, set, slice_get, Contains, Option, Some, None, IsSome, count_by, refl, sym, ap, subst, ◌∙◌, inl, inr, length-append, length-set, arith}
use Rattle.std.specs.Prelude.{nat_eq}
use Rattle.std.specs.List.{AllByRecursion, cons_option}
use Rattle.std.proofs.lemmas.Bool.{cases_lt, eq-eqb}
use Rattle.std.proofs.lemmas.List.{get_or_append_left}
use Rattle.std.proofs.lemmas.List.Sums.{count_by-le-length}
use Rattle.asm_image.specs.Bodies.{method_of}
use Rattle.asm_image.specs.Rows.{methods_of}
use Rattle.cil_model.specs.Worlds.{Agree}
use Rattle.cil_model.specs.declared.unit.Unit.{Unit as MethodUnit}
use Rattle.unit_builder.specs.Meanings.{as_token}
use Rattle.method_unit.specs.Units.{IsUnit}
use Rattle.unit_builder.specs.Met.{IsAmong, TellsPlaces, all_met, counted, first_method, met, met_by, place_in}
use Rattle.unit_builder.specs.Reach.{Reaches, reaches_in}
use Rattle.unit_builder.specs.Walks.{calls_of, is_reached, unit_at}
use Rattle.unit_builder.specs.WorldOf.{world_of, world_tokens}
use Rattle.unit_builder.proofs.MetLemmas.{before_or_last, cell-tells, place-stays, place-tells, tells_more}
use Rattle.unit_builder.proofs.ReachLemmas.{Contains-behind, equal_numbers, goes_on, reaches, stays_in, within_more}
use Rattle.unit_builder.proofs.TokenLemmas.{named-among}
use Rattle.unit_builder.proofs.VisitLemmas.{some_is}
use Rattle.unit_builder.proofs.WalkLemmas.{all-each, all-extends, all-stays, all-there, calls-there, some_there}
use Rattle.unit_builder.proofs.WorldLemmas.{each_reached, reached_agree}

-- ---- the table of places

-- A table without a place.
abbrev zeros : ℕ → List ℕ
zeros zero = []
zeros (suc n) = 0 ∷ zeros n

zeros_long : (n : ℕ) → length (zeros n) ≡ n
zeros_long zero = refl
zeros_long (suc n) = ap suc (zeros_long n)

zero_at : (n index : ℕ) → get_or (zeros n) index 0 ≡ 0
zero_at zero index = refl
zero_at (suc n) zero = refl
zero_at (suc n) (suc index) = zero_at n index

none_filled : (n : ℕ) → count_by (λ cell. not (cell == 0)) (zeros n) ≡ 0
none_filled zero = refl
none_filled (suc n) = none_filled n

none_placed : (n : ℕ) → first_method + n ≤ 2 ^ 32 → TellsPlaces (zeros n) []
none_placed n small = record {
  short = omega (arith, small, zeros_long n);
  among = λ place lt. absurd (omega (arith, lt));
  each = λ place lt. absurd (omega (arith, lt));
  cells = λ index lt. zero_at n index;
  filled = none_filled n;
}

-- A table of so many methods tells the places of these.
record HasTable (count : ℕ) (order : List ℕ) : Type 0 where
  places : List ℕ
  long : length places ≡ count
  tells : TellsPlaces places order

-- No more are met than there are.
few_met : (count : ℕ) (order : List ℕ) → HasTable count order → length order ≤ count
few_met count order table =
    omega (
      arith,
      table.long,
      TellsPlaces.filled table.tells,
      count_by-le-length (λ (cell : ℕ). not (cell == 0)) table.places,
    )

one_met : (count : ℕ) (order : List ℕ) (token : ℕ) → HasTable count order → IsAmong count token → HasTable count (met order token)
one_met count order token table among = by (place_in order token) refl
  where
    here : IsAmong (length table.places) token
    here = subst (λ (n : ℕ). IsAmong n token) (sym table.long) among

    by : (place : Option ℕ) → place_in order token ≡ place → HasTable count (met_by order token place)
    by (Some place) is = table
    by None none =
        let free = cell-tells table.places order token table.tells here ∙ ap counted none in record {
          places = set table.places (token - first_method) (length (order ++ token ∷ []));
          long = length-set table.places (token - first_method) (length (order ++ token ∷ [])) ∙ table.long;
          tells = tells_more table.places order token table.tells here free;
        }

more_met : (count : ℕ) (calls order : List ℕ) → HasTable count order → ((token : ℕ) → Contains calls token → IsAmong count token)
    → HasTable count (all_met order calls)
more_met count [] order table among = table
more_met count (token ∷ calls) order table among =
    more_met count calls (met order token) (one_met count order token table (among token (0, omega arith, refl)))
    (λ other has. among other (Contains-behind token calls other has))

-- ---- the way

-- The methods that were met on the way from a method. The calls of the first n of them were followed.
record IsOnWay (asm : List ℕ) (from : ℕ) (tokens : List ℕ) (n : ℕ) : Type 0 where
  start : place_in tokens from ≡ Some 0
  there : (place : ℕ) → place < length tokens → IsSome (method_of asm (as_token (get_or tokens place 0)))
  near : (place : ℕ) → place < length tokens → reaches_in nat_eq (calls_of asm) place from (get_or tokens place 0) ≡ true
  within : n ≤ length tokens
  closed : (place token : ℕ) → place < n → Contains (calls_of asm (get_or tokens place 0)) token → IsSome (place_in tokens token)

-- All that a method reaches is told by ways that are no longer than there are methods, and is a method.
record IsReach (asm : List ℕ) (from : ℕ) : Type 0 where
  reached : (token : ℕ) → (is_reached asm from token ≡ true) ↔ Reaches (calls_of asm) from token
  there : (token : ℕ) → is_reached asm from token ≡ true → IsSome (method_of asm (as_token token))

module _ (asm : List ℕ) (from : ℕ) (tokens : List ℕ) (n : ℕ) (way : IsOnWay asm from tokens n) (next : n < length tokens) where
  abbrev calls : List ℕ
  calls = calls_of asm (get_or tokens n 0)

  stays : (place : ℕ) → place < length tokens → get_or (all_met tokens calls) place 0 ≡ get_or tokens place 0
  stays place lt =
      let extends = all-extends tokens calls in
      ap (λ (ts : List ℕ). get_or ts place 0) extends.1 ∙ get_or_append_left tokens extends.0 0 place lt

  longer : length tokens ≤ length (all_met tokens calls)
  longer = let extends = all-extends tokens calls in omega (arith, ap length extends.1, length-append tokens extends.0)

  closed_more : (place token : ℕ) → place < suc n → Contains (calls_of asm (get_or (all_met tokens calls) place 0)) token
      → IsSome (place_in (all_met tokens calls) token)
  closed_more place token lt called =
      let of_old = subst (λ (t : ℕ). Contains (calls_of asm t) token) (stays place (omega (arith, lt, next))) called in
      elim (before_or_last n place (omega (arith, lt))) [
        | inl before ↦ all-stays tokens calls token (way.closed place token before of_old)
        | inr last ↦
            let here : Contains calls token =
            subst (λ (p : ℕ). Contains (calls_of asm (get_or tokens p 0)) token) (sym last) of_old in
            all-there calls tokens token here.0 here.1 here.2
      ]

  way_on : IsOnWay asm from (all_met tokens calls) (suc n)
  way_on =
      let extends = all-extends tokens calls in record {
        start = ap (λ (ts : List ℕ). place_in ts from) extends.1 ∙ place-stays tokens extends.0 from 0 way.start;
        there = all-each (λ place token. IsSome (method_of asm (as_token token))) calls tokens way.there
            (λ token called place after. calls-there asm (get_or tokens n 0) token called);
        near = all-each (λ place token. reaches_in nat_eq (calls_of asm) place from token ≡ true) calls tokens way.near
            (λ token called place after.
            within_more nat_eq equal_numbers (calls_of asm) (suc n) place from token (omega (arith, after, next))
            (goes_on nat_eq equal_numbers (calls_of asm) n from (get_or tokens n 0) token (way.near n next) called));
        within = omega (arith, longer, next);
        closed = closed_more;
      }

  calls_among : (called : ℕ) → Contains calls called → IsAmong (length (methods_of asm)) called
  calls_among called has = named-among asm (as_token called) (calls-there asm (get_or tokens n 0) called has)

module _ (asm : List ℕ) (from : ℕ) (tokens : List ℕ) (n : ℕ) (way : IsOnWay asm from tokens n) (all : length tokens ≤ n)
    (few : length tokens ≤ length (methods_of asm)) where
  met_if_reaching : (token : ℕ) → Reaches (calls_of asm) from token → IsSome (place_in tokens token)
  met_if_reaching token reaching =
      stays_in nat_eq equal_numbers (calls_of asm) (λ t. IsSome (place_in tokens t))
      (λ m to met called.
      let found = some_is (place_in tokens m) met in
      let at = place-tells tokens m found.0 found.1 in
      way.closed found.0 to (omega (arith, at.0, all)) (subst (λ (t : ℕ). Contains (calls_of asm t) to) (sym at.1) called))
      from token (some_there (place_in tokens from) 0 way.start) reaching

  reached_if_met : (token : ℕ) → IsSome (place_in tokens token) → is_reached asm from token ≡ true
  unfolding is_reached
  reached_if_met token there =
      let found = some_is (place_in tokens token) there in
      let at = place-tells tokens token found.0 found.1 in
      within_more nat_eq equal_numbers (calls_of asm) found.0 (length (methods_of asm)) from token (omega (arith, at.0, few))
      (subst (λ (t : ℕ). reaches_in nat_eq (calls_of asm) found.0 from t ≡ true) at.1 (way.near found.0 at.0))

  reaching_if_reached : (token : ℕ) → is_reached asm from token ≡ true → Reaches (calls_of asm) from token
  unfolding is_reached
  reaching_if_reached token reached = reaches nat_eq equal_numbers (calls_of asm) (length (methods_of asm)) from token reached

  reach : IsReach asm from
  reach = record {
    reached = λ token. (reaching_if_reached token, λ reaching. reached_if_met token (met_if_reaching token reaching));
    there = λ token reached.
        let found = some_is (place_in tokens token) (met_if_reaching token (reaching_if_reached token reached)) in
        let at = place-tells tokens token found.0 found.1 in
        subst (λ (t : ℕ). IsSome (method_of asm (as_token t))) at.1 (way.there found.0 at.0);
  }

-- It goes on while methods are met whose calls were not followed.
goes_far : (asm : List ℕ) (from left : ℕ) (tokens : List ℕ) (n : ℕ) → IsOnWay asm from tokens n → HasTable (length (methods_of asm)) tokens
    → length (methods_of asm) ≤ n + left → IsReach asm from
goes_far asm from zero tokens n way table enough =
    let few = few_met (length (methods_of asm)) tokens table in reach asm from tokens n way (omega (arith, few, enough)) few
goes_far asm from (suc left) tokens n way table enough =
    let few = few_met (length (methods_of asm)) tokens table in
    elim (cases_lt n (length tokens)) [
      | inl next ↦
          goes_far asm from left (all_met tokens (calls_of asm (get_or tokens n 0))) (suc n) (way_on asm from tokens n way next)
          (more_met (length (methods_of asm)) (calls_of asm (get_or tokens n 0)) tokens table (calls_among asm from tokens n way next))
          (omega (arith, enough))
      | inr all ↦ reach asm from tokens n way (omega (arith, all)) few
    ]

pub first_alone : (P : ℕ → ℕ → Type 0) (from : ℕ) → P 0 from → (place : ℕ) → place < length (from ∷ []) → P place (get_or (from ∷ []) place 0)
first_alone P from first zero lt = first
first_alone P from first (suc place) lt = absurd (omega (arith, lt))

reach_of : (asm : List ℕ) (from : ℕ) → first_method + length (methods_of asm) ≤ 2 ^ 32 → IsSome (method_of asm (as_token from)) → IsReach asm from
reach_of asm from small there =
    let count = length (methods_of asm) in
    let same : place_in (from ∷ []) from ≡ Some 0 = rw (eq-eqb from from refl) refl in
    goes_far asm from count (from ∷ []) 0
    (record {
      start = same;
      there = first_alone (λ n token. IsSome (method_of asm (as_token token))) from there;
      near = first_alone (λ n token. reaches_in nat_eq (calls_of asm) n from token ≡ true) from (eq-eqb from from refl);
      within = omega arith;
      closed = λ place token lt called. absurd (omega (arith, lt));
    })
    (one_met count [] from (record { places = zeros count; long = zeros_long count; tells = none_placed count small }) (named-among asm (as_token from) there))
    (omega arith)

-- ---- the world

put_unit : (P : MethodUnit → Type 0) (found : Option MethodUnit) (units : List MethodUnit) → ((unit : MethodUnit) → found ≡ Some unit → P unit)
    → AllByRecursion P units → AllByRecursion P (cons_option found units)
put_unit P None units holds rest = rest
put_unit P (Some unit) units holds rest = (holds unit refl, rest)

pub each_found : (P : MethodUnit → Type 0) (find : ℕ → Option MethodUnit) (Q : ℕ → Type 0) (ns : List ℕ)
    → ((n : ℕ) (unit : MethodUnit) → Q n → find n ≡ Some unit → P unit) → AllByRecursion Q ns → AllByRecursion P (filter_map find ns)
each_found P find Q [] holds all = tt
each_found P find Q (n ∷ ns) holds all =
    put_unit P (find n) (filter_map find ns) (λ unit is. holds n unit all.0 is) (each_found P find Q ns holds all.1)

-- The method is one of an assembly, and each method that it reaches is analysed, with a unit that can be run.
pub record AllAnalysed (asm : List ℕ) (from : ℕ) : Type 0 where
  pub small : first_method + length (methods_of asm) ≤ 2 ^ 32
  pub there : IsSome (method_of asm (as_token from))
  pub analysed : (token : ℕ) → IsSome (method_of asm (as_token token)) → Reaches (calls_of asm) from token → IsSome (unit_at asm token)
  pub units : (token : ℕ) (unit : MethodUnit) → unit_at asm token ≡ Some unit → IsUnit unit

module _ (asm : List ℕ) (from : ℕ) (all : AllAnalysed asm from) where
  its_reach : IsReach asm from
  its_reach = reach_of asm from all.small all.there

  pub world_agrees : Agree (world_of asm from)
  world_agrees =
      let reach = its_reach in
      reached_agree asm from (IsReach.reached reach) (IsReach.there reach)
      (λ token reached. all.analysed token (IsReach.there reach token reached) ((IsReach.reached reach token).0 reached))
      (λ token unit reached is. all.units token unit is)

  -- What is so of the unit of each method that is reached is so of each unit of the world.
  pub each_of_world : (P : MethodUnit → Type 0)
      → ((token : ℕ) (unit : MethodUnit) → IsSome (method_of asm (as_token token)) → Reaches (calls_of asm) from token → unit_at asm token ≡ Some unit → P unit)
      → AllByRecursion P (world_of asm from).units
  unfolding world_of
  each_of_world P holds =
      let reach = its_reach in
      each_found P (unit_at asm) (λ token. is_reached asm from token ≡ true) (world_tokens asm from)
      (λ token unit reached is. holds token unit (IsReach.there reach token reached) ((IsReach.reached reach token).0 reached) is)
      (each_reached asm from (IsReach.reached reach) (IsReach.there reach))

-- The unit of a method that is analysed is the first of its world.
pub world_begins : (asm : List ℕ) (from : ℕ) (unit : MethodUnit) → unit_at asm from ≡ Some unit → slice_get (world_of asm from).units 0 ≡ Some unit
unfolding world_of world_tokens
world_begins asm from unit is = first_found (unit_at asm) from _ is
  where
    first_found : (find : ℕ → Option MethodUnit) (n : ℕ) (ns : List ℕ) → find n ≡ Some unit → slice_get (filter_map find (n ∷ ns)) 0 ≡ Some unit
    first_found find n ns found = rw found refl
