-- Where Ensures are added to the methods that a method reaches, and each strengthened unit is safe by itself, the
-- method is safe in the strengthened world, and so it is in its world as written.
use Rattle.std.proofs.Common.{◌≡◌, ℕ, suc, ◌==◌, ◌&&◌, ◌≤◌, List, [], ◌∷◌, length, map, filter_map, get_or, not, Option, Some, None, option_map, IsSome, slice_get, refl, sym, ap, ap₂, subst, ◌∙◌, arith}
use Rattle.std.specs.Prelude.{nat_eq}
use Rattle.std.specs.List.{AllByRecursion, cons_option}
use Rattle.std.specs.Option.{option_and_then}
use Rattle.std.proofs.lemmas.Bool.{and_parts}
use Rattle.std.proofs.lemmas.List.{get_or-map, length-map}
use Rattle.std.proofs.lemmas.Option.{get_or_from_slice_get, none-some, slice_get-map}
use Rattle.asm_image.specs.Rows.{methods_of}
use Rattle.cil_model.specs.Runs.{LocalSafe, Safe}
use Rattle.cil_model.specs.WellFormed.{IsWellFormed}
use Rattle.cil_model.specs.Worlds.{Agree}
use Rattle.cil_model.specs.declared.clause.Clause.{Clause}
use Rattle.cil_model.specs.declared.machine.World.{World}
use Rattle.cil_model.specs.declared.unit.Unit.{Unit as MethodUnit}
use Rattle.safe_worlds.specs.Strengthened.{AreEnsures, RunAlike, added_to, strengthen_world, strengthened, strengthened_in}
use Rattle.safe_worlds.proofs.SafeWorlds.{world_is_safe}
use Rattle.safe_worlds.proofs.StrengthenedWorlds.{agrees, all_strengthened, runs_alike, safe_as_written}
use Rattle.unit_builder.specs.Met.{place_in}
use Rattle.unit_builder.specs.Reach.{Reaches, itself}
use Rattle.unit_builder.specs.Walks.{calls_of, is_reached, tokens_in, unit_at}
use Rattle.unit_builder.specs.WorldOf.{places_in, world_of, world_tokens}
use Rattle.unit_builder.proofs.AgreeLemmas.{each-at, found-get}
use Rattle.unit_builder.proofs.CallFacts.{unit-callees}
use Rattle.unit_builder.proofs.MetLemmas.{place-tells}
use Rattle.unit_builder.proofs.ReachLemmas.{equal_numbers, reaches}
use Rattle.unit_builder.proofs.ReachedWorlds.{AllAnalysed, world_agrees}
use Rattle.unit_builder.proofs.VisitLemmas.{some_is}
use Rattle.unit_builder.proofs.WorldLemmas.{each_passes, each_weaker}

-- ---- lists

-- Where as many are found as are looked for, each of them is found.
module _ {X : Type 0} (find : ℕ → Option X) where
  few_found : (ns : List ℕ) → length (filter_map find ns) ≤ length ns
  few_found [] = omega arith
  few_found (n ∷ ns) = by (find n) (few_found ns)
    where
      by : (found : Option X) → length (filter_map find ns) ≤ length ns
          → length (cons_option found (filter_map find ns)) ≤ suc (length ns)
      by None few = omega (arith, few)
      by (Some x) few = omega (arith, few)

  each_found : (ns : List ℕ) → length (filter_map find ns) ≡ length ns → AllByRecursion (λ n. IsSome (find n)) ns
  each_found [] long = tt
  each_found (n ∷ ns) long = by (find n) (few_found ns) (each_found ns) long
    where
      by : (found : Option X) → length (filter_map find ns) ≤ length ns
          → (length (filter_map find ns) ≡ length ns → AllByRecursion (λ k. IsSome (find k)) ns)
          → length (cons_option found (filter_map find ns)) ≡ suc (length ns)
          → IsSome found × AllByRecursion (λ k. IsSome (find k)) ns
      by None few behind long = absurd (omega (arith, few, long))
      by (Some x) few behind long = (refl, behind (omega (arith, long)))

all_mapped : {X Y : Type 0} (P : Y → Type 0) (f : X → Y) (xs : List X) → AllByRecursion (λ x. P (f x)) xs
    → AllByRecursion P (map f xs)
all_mapped P f [] all = tt
all_mapped P f (x ∷ xs) all = (all.0, all_mapped P f xs all.1)

-- What is added to the methods of an order is added to those at the places of some of them.
added_at_places : (added : ℕ → List Clause) (order keys : List ℕ)
    → AllByRecursion (λ key. IsSome (place_in order key)) keys
    → map (added_to (map added order)) (places_in order keys) ≡ map added keys
added_at_places added order [] all = refl
added_at_places added order (key ∷ keys) all =
    let (place, placed) = some_is (place_in order key) all.0 in
    let at = place-tells order key place placed in
    let here : added_to (map added order) place ≡ added key = get_or-map added order place 0 [] at.0 ∙ ap added at.1 in
    let others = added_at_places added order keys all.1 in
    rw placed (ap₂ (λ (first : List Clause) (lists : List (List Clause)). first ∷ lists) here others)

-- ---- units in an order

module _ (unit : ℕ → Option MethodUnit) (calls : ℕ → List ℕ) (order : List ℕ) where
  -- Their world.
  abbrev ordered : World
  ordered = record { units = filter_map unit order; callee = map (λ key. places_in order (calls key)) order }

  module _ (agree : Agree ordered)
      (as_many : (key : ℕ) (u : MethodUnit) → unit key ≡ Some u → length u.callees ≡ length (calls key)) where
    all_there : AllByRecursion (λ key. IsSome (unit key)) order
    all_there =
        each_found unit order (sym agree.lists ∙ length-map order (λ (key : ℕ). places_in order (calls key)))

    -- The key of the unit of this index.
    record IsUnitOf (m : ℕ) (u : MethodUnit) : Type 0 where
      key : ℕ
      at : slice_get order m ≡ Some key
      is : unit key ≡ Some u

    key_of : (m : ℕ) (u : MethodUnit) → slice_get ordered.units m ≡ Some u → IsUnitOf m u
    key_of m u there = by (slice_get order m) refl (sym (found-get unit order m all_there) ∙ there)
      where
        by : (found : Option ℕ) → slice_get order m ≡ found → option_and_then unit found ≡ Some u → IsUnitOf m u
        by None at is = absurd (none-some u is)
        by (Some key) at is = record { key = key; at = at; is = is }

    module _ (m : ℕ) (u : MethodUnit) (there : slice_get ordered.units m ≡ Some u) where
      abbrev one : IsUnitOf m u
      one = key_of m u there

      abbrev key : ℕ
      key = IsUnitOf.key one

      places_are : slice_get ordered.callee m ≡ Some (places_in order (calls key))
      places_are =
          slice_get-map (λ (k : ℕ). places_in order (calls k)) order m
          ∙ ap (option_map (λ (k : ℕ). places_in order (calls k))) (IsUnitOf.at one)

      all_placed : AllByRecursion (λ called. IsSome (place_in order called)) (calls key)
      all_placed =
          each_found (place_in order) (calls key)
          (agree.counts m u (places_in order (calls key)) there places_are ∙ as_many key u (IsUnitOf.is one))

      module _ (added : ℕ → List Clause) where
        own_added : added_to (map added order) m ≡ added key
        own_added =
            get_or_from_slice_get (map added order) m (added key) []
            (slice_get-map added order m ∙ ap (option_map added) (IsUnitOf.at one))

        callees_added : map (added_to (map added order)) (get_or ordered.callee m []) ≡ map added (calls key)
        callees_added =
            ap (map (added_to (map added order)))
            (get_or_from_slice_get ordered.callee m (places_in order (calls key)) [] places_are)
            ∙ added_at_places added order (calls key) all_placed

        strengthened_is : strengthened u (added key) (map added (calls key))
            ≡ strengthened_in (map added order) ordered m u
        strengthened_is = ap₂ (strengthened u) (sym own_added) (sym callees_added)

    -- What holds of the strengthened unit of each key holds of each unit of the strengthened world.
    each_in_order : (added : ℕ → List Clause) (P : MethodUnit → Type 0) (Q : ℕ → Type 0) → AllByRecursion Q order
        → ((key : ℕ) (u : MethodUnit) → Q key → unit key ≡ Some u
        → P (strengthened u (added key) (map added (calls key))))
        → AllByRecursion P (strengthen_world (map added order) ordered).units
    each_in_order added P Q each holds =
        all_strengthened (map added order) ordered P
        (λ m u there.
        let one = key_of m u there in
        subst P (strengthened_is m u there added)
        (holds (IsUnitOf.key one) u (each-at Q order m (IsUnitOf.key one) each (IsUnitOf.at one)) (IsUnitOf.is one)))

-- ---- the world of a method

-- What is added to the methods of an order.
abbrev pub added_lists : (ℕ → List Clause) → List ℕ → List (List Clause)
added_lists added order = map added order

-- The world of a method with these clauses added to each method that it reaches.
abbrev pub strengthened_world : List ℕ → ℕ → (ℕ → List Clause) → World
strengthened_world asm from added = strengthen_world (added_lists added (world_tokens asm from)) (world_of asm from)

-- The unit of the method of a token, with what is added to it and to each method that it calls.
abbrev pub strengthened_at : List ℕ → (ℕ → List Clause) → ℕ → MethodUnit → MethodUnit
strengthened_at asm added token unit = strengthened unit (added token) (map added (calls_of asm token))

-- P holds of the strengthened unit of each method that is reached.
abbrev pub HoldsOfReached : List ℕ → ℕ → (ℕ → List Clause) → (MethodUnit → Type 0) → Type 0
HoldsOfReached asm from added P =
    (token : ℕ) (unit : MethodUnit) → Reaches (calls_of asm) from token → unit_at asm token ≡ Some unit
    → P (strengthened_at asm added token unit)

-- The method is safe in its strengthened world, which has the runs of its world as written until it faults, and so the
-- method is safe in that one.
pub record IsSafeStrengthened (asm : List ℕ) (from : ℕ) (added : ℕ → List Clause) : Type 0 where
  pub stronger : Safe (strengthened_world asm from added) 0
  pub alike : RunAlike (world_of asm from) (strengthened_world asm from added)
  pub written : Safe (world_of asm from) 0

-- Each method of the world's order is reached.
all_reached : (asm : List ℕ) (from : ℕ) → AllByRecursion (Reaches (calls_of asm) from) (world_tokens asm from)
unfolding world_tokens is_reached
all_reached asm from = (
  itself,
  each_passes (Reaches (calls_of asm) from) (λ token. not (token == from) && is_reached asm from token)
      (tokens_in (methods_of asm))
      (λ token passes.
      reaches nat_eq equal_numbers (calls_of asm) (length (methods_of asm)) from token
      (and_parts (not (token == from)) (is_reached asm from token) passes).1),
)

module _ (asm : List ℕ) (from : ℕ) (added : ℕ → List Clause) (all : AllAnalysed asm from) where
  -- What holds of the strengthened unit of each method that is reached holds of each unit of the strengthened world.
  pub each_strengthened : (P : MethodUnit → Type 0) → HoldsOfReached asm from added P
      → AllByRecursion P (strengthened_world asm from added).units
  unfolding world_of
  each_strengthened P holds =
      each_in_order (unit_at asm) (calls_of asm) (world_tokens asm from) (world_agrees asm from all)
      (λ token unit is. ap length (unit-callees asm token unit is) ∙ length-map (calls_of asm token) _)
      added P (Reaches (calls_of asm) from) (all_reached asm from) holds

  -- Where each strengthened unit is well formed and safe by itself, the method is safe in both worlds.
  pub strengthened_safe : ((token : ℕ) → Reaches (calls_of asm) from token → AreEnsures (added token))
      → HoldsOfReached asm from added IsWellFormed → HoldsOfReached asm from added LocalSafe
      → IsSafeStrengthened asm from added
  strengthened_safe ensures formed safe =
      let order = world_tokens asm from in
      let lists = added_lists added order in
      let written = world_of asm from in
      let are : AllByRecursion AreEnsures lists =
      all_mapped AreEnsures added order
      (each_weaker (Reaches (calls_of asm) from) (λ token. AreEnsures (added token)) ensures order
      (all_reached asm from)) in
      let stronger : Safe (strengthened_world asm from added) 0 =
      world_is_safe (strengthen_world lists written) (agrees lists written (world_agrees asm from all))
      (each_strengthened IsWellFormed formed) (each_strengthened LocalSafe safe) 0 in
      record {
        stronger = stronger;
        alike = runs_alike lists written are;
        written = safe_as_written lists written are 0 stronger;
      }
