-- Units in an order, and the places of their callees in it.
use Rattle.std.proofs.Common.{◌≡◌, ℕ, zero, suc, List, [], ◌∷◌, length, map, filter_map, Option, Some, None, option_map, IsSome, slice_get, refl, sym, ap, ◌∙◌, subst}
use Rattle.std.specs.List.{AllByRecursion}
use Rattle.std.specs.Option.{option_and_then}
use Rattle.std.proofs.lemmas.List.{length-map}
use Rattle.std.proofs.lemmas.Option.{slice_get-get_or, slice_get-map, same_Some}
use Rattle.cil_model.specs.Worlds.{Agree, Names, info_of}
use Rattle.cil_model.specs.declared.unit.CalleeInfo.{CalleeInfo}
use Rattle.cil_model.specs.declared.unit.Unit.{Unit as MethodUnit}
use Rattle.unit_builder.specs.Met.{place_in}
use Rattle.unit_builder.specs.WorldOf.{places_in}
use Rattle.unit_builder.proofs.MetLemmas.{place-tells}
use Rattle.unit_builder.proofs.VisitLemmas.{some_is}
use Rattle.unit_builder.proofs.WalkLemmas.{some_there}

-- ---- a list of what is found of each

module _ {X : Type 0} (find : ℕ → Option X) where
  pub found-long : (ns : List ℕ) → AllByRecursion (λ n. IsSome (find n)) ns → length (filter_map find ns) ≡ length ns
  found-long [] all = refl
  found-long (n ∷ ns) all = let found = some_is (find n) all.0 in rw found.1 (ap suc (found-long ns all.1))

  pub found-get : (ns : List ℕ) (index : ℕ) → AllByRecursion (λ n. IsSome (find n)) ns → slice_get (filter_map find ns) index ≡ option_and_then find (slice_get ns index)
  found-get [] index all = refl
  found-get (n ∷ ns) zero all = let found = some_is (find n) all.0 in rw found.1 refl
  found-get (n ∷ ns) (suc index) all = let found = some_is (find n) all.0 in rw found.1 (found-get ns index all.1)

  found-there : (at : Option ℕ) (x : X) → option_and_then find at ≡ Some x → (n : ℕ) × (at ≡ Some n) × (find n ≡ Some x)
  found-there None x is = absurd cc
  found-there (Some n) x is = (n, refl, is)

pub each-at : (P : ℕ → Type 0) (ns : List ℕ) (index n : ℕ) → AllByRecursion P ns → slice_get ns index ≡ Some n → P n
each-at P [] index n all is = absurd cc
each-at P (first ∷ ns) zero n all is = let same : first ≡ n = cc in subst P same all.0
each-at P (first ∷ ns) (suc index) n all is = each-at P ns index n all.1 is

mapped-there : {X : Type 0} (f : ℕ → X) (at : Option ℕ) (x : X) → option_map f at ≡ Some x → (n : ℕ) × (at ≡ Some n) × (f n ≡ x)
mapped-there f None x is = absurd cc
mapped-there f (Some n) x is = (n, refl, cc)

-- ---- worlds

module _ (unit : ℕ → Option MethodUnit) (calls : ℕ → List ℕ) (info : ℕ → CalleeInfo) (order : List ℕ)
    (analysed : AllByRecursion (λ n. IsSome (unit n)) order)
    (closed : AllByRecursion (λ n. AllByRecursion (λ called. IsSome (place_in order called)) (calls n)) order)
    (callees : (n : ℕ) (u : MethodUnit) → unit n ≡ Some u → u.callees ≡ map info (calls n))
    (same : (n : ℕ) (u : MethodUnit) → IsSome (place_in order n) → unit n ≡ Some u → info n ≡ info_of u) where
  unit-there : (m : ℕ) (u : MethodUnit) → slice_get (filter_map unit order) m ≡ Some u → (n : ℕ) × (slice_get order m ≡ Some n) × (unit n ≡ Some u)
  unit-there m u is = found-there unit (slice_get order m) u (sym (found-get unit order m analysed) ∙ is)

  places-there : (m n : ℕ) → slice_get order m ≡ Some n → slice_get (map (λ k. places_in order (calls k)) order) m ≡ Some (places_in order (calls n))
  places-there m n is = slice_get-map (λ k. places_in order (calls k)) order m ∙ ap (option_map (λ k. places_in order (calls k))) is

  number-there : (m n number called place : ℕ) → slice_get order m ≡ Some n → AllByRecursion (λ k. IsSome (place_in order k)) (calls n)
      → slice_get (calls n) number ≡ Some called → place_in order called ≡ Some place
      → option_and_then (λ cs. slice_get cs number) (slice_get (map (λ k. places_in order (calls k)) order) m) ≡ Some place
  number-there m n number called place there within called_is place_is =
      ap (option_and_then (λ cs. slice_get cs number)) (places-there m n there)
      ∙ found-get (place_in order) (calls n) number within ∙ ap (option_and_then (place_in order)) called_is ∙ place_is

  counts-agree : (m : ℕ) (u : MethodUnit) (places : List ℕ) → slice_get (filter_map unit order) m ≡ Some u
      → slice_get (map (λ n. places_in order (calls n)) order) m ≡ Some places → length places ≡ length u.callees
  counts-agree m u places unit_is places_are =
      let there = unit-there m u unit_is in
      let are : places ≡ places_in order (calls there.0) = same_Some _ _ (sym places_are ∙ places-there m there.0 there.1) in
      ap length are ∙ found-long (place_in order) (calls there.0) (each-at (λ n. AllByRecursion (λ called. IsSome (place_in order called)) (calls n)) order m there.0 closed there.1)
      ∙ sym (length-map (calls there.0) info) ∙ ap length (sym (callees there.0 u there.2))

  names-agree : (m : ℕ) (u : MethodUnit) (number : ℕ) (callee : CalleeInfo) → slice_get (filter_map unit order) m ≡ Some u
      → slice_get u.callees number ≡ Some callee → Names (record { units = filter_map unit order; callee = map (λ n. places_in order (calls n)) order }) m number callee
  names-agree m u number callee unit_is callee_is =
      let there = unit-there m u unit_is in
      let listed : option_map info (slice_get (calls there.0) number) ≡ Some callee =
      sym (slice_get-map info (calls there.0) number) ∙ ap (λ cs. slice_get cs number) (sym (callees there.0 u there.2)) ∙ callee_is in
      let called = mapped-there info (slice_get (calls there.0) number) callee listed in
      let within = each-at (λ n. AllByRecursion (λ called. IsSome (place_in order called)) (calls n)) order m there.0 closed there.1 in
      let place = some_is (place_in order called.0) (each-at (λ k. IsSome (place_in order k)) (calls there.0) number called.0 within called.1) in
      let at = place-tells order called.0 place.0 place.1 in
      let token_is : slice_get order place.0 ≡ Some called.0 = slice_get-get_or order place.0 0 at.0 ∙ ap Some at.1 in
      let named = some_is (unit called.0) (each-at (λ k. IsSome (unit k)) order place.0 called.0 analysed token_is) in
      record {
        index = place.0;
        named = named.0;
        index_is = number-there m there.0 number called.0 place.0 there.1 within called.1 place.1;
        named_is = found-get unit order place.0 analysed ∙ ap (option_and_then unit) token_is ∙ named.1;
        same = sym called.2 ∙ same called.0 named.0 (some_there (place_in order called.0) place.0 place.1) named.1;
      }

  pub agree : Agree (record { units = filter_map unit order; callee = map (λ n. places_in order (calls n)) order })
  agree = record {
    lists = length-map order (λ n. places_in order (calls n)) ∙ sym (found-long unit order analysed);
    counts = counts-agree;
    entries = names-agree;
  }
