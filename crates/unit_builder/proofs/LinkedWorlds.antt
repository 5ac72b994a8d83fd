-- The world of a method of linked files, all of whose reach is analysed: its units agree on what they say of each
-- other, and each of them is the unit of a method that is reached.
use Rattle.std.proofs.Common.{◌≡◌, ℕ, zero, suc, ◌+◌, ◌-◌, ◌<◌, ◌≤◌, ◌^◌, ◌==◌, ◌&&◌, Bool, true, false, not, cond, List, [], ◌∷◌, ◌++◌, length, map, filter, filter_map, get_or, slice_get, Contains, Option, Some, None, option_map, IsSome, refl, sym, ap, ap₂, subst, ◌∙◌, true≢false, length-append, arith}
use Rattle.std.specs.Prelude.{nat_eq}
use Rattle.std.specs.List.{AllByRecursion, flat_map, range_with_len}
use Rattle.std.specs.Option.{option_and_then, option_map_or}
use Rattle.std.proofs.lemmas.Bool.{and_parts, eq-eqb, eqb-true, leb-true, ne_eqb}
use Rattle.std.proofs.lemmas.List.{append-nil, get_or-map, get_or_append_left, length-map}
use Rattle.std.proofs.lemmas.List.Elements.{Contains-append_right}
use Rattle.std.proofs.lemmas.List.FromFn.{get_or-range_with_len, length-range_with_len}
use Rattle.std.proofs.lemmas.Option.{get_or_from_slice_get, slice_get-get_or, slice_get_within}
use Rattle.asm_image.specs.Bodies.{method_of}
use Rattle.asm_image.specs.Rows.{methods_of}
use Rattle.asm_image.specs.declared.method_row.MethodRow.{MethodRow}
use Rattle.cc_base.specs.Tokens.{row_of, table_of}
use Rattle.cil_model.specs.Worlds.{Agree}
use Rattle.cil_model.specs.declared.machine.World.{World}
use Rattle.cil_model.specs.declared.unit.Unit.{Unit as MethodUnit}
use Rattle.metadata_tables.specs.Numbers.{method_def}
use Rattle.method_unit.specs.Units.{IsUnit}
use Rattle.unit_builder.specs.Bodies.{callee_keys}
use Rattle.unit_builder.specs.Graphs.{calls_in, calls_of_method, is_reached_in, keys_in, keys_of_file, unit_in, world_in, world_keys}
use Rattle.unit_builder.specs.Linked.{linked, linked_calls, linked_method, linked_unit, linked_world}
use Rattle.unit_builder.specs.Meanings.{as_token}
use Rattle.unit_builder.specs.Met.{first_method, place_in}
use Rattle.unit_builder.specs.Outcomes.{outcome_in, outcome_of}
use Rattle.unit_builder.specs.Reach.{Reaches, itself, onward, reaches_in}
use Rattle.unit_builder.specs.Scopes.{Files, alone, file_of, info_in, key_at, scope_in, token_in}
use Rattle.unit_builder.specs.Walks.{calls_by, calls_of, is_reached as is_reached_alone, tokens_in, unit_at}
use Rattle.unit_builder.specs.WorldOf.{places_in, world_of, world_tokens}
use Rattle.unit_builder.specs.declared.entry.Outcome.{Outcome}
use Rattle.unit_builder.specs.declared.entry.Outcome.TheVariants.{Analysed, Skipped}
use Rattle.unit_builder.proofs.AgreeLemmas.{agree, each-at}
use Rattle.unit_builder.proofs.CallFacts.{CallsMethods, callees_in_unit, info_in_agrees, key_called, linked_calls_there}
use Rattle.unit_builder.proofs.KeyFacts.{file_at, is_at, key_back, token_back}
use Rattle.unit_builder.proofs.LinkedReach.{IsReach, reach_of}
use Rattle.unit_builder.proofs.MetLemmas.{place-tells}
use Rattle.unit_builder.proofs.ReachedWorlds.{each_found}
use Rattle.unit_builder.proofs.TokenLemmas.{token_at}
use Rattle.unit_builder.proofs.VisitLemmas.{row_there, some_is}
use Rattle.unit_builder.proofs.WorldLemmas.{each_contained, each_passes, each_weaker, placed, placed_behind, placed_filter}

-- ---- the method of a key

pub method_at : (files : List (List ℕ)) (file token : ℕ) (asm : List ℕ) → token < 2 ^ 32 → slice_get files file ≡ Some asm
    → (linked files).method (key_at file token) ≡ method_of asm (as_token token)
unfolding linked_method
method_at files file token asm small there =
    ap (λ (t : ℕ). option_and_then (λ (a : List ℕ). method_of a (as_token t)) (slice_get files (file_of (key_at file token)))) (token_back file token small)
    ∙ ap (λ (f : ℕ). option_and_then (λ (a : List ℕ). method_of a (as_token token)) (slice_get files f)) (file_at file token small)
    ∙ ap (option_and_then (λ (a : List ℕ). method_of a (as_token token))) there

pub file_there : (files : List (List ℕ)) (key : ℕ) → IsSome ((linked files).method key) → file_of key < length files
file_there files key there =
    let found = some_is ((linked files).method key) there in
    let at = is_at files key found.0 found.1 in slice_get_within files (file_of key) at.asm at.file

-- The token of the method of a token is that token.
pub token_is : (asm : List ℕ) (token : ℕ) (method : MethodRow) → method_of asm (as_token token) ≡ Some method → method.token.0 ≡ token
token_is asm token method named =
    let row = row_there asm (as_token token) method named in
    let number = token_at asm (row_of token - 1) method row.1 in
    let parts = and_parts _ _ row.0 in
    by token method.token.0 (eqb-true _ _ parts.0) (leb-true _ _ parts.1) number
  where
    by : (token number : ℕ) → table_of token ≡ method_def → 1 ≤ row_of token → number ≡ first_method + (row_of token - 1) → number ≡ token
    by token number table some is = omega (arith, table, some, is)

-- ---- all keys

contains_left : {X : Type 0} (xs ys : List X) (x : X) → Contains xs x → Contains (xs ++ ys) x
contains_left xs ys x (place, lt, is) = (place, omega (arith, lt, length-append xs ys), get_or_append_left xs ys x place lt ∙ is)

in_flat : {X : Type 0} (f : ℕ → List X) (ns : List ℕ) (n : ℕ) (x : X) (place : ℕ) → place < length ns → get_or ns place n ≡ n → Contains (f n) x → Contains (flat_map f ns) x
in_flat f [] n x place lt is has = absurd (omega (arith, lt))
in_flat f (first ∷ ns) n x zero lt is has = contains_left (f first) (flat_map f ns) x (subst (λ (m : ℕ). Contains (f m) x) (sym is) has)
in_flat f (first ∷ ns) n x (suc place) lt is has = Contains-append_right (f first) (flat_map f ns) x (in_flat f ns n x place (omega (arith, lt)) is has)

in_file : (files : List (List ℕ)) (key : ℕ) (method : MethodRow) → linked_method files key ≡ Some method → Contains (keys_of_file (linked files) (file_of key)) key
in_file files key method is =
    let at = is_at files key method is in
    let asm = get_or files (file_of key) [] in
    let same : asm ≡ at.asm = get_or_from_slice_get files (file_of key) at.asm [] at.file in
    let index = row_of (token_in key) - 1 in
    let row : slice_get (methods_of asm) index ≡ Some method =
    ap (λ (a : List ℕ). slice_get (methods_of a) index) same ∙ (row_there at.asm (as_token (token_in key)) method at.named).1 in
    let lt = slice_get_within (methods_of asm) index method row in
    let here : key_at (file_of key) method.token.0 ≡ key =
    ap (key_at (file_of key)) (token_is at.asm (token_in key) method at.named) ∙ key_back key in (
      index,
      omega (arith, lt, length-map (methods_of asm) (λ (m : MethodRow). key_at (file_of key) m.token.0)),
      get_or-map (λ (m : MethodRow). key_at (file_of key) m.token.0) (methods_of asm) index method key lt
          ∙ ap (λ (m : MethodRow). key_at (file_of key) m.token.0) (get_or_from_slice_get (methods_of asm) index method method row) ∙ here,
    )

listed : (files : List (List ℕ)) (key : ℕ) → IsSome (linked_method files key) → Contains (keys_in (linked files)) key
unfolding keys_in
listed files key there =
    let found = some_is (linked_method files key) there in
    let lt = file_there files key there in
    let zero_more : 0 + file_of key ≡ file_of key = omega arith in
    in_flat (keys_of_file (linked files)) (range_with_len 0 (length files)) (file_of key) key (file_of key)
    (omega (arith, lt, length-range_with_len 0 (length files))) (get_or-range_with_len 0 (length files) (file_of key) (file_of key) lt ∙ zero_more)
    (in_file files key found.0 found.1)

-- What is called is a method.
calls_there : (files : Files) → CallsMethods files → (key called : ℕ) → Contains (calls_in files key) called → IsSome (files.method called)
unfolding calls_in
calls_there files calls key called there = of_method (files.method key) there where
  by_outcome : (method : MethodRow) (outcome : Outcome) → Contains (calls_by (callee_keys (scope_in files (file_of key)) method) outcome) called → IsSome (files.method called)
  by_outcome method (Analysed unit) there = key_called files calls (file_of key) method called there
  by_outcome method (Skipped reason) there = absurd (omega (arith, there.1))

  of_method : (method : Option MethodRow) → Contains (option_map_or (calls_of_method (scope_in files (file_of key))) method []) called → IsSome (files.method called)
  of_method None there = absurd (omega (arith, there.1))
  of_method (Some method) there = by_outcome method (outcome_in (scope_in files (file_of key)) method) there

-- ---- the world

-- The method is one of the files, and each method that it reaches is analysed, with a unit that can be run.
pub record AllAnalysedIn (files : Files) (from : ℕ) : Type 0 where
  pub there : IsSome (files.method from)
  pub analysed : (key : ℕ) → IsSome (files.method key) → Reaches (calls_in files) from key → IsSome (unit_in files key)
  pub units : (key : ℕ) (unit : MethodUnit) → Reaches (calls_in files) from key → unit_in files key ≡ Some unit → IsUnit unit

module _ (bytes : List (List ℕ)) (from : ℕ) (all : AllAnalysedIn (linked bytes) from) where
  abbrev files : Files
  files = linked bytes

  abbrev its_reach : Type 0
  its_reach = IsReach (keys_in files) (calls_in files) (λ key. IsSome (files.method key)) (listed bytes) (calls_there files (linked_calls_there bytes)) from

  reach : its_reach
  reach = reach_of (keys_in files) (calls_in files) (λ key. IsSome (files.method key)) (listed bytes) (calls_there files (linked_calls_there bytes)) from all.there

  reaching : (key : ℕ) → is_reached_in files from key ≡ true → Reaches (calls_in files) from key
  unfolding is_reached_in
  reaching key is = (IsReach.reached reach key).0 is

  is_reached : (key : ℕ) → Reaches (calls_in files) from key → is_reached_in files from key ≡ true
  unfolding is_reached_in
  is_reached key way = (IsReach.reached reach key).1 way

  method_there : (key : ℕ) → is_reached_in files from key ≡ true → IsSome (files.method key)
  unfolding is_reached_in
  method_there key is = IsReach.there reach key is

  each_reached : AllByRecursion (λ key. is_reached_in files from key ≡ true) (world_keys files from)
  unfolding world_keys
  each_reached = (
    is_reached from itself,
    each_passes (λ key. is_reached_in files from key ≡ true) (λ key. not (key == from) && is_reached_in files from key) (keys_in files)
        (λ key passes. (and_parts (not (key == from)) (is_reached_in files from key) passes).1),
  )

  in_order : (key : ℕ) → is_reached_in files from key ≡ true → IsSome (place_in (world_keys files from) key)
  unfolding world_keys
  in_order key reached =
      by (from == key) (place_in (filter (λ k. not (k == from) && is_reached_in files from k) (keys_in files)) key)
      (λ other.
      let has = listed bytes key (method_there key reached) in
      placed_filter (λ k. not (k == from) && is_reached_in files from k) (keys_in files) key (passes other)
      (placed (keys_in files) key has.0 has.1 (zero_default (keys_in files) key has.0 has.1 ∙ has.2))) refl
    where
      zero_default : (ns : List ℕ) (d place : ℕ) → place < length ns → get_or ns place 0 ≡ get_or ns place d
      zero_default [] d place lt = absurd (omega (arith, lt))
      zero_default (n ∷ ns) d zero lt = refl
      zero_default (n ∷ ns) d (suc place) lt = zero_default ns d place (omega (arith, lt))

      passes : (from == key) ≡ false → (not (key == from) && is_reached_in files from key) ≡ true
      passes other = rw (ne_eqb key from (λ same. true≢false (sym (eq-eqb from key (sym same)) ∙ other)), reached) refl

      by : (b : Bool) (rest : Option ℕ) → ((from == key) ≡ false → IsSome rest) → (from == key) ≡ b → IsSome (cond b (Some 0) (option_map suc rest))
      by true rest there is = refl
      by false rest there is = placed_behind false rest (there is)

  reached_placed : (key : ℕ) → IsSome (place_in (world_keys files from) key) → is_reached_in files from key ≡ true
  reached_placed key there =
      let found = some_is (place_in (world_keys files from) key) there in
      let at = place-tells (world_keys files from) key found.0 found.1 in
      subst (λ k. is_reached_in files from k ≡ true) at.1
      (each-at (λ k. is_reached_in files from k ≡ true) (world_keys files from) found.0 _ each_reached (slice_get-get_or (world_keys files from) found.0 0 at.0))

  analysed : (key : ℕ) → is_reached_in files from key ≡ true → IsSome (unit_in files key)
  analysed key reached = all.analysed key (method_there key reached) (reaching key reached)

  pub linked_agrees : Agree (linked_world bytes from)
  unfolding world_in
  linked_agrees =
      agree (unit_in files) (calls_in files) (info_in files) (world_keys files from)
      (each_weaker (λ key. is_reached_in files from key ≡ true) (λ key. IsSome (unit_in files key)) analysed (world_keys files from) each_reached)
      (each_weaker (λ key. is_reached_in files from key ≡ true) (λ key. AllByRecursion (λ called. IsSome (place_in (world_keys files from) called)) (calls_in files key))
      (λ key reached. each_contained (λ called. IsSome (place_in (world_keys files from) called)) (calls_in files key)
      (λ called there. in_order called (is_reached called (onward (reaching key reached) there)))) (world_keys files from) each_reached)
      (callees_in_unit files)
      (λ key unit there is. info_in_agrees files key unit is (all.units key unit (reaching key (reached_placed key there)) is))

  -- What is so of the unit of each method that is reached is so of each unit of the world.
  pub each_of_linked : (P : MethodUnit → Type 0)
      → ((key : ℕ) (unit : MethodUnit) → IsSome (files.method key) → Reaches (linked_calls bytes) from key → linked_unit bytes key ≡ Some unit → P unit)
      → AllByRecursion P (linked_world bytes from).units
  unfolding world_in
  each_of_linked P holds =
      each_found P (unit_in files) (λ key. is_reached_in files from key ≡ true) (world_keys files from)
      (λ key unit reached is. holds key unit (method_there key reached) (reaching key reached) is) each_reached

-- The unit of a method that is analysed is the first of its world.
pub linked_begins : (bytes : List (List ℕ)) (from : ℕ) (unit : MethodUnit) → linked_unit bytes from ≡ Some unit → slice_get (linked_world bytes from).units 0 ≡ Some unit
unfolding world_in world_keys
linked_begins bytes from unit is = first_found (unit_in (linked bytes)) from _ is
  where
    first_found : (find : ℕ → Option MethodUnit) (n : ℕ) (ns : List ℕ) → find n ≡ Some unit → slice_get (filter_map find (n ∷ ns)) 0 ≡ Some unit
    first_found find n ns is = rw is refl

-- ---- one file alone

alone_keys : (asm : List ℕ) → keys_in (alone asm) ≡ tokens_in (methods_of asm)
unfolding keys_in
alone_keys asm = append-nil (keys_of_file (alone asm) 0) ∙ same (methods_of asm)
  where
    same : (methods : List MethodRow) → map (λ (m : MethodRow). key_at 0 m.token.0) methods ≡ tokens_in methods
    same [] = refl
    same (method ∷ methods) = let zero_more : key_at 0 method.token.0 ≡ method.token.0 = omega arith in λ i. zero_more i ∷ same methods i

-- The world that keys and a bound on ways make of one file.
abbrev world_by : List ℕ → ℕ → List ℕ → ℕ → World
world_by asm from keys steps =
    let order = from ∷ filter (λ key. not (key == from) && reaches_in nat_eq (calls_of asm) steps from key) keys in
    record { units = filter_map (unit_at asm) order; callee = map (λ key. places_in order (calls_of asm key)) order }

-- The world of a method of one file is the case of one.
pub alone_world : (asm : List ℕ) (from : ℕ) → world_in (alone asm) from ≡ world_of asm from
unfolding world_in world_of world_keys world_tokens is_reached_in is_reached_alone unit_in unit_at calls_in calls_of outcome_of
alone_world asm from =
    let keys = alone_keys asm in
    let long : length (keys_in (alone asm)) ≡ length (methods_of asm) = ap length keys ∙ length-map (methods_of asm) (λ (m : MethodRow). m.token.0) in
    ap₂ (world_by asm from) keys long
