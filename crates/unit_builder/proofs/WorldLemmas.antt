-- The world of a method, out of what was made of all that it reaches.
use Rattle.std.proofs.Common.{◌≡◌, ◌↔◌, ℕ, zero, suc, ◌+◌, ◌-◌, ◌<◌, ◌==◌, Bool, true, false, not, ◌&&◌, ⊎_elim, cond, List, [], ◌∷◌, length, map, get_or, filter, filter_map, Contains, Option, Some, None, option_map, is_none, IsSome, Err, refl, sym, ap, ◌∙◌, subst, arith}
use Rattle.std.specs.List.{AllByRecursion, cons_option, find}
use Rattle.std.specs.Option.{option_and_then}
use Rattle.std.proofs.lemmas.Bool.{and_parts, cases_lt, eq-eqb, eqb-true, ne_eqb, true≢false}
use Rattle.std.proofs.lemmas.List.{get_or-map, length-map}
use Rattle.std.proofs.lemmas.Option.{same_Some, slice_get-get_or}
use Rattle.asm_image.specs.Bodies.{method_of}
use Rattle.asm_image.specs.Rows.{methods_of}
use Rattle.asm_image.specs.declared.method_row.MethodRow.{MethodRow}
use Rattle.cil_model.specs.Worlds.{Agree}
use Rattle.cil_model.specs.declared.unit.Unit.{Unit as MethodUnit}
use Rattle.unit_builder.specs.Met.{first_method, place_in}
use Rattle.unit_builder.specs.Meanings.{as_token}
use Rattle.method_unit.specs.Units.{IsUnit}
use Rattle.unit_builder.specs.Scopes.{alone, info_in}
use Rattle.unit_builder.specs.Reach.{Reaches, itself, onward}
use Rattle.unit_builder.specs.Walks.{IsWhole, Tells, calls_of, is_reached, numbers, tokens_in, unit_at}
use Rattle.unit_builder.specs.WorldOf.{IfNotAnalysed, IsLeastSkipped, JudgesWorld, is_missing, least_skipped, made, places_in, places_made, unit_made, world_of, world_tokens}
use Rattle.unit_builder.specs.declared.reach.Visited.{Visited}
use Rattle.unit_builder.specs.declared.world.WorldRefusal.{WorldRefusal}
use Rattle.unit_builder.specs.declared.world.WorldRefusal.TheVariants.{NotAnalysed, NoMemory}
use Rattle.unit_builder.proofs.AgreeLemmas.{agree, each-at}
use Rattle.unit_builder.proofs.CallFacts.{info-agrees, unit-callees}
use Rattle.unit_builder.proofs.MetLemmas.{place-tells}
use Rattle.unit_builder.proofs.ReachLemmas.{Contains-behind}
use Rattle.unit_builder.proofs.TokenLemmas.{named-among, token_at}
use Rattle.unit_builder.proofs.VisitLemmas.{some_is}

-- ---- lists

pub placed_behind : (b : Bool) (place : Option ℕ) → IsSome place → IsSome (cond b (Some 0) (option_map suc place))
placed_behind true place there = refl
placed_behind false None there = absurd cc
placed_behind false (Some place) there = refl

pub placed : (ns : List ℕ) (n place : ℕ) → place < length ns → get_or ns place 0 ≡ n → IsSome (place_in ns n)
placed [] n place lt is = absurd (omega arith)
placed (first ∷ ns) n zero lt is = rw (eq-eqb first n is) refl
placed (first ∷ ns) n (suc place) lt is = placed_behind (first == n) (place_in ns n) (placed ns n place (omega arith) is)

some_behind : (place : Option ℕ) → IsSome (option_map suc place) → IsSome place
some_behind None there = absurd cc
some_behind (Some at) there = refl

-- What passes a test stays.
kept_behind : (b : Bool) (place kept : Option ℕ) → (IsSome place → IsSome kept) → IsSome (cond b (Some 0) (option_map suc place)) → IsSome (cond b (Some 0) (option_map suc kept))
kept_behind true place kept rest there = refl
kept_behind false place kept rest there = placed_behind false kept (rest (some_behind place there))

left_out : (b : Bool) (place : Option ℕ) → (b ≡ true → ⊥) → IsSome (cond b (Some 0) (option_map suc place)) → IsSome place
left_out true place apart there = absurd (apart refl)
left_out false place apart there = some_behind place there

placed_kept : (keep : Bool) (first n : ℕ) (ns kept : List ℕ) → (first ≡ n → keep ≡ true) → (IsSome (place_in ns n) → IsSome (place_in kept n))
    → IsSome (place_in (first ∷ ns) n) → IsSome (place_in (cond keep (first ∷ kept) kept) n)
placed_kept true first n ns kept passes rest there = kept_behind (first == n) (place_in ns n) (place_in kept n) rest there
placed_kept false first n ns kept passes rest there =
    rest (left_out (first == n) (place_in ns n) (λ same. true≢false (sym (passes (eqb-true first n same)))) there)

pub placed_filter : (test : ℕ → Bool) (ns : List ℕ) (n : ℕ) → test n ≡ true → IsSome (place_in ns n) → IsSome (place_in (filter test ns) n)
placed_filter test [] n passes there = there
placed_filter test (first ∷ ns) n passes there =
    placed_kept (test first) first n ns (filter test ns) (λ same. ap test same ∙ passes) (placed_filter test ns n passes) there

passes_kept : (P : ℕ → Type 0) (keep : Bool) (n : ℕ) (ns : List ℕ) → (keep ≡ true → P n) → AllByRecursion P ns → AllByRecursion P (cond keep (n ∷ ns) ns)
passes_kept P true n ns holds all = (holds refl, all)
passes_kept P false n ns holds all = all

pub each_passes : (P : ℕ → Type 0) (test : ℕ → Bool) (ns : List ℕ) → ((n : ℕ) → test n ≡ true → P n) → AllByRecursion P (filter test ns)
each_passes P test [] holds = tt
each_passes P test (n ∷ ns) holds = passes_kept P (test n) n (filter test ns) (holds n) (each_passes P test ns holds)

pub each_weaker : (P Q : ℕ → Type 0) → ((n : ℕ) → P n → Q n) → (ns : List ℕ) → AllByRecursion P ns → AllByRecursion Q ns
each_weaker P Q so [] all = tt
each_weaker P Q so (n ∷ ns) all = (so n all.0, each_weaker P Q so ns all.1)

pub each_contained : (P : ℕ → Type 0) (ns : List ℕ) → ((n : ℕ) → Contains ns n → P n) → AllByRecursion P ns
each_contained P [] holds = tt
each_contained P (n ∷ ns) holds = (holds n (0, omega arith, refl), each_contained P ns (λ m there. holds m (Contains-behind n ns m there)))

found_same : {X : Type 0} (one other : ℕ → Option X) (ns : List ℕ) → AllByRecursion (λ n. one n ≡ other n) ns → filter_map one ns ≡ filter_map other ns
found_same one other [] all = refl
found_same one other (n ∷ ns) all = rw (all.0, found_same one other ns all.1) refl

found_all : {X : Type 0} (one : ℕ → Option X) (each : ℕ → X) (ns : List ℕ) → AllByRecursion (λ n. one n ≡ Some (each n)) ns → filter_map one ns ≡ map each ns
found_all one each [] all = refl
found_all one each (n ∷ ns) all = rw (all.0, found_all one each ns all.1) refl

-- Where nothing is found, each fails.
none_behind : (test : ℕ → Bool) (m : ℕ) (ns : List ℕ) → find test (m ∷ ns) ≡ None → (test m ≡ false) × (find test ns ≡ None)
none_behind test m ns none = behind (test m) refl none where
  behind : (b : Bool) → test m ≡ b → cond b (Some m) (find test ns) ≡ None → (test m ≡ false) × (find test ns ≡ None)
  behind true passes none = absurd cc
  behind false fails none = (fails, none)

none_found : (test : ℕ → Bool) (ns : List ℕ) → find test ns ≡ None → (place : ℕ) → place < length ns → test (get_or ns place 0) ≡ false
none_found test [] none place lt = absurd (omega arith)
none_found test (n ∷ ns) none zero lt = (none_behind test n ns none).0
none_found test (n ∷ ns) none (suc place) lt = none_found test ns (none_behind test n ns none).1 place (omega arith)

-- What is found passes, and those before it fail.
record IsFirst (test : ℕ → Bool) (ns : List ℕ) (n : ℕ) : Type 0 where
  place : ℕ
  within : place < length ns
  there : get_or ns place 0 ≡ n
  passes : test n ≡ true
  earlier : (before : ℕ) → before < place → test (get_or ns before 0) ≡ false

first_later : (test : ℕ → Bool) (m : ℕ) (ns : List ℕ) (n : ℕ) → test m ≡ false → IsFirst test ns n → IsFirst test (m ∷ ns) n
first_later test m ns n fails first = record {
  place = suc first.place;
  within = omega (arith, first.within);
  there = first.there;
  passes = first.passes;
  earlier = before_it;
} where
  before_it : (before : ℕ) → before < suc first.place → test (get_or (m ∷ ns) before 0) ≡ false
  before_it zero lt = fails
  before_it (suc before) lt = first.earlier before (omega arith)

first_by : (b : Bool) (test : ℕ → Bool) (m : ℕ) (ns : List ℕ) (n : ℕ) → test m ≡ b → (find test ns ≡ Some n → IsFirst test ns n) → cond b (Some m) (find test ns) ≡ Some n → IsFirst test (m ∷ ns) n
first_by true test m ns n passes rest is =
    let same : m ≡ n = cc in
    record { place = 0; within = omega arith; there = same; passes = ap test (sym same) ∙ passes; earlier = λ before lt. absurd (omega arith) }
first_by false test m ns n fails rest is = first_later test m ns n fails (rest is)

first_found : (test : ℕ → Bool) (ns : List ℕ) (n : ℕ) → find test ns ≡ Some n → IsFirst test ns n
first_found test [] n is = absurd cc
first_found test (m ∷ ns) n is = first_by (test m) test m ns n refl (first_found test ns n) is

-- ---- the tokens of an assembly

number_at : (asm : List ℕ) (index : ℕ) → index < length (methods_of asm) → get_or (tokens_in (methods_of asm)) index 0 ≡ first_method + index
number_at asm index lt = at (methods_of asm) refl where
  at : (methods : List MethodRow) → methods ≡ methods_of asm → get_or (tokens_in (methods_of asm)) index 0 ≡ first_method + index
  at [] none = absurd (omega (arith, ap length none))
  at (d ∷ methods) are =
      get_or-map (λ (m : MethodRow). m.token.0) (methods_of asm) index d 0 lt
      ∙ token_at asm index (get_or (methods_of asm) index d) (slice_get-get_or (methods_of asm) index d lt)

-- The place of a method among them.
place_of : (asm : List ℕ) (token : ℕ) → IsSome (method_of asm (as_token token))
    → (token - first_method < length (tokens_in (methods_of asm))) × (get_or (tokens_in (methods_of asm)) (token - first_method) 0 ≡ token)
place_of asm token there =
    let among = named-among asm (as_token token) there in
    let long = length-map (methods_of asm) (λ (m : MethodRow). m.token.0) in
    (omega (arith, among.from, among.below), number_at asm (token - first_method) (omega (arith, among.from, among.below)) ∙ omega (arith, among.from))

-- ---- what is missing

missing_is : {X : Type 0} (reached : Bool) (found : Option X) → reached ≡ true → (reached && is_none found) ≡ false → IsSome found
missing_is true None is there = absurd cc
missing_is true (Some x) is there = refl
missing_is false found is there = absurd cc

none_is : {X : Type 0} (found : Option X) → is_none found ≡ true → found ≡ None
none_is None none = refl
none_is (Some x) none = absurd cc

-- ---- units that agree

module _ (asm : List ℕ) (from : ℕ) (reached_is : (token : ℕ) → (is_reached asm from token ≡ true) ↔ Reaches (calls_of asm) from token)
    (there_is : (token : ℕ) → is_reached asm from token ≡ true → IsSome (method_of asm (as_token token))) where
  pub each_reached : AllByRecursion (λ token. is_reached asm from token ≡ true) (world_tokens asm from)
  unfolding world_tokens
  each_reached = (
    (reached_is from).1 itself,
    each_passes (λ token. is_reached asm from token ≡ true) (λ token. not (token == from) && is_reached asm from token) (tokens_in (methods_of asm))
        (λ token passes. (and_parts (not (token == from)) (is_reached asm from token) passes).1),
  )

  in_order : (token : ℕ) → is_reached asm from token ≡ true → IsSome (place_in (world_tokens asm from) token)
  unfolding world_tokens
  in_order token reached = in_by (from == token) (place_in (filter (λ t. not (t == from) && is_reached asm from t) (tokens_in (methods_of asm))) token) (λ other. placed_filter (λ t. not (t == from) && is_reached asm from t) (tokens_in (methods_of asm)) token
      (passes other)
      (placed (tokens_in (methods_of asm)) token (token - first_method) (place_of asm token (there_is token reached)).0 (place_of asm token (there_is token reached)).1)) refl where
        passes : (from == token) ≡ false → (not (token == from) && is_reached asm from token) ≡ true
        passes other = rw (ne_eqb token from (λ same. true≢false (sym (eq-eqb from token (sym same)) ∙ other)), reached) refl

        in_by : (b : Bool) (rest : Option ℕ) → ((from == token) ≡ false → IsSome rest) → (from == token) ≡ b → IsSome (cond b (Some 0) (option_map suc rest))
        in_by true rest there is = refl
        in_by false rest there is = placed_behind false rest (there is)

  reached_placed : (token : ℕ) → IsSome (place_in (world_tokens asm from) token) → is_reached asm from token ≡ true
  reached_placed token there =
      let found = some_is (place_in (world_tokens asm from) token) there in
      let at = place-tells (world_tokens asm from) token found.0 found.1 in
      subst (λ t. is_reached asm from t ≡ true) at.1 (each-at (λ t. is_reached asm from t ≡ true) (world_tokens asm from) found.0 _ each_reached (slice_get-get_or (world_tokens asm from) found.0 0 at.0))

  -- Where each method that is reached is analysed, and its unit is one, the units agree.
  pub reached_agree : ((token : ℕ) → is_reached asm from token ≡ true → IsSome (unit_at asm token))
      → ((token : ℕ) (unit : MethodUnit) → is_reached asm from token ≡ true → unit_at asm token ≡ Some unit → IsUnit unit) → Agree (world_of asm from)
  unfolding world_of
  reached_agree analysed runs =
      agree (unit_at asm) (calls_of asm) (info_in (alone asm)) (world_tokens asm from)
      (each_weaker (λ token. is_reached asm from token ≡ true) (λ token. IsSome (unit_at asm token)) analysed (world_tokens asm from) each_reached)
      (each_weaker (λ token. is_reached asm from token ≡ true) (λ token. AllByRecursion (λ called. IsSome (place_in (world_tokens asm from) called)) (calls_of asm token))
      (λ token reached. each_contained (λ called. IsSome (place_in (world_tokens asm from) called)) (calls_of asm token)
      (λ called there. in_order called ((reached_is called).1 (onward ((reached_is token).0 reached) there)))) (world_tokens asm from) each_reached)
      (unit-callees asm)
      (λ token unit there is. info-agrees asm token unit is (runs token unit (reached_placed token there) is))

module _ (asm : List ℕ) (from : ℕ) (tokens : List ℕ) (visits : List (Option Visited)) (whole : IsWhole asm from tokens visits) where
  pub each_analysed : least_skipped asm from ≡ None → (token : ℕ) → Reaches (calls_of asm) from token → IsSome (unit_at asm token)
  unfolding least_skipped
  each_analysed none token way =
      let reached = (whole.reached token).1 way in
      let at = place_of asm token (whole.there token reached) in
      let fails = none_found (is_missing asm from) (tokens_in (methods_of asm)) none (token - first_method) at.0 in
      missing_is (is_reached asm from token) (unit_at asm token) reached (ap (is_missing asm from) (sym at.1) ∙ fails)

  pub least_is : (token : ℕ) → least_skipped asm from ≡ Some token → IsLeastSkipped asm from token
  unfolding least_skipped
  least_is token is =
      let first = first_found (is_missing asm from) (tokens_in (methods_of asm)) token is in
      let parts = and_parts (is_reached asm from token) (is_none (unit_at asm token)) first.passes in
      record {
        reached = (whole.reached token).0 parts.0;
        skipped = none_is (unit_at asm token) parts.1;
        least = λ other way skipped. ⊎_elim (λ less. absurd (earlier first other way skipped less)) (λ more. more) (cases_lt other token);
      } where
        earlier : IsFirst (is_missing asm from) (tokens_in (methods_of asm)) token → (other : ℕ) → Reaches (calls_of asm) from other → unit_at asm other ≡ None → other < token → ⊥
        earlier first other way skipped less =
            let reached = (whole.reached other).1 way in
            let at = place_of asm other (whole.there other reached) in
            let long = length-map (methods_of asm) (λ (m : MethodRow). m.token.0) in
            let number = number_at asm first.place (omega (arith, first.within)) in
            let among = named-among asm (as_token other) (whole.there other reached) in
            let fails = first.earlier (other - first_method) (omega (arith, among.from, first.there)) in
            let some = missing_is (is_reached asm from other) (unit_at asm other) reached (ap (is_missing asm from) (sym at.1) ∙ fails) in
            cc

  pub refused_least : {X : Type 0} (P : X → Type 0) (refusal : WorldRefusal) → JudgesWorld (Err refusal) (least_skipped asm from) P → IfNotAnalysed {X = X} (Err refusal) (IsLeastSkipped asm from)
  refused_least P (NotAnalysed token) judged = least_is token.0 judged
  refused_least P NoMemory judged = tt

  -- ---- what was made

  tells-made : (token : ℕ) → is_reached asm from token ≡ true → Tells asm token (made tokens visits token)
  tells-made token reached =
      let found = some_is (place_in tokens token) (whole.met token ∙ reached) in
      let at = place-tells tokens token found.0 found.1 in
      let told = whole.told found.0 (omega (arith, at.0, whole.all)) in
      let made_is : get_or visits found.0 None ≡ made tokens visits token = ap (option_and_then (λ place. get_or visits place None)) (sym found.1) in
      subst (λ v. Tells asm token v) made_is (subst (λ t. Tells asm t (get_or visits found.0 None)) at.1 told)

  unit-told : (token : ℕ) (slot : Option Visited) → Tells asm token slot → option_map (λ (v : Visited). v.unit) slot ≡ unit_at asm token
  unit-told token None none = sym none
  unit-told token (Some visited) told = sym told.unit

  places-told : (order : List ℕ) (token : ℕ) (slot : Option Visited) → Tells asm token slot → IsSome (unit_at asm token)
      → option_map (λ (v : Visited). places_in order (numbers v.callees.items)) slot ≡ Some (places_in order (calls_of asm token))
  places-told order token None none some = absurd cc
  places-told order token (Some visited) told some = ap (λ calls. Some (places_in order calls)) told.callees

  pub world_is : (order : List ℕ) (units : List MethodUnit) (callee : List (List ℕ)) → least_skipped asm from ≡ None → order ≡ world_tokens asm from
      → units ≡ filter_map (unit_made tokens visits) order → callee ≡ filter_map (places_made order tokens visits) order → record { units = units; callee = callee } ≡ world_of asm from
  unfolding world_of
  world_is order units callee none order_is units_are callee_are =
      let units_same : units ≡ filter_map (unit_at asm) (world_tokens asm from) =
      units_are ∙ ap (filter_map (unit_made tokens visits)) order_is
      ∙ found_same (unit_made tokens visits) (unit_at asm) (world_tokens asm from)
      (each_weaker (λ token. is_reached asm from token ≡ true) (λ token. unit_made tokens visits token ≡ unit_at asm token)
      (λ token reached. unit-told token (made tokens visits token) (tells-made token reached)) (world_tokens asm from) (each_reached asm from whole.reached whole.there)) in
      let callee_same : callee ≡ map (λ token. places_in (world_tokens asm from) (calls_of asm token)) (world_tokens asm from) =
      callee_are ∙ ap (λ ts. filter_map (places_made ts tokens visits) ts) order_is
      ∙ found_all (places_made (world_tokens asm from) tokens visits) (λ token. places_in (world_tokens asm from) (calls_of asm token)) (world_tokens asm from)
      (each_weaker (λ token. is_reached asm from token ≡ true)
      (λ token. places_made (world_tokens asm from) tokens visits token ≡ Some (places_in (world_tokens asm from) (calls_of asm token)))
      (λ token reached. places-told (world_tokens asm from) token (made tokens visits token) (tells-made token reached) (each_analysed none token ((whole.reached token).0 reached)))
      (world_tokens asm from) (each_reached asm from whole.reached whole.there)) in
      λ i. record { units = units_same i; callee = callee_same i }

  -- ---- what holds of the units

  run_found : (ns : List ℕ) → AllByRecursion (λ token. is_reached asm from token ≡ true) ns → AllByRecursion IsUnit (filter_map (unit_made tokens visits) ns)
  run_found [] all = tt
  run_found (n ∷ ns) all = of_slot (made tokens visits n) (tells-made n all.0) (run_found ns all.1) where
    of_slot : (slot : Option Visited) → Tells asm n slot → AllByRecursion IsUnit (filter_map (unit_made tokens visits) ns)
        → AllByRecursion IsUnit (cons_option (option_map (λ (v : Visited). v.unit) slot) (filter_map (unit_made tokens visits) ns))
    of_slot None none rest = rest
    of_slot (Some visited) told rest = (told.is_unit, rest)

  pub all_are_units : (order : List ℕ) (units : List MethodUnit) → order ≡ world_tokens asm from → units ≡ filter_map (unit_made tokens visits) order → AllByRecursion IsUnit units
  all_are_units order units order_is units_are = rw (units_are, order_is) (run_found (world_tokens asm from) (each_reached asm from whole.reached whole.there))

  runs-told : (token : ℕ) (slot : Option Visited) → Tells asm token slot → (unit : MethodUnit) → unit_at asm token ≡ Some unit → IsUnit unit
  runs-told token None none unit is = absurd cc
  runs-told token (Some visited) told unit is = subst IsUnit (same_Some visited.unit unit (sym told.unit ∙ is)) told.is_unit

  runs : (token : ℕ) (unit : MethodUnit) → is_reached asm from token ≡ true → unit_at asm token ≡ Some unit → IsUnit unit
  runs token unit reached is = runs-told token (made tokens visits token) (tells-made token reached) unit is

  pub agrees : least_skipped asm from ≡ None → Agree (world_of asm from)
  agrees none =
      reached_agree asm from whole.reached whole.there
      (λ token reached. each_analysed none token ((whole.reached token).0 reached)) runs
