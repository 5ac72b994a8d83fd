-- What is found, list by list.
use Rattle.std.proofs.Common.{◌≡◌, ℕ, zero, suc, ◌+◌, ◌<◌, ◌≤◌, Bool, true, false, is_some, List, [], ◌∷◌, ◌++◌, length, take, drop, Option, Some, None, IfSome, slice_get, get_or, unwrap_or, cond, refl, sym, ap, subst, ◌∙◌, arith}
use Rattle.std.specs.List.{AllByRecursion, cons_option, filter, filter_map}
use Rattle.std.specs.Option.{option_map_or}
use Rattle.std.proofs.lemmas.List.{length-append, length-take-le, take_all}
use Rattle.std.proofs.lemmas.List.Elements.{filter-append, filter_map-append}
use Rattle.std.proofs.lemmas.Option.{same_Some, slice_get_read}
use Rattle.cil_model.specs.declared.arg.Arg.{Arg}
use Rattle.cil_model.specs.declared.machine.FaultKind.{FaultKind}
use Rattle.cil_model.specs.declared.machine.World.{World}
use Rattle.cil_model.specs.declared.place.Place.{Place}
use Rattle.cil_model.specs.declared.unit.Unit.{Unit as MethodUnit}
use Rattle.cil_eval.specs.declared.stop.Stop.{Stop}
use Rattle.cil_eval.specs.declared.stop.Stop.TheVariants as stops
use Rattle.witness_search.specs.Choices.{argument_lists}
use Rattle.witness_search.specs.Searches.{EndsInNoFault, HasTried, ending, fault_in, fault_of, found_among, is_started, not_found, searched}
use Rattle.witness_search.specs.declared.answer.Search.TheVariants as searches

-- ---- lists

-- The first item that is left is the next one.
taken_next : {X : Type 0} (xs : List X) (n : ℕ) (x : X) → slice_get (drop n xs) 0 ≡ Some x → take (suc n) xs ≡ take n xs ++ x ∷ []
taken_next [] zero x e = absurd cc
taken_next [] (suc n) x e = absurd cc
taken_next (first ∷ xs) zero x e = ap (λ x. x ∷ []) (same_Some first x e)
taken_next (first ∷ xs) (suc n) x e = ap (λ rest. first ∷ rest) (taken_next xs n x e)

next_taken : {X : Type 0} (xs : List X) (n : ℕ) (x : X) → slice_get (drop n xs) 0 ≡ Some x → take (n + 1) xs ≡ take n xs ++ x ∷ []
next_taken xs n x e = let one_more : n + 1 ≡ suc n = omega arith in ap (λ k. take k xs) one_more ∙ taken_next xs n x e

next_is_there : {X : Type 0} (xs : List X) (n : ℕ) (x : X) → slice_get (drop n xs) 0 ≡ Some x → n < length xs
next_is_there [] zero x e = absurd cc
next_is_there [] (suc n) x e = absurd cc
next_is_there (first ∷ xs) zero x e = omega arith
next_is_there (first ∷ xs) (suc n) x e = omega (arith, next_is_there xs n x e)

none_is_there : {X : Type 0} (xs : List X) (n : ℕ) → None ≡ slice_get (drop n xs) 0 → length xs ≤ n
none_is_there [] n e = omega arith
none_is_there (x ∷ xs) zero e = absurd cc
none_is_there (x ∷ xs) (suc n) e = omega (arith, none_is_there xs n e)

left_next : {X : Type 0} (xs : List X) (n : ℕ) → drop 1 (drop n xs) ≡ drop (suc n) xs
left_next [] zero = refl
left_next [] (suc n) = refl
left_next (x ∷ xs) zero = refl
left_next (x ∷ xs) (suc n) = left_next xs n

others_left : {X : Type 0} (xs : List X) (n : ℕ) → drop 1 (drop n xs) ≡ drop (n + 1) xs
others_left xs n = let one_more : suc n ≡ n + 1 = omega arith in left_next xs n ∙ ap (λ k. drop k xs) one_more

given_next : {Y : Type 0} (given : Option Y) (before all : List Y) (y : Y) → cons_option given before ≡ [] → (before ≡ [] → slice_get all 0 ≡ Some y)
    → slice_get (cons_option given all) 0 ≡ Some y
given_next None before all y none later = later none
given_next (Some other) before all y none later = absurd cc

-- Of the first items, the one after those that give nothing is the first that gives something.
first_given : {X Y : Type 0} (f : X → Option Y) (xs : List X) (n m : ℕ) (x : X) (y : Y) → filter_map f (take n xs) ≡ [] → slice_get (drop n xs) 0 ≡ Some x → f x ≡ Some y → n < m
    → slice_get (filter_map f (take m xs)) 0 ≡ Some y
first_given f xs n zero x y none e gives less = absurd (omega (arith, less))
first_given f [] zero (suc m) x y none e gives less = absurd cc
first_given f [] (suc n) (suc m) x y none e gives less = absurd cc
first_given f (first ∷ xs) zero (suc m) x y none e gives less =
    ap (λ given. slice_get (cons_option given (filter_map f (take m xs))) 0) (ap f (same_Some first x e) ∙ gives)
first_given f (first ∷ xs) (suc n) (suc m) x y none e gives less =
    given_next (f first) (filter_map f (take n xs)) (filter_map f (take m xs)) y none (λ rest. first_given f xs n m x y rest e gives (omega (arith, less)))

-- ---- one list more

abbrev pub number_of : Bool → ℕ
number_of true = 1
number_of false = 0

pub nothing_tried : (w : World) (index : ℕ) (lists : List (List Arg)) → HasTried w index lists 0 0 lists
nothing_tried w index lists = record { left_are = refl; few = omega arith; no_fault = refl; started_is = refl; few_started = omega arith }

module _ (w : World) (index : ℕ) (lists : List (List Arg)) (tried started : ℕ) (left : List (List Arg)) (so_far : HasTried w index lists tried started left) where
  module _ (given : List Arg) (next : Some given ≡ slice_get left 0) where
    there : slice_get (drop tried lists) 0 ≡ Some given
    there = ap (λ all. slice_get all 0) (sym so_far.left_are) ∙ sym next

    taken : take (tried + 1) lists ≡ take tried lists ++ given ∷ []
    taken = next_taken lists tried given there

    counted_one : (b : Bool) → b ≡ is_started w index given → length (filter (is_started w index) (given ∷ [])) ≡ number_of b
    counted_one b is = ap (λ b. length (cond b (given ∷ []) [])) (sym is) ∙ by b
      where
        by : (b : Bool) → length (cond b (given ∷ []) []) ≡ number_of b
        by true = refl
        by false = refl

    at_most_one : (b : Bool) → number_of b ≤ 1
    at_most_one true = omega arith
    at_most_one false = omega arith

    tried_more : (b : Bool) (more : ℕ) → fault_of w index given ≡ None → b ≡ is_started w index given → more ≡ started + number_of b → HasTried w index lists (tried + 1) more (drop 1 left)
    tried_more b more none is sum = record {
      left_are = ap (λ all. drop 1 all) so_far.left_are ∙ others_left lists tried;
      few = omega (arith, next_is_there lists tried given there);
      no_fault =
          ap (filter_map (fault_of w index)) taken ∙ filter_map-append (fault_of w index) (take tried lists) (given ∷ [])
          ∙ ap (λ found. found ++ cons_option (fault_of w index given) []) so_far.no_fault ∙ ap (λ fault. cons_option fault []) none;
      started_is =
          sum ∙ ap (λ n. n + number_of b) so_far.started_is ∙ ap (λ n. length (filter (is_started w index) (take tried lists)) + n) (sym (counted_one b is))
          ∙ sym (ap (λ some. length (filter (is_started w index) some)) taken ∙ ap length (filter-append (is_started w index) (take tried lists) (given ∷ []))
          ∙ length-append (filter (is_started w index) (take tried lists)) (filter (is_started w index) (given ∷ [])));
      few_started = omega (arith, sum, at_most_one b, so_far.few_started);
    }

    is_no_fault : (stop : Option Stop) → EndsInNoFault stop → fault_in given stop ≡ None
    is_no_fault None otherwise = refl
    is_no_fault (Some (stops.Fault kind unit at)) otherwise = absurd (otherwise kind unit at refl)
    is_no_fault (Some (stops.Returned result)) otherwise = refl
    is_no_fault (Some (stops.Assumed unit at)) otherwise = refl
    is_no_fault (Some stops.Steps) otherwise = refl
    is_no_fault (Some stops.Depth) otherwise = refl
    is_no_fault (Some stops.Cells) otherwise = refl

    module _ (v : World) (same : v ≡ w) (stop : Option Stop) (ends : stop ≡ ending v index given) where
      ends_so : stop ≡ ending w index given
      ends_so = ends ∙ ap (λ w. ending w index given) same

      -- A list with which no run ends in a fault is tried.
      pub tried_one : (more : ℕ) → is_some stop ≡ is_started v index given → EndsInNoFault stop → more ≡ started + number_of (is_some stop) → HasTried w index lists (tried + 1) more (drop 1 left)
      tried_one more starts otherwise sum =
          tried_more (is_some stop) more (ap (fault_in given) (sym ends_so) ∙ is_no_fault stop otherwise) (starts ∙ ap (λ w. is_started w index given) same) sum

      -- The first list with which a run ends in a fault is found.
      pub found_one : (runs : ℕ) (kind : FaultKind) (unit at : ℕ) (first : List Arg) → stop ≡ Some (stops.Fault kind unit at) → tried < runs → IfSome (slice_get left 0) (λ given. first ≡ given)
          → searches.Found first kind unit at ≡ found_among w index (take runs lists)
      found_one runs kind unit at first fault less is =
          ap (λ given. searches.Found given kind unit at) (subst (λ given. IfSome given (λ given. first ≡ given)) (sym next) is)
          ∙ sym (ap (λ first. unwrap_or first (not_found w index (take runs lists)))
          (first_given (fault_of w index) lists tried runs given (searches.Found given kind unit at) so_far.no_fault there (ap (fault_in given) (sym ends_so ∙ fault)) less))

  counted : (some : List (List Arg)) → take tried lists ≡ some → length some ≡ tried → searches.NotFound tried started ≡ found_among w index some
  counted some are many =
      ap (λ n. searches.NotFound n started) (sym many)
      ∙ ap (λ n. searches.NotFound (length some) n) (so_far.started_is ∙ ap (λ all. length (filter (is_started w index) all)) are)
      ∙ sym (ap (λ found. unwrap_or (slice_get found 0) (not_found w index some)) (ap (filter_map (fault_of w index)) (sym are) ∙ so_far.no_fault))

  -- No list is left.
  pub none_is_left : (runs : ℕ) → None ≡ slice_get left 0 → tried ≤ runs → searches.NotFound tried started ≡ found_among w index (take runs lists)
  none_is_left runs none few =
      let all : length lists ≤ tried = none_is_there lists tried (none ∙ ap (λ all. slice_get all 0) so_far.left_are) in
      let whole : take runs lists ≡ lists = take_all runs lists (omega (arith, all, few)) in
      counted (take runs lists) (take_all tried lists all ∙ sym whole) (ap length whole ∙ omega (arith, all, so_far.few))

  -- As many lists were tried as may be.
  pub all_are_tried : (runs : ℕ) → tried ≡ runs → searches.NotFound runs started ≡ found_among w index (take runs lists)
  all_are_tried runs e =
      ap (λ n. searches.NotFound n started) (sym e)
      ∙ counted (take runs lists) (ap (λ n. take n lists) e) (ap (λ n. length (take n lists)) (sym e) ∙ length-take-le tried lists so_far.few)

-- ---- what a search tells

-- Where something is given first, there is an item that gives it, and those before give nothing.
pub record GivesFirst (X Y : Type 0) (f : X → Option Y) (xs : List X) (y : Y) : Type 0 where
  pub before : List X
  pub item : X
  pub after : List X
  pub items_are : xs ≡ before ++ item ∷ after
  pub none_before : AllByRecursion (λ x. f x ≡ None) before
  pub gives : f item ≡ Some y

pub gives_first : {X Y : Type 0} (f : X → Option Y) (xs : List X) (y : Y) → slice_get (filter_map f xs) 0 ≡ Some y → GivesFirst X Y f xs y
gives_first f [] y e = absurd cc
gives_first f (x ∷ xs) y e = by (f x) refl (λ rest. gives_first f xs y rest) e
  where
    by : (given : Option _) → f x ≡ given → (slice_get (filter_map f xs) 0 ≡ Some y → GivesFirst _ _ f xs y) → slice_get (cons_option given (filter_map f xs)) 0 ≡ Some y
        → GivesFirst _ _ f (x ∷ xs) y
    by None is later e =
        let rest = later e in
        record {
          before = x ∷ rest.before;
          item = rest.item;
          after = rest.after;
          items_are = ap (λ xs. x ∷ xs) rest.items_are;
          none_before = (is, rest.none_before);
          gives = rest.gives;
        }
    by (Some found) is later e = record { before = []; item = x; after = xs; items_are = refl; none_before = tt; gives = is ∙ ap Some (same_Some found y e) }

pub give_nothing : {X Y : Type 0} (f : X → Option Y) (xs : List X) → slice_get (filter_map f xs) 0 ≡ None → AllByRecursion (λ x. f x ≡ None) xs
give_nothing f [] e = tt
give_nothing f (x ∷ xs) e = by (f x) refl (λ rest. give_nothing f xs rest) e
  where
    by : (given : Option _) → f x ≡ given → (slice_get (filter_map f xs) 0 ≡ None → AllByRecursion (λ x. f x ≡ None) xs)
        → slice_get (cons_option given (filter_map f xs)) 0 ≡ None → (f x ≡ None) × AllByRecursion (λ x. f x ≡ None) xs
    by None is later e = (is, later e)
    by (Some found) is later e = absurd cc

-- ---- the search of a method

-- What is found among the first lists of a method is what the search finds.
pub searched_of : (w v : World) (index runs : ℕ) (units : List MethodUnit) (unit : MethodUnit) (types : List Place) (lists : List (List Arg)) → v ≡ w → units ≡ w.units
    → index < length w.units → unit ≡ get_or units index unit → types ≡ unit.args → lists ≡ argument_lists types → found_among v index (take runs lists) ≡ searched w index runs
unfolding searched
searched_of w v index runs units unit types lists same all inside is types_are lists_are =
    let of : slice_get w.units index ≡ Some unit = slice_get_read w.units (length w.units) index unit refl inside (is ∙ ap (λ units. get_or units index unit) all) in
    ap (λ w. found_among w index (take runs lists)) same
    ∙ ap (λ lists. found_among w index (take runs lists)) (lists_are ∙ ap argument_lists types_are
    ∙ sym (ap (λ unit. option_map_or (λ (unit : MethodUnit). argument_lists unit.args) unit []) of))
