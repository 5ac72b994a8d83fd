-- The arguments that are taken one by one are those of a call.
use Rattle.std.proofs.Common.{◌≡◌, ◌≤◌, List, [], ◌∷◌, ◌++◌, length, reverse, take, drop, Option, Some, None, option_map, refl, sym, ap, ◌∙◌, append_assoc, arith}
use Rattle.std.proofs.lemmas.List.{length-reverse, reverse-append}
use Rattle.cil_model.specs.Values.{Heap, put, put_all, with_first}
use Rattle.cil_model.specs.declared.machine.Value.{Value}
use Rattle.cil_model.specs.declared.place.Place.{Place}
use Rattle.cil_eval.specs.Taken.{Taken, taken, taken_with}

none_of : (heap : Heap) (places : List Place) (args : List Value) → 1 ≤ length places → None ≡ taken heap places args []
none_of heap [] args some = absurd (omega arith)
none_of heap (place ∷ places) args some = refl

pub nothing_taken : (heap : Heap) (places : List Place) (args stack : List Value) → 1 ≤ length places → stack ≡ [] → None ≡ taken heap (reverse places) args stack
nothing_taken heap places args stack some e = rw e (none_of heap (reverse places) args (omega (arith, length-reverse places)))

module _ (heap : Heap) where
  -- ---- values that are put, and one more

  abbrev put_behind : Option (List Value) → Option Value → Option (List Value)
  put_behind (Some values) (Some value) = Some (values ++ value ∷ [])
  put_behind _ _ = None

  first_behind : (first : Option Value) (others : Option (List Value)) (last : Option Value)
      → with_first first (put_behind others last) ≡ put_behind (with_first first others) last
  first_behind None None None = refl
  first_behind None None (Some last) = refl
  first_behind None (Some others) None = refl
  first_behind None (Some others) (Some last) = refl
  first_behind (Some first) None None = refl
  first_behind (Some first) None (Some last) = refl
  first_behind (Some first) (Some others) None = refl
  first_behind (Some first) (Some others) (Some last) = refl

  lacks : (first : Option Value) → with_first first None ≡ None
  lacks None = refl
  lacks (Some first) = refl

  lacks_behind : (last : Option Value) → None ≡ put_behind None last
  lacks_behind None = refl
  lacks_behind (Some last) = refl

  too_few : (places : List Place) (place : Place) → put_all heap (places ++ place ∷ []) [] ≡ None
  too_few [] place = refl
  too_few (other ∷ places) place = refl

  too_many : (values : List Value) (value : Value) → put_all heap [] (values ++ value ∷ []) ≡ None
  too_many [] value = refl
  too_many (other ∷ values) value = refl

  put_more : (places : List Place) (place : Place) (values : List Value) (value : Value)
      → put_all heap (places ++ place ∷ []) (values ++ value ∷ []) ≡ put_behind (put_all heap places values) (put heap place value)
  put_more [] place [] value = one (put heap place value)
    where
      one : (last : Option Value) → with_first last (Some []) ≡ put_behind (Some []) last
      one None = refl
      one (Some last) = refl
  put_more [] place (other ∷ values) value =
      ap (with_first (put heap place other)) (too_many values value) ∙ lacks (put heap place other) ∙ lacks_behind (put heap place value)
  put_more (p ∷ places) place [] value =
      ap (with_first (put heap p value)) (too_few places place) ∙ lacks (put heap p value) ∙ lacks_behind (put heap place value)
  put_more (p ∷ places) place (other ∷ values) value =
      ap (with_first (put heap p other)) (put_more places place values value)
      ∙ first_behind (put heap p other) (put_all heap places values) (put heap place value)

  -- ---- one by one

  abbrev pub result : List Value → List Value → List Value → Taken
  result args rest values = record { args = values ++ args; rest = rest }

  taken_one : (places : List Place) (args stack : List Value) (value : Option Value) (values : Option (List Value)) (rest : List Value)
      → ((put : Value) → taken heap places (put ∷ args) stack ≡ option_map (result (put ∷ args) rest) values)
      → taken_with value (λ put. taken heap places (put ∷ args) stack) ≡ option_map (result args rest) (put_behind values value)
  taken_one places args stack None None rest h = refl
  taken_one places args stack None (Some values) rest h = refl
  taken_one places args stack (Some value) None rest h = h value
  taken_one places args stack (Some value) (Some values) rest h =
      h value ∙ ap (λ (vs : List Value). Some (record { args = vs; rest = rest })) (sym (append_assoc values (value ∷ []) args))

  pub taken_from : (places : List Place) (args stack : List Value)
      → taken heap places args stack ≡ option_map (result args (drop (length places) stack)) (put_all heap (reverse places) (reverse (take (length places) stack)))
  taken_from [] args stack = refl
  taken_from (place ∷ places) args [] =
      sym (ap (option_map (result args [])) (ap (λ ps. put_all heap ps []) (reverse-append (place ∷ []) places) ∙ too_few (reverse places) place))
  taken_from (place ∷ places) args (value ∷ stack) =
      let n = length places in
      let values = put_all heap (reverse places) (reverse (take n stack)) in
      let one = taken_one places args stack (put heap place value) values (drop n stack) (λ put. taken_from places (put ∷ args) stack) in
      let all = ap (λ ps. put_all heap ps (reverse (value ∷ take n stack))) (reverse-append (place ∷ []) places)
      ∙ ap (put_all heap (reverse places ++ place ∷ [])) (reverse-append (value ∷ []) (take n stack))
      ∙ put_more (reverse places) place (reverse (take n stack)) value in
      one ∙ sym (ap (option_map (result args (drop n stack))) all)
