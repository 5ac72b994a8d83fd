-- A small state with short constants has counts that fit their fields.
use Rattle.std.proofs.Common.{◌≡◌, ℕ, ◌+◌, ◌-◌, ◌*◌, ◌<◌, ◌≤◌, ◌^◌, Bool, true, false, List, [], ◌∷◌, length, None, Some, refl, arith}
use Rattle.std.specs.Prelude.{nat_lt, not, ◌==◌, ◌&&◌, ◌||◌}
use Rattle.std.specs.List.{AllByRecursion}
use Rattle.std.specs.Option.{ForSome}
use Rattle.std.proofs.lemmas.Bool.{and_parts, eqb-true, ltb-true}
use Rattle.std.proofs.lemmas.Bool.Decides.{nat_tests}
use Rattle.abs_state.specs.StateParts.{AreParts, IsKnown, nothing_listed, parts_of}
use Rattle.alias_facts.specs.PairsOf.{AreInOrder, AreProper, Pair, comes_before, is_proper}
use Rattle.number_facts.specs.Holds.{NamesOwn}
use Rattle.pentagon_domain.specs.Gaps.{AreBelow}
use Rattle.pentagon_domain.specs.Rows.{AreBounds, is_pair}
use Rattle.pentagon_domain.specs.declared.bound_row.BoundRow.{BoundRow}
use Rattle.state_facts.specs.Forms as forms
use Rattle.state_facts.specs.Sizes.{IsSmall}
use Rattle.state_facts.specs.StateFacts.{StateFacts, State}
use Rattle.invariant_codec.specs.Spellable.{Fits, HasShortConstants, IsSpellable}
use Rattle.invariant_codec.specs.Symbols as symbols
use Rattle.invariant_codec.proofs.GoodStates.{AreAfter}
use Rattle.invariant_codec.proofs.SpelledFields.{AreSorted, all_both, proper_rows, sorted_definitions, sorted_pairs, sorted_rows}

-- ---- items in order have distinct numbers

-- A number for each item, which is greater for one that comes later, and less than some bound.
record IsNumbering {X : Type 0} (P : X → Type 0) (precedes : X → X → Bool) (number : X → ℕ) (bound : ℕ) : Type 0 where
  rises : (x y : X) → P x → P y → precedes x y ≡ true → number x < number y
  below : (x : X) → P x → number x < bound

module _ {X : Type 0} (P : X → Type 0) (precedes : X → X → Bool) (number : X → ℕ) (bound : ℕ)
    (numbering : IsNumbering P precedes number bound) where
  abbrev AreFrom : ℕ → List X → Type 0
  AreFrom least xs = AllByRecursion (λ x. least ≤ number x) xs

  all_later : (x : X) (ys : List X) → P x → AllByRecursion P ys → AreAfter precedes x ys → AreFrom (number x + 1) ys
  all_later x [] first all after = tt
  all_later x (y ∷ ys) first all after =
      (omega (arith, numbering.rises x y first all.0 after.0), all_later x ys first all.1 after.1)

  -- There are no more items than numbers.
  sorted_count : (least : ℕ) (xs : List X) → AllByRecursion P xs → AreSorted precedes xs → AreFrom least xs
      → length xs ≤ bound - least
  sorted_count least [] all sorted from = omega arith
  sorted_count least (x ∷ xs) all sorted from =
      omega (
        arith,
        sorted_count (number x + 1) xs all.1 sorted.1 (all_later x xs all.0 all.1 sorted.0),
        from.0,
        numbering.below x all.0,
      )

-- ---- two names as one number

abbrev two_names : ℕ → ℕ → ℕ
two_names first second = 65536 * first + second

less_names : (a b c d : ℕ) → b < 65536 → (nat_lt a c || (a == c && nat_lt b d)) ≡ true → two_names a b < two_names c d
less_names a b c d below before = by (nat_lt a c) refl before
  where
    by : (first : Bool) → nat_lt a c ≡ first → (first || (a == c && nat_lt b d)) ≡ true → two_names a b < two_names c d
    by true less is = omega (arith, ltb-true a c less, below)
    by false other is =
        let both = and_parts (a == c) (nat_lt b d) is in omega (arith, eqb-true a c both.0, ltb-true b d both.1)

most_names : (a b : ℕ) → a < 65536 → b < 65536 → two_names a b < 2 ^ 32
most_names a b first second = omega (arith, first, second)

each_so : {X : Type 0} (P Q : X → Type 0) → ((x : X) → P x → Q x) → (xs : List X) → AllByRecursion P xs
    → AllByRecursion Q xs
each_so P Q so [] all = tt
each_so P Q so (x ∷ xs) all = (so x all.0, each_so P Q so xs all.1)

-- Two names from 1 on that have 16 bits.
record AreNames (a b : ℕ) : Type 0 where
  least : 1 ≤ a
  first : a < 65536
  second : b < 65536

module _ {X : Type 0} (precedes : X → X → Bool) (first second : X → ℕ)
    (orders : (x y : X) → precedes x y ≡ true
    → (nat_lt (first x) (first y) || (first x == first y && nat_lt (second x) (second y))) ≡ true) where
  abbrev Named : X → Type 0
  Named x = AreNames (first x) (second x)

  names_count : (xs : List X) → AllByRecursion Named xs → AreSorted precedes xs → length xs < 2 ^ 32
  names_count xs all sorted =
      omega (
        arith,
        sorted_count Named precedes (λ x. two_names (first x) (second x)) (2 ^ 32)
            (record {
              rises = λ x y here there before.
                  less_names (first x) (second x) (first y) (second y) here.second (orders x y before);
              below = λ x names. most_names (first x) (second x) names.first names.second;
            })
            65536 xs all sorted
            (each_so Named _ (λ x names. omega (arith, names.least)) xs all),
      )

-- ---- bounds, definitions and pairs

rows_count : (count : ℕ) (rows : List BoundRow) → count < 2 ^ 16 → AreBounds rows
    → AllByRecursion (AreBelow (count + 1)) rows → length rows < 2 ^ 32
rows_count count rows small bounds there =
    names_count symbols.row_precedes (λ r. r.s) (λ r. r.t) (λ x y before. before) rows
    (each_so (λ r. AreBelow (count + 1) r × (is_pair r.s r.t ≡ true)) (λ r. AreNames r.s r.t)
    (λ r is. record {
      least = from_one r.s r.t is.1;
      first = omega (arith, is.0.from, small);
      second = omega (arith, is.0.to, small);
    })
    rows (all_both (AreBelow (count + 1)) (λ r. is_pair r.s r.t ≡ true) rows there (proper_rows rows bounds)))
    (sorted_rows rows bounds)
  where
    from_one : (s t : ℕ) → is_pair s t ≡ true → 1 ≤ s
    from_one s t proper =
        let distinct = and_parts (not (s == 0) && not (t == 0)) (not (s == t)) proper in
        let both = and_parts (not (s == 0)) (not (t == 0)) distinct.0 in grind (arith, nat_tests, both.0)

pairs_count : (references : ℕ) (pairs : List Pair) → references < 2 ^ 16 → AreInOrder pairs → AreProper pairs
    → AllByRecursion (forms.EndsBy references) pairs → length pairs < 2 ^ 32
pairs_count references pairs small ordered proper there =
    names_count comes_before (λ p. p.0) (λ p. p.1) (λ x y before. before) pairs
    (each_so (λ p. forms.EndsBy references p × (is_proper p ≡ true)) (λ p. AreNames p.0 p.1)
    (λ p is. record {
      least = ltb-true 0 p.0 (and_parts (nat_lt 0 p.0) (nat_lt p.0 p.1) is.1).0;
      first = omega (arith, is.0.0, small);
      second = omega (arith, is.0.1, small);
    })
    pairs (all_both (forms.EndsBy references) (λ p. is_proper p ≡ true) pairs there proper))
    (sorted_pairs pairs ordered)

definitions_count : (count : ℕ) (definitions : List symbols.Definition) → count < 2 ^ 16 → forms.AreRising definitions
    → AllByRecursion (NamesOwn count) definitions → length definitions < 2 ^ 16
definitions_count count definitions small rising named =
    omega (
      arith,
      small,
      sorted_count (NamesOwn count) symbols.definition_precedes (λ d. d.0) (count + 1)
          (record {
            rises = λ x y here there before. ltb-true x.0 y.0 before;
            below = λ x names. omega (arith, names.0);
          })
          1 definitions named (sorted_definitions definitions rising.1) rising.0,
    )

-- ---- states

known_fits : (known : StateFacts) → IsSmall known → IsKnown known → HasShortConstants (parts_of (Some known))
    → Fits (parts_of (Some known))
known_fits known small is short = record {
  symbols = small.symbols;
  references = small.references;
  variables = small.variables;
  bounds = rows_count (length known.facts.ranges) known.facts.bounds small.symbols is.ordered.bounds
      is.form.named.bounds;
  definitions = definitions_count (length known.facts.ranges) known.facts.definitions small.symbols is.form.rising
      is.form.named.definitions;
  apart = pairs_count (length known.references) known.apart small.references is.ordered.in_order is.ordered.proper
      is.form.pairs;
  short = short;
}

pub nothing_fits : Fits nothing_listed
nothing_fits = record {
  symbols = omega arith;
  references = omega arith;
  variables = omega arith;
  bounds = omega arith;
  definitions = omega arith;
  apart = omega arith;
  short = record { bounds = tt; definitions = tt; contents = tt };
}

pub small_spellable : (state : State) → ForSome state IsSmall → AreParts (parts_of state)
    → HasShortConstants (parts_of state) → IsSpellable state
small_spellable None small are short = record { form = are; fits = nothing_fits }
small_spellable (Some known) small are short =
    record { form = are; fits = known_fits known (small known refl) (are.reached refl) short }
