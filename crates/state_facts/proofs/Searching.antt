-- What loops over lists find.
use Rattle.std.proofs.Common.{◌≡◌, ℕ, zero, suc, ◌==◌, ◌+◌, ◌-◌, ◌≤◌, ◌<◌, Bool, true, false, List, [], ◌∷◌, ◌++◌, length, map, get_or, drop, drop-cons, add-one, slice_get, Some, None, refl, sym, ap, ◌∙◌, arith}
use Rattle.std.specs.List.{range_with_len}
use Rattle.std.proofs.lemmas.List.{drop_all}
use Rattle.std.proofs.lemmas.List.FromFn.{map-range_with_len_more}
use Rattle.symbolic_values.specs.declared.def.Def.{Def}
use Rattle.alias_facts.specs.PairsOf.{Pair, ordered, with_pair}
use Rattle.state_facts.specs.Assuming.{definition_at}
use Rattle.state_facts.specs.Calls.{apart_with}
use Rattle.state_facts.specs.StateFacts.{reference_at}
use Rattle.frame_names.specs.declared.reference.Reference.{Reference}

-- ---- definitions

pub defined_here : (definitions : List (ℕ × Def)) (i symbol : ℕ) (d : ℕ × Def) → i < length definitions → ((get_or definitions i d).0 == symbol) ≡ true
    → definition_at (drop i definitions) symbol ≡ definition_at definitions symbol → Some (get_or definitions i d).1 ≡ definition_at definitions symbol
defined_here definitions i symbol d inside here so_far =
    let split : drop i definitions ≡ get_or definitions i d ∷ drop (suc i) definitions = drop-cons definitions i d inside in
    rw here at (rw split at so_far)

pub defined_later : (definitions : List (ℕ × Def)) (i symbol : ℕ) (d : ℕ × Def) → i < length definitions → ((get_or definitions i d).0 == symbol) ≡ false
    → definition_at (drop i definitions) symbol ≡ definition_at definitions symbol → definition_at (drop (i + 1) definitions) symbol ≡ definition_at definitions symbol
defined_later definitions i symbol d inside other so_far =
    let split : drop i definitions ≡ get_or definitions i d ∷ drop (suc i) definitions = drop-cons definitions i d inside in
    rw add-one (rw other at (rw split at so_far))

pub defined_nowhere : (definitions : List (ℕ × Def)) (i symbol : ℕ) → length definitions ≤ i
    → definition_at (drop i definitions) symbol ≡ definition_at definitions symbol → None ≡ definition_at definitions symbol
defined_nowhere definitions i symbol past so_far = let none : drop i definitions ≡ [] = drop_all i definitions past in rw none at so_far

pub ruleset definitions_found = (defined_here, defined_later, defined_nowhere)

-- ---- references

pub reference_there : (references : List Reference) (r : ℕ) (x : Reference) → reference_at references r ≡ Some x → (1 ≤ r) × (r - 1 < length references)
unfolding reference_at
reference_there references zero x is = absurd cc
reference_there references (suc r) x is = (omega arith, less r (length references) (inside references r is))
  where
    less : (m n : ℕ) → m < n → suc m - 1 < n
    less m n lt = omega (arith, lt)

    inside : (xs : List Reference) (i : ℕ) → slice_get xs i ≡ Some x → i < length xs
    inside [] zero there = absurd cc
    inside [] (suc i) there = absurd cc
    inside (y ∷ xs) zero there = omega arith
    inside (y ∷ xs) (suc i) there = let rest = inside xs i there in omega (arith, rest)

pub apart_one_more : (test : ℕ → Bool) (new q : ℕ) (pairs : List Pair) → 1 ≤ q → test q ≡ true
    → with_pair (ordered new q) (apart_with test new (q - 1) pairs) ≡ apart_with test new (q + 1 - 1) pairs
apart_one_more test new zero pairs least holds = absurd (omega (arith, least))
apart_one_more test new (suc q) pairs least holds =
    let same : suc q + 1 - 1 ≡ suc q = omega arith in
    let before : suc q - 1 ≡ q = omega arith in
    rw (same, before) (rw holds refl)

pub apart_no_more : (test : ℕ → Bool) (new q : ℕ) (pairs : List Pair) → 1 ≤ q → test q ≡ false
    → apart_with test new (q - 1) pairs ≡ apart_with test new (q + 1 - 1) pairs
apart_no_more test new zero pairs least fails = absurd (omega (arith, least))
apart_no_more test new (suc q) pairs least fails =
    let same : suc q + 1 - 1 ≡ suc q = omega arith in
    let before : suc q - 1 ≡ q = omega arith in
    rw (same, before) (rw fails refl)

-- ---- one reference more

pub reference_more : {X : Type 0} (f : ℕ → X) (q : ℕ) (xs : List X) → 1 ≤ q → xs ≡ map f (range_with_len 1 (q - 1))
    → xs ++ f q ∷ [] ≡ map f (range_with_len 1 (q + 1 - 1))
reference_more f zero xs least is = absurd (omega (arith, least))
reference_more f (suc q) xs least is =
    let before : suc q - 1 ≡ q = omega arith in
    let next : suc q + 1 - 1 ≡ q + 1 = omega arith in
    rw next (ap (λ ys. ys ++ f (suc q) ∷ []) (rw before at is) ∙ sym (map-range_with_len_more f 1 q (suc q) (omega arith)))
