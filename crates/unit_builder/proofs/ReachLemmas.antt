-- Reach by ways of any length, and by ways of a bounded one.
use Rattle.std.proofs.Common.{◌≡◌, ℕ, zero, suc, ◌+◌, ◌-◌, ◌<◌, ◌≤◌, Bool, true, ⊎_elim, List, [], ◌∷◌, length, get_or, Contains, refl, sym, ap, ◌∙◌, subst, arith}
use Rattle.std.specs.Prelude.{nat_eq}
use Rattle.std.specs.List.{list_any}
use Rattle.std.proofs.lemmas.Bool.{eq-eqb, eqb-true, or_cases, or_left, or_right}
use Rattle.unit_builder.specs.Reach.{IsEquality, Reaches, itself, onward, reaches_in}

-- ---- lists

pub Contains-behind : {K : Type 0} (first : K) (others : List K) (n : K) → Contains others n → Contains (first ∷ others) n
Contains-behind first others n (place, lt, is) = (suc place, omega arith, is)

any_there : {K : Type 0} (test : K → Bool) (ns : List K) (n : K) (place : ℕ) → place < length ns → get_or ns place n ≡ n → test n ≡ true → list_any test ns ≡ true
any_there test [] n place lt is passes = absurd (omega arith)
any_there test (first ∷ ns) n zero lt is passes = or_left (test first) (list_any test ns) (ap test is ∙ passes)
any_there test (first ∷ ns) n (suc place) lt is passes = or_right (test first) (list_any test ns) (any_there test ns n place (omega arith) is passes)

any_some : {K : Type 0} (test : K → Bool) (ns : List K) → list_any test ns ≡ true → (n : K) × Contains ns n × (test n ≡ true)
any_some test [] any = absurd cc
any_some test (first ∷ ns) any =
    ⊎_elim
    (λ here. (first, (0, omega arith, refl), here))
    (λ there. let found = any_some test ns there in (found.0, Contains-behind first ns found.0 found.1, found.2))
    (or_cases (test first) (list_any test ns) any)

-- Equal numbers are told.
pub equal_numbers : IsEquality nat_eq
equal_numbers = record { of_equal = eq-eqb; equal = eqb-true }

-- ---- ways

module _ {K : Type 0} (same : K → K → Bool) (is : IsEquality same) (next : K → List K) where
  starts : (steps : ℕ) (from to : K) → from ≡ to → reaches_in same next steps from to ≡ true
  starts zero from to e = is.of_equal from to e
  starts (suc steps) from to e = or_left (same from to) (list_any (λ n. reaches_in same next steps n to) (next from)) (is.of_equal from to e)

  -- A way goes on from where it ends.
  pub goes_on : (steps : ℕ) (from through to : K) → reaches_in same next steps from through ≡ true → Contains (next through) to → reaches_in same next (suc steps) from to ≡ true
  goes_on zero from through to way behind =
      let here : through ≡ from = sym (is.equal from through way) in
      let begin : Contains (next from) to = subst (λ n. Contains (next n) to) here behind in
      or_right (same from to) (list_any (λ n. reaches_in same next 0 n to) (next from))
      (any_there (λ n. reaches_in same next 0 n to) (next from) to begin.0 begin.1 begin.2 (is.of_equal to to refl))
  goes_on (suc steps) from through to way behind =
      ⊎_elim
      (λ first.
      let here : through ≡ from = sym (is.equal from through first) in
      let begin : Contains (next from) to = subst (λ n. Contains (next n) to) here behind in
      or_right (same from to) (list_any (λ n. reaches_in same next (suc steps) n to) (next from))
      (any_there (λ n. reaches_in same next (suc steps) n to) (next from) to begin.0 begin.1 begin.2 (starts (suc steps) to to refl)))
      (λ later.
      let found = any_some (λ n. reaches_in same next steps n through) (next from) later in
      or_right (same from to) (list_any (λ n. reaches_in same next (suc steps) n to) (next from))
      (any_there (λ n. reaches_in same next (suc steps) n to) (next from) found.0 found.1.0 found.1.1 found.1.2 (goes_on steps found.0 through to found.2 behind)))
      (or_cases (same from through) (list_any (λ n. reaches_in same next steps n through) (next from)) way)

  -- A bound may be larger.
  one_more : (steps : ℕ) (from to : K) → reaches_in same next steps from to ≡ true → reaches_in same next (suc steps) from to ≡ true
  one_more zero from to way = starts 1 from to (is.equal from to way)
  one_more (suc steps) from to way =
      ⊎_elim
      (λ here. starts (suc (suc steps)) from to (is.equal from to here))
      (λ later.
      let found = any_some (λ n. reaches_in same next steps n to) (next from) later in
      or_right (same from to) (list_any (λ n. reaches_in same next (suc steps) n to) (next from))
      (any_there (λ n. reaches_in same next (suc steps) n to) (next from) found.0 found.1.0 found.1.1 found.1.2 (one_more steps found.0 to found.2)))
      (or_cases (same from to) (list_any (λ n. reaches_in same next steps n to) (next from)) way)

  more : (steps others : ℕ) (from to : K) → reaches_in same next steps from to ≡ true → reaches_in same next (others + steps) from to ≡ true
  more steps zero from to way = let none : steps ≡ 0 + steps = omega arith in subst (λ n. reaches_in same next n from to ≡ true) none way
  more steps (suc others) from to way =
      let long : suc (others + steps) ≡ suc others + steps = omega arith in
      subst (λ n. reaches_in same next n from to ≡ true) long (one_more (others + steps) from to (more steps others from to way))

  pub within_more : (steps all : ℕ) (from to : K) → steps ≤ all → reaches_in same next steps from to ≡ true → reaches_in same next all from to ≡ true
  within_more steps all from to few way =
      let long : (all - steps) + steps ≡ all = omega arith in
      subst (λ n. reaches_in same next n from to ≡ true) long (more steps (all - steps) from to way)

  -- A way of a bounded length is a way.
  begins : {from through : K} → Contains (next from) through → {to : K} → Reaches next through to → Reaches next from to
  begins first itself = onward itself first
  begins first (onward way last) = onward (begins first way) last

  pub reaches : (steps : ℕ) (from to : K) → reaches_in same next steps from to ≡ true → Reaches next from to
  reaches zero from to way = subst (λ n. Reaches next from n) (is.equal from to way) itself
  reaches (suc steps) from to way =
      ⊎_elim
      (λ here. subst (λ n. Reaches next from n) (is.equal from to here) itself)
      (λ later.
      let found = any_some (λ n. reaches_in same next steps n to) (next from) later in
      begins found.1 (reaches steps found.0 to found.2))
      (or_cases (same from to) (list_any (λ n. reaches_in same next steps n to) (next from)) way)

  -- A set that is closed has all that its members reach.
  pub stays_in : (In : K → Type 0) → ((n to : K) → In n → Contains (next n) to → In to) → (from to : K) → In from → Reaches next from to → In to
  stays_in In closed from to start itself = start
  stays_in In closed from to start (onward {n} way last) = closed n to (stays_in In closed from n start way) last
