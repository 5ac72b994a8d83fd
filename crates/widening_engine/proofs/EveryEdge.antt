-- How much work the rounds are where every edge is computed in each of them.
use Rattle.std.proofs.Common.{◌≡◌, ℕ, ◌+◌, ◌*◌, ◌<◌, ◌≤◌, Bool, true, false, List, [], ◌∷◌, length, length-append, refl, ap, subst, ◌∙◌, arith}
use Rattle.widening_engine.specs.Rounds.{Flow, first_inductive, next}
use Rattle.widening_engine.specs.Work.{HasCountedAtMostBy, HasCountedBy, after_ticks, changes, changes_along, first_stop, rounds, sought, work}
use Rattle.widening_engine.proofs.KeptStates.{count_each}

-- No state counts as equal to another one.
abbrev none_equal : {S : Type 0} → S → S → Bool
none_equal a b = false

module _ {S : Type 0} (flow : Flow S) where
  every_change : (old new : List S) → changes none_equal flow old new ≡ flow.edges
  unfolding changes
  every_change old new = count_each flow.edges

  changes_after : (states : List S) (others : List (List S)) → changes_along none_equal flow (states ∷ others) ≡ length others * flow.edges
  changes_after states [] = omega arith
  changes_after states (next ∷ others) =
      let here = every_change states next in
      let rest = changes_after next others in
      let product : length (next ∷ others) * flow.edges ≡ flow.edges + length others * flow.edges = omega arith in
      omega (arith, here, rest, product)

  in_all : (all : List (List S)) → 0 < length all → flow.edges + changes_along none_equal flow all ≡ length all * flow.edges
  in_all [] some = absurd (omega (arith, some))
  in_all (states ∷ others) some =
      let rest = changes_after states others in
      let product : length (states ∷ others) * flow.edges ≡ flow.edges + length others * flow.edges = omega arith in
      omega (arith, rest, product)

  rounds_count : length (rounds flow) ≡ length (sought flow (first_stop flow)) + 2
  unfolding rounds
  rounds_count = length-append (sought flow (first_stop flow)) (next flow (first_inductive flow) ∷ next flow (next flow (first_inductive flow)) ∷ [])

  -- Each edge is computed in each round.
  every_edge : work none_equal flow ≡ length (rounds flow) * flow.edges
  unfolding work
  every_edge = let many = rounds_count in in_all (rounds flow) (omega (arith, many))

  pub every_ticked : (first count : ℕ) → HasCountedBy true (λ equal. work equal flow) first count → count ≡ after_ticks (length (rounds flow) * flow.edges) first
  every_ticked first count ticked = ticked none_equal (λ a b. refl) ∙ ap (λ (n : ℕ). after_ticks n first) every_edge

  pub every_most : (first count : ℕ) → HasCountedAtMostBy true (λ equal. work equal flow) first count → count ≤ first + length (rounds flow) * flow.edges
  every_most first count most = subst (λ (n : ℕ). count ≤ first + n) every_edge (most none_equal (λ a b. refl))
