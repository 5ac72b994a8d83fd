-- What is so of all states that flow is so of those where they settle.
use Rattle.std.proofs.Common.{ℕ, zero, suc, ◌+◌, nat_le, Bool, List, [], ◌∷◌, map, Option, Some, None, unwrap_or, refl}
use Rattle.std.specs.List.{find}
use Rattle.std.proofs.lemmas.Bool.{cond_both}
use Rattle.widening_engine.specs.Flows.{FitBlocks}
use Rattle.widening_engine.specs.Rounds.{Flow, all_unknown, first_inductive, is_inductive, last_round, limit, never_reached, next, places, round, round_from, settled}
use Rattle.widening_engine.proofs.EdgeSteps.{Keeps, next_fits, widened_fits}
use Rattle.widening_engine.proofs.Rounds.{each_fits, unknown_fits}

abbrev IsSoIfAny : {X : Type 0} → (X → Type 0) → Option X → Type 0
IsSoIfAny P None = Unit {0}
IsSoIfAny P (Some x) = P x

found_so : {X : Type 0} (P : X → Type 0) (test : X → Bool) (make : ℕ → X) → ((n : ℕ) → P (make n)) → (ns : List ℕ)
    → IsSoIfAny P (find test (map make ns))
found_so P test make so [] = tt
found_so P test make so (n ∷ ns) =
    cond_both (test (make n)) _ _ (IsSoIfAny P) (λ passes. so n) (λ fails. found_so P test make so ns)

found_or : {X : Type 0} (P : X → Type 0) (found : Option X) (other : X) → IsSoIfAny P found → P other
    → P (unwrap_or found other)
found_or P None other so also = also
found_or P (Some x) other so also = so

module _ {S : Type 0} (flow : Flow S) (fits : ℕ → S → Type 0) (keeps : Keeps flow fits) where
  from_fits : (number : ℕ) (states : List S) → FitBlocks flow fits states
      → FitBlocks flow fits (round_from flow number states)
  unfolding round_from
  from_fits number states fit =
      let later = next_fits flow fits keeps states fit in
      cond_both (nat_le 3 number) _ _ (FitBlocks flow fits)
      (λ late. widened_fits flow fits states (next flow states) keeps fit later) (λ early. later)

  round_fits : (n : ℕ) → FitBlocks flow fits (round flow n)
  unfolding round
  round_fits zero = each_fits flow fits (λ block. flow.nothing) (never_reached flow) refl keeps.nothing
  round_fits (suc n) = from_fits (suc n) (round flow n) (round_fits n)

  first_fits : FitBlocks flow fits (first_inductive flow)
  unfolding first_inductive
  first_fits =
      found_or (FitBlocks flow fits) _ (all_unknown flow)
      (found_so (FitBlocks flow fits) (is_inductive flow) (round flow) round_fits (places (last_round flow + 1)))
      (unknown_fits flow fits (all_unknown flow) keeps refl)

  settled_fits : (states : List S) → FitBlocks flow fits states → FitBlocks flow fits (settled flow states)
  unfolding settled
  settled_fits states fit =
      let later = next_fits flow fits keeps (next flow states) (next_fits flow fits keeps states fit) in
      cond_both (is_inductive flow (next flow (next flow states))) _ _ (FitBlocks flow fits) (λ passes. later)
      (λ fails. fit)

  pub limit_fits : FitBlocks flow fits (limit flow)
  unfolding limit
  limit_fits = settled_fits (first_inductive flow) first_fits
