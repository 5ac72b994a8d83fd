-- States that may be joined, widened and compared.
use Rattle.std.specs.Prelude.{◌≡◌, true, List, [], ◌∷◌, Some}
use Rattle.frame_names.specs.declared.var.Var.{Var}
use Rattle.frame_names.specs.declared.var.Var.TheVariants as vars
use Rattle.state_facts.specs.Forms.{HasForm}
use Rattle.state_facts.specs.StateFacts.{StateFacts, State, both_of_same_place, reference_at}

-- Both have a number or a text, or both have references, or addresses by references, of which one is reference 0 or
-- which have one type.
abbrev pub IsLike : StateFacts → StateFacts → Var → Var → Type 0
IsLike a b (vars.Number e) (vars.Number f) = Unit {0}
IsLike a b (vars.Number e) _ = ⊥
IsLike a b (vars.Reference r) (vars.Reference q) =
    both_of_same_place (reference_at a.references r) (reference_at b.references q) ≡ true
IsLike a b (vars.Reference r) _ = ⊥
IsLike a b vars.Text vars.Text = Unit {0}
IsLike a b vars.Text _ = ⊥
IsLike a b (vars.Address r e) (vars.Address q f) =
    both_of_same_place (reference_at a.references r) (reference_at b.references q) ≡ true
IsLike a b (vars.Address r e) _ = ⊥

abbrev pub AreLike : StateFacts → StateFacts → List Var → List Var → Type 0
AreLike a b [] [] = Unit {0}
AreLike a b (x ∷ xs) (y ∷ ys) = IsLike a b x y × AreLike a b xs ys
AreLike a b _ _ = ⊥

-- What is known of two points has its form, and there are as many variables in both, which are like each other.
pub record AreComparable (a b : StateFacts) : Type 0 where
  pub first : HasForm a
  pub second : HasForm b
  pub variables : AreLike a b a.variables b.variables

-- The same of two states. One that is not reached is like each.
abbrev pub AreLikeStates : State → State → Type 0
AreLikeStates (Some a) (Some b) = AreComparable a b
AreLikeStates _ _ = Unit {0}
