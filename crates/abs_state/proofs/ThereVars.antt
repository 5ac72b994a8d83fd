-- What the variables of a state have is there.
use Rattle.std.proofs.Common.{◌≡◌, ℕ, zero, suc, List, [], ◌∷◌, reverse, slice_get, Option, Some, None, refl, sym, subst}
use Rattle.std.specs.Prelude.{IfSome}
use Rattle.std.specs.List.{AllByRecursion}
use Rattle.std.specs.Option.{ForSome}
use Rattle.cil_model.proofs.Lists.{all_reverse}
use Rattle.state_facts.specs.Forms.{HasForm, HasVar}
use Rattle.state_facts.specs.StateFacts.{StateFacts, State, variables_in}
use Rattle.frame_names.specs.declared.var.Var.{Var}

got : (P : Var → Type 0) (vs : List Var) (i : ℕ) (v : Var) → AllByRecursion P vs → slice_get vs i ≡ Some v → P v
got P [] i v all is = absurd cc
got P (w ∷ vs) zero v all is = subst P (same w v is) all.0
  where
    same : (a b : Var) → Some a ≡ Some b → a ≡ b
    same a b is = cc
got P (w ∷ vs) (suc i) v all is = got P vs i v all.1 is

in_some : (known x : StateFacts) (P : StateFacts → Type 0) → Some known ≡ Some x → P known → P x
in_some known x P is so = subst P (same known x is) so
  where
    same : (a b : StateFacts) → Some a ≡ Some b → a ≡ b
    same a b is = cc

-- One of a list index.
pub var_there : (state : State) (i : ℕ) (v : Var) → ForSome state HasForm → slice_get (variables_in state) i ≡ Some v
    → ForSome state (λ known. HasVar known v)
var_there None i v form is = λ x so. absurd cc
var_there (Some known) i v form is =
    λ x so. in_some known x (λ k. HasVar k v) so (got (HasVar known) known.variables i v (form known refl).variables is)

pub vars_there : (state : State) (i : ℕ) (result : Option Var) → ForSome state HasForm
    → result ≡ slice_get (variables_in state) i → IfSome result (λ v. ForSome state (λ known. HasVar known v))
vars_there state i None form is = tt
vars_there state i (Some v) form is = var_there state i v form (sym is)

-- One that lies under so many others.
top_there : (state : State) (i : ℕ) (v : Var) → ForSome state HasForm
    → slice_get (reverse (variables_in state)) i ≡ Some v → ForSome state (λ known. HasVar known v)
top_there None i v form is = λ x so. absurd cc
top_there (Some known) i v form is =
    λ x so. in_some known x (λ k. HasVar k v) so
    (got (HasVar known) (reverse known.variables) i v (all_reverse (HasVar known) known.variables (form known refl).variables) is)

pub tops_there : (state : State) (i : ℕ) (result : Option Var) → ForSome state HasForm
    → result ≡ slice_get (reverse (variables_in state)) i → IfSome result (λ v. ForSome state (λ known. HasVar known v))
tops_there state i None form is = tt
tops_there state i (Some v) form is = top_there state i v form (sym is)
