-- Lists of faults that are empty.
use Rattle.std.proofs.Common.{◌≡◌, Bool, true, false, List, [], ◌∷◌, ◌++◌, None, refl}
use Rattle.std.specs.List.{AllByRecursion, flat_map}
use Rattle.clause_faults.specs.Faults.{fault_if, first_fault}
use Rattle.clause_faults.specs.declared.clause_fault.ClauseFault.{ClauseFault}

pub no_first : (faults : List ClauseFault) → first_fault faults ≡ None → faults ≡ []
no_first [] none = refl
no_first (fault ∷ faults) none = absurd cc

pub no_fault_if : (broken : Bool) (fault : ClauseFault) → fault_if broken fault ≡ [] → broken ≡ false
no_fault_if true fault none = absurd cc
no_fault_if false fault none = refl

pub none_in_both : {X : Type 0} (xs ys : List X) → xs ++ ys ≡ [] → (xs ≡ []) × (ys ≡ [])
none_in_both [] ys none = (refl, none)
none_in_both (x ∷ xs) ys none = absurd cc

pub none_of_each : {X Y : Type 0} (f : X → List Y) (xs : List X) → flat_map f xs ≡ [] → AllByRecursion (λ x. f x ≡ []) xs
none_of_each f [] none = tt
none_of_each f (x ∷ xs) none = let parts = none_in_both (f x) (flat_map f xs) none in (parts.0, none_of_each f xs parts.1)
