-- Tests in their order. A test gives a fault, or none where it is passed.
use Rattle.std.specs.Prelude.{◌≡◌, List, [], ◌∷◌, Bool, Option, Some, None, Result, Ok, Err, if◌then◌else◌}
use Rattle.cc_base.specs.declared.refusal.Refusal.{Refusal}
use Rattle.cc_base.specs.declared.refusal.Refusal.TheVariants.{Bad, NoMemory}

-- The first fault of some tests.
unfoldable pub first_of : {F : Type 0} → List (Option F) → Option F
first_of [] = None
first_of (None ∷ tests) = first_of tests
first_of (Some fault ∷ tests) = Some fault

-- This is so, or else that is the fault.
abbrev pub must : {F : Type 0} → Bool → F → Option F
must holds fault = if holds then None else Some fault

-- Ok where no test failed, and then a value of which P holds; else the first fault.
abbrev pub Judges : {X F : Type 0} → Result X F → Option F → (X → Type 0) → Type 0
Judges (Ok x) first P = (first ≡ None) × P x
Judges (Err fault) first P = first ≡ Some fault

-- The same, unless memory ran out.
abbrev pub JudgesOrNoMemory : {X F : Type 0} → Result X (Refusal F) → Option F → (X → Type 0) → Type 0
JudgesOrNoMemory (Ok x) first P = (first ≡ None) × P x
JudgesOrNoMemory (Err (Bad fault)) first P = first ≡ Some fault
JudgesOrNoMemory (Err NoMemory) first P = Unit {0}

-- The value is one of which P holds, unless memory ran out.
abbrev pub GivesOnly : {X F : Type 0} → Result X (Refusal F) → (X → Type 0) → Type 0
GivesOnly (Ok x) P = P x
GivesOnly (Err (Bad fault)) P = ⊥
GivesOnly (Err NoMemory) P = Unit {0}

-- The fault is one of which P holds, unless memory ran out.
abbrev pub RefusesOnly : {X F : Type 0} → Result X (Refusal F) → (F → Type 0) → Type 0
RefusesOnly (Ok x) P = ⊥
RefusesOnly (Err (Bad fault)) P = P fault
RefusesOnly (Err NoMemory) P = Unit {0}
