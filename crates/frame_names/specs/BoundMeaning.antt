-- What a frame says that is bound to another.
use Rattle.std.specs.Prelude.{◌≡◌, ℕ, ℤ, pos, ◌+ℤ◌, ◌-ℤ◌, ◌≤ℤ◌, true, List, [], ◌∷◌, drop, get_or, map, Option, Some, None}
use Rattle.alias_facts.specs.NullnessOf.{is_null}
use Rattle.symbolic_values.specs.Worth.{worth}
use Rattle.frame_names.specs.Binding.{FrameBinding, Gaps}
use Rattle.frame_names.specs.Frames.{length_at, nullness_at}
use Rattle.frame_names.specs.Meaning.{said}
use Rattle.frame_names.specs.declared.reference.Reference.{Reference}
use Rattle.frame_names.specs.declared.slots.Bound.{Bound}
use Rattle.frame_names.specs.declared.var.Var.{Var}

-- What a bound symbol is worth, where each symbol of the other state is worth a number.
abbrev pub bound_worth : (ℕ → ℤ) → Bound → ℤ
bound_worth number bound = worth number bound.value -ℤ bound.offset

abbrev pub zero_bound : Bound
zero_bound = record { value = record { sym = 0; k = pos 0 }; offset = pos 0 }

abbrev pub numbers_bound : (ℕ → ℤ) → FrameBinding → ℕ → ℤ
numbers_bound number binding s = bound_worth number (get_or binding.symbols s zero_bound)

-- Each reference is the array that what it is bound to is.
abbrev pub arrays_bound : (ℕ → Option ℕ) → FrameBinding → ℕ → Option ℕ
arrays_bound array binding r = array (get_or binding.references r 0)

-- No symbol with its gap to another passes that.
abbrev pub KeepGaps : Gaps → (ℕ → ℤ) → Type 0
KeepGaps gap number = (s t : ℕ) (k : ℤ) → gap s t ≡ Some k → (number s +ℤ k) ≤ℤ number t

-- What is known to be null is.
abbrev pub NullsAreNull : List Reference → (ℕ → Option ℕ) → Type 0
NullsAreNull a array = (r : ℕ) → is_null (nullness_at a r) ≡ true → array r ≡ None

-- By the numbers and arrays of the first state, the variables of the second say what those of the first say.
abbrev pub SaysSame : Gaps → List Var → List Reference → List Var → FrameBinding → Type 0
SaysSame gap a_vars a b_vars binding =
    (number : ℕ → ℤ) (array : ℕ → Option ℕ) → KeepGaps gap number → NullsAreNull a array
    → map (said (numbers_bound number binding) (arrays_bound array binding)) b_vars ≡ map (said number array) a_vars

-- The lengths of the second state's references, from 1 on, are worth what those are of what they are bound to.
abbrev pub AreLengthsBound : (ℕ → ℤ) → FrameBinding → List Reference → List Reference → List ℕ
    → Type 0
AreLengthsBound number binding a [] bound = Unit {0}
AreLengthsBound number binding a (known ∷ b) bound =
    (worth (numbers_bound number binding) known.length ≡ worth number (length_at a (get_or bound 0 0)))
    × AreLengthsBound number binding a b (drop 1 bound)

abbrev pub HasSameLengths : Gaps → List Reference → List Reference → FrameBinding → Type 0
HasSameLengths gap a b binding =
    (number : ℕ → ℤ) → KeepGaps gap number → AreLengthsBound number binding a b (drop 1 binding.references)
