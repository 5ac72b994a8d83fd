-- What frames say.
use Rattle.std.specs.Prelude.{◌≡◌, ℕ, ℤ, Bool, List, ◌∷◌, map, Option, if◌then◌else◌}
use Rattle.symbolic_values.specs.Pairing.{origin}
use Rattle.symbolic_values.specs.Worth.{behind_uses, worth}
use Rattle.frame_names.specs.Frames.{length_at}
use Rattle.frame_names.specs.PairedFrames.{FramePairing, old_at, old_of}
use Rattle.frame_names.specs.declared.reference.Reference.{Reference}
use Rattle.frame_names.specs.declared.var.Var.{Var}
use Rattle.frame_names.specs.declared.var.Var.TheVariants as vars

-- What a variable has: a number, an array or null, a text, or the address, in an array, of the item of an index.
pub data Said : Type 0 where
  a_number : ℤ → Said
  an_array : Option ℕ → Said
  a_text : Said
  an_address : Option ℕ → ℤ → Said

-- What a variable has, where each symbol is worth a number, and each reference is the array of a number, or null.
abbrev pub said : (ℕ → ℤ) → (ℕ → Option ℕ) → Var → Said
said number array (vars.Number e) = a_number (worth number e)
said number array (vars.Reference r) = an_array (array r)
said number array vars.Text = a_text
said number array (vars.Address r e) = an_address (array r) (worth number e)

-- ---- two frames that were named together. Each new symbol is worth what its first use is on that side, and each new
-- reference is the array that its first use is

abbrev pub numbers_behind : Bool → (ℕ → ℤ) → FramePairing → ℕ → ℤ
numbers_behind is_first number new = behind_uses is_first number (origin ∷ new.numbers.keys)

abbrev pub arrays_behind : Bool → (ℕ → Option ℕ) → FramePairing → ℕ → Option ℕ
arrays_behind is_first array new r = array (old_at is_first new.references.keys r)

-- The new variables say what those of each side say.
abbrev pub SaysBoth : List Var → List Var → FramePairing → Type 0
SaysBoth a b new =
    (is_first : Bool) (number : ℕ → ℤ) (array : ℕ → Option ℕ)
    → map (said (numbers_behind is_first number new) (arrays_behind is_first array new)) new.vars
    ≡ map (said number array) (if is_first then a else b)

-- The new lengths are worth what the lengths of the paired references are on each side.
abbrev pub HasBothLengths : List Reference → List Reference → FramePairing → Type 0
HasBothLengths a b new =
    (is_first : Bool) (number : ℕ → ℤ)
    → map (worth (numbers_behind is_first number new)) new.lengths
    ≡ map (λ key. worth number (length_at (if is_first then a else b) (old_of is_first key))) new.references.keys
