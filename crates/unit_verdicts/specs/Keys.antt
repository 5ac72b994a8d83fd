-- The bytes of units.
use Rattle.std.specs.Prelude.{◌≡◌, ℕ, List}
use Rattle.method_unit.specs.UnitFile.{unit_of}
use Rattle.method_unit.specs.Units.{IsUnit}
use Rattle.unit_form.specs.Spelling.{unit_bytes}

-- The bytes are those of a unit.
pub record IsKey (key : List ℕ) : Type 0 where
  pub is_unit : IsUnit (unit_of key)
  pub spelled : unit_bytes (unit_of key) ≡ key
