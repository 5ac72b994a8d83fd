-- What a proof file states of units.
use Rattle.std.specs.Prelude.{ℕ, List, [], ◌∷◌, map, if◌then◌else◌}
use Rattle.std.specs.List.{AllByRecursion}
use Rattle.std.specs.Str.{bytes_eq}
use Rattle.std.specs.declared.alloc.Global.{Global}
use Rattle.std.specs.declared.vec.Vec.{Vec}
use Rattle.method_unit.specs.UnitFile.{unit_of}
use Rattle.proof_files.specs.Proofs.{Entry}
use Rattle.state_facts.specs.StateFacts.{State}
use Rattle.abs_state.specs.declared.invariant.Invariant.{Invariant}
use Rattle.unit_form.specs.Spelling.{unit_bytes}
use Rattle.unit_verdicts.specs.Keys.{IsKey}

-- The states of the entry of the unit of these bytes. Where there is none, they are those of no blocks.
abbrev pub states_for : List Entry → List ℕ → List State
states_for [] key = []
states_for (entry ∷ entries) key =
    if bytes_eq key (unit_bytes entry.unit) then entry.states else states_for entries key

-- ---- the map that holds it

-- The bytes of a unit, and what is stated of it.
abbrev pub StatedUnit : Type 0
StatedUnit = Vec ℕ Global × Invariant

abbrev pub unit_stated : StatedUnit → Entry
unit_stated stated = record { unit = unit_of stated.0.items; states = stated.1.states.items }

abbrev pub units_stated : List StatedUnit → List Entry
units_stated stated = map unit_stated stated

-- Each key is the bytes of a unit.
abbrev pub AreKeyed : List StatedUnit → Type 0
AreKeyed stated = AllByRecursion (λ one. IsKey one.0.items) stated
