-- How the fields of a unit are spelled as a file, and which fields are spelled.
use Rattle.std.specs.Prelude.{◌≡◌, ℕ, ◌+◌, ◌≤◌, List, [], ◌∷◌, ◌++◌, length, map}
use Rattle.std.specs.List.{flat_map, AllByRecursion}
use Rattle.byteorder.specs.Endian.{little_bytes}
use Rattle.cil_model.specs.Limits.{MAX_CODE_BYTES, MAX_VARIABLES}
use Rattle.cil_model.specs.Places.{place_number}
use Rattle.cil_model.specs.WellFormed.{HoldValues, IsCallee, IsUnitName}
use Rattle.cil_model.specs.declared.clause.Clause.{Clause}
use Rattle.cil_model.specs.declared.place.Place.{Place}
use Rattle.cil_model.specs.declared.unit.CalleeInfo.{CalleeInfo}
use Rattle.cil_model.specs.declared.unit.Unit.{Unit as MethodUnit}
use Rattle.unit_form.specs.AddedClauses.{MayBeAdded, added_clauses}
use Rattle.unit_form.specs.Callees.{kind_number}
use Rattle.unit_form.specs.Forms.{IsCount, MayAdd, count_bytes, magic}
use Rattle.unit_form.specs.TreeSpelling.{tree_bytes}
use Rattle.unit_form.specs.declared.form.UnitForm.{UnitForm}
use Rattle.unit_form.specs.declared.form.UnitForm.TheVariants.{First, Second, Third}

-- A name, after its length.
abbrev pub name_bytes : List ℕ → List ℕ
name_bytes name = little_bytes 2 (length name) ++ name

-- Places, after their count.
abbrev pub places_bytes : UnitForm → List Place → List ℕ
places_bytes form places = count_bytes form (length places) ++ map place_number places

abbrev pub clause_bytes : UnitForm → Clause → List ℕ
clause_bytes form clause = kind_number clause.kind ∷ tree_bytes form clause.tree

-- Clauses, after their count.
abbrev pub clauses_bytes : UnitForm → List Clause → List ℕ
clauses_bytes form clauses = length clauses ∷ flat_map (clause_bytes form) clauses

abbrev pub callee_bytes : UnitForm → CalleeInfo → List ℕ
callee_bytes form callee = name_bytes callee.name ++ (place_number callee.result ∷ (places_bytes form callee.args ++ clauses_bytes form callee.clauses))

-- Clauses that were added, after their count. The third form alone has them.
abbrev pub added_bytes : UnitForm → List Clause → List ℕ
added_bytes First clauses = []
added_bytes Second clauses = []
added_bytes Third clauses = clauses_bytes Third clauses

-- The name, the places and the size of the stack.
unfoldable pub shape_bytes : UnitForm → MethodUnit → List ℕ
shape_bytes form unit =
    name_bytes unit.name ++ (place_number unit.result ∷ (places_bytes form unit.args ++ (places_bytes form unit.locals ++ count_bytes form unit.max_stack)))

-- All that stands in each form: these, and then the callees and the code.
unfoldable pub fields_bytes : UnitForm → MethodUnit → List ℕ
fields_bytes form unit =
    shape_bytes form unit ++ (little_bytes 2 (length unit.callees) ++ (flat_map (callee_bytes form) unit.callees ++ (little_bytes 4 (length unit.code) ++ unit.code)))

-- A unit as a file of this form.
unfoldable pub unit_spelling : UnitForm → MethodUnit → List ℕ
unit_spelling form unit = magic form ++ (fields_bytes form unit ++ added_bytes form (added_clauses unit))

-- The form in which a unit to which these clauses were added is written.
abbrev pub form_with : List Clause → UnitForm
form_with [] = Second
form_with (clause ∷ clauses) = Third

-- The file that is written of a unit, and the key under which it is kept: in the second form, or in the third where
-- clauses were added.
unfoldable pub unit_bytes : MethodUnit → List ℕ
unit_bytes unit = unit_spelling (form_with (added_clauses unit)) unit

-- The counts of the unit, the size of its stack and the clauses that were added can be written in this form.
pub record HasCounts (form : UnitForm) (unit : MethodUnit) : Type 0 where
  pub args : IsCount form (length unit.args)
  pub locals : IsCount form (length unit.locals)
  pub max_stack : IsCount form unit.max_stack
  pub callees : AllByRecursion (λ callee. IsCount form (length callee.args)) unit.callees
  pub added : MayAdd form (length (added_clauses unit))

-- The bytes spell the unit, in one of the forms.
pub record IsSpelledBy (unit : MethodUnit) (bytes : List ℕ) : Type 0 where
  pub form : UnitForm
  pub counts : HasCounts form unit
  pub same : unit_spelling form unit ≡ bytes

-- Fields that a file may spell: names, places, callees, a code and added clauses within the limits.
pub record HasFields (unit : MethodUnit) : Type 0 where
  pub name : IsUnitName unit.name
  pub args : HoldValues unit.args
  pub locals : HoldValues unit.locals
  pub variables : length unit.args + length unit.locals + unit.max_stack ≤ MAX_VARIABLES
  pub callees : AllByRecursion IsCallee unit.callees
  pub count : length unit.callees ≤ 65_535
  pub code : length unit.code ≤ MAX_CODE_BYTES
  pub added : MayBeAdded unit.args unit.result (added_clauses unit)
