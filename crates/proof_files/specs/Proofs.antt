-- Proof files: units, each with the states of its invariant, as text.
use Rattle.std.specs.Prelude.{◌≡◌, ℕ, ◌-◌, ◌≤◌, Bool, false, nat_le, nat_lt, List, [], ◌∷◌, ◌++◌, length, map}
use Rattle.std.specs.Prelude.{if◌then◌else◌, codes}
use Rattle.std.specs.List.{AllByRecursion, flat_map, list_any}
use Rattle.std.specs.Str.{bytes_eq}
use Rattle.abs_state.specs.StateParts.{AreParts, parts_of}
use Rattle.cc_base.specs.Digits.{hex}
use Rattle.cil_model.specs.declared.unit.Unit.{Unit as MethodUnit}
use Rattle.flow_graph.specs.GraphOf.{graph_of}
use Rattle.invariant_text.specs.InvariantText.{invariant_text}
use Rattle.invariant_text.specs.Shape.{AreOfBlocks}
use Rattle.method_unit.specs.Units.{IsUnit}
use Rattle.state_facts.specs.StateFacts.{State}
use Rattle.transfer_rules.specs.Inductive.{HasShape}
use Rattle.unit_flow.specs.FlowOf.{flow_of}
use Rattle.unit_form.specs.Spelling.{unit_bytes}

-- The most bytes of a proof file.
abbrev pub MAX_PROOF_BYTES : ℕ
MAX_PROOF_BYTES = 67_108_864

-- A unit, and the states of its invariant.
pub record Entry : Type 0 where
  pub unit : MethodUnit
  pub states : List State

-- ---- text

-- Bytes in lower-case hexadecimal, two digits for each.
abbrev pub hex_text : List ℕ → List ℕ
hex_text bytes = flat_map (hex 2) bytes

unfoldable pub unit_line : MethodUnit → List ℕ
unit_line unit = codes "unit " ++ hex_text (unit_bytes unit) ++ codes "\n"

-- The IL offsets at which the blocks of a unit start.
abbrev pub blocks_of : MethodUnit → List ℕ
blocks_of unit = (graph_of unit).blocks

-- The lines of an entry before the one that ends it.
unfoldable pub prefix_text : Entry → List ℕ
prefix_text e = unit_line e.unit ++ invariant_text e.unit (blocks_of e.unit) e.states

abbrev pub entry_text : Entry → List ℕ
entry_text e = prefix_text e ++ codes "end\n"

-- The line that a proof file begins with.
abbrev pub FIRST_LINE : List ℕ
FIRST_LINE = codes "cccheck proof 1\n"

unfoldable pub proof_text : List Entry → List ℕ
proof_text entries = FIRST_LINE ++ flat_map entry_text entries

-- ---- the cut

-- The entries up to the first for which there is no room, where so many bytes are left.
abbrev pub kept_within : ℕ → List Entry → List Entry
kept_within left [] = []
kept_within left (e ∷ es) =
    if nat_le (length (entry_text e)) left then e ∷ kept_within (left - length (entry_text e)) es else []

-- Those with which the text does not pass its most bytes. The first line takes 16.
unfoldable pub kept : List Entry → List Entry
kept entries = kept_within (MAX_PROOF_BYTES - 16) entries

-- Some entry is not kept.
abbrev pub is_cut : List Entry → Bool
is_cut entries = nat_lt (length (kept entries)) (length entries)

-- The proof file of entries.
unfoldable pub proof_bytes : List Entry → List ℕ
proof_bytes entries = proof_text (kept entries)

-- ---- which entries a proof file has

-- A unit, and states of its shape whose numbers are those of the code, with bounds and pairs in order.
pub record IsEntry (e : Entry) : Type 0 where
  pub is_unit : IsUnit e.unit
  pub shape : HasShape (flow_of e.unit) e.states
  pub printable : AreOfBlocks (blocks_of e.unit) e.states
  pub ordered : AllByRecursion (λ state. AreParts (parts_of state)) e.states

abbrev pub key_of : Entry → List ℕ
key_of e = unit_bytes e.unit

abbrev pub keys_of : List Entry → List (List ℕ)
keys_of entries = map key_of entries

abbrev pub is_among : List (List ℕ) → List ℕ → Bool
is_among keys key = list_any (bytes_eq key) keys

-- An entry of a unit whose bytes are none of these.
pub record IsNewEntry (keys : List (List ℕ)) (e : Entry) : Type 0 where
  pub entry : IsEntry e
  pub new : is_among keys (key_of e) ≡ false

-- Entries, each of a unit whose bytes are none of these and not those of a unit before it.
abbrev pub AreEntriesBehind : List (List ℕ) → List Entry → Type 0
AreEntriesBehind keys [] = Unit {0}
AreEntriesBehind keys (e ∷ es) = IsNewEntry keys e × AreEntriesBehind (keys ++ key_of e ∷ []) es

-- Entries of units of which no two have the same bytes.
abbrev pub AreEntries : List Entry → Type 0
AreEntries entries = AreEntriesBehind [] entries

-- The bytes are the whole proof file of these entries.
pub record IsProofOf (entries : List Entry) (bytes : List ℕ) : Type 0 where
  pub are : AreEntries entries
  pub size : length bytes ≤ MAX_PROOF_BYTES
  pub same : proof_text entries ≡ bytes
