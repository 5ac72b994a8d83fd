-- An entry is read from its lines, and other lines are those of no entry.
use Rattle.std.proofs.Common.{◌≡◌, ℕ, ◌≤◌, Bool, true, false, List, [], ◌∷◌, ◌++◌, length, Some, None, sym, ap, ◌∙◌}
use Rattle.std.proofs.Common.{arith, length-append, subst}
use Rattle.std.specs.Prelude.{◌↔◌, IsTrue}
use Rattle.std.proofs.lemmas.Bool.{false≢true}
use Rattle.cil_model.specs.declared.unit.Unit.{Unit as MethodUnit}
use Rattle.invariant_reader.specs.Reading.{IsTextOf}
use Rattle.invariant_text.proofs.BlockReading.{distinct}
use Rattle.method_unit.specs.Units.{IsUnit}
use Rattle.method_unit.proofs.SpellingBytes.{spelling_is_bytes}
use Rattle.method_unit.proofs.UnitAgain.{one_unit}
use Rattle.state_facts.specs.StateFacts.{State}
use Rattle.transfer_rules.specs.Inductive.{HasShape}
use Rattle.unit_flow.specs.FlowOf.{flow_of}
use Rattle.unit_flow.specs.declared.unit_flow.UnitFlow.{UnitFlow}
use Rattle.unit_form.specs.Spelling.{unit_bytes}
use Rattle.proof_files.specs.Held.{entries_held, keys_held}
use Rattle.proof_files.specs.Proofs.{Entry, IsNewEntry, prefix_text, hex_text, is_among}
use Rattle.proof_files.specs.Steps.{AreStatesOf, HasParts, IsEntryOf, IsUnitLineOf, Takes, line_text}
use Rattle.proof_files.specs.declared.known_entries.KnownEntries.{KnownEntries}
use Rattle.proof_files.proofs.EntryLemmas.{prefix_is, states_text, unit_line_once}
use Rattle.proof_files.proofs.HexReading.{hex_length}

-- ---- of its unit and its lines

pub states_none : (key lines : List ℕ) (unit : MethodUnit) (code : UnitFlow) → IsUnit unit → unit_bytes unit ≡ key
    → code ≡ flow_of unit
    → AreStatesOf code lines None → IsEntryOf key lines None
states_none key lines unit code is same flow none e has =
    let one : e.unit ≡ unit = one_unit e.unit unit has.entry.is_unit is (has.unit ∙ sym same) in
    let whole : flow_of e.unit ≡ code = ap (λ (u : MethodUnit). flow_of u) one ∙ sym flow in
    let text : IsTextOf (flow_of e.unit).unit (flow_of e.unit).graph.blocks e.states lines =
    record { printable = has.entry.printable; ordered = has.entry.ordered; same = has.lines } in
    none e.states (subst (λ (f : UnitFlow). HasShape f e.states) whole has.entry.shape)
    (subst (λ (f : UnitFlow). IsTextOf f.unit f.graph.blocks e.states lines) whole text)

-- Only the states that are found have this text.
pub shape_none : (code : UnitFlow) (text : List ℕ) (found seen : List State) (has_shape : Bool)
    → IsTextOf code.unit code.graph.blocks found text → seen ≡ found → IsTrue has_shape ↔ HasShape code seen
    → has_shape ≡ false → AreStatesOf code text None
shape_none code text found seen has_shape is same exact fails states shape are =
    let one : states ≡ seen =
    distinct code.unit code.graph.blocks states found are.printable is.printable (are.same ∙ sym is.same) ∙ sym same in
    false≢true (sym fails ∙ exact.1 (subst (λ (s : List State). HasShape code s) one shape))

-- ---- of its text

-- The text is that of no new entry.
abbrev pub IsNoNew : List (List ℕ) → List ℕ → Type 0
IsNoNew keys prefix = (e : Entry) → IsNewEntry keys e → prefix_text e ≡ prefix → ⊥

pub line_none : (keys : List (List ℕ)) (prefix : List ℕ) → IsUnitLineOf prefix None → IsNoNew keys prefix
line_none keys prefix none e new same =
    none (unit_bytes e.unit) (states_text e.unit e.states) (spelling_is_bytes e.unit new.entry.is_unit)
    (sym (prefix_is e) ∙ same)

-- The bytes of the unit and the lines of the invariant are those that were read.
pub parts_of : (prefix key lines : List ℕ) (keys : List (List ℕ)) (e : Entry) → IsUnitLineOf prefix (Some (key, lines))
    → IsNewEntry keys e
    → prefix_text e ≡ prefix → HasParts key lines e
parts_of prefix key lines keys e line new same =
    let both = unit_line_once (unit_bytes e.unit) key (states_text e.unit e.states) lines
    (spelling_is_bytes e.unit new.entry.is_unit)
    line.0 (sym (prefix_is e) ∙ same ∙ sym line.1) in
    record { entry = new.entry; unit = both.0; lines = both.1 }

pub known_none : (keys : List (List ℕ)) (prefix key lines : List ℕ) → IsUnitLineOf prefix (Some (key, lines))
    → is_among keys key ≡ true
    → IsNoNew keys prefix
known_none keys prefix key lines line known e new same =
    let parts = parts_of prefix key lines keys e line new same in
    false≢true (sym new.new ∙ ap (is_among keys) parts.unit ∙ known)

pub parts_none : (keys : List (List ℕ)) (prefix key lines : List ℕ) → IsUnitLineOf prefix (Some (key, lines))
    → IsEntryOf key lines None
    → IsNoNew keys prefix
parts_none keys prefix key lines line none e new same = none e (parts_of prefix key lines keys e line new same)

pub entry_taken : (before after : KnownEntries) (prefix key lines : List ℕ) (e : Entry)
    → IsUnitLineOf prefix (Some (key, lines))
    → is_among (keys_held before) key ≡ false → IsEntryOf key lines (Some e)
    → entries_held after ≡ entries_held before ++ e ∷ [] → keys_held after ≡ keys_held before ++ key ∷ []
    → Takes before after prefix true
entry_taken before after prefix key lines e line new parts entries keys = record {
  e = e;
  new = record { entry = parts.entry; new = ap (is_among (keys_held before)) parts.unit ∙ new };
  text = prefix_is e ∙ ap (λ (k : List ℕ). line_text k (states_text e.unit e.states)) parts.unit
      ∙ ap (line_text key) parts.lines ∙ line.1;
  entries = entries;
  keys = keys ∙ ap (λ (k : List ℕ). keys_held before ++ k ∷ []) (sym parts.unit);
}

-- The bytes of a unit are half of its line at most.
pub key_short : (prefix key lines : List ℕ) → IsUnitLineOf prefix (Some (key, lines)) → length key ≤ length prefix
unfolding line_text
key_short prefix key lines line =
    omega (
      arith,
      ap length line.1,
      length-append ((117 ∷ 110 ∷ 105 ∷ 116 ∷ 32 ∷ hex_text key) ++ 10 ∷ []) lines,
      length-append (117 ∷ 110 ∷ 105 ∷ 116 ∷ 32 ∷ hex_text key) (10 ∷ []),
      hex_length key line.0,
    )
