-- The sections of a state, one behind the other.
use Rattle.std.proofs.Common.{◌≡◌, ℕ, List, ◌++◌, Option, Some, None, sym, ap, ◌∙◌}
use Rattle.abs_state.specs.StateParts.{StateParts, parts_of}
use Rattle.alias_facts.specs.PairsOf.{Pair}
use Rattle.cil_model.specs.declared.unit.Unit.{Unit as MethodUnit}
use Rattle.frame_names.specs.declared.var.Var.{Var}
use Rattle.interval_domain.specs.Interval.{Interval}
use Rattle.pentagon_domain.specs.declared.bound_row.BoundRow.{BoundRow}
use Rattle.state_facts.specs.StateFacts.{StateFacts}
use Rattle.symbolic_values.specs.declared.def.Def.{Def}
use Rattle.invariant_text.specs.ReferenceLines.{apart_line}
use Rattle.invariant_text.specs.StateText.{state_lines}
use Rattle.invariant_text.specs.SymbolLines.{bound_line, definition_line, symbol_line}
use Rattle.invariant_text.specs.VariableLines.{variable_line}
use Rattle.invariant_text.proofs.Sections.{IsNarrowAt}
use Rattle.invariant_text.proofs.StateReading.{Rises, are_small, behind_bounds, behind_definitions, behind_ranges}
use Rattle.invariant_text.proofs.StateReading.{behind_references, behind_variables, rises, state_parts}
use Rattle.invariant_reader.specs.ArrayReaders.{AreKnownLines, Arrays, EndsArrays, array_lines}
use Rattle.invariant_reader.specs.CodeNumbers.{IsCodeDefinition, IsCodePair, IsCodeRow, IsCodeVar}
use Rattle.invariant_reader.specs.ReadsBack.{ReadsBack, ReadsSection}
use Rattle.invariant_reader.specs.StateReaders.{EndsState, IsReadable, ReadsParts, reached_parts}
use Rattle.invariant_reader.proofs.CodeStates.{code_lines}
use Rattle.invariant_reader.proofs.Repeats.{none_some, pair, read_of}

-- Where the lines of a state follow from the beginning on, this was read of it so far, and that is left.
abbrev pub IsLeft : List ℕ → (StateFacts → Type 0) → (StateFacts → List ℕ → List ℕ) → List ℕ → Type 0
IsLeft text so_far behind left =
    (unit : MethodUnit) (known : StateFacts) (rest : List ℕ) → IsReadable known → EndsState rest
    → text ≡ state_lines unit known ++ rest → so_far known × (left ≡ behind known rest)

-- A section is read next, and then another text is left.
abbrev ReadsPart : {X : Type 0} → (StateFacts → List ℕ → List ℕ) → (StateFacts → X) → (StateFacts → List ℕ → List ℕ)
    → List ℕ → Option (X × List ℕ) → Type 0
ReadsPart {X} before part behind text read =
    (known : StateFacts) (rest : List ℕ) → IsReadable known → EndsState rest → text ≡ before known rest
    → read ≡ Some (part known, behind known rest)

part_missed : {X : Type 0} (text : List ℕ) (so_far : StateFacts → Type 0) (before : StateFacts → List ℕ → List ℕ)
    (left : List ℕ) (part : StateFacts → X) (behind : StateFacts → List ℕ → List ℕ) (read : Option (X × List ℕ))
    → IsLeft text so_far before left → ReadsPart before part behind left read → None ≡ read → ReadsParts text None
part_missed text so_far before left part behind read is_left reads none unit known rest is ends same =
    absurd (none_some (none ∙ reads known rest is ends (is_left unit known rest is ends same).1))

part_read : {X : Type 0} (text : List ℕ) (so_far : StateFacts → Type 0) (before : StateFacts → List ℕ → List ℕ)
    (left : List ℕ) (part : StateFacts → X) (behind : StateFacts → List ℕ → List ℕ) (read : Option (X × List ℕ)) (x : X)
    (next : List ℕ) → IsLeft text so_far before left → ReadsPart before part behind left read
    → Some (pair x next) ≡ read → IsLeft text (λ known. so_far known × (x ≡ part known)) behind next
part_read {X} text so_far before left part behind read x next is_left reads some unit known rest is ends same =
    let here = is_left unit known rest is ends same in
    let both = read_of (some ∙ reads known rest is ends here.1) in
    ((here.0, ap (λ (p : X × List ℕ). p.0) both), ap (λ (p : X × List ℕ). p.1) both)

kinds_rise : (known : StateFacts) (rest : List ℕ) → IsReadable known → EndsState rest → Rises known rest
kinds_rise known rest is ends = rises known rest (are_small known is.printable) ends

-- ---- variables

pub at_variables : (text : List ℕ) (read : Option (List Var × List ℕ))
    → ((unit : MethodUnit) → ReadsSection (variable_line unit) (λ n v. IsCodeVar v) 1 0 text read)
    → (unit : MethodUnit) (known : StateFacts) (rest : List ℕ) → IsReadable known → EndsState rest
    → text ≡ state_lines unit known ++ rest → read ≡ Some (known.variables, behind_variables known rest)
at_variables text read reads unit known rest is ends same =
    reads unit known.variables (behind_variables known rest) (code_lines known is).variables
    (kinds_rise known rest is ends).variables (same ∙ state_parts unit known rest)

pub variables_missed : (text : List ℕ) (read : Option (List Var × List ℕ))
    → ((unit : MethodUnit) → ReadsSection (variable_line unit) (λ n v. IsCodeVar v) 1 0 text read) → None ≡ read
    → ReadsParts text None
variables_missed text read reads none unit known rest is ends same =
    absurd (none_some (none ∙ at_variables text read reads unit known rest is ends same))

abbrev pub OfVariables : List Var → StateFacts → Type 0
OfVariables variables known = variables ≡ known.variables

pub variables_read : (text : List ℕ) (read : Option (List Var × List ℕ)) (variables : List Var) (next : List ℕ)
    → ((unit : MethodUnit) → ReadsSection (variable_line unit) (λ n v. IsCodeVar v) 1 0 text read)
    → Some (pair variables next) ≡ read → IsLeft text (OfVariables variables) behind_variables next
variables_read text read variables next reads some unit known rest is ends same =
    let both = read_of (some ∙ at_variables text read reads unit known rest is ends same) in
    (ap (λ (p : List Var × List ℕ). p.0) both, ap (λ (p : List Var × List ℕ). p.1) both)

-- ---- ranges of symbols

at_symbols : (left : List ℕ) (read : Option (List Interval × List ℕ)) → ReadsSection symbol_line IsNarrowAt 2 1 left read
    → ReadsPart behind_variables (λ known. known.facts.ranges) behind_ranges left read
at_symbols left read reads known rest is ends same =
    reads known.facts.ranges (behind_ranges known rest) (code_lines known is).ranges
    (kinds_rise known rest is ends).ranges same

abbrev pub OfSymbols : List Var → List Interval → StateFacts → Type 0
OfSymbols variables ranges known = OfVariables variables known × (ranges ≡ known.facts.ranges)

pub symbols_missed : (text : List ℕ) (variables : List Var) (left : List ℕ) (read : Option (List Interval × List ℕ))
    → IsLeft text (OfVariables variables) behind_variables left
    → ReadsSection symbol_line IsNarrowAt 2 1 left read → None ≡ read → ReadsParts text None
symbols_missed text variables left read is_left reads none =
    part_missed text (OfVariables variables) behind_variables left (λ known. known.facts.ranges) behind_ranges read is_left
    (at_symbols left read reads) none

pub symbols_read : (text : List ℕ) (variables : List Var) (left : List ℕ) (read : Option (List Interval × List ℕ)) (ranges : List Interval) (next : List ℕ)
    → IsLeft text (OfVariables variables) behind_variables left
    → ReadsSection symbol_line IsNarrowAt 2 1 left read → Some (pair ranges next) ≡ read
    → IsLeft text (OfSymbols variables ranges) behind_ranges next
symbols_read text variables left read ranges next is_left reads some =
    part_read text (OfVariables variables) behind_variables left (λ known. known.facts.ranges) behind_ranges read ranges next is_left (at_symbols left read reads) some

-- ---- references

abbrev arrays_in : StateFacts → Arrays
arrays_in known = record { references = known.references; contents = known.contents }

at_arrays : (left : List ℕ) (read : Option (Arrays × List ℕ)) → ReadsBack array_lines AreKnownLines EndsArrays left read
    → ReadsPart behind_ranges arrays_in behind_references left read
at_arrays left read reads known rest is ends same =
    reads (arrays_in known) (behind_references known rest) (code_lines known is).arrays
    (kinds_rise known rest is ends).references same

abbrev pub OfArrays : List Var → List Interval → Arrays → StateFacts → Type 0
OfArrays variables ranges arrays known = OfSymbols variables ranges known × (arrays ≡ arrays_in known)

pub arrays_missed : (text : List ℕ) (variables : List Var) (ranges : List Interval) (left : List ℕ) (read : Option (Arrays × List ℕ))
    → IsLeft text (OfSymbols variables ranges) behind_ranges left
    → ReadsBack array_lines AreKnownLines EndsArrays left read → None ≡ read → ReadsParts text None
arrays_missed text variables ranges left read is_left reads none =
    part_missed text (OfSymbols variables ranges) behind_ranges left arrays_in behind_references read is_left
    (at_arrays left read reads) none

pub arrays_read : (text : List ℕ) (variables : List Var) (ranges : List Interval) (left : List ℕ) (read : Option (Arrays × List ℕ)) (arrays : Arrays)
    (next : List ℕ) → IsLeft text (OfSymbols variables ranges) behind_ranges left
    → ReadsBack array_lines AreKnownLines EndsArrays left read → Some (pair arrays next) ≡ read
    → IsLeft text (OfArrays variables ranges arrays) behind_references next
arrays_read text variables ranges left read arrays next is_left reads some =
    part_read text (OfSymbols variables ranges) behind_ranges left arrays_in behind_references read arrays next is_left
    (at_arrays left read reads) some

-- ---- bounds

abbrev ReadsBounds : List ℕ → Option (List BoundRow × List ℕ) → Type 0
ReadsBounds left read = ReadsSection (λ (n : ℕ) (row : BoundRow). bound_line row) (λ n row. IsCodeRow row) 4 0 left read

at_bounds : (left : List ℕ) (read : Option (List BoundRow × List ℕ)) → ReadsBounds left read
    → ReadsPart behind_references (λ known. known.facts.bounds) behind_bounds left read
at_bounds left read reads known rest is ends same =
    reads known.facts.bounds (behind_bounds known rest) (code_lines known is).bounds
    (kinds_rise known rest is ends).bounds same

abbrev pub OfBounds : List Var → List Interval → Arrays → List BoundRow → StateFacts → Type 0
OfBounds variables ranges arrays bounds known = OfArrays variables ranges arrays known × (bounds ≡ known.facts.bounds)

pub bounds_missed : (text : List ℕ) (variables : List Var) (ranges : List Interval) (arrays : Arrays) (left : List ℕ) (read : Option (List BoundRow × List ℕ))
    → IsLeft text (OfArrays variables ranges arrays) behind_references left → ReadsBounds left read
    → None ≡ read → ReadsParts text None
bounds_missed text variables ranges arrays left read is_left reads none =
    part_missed text (OfArrays variables ranges arrays) behind_references left (λ known. known.facts.bounds) behind_bounds read is_left (at_bounds left read reads) none

pub bounds_read : (text : List ℕ) (variables : List Var) (ranges : List Interval) (arrays : Arrays) (left : List ℕ) (read : Option (List BoundRow × List ℕ))
    (bounds : List BoundRow) (next : List ℕ) → IsLeft text (OfArrays variables ranges arrays) behind_references left
    → ReadsBounds left read → Some (pair bounds next) ≡ read
    → IsLeft text (OfBounds variables ranges arrays bounds) behind_bounds next
bounds_read text variables ranges arrays left read bounds next is_left reads some =
    part_read text (OfArrays variables ranges arrays) behind_references left (λ known. known.facts.bounds) behind_bounds read bounds next is_left (at_bounds left read reads) some

-- ---- definitions

abbrev ReadsDefinitions : List ℕ → Option (List (ℕ × Def) × List ℕ) → Type 0
ReadsDefinitions left read =
    ReadsSection (λ (n : ℕ) (d : ℕ × Def). definition_line d) (λ n d. IsCodeDefinition d) 5 0 left read

at_definitions : (left : List ℕ) (read : Option (List (ℕ × Def) × List ℕ)) → ReadsDefinitions left read
    → ReadsPart behind_bounds (λ known. known.facts.definitions) behind_definitions left read
at_definitions left read reads known rest is ends same =
    reads known.facts.definitions (behind_definitions known rest) (code_lines known is).definitions
    (kinds_rise known rest is ends).definitions same

abbrev pub OfDefinitions : List Var → List Interval → Arrays → List BoundRow → List (ℕ × Def) → StateFacts → Type 0
OfDefinitions variables ranges arrays bounds definitions known =
    OfBounds variables ranges arrays bounds known × (definitions ≡ known.facts.definitions)

pub definitions_missed : (text : List ℕ) (variables : List Var) (ranges : List Interval) (arrays : Arrays)
    (bounds : List BoundRow) (left : List ℕ) (read : Option (List (ℕ × Def) × List ℕ)) → IsLeft text (OfBounds variables ranges arrays bounds) behind_bounds left
    → ReadsDefinitions left read → None ≡ read → ReadsParts text None
definitions_missed text variables ranges arrays bounds left read is_left reads none =
    part_missed text (OfBounds variables ranges arrays bounds) behind_bounds left (λ known. known.facts.definitions)
    behind_definitions read is_left (at_definitions left read reads) none

pub definitions_read : (text : List ℕ) (variables : List Var) (ranges : List Interval) (arrays : Arrays)
    (bounds : List BoundRow) (left : List ℕ) (read : Option (List (ℕ × Def) × List ℕ)) (definitions : List (ℕ × Def)) (next : List ℕ)
    → IsLeft text (OfBounds variables ranges arrays bounds) behind_bounds left
    → ReadsDefinitions left read → Some (pair definitions next) ≡ read
    → IsLeft text (OfDefinitions variables ranges arrays bounds definitions) behind_definitions next
definitions_read text variables ranges arrays bounds left read definitions next is_left reads some =
    part_read text (OfBounds variables ranges arrays bounds) behind_bounds left (λ known. known.facts.definitions)
    behind_definitions read definitions next is_left (at_definitions left read reads) some

-- ---- pairs that are apart

abbrev ReadsApart : List ℕ → Option (List Pair × List ℕ) → Type 0
ReadsApart left read = ReadsSection (λ (n : ℕ) (p : Pair). apart_line p) (λ n p. IsCodePair p) 6 0 left read

abbrev no_more : StateFacts → List ℕ → List ℕ
no_more known rest = rest

at_apart : (left : List ℕ) (read : Option (List Pair × List ℕ)) → ReadsApart left read
    → ReadsPart behind_definitions (λ known. known.apart) no_more left read
at_apart left read reads known rest is ends same =
    reads known.apart rest (code_lines known is).apart (kinds_rise known rest is ends).apart same

pub apart_missed : (text : List ℕ) (variables : List Var) (ranges : List Interval) (arrays : Arrays)
    (bounds : List BoundRow) (definitions : List (ℕ × Def)) (left : List ℕ) (read : Option (List Pair × List ℕ))
    → IsLeft text (OfDefinitions variables ranges arrays bounds definitions) behind_definitions left
    → ReadsApart left read → None ≡ read → ReadsParts text None
apart_missed text variables ranges arrays bounds definitions left read is_left reads none =
    part_missed text (OfDefinitions variables ranges arrays bounds definitions) behind_definitions left
    (λ known. known.apart) no_more read is_left (at_apart left read reads) none

-- The parts, where all sections were read.
pub parts_read : (text : List ℕ) (variables : List Var) (ranges : List Interval) (arrays : Arrays)
    (bounds : List BoundRow) (definitions : List (ℕ × Def)) (left : List ℕ) (read : Option (List Pair × List ℕ)) (apart : List Pair) (next : List ℕ)
    → IsLeft text (OfDefinitions variables ranges arrays bounds definitions) behind_definitions left
    → ReadsApart left read → Some (pair apart next) ≡ read
    → (made : StateParts) → made ≡ reached_parts variables ranges arrays bounds definitions apart
    → ReadsParts text (Some (pair made next))
parts_read text variables ranges arrays bounds definitions left read apart next is_left reads some made made_is unit known
    rest is ends same =
    let all = part_read text (OfDefinitions variables ranges arrays bounds definitions) behind_definitions left
    (λ known. known.apart) no_more read apart next is_left (at_apart left read reads) some unit known rest is ends
    same in
    let of_definitions = all.0.0 in
    let of_bounds = of_definitions.0 in
    let of_arrays = of_bounds.0 in
    let of_symbols = of_arrays.0 in
    let parts : made ≡ parts_of (Some known) =
    made_is ∙ (λ i. reached_parts (of_symbols.0 i) (of_symbols.1 i) (of_arrays.1 i) (of_bounds.1 i) (of_definitions.1 i)
    (all.0.1 i)) in
    (λ i. Some (pair (parts i) (all.1 i)))
