-- Of two states whose lines are the same, what is known is the same.
use Rattle.std.proofs.Common.{◌≡◌, ℕ, ◌+◌, ◌<◌, List, [], ◌∷◌, ◌++◌, length, refl, sym, ap, ◌∙◌, arith, append_assoc}
use Rattle.std.specs.List.{flat_map, zip}
use Rattle.std.proofs.lemmas.List.{append-nil}
use Rattle.alias_facts.specs.PairsOf.{Pair}
use Rattle.array_contents.specs.Contents.{Contents}
use Rattle.cil_model.specs.declared.unit.Unit.{Unit as MethodUnit}
use Rattle.frame_names.specs.declared.reference.Reference.{Reference}
use Rattle.pentagon_domain.specs.declared.bound_row.BoundRow.{BoundRow}
use Rattle.state_facts.specs.StateFacts.{StateFacts}
use Rattle.symbolic_values.specs.declared.def.Def.{Def}
use Rattle.invariant_text.specs.Lines.{numbered}
use Rattle.invariant_text.specs.ReferenceLines.{apart_line, reference_line, reference_lines}
use Rattle.invariant_text.specs.Shape.{IsPrintable}
use Rattle.invariant_text.specs.StateText.{state_lines}
use Rattle.invariant_text.specs.SymbolLines.{bound_line, definition_line, symbol_line}
use Rattle.invariant_text.specs.VariableLines.{variable_line}
use Rattle.invariant_text.proofs.LineReading.{IsSmallDefinition, IsSmallPair, IsSmallRow, line_kind}
use Rattle.invariant_text.proofs.ListReading.{AllFrom, flat_numbered, zip_same}
use Rattle.invariant_text.proofs.Sections.{IsKnownAt, IsNarrowAt, apart_section, bounds_section, definitions_section}
use Rattle.invariant_text.proofs.Sections.{known_line, ranges_section, references_section, section_least, section_read}
use Rattle.invariant_text.proofs.Sections.{variables_section}
use Rattle.invariant_text.proofs.SegmentForms.{segments_formed}
use Rattle.invariant_text.proofs.ValueReading.{IsSmallVar}
use Rattle.invariant_text.proofs.SmallNumbers.{small_definitions, small_known, small_pairs, small_ranges, small_rows}
use Rattle.invariant_text.proofs.SmallNumbers.{small_vars}

lines_zipped : (n : ℕ) (references : List Reference) (contents : Contents)
    → reference_lines n references contents ≡ numbered known_line n (zip references contents)
lines_zipped n [] contents = refl
lines_zipped n (known ∷ references) [] = refl
lines_zipped n (known ∷ references) (s ∷ contents) =
    ap (λ (text : List ℕ). reference_line n known s ++ text) (lines_zipped (n + 1) references contents)

-- What follows the lines of each kind.
abbrev pub behind_definitions : StateFacts → List ℕ → List ℕ
behind_definitions known r = numbered (λ (n : ℕ) (p : Pair). apart_line p) 0 known.apart ++ r

abbrev pub behind_bounds : StateFacts → List ℕ → List ℕ
behind_bounds known r =
    numbered (λ (n : ℕ) (d : ℕ × Def). definition_line d) 0 known.facts.definitions ++ behind_definitions known r

abbrev pub behind_references : StateFacts → List ℕ → List ℕ
behind_references known r =
    numbered (λ (n : ℕ) (row : BoundRow). bound_line row) 0 known.facts.bounds ++ behind_bounds known r

abbrev pub behind_ranges : StateFacts → List ℕ → List ℕ
behind_ranges known r = numbered known_line 1 (zip known.references known.contents) ++ behind_references known r

abbrev pub behind_variables : StateFacts → List ℕ → List ℕ
behind_variables known r = numbered symbol_line 1 known.facts.ranges ++ behind_ranges known r

pub state_parts : (unit : MethodUnit) (known : StateFacts) (r : List ℕ)
    → state_lines unit known ++ r ≡ numbered (variable_line unit) 0 known.variables ++ behind_variables known r
unfolding state_lines
state_parts unit known r =
    let variables = numbered (variable_line unit) 0 known.variables in
    let ranges = numbered symbol_line 1 known.facts.ranges in
    let references = reference_lines 1 known.references known.contents in
    let bounds = flat_map bound_line known.facts.bounds in
    let definitions = flat_map definition_line known.facts.definitions in
    let apart = flat_map apart_line known.apart in
    append_assoc (variables ++ ranges ++ references ++ bounds ++ definitions) apart r
    ∙ append_assoc (variables ++ ranges ++ references ++ bounds) definitions (apart ++ r)
    ∙ append_assoc (variables ++ ranges ++ references) bounds (definitions ++ (apart ++ r))
    ∙ append_assoc (variables ++ ranges) references (bounds ++ (definitions ++ (apart ++ r)))
    ∙ append_assoc variables ranges (references ++ (bounds ++ (definitions ++ (apart ++ r))))
    ∙ (λ i. variables ++ (ranges ++ (lines_zipped 1 known.references known.contents i
    ++ (flat_numbered bound_line 0 known.facts.bounds i
    ++ (flat_numbered definition_line 0 known.facts.definitions i
    ++ (flat_numbered apart_line 0 known.apart i ++ r))))))

-- The lines of each kind have numbers whose texts are read.
pub record AreSmall (known : StateFacts) : Type 0 where
  pub variables : AllFrom (λ n v. IsSmallVar v) 0 known.variables
  pub ranges : AllFrom IsNarrowAt 1 known.facts.ranges
  pub references : AllFrom IsKnownAt 1 (zip known.references known.contents)
  pub bounds : AllFrom (λ n row. IsSmallRow row) 0 known.facts.bounds
  pub definitions : AllFrom (λ n d. IsSmallDefinition d) 0 known.facts.definitions
  pub apart : AllFrom (λ n p. IsSmallPair p) 0 known.apart

pub are_small : (known : StateFacts) → IsPrintable known → AreSmall known
are_small known p =
    let symbols = length known.facts.ranges in
    let references = length known.references in
    let numbers = p.numbers in
    record {
      variables = small_vars symbols references 0 known.variables numbers.symbols numbers.references p.form.variables;
      ranges = small_ranges 1 known.facts.ranges (omega (arith, numbers.symbols)) p.form.narrow;
      references = small_known symbols 1 known.references known.contents numbers.symbols (omega arith)
          (omega (arith, numbers.references))
          p.form.references p.form.contents numbers.contents;
      bounds = small_rows symbols 0 known.facts.bounds numbers.symbols p.form.named.bounds numbers.bounds;
      definitions = small_definitions symbols references 0 known.facts.definitions numbers.symbols numbers.references
          p.form.named.definitions
          p.form.tests numbers.definitions;
      apart = small_pairs references 0 known.apart numbers.references p.form.pairs;
    }

-- The kinds of lines rise.
pub record Rises (known : StateFacts) (r : List ℕ) : Type 0 where
  pub variables : 1 < line_kind (behind_variables known r)
  pub ranges : 2 < line_kind (behind_ranges known r)
  pub references : 3 < line_kind (behind_references known r)
  pub bounds : 4 < line_kind (behind_bounds known r)
  pub definitions : 5 < line_kind (behind_definitions known r)
  pub apart : 6 < line_kind r

pub rises : (known : StateFacts) (r : List ℕ) → AreSmall known → 6 < line_kind r → Rises known r
rises known r small apart =
    let definitions = section_least (λ (n : ℕ) (p : Pair). apart_line p) (λ n p. IsSmallPair p) 6 apart_section 0
    known.apart r small.apart apart in
    let bounds = section_least (λ (n : ℕ) (d : ℕ × Def). definition_line d) (λ n d. IsSmallDefinition d) 5
    definitions_section 0 known.facts.definitions
    (behind_definitions known r) small.definitions (omega (arith, definitions)) in
    let references = section_least (λ (n : ℕ) (row : BoundRow). bound_line row) (λ n row. IsSmallRow row) 4
    bounds_section 0 known.facts.bounds
    (behind_bounds known r) small.bounds (omega (arith, bounds)) in
    let ranges = section_least known_line IsKnownAt 3 references_section 1 (zip known.references known.contents)
    (behind_references known r)
    small.references (omega (arith, references)) in
    let variables = section_least symbol_line IsNarrowAt 2 ranges_section 1 known.facts.ranges (behind_ranges known r)
    small.ranges (omega (arith, ranges)) in
    record {
      variables = omega (arith, variables);
      ranges = omega (arith, ranges);
      references = omega (arith, references);
      bounds = omega (arith, bounds);
      definitions = omega (arith, definitions);
      apart = apart;
    }

pub state_read : (unit : MethodUnit) (a b : StateFacts) (r q : List ℕ) → IsPrintable a → IsPrintable b → 6 < line_kind r
    → 6 < line_kind q
    → state_lines unit a ++ r ≡ state_lines unit b ++ q → (a ≡ b) × (r ≡ q)
state_read unit a b r q a_printable b_printable r_later q_later same =
    let x = are_small a a_printable in
    let y = are_small b b_printable in
    let f = rises a r x r_later in
    let g = rises b q y q_later in
    let variables = section_read (variable_line unit) (λ n v. IsSmallVar v) 1 (variables_section unit) refl 0
    a.variables b.variables (behind_variables a r)
    (behind_variables b q) x.variables y.variables f.variables g.variables
    (sym (state_parts unit a r) ∙ same ∙ state_parts unit b q) in
    let ranges = section_read symbol_line IsNarrowAt 2 ranges_section refl 1 a.facts.ranges b.facts.ranges
    (behind_ranges a r) (behind_ranges b q)
    x.ranges y.ranges f.ranges g.ranges variables.1 in
    let references = section_read known_line IsKnownAt 3 references_section refl 1 (zip a.references a.contents)
    (zip b.references b.contents)
    (behind_references a r) (behind_references b q) x.references y.references f.references g.references ranges.1 in
    let bounds = section_read (λ (n : ℕ) (row : BoundRow). bound_line row) (λ n row. IsSmallRow row) 4 bounds_section
    refl 0 a.facts.bounds b.facts.bounds
    (behind_bounds a r) (behind_bounds b q) x.bounds y.bounds f.bounds g.bounds references.1 in
    let definitions = section_read (λ (n : ℕ) (d : ℕ × Def). definition_line d) (λ n d. IsSmallDefinition d) 5
    definitions_section refl 0
    a.facts.definitions b.facts.definitions (behind_definitions a r) (behind_definitions b q) x.definitions
    y.definitions f.definitions g.definitions bounds.1 in
    let apart = section_read (λ (n : ℕ) (p : Pair). apart_line p) (λ n p. IsSmallPair p) 6 apart_section refl 0 a.apart
    b.apart r q x.apart y.apart
    f.apart g.apart definitions.1 in
    let zipped = zip_same a.references b.references a.contents b.contents
    (segments_formed (length a.facts.ranges) a.references a.contents a_printable.form.contents).each
    (segments_formed (length b.facts.ranges) b.references b.contents b_printable.form.contents).each references.0 in (
      (λ i. record {
        variables = variables.0 i;
        facts = record { ranges = ranges.0 i; definitions = definitions.0 i; bounds = bounds.0 i };
        references = zipped.0 i;
        apart = apart.0 i;
        contents = zipped.1 i;
      }),
      apart.1,
    )

-- Where the lines are the same, so is what is known.
pub state_distinct : (unit : MethodUnit) (first second : StateFacts) → IsPrintable first → IsPrintable second
    → state_lines unit first ≡ state_lines unit second → first ≡ second
state_distinct unit first second first_printable second_printable same =
    (state_read unit first second [] [] first_printable second_printable (omega arith) (omega arith)
    (append-nil (state_lines unit first) ∙ same ∙ sym (append-nil (state_lines unit second)))).0
