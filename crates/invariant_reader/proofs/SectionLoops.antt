-- The lines of one kind, as they are read one after another.
use Rattle.std.proofs.Common.{◌≡◌, ℕ, ◌+◌, ◌<◌, ◌^◌, ◌==◌, false, true, List, [], ◌∷◌, ◌++◌, length, map, Option, Some}
use Rattle.std.proofs.Common.{refl, sym, ap, ◌∙◌, arith, append_assoc}
use Rattle.std.specs.List.{zip}
use Rattle.std.proofs.lemmas.Bool.{ne_eqb}
use Rattle.std.proofs.lemmas.List.{append-nil}
use Rattle.alias_facts.specs.PairsOf.{Pair}
use Rattle.array_contents.specs.Contents.{Contents}
use Rattle.cil_model.specs.declared.unit.Unit.{Unit as MethodUnit}
use Rattle.frame_names.specs.declared.reference.Reference.{Reference}
use Rattle.frame_names.specs.declared.var.Var.{Var}
use Rattle.interval_domain.specs.Interval.{Interval}
use Rattle.pentagon_domain.specs.declared.bound_row.BoundRow.{BoundRow}
use Rattle.symbolic_values.specs.declared.def.Def.{Def}
use Rattle.invariant_text.specs.Lines.{numbered}
use Rattle.invariant_text.specs.ReferenceLines.{apart_line}
use Rattle.invariant_text.specs.SymbolLines.{bound_line, definition_line, symbol_line}
use Rattle.invariant_text.specs.VariableLines.{variable_line}
use Rattle.invariant_text.proofs.LineReading.{IsSmallRow, apart_kind, definition_kind, known_kind, line_kind, row_kind}
use Rattle.invariant_text.proofs.LineReading.{symbol_line_kind, variable_kind}
use Rattle.invariant_text.proofs.ListReading.{AllFrom}
use Rattle.invariant_text.proofs.Sections.{IsNarrowAt, known_line}
use Rattle.invariant_reader.specs.ArrayReaders.{AreKnownLines, Arrays, EndsArrays, array_lines, with_array}
use Rattle.invariant_reader.specs.Bounds.{read_bound_line}
use Rattle.invariant_reader.specs.CodeLines.{IsKnownLine, Known}
use Rattle.invariant_reader.specs.CodeNumbers.{IsCodeDefinition, IsCodePair, IsCodeRow, IsCodeVar}
use Rattle.invariant_reader.specs.Definitions.{read_definition_line}
use Rattle.invariant_reader.specs.Pairs.{read_apart_line}
use Rattle.invariant_reader.specs.ReadsBack.{AnyEnd, ReadsBack}
use Rattle.invariant_reader.specs.Symbols.{read_symbol_line}
use Rattle.invariant_reader.specs.Variables.{read_variable_line}
use Rattle.invariant_reader.proofs.DefinitionReads.{bound_reads, definition_reads}
use Rattle.invariant_reader.proofs.RangeReads.{symbol_line_reads}
use Rattle.invariant_reader.proofs.SmallCode.{small_definition, small_row}
use Rattle.invariant_reader.proofs.VariableReads.{pair_reads, variable_reads}
use Rattle.invariant_reader.proofs.Repeats.{AreHeaded, AreReadable, IsHeaded, ReadsNext, Repeat, add_all, all_added, pair, with_one}

-- ---- any kind

abbrev pub lines_loop : {X : Type 0} → (ℕ → X → List ℕ) → (ℕ → X → Type 0) → ℕ → Repeat (List X) X
lines_loop line_of Is kind = record {
  text_of = line_of;
  Is = Is;
  Ends = AnyEnd;
  begins = λ text. line_kind text == kind;
  add = with_one;
}

-- Each line is of the kind, which is one of a state's.
record AreOfKind {X : Type 0} (line_of : ℕ → X → List ℕ) (Is : ℕ → X → Type 0) (kind : ℕ) : Type 0 where
  kind_is : (n : ℕ) (x : X) (r : List ℕ) → Is n x → line_kind (line_of n x ++ r) ≡ kind
  itself : (kind == kind) ≡ true
  other : (7 == kind) ≡ false

lines_readable : {X : Type 0} (line_of : ℕ → X → List ℕ) (Is : ℕ → X → Type 0) (kind : ℕ) → AreOfKind line_of Is kind
    → AreReadable (lines_loop line_of Is kind)
lines_readable line_of Is kind are = record {
  begun = λ n x r is. ap (λ (k : ℕ). k == kind) (are.kind_is n x r is) ∙ are.itself;
  ends = λ n x r is. tt;
  none = are.other;
}

-- No lines yet.
abbrev pub no_lines : {X : Type 0} → Unit {0} → List X
no_lines none = []

pub lines_headed : {X : Type 0} (line_of : ℕ → X → List ℕ) (Is : ℕ → X → Type 0) (kind first : ℕ) (text : List ℕ)
    → AreHeaded (lines_loop line_of Is kind) no_lines first (Some (pair tt text)) (numbered line_of first)
    (AllFrom Is first) (λ rest. kind < line_kind rest) text
lines_headed line_of Is kind first text = record {
  headed = λ xs behind is later same. record {
    item = tt;
    items = xs;
    head_is = ap (λ (t : List ℕ). Some (pair tt t)) same;
    each = is;
    is_behind = record { ends = tt; other = ne_eqb (line_kind behind) kind (λ e. omega (arith, later, e)) };
    whole_is = all_added [] xs;
  };
}

-- ---- variables

abbrev pub variables_loop : MethodUnit → Repeat (List Var) Var
variables_loop unit = lines_loop (variable_line unit) (λ n v. IsCodeVar v) 1

pub variables_readable : (unit : MethodUnit) → AreReadable (variables_loop unit)
variables_readable unit = lines_readable (variable_line unit) (λ n v. IsCodeVar v) 1 (record {
  kind_is = λ n v r is. variable_kind unit n v r;
  itself = refl;
  other = refl;
})

pub variable_next : (unit : MethodUnit) (text : List ℕ) → ReadsNext (variables_loop unit) text (read_variable_line text)
variable_next unit text = record {
  reads = λ n v rest code ends same. ap read_variable_line same ∙ variable_reads unit n v rest code;
}

-- ---- ranges of symbols

abbrev pub symbols_loop : Repeat (List Interval) Interval
symbols_loop = lines_loop symbol_line IsNarrowAt 2

pub symbols_readable : AreReadable symbols_loop
symbols_readable = lines_readable symbol_line IsNarrowAt 2 (record {
  kind_is = λ n range r is. symbol_line_kind n range r is.0;
  itself = refl;
  other = refl;
})

pub symbol_next : (text : List ℕ) → ReadsNext symbols_loop text (read_symbol_line text)
symbol_next text = record {
  reads = λ n range rest narrow ends same. ap read_symbol_line same ∙ symbol_line_reads n range rest narrow.1;
}

-- ---- bounds

abbrev pub bounds_loop : Repeat (List BoundRow) BoundRow
bounds_loop = lines_loop (λ n row. bound_line row) (λ n row. IsCodeRow row) 4

pub bounds_readable : AreReadable bounds_loop
bounds_readable = lines_readable (λ (n : ℕ) (row : BoundRow). bound_line row) (λ n row. IsCodeRow row) 4 (record {
  kind_is = λ n row r is. row_kind row r (small_row row is);
  itself = refl;
  other = refl;
})

pub bound_next : (text : List ℕ) → ReadsNext bounds_loop text (read_bound_line text)
bound_next text = record {
  reads = λ n row rest code ends same. ap read_bound_line same ∙ bound_reads row rest code;
}

-- ---- definitions

abbrev pub definitions_loop : Repeat (List (ℕ × Def)) (ℕ × Def)
definitions_loop = lines_loop (λ n d. definition_line d) (λ n d. IsCodeDefinition d) 5

pub definitions_readable : AreReadable definitions_loop
definitions_readable =
    lines_readable (λ (n : ℕ) (d : ℕ × Def). definition_line d) (λ n d. IsCodeDefinition d) 5 (record {
      kind_is = λ n d r is. definition_kind d r (small_definition d is);
      itself = refl;
      other = refl;
    })

pub definition_next : (text : List ℕ) → ReadsNext definitions_loop text (read_definition_line text)
definition_next text = record {
  reads = λ n d rest code ends same. ap read_definition_line same ∙ definition_reads d rest code;
}

-- ---- pairs that are apart

abbrev pub pairs_loop : Repeat (List Pair) Pair
pairs_loop = lines_loop (λ n p. apart_line p) (λ n p. IsCodePair p) 6

pub pairs_readable : AreReadable pairs_loop
pairs_readable = lines_readable (λ (n : ℕ) (p : Pair). apart_line p) (λ n p. IsCodePair p) 6 (record {
  kind_is = λ n p r is. apart_kind p r (omega (arith, is.0), omega (arith, is.1));
  itself = refl;
  other = refl;
})

pub pair_next : (text : List ℕ) → ReadsNext pairs_loop text (read_apart_line text)
pair_next text = record {
  reads = λ n p rest code ends same. ap read_apart_line same ∙ pair_reads p rest code;
}

-- ---- references with their segments

abbrev pub arrays_loop : Repeat Arrays Known
arrays_loop = record {
  text_of = known_line;
  Is = IsKnownLine;
  Ends = AnyEnd;
  begins = λ text. line_kind text == 3;
  add = with_array;
}

pub arrays_readable : AreReadable arrays_loop
arrays_readable = record {
  begun = λ n known r is. ap (λ (k : ℕ). k == 3) (known_kind n known r is.0 is.1);
  ends = λ n known r is. tt;
  none = refl;
}

abbrev arrays_of : List Reference → Contents → Arrays
arrays_of references contents = record { references = references; contents = contents }

abbrev pub no_arrays : Unit {0} → Arrays
no_arrays none = arrays_of [] []

all_arrays : (before references : List Reference) (prior contents : Contents) → length contents ≡ length references
    → add_all with_array (arrays_of before prior) (zip references contents)
    ≡ arrays_of (before ++ references) (prior ++ contents)
all_arrays before [] prior [] each = λ i. arrays_of (sym (append-nil before) i) (sym (append-nil prior) i)
all_arrays before [] prior (s ∷ contents) each = absurd (omega (arith, each))
all_arrays before (r ∷ references) prior [] each = absurd (omega (arith, each))
all_arrays before (r ∷ references) prior (s ∷ contents) each =
    all_arrays (before ++ r ∷ []) references (prior ++ s ∷ []) contents (omega (arith, each))
    ∙ (λ i. arrays_of (append_assoc before (r ∷ []) references i) (append_assoc prior (s ∷ []) contents i))

pub arrays_headed : (text : List ℕ)
    → AreHeaded arrays_loop no_arrays 1 (Some (pair tt text)) array_lines AreKnownLines EndsArrays text
arrays_headed text = record {
  headed = λ arrays behind are later same. record {
    item = tt;
    items = zip arrays.references arrays.contents;
    head_is = ap (λ (t : List ℕ). Some (pair tt t)) same;
    each = are.lines;
    is_behind = record { ends = tt; other = ne_eqb (line_kind behind) 3 (λ e. omega (arith, later, e)) };
    whole_is = all_arrays [] arrays.references [] arrays.contents are.each;
  };
}

pub array_next : (text : List ℕ) (read : Option (Known × List ℕ))
    → ((n : ℕ) → ReadsBack (known_line n) (IsKnownLine n) AnyEnd text read) → ReadsNext arrays_loop text read
array_next text read reads = record { reads = reads }
