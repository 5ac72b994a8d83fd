-- The lines of a state, one kind after another.
use Rattle.std.proofs.Common.{◌≡◌, ℕ, ◌+◌, ◌<◌, ◌≤◌, ◌^◌, ◌==◌, true, List, [], ◌∷◌, ◌++◌, ap, ◌∙◌, arith, append_assoc}
use Rattle.std.proofs.lemmas.Bool.{ne_eqb}
use Rattle.alias_facts.specs.PairsOf.{Pair}
use Rattle.cil_model.specs.declared.unit.Unit.{Unit as MethodUnit}
use Rattle.interval_domain.specs.Interval.{Interval}
use Rattle.number_spans.specs.Stored.{IsNarrow}
use Rattle.pentagon_domain.specs.declared.bound_row.BoundRow.{BoundRow}
use Rattle.symbolic_values.specs.declared.def.Def.{Def}
use Rattle.invariant_text.specs.Lines.{numbered}
use Rattle.invariant_text.specs.ReferenceLines.{apart_line, reference_line}
use Rattle.invariant_text.specs.SymbolLines.{bound_line, definition_line, symbol_line}
use Rattle.invariant_text.specs.VariableLines.{variable_line}
use Rattle.invariant_text.proofs.LineReading.{IsSmallDefinition, IsSmallKnown, IsSmallPair, IsSmallRow, Known}
use Rattle.invariant_text.proofs.LineReading.{apart_kind, apart_read, definition_kind, definition_read, known_kind}
use Rattle.invariant_text.proofs.LineReading.{known_read, line_kind, row_kind, row_read, symbol_line_kind, symbol_read}
use Rattle.invariant_text.proofs.LineReading.{variable_kind, variable_read}
use Rattle.invariant_text.proofs.ListReading.{AllFrom, items_read}
use Rattle.invariant_text.proofs.ValueReading.{IsSmallVar}

-- ---- lines of one kind, before lines of later kinds

pub record IsSection {X : Type 0} (line_of : ℕ → X → List ℕ) (Is : ℕ → X → Type 0) (kind : ℕ) : Type 0 where
  pub kind_is : (n : ℕ) (x : X) (r : List ℕ) → Is n x → line_kind (line_of n x ++ r) ≡ kind
  pub read : (n : ℕ) (x y : X) (r q : List ℕ) → Is n x → Is n y → line_of n x ++ r ≡ line_of n y ++ q
      → (x ≡ y) × (r ≡ q)

pub section_least : {X : Type 0} (line_of : ℕ → X → List ℕ) (Is : ℕ → X → Type 0) (kind : ℕ) → IsSection line_of Is kind
    → (n : ℕ) (xs : List X) (r : List ℕ) → AllFrom Is n xs → kind < line_kind r
    → kind ≤ line_kind (numbered line_of n xs ++ r)
section_least line_of Is kind laws n [] r all later = omega (arith, later)
section_least line_of Is kind laws n (x ∷ xs) r all later =
    let rest = numbered line_of (n + 1) xs in
    let is = laws.kind_is n x (rest ++ r) all.0 in
    rw (append_assoc (line_of n x) rest r, is) (omega arith)

pub section_read : {X : Type 0} (line_of : ℕ → X → List ℕ) (Is : ℕ → X → Type 0) (kind : ℕ) → IsSection line_of Is kind
    → (kind == kind) ≡ true
    → (n : ℕ) (xs ys : List X) (r q : List ℕ) → AllFrom Is n xs → AllFrom Is n ys → kind < line_kind r
    → kind < line_kind q
    → numbered line_of n xs ++ r ≡ numbered line_of n ys ++ q → (xs ≡ ys) × (r ≡ q)
section_read line_of Is kind laws itself n xs ys r q firsts seconds r_later q_later same =
    items_read line_of Is (λ text. Unit {0}) (λ text. line_kind text == kind)
    (record {
      begun = λ m x text is. ap (λ (k : ℕ). k == kind) (laws.kind_is m x text is) ∙ itself;
      ends = λ m x text is. tt;
      read = λ m x y s t first second s_ends t_ends e. laws.read m x y s t first second e;
    })
    n xs ys r q firsts seconds tt tt (ne_eqb (line_kind r) kind (λ e. omega (arith, r_later, e)))
    (ne_eqb (line_kind q) kind (λ e. omega (arith, q_later, e))) same

-- ---- the sections of a state

pub variables_section : (unit : MethodUnit) → IsSection (variable_line unit) (λ n v. IsSmallVar v) 1
variables_section unit = record {
  kind_is = λ n v r small. variable_kind unit n v r;
  read = λ n v w r q first second same. variable_read unit n v w r q first second same;
}

abbrev pub IsNarrowAt : ℕ → Interval → Type 0
IsNarrowAt n range = (n < 2 ^ 64) × IsNarrow range

pub ranges_section : IsSection symbol_line IsNarrowAt 2
ranges_section = record {
  kind_is = λ n range r is. symbol_line_kind n range r is.0;
  read = λ n a b r q first second same. symbol_read n a b r q first.1 second.1 same;
}

abbrev pub IsKnownAt : ℕ → Known → Type 0
IsKnownAt n known = (0 < n) × (n < 2 ^ 64) × IsSmallKnown known

abbrev pub known_line : ℕ → Known → List ℕ
known_line n known = reference_line n known.0 known.1

pub references_section : IsSection known_line IsKnownAt 3
references_section = record {
  kind_is = λ n known r is. known_kind n known r is.0 is.1;
  read = λ n a b r q first second same. known_read n a b r q first.2 second.2 same;
}

pub bounds_section : IsSection (λ (n : ℕ) (row : BoundRow). bound_line row) (λ n row. IsSmallRow row) 4
bounds_section = record {
  kind_is = λ n row r small. row_kind row r small;
  read = λ n a b r q first second same. row_read a b r q first second same;
}

pub definitions_section : IsSection (λ (n : ℕ) (d : ℕ × Def). definition_line d) (λ n d. IsSmallDefinition d) 5
definitions_section = record {
  kind_is = λ n d r small. definition_kind d r small;
  read = λ n a b r q first second same. definition_read a b r q first second same;
}

pub apart_section : IsSection (λ (n : ℕ) (p : Pair). apart_line p) (λ n p. IsSmallPair p) 6
apart_section = record {
  kind_is = λ n p r small. apart_kind p r small;
  read = λ n a b r q first second same. apart_read a b r q first second same;
}
