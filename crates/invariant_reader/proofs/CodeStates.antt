-- Where 32 bits name symbols and references, each number of a printable state is one of the code.
use Rattle.std.proofs.Common.{ℕ, ◌+◌, ◌<◌, ◌≤◌, ◌^◌, ℤ, pos, negsuc, ◌≤ℤ◌, List, [], ◌∷◌, length, arith}
use Rattle.std.specs.Int.{w64}
use Rattle.std.specs.Int.RustNames.{FitsSigned}
use Rattle.std.specs.Int.Signed.{mag}
use Rattle.std.specs.List.{AllByRecursion, zip}
use Rattle.std.proofs.lemmas.Int.{ints}
use Rattle.alias_facts.specs.PairsOf.{Pair}
use Rattle.array_contents.specs.Contents.{AreFormed, Contents, IsFormed, Segments}
use Rattle.array_segments.specs.SegmentLists.{HasFew}
use Rattle.domain_api.specs.declared.expr.Expr.{Expr}
use Rattle.frame_names.specs.declared.reference.Reference.{Reference}
use Rattle.frame_names.specs.declared.var.Var.{Var}
use Rattle.frame_names.specs.declared.var.Var.TheVariants as vars
use Rattle.number_facts.specs.Holds.{Names, NamesOwn}
use Rattle.pentagon_domain.specs.Gaps.{AreBelow}
use Rattle.pentagon_domain.specs.declared.bound_row.BoundRow.{BoundRow}
use Rattle.state_facts.specs.Forms.{EndsBy, IsNumber, IsReference, IsVar, TestsOf, lengths_of}
use Rattle.state_facts.specs.StateFacts.{StateFacts}
use Rattle.symbolic_values.specs.declared.def.Def.{Def}
use Rattle.symbolic_values.specs.declared.def.Def.TheVariants.{Eq, Lt, LtUn, NullTest, Sub}
use Rattle.invariant_text.specs.Shape.{AreShortSegments, IsShort, IsShortDef}
use Rattle.invariant_text.proofs.ListReading.{AllFrom}
use Rattle.invariant_text.proofs.SegmentForms.{segments_formed}
use Rattle.invariant_text.proofs.Sections.{IsNarrowAt}
use Rattle.invariant_text.proofs.SmallNumbers.{small_ranges}
use Rattle.invariant_reader.specs.ArrayReaders.{AreKnownLines}
use Rattle.invariant_reader.specs.CodeLines.{IsCodeBound, IsCodeSegments, IsKnownLine}
use Rattle.invariant_reader.specs.CodeNumbers.{IsCodeDef, IsCodeDefinition, IsCodeExpr, IsCodePair, IsCodeRow, IsCodeVar}
use Rattle.invariant_reader.specs.StateReaders.{IsReadable}

-- ---- expressions

near_small : (k : ℤ) → negsuc 4294967295 ≤ℤ k → k ≤ℤ pos 4294967296 → mag k < 2 ^ 63
near_small (pos n) least greatest = omega (arith, ints, greatest)
near_small (negsuc n) least greatest = omega (arith, ints, least)

code_number : (symbols : ℕ) (e : Expr) → symbols < 2 ^ 32 → IsNumber symbols e → IsCodeExpr e
code_number symbols e few number = record {
  symbol = omega (arith, few, number.there);
  constant = near_small e.k number.near.least number.near.greatest;
}

code_short : (symbols : ℕ) (e : Expr) → symbols < 2 ^ 32 → e.sym ≤ symbols → IsShort e → IsCodeExpr e
code_short symbols e few there short = record { symbol = omega (arith, few, there); constant = short.sfits }

-- ---- variables

code_var : (symbols references : ℕ) (v : Var) → symbols < 2 ^ 32 → references < 2 ^ 32 → IsVar symbols references v
    → IsCodeVar v
code_var symbols references (vars.Number e) few_symbols few_references is = code_number symbols e few_symbols is
code_var symbols references (vars.Reference r) few_symbols few_references is = omega (arith, few_references, is)
code_var symbols references vars.Text few_symbols few_references is = tt
code_var symbols references (vars.Address r e) few_symbols few_references is =
    (omega (arith, few_references, is.0), code_number symbols e few_symbols is.1)

code_vars : (symbols references n : ℕ) (vs : List Var) → symbols < 2 ^ 32 → references < 2 ^ 32
    → AllByRecursion (IsVar symbols references) vs → AllFrom (λ k v. IsCodeVar v) n vs
code_vars symbols references n [] few_symbols few_references all = tt
code_vars symbols references n (v ∷ vs) few_symbols few_references all = (
  code_var symbols references v few_symbols few_references all.0,
  code_vars symbols references (n + 1) vs few_symbols few_references all.1,
)

-- ---- symbols

code_rows : (symbols n : ℕ) (rows : List BoundRow) → symbols < 2 ^ 32
    → AllByRecursion (AreBelow (symbols + 1)) rows
    → AllByRecursion (λ row. FitsSigned w64 row.k) rows → AllFrom (λ k row. IsCodeRow row) n rows
code_rows symbols n [] few named short = tt
code_rows symbols n (row ∷ rows) few named short = (
  record {
    from = omega (arith, few, named.0.from);
    to = omega (arith, few, named.0.to);
    constant = short.0.sfits;
  },
  code_rows symbols (n + 1) rows few named.1 short.1,
)

code_both : (symbols : ℕ) (a b : Expr) → symbols < 2 ^ 32 → (a.sym ≤ symbols) × (b.sym ≤ symbols)
    → IsShort a × IsShort b → IsCodeExpr a × IsCodeExpr b
code_both symbols a b few named short =
    (code_short symbols a few named.0 short.0, code_short symbols b few named.1 short.1)

code_def : (symbols references : ℕ) (def : Def) → symbols < 2 ^ 32 → references < 2 ^ 32 → Names symbols def
    → TestsOf references def → IsShortDef def → IsCodeDef def
code_def symbols references (Eq a b) few_symbols few_references named tests short =
    code_both symbols a b few_symbols named short
code_def symbols references (Lt a b) few_symbols few_references named tests short =
    code_both symbols a b few_symbols named short
code_def symbols references (LtUn a b) few_symbols few_references named tests short =
    code_both symbols a b few_symbols named short
code_def symbols references (NullTest r is_null) few_symbols few_references named tests short =
    omega (arith, few_references, tests)
code_def symbols references (Sub a b) few_symbols few_references named tests short =
    code_both symbols a b few_symbols named short

code_definitions : (symbols references n : ℕ) (definitions : List (ℕ × Def)) → symbols < 2 ^ 32
    → references < 2 ^ 32
    → AllByRecursion (NamesOwn symbols) definitions → AllByRecursion (λ d. TestsOf references d.1) definitions
    → AllByRecursion (λ d. IsShortDef d.1) definitions → AllFrom (λ k d. IsCodeDefinition d) n definitions
code_definitions symbols references n [] few_symbols few_references named tests short = tt
code_definitions symbols references n (d ∷ definitions) few_symbols few_references named tests short = (
  (
    omega (arith, few_symbols, named.0.0),
    code_def symbols references d.1 few_symbols few_references named.0.1 tests.0 short.0,
  ),
  code_definitions symbols references (n + 1) definitions few_symbols few_references named.1 tests.1 short.1,
)

-- ---- references

code_exprs : (symbols : ℕ) (es : List Expr) → symbols < 2 ^ 32 → AllByRecursion (λ e. e.sym ≤ symbols) es
    → AllByRecursion IsShort es → AllByRecursion IsCodeExpr es
code_exprs symbols [] few named short = tt
code_exprs symbols (e ∷ es) few named short =
    (code_short symbols e few named.0 short.0, code_exprs symbols es few named.1 short.1)

code_bounds : (symbols : ℕ) (bounds : List (List Expr)) → symbols < 2 ^ 32 → AllByRecursion HasFew bounds
    → AllByRecursion (AllByRecursion (λ e. e.sym ≤ symbols)) bounds → AllByRecursion (AllByRecursion IsShort) bounds
    → AllByRecursion IsCodeBound bounds
code_bounds symbols [] few some named short = tt
code_bounds symbols (bound ∷ bounds) few some named short = (
  record { some = some.0.some; each = code_exprs symbols bound few named.0 short.0 },
  code_bounds symbols bounds few some.1 named.1 short.1,
)

code_segments : (symbols : ℕ) (length_is : Expr) (s : Segments) → symbols < 2 ^ 32 → IsFormed symbols length_is s
    → AreShortSegments s → IsCodeSegments s
code_segments symbols length_is s few formed short = record {
  form = formed.form;
  narrow = formed.narrow;
  bounds = code_bounds symbols s.bounds few formed.form.few formed.named short;
}

code_known : (symbols n : ℕ) (references : List Reference) (contents : Contents) → symbols < 2 ^ 32 → 0 < n
    → n + length references ≤ 2 ^ 64
    → AllByRecursion (IsReference symbols) references → AreFormed symbols (lengths_of references) contents
    → AllByRecursion AreShortSegments contents
    → AllFrom IsKnownLine n (zip references contents)
code_known symbols n [] contents few some fits are formed short = tt
code_known symbols n (known ∷ references) [] few some fits are formed short = tt
code_known symbols n (known ∷ references) (s ∷ contents) few some fits are formed short = (
  (
    some,
    omega (arith, fits),
    record {
      reference = record { place = are.0.place; length_is = code_number symbols known.length few are.0.length_is };
      segments = code_segments symbols known.length s few formed.0 short.0;
    },
  ),
  code_known symbols (n + 1) references contents few (omega (arith, some)) (omega (arith, fits)) are.1 formed.1
      short.1,
)

code_pairs : (references n : ℕ) (pairs : List Pair) → references < 2 ^ 32
    → AllByRecursion (EndsBy references) pairs → AllFrom (λ k p. IsCodePair p) n pairs
code_pairs references n [] few all = tt
code_pairs references n (p ∷ pairs) few all =
    ((omega (arith, few, all.0.0), omega (arith, few, all.0.1)), code_pairs references (n + 1) pairs few all.1)

-- ---- a state

-- The lines of each kind have numbers of the code.
pub record HasCodeLines (known : StateFacts) : Type 0 where
  pub variables : AllFrom (λ n v. IsCodeVar v) 0 known.variables
  pub ranges : AllFrom IsNarrowAt 1 known.facts.ranges
  pub arrays : AreKnownLines (record { references = known.references; contents = known.contents })
  pub bounds : AllFrom (λ n row. IsCodeRow row) 0 known.facts.bounds
  pub definitions : AllFrom (λ n d. IsCodeDefinition d) 0 known.facts.definitions
  pub apart : AllFrom (λ n p. IsCodePair p) 0 known.apart

pub code_lines : (known : StateFacts) → IsReadable known → HasCodeLines known
code_lines known is =
    let symbols = length known.facts.ranges in
    let references = length known.references in
    let form = is.printable.form in
    let numbers = is.printable.numbers in
    record {
      variables = code_vars symbols references 0 known.variables is.symbols is.references form.variables;
      ranges = small_ranges 1 known.facts.ranges (omega (arith, is.symbols)) form.narrow;
      arrays = record {
        each = (segments_formed symbols known.references known.contents form.contents).each;
        lines = code_known symbols 1 known.references known.contents is.symbols (omega arith)
            (omega (arith, is.references)) form.references form.contents numbers.contents;
      };
      bounds = code_rows symbols 0 known.facts.bounds is.symbols form.named.bounds numbers.bounds;
      definitions = code_definitions symbols references 0 known.facts.definitions is.symbols is.references
          form.named.definitions form.tests numbers.definitions;
      apart = code_pairs references 0 known.apart is.references form.pairs;
    }
