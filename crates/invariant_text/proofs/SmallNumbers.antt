-- What is printable has numbers whose texts are read.
use Rattle.std.proofs.Common.{ℕ, ◌+◌, ◌<◌, ◌≤◌, ◌^◌, ℤ, pos, negsuc, ◌≤ℤ◌, List, [], ◌∷◌, length, arith}
use Rattle.std.specs.Int.{w64}
use Rattle.std.specs.Int.RustNames.{FitsSigned}
use Rattle.std.specs.Int.Signed.{mag}
use Rattle.std.specs.List.{AllByRecursion, zip}
use Rattle.std.proofs.lemmas.Int.{ints}
use Rattle.alias_facts.specs.PairsOf.{Pair}
use Rattle.array_contents.specs.Contents.{AreFormed, Contents, IsFormed, Segments}
use Rattle.array_segments.specs.SegmentLists.{HasFew}
use Rattle.domain_api.specs.declared.expr.Expr.{Expr}
use Rattle.frame_names.specs.declared.reference.Reference.{Reference}
use Rattle.frame_names.specs.declared.var.Var.{Var}
use Rattle.frame_names.specs.declared.var.Var.TheVariants as vars
use Rattle.interval_domain.specs.Interval.{Interval}
use Rattle.number_facts.specs.Holds.{Names, NamesOwn}
use Rattle.number_spans.specs.Stored.{IsNarrow}
use Rattle.pentagon_domain.specs.Gaps.{AreBelow}
use Rattle.pentagon_domain.specs.declared.bound_row.BoundRow.{BoundRow}
use Rattle.state_facts.specs.Forms.{EndsBy, IsNumber, IsReference, IsVar, TestsOf, lengths_of}
use Rattle.symbolic_values.specs.declared.def.Def.{Def}
use Rattle.symbolic_values.specs.declared.def.Def.TheVariants.{Eq, Lt, LtUn, NullTest, Sub}
use Rattle.invariant_text.specs.Shape.{AreShortSegments, IsShort, IsShortDef}
use Rattle.invariant_text.proofs.DefReading.{IsSmallDef}
use Rattle.invariant_text.proofs.ExprReading.{IsSmall}
use Rattle.invariant_text.proofs.LineReading.{IsSmallDefinition, IsSmallPair, IsSmallRow}
use Rattle.invariant_text.proofs.ListReading.{AllFrom}
use Rattle.invariant_text.proofs.SegmentReading.{IsSmallBound, IsSmallSegments}
use Rattle.invariant_text.proofs.Sections.{IsKnownAt, IsNarrowAt}
use Rattle.invariant_text.proofs.ValueReading.{IsSmallVar}

-- ---- expressions

near_small : (k : ℤ) → negsuc 4294967295 ≤ℤ k → k ≤ℤ pos 4294967296 → mag k < 2 ^ 63
near_small (pos n) least greatest = omega (arith, ints, greatest)
near_small (negsuc n) least greatest = omega (arith, ints, least)

small_number : (symbols : ℕ) (e : Expr) → symbols < 2 ^ 64 → IsNumber symbols e → IsSmall e
small_number symbols e few number = record {
  symbol = omega (arith, few, number.there);
  constant = near_small e.k number.near.least number.near.greatest;
}

small_short : (symbols : ℕ) (e : Expr) → symbols < 2 ^ 64 → e.sym ≤ symbols → IsShort e → IsSmall e
small_short symbols e few there short = record { symbol = omega (arith, few, there); constant = short.sfits }

-- ---- variables

small_var : (symbols references : ℕ) (v : Var) → symbols < 2 ^ 64 → references < 2 ^ 64 → IsVar symbols references v
    → IsSmallVar v
small_var symbols references (vars.Number e) few_symbols few_references is = small_number symbols e few_symbols is
small_var symbols references (vars.Reference r) few_symbols few_references is = omega (arith, few_references, is)
small_var symbols references vars.Text few_symbols few_references is = tt
small_var symbols references (vars.Address r e) few_symbols few_references is =
    (omega (arith, few_references, is.0), small_number symbols e few_symbols is.1)

pub small_vars : (symbols references : ℕ) (n : ℕ) (vs : List Var) → symbols < 2 ^ 64 → references < 2 ^ 64
    → AllByRecursion (IsVar symbols references) vs → AllFrom (λ k v. IsSmallVar v) n vs
small_vars symbols references n [] few_symbols few_references all = tt
small_vars symbols references n (v ∷ vs) few_symbols few_references all = (
  small_var symbols references v few_symbols few_references all.0,
  small_vars symbols references (n + 1) vs
      few_symbols few_references all.1,
)

-- ---- symbols

pub small_ranges : (n : ℕ) (ranges : List Interval) → n + length ranges ≤ 2 ^ 64 → AllByRecursion IsNarrow ranges
    → AllFrom IsNarrowAt n ranges
small_ranges n [] few all = tt
small_ranges n (range ∷ ranges) few all =
    ((omega (arith, few), all.0), small_ranges (n + 1) ranges (omega (arith, few)) all.1)

pub small_rows : (symbols n : ℕ) (rows : List BoundRow) → symbols < 2 ^ 64
    → AllByRecursion (AreBelow (symbols + 1)) rows
    → AllByRecursion (λ row. FitsSigned w64 row.k) rows → AllFrom (λ k row. IsSmallRow row) n rows
small_rows symbols n [] few named short = tt
small_rows symbols n (row ∷ rows) few named short = (
  record { from = omega (arith, few, named.0.from); to = omega (arith, few, named.0.to); constant = short.0.sfits },
  small_rows symbols (n + 1) rows few named.1 short.1,
)

small_both : (symbols : ℕ) (a b : Expr) → symbols < 2 ^ 64 → (a.sym ≤ symbols) × (b.sym ≤ symbols)
    → IsShort a × IsShort b → IsSmall a × IsSmall b
small_both symbols a b few named short =
    (small_short symbols a few named.0 short.0, small_short symbols b few named.1 short.1)

small_def : (symbols references : ℕ) (def : Def) → symbols < 2 ^ 64 → references < 2 ^ 64 → Names symbols def
    → TestsOf references def → IsShortDef def
    → IsSmallDef def
small_def symbols references (Eq a b) few_symbols few_references named tests short =
    small_both symbols a b few_symbols named short
small_def symbols references (Lt a b) few_symbols few_references named tests short =
    small_both symbols a b few_symbols named short
small_def symbols references (LtUn a b) few_symbols few_references named tests short =
    small_both symbols a b few_symbols named short
small_def symbols references (NullTest r is_null) few_symbols few_references named tests short =
    omega (arith, few_references, tests)
small_def symbols references (Sub a b) few_symbols few_references named tests short =
    small_both symbols a b few_symbols named short

pub small_definitions : (symbols references n : ℕ) (definitions : List (ℕ × Def)) → symbols < 2 ^ 64
    → references < 2 ^ 64
    → AllByRecursion (NamesOwn symbols) definitions → AllByRecursion (λ d. TestsOf references d.1) definitions
    → AllByRecursion (λ d. IsShortDef d.1) definitions → AllFrom (λ k d. IsSmallDefinition d) n definitions
small_definitions symbols references n [] few_symbols few_references named tests short = tt
small_definitions symbols references n (d ∷ definitions) few_symbols few_references named tests short = (
  (
    omega (arith, few_symbols, named.0.0),
    small_def symbols references d.1 few_symbols few_references named.0.1 tests.0
        short.0,
  ),
  small_definitions symbols references (n + 1) definitions few_symbols few_references named.1 tests.1 short.1,
)

-- ---- references

small_exprs : (symbols : ℕ) (es : List Expr) → symbols < 2 ^ 64 → AllByRecursion (λ e. e.sym ≤ symbols) es
    → AllByRecursion IsShort es
    → AllByRecursion IsSmall es
small_exprs symbols [] few named short = tt
small_exprs symbols (e ∷ es) few named short =
    (small_short symbols e few named.0 short.0, small_exprs symbols es few named.1 short.1)

small_bounds : (symbols : ℕ) (bounds : List (List Expr)) → symbols < 2 ^ 64 → AllByRecursion HasFew bounds
    → AllByRecursion (AllByRecursion (λ e. e.sym ≤ symbols)) bounds → AllByRecursion (AllByRecursion IsShort) bounds
    → AllByRecursion IsSmallBound bounds
small_bounds symbols [] few some named short = tt
small_bounds symbols (bound ∷ bounds) few some named short = (
  record { some = some.0.some; small = small_exprs symbols bound few named.0 short.0 },
  small_bounds symbols bounds few some.1 named.1 short.1,
)

small_segments : (symbols : ℕ) (length_is : Expr) (s : Segments) → symbols < 2 ^ 64 → IsFormed symbols length_is s
    → AreShortSegments s → IsSmallSegments s
small_segments symbols length_is s few formed short = record {
  form = formed.form;
  narrow = formed.narrow;
  bounds = small_bounds symbols s.bounds few formed.form.few formed.named short;
}

pub small_known : (symbols n : ℕ) (references : List Reference) (contents : Contents) → symbols < 2 ^ 64 → 0 < n
    → n + length references ≤ 2 ^ 64
    → AllByRecursion (IsReference symbols) references → AreFormed symbols (lengths_of references) contents
    → AllByRecursion AreShortSegments contents
    → AllFrom IsKnownAt n (zip references contents)
small_known symbols n [] contents few some fits are formed short = tt
small_known symbols n (known ∷ references) [] few some fits are formed short = tt
small_known symbols n (known ∷ references) (s ∷ contents) few some fits are formed short = (
  (
    some,
    omega (arith, fits),
    record {
      length_is = small_number symbols known.length few are.0.length_is;
      segments = small_segments symbols
          known.length s few formed.0 short.0;
    },
  ),
  small_known symbols (n + 1) references contents few (omega (arith, some)) (omega (arith, fits)) are.1 formed.1
      short.1,
)

pub small_pairs : (references n : ℕ) (pairs : List Pair) → references < 2 ^ 64
    → AllByRecursion (EndsBy references) pairs
    → AllFrom (λ k p. IsSmallPair p) n pairs
small_pairs references n [] few all = tt
small_pairs references n (p ∷ pairs) few all =
    ((omega (arith, few, all.0.0), omega (arith, few, all.0.1)), small_pairs references (n + 1) pairs few all.1)
