-- Variables, and what is known of symbols and of pairs of references.
use Rattle.std.specs.Prelude.{ℕ, ◌==◌, Bool, false, not, ◌&&◌, nat_lt, ℤ, List, length, Option, if◌then◌else◌}
use Rattle.alias_facts.specs.PairsOf.{Pair, comes_before}
use Rattle.array_segments.specs.SegmentLists.{zero_expr}
use Rattle.domain_api.specs.declared.expr.Expr.{Expr}
use Rattle.frame_names.specs.declared.var.Var.{Var}
use Rattle.frame_names.specs.declared.var.Var.TheVariants as vars
use Rattle.pentagon_domain.specs.Rows.{is_before}
use Rattle.pentagon_domain.specs.declared.bound_row.BoundRow.{BoundRow}
use Rattle.symbolic_values.specs.declared.def.Def.{Def}
use Rattle.symbolic_values.specs.declared.def.Def.TheVariants.{Eq, Lt, LtUn, NullTest, Sub}
use Rattle.invariant_codec.specs.Formats.{Format, choice, comes_after, each, in_order, last_part, only, part, tested}
use Rattle.invariant_codec.specs.Numbers.{byte, expr, flag, int64, is_within, name, near_expr, number, proper_name}

-- ---- variables

-- 1 for a number, 2 for a reference, 3 for a text, 4 for an address.
abbrev pub var_tag : Var → ℕ
var_tag (vars.Number e) = 1
var_tag (vars.Reference r) = 2
var_tag vars.Text = 3
var_tag (vars.Address r e) = 4

abbrev pub number_in : Var → Expr
number_in (vars.Number e) = e
number_in (vars.Reference r) = zero_expr
number_in vars.Text = zero_expr
number_in (vars.Address r e) = e

abbrev pub reference_in : Var → ℕ
reference_in (vars.Number e) = 0
reference_in (vars.Reference r) = r
reference_in vars.Text = 0
reference_in (vars.Address r e) = r

-- The reference of an address, and then its index.
unfoldable pub address : (symbols references : ℕ) → Format Var
address symbols references =
    part reference_in (name references) (λ r. last_part number_in (vars.Address r) (near_expr symbols))

abbrev pub var_of : (symbols references tag : ℕ) → Format Var
var_of symbols references tag =
    choice (tag == 1) (last_part number_in vars.Number (near_expr symbols))
    (choice (tag == 2) (last_part reference_in vars.Reference (name references))
    (choice (tag == 3) (only vars.Text) (address symbols references)))

-- What a variable has, after its tag.
unfoldable pub var : (symbols references : ℕ) → Format Var
var symbols references = part var_tag (tested (is_within 1 4) byte) (var_of symbols references)

unfoldable pub variables : (symbols references : ℕ) → Format (List Var)
variables symbols references = part length (number 2) (each (var symbols references))

-- ---- bounds of symbols

abbrev pub row_of : ℕ → ℕ → ℤ → BoundRow
row_of s t k = record { s = s; t = t; k = k }

-- The number of a symbol from 1 on, other than this one.
unfoldable pub other_symbol : ℕ → ℕ → Format ℕ
other_symbol symbols s = tested (λ t. is_within 1 symbols t && not (s == t)) (number 2)

-- A bound of two symbols.
unfoldable pub row : ℕ → Format BoundRow
row symbols =
    part (λ r. r.s) (proper_name symbols) (λ s.
    part (λ r. r.t) (other_symbol symbols s) (λ t.
    last_part (λ r. r.k) (row_of s t) int64))

abbrev pub row_precedes : BoundRow → BoundRow → Bool
row_precedes a b = is_before a b.s b.t

-- The bound after this one, if there is one.
abbrev pub next_row : ℕ → Option BoundRow → Format BoundRow
next_row symbols last = tested (comes_after row_precedes last) (row symbols)

unfoldable pub rows : ℕ → Format (List BoundRow)
rows symbols = part length (number 4) (in_order row_precedes (row symbols))

-- ---- definitions

-- 1 for equal, 2 for less, 3 for less unsigned, 4 for the test whether a reference is null, 5 for a difference.
abbrev pub def_tag : Def → ℕ
def_tag (Eq a b) = 1
def_tag (Lt a b) = 2
def_tag (LtUn a b) = 3
def_tag (NullTest r is) = 4
def_tag (Sub a b) = 5

abbrev pub first_in : Def → Expr
first_in (Eq a b) = a
first_in (Lt a b) = a
first_in (LtUn a b) = a
first_in (NullTest r is) = zero_expr
first_in (Sub a b) = a

abbrev pub second_in : Def → Expr
second_in (Eq a b) = b
second_in (Lt a b) = b
second_in (LtUn a b) = b
second_in (NullTest r is) = zero_expr
second_in (Sub a b) = b

abbrev pub tested_reference : Def → ℕ
tested_reference (NullTest r is) = r
tested_reference _ = 0

abbrev pub is_null_where : Def → Bool
is_null_where (NullTest r is) = is
is_null_where _ = false

-- The definition of a tag other than 4, by two expressions.
abbrev pub def_of_two : ℕ → Expr → Expr → Def
def_of_two tag a b = if tag == 1 then Eq a b else if tag == 2 then Lt a b else if tag == 3 then LtUn a b else Sub a b

unfoldable pub null_test : ℕ → Format Def
null_test references = part tested_reference (name references) (λ r. last_part is_null_where (NullTest r) flag)

unfoldable pub def_with_two : (symbols tag : ℕ) → Format Def
def_with_two symbols tag = part first_in (expr symbols) (λ a. last_part second_in (def_of_two tag a) (expr symbols))

abbrev pub def_of : (symbols references tag : ℕ) → Format Def
def_of symbols references tag = choice (tag == 4) (null_test references) (def_with_two symbols tag)

-- What a symbol is, after its tag.
unfoldable pub def : (symbols references : ℕ) → Format Def
def symbols references = part def_tag (tested (is_within 1 5) byte) (def_of symbols references)

abbrev pub Definition : Type 0
Definition = ℕ × Def

abbrev pub definition_of : ℕ → Def → Definition
definition_of symbol def = (symbol, def)

unfoldable pub definition : (symbols references : ℕ) → Format Definition
definition symbols references =
    part (λ d. d.0) (proper_name symbols) (λ symbol.
    last_part (λ d. d.1) (definition_of symbol) (def symbols references))

abbrev pub definition_precedes : Definition → Definition → Bool
definition_precedes a b = nat_lt a.0 b.0

-- The definition after this one, if there is one.
abbrev pub next_definition : (symbols references : ℕ) → Option Definition → Format Definition
next_definition symbols references last =
    tested (comes_after definition_precedes last) (definition symbols references)

unfoldable pub definitions : (symbols references : ℕ) → Format (List Definition)
definitions symbols references = part length (number 2) (in_order definition_precedes (definition symbols references))

-- ---- pairs of references

abbrev pub pair_of : ℕ → ℕ → Pair
pair_of r q = (r, q)

-- Two references, lower first.
unfoldable pub pair : ℕ → Format Pair
pair references =
    tested (λ p. nat_lt p.0 p.1)
    (part (λ p. p.0) (proper_name references) (λ r.
    last_part (λ p. p.1) (pair_of r) (proper_name references)))

-- The pair after this one, if there is one.
abbrev pub next_pair : ℕ → Option Pair → Format Pair
next_pair references last = tested (comes_after comes_before last) (pair references)

unfoldable pub pairs : ℕ → Format (List Pair)
pairs references = part length (number 4) (in_order comes_before (pair references))
