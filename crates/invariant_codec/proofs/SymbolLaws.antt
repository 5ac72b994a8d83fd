-- Variables, bounds, definitions and pairs: what is read is spelled, and what is spelled is read.
use Rattle.std.proofs.Common.{◌≡◌, ℕ, zero, suc, ◌≤◌, List}
use Rattle.std.proofs.Common.{refl, ap, ◌∙◌, arith}
use Rattle.std.specs.Prelude.{◌==◌, nat_lt}
use Rattle.std.proofs.lemmas.Bool.{cond_both}
use Rattle.alias_facts.specs.PairsOf.{Pair, comes_before}
use Rattle.cc_base.specs.LittleEndian.{IsBytes}
use Rattle.domain_api.specs.declared.expr.Expr.{Expr}
use Rattle.frame_names.specs.declared.var.Var.{Var}
use Rattle.frame_names.specs.declared.var.Var.TheVariants as vars
use Rattle.pentagon_domain.specs.declared.bound_row.BoundRow.{BoundRow}
use Rattle.symbolic_values.specs.declared.def.Def.{Def}
use Rattle.symbolic_values.specs.declared.def.Def.TheVariants.{Eq, Lt, LtUn, NullTest, Sub}
use Rattle.invariant_codec.specs.Formats.{each, in_order, tested}
use Rattle.invariant_codec.specs.Numbers.{byte, expr, flag, int64, is_within, name, near_expr, number, proper_name}
use Rattle.invariant_codec.specs.Symbols.{Definition, address, def, def_of, def_of_two, def_tag, def_with_two}
use Rattle.invariant_codec.specs.Symbols.{definition, definition_of, definition_precedes, definitions, first_in}
use Rattle.invariant_codec.specs.Symbols.{is_null_where}
use Rattle.invariant_codec.specs.Symbols.{null_test, number_in, other_symbol, pair, pair_of, pairs, reference_in, row}
use Rattle.invariant_codec.specs.Symbols.{row_of, row_precedes, rows, second_in, tested_reference, var, var_of, var_tag}
use Rattle.invariant_codec.specs.Symbols.{variables}
use Rattle.invariant_codec.proofs.FormatLaws.{IsExact, choice_exact, counted_exact, each_exact, last_exact, only_exact}
use Rattle.invariant_codec.proofs.FormatLaws.{order_exact, part_exact, tested_exact}
use Rattle.invariant_codec.proofs.NumberLaws.{byte_exact, expr_exact, flag_exact, int64_exact, name_exact, near_exact}
use Rattle.invariant_codec.proofs.NumberLaws.{number_exact, proper_exact, within}

-- ---- variables

var_tagged : (symbols references tag : ℕ) (v : Var) → 1 ≤ tag → tag ≤ 4 → (var_of symbols references tag).IsSpelled v
    → var_tag v ≡ tag
unfolding address
var_tagged symbols references zero v least most spelled = absurd (omega (arith, least))
var_tagged symbols references (suc zero) v least most spelled = ap var_tag spelled.1
var_tagged symbols references (suc (suc zero)) v least most spelled = ap var_tag spelled.1
var_tagged symbols references (suc (suc (suc zero))) v least most spelled = ap var_tag spelled
var_tagged symbols references (suc (suc (suc (suc zero)))) v least most spelled = ap var_tag spelled.1.1
var_tagged symbols references (suc (suc (suc (suc (suc n))))) v least most spelled = absurd (omega (arith, most))

address_exact : (bytes : List ℕ) (symbols references : ℕ) → IsBytes bytes → IsExact bytes (address symbols references)
unfolding address
address_exact bytes symbols references fits =
    part_exact bytes reference_in (name references) _ (name_exact bytes references fits)
    (λ r. last_exact bytes number_in (vars.Address r) (near_expr symbols) (near_exact bytes symbols fits) (λ e _. refl))
    (λ r v _ spelled. ap reference_in spelled.1)

pub var_exact : (bytes : List ℕ) (symbols references : ℕ) → IsBytes bytes → IsExact bytes (var symbols references)
unfolding var
var_exact bytes symbols references fits =
    part_exact bytes var_tag (tested (is_within 1 4) byte) (var_of symbols references)
    (tested_exact bytes (is_within 1 4) byte (byte_exact bytes fits)) (λ tag.
    choice_exact bytes (tag == 1) _ _ (last_exact bytes number_in vars.Number (near_expr symbols)
    (near_exact bytes symbols fits) (λ e _. refl))
    (choice_exact bytes (tag == 2) _ _ (last_exact bytes reference_in vars.Reference (name references)
    (name_exact bytes references fits) (λ r _. refl))
    (choice_exact bytes (tag == 3) _ _ (only_exact bytes vars.Text) (address_exact bytes symbols references fits))))
    (λ tag v spelled rest. let is = within 1 4 tag spelled.1 in var_tagged symbols references tag v is.0 is.1 rest)

pub variables_exact : (bytes : List ℕ) (symbols references : ℕ) → IsBytes bytes
    → IsExact bytes (variables symbols references)
unfolding variables
variables_exact bytes symbols references fits =
    counted_exact bytes (number 2) (each (var symbols references)) (number_exact bytes 2 fits (omega arith))
    (λ n. each_exact bytes (var symbols references) n (var_exact bytes symbols references fits))
    (λ n xs spelled. spelled.0)

-- ---- bounds

other_exact : (bytes : List ℕ) (symbols s : ℕ) → IsBytes bytes → IsExact bytes (other_symbol symbols s)
unfolding other_symbol
other_exact bytes symbols s fits = tested_exact bytes _ (number 2) (number_exact bytes 2 fits (omega arith))

pub row_exact : (bytes : List ℕ) (symbols : ℕ) → IsBytes bytes → IsExact bytes (row symbols)
unfolding row
row_exact bytes symbols fits =
    part_exact bytes (λ r. r.s) (proper_name symbols) _ (proper_exact bytes symbols fits) (λ s.
    part_exact bytes (λ r. r.t) (other_symbol symbols s) _ (other_exact bytes symbols s fits) (λ t.
    last_exact bytes (λ r. r.k) (row_of s t) int64 (int64_exact bytes fits) (λ k _. refl))
    (λ t r _ spelled. ap (λ (r : BoundRow). r.t) spelled.1))
    (λ s r _ spelled. ap (λ (r : BoundRow). r.s) spelled.1.1)

pub rows_exact : (bytes : List ℕ) (symbols : ℕ) → IsBytes bytes → IsExact bytes (rows symbols)
unfolding rows
rows_exact bytes symbols fits =
    counted_exact bytes (number 4) (in_order row_precedes (row symbols)) (number_exact bytes 4 fits (omega arith))
    (λ n. order_exact bytes row_precedes (row symbols) n (row_exact bytes symbols fits)) (λ n xs spelled. spelled.0)

-- ---- definitions

def_tagged : (symbols references tag : ℕ) (d : Def) → 1 ≤ tag → tag ≤ 5 → (def_of symbols references tag).IsSpelled d
    → def_tag d ≡ tag
unfolding null_test def_with_two
def_tagged symbols references zero d least most spelled = absurd (omega (arith, least))
def_tagged symbols references (suc zero) d least most spelled = ap def_tag spelled.1.1
def_tagged symbols references (suc (suc zero)) d least most spelled = ap def_tag spelled.1.1
def_tagged symbols references (suc (suc (suc zero))) d least most spelled = ap def_tag spelled.1.1
def_tagged symbols references (suc (suc (suc (suc zero)))) d least most spelled = ap def_tag spelled.1.1
def_tagged symbols references (suc (suc (suc (suc (suc zero))))) d least most spelled = ap def_tag spelled.1.1
def_tagged symbols references (suc (suc (suc (suc (suc (suc n)))))) d least most spelled = absurd (omega (arith, most))

null_test_exact : (bytes : List ℕ) (references : ℕ) → IsBytes bytes → IsExact bytes (null_test references)
unfolding null_test
null_test_exact bytes references fits =
    part_exact bytes tested_reference (name references) _ (name_exact bytes references fits)
    (λ r. last_exact bytes is_null_where (NullTest r) flag (flag_exact bytes fits) (λ is _. refl))
    (λ r d _ spelled. ap tested_reference spelled.1)

-- What is made of two expressions, whatever the tag.
two : (P : Def → Type 0) (tag : ℕ) (a b : Expr) → P (Eq a b) → P (Lt a b) → P (LtUn a b) → P (Sub a b)
    → P (def_of_two tag a b)
two P tag a b eq lt lt_un difference =
    cond_both (tag == 1) (Eq a b) _ P (λ e. eq)
    (λ e. cond_both (tag == 2) (Lt a b) _ P (λ e. lt)
    (λ e. cond_both (tag == 3) (LtUn a b) (Sub a b) P (λ e. lt_un) (λ e. difference)))

first_of_two : (tag : ℕ) (a b : Expr) → first_in (def_of_two tag a b) ≡ a
first_of_two tag a b = two (λ d. first_in d ≡ a) tag a b refl refl refl refl

second_of_two : (tag : ℕ) (a b : Expr) → second_in (def_of_two tag a b) ≡ b
second_of_two tag a b = two (λ d. second_in d ≡ b) tag a b refl refl refl refl

with_two_exact : (bytes : List ℕ) (symbols tag : ℕ) → IsBytes bytes → IsExact bytes (def_with_two symbols tag)
unfolding def_with_two
with_two_exact bytes symbols tag fits =
    part_exact bytes first_in (expr symbols) _ (expr_exact bytes symbols fits)
    (λ a. last_exact bytes second_in (def_of_two tag a) (expr symbols) (expr_exact bytes symbols fits)
    (λ b _. second_of_two tag a b))
    (λ a d _ spelled. ap first_in spelled.1 ∙ first_of_two tag a (second_in d))

pub def_exact : (bytes : List ℕ) (symbols references : ℕ) → IsBytes bytes → IsExact bytes (def symbols references)
unfolding def
def_exact bytes symbols references fits =
    part_exact bytes def_tag (tested (is_within 1 5) byte) (def_of symbols references)
    (tested_exact bytes (is_within 1 5) byte (byte_exact bytes fits))
    (λ tag. choice_exact bytes (tag == 4) _ _ (null_test_exact bytes references fits)
    (with_two_exact bytes symbols tag fits))
    (λ tag d spelled rest. let is = within 1 5 tag spelled.1 in def_tagged symbols references tag d is.0 is.1 rest)

pub definition_exact : (bytes : List ℕ) (symbols references : ℕ) → IsBytes bytes
    → IsExact bytes (definition symbols references)
unfolding definition
definition_exact bytes symbols references fits =
    part_exact bytes (λ d. d.0) (proper_name symbols) _ (proper_exact bytes symbols fits)
    (λ symbol. last_exact bytes (λ d. d.1) (definition_of symbol) (def symbols references)
    (def_exact bytes symbols references fits) (λ d _. refl))
    (λ symbol d _ spelled. ap (λ (d : Definition). d.0) spelled.1)

pub definitions_exact : (bytes : List ℕ) (symbols references : ℕ) → IsBytes bytes
    → IsExact bytes (definitions symbols references)
unfolding definitions
definitions_exact bytes symbols references fits =
    counted_exact bytes (number 2) (in_order definition_precedes (definition symbols references))
    (number_exact bytes 2 fits (omega arith))
    (λ n. order_exact bytes definition_precedes (definition symbols references) n
    (definition_exact bytes symbols references fits)) (λ n xs spelled. spelled.0)

-- ---- pairs

pub pair_exact : (bytes : List ℕ) (references : ℕ) → IsBytes bytes → IsExact bytes (pair references)
unfolding pair
pair_exact bytes references fits =
    tested_exact bytes (λ p. nat_lt p.0 p.1) _
    (part_exact bytes (λ p. p.0) (proper_name references) _ (proper_exact bytes references fits)
    (λ r. last_exact bytes (λ p. p.1) (pair_of r) (proper_name references) (proper_exact bytes references fits)
    (λ q _. refl))
    (λ r p _ spelled. ap (λ (p : Pair). p.0) spelled.1))

pub pairs_exact : (bytes : List ℕ) (references : ℕ) → IsBytes bytes → IsExact bytes (pairs references)
unfolding pairs
pairs_exact bytes references fits =
    counted_exact bytes (number 4) (in_order comes_before (pair references)) (number_exact bytes 4 fits (omega arith))
    (λ n. order_exact bytes comes_before (pair references) n (pair_exact bytes references fits))
    (λ n xs spelled. spelled.0)
