-- Each reference is read back from its text, and so are what a variable has and the lines of variables and of pairs.
use Rattle.std.proofs.Common.{◌≡◌, ℕ, zero, suc, ◌-◌, ◌<◌, ◌^◌, ◌==◌, nat_lt, Bool, true, false, List, ◌∷◌, ◌++◌}
use Rattle.std.proofs.Common.{length}
use Rattle.std.proofs.Common.{get_or, Some, None, refl, arith, codes, if◌then◌else◌, ◌||◌, ap, sym, ◌∙◌}
use Rattle.std.specs.Fmt.{decimal}
use Rattle.std.proofs.lemmas.Bool.{ne_eqb, true≢false}
use Rattle.alias_facts.specs.PairsOf.{Pair}
use Rattle.cil_model.specs.declared.unit.Unit.{Unit as MethodUnit}
use Rattle.domain_api.specs.declared.expr.Expr.{Expr}
use Rattle.frame_names.specs.declared.var.Var.{Var}
use Rattle.frame_names.specs.declared.var.Var.TheVariants as vars
use Rattle.invariant_text.specs.NumberTexts.{expr_text}
use Rattle.invariant_text.specs.ReferenceLines.{apart_line}
use Rattle.invariant_text.specs.VariableLines.{reference_text, value_text, variable_line, variable_name}
use Rattle.invariant_text.proofs.DefReading.{begins_reference, expr_no_reference, null_text, other_text}
use Rattle.invariant_text.proofs.DefReading.{reference_begins}
use Rattle.invariant_text.proofs.ExprReading.{expr_no_letter}
use Rattle.invariant_text.proofs.LineReading.{apart_parts, variable_parts}
use Rattle.invariant_text.proofs.NumberReading.{begins_digit}
use Rattle.invariant_text.proofs.ValueReading.{address_parts, index_text}
use Rattle.invariant_reader.specs.CodeNumbers.{IsCodeExpr, IsCodePair, IsCodeVar}
use Rattle.invariant_reader.specs.Pairs.{read_apart_line}
use Rattle.invariant_reader.specs.Prefixes.{behind}
use Rattle.invariant_reader.specs.References.{read_reference}
use Rattle.invariant_reader.specs.Variables.{behind_name, read_index, read_number, read_place, read_value}
use Rattle.invariant_reader.specs.Variables.{read_variable_line}
use Rattle.invariant_reader.proofs.ExprReads.{expr_reads, small_code}
use Rattle.invariant_reader.proofs.NumberReads.{digits_skipped, short_reads}
use Rattle.invariant_reader.proofs.PrefixLemmas.{not_behind}

-- ---- references

pub reference_reads : (r : ℕ) (rest : List ℕ) → r < 2 ^ 32 → begins_digit rest ≡ false
    → read_reference (reference_text r ++ rest) ≡ Some (r, rest)
unfolding read_reference
reference_reads zero rest fits none = rw null_text
reference_reads (suc r) rest fits none = rw (other_text r) (short_reads (suc r) rest fits none)

-- ---- pairs

pub pair_reads : (p : Pair) (rest : List ℕ) → IsCodePair p → read_apart_line (apart_line p ++ rest) ≡ Some (p, rest)
unfolding read_apart_line
pair_reads p rest is =
    rw (
      apart_parts p rest,
      reference_reads p.0 (codes " apart " ++ (reference_text p.1 ++ 10 ∷ rest)) is.0 refl,
      reference_reads p.1 (10 ∷ rest) is.1 refl,
    )

-- ---- what a variable has

no_text : (text : List ℕ) → begins_reference text ≡ true → behind (codes "text") text ≡ None
no_text text is = not_behind 116 (codes "ext") text (ne_eqb (get_or text 0 0) 116 (λ same.
    true≢false (sym is ∙ ap (λ (c : ℕ). c == 110 || c == 114) same)))

number_reads : (e : Expr) (rest : List ℕ) → IsCodeExpr e
    → read_value (expr_text e ++ 10 ∷ rest) ≡ Some (vars.Number e, 10 ∷ rest)
unfolding read_value read_number
number_reads e rest is =
    let text = expr_text e ++ 10 ∷ rest in
    rw (
      not_behind 116 (codes "ext") text
          (expr_no_letter 116 e (10 ∷ rest) (omega arith) (λ same. omega (arith, same)) (small_code e is)),
      expr_no_reference e (10 ∷ rest) (small_code e is),
      expr_reads e (10 ∷ rest) is (record { no_digit = refl; not_added = refl }),
    )

index_reads : (r : ℕ) (e : Expr) (rest : List ℕ) → IsCodeExpr e
    → read_index r (expr_text e ++ 93 ∷ rest) ≡ Some (vars.Address r e, rest)
unfolding read_index
index_reads r e rest is = rw (expr_reads e (93 ∷ rest) is (record { no_digit = refl; not_added = refl }))

pub value_reads : (v : Var) (rest : List ℕ) → IsCodeVar v → read_value (value_text v ++ 10 ∷ rest) ≡ Some (v, 10 ∷ rest)
unfolding read_value read_place
value_reads (vars.Number e) rest is = number_reads e rest is
value_reads (vars.Reference r) rest is =
    rw (
      no_text (reference_text r ++ 10 ∷ rest) (reference_begins r (10 ∷ rest)),
      reference_begins r (10 ∷ rest),
      reference_reads r (10 ∷ rest) is refl,
    )
value_reads vars.Text rest is = refl
value_reads (vars.Address r e) rest is =
    let index = index_text e (10 ∷ rest) in
    rw (
      address_parts r e (10 ∷ rest),
      no_text (reference_text r ++ index) (reference_begins r index),
      reference_begins r index,
      reference_reads r index is.0 refl,
    )
    (index_reads r e (10 ∷ rest) is.1)

-- ---- the lines of variables

named : (first second third : Bool) (i j k l : ℕ) (rest : List ℕ)
    → behind_name ((if first then codes "in " ++ decimal i else if second then codes "arg " ++ decimal j
    else if third then codes "local " ++ decimal k else codes "stack " ++ decimal l) ++ 32 ∷ rest) ≡ Some (32 ∷ rest)
unfolding behind_name
named true second third i j k l rest = rw (digits_skipped i (32 ∷ rest) refl)
named false true third i j k l rest = rw (digits_skipped j (32 ∷ rest) refl)
named false false true i j k l rest = rw (digits_skipped k (32 ∷ rest) refl)
named false false false i j k l rest = rw (digits_skipped l (32 ∷ rest) refl)

name_reads : (args locals i : ℕ) (rest : List ℕ)
    → behind_name (variable_name args locals i ++ 32 ∷ rest) ≡ Some (32 ∷ rest)
unfolding variable_name
name_reads args locals i rest =
    named (nat_lt i args) (nat_lt (i - args) args) (nat_lt (i - args - args) locals) i (i - args) (i - args - args)
    (i - args - args - locals) rest

pub variable_reads : (unit : MethodUnit) (i : ℕ) (v : Var) (rest : List ℕ) → IsCodeVar v
    → read_variable_line (variable_line unit i v ++ rest) ≡ Some (v, rest)
unfolding read_variable_line
variable_reads unit i v rest is =
    rw (
      variable_parts unit i v rest,
      name_reads (length unit.args) (length unit.locals) i (codes "= " ++ (value_text v ++ 10 ∷ rest)),
      value_reads v rest is,
    )
