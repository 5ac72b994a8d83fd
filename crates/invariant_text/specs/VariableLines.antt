-- The lines of variables.
use Rattle.std.specs.Prelude.{ℕ, ◌==◌, ◌-◌, nat_lt, List, ◌++◌, length, if◌then◌else◌, codes}
use Rattle.std.specs.Fmt.{decimal}
use Rattle.cil_model.specs.declared.unit.Unit.{Unit as MethodUnit}
use Rattle.domain_api.specs.declared.expr.Expr.{Expr}
use Rattle.frame_names.specs.declared.var.Var.{Var}
use Rattle.frame_names.specs.declared.var.Var.TheVariants as vars
use Rattle.invariant_text.specs.Lines.{line}
use Rattle.invariant_text.specs.NumberTexts.{expr_text}

unfoldable pub reference_text : ℕ → List ℕ
reference_text r = if r == 0 then codes "null" else codes "r" ++ decimal r

-- The item of an index, in the array of a reference.
unfoldable pub address_text : ℕ → Expr → List ℕ
address_text r e = reference_text r ++ codes "[" ++ expr_text e ++ codes "]"

-- What a variable has.
abbrev pub value_text : Var → List ℕ
value_text (vars.Number e) = expr_text e
value_text (vars.Reference r) = reference_text r
value_text vars.Text = codes "text"
value_text (vars.Address r e) = address_text r e

-- The name of a variable, where there are so many arguments and locals: the arguments at the entry come first, then the
-- arguments, the locals, and the stack from the bottom.
unfoldable pub variable_name : (args locals : ℕ) → ℕ → List ℕ
variable_name args locals i =
    if nat_lt i args then codes "in " ++ decimal i
    else if nat_lt (i - args) args then codes "arg " ++ decimal (i - args)
    else if nat_lt (i - args - args) locals then codes "local " ++ decimal (i - args - args)
    else codes "stack " ++ decimal (i - args - args - locals)

unfoldable pub variable_line : MethodUnit → ℕ → Var → List ℕ
variable_line unit i value =
    line (variable_name (length unit.args) (length unit.locals) i ++ codes " = " ++ value_text value)
