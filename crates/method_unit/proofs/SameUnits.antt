-- Units are equal where their fields and their clauses are.
use Rattle.std.proofs.Common.{◌≡◌, sym, ap, ◌∙◌}
use Rattle.cil_model.specs.Blocks.{start_of_body}
use Rattle.cil_model.specs.declared.unit.Unit.{Unit as MethodUnit}
use Rattle.il_decoder.proofs.Sequence.{code_only}
use Rattle.il_decoder.specs.Decoding.{instructions_of}
use Rattle.method_unit.specs.Units.{IsUnit}

-- The code tells the instructions.
instrs_told : (unit : MethodUnit) → IsUnit unit → instructions_of unit.code ≡ unit.instrs
instrs_told unit is = (code_only unit.code unit.instrs is.well_formed.code).1

pub same_told : (a b : MethodUnit) → IsUnit a → IsUnit b
    → a.name ≡ b.name → a.result ≡ b.result → a.args ≡ b.args → a.locals ≡ b.locals → a.max_stack ≡ b.max_stack → a.callees ≡ b.callees → a.code ≡ b.code
    → a.clauses ≡ b.clauses → a ≡ b
same_told a b is other name result args locals max_stack callees code clauses =
    let instrs : a.instrs ≡ b.instrs = sym (instrs_told a is) ∙ ap instructions_of code ∙ instrs_told b other in
    let body = is.well_formed.body ∙ ap start_of_body instrs ∙ sym other.well_formed.body in
    λ i. record {
      name = name i;
      result = result i;
      args = args i;
      locals = locals i;
      max_stack = max_stack i;
      callees = callees i;
      code = code i;
      clauses = clauses i;
      body_start = body i;
      instrs = instrs i;
    }
