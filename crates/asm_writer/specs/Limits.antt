-- The limits of a method, and of an extern.
use Rattle.std.specs.Prelude.{◌+◌, length, Bool, nat_le, ◌&&◌}
use Rattle.cil_model.specs.Limits.{MAX_CODE_BYTES, MAX_VARIABLES}
use Rattle.asm_writer.specs.declared.plan.Extern.{Extern}
use Rattle.asm_writer.specs.declared.plan.MethodPlan.{MethodPlan}

-- The method keeps the limits on its code and on its variables.
unfoldable pub is_within : MethodPlan → Bool
is_within m =
    nat_le (length m.code.items) MAX_CODE_BYTES
    && nat_le (length m.args.items + length m.locals.items + m.max_stack) MAX_VARIABLES

-- The extern keeps the limit on its arguments.
unfoldable pub is_short_extern : Extern → Bool
is_short_extern e = nat_le (length e.args.items) MAX_VARIABLES
