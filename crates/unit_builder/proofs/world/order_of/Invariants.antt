use Rattle.std.proofs.Common.{◌≡◌, length, take, drop}
use Rattle.asm_image.specs.Rows.{methods_of}
use Rattle.unit_builder.specs.WorldOf.{first_missing, order_so_far}
use Rattle.unit_builder.proofs.world.order_of.Given as goal

abbrev pub invariant-loop-method : goal.invariant-loop-method
invariant-loop-method l =
    (l.order.count ≡ length (methods_of l.assembly))
    × (l.order.tokens ≡ order_so_far l.assembly l.fn.first.0 (take l.method-index (methods_of l.assembly)))
    × (first_missing l.assembly l.fn.first.0 (drop l.method-index (methods_of l.assembly)) ≡ first_missing l.assembly l.fn.first.0 (methods_of l.assembly))
