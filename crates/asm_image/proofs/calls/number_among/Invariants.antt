use Rattle.std.proofs.Common.{◌≡◌, drop, map}
use Rattle.asm_image.specs.Calls.{listed, number_among}
use Rattle.asm_image.proofs.calls.number_among.Given as goal

abbrev pub invariant-loop-method : goal.invariant-loop-method
invariant-loop-method l =
    number_among (map listed (drop l.method-index l.methods)) l.name l.signature ≡ number_among (map listed l.methods) l.name l.signature
