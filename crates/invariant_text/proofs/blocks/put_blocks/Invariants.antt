use Rattle.std.proofs.Common.{◌≡◌, ◌++◌, drop}
use Rattle.invariant_text.specs.InvariantText.{invariant_text}
use Rattle.invariant_text.proofs.blocks.put_blocks.Given as goal

abbrev pub invariant-loop-i : goal.invariant-loop-i
invariant-loop-i l =
    l.out.items ++ invariant_text l.unit (drop l.i l.blocks) (drop l.i l.states)
    ≡ l.initial.out.items ++ invariant_text l.unit l.blocks l.states
