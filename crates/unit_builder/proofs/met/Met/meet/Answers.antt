use Rattle.std.proofs.Common.{rules, sym}
use Rattle.unit_builder.proofs.MetLemmas.{pushed_tells}
use Rattle.unit_builder.proofs.met.Met.meet.Goals as goal

pub invariant_of-self-then-index-eq0 : goal.invariant_of-self-then-index-eq0
invariant_of-self-then-index-eq0 c =
    let v = c.self.view_is in
    pushed_tells _ _ _ c.args.token _ _ c.self.invariant (rw (sym v) at c.requires.among) (search rules) (search rules) (search rules) (search rules)
