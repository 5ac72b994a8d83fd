use Rattle.std.proofs.Common.{◌∙◌, sym}
use Rattle.std.proofs.lemmas.Int.{to_z-of_z}
use Rattle.std.specs.Int.{w128}
use Rattle.pentagon_domain.specs.Laws.GapsHold.{gap_with_above}
use Rattle.pentagon_domain.proofs.Reaches.{gap_with_apart}
use Rattle.pentagon_domain.proofs.bounds.Bounds.gap_with.Goals as goal

pub returns-clause-holds : goal.returns-clause-holds
returns-clause-holds c = λ number k is allowed between.
    let raised = rw (to_z-of_z w128 c.args.between c.ranges.between, c.gap.ensures) at c.raised_gap.ensures.value in
    gap_with_above c.args.self.now number c.args.between c.args.s c.args.t allowed between k
    (sym (gap_with_apart c.args.self.now c.args.between c.args.s c.args.t c.if-s-t.false) ∙ (sym raised ∙ is))
