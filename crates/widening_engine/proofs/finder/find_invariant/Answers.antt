use Rattle.std.proofs.Common.{◌∙◌, ap, map, subst, sym}
use Rattle.state_facts.specs.Sizes.{AreSmall}
use Rattle.widening_engine.specs.Limits.{limit_of, unit_flow}
use Rattle.widening_engine.specs.Work.{work}
use Rattle.widening_engine.proofs.LimitSizes.{limit_small}
use Rattle.widening_engine.proofs.Seeking.{at_most}
use Rattle.widening_engine.proofs.UnitSizes.{spelled}
use Rattle.widening_engine.proofs.finder.find_invariant.Goals as goal

pub unit_bytes-requires : goal.unit_bytes-requires
unit_bytes-requires c = record { fields = spelled c.args.code.now c.requires.lawful }

pub returns-clause-value : goal.returns-clause-value
unfolding limit_of
returns-clause-value c = c.in_ok-states-2.ensures ∙ ap (map (λ a. a.state)) c.in_ok-states.ensures.value

pub returns-clause-small : goal.returns-clause-small
unfolding limit_of
returns-clause-small c =
    subst AreSmall (sym (c.in_ok-states-2.ensures ∙ ap (map (λ a. a.state)) c.in_ok-states.ensures.value))
    (limit_small c.args.code.now c.requires.lawful)

pub returns-in_err-states-2-clause-work : goal.returns-in_err-states-2-clause-work
returns-in_err-states-2-clause-work c = at_most c.args.every (λ equal. work equal (unit_flow c.args.code.now)) _ _ c.in_ok-states.ensures.ticked

pub returns-in_err-push-clause-work : goal.returns-in_err-push-clause-work
returns-in_err-push-clause-work c = at_most c.args.every (λ equal. work equal (unit_flow c.args.code.now)) _ _ c.in_ok-states.ensures.ticked

pub returns-clause-work : goal.returns-clause-work
returns-clause-work c = at_most c.args.every (λ equal. work equal (unit_flow c.args.code.now)) _ _ c.in_ok-states.ensures.ticked
