use Rattle.std.proofs.Common.{List, Option, ◌++◌, append-nil, sym, ap, subst, ◌∙◌}
use Rattle.std.specs.List.{AllByRecursion}
use Rattle.std.specs.Prelude.{OnOk, option_to_list}
use Rattle.proof_files.specs.Held.{IsMadeOf}
use Rattle.proof_files.specs.Proofs.{Entry, IsEntry}
use Rattle.unit_flow.specs.Flow.{IsLawful}
use Rattle.unit_flow.specs.FlowOf.{flow_of}
use Rattle.unit_flow.specs.declared.unit_flow.UnitFlow.{UnitFlow}
use Rattle.unit_verdicts.specs.Picks.{states_in}
use Rattle.unit_verdicts.proofs.Spelled.{on_any, spelled_is, spelled_none, spelled_some}
use Rattle.unit_verdicts.proofs.UnitSafety.{lawful_flow}
use Rattle.unit_verdicts.proofs.proof_left.add_unit.Goals as goal

pub has_shape-requires : goal.has_shape-requires
has_shape-requires c =
    let code = c.in_ok-code in
    let own = code.ensures.value ∙ ap flow_of (sym (ap (λ (flow : UnitFlow). flow.unit) code.ensures.value)) in
    record { lawful = subst IsLawful (sym own) (lawful_flow code.code.unit code.ensures.unit) }

pub returns-then-not-has_shape-clause-made : goal.returns-then-not-has_shape-clause-made
returns-then-not-has_shape-clause-made c =
    let exact = rw c.deref.ensures.value at c.has_shape.ensures.exact in
    let are = c.in_ok-invariant.ensures.value ∙ ap states_in c.in_ok-readable.ensures.same in
    let none = spelled_none c.args.key.now c.args.invariant.now c.in_ok-code.code c.in_ok-invariant.invariant.states.items c.has_shape.result
    c.in_ok-code.ensures.value are exact c.if-not-has_shape.true in
    λ entries made. subst (λ (o : Option Entry). IsMadeOf (entries ++ option_to_list o) c.args.text.now) (sym none)
    (subst (λ (all : List Entry). IsMadeOf all c.args.text.now) (sym (append-nil entries)) made)

pub returns-then-not-has_shape-clause-entry : goal.returns-then-not-has_shape-clause-entry
returns-then-not-has_shape-clause-entry c =
    let exact = rw c.deref.ensures.value at c.has_shape.ensures.exact in
    let are = c.in_ok-invariant.ensures.value ∙ ap states_in c.in_ok-readable.ensures.same in
    let none = spelled_none c.args.key.now c.args.invariant.now c.in_ok-code.code c.in_ok-invariant.invariant.states.items c.has_shape.result
    c.in_ok-code.ensures.value are exact c.if-not-has_shape.true in
    subst (λ (o : Option Entry). AllByRecursion IsEntry (option_to_list o)) (sym none) tt

pub returns-clause-made : goal.returns-clause-made
returns-clause-made c =
    let exact = rw c.deref.ensures.value at c.has_shape.ensures.exact in
    let are = c.in_ok-invariant.ensures.value ∙ ap states_in c.in_ok-readable.ensures.same in
    let some = spelled_some c.args.key.now c.args.invariant.now c.in_ok-code.code c.in_ok-invariant.invariant.states.items c.has_shape.result
    c.in_ok-code.ensures.value are exact c.if-not-has_shape.false in
    λ entries made. subst (λ (o : Option Entry). OnOk c.add.result (IsMadeOf (entries ++ option_to_list o) c.add.new.self)) (sym some)
    ((rw c.deref-2.ensures.value at c.add.ensures) entries made)

pub returns-clause-entry : goal.returns-clause-entry
returns-clause-entry c =
    let exact = rw c.deref.ensures.value at c.has_shape.ensures.exact in
    let are = c.in_ok-invariant.ensures.value ∙ ap states_in c.in_ok-readable.ensures.same in
    on_any _ c.add.result (spelled_is c.args.key.now c.args.invariant.now c.in_ok-code.code c.in_ok-invariant.invariant.states.items c.has_shape.result
    c.in_ok-code.ensures.value are exact c.in_ok-code.ensures.unit c.in_ok-invariant.ensures.spellable c.if-not-has_shape.false)
