use Rattle.std.proofs.Common.{refl, subst, sym, ◌∙◌}
use Rattle.cc_base.proofs.TestLemmas.{refusal-carried}
use Rattle.method_unit.proofs.Made.{kinds_in}
use Rattle.unit_builder.proofs.Parts.{callees_are, kinds_faulty, unit_judged}
use Rattle.unit_builder.specs.Making.{HasParts}
use Rattle.unit_builder.specs.Sources.{scope_at}
use Rattle.unit_builder.proofs.making.make_unit.Goals as goal

pub returns-clause-judged : goal.returns-clause-judged
returns-clause-judged c =
    let scope = scope_at c.args.sources.now c.args.file in
    let method = c.args.method.now in
    let callees = callees_are scope method _ _ (c.deref.ensures.value ∙ c.requires.own.callees) c.in_ok-callees.ensures.value in
    let shape = c.in_ok-shape.ensures scope method c.requires.types c.requires.variables callees in
    let told =
    unit_judged scope method c.in_ok-shape.shape c.args.own _ _ c.in_ok-callees.callees.items c.as_slice.result.now c.as_slice-2.result.now shape c.requires.own callees
    (c.from_vec.ensures ∙ (c.in_ok-name.ensures.items ∙ c.unit_name.ensures)) (c.from_vec-2.ensures ∙ c.in_ok-code.ensures.value) c.as_slice.ensures c.as_slice-2.ensures
    c.in_ok-kinds.ensures.0 (_, c.in_ok-kinds.ensures.1) in
    (told.0, subst (HasParts scope method) (sym c.of.ensures) told.1)

-- The shape is that of the unit that is made of it.
pub of-requires : goal.of-requires
of-requires c = kinds_in _ _ _ _ _ refl (sym c.as_slice.ensures) c.in_ok-kinds.ensures.1

pub returns-in_err-kinds-clause-judged : goal.returns-in_err-kinds-clause-judged
returns-in_err-kinds-clause-judged c =
    let scope = scope_at c.args.sources.now c.args.file in
    let method = c.args.method.now in
    let callees = callees_are scope method _ _ (c.deref.ensures.value ∙ c.requires.own.callees) c.in_ok-callees.ensures.value in
    let shape = c.in_ok-shape.ensures scope method c.requires.types c.requires.variables callees in
    refusal-carried _ _ _ _ _ _ c.from_residual-in_err-kinds.ensures.1 c.in_err-kinds.ensures
    (λ reason some. kinds_faulty scope method c.in_ok-shape.shape c.args.own c.as_slice.result.now reason shape c.requires.own c.as_slice.ensures some)
