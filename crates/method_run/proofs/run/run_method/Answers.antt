use Rattle.std.proofs.Common.{◌≡◌, IfOk, None, map, slice_get, string_bytes, sym, ap, subst, ◌∙◌}
use Rattle.std.specs.Option.{option_copied}
use Rattle.method_run.specs.declared.answer.RunAnswer.TheVariants.{Misfit}
use Rattle.method_run.proofs.RunLemmas.{answered_by, answered_of, some_first}
use Rattle.method_run.proofs.run.run_method.Goals as goal

pub returns-in_default-clause-answer : goal.returns-in_default-clause-answer
returns-in_default-clause-answer c =
    ap Misfit (c.from_vec.ensures ∙ c.new.ensures.items)
    ∙ answered_by c.args.world.now (map (λ word. string_bytes word) c.args.words.now) c.args.steps c.as_slice.result.now None c.as_slice.ensures
    (sym (ap option_copied c.in_default.is) ∙ c.first.ensures.value)

pub returns-in_default-clause-told : goal.returns-in_default-clause-told
returns-in_default-clause-told c some =
    absurd (some_first c.args.world.now.units (sym (ap option_copied c.in_default.is) ∙ c.first.ensures.value ∙ ap (λ units. slice_get units 0) c.as_slice.ensures) some)

pub returns-clause-answer : goal.returns-clause-answer
returns-clause-answer c =
    subst (λ whole. IfOk c.run_unit.result (λ answer. answer ≡ whole))
    (answered_of c.args.world.now (map (λ word. string_bytes word) c.args.words.now) c.args.steps c.as_slice.result.now c.in-Some.unit.now
    c.run_limits.result c.as_slice-2.result.now c.deref.result.now c.as_slice.ensures
    (sym (ap option_copied c.in-Some.is) ∙ c.first.ensures.value) c.run_limits.ensures.limits c.as_slice-2.ensures
    (c.deref.ensures.value ∙ c.in_ok-args.ensures))
    c.run_unit.ensures.answer
