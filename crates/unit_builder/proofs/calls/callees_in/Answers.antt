use Rattle.std.proofs.Common.{rules, ◌≡◌, subst, IfOk}
use Rattle.std.proofs.lemmas.Bool.{both_ways}
use Rattle.unit_builder.specs.Sources.{scope_at}
use Rattle.unit_builder.proofs.CallFacts.{analysed_code}
use Rattle.unit_builder.proofs.calls.callees_in.Goals as goal

pub returns-then-not-has_il_body-clause-value : goal.returns-then-not-has_il_body-clause-value
returns-then-not-has_il_body-clause-value c = λ unit analysed.
    let read = analysed_code (scope_at c.args.sources.now c.args.file) c.args.method.now unit analysed in
    absurd (both_ways _ (search rules) read.body)

pub returns-clause-value : goal.returns-clause-value
returns-clause-value c = λ unit analysed.
    let scope = scope_at c.args.sources.now c.args.file in
    let read = analysed_code scope c.args.method.now unit analysed in
    let same = c.callees.ensures scope c.args.method.now c.in_ok-read.ensures.told read.faultless in
    subst (λ own. IfOk c.from_slice.result (λ keys. keys.items ≡ own)) same c.from_slice.ensures.items
