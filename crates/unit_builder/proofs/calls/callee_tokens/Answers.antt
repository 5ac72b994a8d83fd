use Rattle.std.proofs.Common.{rules, ◌-◌, ◌∙◌, sym, ap, arith}
use Rattle.unit_builder.specs.declared.entry.MethodEntry.{MethodEntry}
use Rattle.unit_builder.proofs.CallFacts.{body_told, index_there, row_is}
use Rattle.unit_builder.specs.Met.{first_method}
use Rattle.unit_builder.proofs.calls.callee_tokens.Goals as goal

pub returns-in_default-get : goal.returns-in_default-get
returns-in_default-get c = λ method there entry.
    let at = index_there c.args.assembly.now method there in
    let token = ap (λ (e : MethodEntry). e.token.0) entry in
    let past = rw c.methods.ensures.methods at c.in_default-get.ensures.lookup.3 in
    let index = c.saturating_sub-index.ensures in
    absurd (omega (arith, at.0, past, index, token))

pub returns : goal.returns
returns c = λ method there entry.
    let at = index_there c.args.assembly.now method there in
    let token = ap (λ (e : MethodEntry). e.token.0) entry in
    let same = row_is c.args.assembly.now c.methods.result.now c.saturating_sub-index.result c.in-Some.method.now method c.methods.ensures.methods
    (c.saturating_sub-index.ensures ∙ ap (λ n. n - first_method) token) at.1 c.in-Some.ensures.lookup.1 in
    body_told c.tokens_of.result c.args.assembly.now c.in-Some.method.now method c.in-Analysed.field-0 c.in_ok-keys.keys.items same
    (sym (ap (λ (e : MethodEntry). e.outcome) entry) ∙ c.in-Analysed.is) c.in_ok-keys.ensures.value (search rules)
