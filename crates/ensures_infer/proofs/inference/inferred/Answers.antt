use Rattle.std.proofs.Common.{◌≡◌, sym, ◌∙◌}
use Rattle.std.proofs.lemmas.Bool.{false≢true}
use Rattle.ensures_infer.specs.Returns.{returns_of}
use Rattle.ensures_infer.proofs.Finding.{none_where_not, shown_where_inductive}
use Rattle.ensures_infer.proofs.inference.inferred.Goals as goal

pub returns-in_ok-returns : goal.returns-in_ok-returns
returns-in_ok-returns c =
    let code = c.args.code.now in
    let states = c.args.states.now in
    let same : c.deref.result.now ≡ returns_of code states = c.deref.ensures.value ∙ c.in_ok-returns.ensures in
    rw (shown_where_inductive code states (c.in_ok-inductive.ensures.exact.0 c.if-branch.true), sym same)
    c.shown_at.ensures

pub returns-else-branch : goal.returns-else-branch
returns-else-branch c =
    c.new.ensures.items
    ∙ sym (none_where_not c.args.code.now c.args.states.now
    (λ inductive. false≢true (sym c.if-branch.false ∙ c.in_ok-inductive.ensures.exact.1 inductive)))
