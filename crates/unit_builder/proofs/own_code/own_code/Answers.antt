use Rattle.std.proofs.Common.{sym, ◌∙◌}
use Rattle.cc_base.proofs.TestLemmas.{refusal-carried}
use Rattle.unit_builder.proofs.CodeFacts.{own_fault, own_is}
use Rattle.unit_builder.specs.Sources.{scope_at}
use Rattle.unit_builder.proofs.own_code.own_code.Goals as goal

pub returns-clause-judged : goal.returns-clause-judged
returns-clause-judged c =
    own_is (scope_at c.args.sources.now c.args.file) c.args.method.now c.in_ok-code.code _ c.in_ok-code.ensures.judged.1
    c.in_ok-contracts.ensures.0 c.in_ok-contracts.ensures.1
    c.take_instrs-instrs.ensures.instrs (c.in_ok-callees.ensures.items ∙ c.as_slice.ensures)

pub returns-in_err-contracts-clause-judged : goal.returns-in_err-contracts-clause-judged
returns-in_err-contracts-clause-judged c =
    refusal-carried _ _ _ _ _ _ c.from_residual-in_err-contracts.ensures.1 c.in_err-contracts.ensures
    (λ reason some. own_fault (scope_at c.args.sources.now c.args.file) c.args.method.now c.in_ok-code.code reason c.in_ok-code.ensures.judged.1 some)
