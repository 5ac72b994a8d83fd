use Rattle.cc_base.proofs.TestLemmas.{refusal-carried}
use Rattle.unit_builder.proofs.TestParts.{own_first}
use Rattle.unit_builder.specs.Sources.{scope_at}
use Rattle.unit_builder.proofs.units.parts_at.Goals as goal

pub returns-in_err-own-clause-judged : goal.returns-in_err-own-clause-judged
returns-in_err-own-clause-judged c =
    refusal-carried _ _ _ _ _ _ c.from_residual-in_err-own.ensures.1 c.in_err-own.ensures.judged
    (λ reason some. own_first (scope_at c.args.sources.now c.args.file) c.args.method.now reason c.in_ok-signature.ensures.0 c.in_ok-variables.ensures.judged.0 some)
