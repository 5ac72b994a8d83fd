-- The instructions so far were passed.
use Rattle.contract_extract.specs.Extracting.{ArePassed}
use Rattle.contract_extract.proofs.block.read_clauses.Given as goal

abbrev pub invariant-loop-index : goal.invariant-loop-index
invariant-loop-index l = ArePassed l.instrs l.shape l.block.clauses.items l.block.old_values l.block.first l.block.start l.index
