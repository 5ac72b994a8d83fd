use Rattle.std.proofs.Common.{sym, ◌∙◌}
use Rattle.clause_faults.proofs.WayLemmas.Between.{read_faults, read_in}
use Rattle.clause_faults.proofs.clause_code.check_clause.Goals as goal

pub first_code_fault-requires : goal.first_code_fault-requires
first_code_fault-requires c = read_in c.args.instrs.now c.args.first c.args.last c.index-instrs-first.result c.index-instrs-last.result c.requires c.index-instrs-last.is

pub returns-in-Some : goal.returns-in-Some
returns-in-Some c =
    read_faults c.args.instrs.now c.args.first c.args.last c.index-instrs-first.result c.index-instrs-last.result c.requires c.index-instrs-last.is c.args.shape.now
    ∙ sym c.in_ok-fault.ensures ∙ c.in-Some.is

pub returns-in-None : goal.returns-in-None
returns-in-None c = (
  read_faults c.args.instrs.now c.args.first c.args.last c.index-instrs-first.result c.index-instrs-last.result c.requires c.index-instrs-last.is c.args.shape.now
      ∙ sym c.in_ok-fault.ensures ∙ c.in-None.is,
  tt,
)
