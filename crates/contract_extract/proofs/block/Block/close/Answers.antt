use Rattle.std.proofs.Common.{◌+◌, refl, sym, subst, ◌∙◌}
use Rattle.cil_model.specs.declared.instruction.Instr.{Instr}
use Rattle.contract_extract.specs.Extracting.{BlockLeft}
use Rattle.contract_extract.proofs.BlockLemmas.Closing.{clause_code, fault_in_code, goes_carried, met}
use Rattle.contract_extract.proofs.block.Block.close.Goals as goal

pub check_clause-requires : goal.check_clause-requires
check_clause-requires c = clause_code c.args.instrs.now c.args.shape.now c.args.self.now.clauses.items c.args.self.now.old_values c.args.self.now.first c.args.self.now.start c.args.last c.requires.lie c.requires.left c.requires.closing

pub returns-in_err-check_clause : goal.returns-in_err-check_clause
returns-in_err-check_clause c =
    goes_carried _ _ _ _ _ _ c.from_residual.ensures.1 c.in_err-check_clause.ensures (fault_in_code c.args.instrs.now c.args.shape.now c.args.self.now.clauses.items c.args.self.now.old_values c.args.self.now.first c.args.self.now.start c.args.last c.requires.lie c.requires.left c.requires.closing)

pub returns : goal.returns
returns c =
    let call = c.index-instrs-last.is ∙ met c.args.instrs.now c.args.shape.now c.args.self.now.clauses.items c.args.self.now.old_values c.args.self.now.first c.args.self.now.start c.args.last c.requires.lie c.requires.left c.requires.closing _ in
    let left = c.in_ok-add_clause.ensures c.requires.closing.call c.requires.closing.there in
    (subst (λ (i : Instr). BlockLeft c.args.instrs.now c.args.shape.now c.add_clause.new.self.clauses.items c.add_clause.new.self.old_values (c.args.last + 1) (i.at + i.size)) (sym call) left, refl)
