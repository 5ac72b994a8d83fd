use Rattle.std.proofs.Common.{Option, Some, option_map, sym, ap, subst, ◌∙◌, arith}
use Rattle.cil_model.specs.ClauseTrees.{closing}
use Rattle.cil_model.specs.declared.instruction.Instr.{Instr}
use Rattle.clause_faults.specs.declared.clause_fault.ClauseFault.TheVariants.{TooLong}
use Rattle.contract_extract.specs.Extracting.{ReadWithin, closed_kind}
use Rattle.contract_extract.specs.declared.read_clause.ReadClause.{ReadClause}
use Rattle.contract_extract.proofs.BlockLemmas.Closing.{clause_closed, end_closed, fault_in_size, few_olds, has_a_tree, met}
use Rattle.contract_extract.proofs.block.Block.add_clause.Goals as goal

pub returns-in_default : goal.returns-in_default
returns-in_default c =
    let call = c.index-instrs-last.is ∙ met c.args.instrs.now c.args.shape.now c.args.self.now.clauses.items c.args.self.now.old_values c.args.self.now.first c.args.self.now.start c.args.last c.requires.lie c.requires.left c.requires.closing _ in
    let kind = sym (c.in_default.ensures ∙ ap (λ (i : Instr). closed_kind (closing i.op)) call) in
    end_closed c.args.instrs.now c.args.shape.now c.args.self.now.clauses.items c.args.self.now.old_values c.args.self.now.first c.args.self.now.start c.args.last c.requires.lie c.requires.left c.requires.closing c.requires.clean kind

pub read_within-requires-clause-has_tree : goal.read_within-requires-clause-has_tree
read_within-requires-clause-has_tree c =
    let call = c.index-instrs-last.is ∙ met c.args.instrs.now c.args.shape.now c.args.self.now.clauses.items c.args.self.now.old_values c.args.self.now.first c.args.self.now.start c.args.last c.requires.lie c.requires.left c.requires.closing _ in
    let kind = sym (c.in-Some.ensures ∙ ap (λ (i : Instr). closed_kind (closing i.op)) call) in
    has_a_tree c.args.instrs.now c.args.shape.now c.args.self.now.clauses.items c.args.self.now.old_values c.args.self.now.first c.args.self.now.start c.args.last c.requires.lie c.requires.left c.requires.closing c.requires.clean c.requires.targets c.in-Some.kind kind

pub returns-in_default-2 : goal.returns-in_default-2
returns-in_default-2 c =
    let call = c.index-instrs-last.is ∙ met c.args.instrs.now c.args.shape.now c.args.self.now.clauses.items c.args.self.now.old_values c.args.self.now.first c.args.self.now.start c.args.last c.requires.lie c.requires.left c.requires.closing _ in
    let kind = sym (c.in-Some.ensures ∙ ap (λ (i : Instr). closed_kind (closing i.op)) call) in
    let large = subst (λ (o : Option ReadClause). ReadWithin c.args.instrs.now c.args.self.now.start c.args.self.now.clauses.items c.in-Some.kind (option_map (λ clause. (clause.tree, clause.old_values)) o)) c.in_default-2.is c.in_ok-read.ensures in
    rw c.into.ensures
    (fault_in_size c.args.instrs.now c.args.shape.now c.args.self.now.clauses.items c.args.self.now.old_values c.args.self.now.first c.args.self.now.start c.args.last c.requires.lie c.requires.left c.requires.closing c.requires.clean c.in-Some.kind kind large ∙ ap (λ (i : Instr). Some (TooLong i.at)) (sym call))

pub overflow_add-self : goal.overflow_add-self
overflow_add-self c =
    let read = subst (λ (o : Option ReadClause). ReadWithin c.args.instrs.now c.args.self.now.start c.args.self.now.clauses.items c.in-Some.kind (option_map (λ clause. (clause.tree, clause.old_values)) o)) c.in-Some-2.is c.in_ok-read.ensures in
    let few = few_olds c.args.instrs.now c.args.self.now.start c.args.self.now.clauses.items c.args.self.now.old_values c.in-Some.kind c.in-Some-2.read.tree c.in-Some-2.read.old_values c.requires.left.within c.requires.left.counted read in
    omega (arith, few)

pub returns : goal.returns
returns c =
    let call = c.index-instrs-last.is ∙ met c.args.instrs.now c.args.shape.now c.args.self.now.clauses.items c.args.self.now.old_values c.args.self.now.first c.args.self.now.start c.args.last c.requires.lie c.requires.left c.requires.closing _ in
    let kind = sym (c.in-Some.ensures ∙ ap (λ (i : Instr). closed_kind (closing i.op)) call) in
    let read = subst (λ (o : Option ReadClause). ReadWithin c.args.instrs.now c.args.self.now.start c.args.self.now.clauses.items c.in-Some.kind (option_map (λ clause. (clause.tree, clause.old_values)) o)) c.in-Some-2.is c.in_ok-read.ensures in
    rw c.in_ok-push.ensures.items
    (clause_closed c.args.instrs.now c.args.shape.now c.args.self.now.clauses.items c.args.self.now.old_values c.args.self.now.first c.args.self.now.start c.args.last c.requires.lie c.requires.left c.requires.closing c.requires.clean c.in-Some.kind c.in-Some-2.read.tree c.in-Some-2.read.old_values kind read)
