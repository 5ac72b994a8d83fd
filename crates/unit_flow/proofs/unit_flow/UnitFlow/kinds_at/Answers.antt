use Rattle.cil_model.proofs.OffsetSearch.{laid_rise}
use Rattle.stack_typer.proofs.CodeLies.{code_lies}
use Rattle.unit_flow.proofs.Slicing.{no_kinds, some_kinds}
use Rattle.unit_flow.proofs.unit_flow.UnitFlow.kinds_at.Goals as goal

pub index_of-requires : goal.index_of-requires
index_of-requires c =
    rw c.as_slice-2.ensures
    (record {
      rise = laid_rise c.args.self.now.unit.instrs
          (code_lies c.args.self.now.unit.instrs c.args.self.now.unit.code c.requires.lawful.formed.code);
    })

pub returns-in-None : goal.returns-in-None
returns-in-None c =
    no_kinds c.args.self.now c.args.block c.as_slice.result.now c.as_slice-2.result.now
    c.as_slice.ensures c.as_slice-2.ensures c.in-None.ensures.begins

pub returns-in-Some : goal.returns-in-Some
returns-in-Some c =
    some_kinds c.args.self.now c.args.block c.as_slice.result.now c.as_slice-2.result.now
    c.as_slice.ensures c.as_slice-2.ensures _ _
    (rw c.as_slice-2.ensures
    (code_lies c.args.self.now.unit.instrs c.args.self.now.unit.code c.requires.lawful.formed.code)) c.in-Some.ensures.begins
    c.before-in-Some.ensures
