use Rattle.std.proofs.Common.{Result, ap, ap₂, sym, ◌∙◌}
use Rattle.clause_faults.specs.declared.clause_fault.ClauseFault.{ClauseFault}
use Rattle.contract_extract.specs.declared.contracts.Contracts.{Contracts}
use Rattle.method_code.specs.Reading.{with_instrs}
use Rattle.method_code.proofs.ReadCodes.{clauses_if, clauses_known}
use Rattle.method_code.proofs.code_reader.MethodCode.clauses.Goals.{in_default-via-in-Ok+else-self, in_default-via-in_default}
use Rattle.method_code.proofs.code_reader.MethodCode.clauses.Goals as goal

pub returns-in-Ok : goal.returns-in-Ok
returns-in-Ok c =
    record {
      known = λ meaning asm method instrs of.
          c.as_slice.ensures ∙ (sym (ap₂ clauses_if c.in-Ok.is c.if-self.true) ∙ clauses_known meaning asm method (with_instrs instrs c.args.self.now) of);
    }

pub returns-in_default : goal.returns-in_default
returns-in_default c =
    record {
      known = λ meaning asm method instrs of.
          elim c.in_default.branch [
            | in_default-via-in-Ok+else-self w ↦ sym (ap₂ clauses_if w.in-Ok.is w.if-self.false) ∙ clauses_known meaning asm method (with_instrs instrs c.args.self.now) of
            | in_default-via-in_default w ↦
                sym (ap (λ (contracts : Result Contracts ClauseFault). clauses_if contracts c.args.self.now.are_numbers) w.in_default.is) ∙ clauses_known meaning asm method (with_instrs instrs c.args.self.now) of
          ];
    }
