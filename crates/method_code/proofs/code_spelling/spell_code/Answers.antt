use Rattle.std.proofs.Common.{ℕ, List, [], ◌≡◌, ◌++◌, length, drop, append-nil, sym, ap, ◌∙◌, subst, arith}
use Rattle.std.proofs.Math.Seq.{drop-length}
use Rattle.cil_model.specs.Code.{CodeOf}
use Rattle.cil_model.specs.declared.instruction.Instr.{Instr}
use Rattle.method_code.specs.Numbering.{spelled_code}
use Rattle.method_code.proofs.NumberedCode.{IsSpelled, each_spelled, own_code}
use Rattle.method_code.proofs.code_spelling.spell_code.Goals as goal

pub spell-requires : goal.spell-requires
spell-requires c =
    record {
      spelled = subst IsSpelled (sym c.instr-item.is)
          (each_spelled c.args.instrs.now c.requires.spelled c.loop-instr.instr-index c.instr-item.result (omega (arith, c.loop-instr-test.true, c.loop-instr.auto.instr-index-end)));
    }

pub returns-clause-spelled : goal.returns-clause-spelled
returns-clause-spelled c =
    let last : c.loop-instr.instr-index ≡ length c.args.instrs.now = omega (arith, c.loop-instr-test.false, c.loop-instr.auto.instr-index-end) in
    let none : drop c.loop-instr.instr-index c.args.instrs.now ≡ [] = ap (λ (n : ℕ). drop n c.args.instrs.now) last ∙ drop-length c.args.instrs.now in
    let all : c.loop-instr.code.items ≡ spelled_code c.args.instrs.now =
    sym (append-nil c.loop-instr.code.items) ∙ ap (λ (is : List Instr). c.loop-instr.code.items ++ spelled_code is) (sym none) ∙ c.loop-instr.invariant in
    subst (CodeOf c.args.instrs.now) (sym all) (own_code c.args.instrs.now c.requires.spelled)
