-- What an answer tells that is the kinds of the code or its fault.
use Rattle.std.proofs.Common.{◌≡◌, List, length, Result, Ok, Err}
use Rattle.std.specs.Prelude.{IfOk}
use Rattle.cc_base.specs.Tests.{JudgesOrNoMemory, GivesOnly, RefusesOnly}
use Rattle.cc_base.specs.declared.refusal.Refusal.{Refusal}
use Rattle.cc_base.specs.declared.refusal.Refusal.TheVariants.{Bad, NoMemory}
use Rattle.cil_model.specs.FitKinds.{AreDecoded, TypedCodeSteps}
use Rattle.cil_model.specs.Passes.{Stacks, KindsOf, HasTypeFault}
use Rattle.cil_model.specs.declared.instruction.Instr.{Instr}
use Rattle.cil_model.specs.declared.shape.Shape.{Shape}
use Rattle.cil_model.specs.declared.type_fault.TypeFault.{TypeFault}
use Rattle.cil_model.proofs.TypedCode.{typed_code_steps}
use Rattle.stack_typer.specs.Answers.{IfFault}
use Rattle.stack_typer.specs.FirstTypeFault.{first_type_fault}
use Rattle.stack_typer.proofs.Lengths.{kinds-length}
use Rattle.stack_typer.proofs.Settling.{kinds_no_fault, fault_is_first}
use Rattle.stack_typer.proofs.Unique.{kinds_once, fault_once, not_both}

module _ (shape : Shape) (is : List Instr) where
  pub answer_only : (r : Result Stacks (Refusal TypeFault)) → IfOk r (KindsOf shape is) → IfFault r (HasTypeFault shape is) → (stacks : Stacks)
      → KindsOf shape is stacks → GivesOnly r (λ kinds. kinds ≡ stacks)
  answer_only (Ok kinds) ok err stacks are = kinds_once shape is kinds stacks ok are
  answer_only (Err (Bad fault)) ok err stacks are = not_both shape is stacks fault are err
  answer_only (Err NoMemory) ok err stacks are = tt

  pub answer_fault : (r : Result Stacks (Refusal TypeFault)) → IfOk r (KindsOf shape is) → IfFault r (HasTypeFault shape is) → (fault : TypeFault)
      → HasTypeFault shape is fault → RefusesOnly r (λ given. given ≡ fault)
  answer_fault (Ok kinds) ok err fault has = not_both shape is kinds fault ok has
  answer_fault (Err (Bad given)) ok err fault has = fault_once shape is given fault err has
  answer_fault (Err NoMemory) ok err fault has = tt

  pub answer_judged : (r : Result Stacks (Refusal TypeFault)) → IfOk r (KindsOf shape is) → IfFault r (HasTypeFault shape is)
      → JudgesOrNoMemory r (first_type_fault is shape) (KindsOf shape is)
  answer_judged (Ok kinds) ok err = (kinds_no_fault shape is kinds ok, ok)
  answer_judged (Err (Bad fault)) ok err = fault_is_first shape is fault err
  answer_judged (Err NoMemory) ok err = tt

  pub answer_count : (r : Result Stacks (Refusal TypeFault)) → IfOk r (KindsOf shape is) → IfOk r (λ kinds. length kinds ≡ length is)
  answer_count (Ok kinds) ok = kinds-length shape is kinds ok
  answer_count (Err refusal) ok = tt

  pub answer_steps : (r : Result Stacks (Refusal TypeFault)) → IfOk r (KindsOf shape is) → IfOk r (λ kinds. AreDecoded is → TypedCodeSteps shape is kinds)
  answer_steps (Ok kinds) ok = λ decoded. typed_code_steps shape is kinds decoded ok
  answer_steps (Err refusal) ok = tt

pub ruleset answered = (answer_count, answer_steps)
