-- What a part refuses, the whole refuses.
use Rattle.std.proofs.Common.{◌≡◌, Result, Ok, Err}
use Rattle.std.specs.Result.{IsErrAnd}
use Rattle.cc_base.specs.declared.refusal.Refusal.{Refusal}
use Rattle.cc_base.specs.declared.refusal.Refusal.TheVariants.{Bad, NoMemory}
use Rattle.cil_model.specs.declared.type_fault.TypeFault.{TypeFault}
use Rattle.stack_typer.specs.Answers.{Leaves, IfFault}

pub refusal_carried : {A X Y : Type 0} (Z : Type 0) (r : Result A (Refusal TypeFault)) (refusal : Refusal TypeFault) (part : Result X TypeFault) (whole : Result Y TypeFault) (left : X) (now : Y)
    → IsErrAnd r (λ same. same ≡ refusal) → Leaves {A = Z} (Err refusal) part left → ((fault : TypeFault) → part ≡ Err fault → whole ≡ Err fault) → Leaves r whole now
refusal_carried Z (Ok a) refusal part whole left now is leaves carried = elim is [ ]
refusal_carried Z (Err same) (Bad fault) part whole left now is leaves carried = rw is (carried fault leaves)
refusal_carried Z (Err same) NoMemory part whole left now is leaves carried = rw is tt

pub fault_carried : {A X : Type 0} (Z : Type 0) (r : Result A (Refusal TypeFault)) (refusal : Refusal TypeFault) (part : Result X TypeFault) (left : X) (Has : TypeFault → Type 0)
    → IsErrAnd r (λ same. same ≡ refusal) → Leaves {A = Z} (Err refusal) part left → ((fault : TypeFault) → part ≡ Err fault → Has fault) → IfFault r Has
fault_carried Z (Ok a) refusal part left Has is leaves carried = elim is [ ]
fault_carried Z (Err same) (Bad fault) part left Has is leaves carried = rw is (carried fault leaves)
fault_carried Z (Err same) NoMemory part left Has is leaves carried = rw is tt
