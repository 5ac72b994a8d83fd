-- Code has its kinds or its fault, once.
use Rattle.std.proofs.Common.{◌≡◌, ℕ, zero, suc, ◌+◌, ◌-◌, List, Result, Ok, Err, refl, sym, ap, ◌∙◌, arith, inl, inr}
use Rattle.std.proofs.lemmas.Bool.{cases_lt}
use Rattle.cil_model.specs.Passes.{Stacks, after_pass, after_passes, KindsOf, HasTypeFault}
use Rattle.cil_model.specs.declared.instruction.Instr.{Instr}
use Rattle.cil_model.specs.declared.shape.Shape.{Shape}
use Rattle.cil_model.specs.declared.type_fault.TypeFault.{TypeFault}

-- After some passes this is the answer, and further ones do not change it.
record IsLast (shape : Shape) (is : List Instr) (answer : Result Stacks TypeFault) : Type 0 where
  passes : ℕ
  comes : after_passes shape is passes ≡ answer
  stays : after_pass shape is answer ≡ answer

stays_on : (shape : Shape) (is : List Instr) (answer : Result Stacks TypeFault) (n k : ℕ) → after_passes shape is n ≡ answer → after_pass shape is answer ≡ answer
    → after_passes shape is (k + n) ≡ answer
stays_on shape is answer n zero comes stays =
    let e : 0 + n ≡ n = omega arith in
    ap (after_passes shape is) e ∙ comes
stays_on shape is answer n (suc k) comes stays =
    let e : suc k + n ≡ suc (k + n) = omega arith in
    ap (after_passes shape is) e ∙ ap (after_pass shape is) (stays_on shape is answer n k comes stays) ∙ stays

last_once : (shape : Shape) (is : List Instr) (a b : Result Stacks TypeFault) → IsLast shape is a → IsLast shape is b → a ≡ b
last_once shape is a b p q =
    elim (cases_lt p.passes q.passes) [
      | inl less ↦
          let e : (q.passes - p.passes) + p.passes ≡ q.passes = omega arith in
          sym (stays_on shape is a p.passes (q.passes - p.passes) p.comes p.stays) ∙ ap (after_passes shape is) e ∙ q.comes
      | inr more ↦
          let e : (p.passes - q.passes) + q.passes ≡ p.passes = omega arith in
          sym p.comes ∙ ap (after_passes shape is) (sym e) ∙ stays_on shape is b q.passes (p.passes - q.passes) q.comes q.stays
    ]

kinds_last : (shape : Shape) (is : List Instr) (stacks : Stacks) → KindsOf shape is stacks → IsLast shape is (Ok stacks)
kinds_last shape is stacks k = record { passes = k.passes; comes = k.brought; stays = k.settled }

fault_last : (shape : Shape) (is : List Instr) (fault : TypeFault) → HasTypeFault shape is fault → IsLast shape is (Err fault)
fault_last shape is fault h = record { passes = h.passes; comes = h.met; stays = refl }

pub kinds_once : (shape : Shape) (is : List Instr) (a b : Stacks) → KindsOf shape is a → KindsOf shape is b → a ≡ b
kinds_once shape is a b p q = let e = last_once shape is (Ok a) (Ok b) (kinds_last shape is a p) (kinds_last shape is b q) in cc

pub fault_once : (shape : Shape) (is : List Instr) (a b : TypeFault) → HasTypeFault shape is a → HasTypeFault shape is b → a ≡ b
fault_once shape is a b p q = let e = last_once shape is (Err a) (Err b) (fault_last shape is a p) (fault_last shape is b q) in cc

-- Code with kinds has no fault.
pub not_both : (shape : Shape) (is : List Instr) (stacks : Stacks) (fault : TypeFault) → KindsOf shape is stacks → HasTypeFault shape is fault → ⊥
not_both shape is stacks fault p q = let e = last_once shape is (Ok stacks) (Err fault) (kinds_last shape is stacks p) (fault_last shape is fault q) in cc
