-- There are as many stacks as instructions.
use Rattle.std.proofs.Common.{◌≡◌, ℕ, zero, suc, ◌+◌, ◌==◌, Bool, true, false, List, [], ◌∷◌, length, map, Option, Some, None, Result, Ok, Err, if◌then◌else◌, refl, sym, ap, ◌∙◌}
use Rattle.std.proofs.lemmas.List.{length-map}
use Rattle.cil_model.specs.Passes.{Stacks, successors, stack_at, come_to, come_to_all, visited, pass_over, first_stacks, after_pass, after_passes, KindsOf}
use Rattle.cil_model.specs.declared.instruction.Instr.{Instr}
use Rattle.cil_model.specs.declared.place.Kind.{Kind}
use Rattle.cil_model.specs.declared.shape.Shape.{Shape}
use Rattle.cil_model.specs.declared.type_fault.TypeFault.{TypeFault}
use Rattle.stack_typer.proofs.Falling.{joined}
use Rattle.stack_typer.proofs.StepParts.{step_parts, pass_parts}

come-length : (is : List Instr) (stacks : Stacks) (at : ℕ) (stack : List Kind) → length (come_to is stacks at stack) ≡ length stacks
come-length [] stacks at stack = refl
come-length (i ∷ is) [] at stack = refl
come-length (i ∷ is) (before ∷ stacks) at stack = by_test (come-length is stacks at stack) (i.at == at)
  where
    by_test : length (come_to is stacks at stack) ≡ length stacks → (here : Bool) → length (if here then joined before stack ∷ stacks else before ∷ come_to is stacks at stack) ≡ length (before ∷ stacks)
    by_test others true = refl
    by_test others false = ap suc others

come_all-length : (is : List Instr) (stacks : Stacks) (stack : List Kind) (ats : List ℕ) → length (come_to_all is stacks stack ats) ≡ length stacks
come_all-length is stacks stack [] = refl
come_all-length is stacks stack (at ∷ ats) = come_all-length is (come_to is stacks at stack) stack ats ∙ come-length is stacks at stack

visit-length : (shape : Shape) (is : List Instr) (stacks : Stacks) (i : Instr) (before : Option (List Kind)) (now : Stacks) → visited shape is stacks i before ≡ Ok now → length now ≡ length stacks
visit-length shape is stacks i None now e = ap length (let same : now ≡ stacks = cc in same)
visit-length shape is stacks i (Some before) now e =
    let s = step_parts shape is stacks i before now e in
    ap length (sym s.follows.come) ∙ come_all-length is stacks s.after (successors i.op (i.at + i.size))

pass-length : (shape : Shape) (is rest : List Instr) (stacks now : Stacks) → pass_over shape is rest (Ok stacks) ≡ Ok now → length now ≡ length stacks
pass-length shape is [] stacks now e = ap length (let same : now ≡ stacks = cc in same)
pass-length shape is (i ∷ rest) stacks now e =
    let p = pass_parts shape is rest stacks now i e in
    pass-length shape is rest p.mid now p.others ∙ visit-length shape is stacks i (stack_at is stacks i.at) p.mid p.first

first-length : (is : List Instr) (stacks : Stacks) → first_stacks is ≡ Ok stacks → length stacks ≡ length is
first-length [] stacks e = absurd (cc)
first-length (i ∷ is) stacks e =
    let same : stacks ≡ Some [] ∷ map (λ other. None) is = cc in
    ap length same ∙ ap suc (length-map is (λ other. None))

passes-length : (shape : Shape) (is : List Instr) (n : ℕ) (stacks : Stacks) → after_passes shape is n ≡ Ok stacks → length stacks ≡ length is
passes-length shape is zero stacks e = first-length is stacks e
passes-length shape is (suc n) stacks e = by_answer (passes-length shape is n) (after_passes shape is n) refl e
  where
    by_answer : ((before : Stacks) → after_passes shape is n ≡ Ok before → length before ≡ length is) → (answer : Result Stacks TypeFault) → after_passes shape is n ≡ answer → after_pass shape is answer ≡ Ok stacks → length stacks ≡ length is
    by_answer earlier (Err fault) same e = absurd (cc)
    by_answer earlier (Ok before) same e = pass-length shape is is before stacks e ∙ earlier before same

pub kinds-length : (shape : Shape) (is : List Instr) (stacks : Stacks) → KindsOf shape is stacks → length stacks ≡ length is
kinds-length shape is stacks k = passes-length shape is k.passes stacks k.brought
