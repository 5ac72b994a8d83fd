-- What settled kinds are at an instruction: its operands are typed, and what it leaves changes nothing where it goes.
use Rattle.std.proofs.Common.{◌≡◌, ℕ, ◌+◌, ◌==◌, Bool, true, false, ◌&&◌, ◌||◌, not, nat_lt, List, [], ◌∷◌, length, Option, Some, None, is_some, Result, Ok, Err, if◌then◌else◌, refl, sym, ap, subst, ◌∙◌, arith}
use Rattle.std.specs.List.{AllByRecursion}
use Rattle.std.specs.Option.{option_or}
use Rattle.std.proofs.lemmas.Bool.{cond_both, eqb-true, false≢true}
use Rattle.std.proofs.lemmas.Option.{none-some, same_Some}
use Rattle.cil_model.specs.Blocks.{branch_targets}
use Rattle.cil_model.specs.Code.{begins_at}
use Rattle.cil_model.specs.FitKinds.{AreDecoded}
use Rattle.cil_model.specs.Kinds.{behind, operand_count, typed, within_size}
use Rattle.cil_model.specs.Passes.{KindsOf, Stacks, arrived, come_to, conflicts, follow, goes_behind, lowest_conflict, merged, stack_at, successors, visited}
use Rattle.cil_model.specs.Runs.{instr_at}
use Rattle.cil_model.specs.declared.instruction.Instr.{Instr}
use Rattle.cil_model.specs.declared.instruction.Op.{Op}
use Rattle.cil_model.specs.declared.instruction.Op.TheVariants as ops
use Rattle.cil_model.specs.declared.instruction.Test.TheVariants as tests
use Rattle.cil_model.specs.declared.place.Kind.{Kind}
use Rattle.cil_model.specs.declared.shape.Shape.{Shape}
use Rattle.cil_model.specs.declared.type_fault.TypeFault.{TypeFault}
use Rattle.cil_model.specs.declared.type_fault.TypeFault.TheVariants.{Underflow}
use Rattle.cil_model.proofs.KindsGrow.{come_to_each, follow_from, stacks_long, visit_each}
use Rattle.cil_model.proofs.Lists.{all_append, of_found}

-- A stack stays what it is when this one comes to it.
pub record Absorbs (before : Option (List Kind)) (stack : List Kind) : Type 0 where
  pub kinds : List Kind
  pub reached : before ≡ Some kinds
  pub merge : merged kinds stack ≡ Some kinds

-- ---- where a stack comes to

absorbs : (before : Option (List Kind)) (stack : List Kind) (others : Stacks) → option_or (arrived before stack) before ∷ others ≡ before ∷ others
    → not (is_some (arrived before stack)) ≡ false → Absorbs before stack
absorbs None stack others same merges = absurd cc
absorbs (Some kinds) stack others same merges = by (merged kinds stack) refl same merges
  where
    by : (new : Option (List Kind)) → merged kinds stack ≡ new → option_or new (Some kinds) ∷ others ≡ Some kinds ∷ others → not (is_some new) ≡ false
        → Absorbs (Some kinds) stack
    by None is same merges = absurd cc
    by (Some c) is same merges = let e : c ≡ kinds = cc in record { kinds = kinds; reached = refl; merge = is ∙ ap Some e }

absorbed : (is : List Instr) (stacks : Stacks) (stack : List Kind) (at : ℕ) → length stacks ≡ length is → begins_at is at ≡ true
    → come_to is stacks at stack ≡ stacks → conflicts is stacks stack at ≡ false → Absorbs (stack_at is stacks at) stack
absorbed [] stacks stack at long begins same merges = absurd (false≢true begins)
absorbed (i ∷ is) [] stack at long begins same merges = absurd (let lengths : 0 ≡ length (i ∷ is) = long in omega arith)
absorbed (i ∷ is) (before ∷ stacks) stack at long begins same merges =
    let rest : length stacks ≡ length is = (let lengths : length (before ∷ stacks) ≡ length (i ∷ is) = long in omega arith) in
    by (i.at == at) (λ begins same merges. absorbed is stacks stack at rest begins same merges) begins same merges
  where
    by : (here : Bool)
        → (begins_at is at ≡ true → come_to is stacks at stack ≡ stacks → conflicts is stacks stack at ≡ false → Absorbs (stack_at is stacks at) stack)
        → (here || begins_at is at) ≡ true
        → (if here then option_or (arrived before stack) before ∷ stacks else before ∷ come_to is stacks at stack) ≡ before ∷ stacks
        → not (is_some (arrived (if here then before else stack_at is stacks at) stack)) ≡ false
        → Absorbs (if here then before else stack_at is stacks at) stack
    by true later begins same merges = absorbs before stack stacks same merges
    by false later begins same merges = later begins (cc) merges

no_conflicts : (is : List Instr) (stacks : Stacks) (stack : List Kind) (ats : List ℕ) → lowest_conflict is stacks stack ats ≡ None
    → AllByRecursion (λ at. conflicts is stacks stack at ≡ false) ats
no_conflicts is stacks stack [] none = tt
no_conflicts is stacks stack (at ∷ ats) none =
    cond_both (conflicts is stacks stack at) _ _
    (λ (lowest : Option ℕ). lowest ≡ None → (conflicts is stacks stack at ≡ false) × AllByRecursion (λ at. conflicts is stacks stack at ≡ false) ats)
    (λ yes e. absurd cc) (λ no e. (no, no_conflicts is stacks stack ats e)) none

each_absorbs : (is : List Instr) (stacks : Stacks) (stack : List Kind) (ats : List ℕ) → length stacks ≡ length is
    → AllByRecursion (λ at. begins_at is at ≡ true) ats → AllByRecursion (λ at. come_to is stacks at stack ≡ stacks) ats
    → AllByRecursion (λ at. conflicts is stacks stack at ≡ false) ats → AllByRecursion (λ at. Absorbs (stack_at is stacks at) stack) ats
each_absorbs is stacks stack [] long begin same merge = tt
each_absorbs is stacks stack (at ∷ ats) long begin same merge =
    (absorbed is stacks stack at long begin.0 same.0 merge.0, each_absorbs is stacks stack ats long begin.1 same.1 merge.1)

-- ---- successors

goes_behind-begins : (behind begins : Bool) → behind ≡ true → (behind && not begins) ≡ false → begins ≡ true
goes_behind-begins true true goes e = refl
goes_behind-begins true false goes e = absurd cc
goes_behind-begins false begins goes e = absurd cc

-- An instruction begins wherever one goes on.
successors_begin : (is : List Instr) (op : Op) (next : ℕ) → (goes_behind op && not (begins_at is next)) ≡ false
    → AllByRecursion (λ at. begins_at is at ≡ true) (branch_targets op) → AllByRecursion (λ at. begins_at is at ≡ true) (successors op next)
successors_begin is ops.Return next behind targets = tt
successors_begin is (ops.Branch tests.Always target) next behind targets = targets
successors_begin is (ops.Branch test target) next behind targets = (targets.0, (goes_behind-begins true (begins_at is next) refl behind, tt))
successors_begin is (ops.Switch ats) next behind targets =
    all_append (λ at. begins_at is at ≡ true) ats (next ∷ []) targets (goes_behind-begins true (begins_at is next) refl behind, tt)
successors_begin is _ next behind targets = (goes_behind-begins true (begins_at is next) refl behind, tt)

-- ---- an instruction

-- The instruction finds operands of kinds that it takes, and what it leaves is absorbed wherever it goes on.
pub record Settled (shape : Shape) (is : List Instr) (stacks : Stacks) (i : Instr) (before : List Kind) : Type 0 where
  pub after : List Kind
  pub typed : behind shape i.op before ≡ Some after
  pub onward : AllByRecursion (λ at. Absorbs (stack_at is stacks at) after) (successors i.op (i.at + i.size))

within_size-some : (shape : Shape) (at : ℕ) (stack : Option (List Kind)) (after : List Kind) → within_size shape at stack ≡ Ok after
    → stack ≡ Some after
within_size-some shape at None after e = absurd cc
within_size-some shape at (Some stack) after e =
    cond_both (nat_lt shape.max_stack (length stack)) _ _ (λ (r : Result (List Kind) TypeFault). r ≡ Ok after → Some stack ≡ Some after)
    (λ deep f. absurd cc) (λ fits f. cc) e

abbrev refused : TypeFault → Result (List Kind) TypeFault
refused fault = Err fault

refused_typed : (fault : TypeFault) (after : List Kind) → refused fault ≡ Ok after → ⊥
refused_typed fault after e = cc

typed-some : (shape : Shape) (i : Instr) (stack after : List Kind) → typed shape i stack ≡ Ok after → behind shape i.op stack ≡ Some after
typed-some shape i stack after e =
    cond_both (nat_lt (length stack) (operand_count shape i.op)) _ _
    (λ (r : Result (List Kind) TypeFault). r ≡ Ok after → behind shape i.op stack ≡ Some after)
    (λ lacks f. absurd (refused_typed (Underflow i.at) after f)) (λ has f. within_size-some shape i.at (behind shape i.op stack) after f) e

followed : (shape : Shape) (is : List Instr) (stacks : Stacks) (i : Instr) (before : List Kind) (outcome : Result (List Kind) TypeFault)
    → length stacks ≡ length is → AllByRecursion (λ at. begins_at is at ≡ true) (branch_targets i.op)
    → outcome ≡ typed shape i before → follow is stacks i outcome ≡ Ok stacks → Settled shape is stacks i before
followed shape is stacks i before (Err fault) long targets typed e = absurd cc
followed shape is stacks i before (Ok after) long targets typed e =
    let f = follow_from is stacks stacks i after e in
    let ats = successors i.op (i.at + i.size) in
    record {
      after = after;
      typed = typed-some shape i before after (sym typed);
      onward =
          each_absorbs is stacks after ats long (successors_begin is i.op (i.at + i.size) f.behind targets) (come_to_each is stacks after ats f.comes)
          (no_conflicts is stacks after ats f.merge);
    }

pub found_at : (is : List Instr) (at : ℕ) (i : Instr) → instr_at is at ≡ Some i → i.at ≡ at
found_at [] at i e = absurd (none-some i e)
found_at (j ∷ is) at i e =
    cond_both (j.at == at) _ _ (λ (found : Option Instr). found ≡ Some i → i.at ≡ at)
    (λ here f. ap (λ (k : Instr). k.at) (sym (same_Some j i f)) ∙ eqb-true j.at at here) (λ later f. found_at is at i f) e

-- Settled kinds are settled at each instruction that they reach.
pub settled : (shape : Shape) (is : List Instr) (stacks : Stacks) (at : ℕ) (i : Instr) (before : List Kind) → AreDecoded is → KindsOf shape is stacks
    → instr_at is at ≡ Some i → stack_at is stacks at ≡ Some before → Settled shape is stacks i before
settled shape is stacks at i before decoded kinds found reached =
    let each = visit_each shape is is stacks kinds.settled in
    let visit = of_found (λ j. visited shape is stacks j (stack_at is stacks j.at) ≡ Ok stacks) is at i each found in
    let here : stack_at is stacks i.at ≡ Some before = ap (stack_at is stacks) (found_at is at i found) ∙ reached in
    let targets = of_found (λ j. AllByRecursion (λ at. begins_at is at ≡ true) (branch_targets j.op)) is at i decoded.targets found in
    followed shape is stacks i before (typed shape i before) (stacks_long shape is kinds.passes stacks kinds.brought) targets refl
    (subst (λ (stack : Option (List Kind)). visited shape is stacks i stack ≡ Ok stacks) here visit)

-- Where a stack stands, an instruction does.
pub reached_begins : (is : List Instr) (stacks : Stacks) (at : ℕ) (kinds : List Kind) → stack_at is stacks at ≡ Some kinds
    → (i : Instr) × (instr_at is at ≡ Some i)
reached_begins [] stacks at kinds e = absurd (none-some kinds e)
reached_begins (i ∷ is) [] at kinds e = absurd (none-some kinds e)
reached_begins (i ∷ is) (stack ∷ stacks) at kinds e = by (i.at == at) (reached_begins is stacks at kinds) e
  where
    by : (here : Bool) → (stack_at is stacks at ≡ Some kinds → (j : Instr) × (instr_at is at ≡ Some j))
        → (if here then stack else stack_at is stacks at) ≡ Some kinds
        → (j : Instr) × ((if here then Some i else instr_at is at) ≡ Some j)
    by true later e = (i, refl)
    by false later e = later e
