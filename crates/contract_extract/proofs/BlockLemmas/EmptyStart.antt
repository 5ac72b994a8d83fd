-- Code that has kinds begins with an empty stack: the first instruction's is so before all passes, and no pass changes
-- it.
use Rattle.std.proofs.Common.{◌≡◌, ℕ, zero, suc, ◌+◌, ◌==◌, List, [], ◌∷◌, length, Option, Some, None, Result, Ok, Err, refl, ap, subst, ◌∙◌, arith}
use Rattle.std.specs.Option.{option_or}
use Rattle.std.proofs.lemmas.Bool.{cond_both, eq-eqb}
use Rattle.cil_model.specs.Kinds.{typed}
use Rattle.cil_model.specs.Passes.{KindsOf, Stacks, after_pass, after_passes, arrived, come_to, come_to_all, first_stacks, follow, pass_over, stack_at, successors, visited}
use Rattle.cil_model.specs.ShortCode.{LieFrom}
use Rattle.cil_model.specs.declared.instruction.Instr.{Instr}
use Rattle.cil_model.specs.declared.place.Kind.{Kind}
use Rattle.cil_model.specs.declared.shape.Shape.{Shape}
use Rattle.cil_model.specs.declared.type_fault.TypeFault.{TypeFault}
use Rattle.cil_model.proofs.KindsGrow.{follow_from, stacks_long}

-- The first stack is empty.
abbrev BeginEmpty : Stacks → Type 0
BeginEmpty [] = ⊥
BeginEmpty (stack ∷ stacks) = stack ≡ Some []

abbrev passed : Stacks → Result Stacks TypeFault
passed s = Ok s

same_stacks : (s t : Stacks) → passed s ≡ Ok t → s ≡ t
same_stacks s t e = cc

-- ---- what comes to it

stays_empty : (before : Option (List Kind)) (stack : List Kind) → before ≡ Some [] → option_or (arrived before stack) before ≡ Some []
stays_empty before stack e = ap (λ (b : Option (List Kind)). option_or (arrived b stack) b) e ∙ own stack
  where
    own : (stack : List Kind) → option_or (arrived (Some []) stack) (Some []) ≡ Some []
    own [] = refl
    own (kind ∷ stack) = refl

come_to_begins : (is : List Instr) (s : Stacks) (at : ℕ) (stack : List Kind) → BeginEmpty s → BeginEmpty (come_to is s at stack)
come_to_begins [] s at stack empty = empty
come_to_begins (i ∷ is) [] at stack empty = empty
come_to_begins (i ∷ is) (before ∷ s) at stack empty =
    cond_both (i.at == at) (option_or (arrived before stack) before ∷ s) (before ∷ come_to is s at stack) BeginEmpty (λ here. stays_empty before stack empty) (λ later. empty)

come_to_all_begins : (is : List Instr) (s : Stacks) (stack : List Kind) (ats : List ℕ) → BeginEmpty s → BeginEmpty (come_to_all is s stack ats)
come_to_all_begins is s stack [] empty = empty
come_to_all_begins is s stack (at ∷ ats) empty = come_to_all_begins is (come_to is s at stack) stack ats (come_to_begins is s at stack empty)

-- ---- passes

module _ (shape : Shape) (is : List Instr) where
  follow_begins : (s t : Stacks) (i : Instr) (stack : Result (List Kind) TypeFault) → follow is s i stack ≡ Ok t → BeginEmpty s → BeginEmpty t
  follow_begins s t i (Err fault) e empty = absurd cc
  follow_begins s t i (Ok stack) e empty =
      subst BeginEmpty (follow_from is s t i stack e).comes (come_to_all_begins is s stack (successors i.op (i.at + i.size)) empty)

  visited_begins : (s t : Stacks) (i : Instr) (before : Option (List Kind)) → visited shape is s i before ≡ Ok t → BeginEmpty s → BeginEmpty t
  visited_begins s t i None e empty = subst BeginEmpty (same_stacks s t e) empty
  visited_begins s t i (Some stack) e empty = follow_begins s t i (typed shape i stack) e empty

  no_pass : (rest : List Instr) (fault : TypeFault) (t : Stacks) → pass_over shape is rest (Err fault) ≡ Ok t → ⊥
  no_pass [] fault t e = cc
  no_pass (i ∷ rest) fault t e = cc

  pass_over_begins : (rest : List Instr) (s t : Stacks) → pass_over shape is rest (Ok s) ≡ Ok t → BeginEmpty s → BeginEmpty t
  pass_over_begins [] s t e empty = subst BeginEmpty (same_stacks s t e) empty
  pass_over_begins (i ∷ rest) s t e empty =
      by (visited shape is s i (stack_at is s i.at)) (λ mid. visited_begins s mid i (stack_at is s i.at)) (λ mid. pass_over_begins rest mid t) e
    where
      by : (r : Result Stacks TypeFault) → ((mid : Stacks) → r ≡ Ok mid → BeginEmpty s → BeginEmpty mid)
          → ((mid : Stacks) → pass_over shape is rest (Ok mid) ≡ Ok t → BeginEmpty mid → BeginEmpty t) → pass_over shape is rest r ≡ Ok t → BeginEmpty t
      by (Err fault) first others e = absurd (no_pass rest fault t e)
      by (Ok mid) first others e = others mid e (first mid refl empty)

  passes_begin : (n : ℕ) (s : Stacks) → after_passes shape is n ≡ Ok s → BeginEmpty s
  passes_begin zero s e = first is e
    where
      first : (js : List Instr) → first_stacks js ≡ Ok s → BeginEmpty s
      first [] e = absurd cc
      first (j ∷ js) e = subst BeginEmpty (same_stacks _ s e) refl
  passes_begin (suc n) s e = by (after_passes shape is n) (passes_begin n) e
    where
      by : (r : Result Stacks TypeFault) → ((mid : Stacks) → r ≡ Ok mid → BeginEmpty mid) → after_pass shape is r ≡ Ok s → BeginEmpty s
      by (Err fault) before e = absurd cc
      by (Ok mid) before e = pass_over_begins is mid s e (before mid refl)

first_is_empty : (is : List Instr) (stacks : Stacks) → LieFrom 0 is → length stacks ≡ length is → BeginEmpty stacks → stack_at is stacks 0 ≡ Some []
first_is_empty is [] lie long empty = absurd empty
first_is_empty [] (stack ∷ stacks) lie long empty = absurd (let lengths : length (stack ∷ stacks) ≡ 0 = long in omega arith)
first_is_empty (i ∷ is) (stack ∷ stacks) lie long empty = rw (eq-eqb i.at 0 lie.0) empty

-- The code begins with an empty stack.
pub starts_empty : (shape : Shape) (is : List Instr) (stacks : Stacks) → LieFrom 0 is → KindsOf shape is stacks → stack_at is stacks 0 ≡ Some []
starts_empty shape is stacks lie kinds =
    first_is_empty is stacks lie (stacks_long shape is kinds.passes stacks kinds.brought) (passes_begin shape is kinds.passes stacks kinds.brought)
