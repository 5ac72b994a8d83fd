-- Calls of a callee that is known by its entry alone: what one leads to is what its entry allows.
use Rattle.std.proofs.Common.{◌≡◌, ℕ, List, [], ◌∷◌, length, drop, Option, Some, None, codes, refl, sym, ap, subst, subst₂, ◌∙◌, arith, inl, inr}
use Rattle.std.proofs.lemmas.Option.{same_Some}
use Rattle.cil_model.specs.Calls.{FreeCall, FreelyCalled, FreeReturn, args_of, behind_call, pushed}
use Rattle.cil_model.specs.Clauses.{false_requires}
use Rattle.cil_model.specs.Runs.{LocalStep, Row}
use Rattle.cil_model.specs.UnitCalls.{unit_call}
use Rattle.cil_model.specs.Values.{Heap}
use Rattle.cil_model.specs.declared.instruction.Instr.{Instr}
use Rattle.cil_model.specs.declared.instruction.Op.TheVariants as ops
use Rattle.cil_model.specs.declared.machine.Config.{Config}
use Rattle.cil_model.specs.declared.machine.Config.TheVariants.{Live, Fault, NoRoom}
use Rattle.cil_model.specs.declared.machine.FaultKind.TheVariants as faults
use Rattle.cil_model.specs.declared.machine.Frame.{Frame}
use Rattle.cil_model.specs.declared.machine.Value.{Value}
use Rattle.cil_model.specs.declared.unit.CalleeInfo.{CalleeInfo}
use Rattle.cil_model.specs.declared.unit.Unit.{Unit as MethodUnit}
use Rattle.cil_model.proofs.Laid.{method}

-- A method that calls this callee at offset 0, with what stands on the stack, and returns.
abbrev caller : CalleeInfo → MethodUnit
caller callee = method (codes "Demo.Calc::Caller") callee.result [] (callee ∷ []) [] 0 [] ((5, ops.Call 100) ∷ (1, ops.Return) ∷ [])

abbrev call : Instr
call = record { at = 0; size = 5; op = ops.Call 100 }

abbrev frame : ℕ → List Value → Frame
frame at stack = record { unit = 0; at = at; stack = stack; locals = []; args = []; entry_args = []; entry_heap = [] }

-- The call, with this stack over this heap, may lead to the configuration.
abbrev pub Leads : CalleeInfo → List Value → Heap → Config → Type 0
Leads callee stack heap new = LocalStep (caller callee) (Live (frame 0 stack ∷ []) heap) new

-- It may come back with this stack and this heap.
abbrev pub Gives : CalleeInfo → List Value → Heap → List Value → Heap → Type 0
Gives callee stack heap new after = Leads callee stack heap (Live (frame 5 new ∷ []) after)

module _ (callee : CalleeInfo) (stack args : List Value) (heap : Heap) (are : args_of heap callee.args stack ≡ Some args) where
  freely_leads : (fault : Option ℕ) (new : Config) → false_requires callee.clauses args heap ≡ fault
      → FreelyCalled callee args call (frame 0 stack) heap fault new
      → Leads callee stack heap new
  unfolding unit_call
  freely_leads fault new is freely = (
    call,
    refl,
    record {
      callee = callee;
      args = args;
      callee_is = refl;
      args_are = are;
      freely = subst (λ (k : Option ℕ). FreelyCalled callee args call (frame 0 stack) heap k new) (sym is) freely;
    },
  )

  -- What the entry allows may come of the call.
  pub may_give : (after : Heap) (result : Option Value) → false_requires callee.clauses args heap ≡ None → FreeReturn callee args heap after result
      → Leads callee stack heap (Live (pushed (behind_call call (length callee.args) (frame 0 stack)) result ∷ []) after)
  may_give after result required free = freely_leads None _ required (inr (after, result, free, refl))

  pub may_end : false_requires callee.clauses args heap ≡ None → Leads callee stack heap NoRoom
  may_end required = freely_leads None NoRoom required (inl refl)

  pub may_fault : (k : ℕ) → false_requires callee.clauses args heap ≡ Some k → Leads callee stack heap (Fault (faults.Requires k) 0 0)
  may_fault k broken = freely_leads (Some k) _ broken refl

  leads_freely : (fault : Option ℕ) (new : Config) → false_requires callee.clauses args heap ≡ fault → Leads callee stack heap new
      → FreelyCalled callee args call (frame 0 stack) heap fault new
  unfolding unit_call
  leads_freely fault new is (i, found, row) =
      let made : FreeCall (caller callee) 0 call (frame 0 stack) heap new =
      subst (λ (j : Instr). Row (FreeCall (caller callee)) j.op [] (caller callee) j (frame 0 stack) heap new) (sym (same_Some call i found)) row in
      let same : made.callee ≡ callee = sym (same_Some callee made.callee made.callee_is) in
      let passed : made.args ≡ args = same_Some made.args args (sym made.args_are ∙ ap (λ (c : CalleeInfo). args_of heap c.args stack) same ∙ are) in
      let freely = subst₂
      (λ (c : CalleeInfo) (vs : List Value). FreelyCalled c vs call (frame 0 stack) heap (false_requires c.clauses vs heap) new) same passed made.freely in
      subst (λ (k : Option ℕ). FreelyCalled callee args call (frame 0 stack) heap k new) is freely

  -- Nothing else comes of it.
  pub only_fault : (k : ℕ) (new : Config) → false_requires callee.clauses args heap ≡ Some k → Leads callee stack heap new
      → new ≡ Fault (faults.Requires k) 0 0
  only_fault k new broken leads = leads_freely (Some k) new broken leads

  no_value : (rest : List Value) (result : Option Value) → frame 5 rest ≡ pushed (frame 5 rest) result → result ≡ None
  no_value rest None e = refl
  no_value rest (Some v) e = let long : length rest ≡ length (v ∷ rest) = ap (λ (f : Frame). length f.stack) e in absurd (omega arith)

  this_value : (rest : List Value) (v : Value) (result : Option Value) → frame 5 (v ∷ rest) ≡ pushed (frame 5 rest) result → result ≡ Some v
  this_value rest v None e = let long : length (v ∷ rest) ≡ length rest = ap (λ (f : Frame). length f.stack) e in absurd (omega arith)
  this_value rest v (Some w) e = let stacks : v ∷ rest ≡ w ∷ rest = ap (λ (f : Frame). f.stack) e in cc

  given : (g : Frame) (after : Heap) → FreelyCalled callee args call (frame 0 stack) heap None (Live (g ∷ []) after)
      → (result : Option Value) × FreeReturn callee args heap after result × (g ≡ pushed (frame 5 (drop (length callee.args) stack)) result)
  given g after (inl ends) = absurd cc
  given g after (inr (new, result, free, to)) =
      let heaps : new ≡ after = cc in
      let frames : g ≡ pushed (frame 5 (drop (length callee.args) stack)) result = cc in
      (result, subst (λ (h : Heap). FreeReturn callee args heap h result) heaps free, frames)

  pub allows_nothing : (after : Heap) → false_requires callee.clauses args heap ≡ None
      → Gives callee stack heap (drop (length callee.args) stack) after
      → FreeReturn callee args heap after None
  allows_nothing after required gives =
      let (result, free, same) = given (frame 5 (drop (length callee.args) stack)) after (leads_freely None _ required gives) in
      subst (FreeReturn callee args heap after) (no_value (drop (length callee.args) stack) result same) free

  pub allows_value : (after : Heap) (v : Value) → false_requires callee.clauses args heap ≡ None
      → Gives callee stack heap (v ∷ drop (length callee.args) stack) after
      → FreeReturn callee args heap after (Some v)
  allows_value after v required gives =
      let (result, free, same) = given (frame 5 (v ∷ drop (length callee.args) stack)) after (leads_freely None _ required gives) in
      subst (FreeReturn callee args heap after) (this_value (drop (length callee.args) stack) v result same) free
