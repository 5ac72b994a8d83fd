-- Behind a call that closes a clause, or the block, the stack of code that has kinds is empty: a way comes to the call
-- with as many values as typing has kinds there, and these are exactly the call's arguments.
use Rattle.std.proofs.Common.{◌≡◌, ℕ, zero, suc, ◌+◌, ◌<◌, ◌≤◌, Bool, true, false, nat_lt, nat_le, List, [], ◌∷◌, length, take, drop, Option, Some, None, option_map, if◌then◌else◌, slice_get, refl, sym, ap, subst, ◌∙◌, arith, inl, inr}
use Rattle.std.specs.List.{AllByRecursion, flat_map}
use Rattle.std.specs.Option.{option_and_then, option_map_or}
use Rattle.std.proofs.lemmas.Bool.{and_from, cases_lt, cond-true, false≢true, le-leb, lt-ltb}
use Rattle.std.proofs.lemmas.Option.{cond_some, none-some, same_Some}
use Rattle.cil_model.specs.Blocks.{branch_targets, closes, is_closing_call}
use Rattle.cil_model.specs.Code.{begins_at}
use Rattle.cil_model.specs.Comparisons.{comparison_of}
use Rattle.cil_model.specs.FitKinds.{AreDecoded}
use Rattle.cil_model.specs.Kinds.{behind, behind_call, behind_condition, behind_conversion, behind_length, behind_load, behind_number, behind_old, behind_operator, behind_test, call_operands, compares_kinds, is_array_of, is_number, is_reference, is_tested, kind_of, loaded, one_if, operand_count, pushed_kind, pushes_comparison, takes}
use Rattle.cil_model.specs.Passes.{KindsOf, Stacks, merged, merged_kind, stack_at, successors}
use Rattle.cil_model.specs.Runs.{instr_at}
use Rattle.cil_model.specs.ShortCode.{AreOfShortCode, IsOfShortCode}
use Rattle.cil_model.specs.UnitCalls.{unit_call}
use Rattle.cil_model.specs.declared.instruction.CmpOp.{CmpOp}
use Rattle.cil_model.specs.declared.instruction.Instr.{Instr}
use Rattle.cil_model.specs.declared.instruction.Op.{Op}
use Rattle.cil_model.specs.declared.instruction.Op.TheVariants as ops
use Rattle.cil_model.specs.declared.instruction.Test.{Test}
use Rattle.cil_model.specs.declared.instruction.Test.TheVariants as tests
use Rattle.cil_model.specs.declared.place.Kind.{Kind}
use Rattle.cil_model.specs.declared.place.Kind.TheVariants as kinds
use Rattle.cil_model.specs.declared.place.Place.{Place}
use Rattle.cil_model.specs.declared.shape.Shape.{Shape}
use Rattle.cil_model.specs.declared.unit_numbers.UnitCall.{UnitCall}
use Rattle.cil_model.specs.declared.unit_numbers.UnitCall.TheVariants as calls
use Rattle.cil_model.proofs.KindsGrow.{parts}
use Rattle.cil_model.proofs.KindsSettle.{Absorbs, found_at, reached_begins, settled}
use Rattle.cil_model.proofs.Lists.{of_found}
use Rattle.clause_faults.specs.ClauseCodes.{goes_forward}
use Rattle.clause_faults.specs.Faults.{faults_of}
use Rattle.clause_faults.specs.PureCode.{calls_with_message, is_clause_call, is_pure, is_pure_before}
use Rattle.clause_faults.specs.Ways.{Told, closing_faults, faults_at, faults_from, faults_here, made, stack_behind, way_faults, ways_behind}
use Rattle.clause_faults.specs.declared.clause_fault.ClauseFault.{ClauseFault}
use Rattle.clause_faults.specs.declared.clause_fault.ClauseFault.TheVariants.{StackLeft}
use Rattle.clause_faults.proofs.FaultLemmas.NoFaults.{none_in_both}
use Rattle.contract_extract.proofs.TreeLemmas.HasTree.{Onward, none_closing, none_here, right_from}
use Rattle.contract_extract.proofs.BlockLemmas.InstrOffsets.{left, left_falls, left_most, left_some, next_begins}
use Rattle.contract_extract.proofs.TreeLemmas.PlacedCalls.{result_kind, taken_kind}

-- ---- as many values as kinds

-- What pushes a value, and what makes one of one or of two.
pushed_long : (new : Told) (told : List Told) (kind : Kind) (before after : List Kind) → length told ≡ length before → Some (kind ∷ before) ≡ Some after
    → length (new ∷ told) ≡ length after
pushed_long new told kind before after long typed =
    let same : length (kind ∷ before) ≡ length after = ap length (same_Some (kind ∷ before) after typed) in omega (arith, long, same)

dropped_one : (told : List Told) (kind : Kind) (rest : List Kind) → length told ≡ length (kind ∷ rest) → length (drop 1 told) ≡ length rest
dropped_one [] kind rest long = absurd (omega (arith, long))
dropped_one (t ∷ told) kind rest long = omega (arith, long)

dropped_two : (told : List Told) (b a : Kind) (rest : List Kind) → length told ≡ length (b ∷ a ∷ rest) → length (drop 2 told) ≡ length rest
dropped_two [] b a rest long = absurd (omega (arith, long))
dropped_two (t ∷ []) b a rest long = absurd (omega (arith, long))
dropped_two (t ∷ u ∷ told) b a rest long = omega (arith, long)

made_of_one : (new : Told) (told : List Told) (kind left : Kind) (rest after : List Kind) → length told ≡ length (kind ∷ rest) → Some (left ∷ rest) ≡ Some after
    → length (new ∷ drop 1 told) ≡ length after
made_of_one new told kind left rest after long typed = pushed_long new (drop 1 told) left rest after (dropped_one told kind rest long) typed

made_of_two : (new : Told) (told : List Told) (b a left : Kind) (rest after : List Kind) → length told ≡ length (b ∷ a ∷ rest) → Some (left ∷ rest) ≡ Some after
    → length (new ∷ drop 2 told) ≡ length after
made_of_two new told b a left rest after long typed = pushed_long new (drop 2 told) left rest after (dropped_two told b a rest long) typed

-- A test that holds leaves the stack.
held : (test : Bool) (stack after : List Kind) → (if test then Some stack else None) ≡ Some after → Some stack ≡ Some after
held test stack after typed = ap Some (cond_some test stack after typed).1

load_long : (new : Told) (told : List Told) (place : Option Place) (before after : List Kind) → length told ≡ length before → loaded place before ≡ Some after
    → length (new ∷ told) ≡ length after
load_long new told place before after long typed = by (option_and_then kind_of place) typed
  where
    by : (kind : Option Kind) → option_map (λ k. k ∷ before) kind ≡ Some after → length (new ∷ told) ≡ length after
    by None typed = absurd (none-some after typed)
    by (Some kind) typed = pushed_long new told kind before after long typed

operator_long : (new : Told) (told : List Told) (op : Option CmpOp) (before after : List Kind) → length told ≡ length before → behind_operator op before ≡ Some after
    → length (new ∷ drop 2 told) ≡ length after
operator_long new told None (kinds.Int ∷ kinds.Int ∷ rest) after long typed = made_of_two new told kinds.Int kinds.Int kinds.Int rest after long typed
operator_long new told None _ after long typed = absurd (none-some after typed)
operator_long new told (Some op) (b ∷ a ∷ rest) after long typed =
    made_of_two new told b a kinds.Int rest after long (held (pushes_comparison op a b) (kinds.Int ∷ rest) after typed)
operator_long new told (Some op) _ after long typed = absurd (none-some after typed)

number_long : (new : Told) (told : List Told) (before after : List Kind) → length told ≡ length before → behind_number before ≡ Some after
    → length (new ∷ drop 1 told) ≡ length after
number_long new told (kinds.Int ∷ rest) after long typed = made_of_one new told kinds.Int kinds.Int rest after long typed
number_long new told _ after long typed = absurd (none-some after typed)

conversion_long : (new : Told) (told : List Told) (before after : List Kind) → length told ≡ length before → behind_conversion before ≡ Some after
    → length (new ∷ drop 1 told) ≡ length after
conversion_long new told [] after long typed = absurd (none-some after typed)
conversion_long new told (kind ∷ rest) after long typed =
    made_of_one new told kind kinds.Int rest after long (held (is_number kind) (kinds.Int ∷ rest) after typed)

length_long : (new : Told) (told : List Told) (before after : List Kind) → length told ≡ length before → behind_length before ≡ Some after
    → length (new ∷ drop 1 told) ≡ length after
length_long new told [] after long typed = absurd (none-some after typed)
length_long new told (kind ∷ rest) after long typed =
    made_of_one new told kind kinds.Native rest after long (held (is_reference kind) (kinds.Native ∷ rest) after typed)

element_long : (new : Told) (told : List Told) (place : Place) (before after : List Kind) → length told ≡ length before → behind_load place before ≡ Some after
    → length (new ∷ drop 2 told) ≡ length after
element_long new told place (kinds.Int ∷ array ∷ rest) after long typed =
    made_of_two new told kinds.Int array kinds.Int rest after long (held (is_array_of place array) (kinds.Int ∷ rest) after typed)
element_long new told place _ after long typed = absurd (none-some after typed)

test_long : (shape : Shape) (test : Test) (target : ℕ) (told : List Told) (before after : List Kind) → length told ≡ length before → behind_test test before ≡ Some after
    → length (drop (operand_count shape (ops.Branch test target)) told) ≡ length after
test_long shape tests.Always target told before after long typed = long ∙ ap length (same_Some before after typed)
test_long shape (tests.Cmp op) target told (b ∷ a ∷ rest) after long typed =
    dropped_two told b a rest long ∙ ap length (cond_some (compares_kinds op a b) rest after typed).1
test_long shape (tests.Cmp op) target told _ after long typed = absurd (none-some after typed)
test_long shape test target told [] after long typed = absurd (none-some after typed)
test_long shape test target told (kind ∷ rest) after long typed =
    dropped_one told kind rest long ∙ ap length (cond_some (is_tested kind) rest after typed).1

old_long : (new : Told) (told : List Told) (place : Place) (before after : List Kind) → length told ≡ length before → behind_old place before ≡ Some after
    → length (new ∷ drop 1 told) ≡ length after
old_long new told place [] after long typed = absurd (none-some after typed)
old_long new told place (kind ∷ rest) after long typed =
    let p = cond_some (takes place kind) (pushed_kind (kind_of place) rest) after typed in
    let (of_place, is) = taken_kind place kind p.0 in
    made_of_one new told kind of_place rest after long (ap (λ (o : Option Kind). Some (pushed_kind o rest)) (sym is) ∙ ap Some p.1)

call_long : (shape : Shape) (number : ℕ) (call : Option UnitCall) → unit_call number ≡ call → is_closing_call call ≡ false → is_clause_call call ≡ true
    → (new : Told) (told : List Told) (before after : List Kind) → length told ≡ length before → behind_call shape call before ≡ Some after
    → length (new ∷ drop (call_operands shape call) told) ≡ length after
call_long shape number None is stays pure new told before after long typed = absurd (false≢true pure)
call_long shape number (Some (calls.Requires m)) is stays pure new told before after long typed = absurd cc
call_long shape number (Some (calls.Ensures m)) is stays pure new told before after long typed = absurd cc
call_long shape number (Some (calls.Assert m)) is stays pure new told before after long typed = absurd (false≢true pure)
call_long shape number (Some (calls.Assume m)) is stays pure new told before after long typed = absurd (false≢true pure)
call_long shape number (Some calls.EndContractBlock) is stays pure new told before after long typed = absurd cc
call_long shape number (Some (calls.Result place)) is stays pure new told before after long typed =
    let (kind, of_place) = result_kind number place is in
    pushed_long new told kind before after long (ap (λ (o : Option Kind). Some (pushed_kind o before)) (sym of_place) ∙ typed)
call_long shape number (Some (calls.OldValue place)) is stays pure new told before after long typed = old_long new told place before after long typed
call_long shape number (Some (calls.Callee n)) is stays pure new told before after long typed = absurd (false≢true pure)

module _ (shape : Shape) (i : Instr) where
  -- An operation of a clause leaves as many values as kinds.
  op_long : (op : Op) (message : Bool) → closes op ≡ false → is_pure_before message op ≡ true → (told : List Told) (before after : List Kind)
      → length told ≡ length before → behind shape op before ≡ Some after → length (stack_behind shape i op told) ≡ length after
  op_long ops.Nop message stays pure told before after long typed = long ∙ ap length (same_Some before after typed)
  op_long (ops.LoadArg n) message stays pure told before after long typed = load_long (made shape i []) told (slice_get shape.args n) before after long typed
  op_long ops.Null message stays pure told before after long typed = pushed_long (made shape i []) told kinds.NullRef before after long typed
  op_long (ops.Const n) message stays pure told before after long typed = pushed_long (made shape i []) told kinds.Int before after long typed
  op_long (ops.Text token) message stays pure told before after long typed = pushed_long (made shape i []) told kinds.Text before after long typed
  op_long (ops.Call number) message stays pure told before after long typed =
      call_long shape number (unit_call number) refl stays pure (made shape i (take (call_operands shape (unit_call number)) told)) told before after long typed
  op_long (ops.Branch test target) message stays pure told before after long typed = test_long shape test target told before after long typed
  op_long (ops.Bin operator) message stays pure told before after long typed =
      operator_long (made shape i (take 2 told)) told (comparison_of operator) before after long typed
  op_long ops.Neg message stays pure told before after long typed = number_long (made shape i (take 1 told)) told before after long typed
  op_long ops.Not message stays pure told before after long typed = number_long (made shape i (take 1 told)) told before after long typed
  op_long ops.ConvI4 message stays pure told before after long typed = conversion_long (made shape i (take 1 told)) told before after long typed
  op_long ops.Length message stays pure told before after long typed = length_long (made shape i (take 1 told)) told before after long typed
  op_long (ops.LoadElem place) message stays pure told before after long typed = element_long (made shape i (take 2 told)) told place before after long typed
  op_long _ message stays pure told before after long typed = absurd (false≢true pure)

merged_long : (a b c : List Kind) → merged a b ≡ Some c → length b ≡ length c
merged_long [] [] c e = ap length (same_Some [] c e)
merged_long (a ∷ others) (b ∷ more) c e =
    let p = parts (merged_kind a b) (merged others more) c e in
    let all : length c ≡ length (p.first ∷ p.others) = ap length p.all_is in
    omega (arith, merged_long others more p.others p.others_are, all)
merged_long [] (b ∷ more) c e = absurd (none-some c e)
merged_long (a ∷ others) [] c e = absurd (none-some c e)

-- ---- closing calls

condition_empty : (message : Bool) (before after : List Kind) → behind_condition message before ≡ Some after → length before ≡ 1 + one_if message → after ≡ []
condition_empty false (kinds.Int ∷ []) after typed long = sym (same_Some [] after typed)
condition_empty false (kinds.Int ∷ k ∷ rest) after typed long = absurd (omega (arith, long))
condition_empty true (kinds.Text ∷ kinds.Int ∷ []) after typed long = sym (same_Some [] after typed)
condition_empty true (kinds.Text ∷ kinds.Int ∷ k ∷ rest) after typed long = absurd (omega (arith, long))
condition_empty _ _ after typed long = absurd (none-some after typed)

call_empty : (shape : Shape) (call : Option UnitCall) → is_closing_call call ≡ true → (before after : List Kind) → behind_call shape call before ≡ Some after
    → length before ≡ call_operands shape call → after ≡ []
call_empty shape (Some (calls.Requires message)) closing before after typed long = condition_empty message before after typed long
call_empty shape (Some (calls.Ensures message)) closing before after typed long = condition_empty message before after typed long
call_empty shape (Some calls.EndContractBlock) closing [] after typed long = sym (same_Some [] after typed)
call_empty shape (Some calls.EndContractBlock) closing (kind ∷ before) after typed long = absurd (omega (arith, long))
call_empty shape _ closing before after typed long = absurd (false≢true closing)

-- A closing call that finds its arguments alone leaves nothing.
op_empty : (shape : Shape) (op : Op) → closes op ≡ true → (before after : List Kind) → behind shape op before ≡ Some after → length before ≡ operand_count shape op
    → after ≡ []
op_empty shape (ops.Call number) closing before after typed long = call_empty shape (unit_call number) closing before after typed long
op_empty shape _ closing before after typed long = absurd (false≢true closing)

goes_next : (P : ℕ → Type 0) (op : Op) (next : ℕ) → closes op ≡ true → AllByRecursion P (successors op next) → P next
goes_next P (ops.Call number) next closing all = all.0
goes_next P _ next closing all = absurd (false≢true closing)

merged_empty : (kinds : List Kind) → merged kinds [] ≡ Some kinds → kinds ≡ []
merged_empty [] e = refl
merged_empty (kind ∷ kinds) e = absurd (none-some (kind ∷ kinds) e)

absorbs_empty : (before : Option (List Kind)) (after : List Kind) → after ≡ [] → Absorbs before after → before ≡ Some []
absorbs_empty before after empty absorbs =
    absorbs.reached ∙ ap Some (merged_empty absorbs.kinds (subst (λ (a : List Kind). merged absorbs.kinds a ≡ Some absorbs.kinds) empty absorbs.merge))

-- ---- the code up to a closing call

-- The code from an IL offset to a call that closes a clause, or the block, with nothing wrong with an instruction of
-- it. No other one of it closes anything.
pub record IsCode (is : List Instr) (shape : Shape) (start : ℕ) (call : Instr) : Type 0 where
  pub short : AreOfShortCode is
  pub closes_it : closes call.op ≡ true
  pub there : instr_at is call.at ≡ Some call
  pub others_stay : (i : Instr) → instr_at is i.at ≡ Some i → start ≤ i.at → i.at < call.at → closes i.op ≡ false
  pub right : (i : Instr) → instr_at is i.at ≡ Some i → start ≤ i.at → i.at < call.at → faults_of is shape start call i ≡ []

module _ (is : List Instr) (shape : Shape) (start : ℕ) (call : Instr) (code : IsCode is shape start call) (stacks : Stacks) (decoded : AreDecoded is)
    (kinds_of : KindsOf shape is stacks) where
  -- The stack after the call is empty.
  abbrev BehindEmpty : Type 0
  BehindEmpty = stack_at is stacks (call.at + call.size) ≡ Some []

  abbrev Reaches : ℕ → Type 0
  Reaches most = (at : ℕ) (told : List Told) (before : List Kind) → left is at ≤ most → start ≤ at → at ≤ call.at → stack_at is stacks at ≡ Some before
      → length told ≡ length before → faults_from most is shape call at told ≡ [] → BehindEmpty

  -- What is wrong after an instruction at an IL offset.
  abbrev faults_later : ℕ → ℕ → ℕ → List Told → List ClauseFault
  faults_later most at later told = if goes_forward at later call then faults_from most is shape call later told else []

  module _ (most : ℕ) (rest : Reaches most) (i : Instr) (found : instr_at is i.at ≡ Some i) (few : left is i.at ≤ suc most) (above : start ≤ i.at) (below : i.at < call.at) where
    later_empty : (later : ℕ) (told : List Told) (after : List Kind) → Onward is i.at call.at later → Absorbs (stack_at is stacks later) after
        → length told ≡ length after → faults_later most i.at later told ≡ [] → BehindEmpty
    later_empty later told after on absorbs long none =
        let forward : goes_forward i.at later call ≡ true = and_from (nat_lt i.at later) (nat_le later call.at) (lt-ltb i.at later on.above) (le-leb later call.at on.inside) in
        let none_later : faults_from most is shape call later told ≡ [] =
        subst (λ (b : Bool). (if b then faults_from most is shape call later told else []) ≡ []) forward none in
        rest later told absorbs.kinds (omega (arith, left_falls is i.at later code.short (left_some is i.at i found) on.above, few))
        (omega (arith, above, on.above)) on.inside absorbs.reached (long ∙ merged_long absorbs.kinds after absorbs.kinds absorbs.merge) none_later

    -- The way goes on to the next instruction, or to the target of a branch.
    op_goes_on : (op : Op) (message : Bool) → is_pure_before message op ≡ true → (told : List Told) (after : List Kind) → length (stack_behind shape i op told) ≡ length after
        → Onward is i.at call.at (i.at + i.size) → AllByRecursion (Onward is i.at call.at) (branch_targets op)
        → AllByRecursion (λ at. Absorbs (stack_at is stacks at) after) (successors op (i.at + i.size))
        → flat_map (λ later. faults_later most i.at later (stack_behind shape i op told)) (ways_behind op (i.at + i.size)) ≡ [] → BehindEmpty
    op_goes_on (ops.Branch tests.Always target) message pure told after long next targets absorb none =
        later_empty target (stack_behind shape i (ops.Branch tests.Always target) told) after targets.0 absorb.0 long (none_in_both (faults_later most i.at target (stack_behind shape i (ops.Branch tests.Always target) told)) _ none).0
    op_goes_on (ops.Branch test target) message pure told after long next targets absorb none =
        later_empty target (stack_behind shape i (ops.Branch test target) told) after targets.0 absorb.0 long (none_in_both (faults_later most i.at target (stack_behind shape i (ops.Branch test target) told)) _ none).0
    op_goes_on (ops.Switch targets_of) message pure told after long next targets absorb none = absurd (false≢true pure)
    op_goes_on ops.Return message pure told after long next targets absorb none = absurd (false≢true pure)
    op_goes_on op message pure told after long next targets absorb none =
        later_empty (i.at + i.size) (stack_behind shape i op told) after next absorb.0 long (none_in_both (faults_later most i.at (i.at + i.size) (stack_behind shape i op told)) [] none).0

    below_empty : (told : List Told) (before : List Kind) → stack_at is stacks i.at ≡ Some before → length told ≡ length before
        → faults_at (faults_later most i.at) is shape i told ≡ [] → BehindEmpty
    below_empty told before reached long none =
        let s = settled shape is stacks i.at i before decoded kinds_of found reached in
        let targets = of_found (λ j. AllByRecursion (λ at. begins_at is at ≡ true) (branch_targets j.op)) is i.at i decoded.targets found in
        let right = right_from is shape start call i targets (code.right i found above below) in
        let stays = code.others_stay i found above below in
        let message : Bool = option_map_or (λ after. calls_with_message after.op) (instr_at is (i.at + i.size)) false in
        let next = next_begins is i.at call.at i call code.short found code.there below in
        let size : IsOfShortCode i = of_found IsOfShortCode is i.at i code.short.each found in
        let apart = none_here (closes i.op) (is_pure is i) (nat_lt (length told) (operand_count shape i.op)) (closing_faults i.at (operand_count shape i.op) (length told))
        (faults_here i i.op told) (flat_map (λ later. faults_later most i.at later (stack_behind shape i i.op told)) (ways_behind i.op (i.at + i.size))) (StackLeft i.at) stays right.pure none in
        op_goes_on i.op message right.pure told s.after (op_long shape i i.op message stays right.pure told before s.after long s.typed)
        (record { above = omega (arith, size.some); inside = next.inside; begins = next.begins }) right.onward s.onward apart.1

  call_leaves : (most : ℕ) (told : List Told) (before : List Kind) → stack_at is stacks call.at ≡ Some before → length told ≡ length before
      → faults_at (faults_later most call.at) is shape call told ≡ [] → BehindEmpty
  call_leaves most told before reached long none =
      let s = settled shape is stacks call.at call before decoded kinds_of code.there reached in
      let own : closing_faults call.at (operand_count shape call.op) (length told) ≡ [] = sym (cond-true (closes call.op) _ _ code.closes_it) ∙ none in
      let count : operand_count shape call.op ≡ length told = none_closing call.at (operand_count shape call.op) (length told) own in
      let empty = op_empty shape call.op code.closes_it before s.after s.typed (sym (count ∙ long)) in
      absorbs_empty (stack_at is stacks (call.at + call.size)) s.after empty
      (goes_next (λ at. Absorbs (stack_at is stacks at) s.after) call.op (call.at + call.size) code.closes_it s.onward)

  abbrev ReachesAt : ℕ → ℕ → Type 0
  ReachesAt most at = (told : List Told) (before : List Kind) → left is at ≤ suc most → at ≤ call.at → stack_at is stacks at ≡ Some before
      → length told ≡ length before → faults_from (suc most) is shape call at told ≡ [] → BehindEmpty

  instr_reaches : (most : ℕ) → Reaches most → (i : Instr) → instr_at is i.at ≡ Some i → start ≤ i.at → ReachesAt most i.at
  instr_reaches most rest i found above told before few inside reached long none =
      let none_i : faults_at (faults_later most i.at) is shape i told ≡ [] =
      subst (λ (o : Option Instr). option_map_or (λ j. faults_at (faults_later most i.at) is shape j told) o [] ≡ []) found none in
      elim (cases_lt i.at call.at) [
        | inl lower ↦ below_empty most rest i found few above lower told before reached long none_i
        | inr upper ↦
            let end : i.at ≡ call.at = omega (arith, upper, inside) in
            let one : i ≡ call = same_Some i call (sym found ∙ ap (instr_at is) end ∙ code.there) in
            call_leaves most told before (ap (stack_at is stacks) (sym end) ∙ reached) long
            (subst (λ (k : Instr). faults_at (faults_later most k.at) is shape k told ≡ []) one none_i)
      ]

  reaches : (most : ℕ) → Reaches most
  reaches zero at told before few above inside reached long none =
      let (i, found) = reached_begins is stacks at before reached in absurd (omega (arith, left_some is at i found, few))
  reaches (suc most) at told before few above inside reached long none =
      let (i, found) = reached_begins is stacks at before reached in
      let same : i.at ≡ at = found_at is at i found in
      subst (ReachesAt most) same (instr_reaches most (reaches most) i (ap (instr_at is) same ∙ found) (omega (arith, same, above))) told before few inside reached long none

  -- Where the code begins with an empty stack and nothing is wrong on its ways, the stack after its closing call is
  -- empty.
  pub empty_behind : stack_at is stacks start ≡ Some [] → start ≤ call.at → way_faults is shape start call ≡ [] → BehindEmpty
  empty_behind empty inside none = reaches (length is) start [] [] (left_most is start) (omega arith) inside empty refl none
