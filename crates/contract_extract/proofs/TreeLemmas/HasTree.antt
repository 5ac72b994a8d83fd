-- A clause's code with no fault has a tree: both are found on the same ways forward.
use Rattle.std.proofs.Common.{◌≡◌, ℕ, zero, suc, ◌+◌, ◌<◌, ◌≤◌, ◌==◌, Bool, true, false, not, ◌&&◌, ◌||◌, nat_lt, nat_le, List, [], ◌∷◌, ◌++◌, length, take, drop, Option, Some, None, IsSome, if◌then◌else◌, refl, sym, ap, subst, ◌∙◌, arith, inl, inr}
use Rattle.std.specs.List.{AllByRecursion, flat_map, list_any}
use Rattle.std.specs.Option.{option_and_then, option_map_or}
use Rattle.std.proofs.lemmas.Bool.{eqb-true, false≢true, and_from, and_parts, both_ways, cases_lt, eq-eqb, ne_eqb, le-leb, lt-ltb, leb-false, ltb-false, not-false, or_parts}
use Rattle.std.proofs.lemmas.Option.{same_Some, some_pair_parts}
use Rattle.cil_model.specs.Blocks.{branch_targets, closes, is_closing_call}
use Rattle.cil_model.specs.ClauseTrees.{Item, Tree, Message, branch_operator, branch_tree, closed_by, closed_tree, closing, condition, items_behind, with_call, tree_at, tree_from, tree_of}
use Rattle.cil_model.specs.Code.{begins_at}
use Rattle.cil_model.specs.Kinds.{call_operands, one_if, operand_count}
use Rattle.cil_model.specs.Runs.{instr_at}
use Rattle.cil_model.specs.Terms as terms
use Rattle.cil_model.specs.Terms.{Term}
use Rattle.cil_model.specs.UnitCalls.{unit_call}
use Rattle.cil_model.specs.declared.clause.ClauseKind.{ClauseKind}
use Rattle.cil_model.specs.declared.clause.ClauseKind.TheVariants as kinds
use Rattle.cil_model.specs.declared.instruction.Instr.{Instr}
use Rattle.cil_model.specs.declared.instruction.Op.{Op}
use Rattle.cil_model.specs.declared.instruction.Op.TheVariants as ops
use Rattle.cil_model.specs.declared.instruction.Test.{Test}
use Rattle.cil_model.specs.declared.instruction.Test.TheVariants as tests
use Rattle.cil_model.specs.declared.instruction.UnOp.TheVariants as unary
use Rattle.cil_model.specs.declared.shape.Shape.{Shape}
use Rattle.cil_model.specs.declared.unit_numbers.UnitCall.{UnitCall}
use Rattle.cil_model.specs.declared.unit_numbers.UnitCall.TheVariants as calls
use Rattle.clause_faults.specs.ClauseCodes.{goes_forward}
use Rattle.clause_faults.specs.Faults.{branch_faults, fault_if, faults_of}
use Rattle.clause_faults.specs.PureCode.{calls_with_message, is_clause_call, is_pure, is_pure_before, takes_message}
use Rattle.clause_faults.specs.Ways.{Told, closing_faults, faults_at, faults_from, faults_here, made, stack_behind, stack_by, way_faults, ways_behind}
use Rattle.clause_faults.specs.declared.clause_fault.ClauseFault.{ClauseFault}
use Rattle.clause_faults.specs.declared.clause_fault.ClauseFault.TheVariants.{NotPure, Backward, IntoBlock, StackLeft}
use Rattle.clause_faults.proofs.FaultLemmas.NoFaults.{no_fault_if, none_in_both}
use Rattle.contract_extract.proofs.BlockLemmas.InstrOffsets.{begin_found, left, left_falls, left_most, left_some, next_begins}
use Rattle.cil_model.proofs.KindsSettle.{found_at}
use Rattle.cil_model.proofs.Lists.{of_found}
use Rattle.cil_model.specs.ShortCode.{AreOfShortCode, IsOfShortCode}

-- ---- stacks

abbrev pub AreTrees : List Item → Type 0
AreTrees [] = Unit {0}
AreTrees (Tree a ∷ items) = AreTrees items
AreTrees (Message ∷ items) = ⊥

-- All are trees, but for a message on the top where one is allowed.
abbrev pub AreTreesBelow : Bool → List Item → Type 0
AreTreesBelow message [] = Unit {0}
AreTreesBelow message (Tree a ∷ items) = AreTrees items
AreTreesBelow message (Message ∷ items) = (message ≡ true) × AreTrees items

-- What an operation leaves: as many items as values are told of.
pub record Leaves (message : Bool) (after : Option (List Item)) (told : List Told) : Type 0 where
  pub items : List Item
  pub is : after ≡ Some items
  pub long : length told ≡ length items
  pub kept : AreTreesBelow message items

pushes : (message : Bool) (new : Told) (a : Term) (told : List Told) (items : List Item) → length told ≡ length items → AreTrees items
    → Leaves message (Some (Tree a ∷ items)) (new ∷ told)
pushes message new a told items long trees = record { items = Tree a ∷ items; is = refl; long = omega (arith, long); kept = trees }

one_taken : (message : Bool) (g : List Item → Option (List Item)) (f : Term → Term) → ((a : Term) (rest : List Item) → g (Tree a ∷ rest) ≡ Some (Tree (f a) ∷ rest))
    → (new : Told) (told : List Told) (items : List Item) → length told ≡ length items → nat_lt (length told) 1 ≡ false → AreTrees items
    → Leaves message (g items) (new ∷ drop 1 told)
one_taken message g f makes new [] items long has trees = absurd cc
one_taken message g f makes new (t ∷ told) [] long has trees = absurd (omega (arith, long))
one_taken message g f makes new (t ∷ told) (Message ∷ items) long has trees = absurd trees
one_taken message g f makes new (t ∷ told) (Tree a ∷ items) long has trees =
    record { items = Tree (f a) ∷ items; is = makes a items; long = omega (arith, long); kept = trees }

two_taken : (message : Bool) (g : List Item → Option (List Item)) (f : Term → Term → Term)
    → ((a b : Term) (rest : List Item) → g (Tree b ∷ Tree a ∷ rest) ≡ Some (Tree (f a b) ∷ rest))
    → (new : Told) (told : List Told) (items : List Item) → length told ≡ length items → nat_lt (length told) 2 ≡ false → AreTrees items
    → Leaves message (g items) (new ∷ drop 2 told)
two_taken message g f makes new told [] long has trees = absurd (omega (arith, long, ltb-false (length told) 2 has))
two_taken message g f makes new told (Message ∷ items) long has trees = absurd trees
two_taken message g f makes new told (Tree b ∷ []) long has trees = absurd (omega (arith, long, ltb-false (length told) 2 has))
two_taken message g f makes new told (Tree b ∷ Message ∷ items) long has trees = absurd trees
two_taken message g f makes new [] (Tree b ∷ Tree a ∷ items) long has trees = absurd (omega (arith, long))
two_taken message g f makes new (t ∷ []) (Tree b ∷ Tree a ∷ items) long has trees = absurd (omega (arith, long))
two_taken message g f makes new (t ∷ u ∷ told) (Tree b ∷ Tree a ∷ items) long has trees =
    record { items = Tree (f a b) ∷ items; is = makes a b items; long = omega (arith, long); kept = trees }

-- ---- operations

abbrev pub is_branch : Op → Bool
is_branch (ops.Branch test target) = true
is_branch _ = false

pub open_call : (call : Option UnitCall) → is_closing_call call ≡ false → closed_by call ≡ None
open_call (Some (calls.Requires m)) stays = absurd cc
open_call (Some (calls.Ensures m)) stays = absurd cc
open_call _ stays = refl

trees_below : (message : Bool) (items : List Item) → AreTrees items → AreTreesBelow message items
trees_below message [] trees = tt
trees_below message (Tree a ∷ items) trees = trees
trees_below message (Message ∷ items) trees = absurd trees

module _ (shape : Shape) (i : Instr) (message : Bool) (told : List Told) (items : List Item) (long : length told ≡ length items) (trees : AreTrees items) where
  call_leaves : (call : Option UnitCall) (new : ℕ → Told) → is_closing_call call ≡ false → is_clause_call call ≡ true
      → nat_lt (length told) (call_operands shape call) ≡ false
      → Leaves message (with_call call items) (new (call_operands shape call) ∷ drop (call_operands shape call) told)
  call_leaves None new stays allowed has = absurd (false≢true allowed)
  call_leaves (Some (calls.Requires m)) new stays allowed has = absurd cc
  call_leaves (Some (calls.Ensures m)) new stays allowed has = absurd cc
  call_leaves (Some (calls.Assert m)) new stays allowed has = absurd (false≢true allowed)
  call_leaves (Some (calls.Assume m)) new stays allowed has = absurd (false≢true allowed)
  call_leaves (Some calls.EndContractBlock) new stays allowed has = absurd cc
  call_leaves (Some (calls.Result place)) new stays allowed has = pushes message (new 0) terms.Result told items long trees
  call_leaves (Some (calls.OldValue place)) new stays allowed has =
      one_taken message (with_call (Some (calls.OldValue place))) terms.Old (λ a rest. refl) (new 1) told items long has trees
  call_leaves (Some (calls.Callee number)) new stays allowed has = absurd (false≢true allowed)

  op_leaves : (op : Op) → closes op ≡ false → is_branch op ≡ false → is_pure_before message op ≡ true → nat_lt (length told) (operand_count shape op) ≡ false
      → Leaves message (items_behind op items) (stack_by shape i op (operand_count shape op) told)
  op_leaves ops.Nop stays goes pure has = record { items = items; is = refl; long = long; kept = trees_below message items trees }
  op_leaves (ops.LoadArg n) stays goes pure has = pushes message (made shape i []) (terms.Arg n) told items long trees
  op_leaves (ops.StoreArg n) stays goes pure has = absurd (false≢true pure)
  op_leaves (ops.LoadLocal n) stays goes pure has = absurd (false≢true pure)
  op_leaves (ops.StoreLocal n) stays goes pure has = absurd (false≢true pure)
  op_leaves ops.Null stays goes pure has = pushes message (made shape i []) terms.Null told items long trees
  op_leaves (ops.Const n) stays goes pure has = pushes message (made shape i []) (terms.Const n) told items long trees
  op_leaves ops.Dup stays goes pure has = absurd (false≢true pure)
  op_leaves ops.Pop stays goes pure has = absurd (false≢true pure)
  op_leaves (ops.Call number) stays goes pure has = call_leaves (unit_call number) (λ count. made shape i (take count told)) stays pure has
  op_leaves ops.Return stays goes pure has = absurd (false≢true pure)
  op_leaves (ops.Branch test target) stays goes pure has = absurd cc
  op_leaves (ops.Switch targets) stays goes pure has = absurd (false≢true pure)
  op_leaves (ops.Bin operator) stays goes pure has =
      two_taken message (items_behind (ops.Bin operator)) (terms.Bin operator) (λ a b rest. refl) (made shape i (take 2 told)) told items long has trees
  op_leaves ops.Neg stays goes pure has =
      one_taken message (items_behind ops.Neg) (terms.Un unary.Neg) (λ a rest. refl) (made shape i (take 1 told)) told items long has trees
  op_leaves ops.Not stays goes pure has =
      one_taken message (items_behind ops.Not) (terms.Un unary.Not) (λ a rest. refl) (made shape i (take 1 told)) told items long has trees
  op_leaves ops.ConvI4 stays goes pure has =
      one_taken message (items_behind ops.ConvI4) (λ a. a) (λ a rest. refl) (made shape i (take 1 told)) told items long has trees
  op_leaves (ops.Text token) stays goes pure has =
      record { items = Message ∷ items; is = refl; long = omega (arith, long); kept = (pure, trees) }
  op_leaves (ops.NewArray number) stays goes pure has = absurd (false≢true pure)
  op_leaves ops.Length stays goes pure has =
      one_taken message (items_behind ops.Length) terms.Len (λ a rest. refl) (made shape i (take 1 told)) told items long has trees
  op_leaves (ops.LoadElem place) stays goes pure has =
      two_taken message (items_behind (ops.LoadElem place)) (λ a b. terms.Elem place a b) (λ a b rest. refl) (made shape i (take 2 told)) told items long has trees
  op_leaves (ops.StoreElem place) stays goes pure has = absurd (false≢true pure)
  op_leaves (ops.LoadAddr number) stays goes pure has = absurd (false≢true pure)
  op_leaves (ops.LoadInd place) stays goes pure has = absurd (false≢true pure)
  op_leaves (ops.StoreInd place) stays goes pure has = absurd (false≢true pure)

-- ---- closing calls

-- What a call that closes a clause takes.
record Closes (shape : Shape) (op : Op) (message : Bool) : Type 0 where
  count : operand_count shape op ≡ 1 + one_if message
  takes : calls_with_message op ≡ message

call_closes : (shape : Shape) (call : Option UnitCall) (kind : ClauseKind) (message : Bool) → closed_by call ≡ Some (kind, message)
    → (call_operands shape call ≡ 1 + one_if message) × (takes_message call ≡ message)
call_closes shape (Some (calls.Requires m)) kind message e = let same : m ≡ message = (some_pair_parts kinds.Requires kind m message e).1 in (ap (λ b. 1 + one_if b) same, same)
call_closes shape (Some (calls.Ensures m)) kind message e = let same : m ≡ message = (some_pair_parts kinds.Ensures kind m message e).1 in (ap (λ b. 1 + one_if b) same, same)
call_closes shape _ kind message e = absurd cc

op_closes : (shape : Shape) (op : Op) (kind : ClauseKind) (message : Bool) → closing op ≡ Some (kind, message) → Closes shape op message
op_closes shape (ops.Call number) kind message e =
    let parts = call_closes shape (unit_call number) kind message e in record { count = parts.0; takes = parts.1 }
op_closes shape _ kind message e = absurd cc

pub none_closing : (at count found : ℕ) → closing_faults at count found ≡ [] → count ≡ found
none_closing at count found none = by (count == found) (eqb-true count found) none
  where
    by : (same : Bool) → (same ≡ true → count ≡ found) → (if same then [] else StackLeft at ∷ []) ≡ [] → count ≡ found
    by true e none = e refl
    by false e none = absurd cc

closed_some : (message : Bool) (items : List Item) → length items ≡ 1 + one_if message → AreTreesBelow message items → IsSome (closed_tree message items)
closed_some message [] long trees = absurd (omega (arith, long))
closed_some false (Message ∷ items) long trees = absurd (false≢true trees.0)
closed_some false (Tree a ∷ []) long trees = refl
closed_some false (Tree a ∷ b ∷ items) long trees = absurd (omega (arith, long))
closed_some true (top ∷ []) long trees = absurd (omega (arith, long))
closed_some true (top ∷ Tree a ∷ []) long trees = refl
closed_some true (Tree b ∷ Message ∷ []) long trees = absurd trees
closed_some true (Message ∷ Message ∷ []) long trees = absurd trees.1
closed_some true (top ∷ a ∷ b ∷ items) long trees = absurd (omega (arith, long))

-- ---- one instruction

-- What tells that nothing is wrong at an instruction that closes nothing: it has its operands, and nothing is wrong
-- after it.
pub none_here : (closes pure lacks : Bool) (found here behind : List ClauseFault) (lack : ClauseFault) → closes ≡ false → pure ≡ true
    → (if closes then found else if not pure then [] else if lacks then lack ∷ [] else (here ++ behind)) ≡ []
    → (lacks ≡ false) × (behind ≡ [])
none_here true pure lacks found here behind lack stays allowed none = absurd cc
none_here false false lacks found here behind lack stays allowed none = absurd (false≢true allowed)
none_here false true true found here behind lack stays allowed none = absurd cc
none_here false true false found here behind lack stays allowed none = (refl, (none_in_both here behind none).1)

both_some : (turned : Bool) (test : Term) (target next : Option Term) → IsSome target → IsSome next → IsSome (condition turned test target next)
both_some turned test None next a b = absurd (false≢true a)
both_some turned test (Some t) None a b = absurd (false≢true b)
both_some false test (Some t) (Some n) a b = refl
both_some true test (Some t) (Some n) a b = refl

and_then_some : (f : List Item → Option Term) (after : Option (List Item)) (items : List Item) → after ≡ Some items → IsSome (f items) → IsSome (option_and_then f after)
and_then_some f after items is some = subst (λ (o : Option (List Item)). IsSome (option_and_then f o)) (sym is) some

-- Where a way may go on from an IL offset, up to the closing call.
pub record Onward (is : List Instr) (at last later : ℕ) : Type 0 where
  pub above : at < later
  pub inside : later ≤ last
  pub begins : begins_at is later ≡ true

module _ (is : List Instr) (shape : Shape) (last : ℕ) (allowed : ℕ → Bool) (faults : ℕ → List Told → List ClauseFault) (from : ℕ → List Item → Option Term) (i : Instr)
    (later_has : (later : ℕ) (told : List Told) (items : List Item) → Onward is i.at last later → length told ≡ length items → AreTreesBelow (allowed later) items
    → faults later told ≡ [] → IsSome (from later items)) where
  -- What is wrong after an operation.
  abbrev wrong_behind : Op → List Told → List ClauseFault
  wrong_behind op told = flat_map (λ later. faults later (stack_behind shape i op told)) (ways_behind op (i.at + i.size))

  either_way : (target : ℕ) (a : Term) (turned : Bool) (told : List Told) (items : List Item) → length told ≡ length items → AreTrees items
      → Onward is i.at last target → Onward is i.at last (i.at + i.size) → faults target told ++ (faults (i.at + i.size) told ++ []) ≡ []
      → IsSome (condition turned a (from target items) (from (i.at + i.size) items))
  either_way target a turned told items same below there next none =
      let parts = none_in_both (faults target told) (faults (i.at + i.size) told ++ []) none in
      both_some turned a (from target items) (from (i.at + i.size) items)
      (later_has target told items there same (trees_below (allowed target) items below) parts.0)
      (later_has (i.at + i.size) told items next same (trees_below (allowed (i.at + i.size)) items below) (none_in_both (faults (i.at + i.size) told) [] parts.1).0)

  branch_has : (test : Test) (target : ℕ) (told : List Told) (items : List Item) → length told ≡ length items → AreTrees items
      → nat_lt (length told) (operand_count shape (ops.Branch test target)) ≡ false
      → Onward is i.at last target → Onward is i.at last (i.at + i.size) → wrong_behind (ops.Branch test target) told ≡ []
      → IsSome (branch_tree from test target (i.at + i.size) items)
  branch_has tests.Always target told items long trees has there next none =
      later_has target told items there long (trees_below (allowed target) items trees) (none_in_both (faults target told) [] none).0
  branch_has tests.True target [] items long trees has there next none = absurd cc
  branch_has tests.True target (t ∷ told) [] long trees has there next none = absurd (omega (arith, long))
  branch_has tests.True target (t ∷ told) (Message ∷ items) long trees has there next none = absurd trees
  branch_has tests.True target (t ∷ told) (Tree a ∷ items) long trees has there next none =
      either_way target a false told items (omega (arith, long)) trees there next none
  branch_has tests.False target [] items long trees has there next none = absurd cc
  branch_has tests.False target (t ∷ told) [] long trees has there next none = absurd (omega (arith, long))
  branch_has tests.False target (t ∷ told) (Message ∷ items) long trees has there next none = absurd trees
  branch_has tests.False target (t ∷ told) (Tree a ∷ items) long trees has there next none =
      either_way target a true told items (omega (arith, long)) trees there next none
  branch_has (tests.Cmp op) target [] items long trees has there next none = absurd cc
  branch_has (tests.Cmp op) target (t ∷ []) items long trees has there next none = absurd cc
  branch_has (tests.Cmp op) target (t ∷ u ∷ told) [] long trees has there next none = absurd (omega (arith, long))
  branch_has (tests.Cmp op) target (t ∷ u ∷ told) (Message ∷ items) long trees has there next none = absurd trees
  branch_has (tests.Cmp op) target (t ∷ u ∷ told) (Tree b ∷ []) long trees has there next none = absurd (omega (arith, long))
  branch_has (tests.Cmp op) target (t ∷ u ∷ told) (Tree b ∷ Message ∷ items) long trees has there next none = absurd trees
  branch_has (tests.Cmp op) target (t ∷ u ∷ told) (Tree b ∷ Tree a ∷ items) long trees has there next none =
      either_way target (terms.Bin (branch_operator op).0 a b) (branch_operator op).1 told items (omega (arith, long)) trees there next none

  straight_has : (op : Op) (message : Bool) (told : List Told) (items : List Item) → length told ≡ length items → AreTrees items
      → closes op ≡ false → is_branch op ≡ false → is_pure_before message op ≡ true → (message ≡ true → allowed (i.at + i.size) ≡ true)
      → nat_lt (length told) (operand_count shape op) ≡ false → Onward is i.at last (i.at + i.size)
      → faults (i.at + i.size) (stack_by shape i op (operand_count shape op) told) ++ [] ≡ []
      → IsSome (option_and_then (from (i.at + i.size)) (items_behind op items))
  straight_has op message told items long trees stays goes pure message_there has next none =
      let after = op_leaves shape i message told items long trees op stays goes pure has in
      let new = stack_by shape i op (operand_count shape op) told in
      and_then_some (from (i.at + i.size)) (items_behind op items) after.items after.is
      (later_has (i.at + i.size) new after.items next after.long (allowed_below message (allowed (i.at + i.size)) after.items message_there after.kept)
      (none_in_both (faults (i.at + i.size) new) [] none).0)
    where
      allowed_below : (message other : Bool) (items : List Item) → (message ≡ true → other ≡ true) → AreTreesBelow message items → AreTreesBelow other items
      allowed_below message other [] to trees = tt
      allowed_below message other (Tree a ∷ items) to trees = trees
      allowed_below message other (Message ∷ items) to trees = (to trees.0, trees.1)

  op_has : (op : Op) (message : Bool) (told : List Told) (items : List Item) → length told ≡ length items → AreTrees items
      → closes op ≡ false → is_pure_before message op ≡ true → (message ≡ true → allowed (i.at + i.size) ≡ true)
      → nat_lt (length told) (operand_count shape op) ≡ false → Onward is i.at last (i.at + i.size) → AllByRecursion (Onward is i.at last) (branch_targets op)
      → wrong_behind op told ≡ [] → IsSome (tree_at from (closing op) i op items)
  op_has (ops.Branch test target) message told items long trees stays pure there has next targets none =
      branch_has test target told items long trees has targets.0 next none
  op_has ops.Nop message told items long trees stays pure there has next targets none = straight_has ops.Nop message told items long trees stays refl pure there has next none
  op_has (ops.Call number) message told items long trees stays pure there has next targets none =
      rw (open_call (unit_call number) stays) (straight_has (ops.Call number) message told items long trees stays refl pure there has next none)
  op_has op message told items long trees stays pure there has next targets none = straight_has op message told items long trees stays refl pure there has next none

-- ---- the whole code

-- The code from an IL offset to a call that closes a clause, with nothing wrong in it. No other instruction of it
-- closes anything.
pub record IsClause (is : List Instr) (shape : Shape) (start : ℕ) (call : Instr) : Type 0 where
  pub short : AreOfShortCode is
  pub targets : AllByRecursion (λ i. AllByRecursion (λ at. begins_at is at ≡ true) (branch_targets i.op)) is
  pub kind : ClauseKind
  pub message : Bool
  pub closes_it : closing call.op ≡ Some (kind, message)
  pub there : instr_at is call.at ≡ Some call
  pub others_stay : (i : Instr) → instr_at is i.at ≡ Some i → start ≤ i.at → i.at < call.at → closes i.op ≡ false
  pub right : (i : Instr) → instr_at is i.at ≡ Some i → start ≤ i.at → i.at < call.at → faults_of is shape start call i ≡ []

onward_each : (is : List Instr) (start at last : ℕ) (ats : List ℕ) → list_any (λ later. nat_le later at) ats ≡ false
    → list_any (λ later. nat_lt later start || nat_lt last later) ats ≡ false → AllByRecursion (λ later. begins_at is later ≡ true) ats
    → AllByRecursion (Onward is at last) ats
onward_each is start at last [] above inside begins = tt
onward_each is start at last (later ∷ ats) above inside begins =
    let up = or_parts (nat_le later at) (list_any (λ later. nat_le later at) ats) above in
    let in_code = or_parts (nat_lt later start || nat_lt last later) (list_any (λ later. nat_lt later start || nat_lt last later) ats) inside in
    let within = or_parts (nat_lt later start) (nat_lt last later) in_code.0 in (
      record { above = leb-false later at up.0; inside = ltb-false last later within.1; begins = begins.0 },
      onward_each is start at last ats up.1 in_code.1 begins.1,
    )

-- What no fault tells of an instruction below the closing call.
pub record IsRight (is : List Instr) (last : ℕ) (i : Instr) : Type 0 where
  pub pure : is_pure is i ≡ true
  pub onward : AllByRecursion (Onward is i.at last) (branch_targets i.op)

pub right_from : (is : List Instr) (shape : Shape) (start : ℕ) (call i : Instr) → AllByRecursion (λ at. begins_at is at ≡ true) (branch_targets i.op)
    → faults_of is shape start call i ≡ [] → IsRight is call.at i
right_from is shape start call i begins none_of =
    let none = none_in_both (fault_if (not (is_pure is i)) (NotPure i.at) ++ branch_faults start call i) _ none_of in
    let first = none_in_both (fault_if (not (is_pure is i)) (NotPure i.at)) (branch_faults start call i) none.0 in
    let branch = none_in_both (fault_if (list_any (λ target. nat_le target i.at) (branch_targets i.op)) (Backward i.at)) _ first.1 in
    record {
      pure = not-false (is_pure is i) (no_fault_if (not (is_pure is i)) (NotPure i.at) first.0);
      onward =
          onward_each is start i.at call.at (branch_targets i.op) (no_fault_if _ (Backward i.at) branch.0) (no_fault_if _ (IntoBlock i.at) branch.1) begins;
    }

-- A pure instruction that takes a message closes a clause.
call_takes : (call : Option UnitCall) → takes_message call ≡ true → is_clause_call call ≡ true → is_closing_call call ≡ true
call_takes (Some (calls.Requires m)) takes pure = refl
call_takes (Some (calls.Ensures m)) takes pure = refl
call_takes (Some (calls.Assert m)) takes pure = absurd (false≢true pure)
call_takes (Some (calls.Assume m)) takes pure = absurd (false≢true pure)
call_takes _ takes pure = absurd (false≢true takes)

message_closes : (message : Bool) (op : Op) → calls_with_message op ≡ true → is_pure_before message op ≡ true → closes op ≡ true
message_closes message (ops.Call number) takes pure = call_takes (unit_call number) takes pure
message_closes message _ takes pure = absurd (false≢true takes)

module _ (is : List Instr) (shape : Shape) (start : ℕ) (call : Instr) (clause : IsClause is shape start call) where
  -- Only the closing call may find a message.
  abbrev allowed : ℕ → Bool
  allowed at = (at == call.at) && calls_with_message call.op

  abbrev pub faults_behind : ℕ → ℕ → ℕ → List Told → List ClauseFault
  faults_behind most at later told = if goes_forward at later call then faults_from most is shape call later told else []

  abbrev pub trees_behind : ℕ → ℕ → ℕ → List Item → Option Term
  trees_behind most at later items = if nat_lt at later then tree_from most is later items else None

  abbrev next_takes : Instr → Bool
  next_takes i = option_map_or (λ next. calls_with_message next.op) (instr_at is (i.at + i.size)) false

  pub is_right : (i : Instr) → instr_at is i.at ≡ Some i → start ≤ i.at → i.at < call.at → IsRight is call.at i
  is_right i found above below =
      right_from is shape start call i (of_found (λ j. AllByRecursion (λ at. begins_at is at ≡ true) (branch_targets j.op)) is i.at i clause.targets found)
      (clause.right i found above below)

  message_is_there : (i : Instr) → instr_at is i.at ≡ Some i → start ≤ i.at → i.at < call.at → next_takes i ≡ true → allowed (i.at + i.size) ≡ true
  message_is_there i found above below takes =
      let next = next_begins is i.at call.at i call clause.short found clause.there below in
      let (j, is_j) = begin_found is (i.at + i.size) next.begins in
      let same : j.at ≡ i.at + i.size = found_at is (i.at + i.size) j is_j in
      let takes_j : calls_with_message j.op ≡ true = subst (λ (o : Option Instr). option_map_or (λ next. calls_with_message next.op) o false ≡ true) is_j takes in
      let there_j : instr_at is j.at ≡ Some j = ap (instr_at is) same ∙ is_j in
      elim (cases_lt (i.at + i.size) call.at) [
        | inl lower ↦
            let above_j : start ≤ j.at = omega (arith, same, above) in
            let below_j : j.at < call.at = omega (arith, same, lower) in
            absurd (both_ways (closes j.op) (clause.others_stay j there_j above_j below_j)
            (message_closes (next_takes j) j.op takes_j (is_right j there_j above_j below_j).pure))
        | inr upper ↦
            let end : i.at + i.size ≡ call.at = omega (arith, upper, next.inside) in
            let one : j ≡ call = same_Some j call (sym is_j ∙ ap (instr_at is) end ∙ clause.there) in
            and_from ((i.at + i.size) == call.at) (calls_with_message call.op) (eq-eqb (i.at + i.size) call.at end)
            (subst (λ (k : Instr). calls_with_message k.op ≡ true) one takes_j)
      ]

  goes_on : (most at later : ℕ) (told : List Told) (items : List Item) → at < later → later ≤ call.at → faults_behind most at later told ≡ []
      → (faults_from most is shape call later told ≡ [] → IsSome (tree_from most is later items)) → IsSome (trees_behind most at later items)
  goes_on most at later told items above inside none some =
      let forward : goes_forward at later call ≡ true = and_from (nat_lt at later) (nat_le later call.at) (lt-ltb at later above) (le-leb later call.at inside) in
      let same : nat_lt at later ≡ true = lt-ltb at later above in
      rw same (some (subst (λ (b : Bool). (if b then faults_from most is shape call later told else []) ≡ []) forward none))

  closing_has : (at : ℕ) (from : ℕ → List Item → Option Term) (told : List Told) (items : List Item) → length told ≡ length items → AreTreesBelow (allowed at) items
      → closing_faults call.at (operand_count shape call.op) (length told) ≡ [] → IsSome (tree_at from (closing call.op) call call.op items)
  closing_has at from told items long trees none =
      let closes_so = op_closes shape call.op clause.kind clause.message clause.closes_it in
      let count = none_closing call.at (operand_count shape call.op) (length told) none in
      rw (clause.closes_it) (closed_some clause.message items (sym long ∙ sym count ∙ closes_so.count)
      (only_there (at == call.at) (calls_with_message call.op) items closes_so.takes trees))
    where
      only_there : (here takes : Bool) (items : List Item) → takes ≡ clause.message → AreTreesBelow (here && takes) items → AreTreesBelow clause.message items
      only_there here takes [] same trees = tt
      only_there here takes (Tree a ∷ items) same trees = trees
      only_there here takes (Message ∷ items) same trees = (sym same ∙ (and_parts here takes trees.0).1, trees.1)

  abbrev HasTrees : ℕ → Type 0
  HasTrees most = (at : ℕ) (told : List Told) (items : List Item) → left is at ≤ most → start ≤ at → at ≤ call.at → begins_at is at ≡ true
      → length told ≡ length items → AreTreesBelow (allowed at) items → faults_from most is shape call at told ≡ [] → IsSome (tree_from most is at items)

  below_has : (most : ℕ) → HasTrees most → (i : Instr) (told : List Told) (items : List Item) → instr_at is i.at ≡ Some i → left is i.at ≤ suc most → start ≤ i.at → i.at < call.at
      → length told ≡ length items → AreTrees items → faults_at (faults_behind most i.at) is shape i told ≡ []
      → IsSome (tree_at (trees_behind most i.at) (closing i.op) i i.op items)
  below_has most rest i told items found few above below long trees none =
      let right = is_right i found above below in
      let next = next_begins is i.at call.at i call clause.short found clause.there below in
      let size : IsOfShortCode i = of_found IsOfShortCode is i.at i clause.short.each found in
      let parts = none_here (closes i.op) (is_pure is i) (nat_lt (length told) (operand_count shape i.op)) (closing_faults i.at (operand_count shape i.op) (length told))
      (faults_here i i.op told) (flat_map (λ later. faults_behind most i.at later (stack_behind shape i i.op told)) (ways_behind i.op (i.at + i.size))) (StackLeft i.at)
      (clause.others_stay i found above below) right.pure none in
      op_has is shape call.at allowed (faults_behind most i.at) (trees_behind most i.at) i
      (λ later others stack on same below_it none_later. goes_on most i.at later others stack on.above on.inside none_later
      (λ no_faults. rest later others stack (omega (arith, left_falls is i.at later clause.short (left_some is i.at i found) on.above, few))
      (omega (arith, above, on.above)) on.inside on.begins same below_it no_faults))
      i.op (next_takes i) told items long trees (clause.others_stay i found above below) right.pure
      (message_is_there i found above below) parts.0 (record { above = omega (arith, size.some); inside = next.inside; begins = next.begins }) right.onward parts.1

  pub closes_from : (op : Op) → closing op ≡ Some (clause.kind, clause.message) → closes op ≡ true
  closes_from (ops.Call number) e = by (unit_call number) e
    where
      by : (c : Option UnitCall) → closed_by c ≡ Some (clause.kind, clause.message) → is_closing_call c ≡ true
      by (Some (calls.Requires m)) e = refl
      by (Some (calls.Ensures m)) e = refl
      by _ e = absurd cc
  closes_from _ e = absurd cc

  abbrev HasTreesAt : ℕ → ℕ → Type 0
  HasTreesAt most at = (told : List Told) (items : List Item) → left is at ≤ suc most → at ≤ call.at
      → length told ≡ length items → AreTreesBelow (allowed at) items → faults_from (suc most) is shape call at told ≡ [] → IsSome (tree_from (suc most) is at items)

  instr_has : (most : ℕ) → HasTrees most → (i : Instr) → instr_at is i.at ≡ Some i → start ≤ i.at → HasTreesAt most i.at
  instr_has most rest i found above told items few inside long trees none =
      let none_i : faults_at (faults_behind most i.at) is shape i told ≡ [] =
      subst (λ (o : Option Instr). option_map_or (λ j. faults_at (faults_behind most i.at) is shape j told) o [] ≡ []) found none in
      rw found (elim (cases_lt i.at call.at) [
        | inl lower ↦
            below_has most rest i told items found few above lower long (below_call items (ne_eqb i.at call.at (λ e. omega (arith, e, lower))) trees) none_i
        | inr upper ↦
            let end : i.at ≡ call.at = omega (arith, upper, inside) in
            let one : i ≡ call = same_Some i call (sym found ∙ ap (instr_at is) end ∙ clause.there) in
            let none_call : faults_at (faults_behind most i.at) is shape call told ≡ [] =
            subst (λ (k : Instr). faults_at (faults_behind most i.at) is shape k told ≡ []) one none_i in
            subst (λ (k : Instr). IsSome (tree_at (trees_behind most i.at) (closing k.op) k k.op items)) (sym one)
            (closing_has i.at (trees_behind most i.at) told items long trees
            (subst (λ (b : Bool). (if b then closing_faults call.at (operand_count shape call.op) (length told) else faults_open (faults_behind most i.at) told) ≡ [])
            (closes_from call.op clause.closes_it) none_call))
      ])
    where
      faults_open : (ℕ → List Told → List ClauseFault) → List Told → List ClauseFault
      faults_open from told =
          if not (is_pure is call) then []
          else if nat_lt (length told) (operand_count shape call.op) then StackLeft call.at ∷ []
          else faults_here call call.op told ++ flat_map (λ later. from later (stack_behind shape call call.op told)) (ways_behind call.op (call.at + call.size))

      below_call : (items : List Item) → (i.at == call.at) ≡ false → AreTreesBelow (allowed i.at) items → AreTrees items
      below_call [] other trees = tt
      below_call (Tree a ∷ items) other trees = trees
      below_call (Message ∷ items) other trees = absurd (both_ways (i.at == call.at) other (and_parts (i.at == call.at) (calls_with_message call.op) trees.0).0)

  has_trees : (most : ℕ) → HasTrees most
  has_trees zero at told items few above inside begins long trees none =
      let (i, found) = begin_found is at begins in absurd (omega (arith, left_some is at i found, few))
  has_trees (suc most) at told items few above inside begins long trees none =
      let (i, found) = begin_found is at begins in
      let same : i.at ≡ at = found_at is at i found in
      subst (HasTreesAt most) same (instr_has most (has_trees most) i (ap (instr_at is) same ∙ found) (omega (arith, same, above))) told items few inside long trees none

-- A clause's code with no fault has a tree.
pub clause_has_tree : (is : List Instr) (shape : Shape) (start : ℕ) (call : Instr) → IsClause is shape start call → begins_at is start ≡ true → start ≤ call.at
    → way_faults is shape start call ≡ [] → IsSome (tree_of is start)
clause_has_tree is shape start call clause begins inside none =
    has_trees is shape start call clause (length is) start [] [] (left_most is start) (omega arith) inside begins refl tt none
