-- What the stack in memory tells of the items for which it stands.
use Rattle.std.proofs.Common.{◌≡◌, ◌⊎◌, ℕ, zero, suc, ◌+◌, ◌-◌, ◌<◌, Bool, true, false, nat_lt, List, [], ◌∷◌, Result, Ok, Err, IfOk, OnOk, Option, Some, None, IfSome, is_some, if◌then◌else◌, option_map, refl, sym, ap, subst, ◌∙◌, arith}
use Rattle.std.specs.Option.{option_and_then}
use Rattle.std.proofs.lemmas.Bool.{lt-ltb, ltb-true, or_left}
use Rattle.std.proofs.lemmas.Option.{none-some, same_Some}
use Rattle.cil_model.specs.ClauseTrees.{Item, Tree, Message, branch_operator, closed_tree, closing, items_behind, with_call}
use Rattle.cil_model.specs.Limits.{MAX_NODES}
use Rattle.cil_model.specs.Terms as terms
use Rattle.cil_model.specs.Terms.{Term, condition_depth, term_size}
use Rattle.cil_model.specs.UnitCalls.{unit_call}
use Rattle.cil_model.specs.declared.clause.ClauseKind.{ClauseKind}
use Rattle.cil_model.specs.declared.instruction.Instr.{Instr}
use Rattle.cil_model.specs.declared.instruction.Op.{Op}
use Rattle.cil_model.specs.declared.instruction.Op.TheVariants as ops
use Rattle.cil_model.specs.declared.instruction.Test.{Test}
use Rattle.cil_model.specs.declared.instruction.Test.TheVariants as tests
use Rattle.cil_model.specs.declared.instruction.UnOp.TheVariants as unary
use Rattle.cil_model.specs.declared.unit_numbers.UnitCall.{UnitCall}
use Rattle.cil_model.specs.declared.unit_numbers.UnitCall.TheVariants as calls
use Rattle.contract_extract.proofs.TreeLemmas.Cutting.{behind_without, below_without, closed_without, cut_map, cut_within, tested_without}
use Rattle.contract_extract.proofs.TreeLemmas.Ends.{branching_here, closing_here, flat_tested, over}
use Rattle.contract_extract.proofs.TreeLemmas.Growing.{closed_flat, full_passes, keeps_grown, keeps_on, keeps_same, leaf_passes}
use Rattle.contract_extract.proofs.TreeLemmas.Stretches.{flat_behind, jumping, lacking, passing}
use Rattle.contract_extract.specs.Dropping.{GoesTo, IsWithin, Spares, behind, cut, message_dropped, without}
use Rattle.contract_extract.specs.Growth.{AreFlat, Grows, IsGrown, Keeps, ends_stretch, forked, jump_of, later_than, onward, passes, tested, tree_here}
use Rattle.contract_extract.specs.TreeStacks.{IsFrom, IsFromNext, IsFromWorking, StandsFor, closed_slot, kept, left_if, over_one, over_two, slots_behind, slot_of, slots_called, slots_of, slots_tested, top_tested}
use Rattle.contract_extract.specs.declared.trees.conditions.Condition.{Condition}
use Rattle.contract_extract.specs.declared.trees.dropped.Dropped.{Dropped}
use Rattle.contract_extract.specs.declared.trees.limits.Grown.{Grown}
use Rattle.contract_extract.specs.declared.trees.limits.Limits.{Limits}
use Rattle.contract_extract.specs.declared.trees.stretch.Working.{Working}
use Rattle.contract_extract.specs.declared.trees.tree_stack.Counted.{Counted}
use Rattle.contract_extract.specs.declared.trees.tree_stack.Slot.{Slot}
use Rattle.contract_extract.specs.declared.trees.tree_stack.Slot.TheVariants as slots

-- ---- operations

-- A tree that is not kept, or that is.
abbrev kept_if : Bool → Term → ℕ → Option Counted
kept_if large tree nodes = if large then None else Some (record { tree = tree; nodes = nodes })

large : (tree : Term) (nodes : ℕ) → MAX_NODES < nodes → kept tree nodes ≡ None
large tree nodes more = rw (lt-ltb MAX_NODES nodes more) refl

one : (root : Term → Term) (a : Term) (n : ℕ) (rest : List Slot)
    → over_one root (slots.Tree (kept a n) ∷ rest) ≡ Some (slots.Tree (kept (root a) (n + 1)) ∷ rest)
one root a n rest = by (nat_lt MAX_NODES n) (ltb-true MAX_NODES n)
  where
    by : (more : Bool) → (more ≡ true → MAX_NODES < n)
        → over_one root (slots.Tree (kept_if more a n) ∷ rest) ≡ Some (slots.Tree (kept (root a) (n + 1)) ∷ rest)
    by true above = (let larger : MAX_NODES < n + 1 = (let x = above refl in omega (arith, x)) in
        ap (λ (slot : Option Counted). Some (slots.Tree slot ∷ rest)) (sym (large (root a) (n + 1) larger)))
    by false above = refl

two : (root : Term → Term → Term) (a b : Term) (n m : ℕ) (rest : List Slot)
    → over_two root (slots.Tree (kept b m) ∷ slots.Tree (kept a n) ∷ rest) ≡ Some (slots.Tree (kept (root a b) (n + m + 1)) ∷ rest)
two root a b n m rest = by (nat_lt MAX_NODES n) (nat_lt MAX_NODES m) (ltb-true MAX_NODES n) (ltb-true MAX_NODES m)
  where
    not_kept : MAX_NODES < n + m + 1
        → Some (slots.Tree None ∷ rest) ≡ Some (slots.Tree (kept (root a b) (n + m + 1)) ∷ rest)
    not_kept more = ap (λ (slot : Option Counted). Some (slots.Tree slot ∷ rest)) (sym (large (root a b) (n + m + 1) more))

    by : (first second : Bool) → (first ≡ true → MAX_NODES < n) → (second ≡ true → MAX_NODES < m)
        → over_two root (slots.Tree (kept_if second b m) ∷ slots.Tree (kept_if first a n) ∷ rest) ≡ Some (slots.Tree (kept (root a b) (n + m + 1)) ∷ rest)
    by first true above_n above_m = not_kept (let x = above_m refl in omega (arith, x))
    by true false above_n above_m = not_kept (let x = above_n refl in omega (arith, x))
    by false false above_n above_m = refl

called : (call : Option UnitCall) (items : List Item) → slots_called call (slots_of items) ≡ option_map slots_of (with_call call items)
called (Some (calls.Result place)) items = refl
called (Some (calls.OldValue place)) [] = refl
called (Some (calls.OldValue place)) (Message ∷ items) = refl
called (Some (calls.OldValue place)) (Tree a ∷ items) = one terms.Old a (term_size a) (slots_of items)
called _ items = refl

behind_slots : (op : Op) (items : List Item) → slots_behind op (slots_of items) ≡ option_map slots_of (items_behind op items)
behind_slots (ops.Bin operator) [] = refl
behind_slots (ops.Bin operator) (Message ∷ items) = refl
behind_slots (ops.Bin operator) (Tree b ∷ []) = by (kept b (term_size b))
  where
    by : (slot : Option Counted) → over_two (terms.Bin operator) (slots.Tree slot ∷ []) ≡ None
    by None = refl
    by (Some x) = refl
behind_slots (ops.Bin operator) (Tree b ∷ Message ∷ items) = by (kept b (term_size b))
  where
    by : (slot : Option Counted) → over_two (terms.Bin operator) (slots.Tree slot ∷ slots.Message ∷ slots_of items) ≡ None
    by None = refl
    by (Some x) = refl
behind_slots (ops.Bin operator) (Tree b ∷ Tree a ∷ items) = two (terms.Bin operator) a b (term_size a) (term_size b) (slots_of items)
behind_slots (ops.LoadElem place) [] = refl
behind_slots (ops.LoadElem place) (Message ∷ items) = refl
behind_slots (ops.LoadElem place) (Tree b ∷ []) = by (kept b (term_size b))
  where
    by : (slot : Option Counted) → over_two (terms.Elem place) (slots.Tree slot ∷ []) ≡ None
    by None = refl
    by (Some x) = refl
behind_slots (ops.LoadElem place) (Tree b ∷ Message ∷ items) = by (kept b (term_size b))
  where
    by : (slot : Option Counted) → over_two (terms.Elem place) (slots.Tree slot ∷ slots.Message ∷ slots_of items) ≡ None
    by None = refl
    by (Some x) = refl
behind_slots (ops.LoadElem place) (Tree b ∷ Tree a ∷ items) = two (terms.Elem place) a b (term_size a) (term_size b) (slots_of items)
behind_slots ops.Neg [] = refl
behind_slots ops.Neg (Message ∷ items) = refl
behind_slots ops.Neg (Tree a ∷ items) = one (terms.Un unary.Neg) a (term_size a) (slots_of items)
behind_slots ops.Not [] = refl
behind_slots ops.Not (Message ∷ items) = refl
behind_slots ops.Not (Tree a ∷ items) = one (terms.Un unary.Not) a (term_size a) (slots_of items)
behind_slots ops.ConvI4 [] = refl
behind_slots ops.ConvI4 (Message ∷ items) = refl
behind_slots ops.ConvI4 (Tree a ∷ items) = refl
behind_slots ops.Length [] = refl
behind_slots ops.Length (Message ∷ items) = refl
behind_slots ops.Length (Tree a ∷ items) = one terms.Len a (term_size a) (slots_of items)
behind_slots (ops.Call number) items = called (unit_call number) items
behind_slots _ items = refl

-- ---- steps

-- What is found where the way goes on.
found_next : (tree : Option Term) (from : ℕ → List Item → Option Term) (dropped : Dropped) (stack : List Slot) (items : List Item) (later : Option ℕ)
    → StandsFor stack (without dropped items) → tree ≡ option_and_then (λ n. from n items) later → IsFromNext tree from dropped stack later
found_next tree from dropped stack items None stands same = keeps_same tree None same
found_next tree from dropped stack items (Some at) stands same = record { items = items; stands = stands; keeps = keeps_same tree (from at items) same }

idle_behind : (op : Op) (target : ℕ) (dropped : Dropped) (items : List Item) → ends_stretch op ≡ false → jump_of op ≡ Some target
    → without dropped items ≡ without (behind op dropped) items
unfolding without
idle_behind (ops.Branch tests.Always to) target dropped items straight jump =
    ap (λ (n : ℕ). cut n dropped.count items) (let e : dropped.above ≡ dropped.above - 0 + 0 = omega arith in e)
idle_behind (ops.Branch tests.True to) target dropped items straight jump = absurd cc
idle_behind (ops.Branch tests.False to) target dropped items straight jump = absurd cc
idle_behind (ops.Branch (tests.Cmp op) to) target dropped items straight jump = absurd cc
idle_behind _ target dropped items straight jump = absurd (none-some target jump)

pub jumps_on : (from : ℕ → List Item → Option Term) (i : Instr) (target : ℕ) (stack : List Slot) (items : List Item) (dropped : Dropped)
    → StandsFor stack (without dropped items) → ends_stretch i.op ≡ false → jump_of i.op ≡ Some target
    → IsFromNext (tree_here from i items) from (behind i.op dropped) stack (later_than i.at target)
jumps_on from i target stack items dropped stands straight jump =
    found_next (tree_here from i items) from (behind i.op dropped) stack items (later_than i.at target)
    (subst (StandsFor stack) (idle_behind i.op target dropped items straight jump) stands) (jumping from i target items straight jump)

behind_stack : (op : Op) (stack : List Slot) (items : List Item) → StandsFor stack items → slots_behind op stack ≡ option_map slots_of (items_behind op items)
behind_stack op stack items stands = ap (slots_behind op) stands.slots ∙ behind_slots op items

-- The items that an operation leaves, where it finds its operands.
record Left (op : Op) (items : List Item) (dropped : Dropped) (stack : List Slot) : Type 0 where
  after : List Item
  are : Some after ≡ items_behind op items
  stands : StandsFor stack (without dropped after)

left_items : (op : Op) (items : List Item) (dropped : Dropped) (stack : List Slot) → Spares op dropped → AreFlat (without dropped items)
    → Some stack ≡ option_map slots_of (items_behind op (without dropped items)) → Left op items (behind op dropped) stack
left_items op items dropped stack spares flat e =
    by (items_behind op items) refl (behind_without op dropped items spares)
  where
    by : (o : Option (List Item)) → o ≡ items_behind op items → items_behind op (without dropped items) ≡ option_map (without (behind op dropped)) o
        → Left op items (behind op dropped) stack
    by None is same = absurd (none-some stack (sym (e ∙ ap (option_map slots_of) same)))
    by (Some after) is same = record {
      after = after;
      are = is;
      stands = record {
        slots = same_Some stack (slots_of (without (behind op dropped) after)) (e ∙ ap (option_map slots_of) same);
        flat = subst (λ (o : Option (List Item)). IfSome o AreFlat) same (flat_behind op (without dropped items) flat);
      };
    }

pub passes_on : (from : ℕ → List Item → Option Term) (i : Instr) (before after : List Slot) (items : List Item) (dropped : Dropped) (fits : Bool) (later : Option ℕ)
    → StandsFor before (without dropped items) → Spares i.op dropped → ends_stretch i.op ≡ false → jump_of i.op ≡ None
    → left_if fits after ≡ slots_behind i.op before → fits ≡ true → later ≡ later_than i.at (i.at + i.size)
    → IsFromNext (tree_here from i items) from (behind i.op dropped) after later
passes_on from i before after items dropped fits later stands spares straight stays left fitting is_later =
    let found = left_items i.op items dropped after spares stands.flat
    (ap (λ (b : Bool). left_if b after) (sym fitting) ∙ left ∙ behind_stack i.op before (without dropped items) stands) in
    found_next (tree_here from i items) from (behind i.op dropped) after found.after later found.stands
    (passing from i items found.after straight stays found.are ∙ ap (option_and_then (λ n. from n found.after)) (sym is_later))

no_items : (o : Option (List Item)) → None ≡ option_map slots_of o → None ≡ o
no_items None e = refl
no_items (Some items) e = absurd (none-some (slots_of items) e)

no_items_without : (dropped : Dropped) (o : Option (List Item)) → None ≡ option_map (without dropped) o → None ≡ o
no_items_without dropped None e = refl
no_items_without dropped (Some items) e = absurd (none-some (without dropped items) e)

pub lacks : (from : ℕ → List Item → Option Term) (i : Instr) (before after : List Slot) (items : List Item) (dropped : Dropped)
    → StandsFor before (without dropped items) → Spares i.op dropped → ends_stretch i.op ≡ false → jump_of i.op ≡ None
    → left_if false after ≡ slots_behind i.op before → Keeps (tree_here from i items) None
lacks from i before after items dropped stands spares straight stays left =
    keeps_same (tree_here from i items) None
    (lacking from i items straight stays (no_items_without (behind i.op dropped) (items_behind i.op items)
    (no_items (items_behind i.op (without dropped items)) (left ∙ behind_stack i.op before (without dropped items) stands)
    ∙ behind_without i.op dropped items spares)))

-- A way goes on to the target of a branch, or to the next instruction.
pub goes_to : (i : Instr) (later : ℕ) → ((jump_of i.op ≡ Some later) ⊎ (later ≡ i.at + i.size)) → IfSome (later_than i.at later) (GoesTo i)
goes_to i later way = by (nat_lt i.at later) (ltb-true i.at later)
  where
    by : (goes : Bool) → (goes ≡ true → i.at < later) → IfSome (if goes then Some later else None) (GoesTo i)
    by true above = (above refl, way)
    by false above = tt

-- ---- stretches

pub empty_stands : (dropped : Dropped) (stack : List Slot) → stack ≡ [] → StandsFor stack (without dropped [])
unfolding without
empty_stands dropped stack is = by dropped.above dropped.count
  where
    by : (above count : ℕ) → StandsFor stack (cut above count [])
    by zero zero = record { slots = is; flat = tt }
    by zero (suc count) = record { slots = is; flat = tt }
    by (suc above) count = record { slots = is; flat = tt }

-- What is found from some items on is found from those before them.
pub from_before : (tree : Option Term) (from : List Item → Option Term) (dropped : Dropped) (before : List Slot) (other : ℕ → List Item → Option Term)
    (after : List Slot) (working : Option Working) → IsFrom tree from dropped before
    → ((items : List Item) → StandsFor before (without dropped items) → IsFromWorking (from items) other after working) → IsFromWorking tree other after working
from_before tree from dropped before other after None is step = keeps_on tree (from is.items) None is.keeps (step is.items is.stands)
from_before tree from dropped before other after (Some w) is step =
    let found = step is.items is.stands in
    record { items = found.items; stands = found.stands; keeps = keeps_on tree (from is.items) (tree_here other w.instr.now found.items) is.keeps found.keeps }

-- The same of the place where the way goes on.
pub next_before : (tree : Option Term) (here : List Item → Option Term) (dropped : Dropped) (before : List Slot) (next : ℕ → List Item → Option Term)
    (behind_it : Dropped) (after : List Slot) (later : Option ℕ) → IsFrom tree here dropped before
    → ((items : List Item) → StandsFor before (without dropped items) → IsFromNext (here items) next behind_it after later)
    → IsFromNext tree next behind_it after later
next_before tree here dropped before next behind_it after None is step = keeps_on tree (here is.items) None is.keeps (step is.items is.stands)
next_before tree here dropped before next behind_it after (Some at) is step =
    let found = step is.items is.stands in
    record { items = found.items; stands = found.stands; keeps = keeps_on tree (here is.items) (next at found.items) is.keeps found.keeps }

-- The stack in memory that comes to the next place.
pub arrives : (tree : Option Term) (from : List Item → Option Term) (left come : Dropped) (before after : List Slot) → IsFrom tree from left before
    → ((items : List Item) → StandsFor before (without left items) → StandsFor after (without come items)) → IsFrom tree from come after
arrives tree from left come before after is step = record { items = is.items; stands = step is.items is.stands; keeps = is.keeps }

flat_cut : (above count : ℕ) (items : List Item) → AreFlat items → AreFlat (cut above count items)
flat_cut zero zero items flat = flat
flat_cut zero (suc count) [] flat = tt
flat_cut zero (suc count) (item ∷ items) flat = flat_cut zero count items flat.1
flat_cut (suc above) count [] flat = tt
flat_cut (suc above) count (item ∷ items) flat = (flat.0, flat_cut above count items flat.1)

pub cut_stands : (less more : Dropped) (before after : List Slot) (items : List Item) → IsWithin less more → after ≡ cut more.above (more.count - less.count) before
    → StandsFor before (without less items) → StandsFor after (without more items)
cut_stands less more before after items within is stands =
    let same = cut_within less more items within in
    record {
      slots = is ∙ ap (cut more.above (more.count - less.count)) stands.slots ∙ cut_map slot_of more.above (more.count - less.count) (without less items)
          ∙ ap slots_of same;
      flat = subst AreFlat same (flat_cut more.above (more.count - less.count) (without less items) stands.flat);
    }

-- ---- leaves

abbrev kept_whole : Term → Option Counted
kept_whole tree = kept tree (term_size tree)

closed : (items : List Item) → closed_slot (slots_of items) ≡ option_and_then kept_whole (closed_tree false items)
closed [] = refl
closed (Message ∷ items) = refl
closed (Tree a ∷ []) = refl
closed (Tree a ∷ b ∷ items) = refl

closed_stack : (stack : List Slot) (items : List Item) → StandsFor stack items → closed_slot stack ≡ option_and_then kept_whole (closed_tree false items)
closed_stack stack items stands = ap closed_slot stands.slots ∙ closed items

-- A tree that is not kept passes each limit.
not_kept_passes : (limits : Limits) (tree : Option Term) → None ≡ option_and_then kept_whole tree → Grows limits tree None
not_kept_passes limits None e = tt
not_kept_passes limits (Some t) e = by (nat_lt MAX_NODES (term_size t)) (ltb-true MAX_NODES (term_size t)) e
  where
    by : (more : Bool) → (more ≡ true → MAX_NODES < term_size t) → None ≡ kept_if more t (term_size t) → passes limits t ≡ true
    by true above e = (let larger : limits.nodes < term_size t = (let x = above refl in let y = limits.within in omega (arith, x, y)) in leaf_passes limits t larger)
    by false above e = absurd (none-some (record { tree = t; nodes = term_size t }) e)

pub no_leaf : (limits : Limits) (stack : List Slot) (items : List Item) → StandsFor stack items → None ≡ closed_slot stack
    → Grows limits (closed_tree false items) None
no_leaf limits stack items stands none = not_kept_passes limits (closed_tree false items) (none ∙ closed_stack stack items stands)

-- The tree of a slot, and its count.
record IsWhole (tree : Option Term) (slot : Counted) : Type 0 where
  is : tree ≡ Some slot.tree
  count : slot.nodes ≡ term_size slot.tree

whole : (tree : Option Term) (slot : Counted) → Some slot ≡ option_and_then kept_whole tree → IsWhole tree slot
whole None slot e = absurd (none-some slot (sym e))
whole (Some t) slot e = by (nat_lt MAX_NODES (term_size t)) e
  where
    by : (more : Bool) → Some slot ≡ kept_if more t (term_size t) → IsWhole (Some t) slot
    by true e = absurd (none-some slot (sym e))
    by false e =
        let same : record { tree = t; nodes = term_size t } ≡ slot = sym (same_Some slot (record { tree = t; nodes = term_size t }) e) in
        subst (λ (c : Counted). IsWhole (Some t) c) same (record { is = refl; count = refl })

whole_leaf : (stack : List Slot) (items : List Item) (slot : Counted) → StandsFor stack items → Some slot ≡ closed_slot stack
    → IsWhole (closed_tree false items) slot
whole_leaf stack items slot stands found = whole (closed_tree false items) slot (found ∙ closed_stack stack items stands)

pub large_leaf : (limits : Limits) (stack : List Slot) (items : List Item) (slot : Counted) → StandsFor stack items
    → Some slot ≡ closed_slot stack → limits.nodes < slot.nodes → Grows limits (closed_tree false items) None
large_leaf limits stack items slot stands found more =
    let w = whole_leaf stack items slot stands found in
    let larger : limits.nodes < term_size slot.tree = (let x = w.count in omega (arith, x, more)) in
    subst (λ (o : Option Term). Grows limits o None) (sym w.is) (leaf_passes limits slot.tree larger)

pub leaf_grown : (limits : Limits) (stack : List Slot) (items : List Item) (slot : Counted) (nodes_left : ℕ) → StandsFor stack items
    → Some slot ≡ closed_slot stack → nodes_left + slot.nodes ≡ limits.nodes
    → IsGrown limits (closed_tree false items) (record { tree = slot.tree; nodes_left = nodes_left })
leaf_grown limits stack items slot nodes_left stands found nodes =
    let w = whole_leaf stack items slot stands found in
    let flat = closed_flat false items slot.tree stands.flat w.is in
    record {
      is = keeps_same (closed_tree false items) (Some slot.tree) w.is;
      nodes = (let x = w.count in omega (arith, x, nodes));
      conditions = omega (arith, flat);
    }

-- ---- branches

abbrev kept_test_if : Bool → Condition × List Item → Option (Condition × List Slot)
kept_test_if large p = if large then None else Some (p.0, slots_of p.1)

abbrev kept_test : Condition × List Item → Option (Condition × List Slot)
kept_test p = kept_test_if (nat_lt MAX_NODES (term_size p.0.tree)) p

top : (turned : Bool) (a : Term) (n : ℕ) (rest : List Slot) → top_tested turned (slots.Tree (kept a n) ∷ rest)
    ≡ (if nat_lt MAX_NODES n then None else Some (record { tree = a; turned = turned }, rest))
top turned a n rest = by (nat_lt MAX_NODES n)
  where
    by : (more : Bool) → top_tested turned (slots.Tree (kept_if more a n) ∷ rest) ≡ (if more then None else Some (record { tree = a; turned = turned }, rest))
    by true = refl
    by false = refl

tests_slots : (test : Test) (items : List Item) → slots_tested test (slots_of items) ≡ option_and_then kept_test (tested test items)
tests_slots tests.Always items = refl
tests_slots tests.True [] = refl
tests_slots tests.True (Message ∷ items) = refl
tests_slots tests.True (Tree a ∷ items) = top false a (term_size a) (slots_of items)
tests_slots tests.False [] = refl
tests_slots tests.False (Message ∷ items) = refl
tests_slots tests.False (Tree a ∷ items) = top true a (term_size a) (slots_of items)
tests_slots (tests.Cmp op) [] = refl
tests_slots (tests.Cmp op) (Message ∷ items) = refl
tests_slots (tests.Cmp op) (Tree b ∷ []) =
    ap (option_and_then (top_tested (branch_operator op).1)) (behind_slots (ops.Bin (branch_operator op).0) (Tree b ∷ []))
tests_slots (tests.Cmp op) (Tree b ∷ Message ∷ items) =
    ap (option_and_then (top_tested (branch_operator op).1)) (behind_slots (ops.Bin (branch_operator op).0) (Tree b ∷ Message ∷ items))
tests_slots (tests.Cmp op) (Tree b ∷ Tree a ∷ items) =
    let root : Term → Term → Term = terms.Bin (branch_operator op).0 in
    ap (option_and_then (top_tested (branch_operator op).1)) (two root a b (term_size a) (term_size b) (slots_of items))
    ∙ top (branch_operator op).1 (root a b) (term_size a + term_size b + 1) (slots_of items)

tested_stack : (test : Test) (stack : List Slot) (items : List Item) → StandsFor stack items → slots_tested test stack ≡ option_and_then kept_test (tested test items)
tested_stack test stack items stands = ap (slots_tested test) stands.slots ∙ tests_slots test items

untested : (limits : Limits) (from : ℕ → List Item → Option Term) (i : Instr) (target : ℕ) (dropped : Dropped) (found : Option (Condition × List Item))
    → None ≡ option_and_then kept_test (option_map (below_without dropped) found) → Grows limits (over from i target found) None
untested limits from i target dropped None e = tt
untested limits from i target dropped (Some p) e = by (nat_lt MAX_NODES (term_size p.0.tree)) (ltb-true MAX_NODES (term_size p.0.tree)) e
  where
    by : (more : Bool) → (more ≡ true → MAX_NODES < term_size p.0.tree) → None ≡ kept_test_if more (below_without dropped p)
        → Grows limits (over from i target (Some p)) None
    by true above e =
        let few : limits.nodes < term_size p.0.tree + 1 = (let x = above refl in let y = limits.within in omega (arith, x, y)) in
        full_passes p.0 limits (onward from i.at target p.1) (onward from i.at (i.at + i.size) p.1)
        (or_left (nat_lt limits.nodes (term_size p.0.tree + 1)) (nat_lt limits.conditions 1) (lt-ltb limits.nodes (term_size p.0.tree + 1) few))
    by false above e =
        let kept_pair : Condition × List Slot = (p.0, slots_of (without dropped p.1)) in absurd (none-some kept_pair e)

-- The items below a condition.
record Below (found : Option (Condition × List Item)) (test : Condition) (stack : List Slot) : Type 0 where
  items : List Item
  is : found ≡ Some (test, items)
  slots : stack ≡ slots_of items

below : (found : Option (Condition × List Item)) (test : Condition) (stack : List Slot) → Some (test, stack) ≡ option_and_then kept_test found
    → Below found test stack
below None test stack e = let pair : Condition × List Slot = (test, stack) in absurd (none-some pair (sym e))
below (Some p) test stack e = by (nat_lt MAX_NODES (term_size p.0.tree)) e
  where
    by : (more : Bool) → Some (test, stack) ≡ kept_test_if more p → Below (Some p) test stack
    by true e = let pair : Condition × List Slot = (test, stack) in absurd (none-some pair (sym e))
    by false e =
        let first : Condition × List Slot = (test, stack) in
        let second : Condition × List Slot = (p.0, slots_of p.1) in
        let same : first ≡ second = same_Some first second e in
        record {
          items = p.1;
          is = ap (λ (c : Condition). Some (c, p.1)) (sym (ap (λ (q : Condition × List Slot). q.0) same));
          slots = ap (λ (q : Condition × List Slot). q.1) same;
        }

-- ---- ends of stretches

pub grows_nowhere : (limits : Limits) (tree : Option Term) → Keeps tree None → Grows limits tree None
grows_nowhere limits tree keeps = keeps_grown limits tree None None keeps tt

pub grows_closed : (limits : Limits) (tree : Option Term) (from : ℕ → List Item → Option Term) (i : Instr) (dropped : Dropped) (stack : List Slot)
    (grown : Option Grown) → IsFrom tree (tree_here from i) dropped stack → is_some (option_map (λ c. c.1) (closing i.op)) ≡ true
    → (is_some (closing i.op) ≡ true → dropped ≡ message_dropped (closing i.op))
    → ((items : List Item) → StandsFor stack items → Grows limits (closed_tree false items) grown) → Grows limits tree grown
grows_closed limits tree from i dropped stack grown is some closes leaf = by (closing i.op) refl some closes
  where
    by : (c : Option (ClauseKind × Bool)) → closing i.op ≡ c → is_some (option_map (λ c. c.1) c) ≡ true → (is_some c ≡ true → dropped ≡ message_dropped c)
        → Grows limits tree grown
    by None e some closes = absurd cc
    by (Some c) e some closes =
        let left : without dropped is.items ≡ without (message_dropped (Some c)) is.items = ap (λ (d : Dropped). without d is.items) (closes refl) in
        let message : Some c.1 ≡ option_map (λ c. c.1) (closing i.op) = sym (ap (option_map (λ c. c.1)) e) in
        let here : tree_here from i is.items ≡ closed_tree false (without dropped is.items) =
        closing_here from i is.items c.1 message ∙ closed_without c is.items ∙ ap (closed_tree false) (sym left) in
        keeps_grown limits tree (closed_tree false (without dropped is.items)) grown
        (keeps_on tree (tree_here from i is.items) (closed_tree false (without dropped is.items)) is.keeps
        (keeps_same (tree_here from i is.items) (closed_tree false (without dropped is.items)) here))
        (leaf (without dropped is.items) is.stands)

keeps_over : (tree : Option Term) (from : ℕ → List Item → Option Term) (i : Instr) (test : Test) (target : ℕ) (items : List Item)
    → Keeps tree (tree_here from i items) → ends_stretch i.op ≡ true → i.op ≡ ops.Branch test target → Keeps tree (over from i target (tested test items))
keeps_over tree from i test target items keeps ends is =
    keeps_on tree (tree_here from i items) (over from i target (tested test items)) keeps
    (keeps_same (tree_here from i items) (over from i target (tested test items)) (branching_here from i test target items ends is))

-- What a branch finds where it takes nothing of what is dropped.
tested_left : (i : Instr) (test : Test) (target : ℕ) (dropped : Dropped) (stack : List Slot) (items : List Item) → i.op ≡ ops.Branch test target
    → Spares i.op dropped → StandsFor stack (without dropped items)
    → slots_tested test stack ≡ option_and_then kept_test (option_map (below_without (behind i.op dropped)) (tested test items))
tested_left i test target dropped stack items is spares stands =
    tested_stack test stack (without dropped items) stands
    ∙ ap (option_and_then kept_test) (tested_without test target dropped items (subst (λ (op : Op). Spares op dropped) is spares)
    ∙ ap (λ (op : Op). option_map (below_without (behind op dropped)) (tested test items)) (sym is))

pub grows_untested : (limits : Limits) (tree : Option Term) (from : ℕ → List Item → Option Term) (i : Instr) (test : Test) (target : ℕ) (dropped : Dropped)
    (before after : List Slot) (taken : Option Condition) → IsFrom tree (tree_here from i) dropped before → Spares i.op dropped → ends_stretch i.op ≡ true
    → i.op ≡ ops.Branch test target → option_map (λ condition. (condition, after)) taken ≡ slots_tested test before → taken ≡ None
    → Grows limits tree None
grows_untested limits tree from i test target dropped before after taken is spares ends branch found is_none =
    let none : None ≡ slots_tested test before = ap (λ (o : Option Condition). option_map (λ condition. (condition, after)) o) (sym is_none) ∙ found in
    keeps_grown limits tree (over from i target (tested test is.items)) None
    (keeps_over tree from i test target is.items is.keeps ends branch)
    (untested limits from i target (behind i.op dropped) (tested test is.items) (none ∙ tested_left i test target dropped before is.items branch spares is.stands))

-- The items below a condition, with what is dropped of them.
record Lower (dropped : Dropped) (found : Option (Condition × List Item)) (test : Condition) (items : List Item) : Type 0 where
  rest : List Item
  is : found ≡ Some (test, rest)
  same : items ≡ without dropped rest

lower : (dropped : Dropped) (found : Option (Condition × List Item)) (test : Condition) (items : List Item)
    → option_map (below_without dropped) found ≡ Some (test, items) → Lower dropped found test items
lower dropped None test items e = let pair : Condition × List Item = (test, items) in absurd (none-some pair e)
lower dropped (Some p) test items e =
    let first : Condition × List Item = below_without dropped p in
    let second : Condition × List Item = (test, items) in
    let same : first ≡ second = same_Some first second e in
    record {
      rest = p.1;
      is = ap (λ (c : Condition). Some (c, p.1)) (ap (λ (q : Condition × List Item). q.0) same);
      same = sym (ap (λ (q : Condition × List Item). q.1) same);
    }

pub grows_tested : (limits : Limits) (tree : Option Term) (from : ℕ → List Item → Option Term) (i : Instr) (test : Test) (target : ℕ) (dropped : Dropped)
    (before after : List Slot) (condition : Condition) (grown : Option Grown)
    → IsFrom tree (tree_here from i) dropped before → Spares i.op dropped → ends_stretch i.op ≡ true → i.op ≡ ops.Branch test target
    → Some (condition, after) ≡ slots_tested test before
    → ((items : List Item) → StandsFor after (without (behind i.op dropped) items) → condition_depth condition.tree ≡ 0
    → Grows limits (forked condition (onward from i.at target items) (onward from i.at (i.at + i.size) items)) grown)
    → Grows limits tree grown
grows_tested limits tree from i test target dropped before after condition grown is spares ends branch found fork =
    let under = behind i.op dropped in
    let all = option_map (below_without under) (tested test is.items) in
    let b = below all condition after (found ∙ tested_left i test target dropped before is.items branch spares is.stands) in
    let l = lower under (tested test is.items) condition b.items b.is in
    let whole : tested test (without dropped is.items) ≡ all =
    tested_without test target dropped is.items (subst (λ (op : Op). Spares op dropped) branch spares)
    ∙ ap (λ (op : Op). option_map (below_without (behind op dropped)) (tested test is.items)) (sym branch) in
    let flat = subst (λ (o : Option (Condition × List Item)). IfSome o (λ p. (condition_depth p.0.tree ≡ 0) × AreFlat p.1)) (whole ∙ b.is)
    (flat_tested test (without dropped is.items) is.stands.flat) in
    let stands : StandsFor after b.items = record { slots = b.slots; flat = flat.1 } in
    keeps_grown limits tree (over from i target (tested test is.items)) grown
    (keeps_over tree from i test target is.items is.keeps ends branch)
    (subst (λ (o : Option (Condition × List Item)). Grows limits (over from i target o) grown) (sym l.is)
    (fork l.rest (subst (StandsFor after) l.same stands) flat.0))

pub fork_grows : {E : Type 0} (result : Result (Option Grown) E) (limits : Limits) (tree : Option Term) (from : ℕ → List Item → Option Term) (i : Instr) (test : Test)
    (target : ℕ) (dropped : Dropped) (before after : List Slot) (condition : Condition)
    → IsFrom tree (tree_here from i) dropped before → Spares i.op dropped → ends_stretch i.op ≡ true → i.op ≡ ops.Branch test target
    → Some (condition, after) ≡ slots_tested test before
    → ((items : List Item) → StandsFor after (without (behind i.op dropped) items) → condition_depth condition.tree ≡ 0
    → IfOk result (Grows limits (forked condition (onward from i.at target items) (onward from i.at (i.at + i.size) items))))
    → IfOk result (Grows limits tree)
fork_grows (Err e) limits tree from i test target dropped before after condition is spares ends branch found fork = tt
fork_grows (Ok grown) limits tree from i test target dropped before after condition is spares ends branch found fork =
    grows_tested limits tree from i test target dropped before after condition grown is spares ends branch found fork

pub drops_stand : {E : Type 0} (result : Result (Unit {0}) E) (less more : Dropped) (before after : List Slot) → IsWithin less more
    → OnOk result (after ≡ cut more.above (more.count - less.count) before)
    → (items : List Item) → StandsFor before (without less items) → OnOk result (StandsFor after (without more items))
drops_stand (Err e) less more before after within is items stands = tt
drops_stand (Ok x) less more before after within is items stands = cut_stands less more before after items within is stands
