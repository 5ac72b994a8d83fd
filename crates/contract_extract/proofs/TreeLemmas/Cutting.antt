-- Stacks without what is dropped.
use Rattle.std.proofs.Common.{◌≡◌, ℕ, zero, suc, ◌+◌, ◌-◌, ◌≤◌, Bool, true, false, List, [], ◌∷◌, ◌++◌, map, take, drop, replicate, length, min, Result, Ok, Err, OnOk, is_ok, if◌then◌else◌, Option, Some, None, option_map, refl, sym, ap, ◌∙◌, arith, inl, inr}
use Rattle.std.proofs.lemmas.List.{drop-drop, drop_min}
use Rattle.std.proofs.lemmas.Option.{none-some, same_Some}
use Rattle.cil_model.specs.ClauseTrees.{Item, Tree, Message, closed_tree, items_behind, with_call}
use Rattle.cil_model.specs.Terms as terms
use Rattle.cil_model.specs.UnitCalls.{unit_call}
use Rattle.cil_model.specs.declared.clause.ClauseKind.{ClauseKind}
use Rattle.cil_model.specs.declared.instruction.Op.{Op}
use Rattle.cil_model.specs.declared.instruction.Op.TheVariants as ops
use Rattle.cil_model.specs.declared.instruction.Test.{Test}
use Rattle.cil_model.specs.declared.instruction.Test.TheVariants as tests
use Rattle.cil_model.specs.declared.unit_numbers.UnitCall.{UnitCall}
use Rattle.cil_model.specs.declared.unit_numbers.UnitCall.TheVariants as calls
use Rattle.contract_extract.specs.Dropping.{IsWithin, Spares, behind, call_takes, cut, makes, message_dropped, takes, without}
use Rattle.contract_extract.specs.Growth.{tested}
use Rattle.contract_extract.specs.declared.trees.conditions.Condition.{Condition}
use Rattle.contract_extract.specs.declared.trees.dropped.Dropped.{Dropped}

-- ---- lists

drop_none : {X : Type 0} (n : ℕ) → (let none : List X = [] in drop n none ≡ none)
drop_none zero = refl
drop_none (suc n) = refl

pub cut_nothing : {X : Type 0} (above : ℕ) (xs : List X) → cut above 0 xs ≡ xs
cut_nothing zero xs = refl
cut_nothing (suc above) [] = refl
cut_nothing (suc above) (x ∷ xs) = ap (λ (ys : List _). x ∷ ys) (cut_nothing above xs)

pub cut_parts : {X : Type 0} (above count : ℕ) (xs : List X) → cut above count xs ≡ take above xs ++ drop count (drop above xs)
cut_parts zero count xs = refl
cut_parts (suc above) count [] = sym (drop_none count)
cut_parts (suc above) count (x ∷ xs) = ap (λ (ys : List _). x ∷ ys) (cut_parts above count xs)

pub cut_short : {X : Type 0} (above count : ℕ) (xs : List X) → length xs ≤ above → xs ≡ cut above count xs
cut_short zero count [] short = sym (drop_none count)
cut_short zero count (x ∷ xs) short = absurd (omega (arith, short))
cut_short (suc above) count [] short = refl
cut_short (suc above) count (x ∷ xs) short = ap (λ (ys : List _). x ∷ ys) (cut_short above count xs (omega (arith, short)))

pub cut_already : {X : Type 0} (above count already : ℕ) (xs : List X) → count ≤ already → xs ≡ cut above (count - already) xs
cut_already above count already xs most =
    sym (ap (λ (n : ℕ). cut above n xs) (let e : count - already ≡ 0 = omega (arith, most) in e) ∙ cut_nothing above xs)

-- A stack that is taken apart and put together again.
pub cut_together : {X E : Type 0} (result : Result (Unit {0}) E) (above count some : ℕ) (xs upper lower rest new : List X) → upper ≡ take above xs → lower ≡ drop above xs
    → some ≡ min count (length lower) → rest ≡ drop some lower → new ≡ (if is_ok result then upper ++ rest else upper) → OnOk result (new ≡ cut above count xs)
cut_together (Err e) above count some xs upper lower rest new is_upper is_lower is_some is_rest is_new = tt
cut_together (Ok x) above count some xs upper lower rest new is_upper is_lower is_some is_rest is_new =
    is_new ∙ ap (λ (ys : List _). ys ++ rest) is_upper ∙ ap (λ (ys : List _). take above xs ++ ys)
    (is_rest ∙ ap (λ (n : ℕ). drop n lower) is_some ∙ drop_min count lower ∙ ap (drop count) is_lower)
    ∙ sym (cut_parts above count xs)

pub cut_map : {X Y : Type 0} (f : X → Y) (above count : ℕ) (xs : List X) → cut above count (map f xs) ≡ map f (cut above count xs)
cut_map f zero zero xs = refl
cut_map f zero (suc count) [] = refl
cut_map f zero (suc count) (x ∷ xs) = cut_map f zero count xs
cut_map f (suc above) count [] = refl
cut_map f (suc above) count (x ∷ xs) = ap (λ (ys : List _). f x ∷ ys) (cut_map f above count xs)

drop_cut : {X : Type 0} (above count more : ℕ) (xs : List X) → drop (above + more) (cut above count xs) ≡ drop (above + count + more) xs
drop_cut zero count more xs = ap (λ (n : ℕ). drop n (drop count xs)) (omega arith) ∙ drop-drop more count xs ∙ ap (λ (n : ℕ). drop n xs) (omega arith)
drop_cut (suc above) count more [] = drop_none (suc above + more) ∙ sym (drop_none (suc above + count + more))
drop_cut (suc above) count more (x ∷ xs) =
    ap (λ (n : ℕ). drop n (x ∷ cut above count xs)) (let e : suc above + more ≡ suc (above + more) = omega arith in e)
    ∙ drop_cut above count more xs
    ∙ ap (λ (n : ℕ). drop n (x ∷ xs)) (let e : suc (above + count + more) ≡ suc above + count + more = omega arith in e)

cut_more : {X : Type 0} (above count : ℕ) (higher less : ℕ) (xs : List X) → above ≤ higher → higher + less ≤ above + count
    → cut above (count - less) (cut higher less xs) ≡ cut above count xs
cut_more zero count higher less xs below within =
    ap (λ (n : ℕ). drop n (cut higher less xs)) (let e : count - less ≡ higher + (count - less - higher) = omega (arith, within) in e)
    ∙ drop_cut higher less (count - less - higher) xs ∙ ap (λ (n : ℕ). drop n xs) (let e : higher + less + (count - less - higher) ≡ count = omega (arith, within) in e)
cut_more (suc above) count zero less xs below within = absurd (omega (arith, below))
cut_more (suc above) count (suc higher) less [] below within = refl
cut_more (suc above) count (suc higher) less (x ∷ xs) below within =
    ap (λ (ys : List _). x ∷ ys) (cut_more above count higher less xs (omega (arith, below)) (omega (arith, within)))

-- What is still to be dropped is cut from the rest.
pub cut_within : (less more : Dropped) (items : List Item) → IsWithin less more
    → cut more.above (more.count - less.count) (without less items) ≡ without more items
unfolding without
cut_within less more items within = elim within [
  | inl none ↦
      (ap (λ (n : ℕ). cut more.above (more.count - n) (cut less.above n items)) none
      ∙ ap (cut more.above (more.count - 0)) (cut_nothing less.above items)
      ∙ ap (λ (n : ℕ). cut more.above n items) (let e : more.count - 0 ≡ more.count = omega arith in e))
  | inr parts ↦ cut_more more.above more.count less.above less.count items parts.0 parts.1
]

without_none : (dropped : Dropped) (items : List Item) → dropped.count ≡ 0 → without dropped items ≡ items
unfolding without
without_none dropped items none = ap (λ (n : ℕ). cut dropped.above n items) none ∙ cut_nothing dropped.above items

-- ---- operations

abbrev CutOf : ℕ → ℕ → ℕ → (List Item → Option (List Item)) → List Item → Type 0
CutOf above lower count f items = f (cut above count items) ≡ option_map (cut lower count) (f items)

at_height : (above lower count : ℕ) (items : List Item) → above ≡ lower → cut above count items ≡ cut lower count items
at_height above lower count items same = ap (λ (n : ℕ). cut n count items) same

pushes : (above lower count : ℕ) (item : Item) (items : List Item) → lower ≡ suc above → item ∷ cut above count items ≡ cut lower count (item ∷ items)
pushes above lower count item items same = at_height (suc above) lower count (item ∷ items) (sym same)

-- An operation that pushes a value.
pushed : (above lower count : ℕ) (item : Item) (items : List Item) → lower ≡ suc above
    → Some (item ∷ cut above count items) ≡ Some (cut lower count (item ∷ items))
pushed above lower count item items same = ap Some (pushes above lower count item items same)

call_cut : (above count : ℕ) (call : Option UnitCall) (items : List Item) → call_takes call ≤ above
    → CutOf above (above - call_takes call + 1) count (with_call call) items
call_cut above count (Some (calls.Result place)) items high = pushed above (above - 0 + 1) count (Tree terms.Result) items (omega arith)
call_cut zero count (Some (calls.OldValue place)) items high = absurd (omega (arith, high))
call_cut (suc above) count (Some (calls.OldValue place)) [] high = refl
call_cut (suc above) count (Some (calls.OldValue place)) (Message ∷ items) high = refl
call_cut (suc above) count (Some (calls.OldValue place)) (Tree a ∷ items) high =
    pushed above (suc above - 1 + 1) count (Tree (terms.Old a)) items (omega arith)
call_cut above count _ items high = refl

op_cut : (above count : ℕ) (op : Op) (items : List Item) → takes op ≤ above → CutOf above (above - takes op + makes op) count (items_behind op) items
op_cut above count ops.Nop items high = ap Some (at_height above (above - 0 + 0) count items (omega arith))
op_cut above count (ops.LoadArg n) items high = pushed above (above - 0 + 1) count (Tree (terms.Arg n)) items (omega arith)
op_cut above count ops.Null items high = pushed above (above - 0 + 1) count (Tree terms.Null) items (omega arith)
op_cut above count (ops.Const n) items high = pushed above (above - 0 + 1) count (Tree (terms.Const n)) items (omega arith)
op_cut above count (ops.Text token) items high = pushed above (above - 0 + 1) count Message items (omega arith)
op_cut zero count (ops.Bin operator) items high = absurd (omega (arith, high))
op_cut (suc zero) count (ops.Bin operator) items high = absurd (omega (arith, high))
op_cut (suc (suc above)) count (ops.Bin operator) [] high = refl
op_cut (suc (suc above)) count (ops.Bin operator) (Message ∷ items) high = refl
op_cut (suc (suc above)) count (ops.Bin operator) (Tree b ∷ []) high = refl
op_cut (suc (suc above)) count (ops.Bin operator) (Tree b ∷ Message ∷ items) high = refl
op_cut (suc (suc above)) count (ops.Bin operator) (Tree b ∷ Tree a ∷ items) high =
    pushed above (suc (suc above) - 2 + 1) count (Tree (terms.Bin operator a b)) items (omega arith)
op_cut zero count (ops.LoadElem place) items high = absurd (omega (arith, high))
op_cut (suc zero) count (ops.LoadElem place) items high = absurd (omega (arith, high))
op_cut (suc (suc above)) count (ops.LoadElem place) [] high = refl
op_cut (suc (suc above)) count (ops.LoadElem place) (Message ∷ items) high = refl
op_cut (suc (suc above)) count (ops.LoadElem place) (Tree b ∷ []) high = refl
op_cut (suc (suc above)) count (ops.LoadElem place) (Tree b ∷ Message ∷ items) high = refl
op_cut (suc (suc above)) count (ops.LoadElem place) (Tree b ∷ Tree a ∷ items) high =
    pushed above (suc (suc above) - 2 + 1) count (Tree (terms.Elem place a b)) items (omega arith)
op_cut zero count ops.Neg items high = absurd (omega (arith, high))
op_cut (suc above) count ops.Neg [] high = refl
op_cut (suc above) count ops.Neg (Message ∷ items) high = refl
op_cut (suc above) count ops.Neg (Tree a ∷ items) high = pushed above (suc above - 1 + 1) count _ items (omega arith)
op_cut zero count ops.Not items high = absurd (omega (arith, high))
op_cut (suc above) count ops.Not [] high = refl
op_cut (suc above) count ops.Not (Message ∷ items) high = refl
op_cut (suc above) count ops.Not (Tree a ∷ items) high = pushed above (suc above - 1 + 1) count _ items (omega arith)
op_cut zero count ops.ConvI4 items high = absurd (omega (arith, high))
op_cut (suc above) count ops.ConvI4 [] high = refl
op_cut (suc above) count ops.ConvI4 (Message ∷ items) high = refl
op_cut (suc above) count ops.ConvI4 (Tree a ∷ items) high = pushed above (suc above - 1 + 1) count _ items (omega arith)
op_cut zero count ops.Length items high = absurd (omega (arith, high))
op_cut (suc above) count ops.Length [] high = refl
op_cut (suc above) count ops.Length (Message ∷ items) high = refl
op_cut (suc above) count ops.Length (Tree a ∷ items) high = pushed above (suc above - 1 + 1) count _ items (omega arith)
op_cut above count (ops.Call number) items high = call_cut above count (unit_call number) items high
op_cut above count _ items high = refl

mapped_none : (dropped : Dropped) (o : Option (List Item)) → dropped.count ≡ 0 → o ≡ option_map (without dropped) o
mapped_none dropped None none = refl
mapped_none dropped (Some items) none = ap Some (sym (without_none dropped items none))

-- An operation that takes nothing of what is dropped does the same without it.
pub behind_without : (op : Op) (dropped : Dropped) (items : List Item) → Spares op dropped
    → items_behind op (without dropped items) ≡ option_map (without (behind op dropped)) (items_behind op items)
unfolding without
behind_without op dropped items spares = elim spares [
  | inl none ↦ ap (items_behind op) (without_none dropped items none) ∙ mapped_none (behind op dropped) (items_behind op items) none
  | inr high ↦ op_cut dropped.above dropped.count op items high
]

-- ---- branches

abbrev cut_below : ℕ → ℕ → Condition × List Item → Condition × List Item
cut_below lower count p = (p.0, cut lower count p.1)

lower_items : (above lower count : ℕ) (condition : Condition) (items : List Item) → lower ≡ above
    → (let pair : Condition × List Item = (condition, cut above count items) in let other : Condition × List Item = (condition, cut lower count items) in Some pair ≡ Some other)
lower_items above lower count condition items same = ap (λ (rest : List Item). Some (condition, rest)) (at_height above lower count items (sym same))

test_cut : (above count : ℕ) (test : Test) (target : ℕ) (items : List Item) → takes (ops.Branch test target) ≤ above
    → tested test (cut above count items) ≡ option_map (cut_below (above - takes (ops.Branch test target) + 0) count) (tested test items)
test_cut above count tests.Always target items high = refl
test_cut zero count tests.True target items high = absurd (omega (arith, high))
test_cut (suc above) count tests.True target [] high = refl
test_cut (suc above) count tests.True target (Message ∷ items) high = refl
test_cut (suc above) count tests.True target (Tree a ∷ items) high = lower_items above (suc above - 1 + 0) count _ items (omega arith)
test_cut zero count tests.False target items high = absurd (omega (arith, high))
test_cut (suc above) count tests.False target [] high = refl
test_cut (suc above) count tests.False target (Message ∷ items) high = refl
test_cut (suc above) count tests.False target (Tree a ∷ items) high = lower_items above (suc above - 1 + 0) count _ items (omega arith)
test_cut zero count (tests.Cmp op) target items high = absurd (omega (arith, high))
test_cut (suc zero) count (tests.Cmp op) target items high = absurd (omega (arith, high))
test_cut (suc (suc above)) count (tests.Cmp op) target [] high = refl
test_cut (suc (suc above)) count (tests.Cmp op) target (Message ∷ items) high = refl
test_cut (suc (suc above)) count (tests.Cmp op) target (Tree b ∷ []) high = refl
test_cut (suc (suc above)) count (tests.Cmp op) target (Tree b ∷ Message ∷ items) high = refl
test_cut (suc (suc above)) count (tests.Cmp op) target (Tree b ∷ Tree a ∷ items) high =
    lower_items above (suc (suc above) - 2 + 0) count _ items (omega arith)

abbrev pub below_without : Dropped → Condition × List Item → Condition × List Item
below_without dropped p = (p.0, without dropped p.1)

tested_none : (dropped : Dropped) (o : Option (Condition × List Item)) → dropped.count ≡ 0 → o ≡ option_map (below_without dropped) o
tested_none dropped None none = refl
tested_none dropped (Some p) none = ap (λ (rest : List Item). Some (p.0, rest)) (sym (without_none dropped p.1 none))

pub tested_without : (test : Test) (target : ℕ) (dropped : Dropped) (items : List Item) → Spares (ops.Branch test target) dropped
    → tested test (without dropped items) ≡ option_map (below_without (behind (ops.Branch test target) dropped)) (tested test items)
unfolding without
tested_without test target dropped items spares = elim spares [
  | inl none ↦ ap (tested test) (without_none dropped items none) ∙ tested_none (behind (ops.Branch test target) dropped) (tested test items) none
  | inr high ↦ test_cut dropped.above dropped.count test target items high
]

-- ---- closing calls

pub closed_without : (closed : ClauseKind × Bool) (items : List Item) → closed_tree closed.1 items ≡ closed_tree false (without (message_dropped (Some closed)) items)
unfolding without
closed_without (kind, false) items = refl
closed_without (kind, true) [] = refl
closed_without (kind, true) (top ∷ []) = refl
closed_without (kind, true) (top ∷ Message ∷ items) = refl
closed_without (kind, true) (top ∷ Tree a ∷ []) = refl
closed_without (kind, true) (top ∷ Tree a ∷ b ∷ items) = refl

-- ---- operations of which all is dropped

dropped_push : (count : ℕ) (item : Item) (items after : List Item) → Some (item ∷ items) ≡ Some after → drop (count + 0) items ≡ drop (suc count) after
dropped_push count item items after e =
    ap (λ (n : ℕ). drop n items) (let f : count + 0 ≡ count = omega arith in f) ∙ ap (drop (suc count)) (same_Some (item ∷ items) after e)

dropped_one : (count : ℕ) (a item : Item) (items after : List Item) → Some (item ∷ items) ≡ Some after → drop (count + 1) (a ∷ items) ≡ drop (suc count) after
dropped_one count a item items after e =
    ap (λ (n : ℕ). drop n (a ∷ items)) (let f : count + 1 ≡ suc count = omega arith in f) ∙ ap (drop (suc count)) (same_Some (item ∷ items) after e)

dropped_two : (count : ℕ) (b a item : Item) (items after : List Item) → Some (item ∷ items) ≡ Some after
    → drop (count + 2) (b ∷ a ∷ items) ≡ drop (suc count) after
dropped_two count b a item items after e =
    ap (λ (n : ℕ). drop n (b ∷ a ∷ items)) (let f : count + 2 ≡ suc (suc count) = omega arith in f) ∙ ap (drop (suc count)) (same_Some (item ∷ items) after e)

dropped_call : (count : ℕ) (call : Option UnitCall) (items after : List Item) → with_call call items ≡ Some after
    → drop (count + call_takes call) items ≡ drop (suc count) after
dropped_call count (Some (calls.Result place)) items after e = dropped_push count (Tree terms.Result) items after e
dropped_call count (Some (calls.OldValue place)) [] after e = absurd (none-some after e)
dropped_call count (Some (calls.OldValue place)) (Message ∷ items) after e = absurd (none-some after e)
dropped_call count (Some (calls.OldValue place)) (Tree a ∷ items) after e = dropped_one count (Tree a) (Tree (terms.Old a)) items after e
dropped_call count _ items after e = absurd (none-some after e)

dropped_op : (count : ℕ) (op : Op) (items after : List Item) → makes op ≡ 1 → items_behind op items ≡ Some after → drop (count + takes op) items ≡ drop (suc count) after
dropped_op count ops.Nop items after one e = absurd (omega (arith, one))
dropped_op count (ops.LoadArg n) items after one e = dropped_push count _ items after e
dropped_op count ops.Null items after one e = dropped_push count _ items after e
dropped_op count (ops.Const n) items after one e = dropped_push count _ items after e
dropped_op count (ops.Text token) items after one e = dropped_push count _ items after e
dropped_op count (ops.Bin operator) [] after one e = absurd (none-some after e)
dropped_op count (ops.Bin operator) (Message ∷ items) after one e = absurd (none-some after e)
dropped_op count (ops.Bin operator) (Tree b ∷ []) after one e = absurd (none-some after e)
dropped_op count (ops.Bin operator) (Tree b ∷ Message ∷ items) after one e = absurd (none-some after e)
dropped_op count (ops.Bin operator) (Tree b ∷ Tree a ∷ items) after one e = dropped_two count _ _ _ items after e
dropped_op count (ops.LoadElem place) [] after one e = absurd (none-some after e)
dropped_op count (ops.LoadElem place) (Message ∷ items) after one e = absurd (none-some after e)
dropped_op count (ops.LoadElem place) (Tree b ∷ []) after one e = absurd (none-some after e)
dropped_op count (ops.LoadElem place) (Tree b ∷ Message ∷ items) after one e = absurd (none-some after e)
dropped_op count (ops.LoadElem place) (Tree b ∷ Tree a ∷ items) after one e = dropped_two count _ _ _ items after e
dropped_op count ops.Neg [] after one e = absurd (none-some after e)
dropped_op count ops.Neg (Message ∷ items) after one e = absurd (none-some after e)
dropped_op count ops.Neg (Tree a ∷ items) after one e = dropped_one count _ _ items after e
dropped_op count ops.Not [] after one e = absurd (none-some after e)
dropped_op count ops.Not (Message ∷ items) after one e = absurd (none-some after e)
dropped_op count ops.Not (Tree a ∷ items) after one e = dropped_one count _ _ items after e
dropped_op count ops.ConvI4 [] after one e = absurd (none-some after e)
dropped_op count ops.ConvI4 (Message ∷ items) after one e = absurd (none-some after e)
dropped_op count ops.ConvI4 (Tree a ∷ items) after one e = dropped_one count _ _ items after e
dropped_op count ops.Length [] after one e = absurd (none-some after e)
dropped_op count ops.Length (Message ∷ items) after one e = absurd (none-some after e)
dropped_op count ops.Length (Tree a ∷ items) after one e = dropped_one count _ _ items after e
dropped_op count (ops.Call number) items after one e = dropped_call count (unit_call number) items after e
dropped_op count _ items after one e = absurd (none-some after e)

filled : (count : ℕ) (items : List Item) → drop count (replicate count Message ++ items) ≡ items
filled zero items = refl
filled (suc count) items = filled count items

-- Other items after an operation of which all is dropped.
pub record Others (op : Op) (count : ℕ) (items : List Item) : Type 0 where
  pub others : List Item
  pub same : cut 0 (count + takes op) items ≡ cut 0 (suc count) others
  pub are : (after : List Item) → items_behind op items ≡ Some after → after ≡ others

pub others_behind : (op : Op) (count : ℕ) (items : List Item) → makes op ≡ 1 → Others op count items
others_behind op count items one = by (items_behind op items) refl
  where
    by : (o : Option (List Item)) → items_behind op items ≡ o → Others op count items
    by None e = record {
      others = replicate (suc count) Message ++ drop (count + takes op) items;
      same = sym (filled (suc count) (drop (count + takes op) items));
      are = λ after f. absurd (none-some after (sym e ∙ f));
    }
    by (Some after) e = record {
      others = after;
      same = dropped_op count op items after one e;
      are = λ other f. same_Some other after (sym f ∙ e);
    }
