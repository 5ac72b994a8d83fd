-- Operators and arrays of the code, of a state that may be reached or not.
use Rattle.std.proofs.Common.{◌≡◌, ◌==◌, ℕ, ◌-◌, ℤ, pos, negsuc, true, false, List, [], ◌∷◌, ◌++◌, length, take, Option, Some, None, refl, sym, ap, subst, ◌∙◌}
use Rattle.std.specs.Prelude.{Result, Ok, Err, OnOk, is_some, reverse, slice_get}
use Rattle.std.specs.Option.{ForSome, option_and_then}
use Rattle.std.proofs.lemmas.Bool.{cond_both}
use Rattle.std.proofs.lemmas.List.{reverse-append, reverse-reverse}
use Rattle.std.proofs.lemmas.Option.{none-some, same_Some}
use Rattle.cil_model.specs.Comparisons.{comparison_of}
use Rattle.cil_model.specs.UnitCalls.{array_place}
use Rattle.cil_model.specs.declared.instruction.BinOp.{BinOp}
use Rattle.cil_model.specs.declared.instruction.BinOp.TheVariants as operators
use Rattle.cil_model.specs.declared.instruction.CmpOp.{CmpOp}
use Rattle.cil_model.specs.declared.instruction.Op.TheVariants as ops
use Rattle.cil_model.specs.declared.place.Place.{Place}
use Rattle.cil_model.specs.declared.place.Place.TheVariants as places
use Rattle.domain_api.specs.declared.expr.Expr.{Expr}
use Rattle.frame_names.specs.declared.var.Var.{Var}
use Rattle.frame_names.specs.declared.var.Var.TheVariants as vars
use Rattle.number_spans.specs.Constants.{constant}
use Rattle.number_spans.specs.Owed.{Divides, Shifts}
use Rattle.obligation_prover.specs.Operations.{from_top}
use Rattle.state_facts.specs.Forms.{HasVar, IsArrayPlace}
use Rattle.state_facts.specs.Moves.{popped}
use Rattle.state_facts.specs.StateFacts.{StateFacts, State, length_at}
use Rattle.state_facts.specs.States as states
use Rattle.transfer_rules.specs.Acts.{calculated, complemented, negated, operated, taken_from, with_item_of, with_item_put, with_length, with_new, with_number_put}
use Rattle.transfer_rules.specs.Operands.{Took, TookTwo, on_one, on_three, on_two, over_one, over_two, with_one}
use Rattle.transfer_rules.specs.Owed.{AreReadyFor, IsReady}
use Rattle.transfer_rules.specs.Laws.Tops.{prefix}
use Rattle.transfer_rules.proofs.Taking.{still_there}

-- ---- operators

by_comparison : (o : Option CmpOp) (op : BinOp) (v w : Var) (state : State) → is_some o ≡ true
    → states.compare op v w state ≡ option_and_then (calculated op o v w) state
by_comparison None op v w state some = cc
by_comparison (Some cmp) op v w None some = refl
by_comparison (Some cmp) op v w (Some known) some = refl

pub compared_is : (op : BinOp) (v w : Var) (state : State) → is_some (comparison_of op) ≡ true
    → states.compare op v w state ≡ option_and_then (calculated op (comparison_of op) v w) state
compared_is op v w state some = by_comparison (comparison_of op) op v w state some

by_arithmetic : (o : Option CmpOp) (op : BinOp) (a b : Expr) (state : State) → is_some o ≡ false
    → states.arith op a b state ≡ option_and_then (calculated op o (vars.Number a) (vars.Number b)) state
by_arithmetic None op a b None none = refl
by_arithmetic None op a b (Some known) none = refl
by_arithmetic (Some cmp) op a b state none = cc

pub computed_is : (op : BinOp) (v w : Var) (a b : Expr) (state : State) → is_some (comparison_of op) ≡ false → v ≡ vars.Number a → w ≡ vars.Number b
    → states.arith op a b state ≡ option_and_then (calculated op (comparison_of op) v w) state
computed_is op v w a b state none first second = rw (first, second) (by_arithmetic (comparison_of op) op a b state none)

-- Operands that an operator on numbers does not take.
pub refused_is : (op : BinOp) (v w : Var) (state : State) → is_some (comparison_of op) ≡ false
    → ((known : StateFacts) → calculated op None v w known ≡ None)
    → None ≡ option_and_then (calculated op (comparison_of op) v w) state
refused_is op v w None none refused = refl
refused_is op v w (Some known) none refused = by (comparison_of op) none
  where
    by : (o : Option CmpOp) → is_some o ≡ false → None ≡ calculated op o v w known
    by None none = sym (refused known)
    by (Some cmp) none = cc

on_operated : (op : BinOp) (state : State) → option_and_then (on_two (calculated op (comparison_of op))) state ≡ option_and_then (operated op) state
unfolding operated
on_operated op None = refl
on_operated op (Some known) = refl

pub operated_is : (op : BinOp) (two : Option (Var × Var)) (vs : Var × Var) (state after : State) → two ≡ Some vs → TookTwo two state after
    → option_and_then (calculated op (comparison_of op) vs.0 vs.1) after ≡ option_and_then (operated op) state
operated_is op two vs state after some took =
    sym (took (calculated op (comparison_of op)) ∙ ap (λ (o : Option (Var × Var)). over_two (calculated op (comparison_of op)) o after) some) ∙ on_operated op state

pub not_operated : (op : BinOp) (state after : State) → TookTwo None state after → None ≡ option_and_then (operated op) state
not_operated op state after took = sym (took (calculated op (comparison_of op))) ∙ on_operated op state

-- What lies under the top is on top where the top is taken.
under_top : (xs : List Var) → slice_get (reverse (reverse xs)) 1
    ≡ slice_get (reverse (take (length (reverse xs) - 1) (reverse xs))) 0
under_top [] = refl
under_top (x ∷ xs) =
    let turned : reverse (x ∷ xs) ≡ reverse xs ++ x ∷ [] = reverse-append (x ∷ []) xs in
    ap (λ (ys : List Var). slice_get ys 1) (reverse-reverse (x ∷ xs))
    ∙ ap (λ (ys : List Var). slice_get ys 0) (sym (reverse-reverse xs))
    ∙ ap (λ (ys : List Var). slice_get (reverse ys) 0)
    (sym (ap (λ (ys : List Var). take (length ys - 1) ys) turned ∙ prefix (reverse xs) x))

second_is : (known : StateFacts) → from_top 1 known ≡ from_top 0 (popped known)
unfolding popped
second_is known =
    subst (λ (vs : List Var). slice_get (reverse vs) 1 ≡ slice_get (reverse (take (length vs - 1) vs)) 0)
    (reverse-reverse known.variables) (under_top (reverse known.variables))

-- What is owed of the operands.
pub ready_here : (op : BinOp) (state : State) (v w : Var) → option_and_then (from_top 0) state ≡ Some w
    → option_and_then (from_top 0) (states.pop state) ≡ Some v → ForSome state (IsReady (ops.Bin op))
    → AreReadyFor op (Some v) (Some w)
ready_here op None v w is below ready = absurd cc
ready_here op (Some known) v w is below ready =
    subst (λ (o : Option Var). AreReadyFor op o (Some w)) (second_is known ∙ below)
    (subst (λ (o : Option Var). AreReadyFor op (from_top 1 known) o) is (ready known refl))

pub numbers_ready : (op : BinOp) (v w : Var) (a b : Expr) → v ≡ vars.Number a → w ≡ vars.Number b
    → AreReadyFor op (Some v) (Some w) → Divides op b × Shifts op b
numbers_ready op v w a b first second ready =
    subst (λ (y : Var). AreReadyFor op (Some (vars.Number a)) (Some y)) second
    (subst (λ (x : Var). AreReadyFor op (Some x) (Some w)) first ready)

-- ---- one operand

on_negated : (state : State) → option_and_then (on_one (taken_from (pos 0))) state ≡ option_and_then negated state
unfolding negated
on_negated None = refl
on_negated (Some known) = refl

pub negated_is : (state after : State) → after ≡ option_and_then (on_one (taken_from (pos 0))) state → after ≡ option_and_then negated state
negated_is state after is = is ∙ on_negated state

on_complemented : (state : State) → option_and_then (on_one (taken_from (negsuc 0))) state ≡ option_and_then complemented state
unfolding complemented
on_complemented None = refl
on_complemented (Some known) = refl

pub complemented_is : (state after : State) → after ≡ option_and_then (on_one (taken_from (negsuc 0))) state → after ≡ option_and_then complemented state
complemented_is state after is = is ∙ on_complemented state

over_number : (n : ℤ) (e : Expr) (after : State) → states.arith operators.Sub (constant n) e after ≡ over_one (taken_from n) (Some (vars.Number e)) after
over_number n e None = refl
over_number n e (Some known) = refl

pub taken_is : (n : ℤ) (e : Expr) (state after : State) → Took (Some (vars.Number e)) state after
    → states.arith operators.Sub (constant n) e after ≡ option_and_then (on_one (taken_from n)) state
taken_is n e state after took = over_number n e after ∙ sym (took (taken_from n))

-- ---- values that are no such

-- A rule that gives nothing over what was taken.
pub nothing_over : (rule : Var → StateFacts → State) (o : Option Var) (state after : State) → Took o state after → over_one rule o after ≡ None
    → None ≡ option_and_then (on_one rule) state
nothing_over rule o state after took none = sym (took rule ∙ none)

pub no_number : (n : ℤ) (o : Option Var) (after : State) → ((e : Expr) → o ≡ Some (vars.Number e) → ⊥) → over_one (taken_from n) o after ≡ None
no_number n None after not = refl
no_number n (Some v) None not = refl
no_number n (Some (vars.Number e)) (Some known) not = absurd (not e refl)
no_number n (Some _) (Some known) not = refl

pub no_reference : (o : Option Var) (after : State) → ((r : ℕ) → o ≡ Some (vars.Reference r) → ⊥) → over_one with_length o after ≡ None
no_reference None after not = refl
no_reference (Some v) None not = refl
no_reference (Some (vars.Reference r)) (Some known) not = absurd (not r refl)
no_reference (Some _) (Some known) not = refl

-- ---- arrays

over_length : (r : ℕ) (e : Expr) (after : State) → ForSome after (λ known. e ≡ length_at known r)
    → states.push (vars.Number e) after ≡ over_one with_length (Some (vars.Reference r)) after
over_length r e None is = refl
over_length r e (Some known) is = ap (λ (x : Expr). states.push (vars.Number x) (Some known)) (is known refl)

pub length_is : (r : ℕ) (e : Expr) (state after : State) → Took (Some (vars.Reference r)) state after → ForSome after (λ known. e ≡ length_at known r)
    → states.push (vars.Number e) after ≡ option_and_then (on_one with_length) state
length_is r e state after took is = over_length r e after is ∙ sym (took with_length)

pub array_type : (number : ℕ) (place : Place) → array_place number ≡ Some place → IsArrayPlace place
array_type number place is =
    cond_both (number == 1) _ _ (λ (o : Option Place). o ≡ Some place → IsArrayPlace place)
    (λ one e. subst IsArrayPlace (same_Some places.Bools place e) tt)
    (λ other. cond_both (number == 2) _ _ (λ (o : Option Place). o ≡ Some place → IsArrayPlace place) (λ two e. subst IsArrayPlace (same_Some places.Ints place e) tt)
    (λ none e. absurd (none-some place e))) is

over_new : (place : Place) (n : Expr) (after : State) → states.new_array place n after ≡ over_one (with_new (Some place)) (Some (vars.Number n)) after
over_new place n None = refl
over_new place n (Some known) = refl

pub new_is : (number : ℕ) (place : Place) (n : Expr) (state after : State) → array_place number ≡ Some place → Took (Some (vars.Number n)) state after
    → states.new_array place n after ≡ option_and_then (on_one (with_new (array_place number))) state
new_is number place n state after is took = rw is (over_new place n after ∙ sym (took (with_new (Some place))))

no_new : (type : Option Place) (o : Option Var) (after : State) → ((place : Place) (n : Expr) → type ≡ Some place → o ≡ Some (vars.Number n) → ⊥)
    → over_one (with_new type) o after ≡ None
no_new type None after not = refl
no_new type (Some v) None not = refl
no_new (Some place) (Some (vars.Number n)) (Some known) not = absurd (not place n refl refl)
no_new (Some place) (Some _) (Some known) not = refl
no_new None (Some v) (Some known) not = refl

pub not_new : (number : ℕ) (o : Option Var) (state after : State) → Took o state after
    → ((place : Place) (n : Expr) → array_place number ≡ Some place → o ≡ Some (vars.Number n) → ⊥)
    → None ≡ option_and_then (on_one (with_new (array_place number))) state
not_new number o state after took not = sym (took (with_new (array_place number)) ∙ no_new (array_place number) o after not)

-- A new array, whether there is one or not.
pub made_here : (number : ℕ) (type : Option Place) (o : Option Var) (state after made : State) → type ≡ array_place number → Took o state after
    → made ≡ over_one (with_new type) o after → made ≡ option_and_then (on_one (with_new (array_place number))) state
made_here number type o state after made is took over = over ∙ ap (λ (t : Option Place). over_one (with_new t) o after) is ∙ sym (took (with_new (array_place number)))

over_item : (r : ℕ) (i : Expr) (after : State) → states.load r i after ≡ option_and_then (with_item_of (vars.Reference r) (vars.Number i)) after
over_item r i None = refl
over_item r i (Some known) = refl

pub item_is : (r : ℕ) (i : Expr) (state after : State) → TookTwo (Some (vars.Reference r, vars.Number i)) state after
    → states.load r i after ≡ option_and_then (on_two with_item_of) state
item_is r i state after took = over_item r i after ∙ sym (took with_item_of)

over_stored : (r : ℕ) (i value : Expr) (after : State)
    → states.store r i value after ≡ option_and_then (with_number_put value (vars.Reference r) (vars.Number i)) after
over_stored r i value None = refl
over_stored r i value (Some known) = refl

pub number_stored : (r : ℕ) (i value : Expr) (state after : State) → TookTwo (Some (vars.Reference r, vars.Number i)) state after
    → states.store r i value after ≡ option_and_then (on_two (with_number_put value)) state
number_stored r i value state after took = over_stored r i value after ∙ sym (took (with_number_put value))

pub stored_over : (value : Expr) (state between : State) → Took (Some (vars.Number value)) state between
    → option_and_then (on_two (with_number_put value)) between ≡ option_and_then (on_three with_item_put) state
stored_over value state between took = sym (took (λ upper. on_two (λ lowest lower. with_item_put lowest lower upper)))

-- What is there stays where two values are taken.
pub there_twice : (state after : State) (v : Var) → ForSome state (λ known. HasVar known v) → after ≡ states.pop (states.pop state)
    → ForSome after (λ known. HasVar known v)
there_twice state after v there is =
    subst (λ (s : State). ForSome s (λ known. HasVar known v)) (sym is) (still_there (states.pop state) v (still_there state v there))

no_rule : (f : Var → Var → StateFacts → State) (known : StateFacts) → ((v w : Var) (x : StateFacts) → f v w x ≡ None) → on_two f known ≡ None
no_rule f known none = by (from_top 0 known)
  where
    inner : (o : Option Var) (upper : Var) (x : StateFacts) → with_one (λ lower. f lower upper) o x ≡ None
    inner None upper x = refl
    inner (Some lower) upper x = none lower upper x

    by : (o : Option Var) → with_one (λ upper. on_one (λ lower. f lower upper)) o (popped known) ≡ None
    by None = refl
    by (Some upper) = inner (from_top 0 (popped known)) upper (popped (popped known))

no_value : (v : Var) → ((e : Expr) → v ≡ vars.Number e → ⊥) → (a i : Var) (known : StateFacts) → with_item_put a i v known ≡ None
no_value (vars.Number e) not a i known = absurd (not e refl)
no_value _ not (vars.Reference q) (vars.Number i) known = refl
no_value _ not (vars.Reference q) _ known = refl
no_value _ not _ i known = refl

-- What is stored is no number.
pub not_stored : (o : Option Var) (state between : State) → Took o state between → ((e : Expr) → o ≡ Some (vars.Number e) → ⊥)
    → None ≡ option_and_then (on_three with_item_put) state
not_stored o state between took not = sym (took rule ∙ over o between not)
  where
    rule : Var → StateFacts → State
    rule upper = on_two (λ lowest lower. with_item_put lowest lower upper)

    over : (o : Option Var) (s : State) → ((e : Expr) → o ≡ Some (vars.Number e) → ⊥) → over_one (λ upper. on_two (λ lowest lower. with_item_put lowest lower upper)) o s ≡ None
    over None s not = refl
    over (Some v) None not = refl
    over (Some v) (Some known) not =
        no_rule (λ lowest lower. with_item_put lowest lower v) known (λ a i x. no_value v (λ e is. not e (ap (λ (w : Var). Some w) is)) a i x)

pub calculated_where_ok : {E : Type 0} (result : Result (Unit {0}) E) (new a b : State) → OnOk result (new ≡ a) → a ≡ b → OnOk result (new ≡ b)
calculated_where_ok (Ok u) new a b is same = is ∙ same
calculated_where_ok (Err e) new a b is same = is

pub ruleset calculating = (compared_is, computed_is, refused_is, operated_is, not_operated, ready_here, numbers_ready, negated_is, complemented_is, taken_is, no_number, array_type)

pub ruleset storing = (number_stored, stored_over, not_stored, there_twice)
