-- What lies ahead of instructions, from what lies ahead of later ones.
use Rattle.std.proofs.Common.{◌≡◌, ◌⊎◌, Bool, true, false, if◌then◌else◌, ℕ, zero, suc, ◌+◌, ◌<◌, ◌≤◌, ◌==◌, List, [], ◌∷◌, length, map, set, Option, Some, None, is_some, slice_get, slice_index_or, get_or, refl, sym, ap, subst, ◌∙◌, arith, inl, inr}
use Rattle.std.specs.List.{AllByRecursion}
use Rattle.std.specs.Option.{option_and_then}
use Rattle.std.proofs.lemmas.Bool.{cases_lt, cases_order, eq-eqb, ne_eqb}
use Rattle.std.proofs.lemmas.List.{get_or-set_other, get_or-set_same, length-map, length-set}
use Rattle.std.proofs.lemmas.Option.{none-some, same_Some}
use Rattle.cil_model.specs.ClauseTrees.{Item, Tree, Message, closed_by, closing, items_behind, tree_at}
use Rattle.cil_model.specs.Offsets.{StandsAt}
use Rattle.cil_model.specs.Runs.{instr_at}
use Rattle.cil_model.specs.Terms.{Term}
use Rattle.cil_model.specs.UnitCalls.{unit_call}
use Rattle.cil_model.specs.declared.clause.ClauseKind.{ClauseKind}
use Rattle.cil_model.specs.declared.instruction.Instr.{Instr}
use Rattle.cil_model.specs.declared.instruction.Op.{Op}
use Rattle.cil_model.specs.declared.instruction.Op.TheVariants as ops
use Rattle.cil_model.specs.declared.instruction.Test.TheVariants as tests
use Rattle.cil_model.specs.declared.unit_numbers.UnitCall.{UnitCall}
use Rattle.cil_model.specs.declared.unit_numbers.UnitCall.TheVariants as calls
use Rattle.cil_model.specs.ShortCode.{AreOfShortCode, IsOfShortCode, LieFrom}
use Rattle.contract_extract.specs.Dropping.{AreAhead, AreFirstOwn, IsAheadOf, IsBelow, IsWithin, Leads, LiesAhead, Spares, Works, ahead_at, behind, call_takes, cut, makes, message_dropped, nothing, own_ahead, takes, without}
use Rattle.contract_extract.specs.Growth.{Keeps, forward, idle_to, jump_of, onward, tree_here}
use Rattle.contract_extract.specs.declared.trees.ahead.Ahead.{Ahead}
use Rattle.contract_extract.specs.declared.trees.dropped.Dropped.{Dropped}
use Rattle.contract_extract.proofs.TreeLemmas.Cutting.{others_behind}
use Rattle.contract_extract.proofs.TreeLemmas.Found.{found_tree}
use Rattle.cil_model.proofs.KindsSettle.{found_at}
use Rattle.contract_extract.proofs.TreeLemmas.Growing.{keeps_on, keeps_same, onward_later}
use Rattle.contract_extract.proofs.BlockLemmas.SliceFound.{in_order, slice_found_from, some_within}
use Rattle.contract_extract.proofs.TreeLemmas.Stretches.{pass_at}

abbrev pub at_none : Ahead
at_none = record { works_at = 0; dropped = nothing }

-- ---- what is found by an IL offset

ahead_from : (from : ℕ) (is : List Instr) (ahead : List Ahead) (k : ℕ) (i : Instr) → LieFrom from is → AllByRecursion IsOfShortCode is
    → length ahead ≡ length is → slice_get is k ≡ Some i → ahead_at is ahead i.at ≡ slice_index_or ahead k at_none
ahead_from from [] ahead k i lie each long e = absurd (none-some i e)
ahead_from from (j ∷ is) [] k i lie each long e = absurd (omega (arith, long))
ahead_from from (j ∷ is) (a ∷ ahead) zero i lie each long e = rw (eq-eqb j.at i.at (ap (λ (x : Instr). x.at) (same_Some j i e))) refl
ahead_from from (j ∷ is) (a ∷ ahead) (suc k) i lie each long e =
    let low : from + j.size ≤ i.at = (slice_found_from (from + j.size) is k i lie.1 each.1 e).0 in
    rw (ne_eqb j.at i.at (λ f. omega (arith, f, low, lie.0, each.0.some)))
    (ahead_from (from + j.size) is ahead k i lie.1 each.1 (omega (arith, long)) e)

pub ahead_own : (is : List Instr) (ahead : List Ahead) (k : ℕ) (i : Instr) → AreOfShortCode is → length ahead ≡ length is → slice_get is k ≡ Some i
    → ahead_at is ahead i.at ≡ slice_index_or ahead k at_none
ahead_own is ahead k i short long e = ahead_from 0 is ahead k i short.lie short.each long e

-- The instruction of a place that is found.
pub record Place (is : List Instr) (at k : ℕ) : Type 0 where
  pub instr : Instr
  pub there : slice_get is k ≡ Some instr
  pub here : instr.at ≡ at

pub place : (is : List Instr) (at k : ℕ) → StandsAt is at k → Place is at k
place is at k found = by (slice_get is k) refl
  where
    by : (o : Option Instr) → slice_get is k ≡ o → Place is at k
    by None e = absurd (some_within is k found.within e)
    by (Some i) e = record { instr = i; there = e; here = found_at is at i (found.found ∙ e) }

pub ahead_found : (is : List Instr) (ahead : List Ahead) (at k : ℕ) → AreOfShortCode is → length ahead ≡ length is → StandsAt is at k
    → ahead_at is ahead at ≡ slice_index_or ahead k at_none
ahead_found is ahead at k short long found =
    let p = place is at k found in
    subst (λ (n : ℕ). ahead_at is ahead n ≡ slice_index_or ahead k at_none) p.here (ahead_own is ahead k p.instr short long p.there)

pub ahead_nowhere : (is : List Instr) (ahead : List Ahead) (at : ℕ) → instr_at is at ≡ None → (ahead_at is ahead at).dropped ≡ nothing
ahead_nowhere [] ahead at none = refl
ahead_nowhere (i ∷ is) [] at none = refl
ahead_nowhere (i ∷ is) (a ∷ ahead) at none = by (i.at == at) none (ahead_nowhere is ahead at)
  where
    by : (b : Bool) → (if b then Some i else instr_at is at) ≡ None → (instr_at is at ≡ None → (ahead_at is ahead at).dropped ≡ nothing)
        → (if b then a else ahead_at is ahead at).dropped ≡ nothing
    by true e rest = absurd (none-some i (sym e))
    by false e rest = rest e

pub dropped_found : (is : List Instr) (ahead : List Ahead) (at k : ℕ) → AreOfShortCode is → length ahead ≡ length is → StandsAt is at k
    → (slice_index_or ahead k at_none).dropped ≡ (ahead_at is ahead at).dropped
dropped_found is ahead at k short long found = sym (ap (λ (a : Ahead). a.dropped) (ahead_found is ahead at k short long found))

pub dropped_nowhere : (is : List Instr) (ahead : List Ahead) (at : ℕ) → instr_at is at ≡ None → nothing ≡ (ahead_at is ahead at).dropped
dropped_nowhere is ahead at none = sym (ahead_nowhere is ahead at none)

-- ---- later instructions

-- Where an IL offset leads, in terms of what is known of all.
pub record Settled (is : List Instr) (ahead : ℕ → Ahead) (at : ℕ) (here : Ahead) : Type 0 where
  pub own : ahead at ≡ here
  pub later : at ≤ here.works_at
  pub there : (ahead here.works_at).works_at ≡ here.works_at
  pub leads : (items : List Item) → Leads is at items here.dropped here.works_at (ahead here.works_at).dropped

settled_by : (is : List Instr) (ahead : ℕ → Ahead) (i : Instr) (here : Ahead) → ahead i.at ≡ here → LiesAhead is ahead i here → Settled is ahead i.at here
settled_by is ahead i here own lies = record {
  own = own;
  later = lies.later;
  there = elim (cases_lt i.at here.works_at) [
    | inl less ↦ lies.there less
    | inr more ↦ there_same (let x = lies.later in omega (arith, more, x))
  ];
  leads = λ items. elim (cases_lt i.at here.works_at) [
    | inl less ↦ lies.leads less items
    | inr more ↦ leads_same items (let x = lies.later in omega (arith, more, x))
  ];
}
  where
    there_same : i.at ≡ here.works_at → (ahead here.works_at).works_at ≡ here.works_at
    there_same same = ap (λ (n : ℕ). (ahead n).works_at) (sym same) ∙ ap (λ (a : Ahead). a.works_at) own

    leads_same : (items : List Item) → i.at ≡ here.works_at → Leads is i.at items here.dropped here.works_at (ahead here.works_at).dropped
    leads_same items same = record {
      others = items;
      same = ap (λ (d : Dropped). without d items) (sym (ap (λ (n : ℕ). (ahead n).dropped) (sym same) ∙ ap (λ (a : Ahead). a.dropped) own));
      keeps = keeps_same (forward is i.at items) (forward is here.works_at items) (ap (λ (n : ℕ). forward is n items) same);
    }

pub settled_at : (is : List Instr) (ahead : List Ahead) (at k : ℕ) (here : Ahead) → AreOfShortCode is → AreAhead is ahead → StandsAt is at k
    → slice_index_or ahead k at_none ≡ here → Settled is (ahead_at is ahead) at here
settled_at is ahead at k here short all found e =
    let p = place is at k found in
    let lies : LiesAhead is (ahead_at is ahead) p.instr here = subst (λ (a : Ahead). LiesAhead is (ahead_at is ahead) p.instr a) e (all.each k p.instr p.there) in
    subst (λ (n : ℕ). Settled is (ahead_at is ahead) n here) p.here
    (settled_by is (ahead_at is ahead) p.instr here (ahead_own is ahead k p.instr short all.long p.there ∙ e) lies)

pub settled : (is : List Instr) (ahead : List Ahead) (at : ℕ) (here : Ahead) → AreOfShortCode is → AreAhead is ahead → IsAheadOf is ahead at here
    → Settled is (ahead_at is ahead) at here
settled is ahead at here short all of = settled_at is ahead at of.index here short all of.found of.entry

-- ---- an instruction by itself

spares_call : (call : Option UnitCall) → (((message_dropped (closed_by call)).count ≡ 0) ⊎ (call_takes call ≤ (message_dropped (closed_by call)).above))
spares_call (Some (calls.Requires true)) = inr (omega arith)
spares_call (Some (calls.Requires false)) = inl refl
spares_call (Some (calls.Ensures true)) = inr (omega arith)
spares_call (Some (calls.Ensures false)) = inl refl
spares_call _ = inl refl

spares_own : (op : Op) → Spares op (message_dropped (closing op))
spares_own (ops.Call number) = spares_call (unit_call number)
spares_own _ = inl refl

own_works : (ahead : ℕ → Ahead) (i : Instr) → Works ahead i (message_dropped (closing i.op))
own_works ahead i = record {
  spares = spares_own i.op;
  closes = λ closed. refl;
  goes = λ none later goes. inl (ap (λ (c : Option (ClauseKind × Bool)). (message_dropped c).count) none);
}

pub own_lies : (is : List Instr) (ahead : ℕ → Ahead) (i : Instr) → LiesAhead is ahead i (own_ahead i)
own_lies is ahead i = record {
  later = omega arith;
  works = λ same. own_works ahead i;
  there = λ less. absurd (omega (arith, less));
  leads = λ less items. absurd (omega (arith, less));
}

-- ---- an instruction that makes nothing

idle_at : (from : ℕ → List Item → Option Term) (i : Instr) (op : Op) (to : ℕ) (items : List Item) → idle_to op (i.at + i.size) ≡ Some to → i.at < to
    → Keeps (tree_at (onward from i.at) (closing op) i op items) (from to items)
idle_at from i ops.Nop to items idle above =
    let same : i.at + i.size ≡ to = same_Some (i.at + i.size) to idle in
    keeps_same _ _ (ap (λ (n : ℕ). onward from i.at n items) same ∙ onward_later from i.at to items above)
idle_at from i (ops.Branch tests.Always target) to items idle above =
    let same : target ≡ to = same_Some target to idle in
    keeps_same _ _ (ap (λ (n : ℕ). onward from i.at n items) same ∙ onward_later from i.at to items above)
idle_at from i ops.ConvI4 to [] idle above = tt
idle_at from i ops.ConvI4 to (Message ∷ items) idle above = tt
idle_at from i ops.ConvI4 to (Tree a ∷ items) idle above =
    let same : i.at + i.size ≡ to = same_Some (i.at + i.size) to idle in
    keeps_same _ _ (ap (λ (n : ℕ). onward from i.at n (Tree a ∷ items)) same ∙ onward_later from i.at to (Tree a ∷ items) above)
idle_at from i _ to items idle above = absurd cc

-- The way goes on with the same stack.
pub idle_lies : (is : List Instr) (ahead : ℕ → Ahead) (i : Instr) (to : ℕ) (here : Ahead) → AreOfShortCode is → instr_at is i.at ≡ Some i
    → idle_to i.op (i.at + i.size) ≡ Some to → i.at < to → Settled is ahead to here → LiesAhead is ahead i here
idle_lies is ahead i to here short there idle above next = record {
  later = (let x = next.later in omega (arith, above, x));
  works = λ same. absurd (let x = next.later in omega (arith, above, x, same));
  there = λ less. next.there;
  leads = λ less items.
      let on = next.leads items in
      record {
        others = on.others;
        same = on.same;
        keeps = keeps_on (forward is i.at items) (forward is to items) (forward is here.works_at on.others)
            (keeps_on (forward is i.at items) (tree_here (forward is) i items) (forward is to items)
            (keeps_same (forward is i.at items) (tree_here (forward is) i items) (found_tree is i.at i items short (sym there)))
            (idle_at (forward is) i i.op to items idle above)) on.keeps;
      };
}

-- ---- an instruction of which the value is dropped

value_tree : (is : List Instr) (i : Instr) (items others : List Item) → AreOfShortCode is → instr_at is i.at ≡ Some i → closing i.op ≡ None → jump_of i.op ≡ None
    → i.at < i.at + i.size → ((after : List Item) → items_behind i.op items ≡ Some after → after ≡ others)
    → Keeps (forward is i.at items) (forward is (i.at + i.size) others)
value_tree is i items others short there inside straight above are =
    keeps_on (forward is i.at items) (option_and_then (onward (forward is) i.at (i.at + i.size)) (items_behind i.op items)) (forward is (i.at + i.size) others)
    (keeps_same _ _ (found_tree is i.at i items short (sym there)
    ∙ ap (λ (c : Option (ClauseKind × Bool)). tree_at (onward (forward is) i.at) c i i.op items) inside
    ∙ pass_at (onward (forward is) i.at) i i.op items straight))
    (by (items_behind i.op items) are)
  where
    by : (o : Option (List Item)) → ((after : List Item) → o ≡ Some after → after ≡ others)
        → Keeps (option_and_then (onward (forward is) i.at (i.at + i.size)) o) (forward is (i.at + i.size) others)
    by None same = tt
    by (Some after) same = keeps_same (onward (forward is) i.at (i.at + i.size) after) (forward is (i.at + i.size) others)
        (onward_later (forward is) i.at (i.at + i.size) after above ∙ ap (forward is (i.at + i.size)) (same after refl))

same_cuts : (op : Op) (count : ℕ) (next : Dropped) (items others : List Item) → next.above ≡ 0 → next.count ≡ suc count
    → cut 0 (count + takes op) items ≡ cut 0 (suc count) others → without (record { above = 0; count = count + takes op }) items ≡ without next others
unfolding without
same_cuts op count next items others low many same =
    same ∙ ap (λ (n : ℕ). cut n (suc count) others) (sym low) ∙ ap (λ (n : ℕ). cut next.above n others) (sym many)

pub dropped_lies : (is : List Instr) (ahead : ℕ → Ahead) (i : Instr) (count : ℕ) (next : Ahead) → AreOfShortCode is → instr_at is i.at ≡ Some i
    → closing i.op ≡ None → jump_of i.op ≡ None → i.at < i.at + i.size → makes i.op ≡ 1 → next.dropped.above ≡ 0 → next.dropped.count ≡ suc count
    → Settled is ahead (i.at + i.size) next
    → LiesAhead is ahead i (record { works_at = next.works_at; dropped = record { above = 0; count = count + takes i.op } })
dropped_lies is ahead i count next short there inside straight above one low many on = record {
  later = (let x = on.later in omega (arith, above, x));
  works = λ same. absurd (let x = on.later in omega (arith, above, x, same));
  there = λ less. on.there;
  leads = λ less items.
      let o = others_behind i.op count items one in
      let rest = on.leads o.others in
      record {
        others = rest.others;
        same = same_cuts i.op count next.dropped items o.others low many o.same ∙ rest.same;
        keeps = keeps_on (forward is i.at items) (forward is (i.at + i.size) o.others) (forward is next.works_at rest.others)
            (value_tree is i items o.others short there inside straight above o.are) rest.keeps;
      };
}

-- ---- an instruction that works

works_lies : (is : List Instr) (ahead : ℕ → Ahead) (i : Instr) (dropped : Dropped) → Works ahead i dropped
    → LiesAhead is ahead i (record { works_at = i.at; dropped = dropped })
works_lies is ahead i dropped works = record {
  later = omega arith;
  works = λ same. works;
  there = λ less. absurd (omega (arith, less));
  leads = λ less items. absurd (omega (arith, less));
}

not_closing : {X : Type 0} (closed : Option X) → closed ≡ None → is_some closed ≡ true → ⊥
not_closing None none some = cc
not_closing (Some x) none some = absurd (none-some x (sym none))

spares_below : (op : Op) (rest here : Dropped) → IsBelow (takes op) rest here → Spares op here
spares_below op rest here below = elim below [
  | inl none ↦ inl none
  | inr more ↦ inr (let x = more.0 in omega (arith, x))
]

value_goes : (op : Op) (rest here next : Dropped) → IsBelow (takes op) rest here → rest.above + makes op ≡ next.above → rest.count ≡ next.count
    → IsWithin (behind op here) next
value_goes op rest here next below high same = elim below [
  | inl none ↦ inl none
  | inr more ↦ inr (let x = more.0 in let y = more.1 in (omega (arith, x, high), omega (arith, x, y, high, same)))
]

pub value_lies : (is : List Instr) (ahead : ℕ → Ahead) (i : Instr) (rest here : Dropped) (next : Ahead) → closing i.op ≡ None → jump_of i.op ≡ None
    → rest.above + makes i.op ≡ next.dropped.above → rest.count ≡ next.dropped.count → IsBelow (takes i.op) rest here → ahead (i.at + i.size) ≡ next
    → LiesAhead is ahead i (record { works_at = i.at; dropped = here })
value_lies is ahead i rest here next inside straight high same below own = works_lies is ahead i here (record {
  spares = spares_below i.op rest here below;
  closes = λ closed. absurd (not_closing (closing i.op) inside closed);
  goes = λ none later goes. elim goes.1 [
    | inl jump ↦ absurd (none-some later (sym straight ∙ jump))
    | inr at ↦ subst (λ (d : Dropped). IsWithin (behind i.op here) d) (sym (ap (λ (n : ℕ). (ahead n).dropped) at ∙ ap (λ (a : Ahead). a.dropped) own))
        (value_goes i.op rest here next.dropped below high same)
  ];
})

branch_makes : (op : Op) (to : ℕ) → jump_of op ≡ Some to → makes op ≡ 0
branch_makes (ops.Branch test target) to jump = refl
branch_makes _ to jump = absurd (none-some to jump)

branch_inside : (op : Op) (to : ℕ) → jump_of op ≡ Some to → closing op ≡ None
branch_inside (ops.Branch test target) to jump = refl
branch_inside _ to jump = absurd (none-some to jump)

branch_goes : (op : Op) (shared here next : Dropped) → makes op ≡ 0 → IsBelow (takes op) shared here → IsWithin shared next → IsWithin (behind op here) next
branch_goes op shared here next none below within = elim below [
  | inl nothing_here ↦ inl nothing_here
  | inr more ↦ elim within [
    | inl nothing_shared ↦ inl (let y = more.1 in omega (arith, y, nothing_shared))
    | inr parts ↦ inr (let x = more.0 in let y = more.1 in let u = parts.0 in let v = parts.1 in (omega (arith, x, none, u), omega (arith, x, y, none, v)))
  ]
]

pub branch_lies : (is : List Instr) (ahead : ℕ → Ahead) (i : Instr) (to : ℕ) (shared here : Dropped) (target next : Ahead) → jump_of i.op ≡ Some to
    → IsBelow (takes i.op) shared here → IsWithin shared target.dropped → IsWithin shared next.dropped → ahead to ≡ target → ahead (i.at + i.size) ≡ next
    → LiesAhead is ahead i (record { works_at = i.at; dropped = here })
branch_lies is ahead i to shared here target next jump below first second at_target at_next = works_lies is ahead i here (record {
  spares = spares_below i.op shared here below;
  closes = λ closed. absurd (not_closing (closing i.op) (branch_inside i.op to jump) closed);
  goes = λ none later goes. elim goes.1 [
    | inl other ↦
        (let at : later ≡ to = same_Some later to (sym other ∙ jump) in
        subst (λ (d : Dropped). IsWithin (behind i.op here) d) (sym (ap (λ (n : ℕ). (ahead n).dropped) at ∙ ap (λ (a : Ahead). a.dropped) at_target))
        (branch_goes i.op shared here target.dropped (branch_makes i.op to jump) below first))
    | inr at ↦ subst (λ (d : Dropped). IsWithin (behind i.op here) d) (sym (ap (λ (n : ℕ). (ahead n).dropped) at ∙ ap (λ (a : Ahead). a.dropped) at_next))
        (branch_goes i.op shared here next.dropped (branch_makes i.op to jump) below second)
  ];
})

-- ---- all instructions

ahead_other : (is : List Instr) (ahead : List Ahead) (j : ℕ) (i : Instr) (here : Ahead) (later : ℕ) → slice_get is j ≡ Some i → i.at < later
    → ahead_at is (set ahead j here) later ≡ ahead_at is ahead later
ahead_other [] ahead j i here later there less = refl
ahead_other (k ∷ is) [] zero i here later there less = refl
ahead_other (k ∷ is) [] (suc j) i here later there less = refl
ahead_other (k ∷ is) (a ∷ ahead) zero i here later there less =
    let same : k.at ≡ i.at = ap (λ (x : Instr). x.at) (same_Some k i there) in rw (ne_eqb k.at later (λ e. omega (arith, e, same, less))) refl
ahead_other (k ∷ is) (a ∷ ahead) (suc j) i here later there less =
    ap (λ (rest : Ahead). if k.at == later then a else rest) (ahead_other is ahead j i here later there less)

-- Only what is known of later instructions matters.
moved : (is : List Instr) (f g : ℕ → Ahead) (i : Instr) (here : Ahead) → ((later : ℕ) → i.at < later → f later ≡ g later) → LiesAhead is f i here
    → LiesAhead is g i here
moved is f g i here same lies = record {
  later = lies.later;
  works = λ own.
      let works = lies.works own in
      record {
        spares = works.spares;
        closes = works.closes;
        goes = λ none later goes. subst (λ (a : Ahead). IsWithin (behind i.op here.dropped) a.dropped) (same later goes.0) (works.goes none later goes);
      };
  there = λ less. subst (λ (a : Ahead). a.works_at ≡ here.works_at) (same here.works_at less) (lies.there less);
  leads = λ less items. subst (λ (a : Ahead). Leads is i.at items here.dropped here.works_at a.dropped) (same here.works_at less) (lies.leads less items);
}

own_there : (is : List Instr) (k : ℕ) (i : Instr) → slice_get is k ≡ Some i → slice_index_or (map own_ahead is) k at_none ≡ own_ahead i
own_there [] k i there = absurd (none-some i there)
own_there (j ∷ is) zero i there = ap own_ahead (same_Some j i there)
own_there (j ∷ is) (suc k) i there = own_there is k i there

-- What is known of each by itself.
pub all_own : (is : List Instr) → AreAhead is (map own_ahead is)
all_own is = record {
  long = length-map is own_ahead;
  each = λ k i there. subst (λ (a : Ahead). LiesAhead is (ahead_at is (map own_ahead is)) i a) (sym (own_there is k i there))
      (own_lies is (ahead_at is (map own_ahead is)) i);
}

pub first_own : (is : List Instr) (count : ℕ) → AreFirstOwn is (map own_ahead is) count
first_own is count k i within there = own_there is k i there

-- What is known of one more instruction, from the last to the first.
pub one_known : (is : List Instr) (ahead : List Ahead) (j : ℕ) (here : Ahead) → AreOfShortCode is → AreAhead is ahead → AreFirstOwn is ahead (suc j) → j < length is
    → ((i : Instr) → slice_get is j ≡ Some i → LiesAhead is (ahead_at is ahead) i here) → AreAhead is (set ahead j here)
one_known is ahead j here short all first within lies = by (slice_get is j) refl
  where
    each : (i : Instr) → slice_get is j ≡ Some i → (k : ℕ) (other : Instr) → slice_get is k ≡ Some other
        → LiesAhead is (ahead_at is (set ahead j here)) other (slice_index_or (set ahead j here) k at_none)
    each i there k other at = elim (cases_order k j) [
      | inl same ↦
          (let mine : slice_get is j ≡ Some other = subst (λ (n : ℕ). slice_get is n ≡ Some other) same at in
          let own : get_or (set ahead j here) k at_none ≡ here = ap (λ (n : ℕ). get_or (set ahead j here) n at_none) same
          ∙ get_or-set_same ahead j here at_none (let x = all.long in omega (arith, x, within)) in
          subst (λ (a : Ahead). LiesAhead is (ahead_at is (set ahead j here)) other a) (sym own)
          (moved is (ahead_at is ahead) (ahead_at is (set ahead j here)) other here
          (λ later less. sym (ahead_other is ahead j other here later mine less)) (lies other mine)))
      | inr (inl before) ↦
          (let own : get_or (set ahead j here) k at_none ≡ own_ahead other =
          get_or-set_other ahead j k here at_none (λ e. omega (arith, e, before)) ∙ first k other (omega (arith, before)) at in
          subst (λ (a : Ahead). LiesAhead is (ahead_at is (set ahead j here)) other a) (sym own) (own_lies is (ahead_at is (set ahead j here)) other))
      | inr (inr behind_it) ↦
          (let rest : get_or (set ahead j here) k at_none ≡ get_or ahead k at_none = get_or-set_other ahead j k here at_none (λ e. omega (arith, e, behind_it)) in
          let higher : i.at < other.at = in_order is j k i other short behind_it there at in
          subst (λ (a : Ahead). LiesAhead is (ahead_at is (set ahead j here)) other a) (sym rest)
          (moved is (ahead_at is ahead) (ahead_at is (set ahead j here)) other (get_or ahead k at_none)
          (λ later less. sym (ahead_other is ahead j i here later there (omega (arith, higher, less)))) (all.each k other at)))
    ]

    by : (o : Option Instr) → slice_get is j ≡ o → AreAhead is (set ahead j here)
    by None e = absurd (some_within is j within e)
    by (Some i) e = record { long = length-set ahead j here ∙ all.long; each = each i e }

pub fewer_own : (is : List Instr) (ahead : List Ahead) (j : ℕ) (here : Ahead) → AreFirstOwn is ahead (suc j) → AreFirstOwn is (set ahead j here) j
fewer_own is ahead j here first k i within there =
    get_or-set_other ahead j k here at_none (λ e. omega (arith, e, within)) ∙ first k i (omega (arith, within)) there
