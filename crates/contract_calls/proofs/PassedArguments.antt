-- Arguments that are put are those that a call takes from the stack.
use Rattle.std.proofs.Common.{◌≡◌, ℕ, zero, suc, ◌+◌, ◌-◌, ℤ, List, [], ◌∷◌, ◌++◌, length, reverse, take, drop, set, slice_get, Option, Some, None, refl, ap, subst, sym, ◌∙◌, append_assoc, arith}
use Rattle.std.specs.List.{AllByRecursion}
use Rattle.std.specs.Option.{ForSome, option_map, option_map_or}
use Rattle.std.proofs.Math.Seq.{set-append_seam}
use Rattle.std.proofs.lemmas.List.{length-append, reverse-append, reverse-reverse, take-append-drop}
use Rattle.std.proofs.lemmas.Option.{none-some, same_Some}
use Rattle.cil_model.specs.Calls.{args_of}
use Rattle.cil_model.specs.Values.{FitPlaces, Heap, IsValue, put, put_all, with_first}
use Rattle.cil_model.specs.declared.machine.Frame.{Frame}
use Rattle.cil_model.specs.declared.machine.Value.{Value}
use Rattle.cil_model.specs.declared.place.Place.{Place}
use Rattle.cil_model.proofs.HeapsKept.{value_of_place}
use Rattle.cil_model.proofs.Lists.{all_append, all_drop, all_reverse}
use Rattle.cil_model.proofs.StepsKeep.{args_fit}
use Rattle.clause_trees.proofs.AssumedKept.{itself_same}
use Rattle.clause_trees.proofs.SameForms.{same_forms_on}
use Rattle.clause_trees.proofs.Stays.{form_alike, found_var}
use Rattle.clause_trees.specs.VariableKinds.{AreSameForms, HasSameForms, HasSameFormsIn, IsSameForm, place_in}
use Rattle.domain_api.specs.declared.expr.Expr.{Expr}
use Rattle.frame_names.specs.declared.var.Var.{Var}
use Rattle.frame_names.specs.declared.var.Var.TheVariants as vars
use Rattle.machine_points.specs.MachineValues.{HasMachineValues}
use Rattle.machine_points.specs.declared.point.Point.{Point}
use Rattle.merged_states.specs.Following.{HoldsOver}
use Rattle.number_facts.specs.Fresh.{Made}
use Rattle.state_facts.proofs.Agreeing.{as_many}
use Rattle.state_facts.proofs.Growing.{Formed, one_longer}
use Rattle.state_facts.proofs.MoveForms.{put_form}
use Rattle.state_facts.proofs.MovesHold.{put_keeps}
use Rattle.state_facts.specs.Forms.{HasForm, HasVar}
use Rattle.state_facts.specs.Holds.{HasValue, HaveValues, HoldsAt, HoldsIn, variables_of}
use Rattle.state_facts.specs.Moves.{in_variable, placed, with_placed, with_put}
use Rattle.state_facts.specs.StateFacts.{StateFacts, State}
use Rattle.state_facts.specs.States as states
use Rattle.contract_calls.specs.Arguments.{first_of, put_args, put_from, put_slot}
use Rattle.contract_calls.specs.Meaning.{KeepsArgs, passing}

-- ---- forms

-- The same variables have the same forms, where references keep their types.
pub all_same : (a b : StateFacts) → ((r : ℕ) → place_in b r ≡ place_in a r) → (vs : List Var) → AreSameForms a b vs vs
all_same a b places [] = tt
all_same a b places (v ∷ vs) = (form_alike a b v places, all_same a b places vs)

set_same : (a b : StateFacts) (vs : List Var) (i : ℕ) (v w : Var) → ((r : ℕ) → place_in b r ≡ place_in a r)
    → slice_get vs i ≡ Some v → IsSameForm a b v w → AreSameForms a b vs (set vs i w)
set_same a b [] i v w places at same = tt
set_same a b (x ∷ vs) zero v w places at same =
    (subst (λ u. IsSameForm a b u w) (sym (same_Some x v at)) same, all_same a b places vs)
set_same a b (x ∷ vs) (suc i) v w places at same =
    (form_alike a b x places, set_same a b vs i v w places at same)

made_same : (known : StateFacts) (i : ℕ) (e : Expr) (o : Option Made)
    → slice_get known.variables i ≡ Some (vars.Number e)
    → Formed (option_map (in_variable known i) o) → HasSameFormsIn known (option_map (in_variable known i) o)
made_same known i e None at formed = tt
made_same known i e (Some made) at formed = record {
  form = formed;
  variables = set_same known (in_variable known i made) known.variables i (vars.Number e) (vars.Number made.expr)
      (λ r. refl) at tt;
}

-- A variable that is put as it is.
itself_put : (i : ℕ) (v : Var) (known : StateFacts) → slice_get known.variables i ≡ Some v
    → HasForm (record known { variables = set known.variables i v })
    → HasSameForms known (record known { variables = set known.variables i v })
itself_put i v known at formed =
    let after = record known { variables = set known.variables i v } in
    record {
      form = formed;
      variables = set_same known after known.variables i v v (λ r. refl) at (form_alike known after v (λ r. refl));
    }

var_put : (i : ℕ) (v : Var) (place : Place) (known : StateFacts) → slice_get known.variables i ≡ Some v
    → Formed (with_put i v place known) → HasSameFormsIn known (with_put i v place known)
unfolding with_put with_placed
var_put i (vars.Number e) place known at formed = made_same known i e (placed known.facts e place) at formed
var_put i (vars.Reference r) place known at formed = itself_put i (vars.Reference r) known at formed
var_put i vars.Text place known at formed = itself_put i vars.Text known at formed
var_put i (vars.Address r e) place known at formed = itself_put i (vars.Address r e) known at formed

abbrev put_var : ℕ → Place → State → Option Var → State
put_var i place state o = option_map_or (λ v. states.put i v place state) o state

slot_put : (i : ℕ) (place : Place) (known : StateFacts) (o : Option Var) → HasForm known
    → slice_get known.variables i ≡ o
    → HasSameFormsIn known (put_var i place (Some known) o)
slot_put i place known None form at = itself_same known form
slot_put i place known (Some v) form at =
    var_put i v place known at
    (put_form i v place known form
    (found_var (length known.facts.ranges) (length known.references) known.variables i v form.variables at))

nothing_put : (i : ℕ) (place : Place) → put_slot i place None ≡ None
nothing_put i place = refl

slot_same : (i : ℕ) (place : Place) (known : StateFacts) (o : State) → HasSameFormsIn known o
    → HasSameFormsIn known (put_slot i place o)
slot_same i place known None same = subst (HasSameFormsIn known) (sym (nothing_put i place)) tt
slot_same i place known (Some x) same =
    same_forms_on known x (put_slot i place (Some x)) same
    (slot_put i place x (slice_get x.variables i) same.form refl)

pub from_same : (places : List Place) (i : ℕ) (known : StateFacts) (o : State) → HasSameFormsIn known o
    → HasSameFormsIn known (put_from i places o)
from_same [] i known o same = same
from_same (place ∷ places) i known o same =
    from_same places (i + 1) known (put_slot i place o) (slot_same i place known o same)

-- Arguments that are put have the forms that they had.
pub args_same : (places : List Place) (known : StateFacts) → HasForm known
    → HasSameFormsIn known (put_args places (Some known))
unfolding put_args
args_same places known form =
    from_same places (first_of (length places) (Some known)) known (Some known) (itself_same known form)

pub args_all_same : (places : List Place) (state : State) → ForSome state HasForm
    → ForSome state (λ known. HasSameFormsIn known (put_args places state))
args_all_same places state form = λ known is.
    subst (λ s. HasSameFormsIn known (put_args places s)) (sym is) (args_same places known (form known is))

-- ---- values

-- A value of some has a variable.
value_at : (number : ℕ → ℤ) (array : ℕ → Option ℕ) (vs : List Var) (below rest : List Value) (value : Value)
    → HaveValues number array vs (below ++ value ∷ rest)
    → (v : Var) × (slice_get vs (length below) ≡ Some v) × HasValue number array v value
value_at number array [] [] rest value have = elim have [ ]
value_at number array [] (b ∷ below) rest value have = elim have [ ]
value_at number array (v ∷ vs) [] rest value have = (v, refl, have.0)
value_at number array (v ∷ vs) (b ∷ below) rest value have = value_at number array vs below rest value have.1

slot_keeps : (state : State) (place : Place) (below rest : List Value) (value stored : Value) (heap : Heap)
    → ForSome state HasForm → HoldsOver state (below ++ value ∷ rest) heap → put heap place value ≡ Some stored
    → HoldsOver (put_slot (length below) place state) (below ++ stored ∷ rest) heap
slot_keeps None place below rest value stored heap form over is = elim over.holds [ ]
slot_keeps (Some known) place below rest value stored heap form over is =
    let (v, at, has) = value_at over.number over.array known.variables below rest value over.holds.variables in
    let here = form known refl in
    let there =
    found_var (length known.facts.ranges) (length known.references) known.variables (length below) v
    here.variables at in
    let kept = put_keeps (length below) v place (Some known) form
    (λ x same. subst (λ k. HasVar k v) (same_Some known x same) there)
    (below ++ value ∷ rest) heap over.number over.array value stored over.holds has is in
    record {
      number = kept.later;
      array = kept.later_array;
      holds =
          subst (λ o. HoldsIn (put_var (length below) place (Some known) o) (below ++ stored ∷ rest) heap kept.later
          kept.later_array) (sym at)
          (subst (λ vs. HoldsIn (states.put (length below) v place (Some known)) vs heap kept.later kept.later_array)
          (set-append_seam below value rest stored) kept.holds);
    }

slot_form : (i : ℕ) (place : Place) (state : State) → ForSome state HasForm → ForSome (put_slot i place state) HasForm
slot_form i place None form = λ x is. absurd (none-some x (sym (nothing_put i place) ∙ is))
slot_form i place (Some known) form = λ x is.
    of_same (put_slot i place (Some known)) x
    (slot_same i place known (Some known) (itself_same known (form known refl)))
    is
  where
    of_same : (o : State) (x : StateFacts) → HasSameFormsIn known o → o ≡ Some x → HasForm x
    of_same None x same is = absurd (none-some x is)
    of_same (Some y) x same is = subst HasForm (same_Some y x is) same.form

-- A value that is put first, and others.
pub two_put : (o : Option Value) (p : Option (List Value)) (args : List Value) → with_first o p ≡ Some args
    → (stored : Value) × (others : List Value) × (o ≡ Some stored) × (p ≡ Some others) × (args ≡ stored ∷ others)
two_put None p args is = absurd (none-some args is)
two_put (Some stored) None args is = absurd (none-some args is)
two_put (Some stored) (Some others) args is = (stored, others, refl, refl, sym (same_Some (stored ∷ others) args is))

pub from_keeps : (places : List Place) (state : State) (below values args : List Value) (heap : Heap)
    → ForSome state HasForm → HoldsOver state (below ++ values) heap → put_all heap places values ≡ Some args
    → HoldsOver (put_from (length below) places state) (below ++ args) heap
from_keeps [] state below [] args heap form over are =
    subst (λ l. HoldsOver state (below ++ l) heap) (same_Some [] args are) over
from_keeps [] state below (value ∷ values) args heap form over are = absurd (none-some args are)
from_keeps (place ∷ places) state below [] args heap form over are = absurd (none-some args are)
from_keeps (place ∷ places) state below (value ∷ values) args heap form over are =
    let (stored, others, first, rest, all) = two_put (put heap place value) (put_all heap places values) args are in
    let one = slot_keeps state place below values value stored heap form over first in
    let more = from_keeps places (put_slot (length below) place state) (below ++ stored ∷ []) values others heap
    (slot_form (length below) place state form)
    (subst (λ l. HoldsOver (put_slot (length below) place state) l heap)
    (sym (append_assoc below (stored ∷ []) values)) one) rest in
    subst (λ l. HoldsOver (put_from (length below + 1) places (put_slot (length below) place state)) l heap)
    (append_assoc below (stored ∷ []) others ∙ ap (λ l. below ++ l) (sym all))
    (subst (λ n. HoldsOver (put_from n places (put_slot (length below) place state)) ((below ++ stored ∷ []) ++ others)
    heap) (one_longer below stored) more)

put_long : (heap : Heap) (places : List Place) (values args : List Value) → put_all heap places values ≡ Some args
    → length values ≡ length places
put_long heap [] [] args are = refl
put_long heap [] (value ∷ values) args are = absurd (none-some args are)
put_long heap (place ∷ places) [] args are = absurd (none-some args are)
put_long heap (place ∷ places) (value ∷ values) args are =
    let (stored, others, first, rest, all) = two_put (put heap place value) (put_all heap places values) args are in
    ap suc (put_long heap places values others rest)

-- ---- points

-- The variables below the stack.
abbrev pub base_of : Frame → List Value
base_of frame = frame.entry_args ++ frame.args ++ frame.locals

-- Those of a frame with arguments on its stack.
pub over_args : (base below args : List Value)
    → base ++ reverse (reverse args ++ below) ≡ (base ++ reverse below) ++ args
over_args base below args =
    ap (λ l. base ++ l) (reverse-append (reverse args) below ∙ ap (λ l. reverse below ++ l) (reverse-reverse args))
    ∙ sym (append_assoc base (reverse below) args)

pub over_of : (state : State) (p : Point) → HoldsAt state p → HoldsOver state (variables_of p.frame) p.heap
over_of state p at = record { number = at.frame.number; array = at.frame.array; holds = at.frame.holds }

pub at_of : (state : State) (p : Point) → HasMachineValues p → HoldsOver state (variables_of p.frame) p.heap
    → HoldsAt state p
at_of state p machine over = record {
  machine = machine;
  frame = record { number = over.number; array = over.array; holds = over.holds };
}

pub args_values : (heap : Heap) (places : List Place) (vs : List Value) → FitPlaces heap places vs
    → AllByRecursion (IsValue heap) vs
args_values heap [] [] fit = tt
args_values heap (place ∷ places) (v ∷ vs) fit = (value_of_place heap place v fit.0, args_values heap places vs fit.1)
args_values heap [] (v ∷ vs) fit = elim fit [ ]
args_values heap (place ∷ places) [] fit = elim fit [ ]

pub passing_values : (places : List Place) (p : Point) (args : List Value)
    → args_of p.heap places p.frame.stack ≡ Some args
    → HasMachineValues p → HasMachineValues (passing places args p)
passing_values places p args are machine = record {
  heap = machine.heap;
  args = machine.args;
  locals = machine.locals;
  stack =
      all_append (IsValue p.heap) (reverse args) (drop (length places) p.frame.stack)
      (all_reverse (IsValue p.heap) args
      (args_values p.heap places args (args_fit p.heap places p.frame.stack args machine.stack are)))
      (all_drop (IsValue p.heap) (length places) p.frame.stack machine.stack);
  entry_heap = machine.entry_heap;
  entry_args = machine.entry_args;
  kept = machine.kept;
}

-- A state has as many variables as there are values.
pub as_long : (state : State) (vs : List Value) (heap : Heap) (count : ℕ) → HoldsOver state vs heap
    → first_of count state ≡ length vs - count
as_long None vs heap count over = elim over.holds [ ]
as_long (Some known) vs heap count over =
    ap (λ n. n - count) (as_many over.number over.array known.variables vs over.holds.variables)

pub args_keep : (places : List Place) (state : State) → ForSome state HasForm
    → KeepsArgs places state (put_args places state)
unfolding put_args
args_keep places state form = λ p args are holds.
    let values = reverse (take (length places) p.frame.stack) in
    let rest = drop (length places) p.frame.stack in
    let below = base_of p.frame ++ reverse rest in
    let parts : variables_of p.frame ≡ below ++ values =
    ap (λ l. base_of p.frame ++ l)
    (ap reverse (sym (take-append-drop (length places) p.frame.stack))
    ∙ reverse-append (take (length places) p.frame.stack) rest)
    ∙ sym (append_assoc (base_of p.frame) (reverse rest) values) in
    let over = subst (λ l. HoldsOver state l p.heap) parts (over_of state p holds) in
    let many = put_long p.heap places values args are in
    let long = length-append below values in
    let first : first_of (length places) state ≡ length below =
    as_long state (below ++ values) p.heap (length places) over ∙ omega (arith, many, long) in
    at_of (put_from (first_of (length places) state) places state) (passing places args p)
    (passing_values places p args are holds.machine)
    (subst (λ l. HoldsOver (put_from (first_of (length places) state) places state) l p.heap)
    (sym (over_args (base_of p.frame) rest args))
    (subst (λ n. HoldsOver (put_from n places state) (below ++ args) p.heap) (sym first)
    (from_keeps places state below values args p.heap form over are)))
