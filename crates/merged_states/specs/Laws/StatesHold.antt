-- Join, widening, the normal form and inclusion keep what holds, of values over a heap and of points.
use Rattle.std.proofs.Common.{◌≡◌, ℕ, zero, suc, ◌<◌, ◌≤◌, ◌^◌, ℤ, pos, Bool, true, false, List, [], ◌∷◌, ◌++◌, reverse, length, slice_get, Option, Some, None, FitsSigned, w32, refl, sym, ap, ◌∙◌, subst, arith}
use Rattle.std.specs.Prelude.{if◌then◌else◌}
use Rattle.std.specs.Option.{ForSome, option_map_or}
use Rattle.std.specs.List.{AllByRecursion}
use Rattle.std.proofs.lemmas.Int.{ints}
use Rattle.std.proofs.lemmas.List.{length-map}
use Rattle.std.proofs.lemmas.Option.{none-some}
use Rattle.alias_facts.specs.Arrays.{AllDiffer, is_no_array}
use Rattle.alias_facts.specs.PairsOf.{Pair}
use Rattle.array_contents.proofs.HeldLaws.{held_agree}
use Rattle.cil_model.proofs.Lists.{all_reverse}
use Rattle.cil_model.specs.Comparisons.{number_of}
use Rattle.cil_model.specs.Values.{Heap, IsHeap, IsValue}
use Rattle.cil_model.specs.declared.machine.Value.{Value}
use Rattle.cil_model.specs.declared.machine.Value.TheVariants as values
use Rattle.frame_names.specs.Binding.{FrameBinding, bound_frames}
use Rattle.frame_names.specs.BoundMeaning.{arrays_bound, numbers_bound}
use Rattle.frame_names.specs.declared.reference.Reference.{Reference}
use Rattle.frame_names.specs.declared.var.Var.{Var}
use Rattle.frame_names.specs.declared.var.Var.TheVariants as vars
use Rattle.machine_points.specs.declared.point.Point.{Point}
use Rattle.number_facts.specs.Gaps.{gap}
use Rattle.number_facts.specs.Holds.{IsDefined, is_below}
use Rattle.symbolic_values.specs.Meaning.{told, truth}
use Rattle.symbolic_values.specs.Names.{same_flag}
use Rattle.symbolic_values.specs.Worth.{worth}
use Rattle.symbolic_values.specs.declared.def.Def.{Def}
use Rattle.symbolic_values.specs.declared.def.Def.TheVariants.{Eq, Lt, LtUn, NullTest, Sub}
use Rattle.state_facts.specs.Forms.{HasForm, IsVar, TestsOf, lengths_of}
use Rattle.state_facts.specs.Holds.{AreSo, HaveValues, HoldsAt, HoldsBy, IsSo, address_of, items_of_array, variables_of}
use Rattle.merged_states.specs.Merging.{Rule, join, joining, merged, normal, widen, widening}
use Rattle.merged_states.specs.Alike.{AreComparable, AreLikeStates}
use Rattle.merged_states.specs.Inclusion.{if_bound, is_included, is_included_known}
use Rattle.merged_states.specs.Following.{AreNoneBeyond, AreOfMachine, Follows, HoldsOver, IsMachineNumber}
use Rattle.state_facts.specs.StateFacts as states
use Rattle.state_facts.specs.StateFacts.{StateFacts, State}
use Rattle.merged_states.specs.Laws.Frames.{index_fits, same_entry}
use Rattle.merged_states.specs.Laws.IncludedHolds.{included_holds}
use Rattle.merged_states.specs.Laws.BothHold.{KeepsSide, joined_keeps, merged_holds, normal_holds, widened_keeps}
use Rattle.merged_states.specs.Laws.MergedHolds.{SideSo, arrays_of, later_of, parts_so}

-- ---- a choice in which references that are not there are null

abbrev entry_array : Option Reference → Option ℕ → Option ℕ
entry_array None array = None
entry_array (Some known) array = array

abbrev pub arrays_in : StateFacts → (ℕ → Option ℕ) → ℕ → Option ℕ
arrays_in known array r = entry_array (states.reference_at known.references r) (array r)

entry_there : (references : List Reference) (i : ℕ) (array : Option ℕ) → i < length references
    → entry_array (slice_get references i) array ≡ array
entry_there [] i array there = absurd (omega (arith, there))
entry_there (known ∷ references) zero array there = refl
entry_there (known ∷ references) (suc i) array there = entry_there references i array (omega (arith, there))

there_stays : (known : StateFacts) (array : ℕ → Option ℕ) (r : ℕ) → array 0 ≡ None → r ≤ length known.references
    → arrays_in known array r ≡ array r
unfolding states.reference_at
there_stays known array zero none there = sym none
there_stays known array (suc i) none there = entry_there known.references i (array (suc i)) (omega (arith, there))

in_stays : (entry : Option Reference) (array : Option ℕ) (n : ℕ) → entry_array entry array ≡ Some n
    → array ≡ Some n
in_stays None array n is = absurd cc
in_stays (Some known) array n is = is

differ_stays : (known : StateFacts) (array : ℕ → Option ℕ) (pairs : List Pair) → AllDiffer array pairs
    → AllDiffer (arrays_in known array) pairs
differ_stays known array [] all = tt
differ_stays known array (p ∷ pairs) all = (
  λ n first second. all.0 n (in_stays (states.reference_at known.references p.0) (array p.0) n first)
      (in_stays (states.reference_at known.references p.1) (array p.1) n second),
  differ_stays known array pairs all.1,
)

values_stay : (known : StateFacts) (number : ℕ → ℤ) (array : ℕ → Option ℕ) (vs : List Var) (values : List Value)
    → array 0 ≡ None
    → AllByRecursion (IsVar (length known.facts.ranges) (length known.references)) vs
    → HaveValues number array vs values
    → HaveValues number (arrays_in known array) vs values
values_stay known number array [] [] none named have = have
values_stay known number array [] (value ∷ values) none named have = have
values_stay known number array (v ∷ vs) [] none named have = have
values_stay known number array (vars.Number e ∷ vs) (value ∷ values) none named have =
    (have.0, values_stay known number array vs values none named.1 have.1)
values_stay known number array (vars.Reference r ∷ vs) (value ∷ values) none named have = (
  have.0
      ∙ ap (λ x. Some x) (sym (there_stays known array r none named.0)),
  values_stay known number array vs values none
      named.1 have.1,
)
values_stay known number array (vars.Text ∷ vs) (value ∷ values) none named have =
    (have.0, values_stay known number array vs values none named.1 have.1)
values_stay known number array (vars.Address r e ∷ vs) (value ∷ values) none named have = (
  have.0
      ∙ ap (λ x. Some (x, worth number e)) (sym (there_stays known array r none named.0.0)),
  values_stay known number array vs values none
      named.1 have.1,
)

says_still : (known : StateFacts) (number : ℕ → ℤ) (array : ℕ → Option ℕ) (def : Def) → array 0 ≡ None
    → TestsOf (length known.references) def
    → told is_below number (λ r. is_no_array (array r)) def ≡ told is_below number
    (λ r. is_no_array (arrays_in known array r)) def
says_still known number array (Eq x y) none there = refl
says_still known number array (Lt x y) none there = refl
says_still known number array (LtUn x y) none there = refl
says_still known number array (Sub x y) none there = refl
says_still known number array (NullTest r is) none there =
    ap (λ x. truth (same_flag (is_no_array x) is)) (sym (there_stays known array r none there))

defined_still : (known : StateFacts) (number : ℕ → ℤ) (array : ℕ → Option ℕ) (definitions : List (ℕ × Def))
    → array 0 ≡ None
    → AllByRecursion (λ d. TestsOf (length known.references) d.1) definitions
    → AllByRecursion (IsDefined number (λ r. is_no_array (array r))) definitions
    → AllByRecursion (IsDefined number (λ r. is_no_array (arrays_in known array r))) definitions
defined_still known number array [] none tests all = tt
defined_still known number array (d ∷ definitions) none tests all = (
  all.0
      ∙ says_still known number array d.1 none tests.0,
  defined_still known number array definitions none tests.1 all.1,
)

references_still : (known : StateFacts) (heap : Heap) (number : ℕ → ℤ) (array : ℕ → Option ℕ)
    → AreSo heap number array known.references
    → AreSo heap number (arrays_in known array) known.references
references_still known heap number array so r entry at =
    subst (IsSo heap number entry) (sym (ap (λ o. entry_array o (array r)) at)) (so r entry at)

-- A state that holds by some choice holds by one in which references that are not there are null.
pub holds_within : (known : StateFacts) (vs : List Value) (heap : Heap) (number : ℕ → ℤ) (array : ℕ → Option ℕ)
    → HasForm known → HoldsBy known vs heap number array
    → HoldsBy known vs heap number (arrays_in known array)
holds_within known vs heap number array form so = record {
  null = there_stays known array 0 so.null (omega arith) ∙ so.null;
  facts = record {
    allowed = so.facts.allowed;
    definitions = defined_still known number array known.facts.definitions so.null form.tests so.facts.definitions;
  };
  variables = values_stay known number array known.variables vs so.null form.variables so.variables;
  references = references_still known heap number array so.references;
  apart = differ_stays known array known.apart so.apart;
  contents =
      held_agree (length known.facts.ranges) (lengths_of known.references) known.contents number number
      (λ r. items_of_array heap (array r)) (λ r. items_of_array heap (arrays_in known array r)) form.contents
      (λ s there. refl)
      (λ r there. ap (items_of_array heap)
      (there_stays known array r so.null (omega (arith, there, length-map known.references (λ r. r.length)))))
      so.contents;
}

pub none_beyond : (known : StateFacts) (array : ℕ → Option ℕ) → AreNoneBeyond known (arrays_in known array)
none_beyond known array r at = ap (λ o. entry_array o (array r)) (same_entry known.references r ∙ at)

-- ---- states

side_so : (known : StateFacts) (vs : List Value) (heap : Heap) (number : ℕ → ℤ) (array : ℕ → Option ℕ)
    → HasForm known → AreOfMachine vs heap
    → HoldsBy known vs heap number array → SideSo true known known vs heap number (arrays_in known array)
side_so known vs heap number array form machine so =
    parts_so known vs heap number (arrays_in known array) (holds_within known vs heap number array form so)
    (none_beyond known array) machine

known_over : (is_first : Bool) (rule : Rule) (a b : StateFacts) → KeepsSide is_first rule a b → AreComparable a b
    → Follows (Some (if is_first then a else b)) (merged rule (Some a) (Some b))
known_over true rule a b keeps like vs heap machine over = record {
  number = later_of true a b over.number;
  array = arrays_of true a b (arrays_in a over.array);
  holds =
      merged_holds true rule a b vs heap over.number (arrays_in a over.array) keeps like
      (side_so a vs heap over.number over.array like.first machine over.holds);
}
known_over false rule a b keeps like vs heap machine over = record {
  number = later_of false a b over.number;
  array = arrays_of false a b (arrays_in b over.array);
  holds =
      merged_holds false rule a b vs heap over.number (arrays_in b over.array) keeps like
      (side_so b vs heap over.number over.array like.second machine over.holds);
}

-- Both as one hold wherever one of them does.
pub merged_over : (is_first : Bool) (rule : Rule) (a b : State)
    → ((x y : StateFacts) → KeepsSide is_first rule x y) → AreLikeStates a b
    → Follows (if is_first then a else b) (merged rule a b)
merged_over true rule None b keeps like vs heap machine over = absurd over.holds
merged_over false rule None b keeps like vs heap machine over = over
merged_over true rule (Some a) None keeps like vs heap machine over = over
merged_over false rule (Some a) None keeps like vs heap machine over = absurd over.holds
merged_over true rule (Some a) (Some b) keeps like vs heap machine over =
    known_over true rule a b (keeps a b) like vs heap machine over
merged_over false rule (Some a) (Some b) keeps like vs heap machine over =
    known_over false rule a b (keeps a b) like vs heap machine over

-- The normal form holds wherever its state does.
pub normal_over : (a : StateFacts) → HasForm a → Follows (Some a) (normal (Some a))
normal_over a form vs heap machine over = record {
  number = later_of true a a over.number;
  array = arrays_of true a a (arrays_in a over.array);
  holds =
      normal_holds a vs heap over.number (arrays_in a over.array) form
      (side_so a vs heap over.number over.array form machine over.holds);
}

-- What a reached state is included in holds wherever the state does.
pub known_included : (a b : StateFacts) → HasForm a → HasForm b → is_included_known a b ≡ true
    → Follows (Some a) (Some b)
known_included a b form other is vs heap machine over =
    by (bound_frames (gap a.facts) a.variables a.references b.variables b.references (length b.facts.ranges)) refl is
  where
    by : (found : Option FrameBinding)
        → bound_frames (gap a.facts) a.variables a.references b.variables b.references (length b.facts.ranges) ≡ found
        → if_bound a b found ≡ true → HoldsOver (Some b) vs heap
    by None at follows = absurd cc
    by (Some binding) at follows = record {
      number = numbers_bound over.number binding;
      array = arrays_bound (arrays_in a over.array) binding;
      holds = included_holds a b vs heap over.number (arrays_in a over.array) binding form other
          over.holds.facts.allowed
          (side_so a vs heap over.number over.array form machine over.holds) at follows;
    }

-- What a state is included in holds wherever the state does.
pub included_over : (a b : State) → AreLikeStates a b → is_included a b ≡ true → Follows a b
included_over None b like is vs heap machine over = absurd over.holds
included_over (Some a) None like is vs heap machine over = absurd cc
included_over (Some a) (Some b) like is vs heap machine over =
    known_included a b like.first like.second is vs heap machine over

-- ---- points

same_number : (m n : ℤ) → Some m ≡ Some n → m ≡ n
same_number m n same = cc

index_is : (a n : ℕ) (array : Option ℕ) (m : ℤ) → address_of (values.Addr a n) ≡ Some (array, m) → pos n ≡ m
index_is a n array m at = ap (λ o. option_map_or (λ (x : Option ℕ × ℤ). x.1) o m) at

native_fits : (n : ℕ) → n < 2 ^ 31 → FitsSigned w32 (pos n)
native_fits n few = grind (arith, ints)

-- A value of the machine that has no number, and is no address.
no_number : (value : Value) → number_of value ≡ None → address_of value ≡ None → IsMachineNumber value
no_number value none nowhere = record {
  number = λ n at. absurd (none-some n (sym none ∙ at));
  index = λ array n at. absurd (none-some (array, n) (sym nowhere ∙ at));
}

machine_number : (heap : Heap) (value : Value) → IsHeap heap → IsValue heap value → IsMachineNumber value
machine_number heap (values.Int n) arrays is = record {
  number = λ m at. subst (FitsSigned w32) (same_number n m at) is;
  index = λ array m at. absurd (none-some (array, m) at);
}
machine_number heap (values.Native n) arrays is = record {
  number = λ m at. subst (FitsSigned w32) (same_number (pos n) m at) (native_fits n is);
  index = λ array m at. absurd (none-some (array, m) at);
}
machine_number heap values.Null arrays is = no_number values.Null refl refl
machine_number heap (values.Array i) arrays is = no_number (values.Array i) refl refl
machine_number heap (values.Addr a n) arrays is = record {
  number = λ m at. absurd (none-some m at);
  index = λ array m at. subst (FitsSigned w32) (index_is a n array m at) (index_fits heap a n arrays is);
}
machine_number heap values.Text arrays is = no_number values.Text refl refl

-- Numbers and indices of the machine's values are int32.
pub machine_numbers : (heap : Heap) (vs : List Value) → IsHeap heap → AllByRecursion (IsValue heap) vs
    → AllByRecursion IsMachineNumber vs
machine_numbers heap [] arrays all = tt
machine_numbers heap (v ∷ vs) arrays all = (machine_number heap v arrays all.0, machine_numbers heap vs arrays all.1)

both_all : {X : Type 0} (P : X → Type 0) (xs ys : List X) → AllByRecursion P xs → AllByRecursion P ys
    → AllByRecursion P (xs ++ ys)
both_all P [] ys first second = second
both_all P (x ∷ xs) ys first second = (first.0, both_all P xs ys first.1 second)

-- What follows of a state that holds of a point holds of the point.
pub at_point : (a b : State) (p : Point) → Follows a b → HoldsAt a p → HoldsAt b p
at_point a b p follows at =
    let machine = at.machine in
    let over = follows (variables_of p.frame) p.heap (record {
      numbers = both_all IsMachineNumber (p.frame.entry_args ++ p.frame.args ++ p.frame.locals) (reverse p.frame.stack)
          (both_all IsMachineNumber (p.frame.entry_args ++ p.frame.args) p.frame.locals
          (both_all IsMachineNumber p.frame.entry_args p.frame.args
          (machine_numbers p.frame.entry_heap p.frame.entry_args machine.entry_heap machine.entry_args)
          (machine_numbers p.heap p.frame.args machine.heap machine.args))
          (machine_numbers p.heap p.frame.locals machine.heap machine.locals))
          (all_reverse IsMachineNumber p.frame.stack (machine_numbers p.heap p.frame.stack machine.heap machine.stack));
      arrays = machine.heap;
    }) (record { number = at.frame.number; array = at.frame.array; holds = at.frame.holds }) in
    record { machine = machine; frame = record { number = over.number; array = over.array; holds = over.holds } }

pub join_left : (a b : State) (p : Point) → AreLikeStates a b → HoldsAt a p → HoldsAt (join a b) p
join_left a b p like at = at_point a (join a b) p (merged_over true joining a b (joined_keeps true) like) at

pub join_right : (a b : State) (p : Point) → AreLikeStates a b → HoldsAt b p → HoldsAt (join a b) p
join_right a b p like at = at_point b (join a b) p (merged_over false joining a b (joined_keeps false) like) at

pub widen_left : (a b : State) (p : Point) → AreLikeStates a b → HoldsAt a p → HoldsAt (widen a b) p
widen_left a b p like at = at_point a (widen a b) p (merged_over true widening a b (widened_keeps true) like) at

pub widen_right : (a b : State) (p : Point) → AreLikeStates a b → HoldsAt b p → HoldsAt (widen a b) p
widen_right a b p like at =
    at_point b (widen a b) p (merged_over false widening a b (widened_keeps false) like) at

pub leq_holds : (a b : State) (p : Point) → AreLikeStates a b → is_included a b ≡ true → HoldsAt a p → HoldsAt b p
leq_holds a b p like is at = at_point a b p (included_over a b like is) at

-- The normal form holds of each point that its state holds of.
pub normal_at : (a : State) (p : Point) → ForSome a HasForm → HoldsAt a p → HoldsAt (normal a) p
normal_at None p form at = absurd at.frame.holds
normal_at (Some a) p form at = at_point (Some a) (normal (Some a)) p (normal_over a (form a refl)) at
