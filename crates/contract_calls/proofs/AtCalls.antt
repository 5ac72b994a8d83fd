-- What is so of the Requires at calls.
use Rattle.std.proofs.Common.{◌≡◌, ℕ, zero, suc, ◌+◌, ◌-◌, ◌*◌, ◌≤◌, true, List, [], ◌∷◌, ◌++◌, length, reverse, take, drop, slice_get, Option, Some, None, if◌then◌else◌, refl, ap, subst, sym, ◌∙◌, append-nil, arith}
use Rattle.std.specs.List.{AllByRecursion}
use Rattle.std.specs.Option.{ForSome}
use Rattle.std.proofs.lemmas.List.{length-append, reverse-reverse}
use Rattle.std.proofs.lemmas.Option.{cond_some, none-some, same_Some}
use Rattle.cil_model.specs.Calls.{args_of}
use Rattle.cil_model.specs.Clauses.{clauses_of, first_false}
use Rattle.cil_model.specs.Limits.{MAX_VARIABLES}
use Rattle.cil_model.specs.Values.{FitPlaces, FitsPlace, Heap, IsHeap, IsValue, KeepsForms, has_array, put, put_all}
use Rattle.cil_model.specs.WellFormed.{IsCallee}
use Rattle.cil_model.specs.declared.clause.Clause.{Clause}
use Rattle.cil_model.specs.declared.clause.ClauseKind.TheVariants as clause_kinds
use Rattle.cil_model.specs.declared.machine.Value.{Value}
use Rattle.cil_model.specs.declared.machine.Value.TheVariants as values
use Rattle.cil_model.specs.declared.place.Place.{Place}
use Rattle.cil_model.specs.declared.place.Place.TheVariants as places
use Rattle.cil_model.specs.declared.unit.CalleeInfo.{CalleeInfo}
use Rattle.cil_model.proofs.ArithmeticFits.{low_bits_are_byte}
use Rattle.cil_model.proofs.HeapsKept.{AreValues-kept, keeps_itself}
use Rattle.cil_model.proofs.Lists.{all_append, all_reverse, all_split}
use Rattle.clause_trees.proofs.AssumedKept.{assumed_is_kept, assumed_keeps_forms, itself_same}
use Rattle.clause_trees.proofs.ShownTrees.{shown_is_so}
use Rattle.clause_trees.specs.ClauseStates.{assumed}
use Rattle.clause_trees.specs.Meaning.{CanTest, Reads, ReadsResult}
use Rattle.clause_trees.specs.VariableKinds.{AreSameForms, HasSameFormsIn, IsReadable}
use Rattle.clause_trees.specs.declared.reader.TreeEnv.{TreeEnv}
use Rattle.frame_names.specs.declared.var.Var.{Var}
use Rattle.machine_points.specs.declared.point.Point.{Point}
use Rattle.merged_states.specs.Following.{HoldsOver}
use Rattle.state_facts.specs.Holds.{HoldsAt, variables_of}
use Rattle.state_facts.specs.StateFacts.{StateFacts, State}
use Rattle.contract_calls.specs.Arguments.{first_of, put_args, put_from}
use Rattle.contract_calls.specs.CallForms.{CanAssume, CanCall, IsClauseOf}
use Rattle.contract_calls.specs.CallStates.{assumed_each, at_call, required, requires_assumed, requires_shown}
use Rattle.contract_calls.specs.Meaning.{AreRequired, IsRequiredAt, KeepsAllRequired, KeepsRequired, passing, reading_at_call}
use Rattle.contract_calls.proofs.Assuming.{all_true, each_keeps, each_same, none_assumed, none_each, of_kind, readable_in}
use Rattle.contract_calls.proofs.MethodClauses.{callee_clauses, is_test, true_value}
use Rattle.contract_calls.proofs.PassedArguments.{args_same, as_long, at_of, base_of, over_args, over_of, two_put}

-- ---- arguments fit

array_put : (heap : Heap) (place : Place) (i : ℕ) (new : Value)
    → (if has_array heap place i then Some (values.Array i) else None) ≡ Some new
    → (has_array heap place i ≡ true) × (values.Array i ≡ new)
array_put heap place i new is = cond_some (has_array heap place i) (values.Array i) new is

-- A value that was put fits its place.
pub fits_put : (heap : Heap) (place : Place) (v new : Value) → IsValue heap new → put heap place v ≡ Some new
    → FitsPlace heap place new
fits_put heap places.Bool (values.Int n) new is at =
    subst (FitsPlace heap places.Bool) (same_Some _ new at) (low_bits_are_byte n)
fits_put heap places.Int (values.Int n) new is at =
    let same = same_Some (values.Int n) new at in
    subst (FitsPlace heap places.Int) same (subst (IsValue heap) (sym same) is)
fits_put heap places.Bools values.Null new is at = subst (FitsPlace heap places.Bools) (same_Some values.Null new at) tt
fits_put heap places.Bools (values.Array i) new is at =
    let both = array_put heap places.Bools i new at in subst (FitsPlace heap places.Bools) both.1 both.0
fits_put heap places.Ints values.Null new is at = subst (FitsPlace heap places.Ints) (same_Some values.Null new at) tt
fits_put heap places.Ints (values.Array i) new is at =
    let both = array_put heap places.Ints i new at in subst (FitsPlace heap places.Ints) both.1 both.0
fits_put heap _ _ new is at = absurd (none-some new at)

pub fit_put : (heap : Heap) (places : List Place) (values args : List Value) → AllByRecursion (IsValue heap) args
    → put_all heap places values ≡ Some args → FitPlaces heap places args
fit_put heap [] [] args are is = subst (FitPlaces heap []) (same_Some [] args is) tt
fit_put heap [] (v ∷ values) args are is = absurd (none-some args is)
fit_put heap (place ∷ places) [] args are is = absurd (none-some args is)
fit_put heap (place ∷ places) (v ∷ values) args are is =
    let (stored, others, first, rest, all) = two_put (put heap place v) (put_all heap places values) args is in
    let each = subst (AllByRecursion (IsValue heap)) all are in
    subst (FitPlaces heap (place ∷ places)) (sym all)
    (fits_put heap place v stored each.0 first, fit_put heap places values others each.1 rest)

pub fit_long : (heap : Heap) (places : List Place) (vs : List Value) → FitPlaces heap places vs
    → length vs ≡ length places
fit_long heap [] [] fit = refl
fit_long heap (place ∷ places) (v ∷ vs) fit = ap suc (fit_long heap places vs fit.1)
fit_long heap [] (v ∷ vs) fit = elim fit [ ]
fit_long heap (place ∷ places) [] fit = elim fit [ ]

-- ---- readings

pub past : {X : Type 0} (base xs : List X) (n : ℕ) → slice_get (base ++ xs) (length base + n) ≡ slice_get xs n
past [] xs n = let plain : 0 + n ≡ n = omega arith in ap (slice_get xs) plain
past (b ∷ base) xs n =
    let next : length (b ∷ base) + n ≡ suc (length base + n) = omega arith in
    ap (slice_get (b ∷ (base ++ xs))) next ∙ past base xs n

pub prefix_at : {X : Type 0} (xs ys : List X) (i : ℕ) (x : X) → slice_get xs i ≡ Some x → slice_get (xs ++ ys) i ≡ Some x
prefix_at [] ys i x is = absurd (none-some x is)
prefix_at (y ∷ xs) ys zero x is = is
prefix_at (y ∷ xs) ys (suc i) x is = prefix_at xs ys i x is

-- Arguments that lie on others are read where the environment says, whatever lies on them.
pub reads_over : (env : TreeEnv) (places : List Place) (place : Place) (base args more : List Value) (heap new : Heap)
    (result : Option Value)
    → env.args ≡ length base → ReadsResult ((base ++ args) ++ more) env.result result → FitPlaces heap places args
    → ((v : Value) → result ≡ Some v → FitsPlace new place v) → IsHeap heap → IsHeap new → KeepsForms heap new
    → AllByRecursion (IsValue new) ((base ++ args) ++ more)
    → Reads env places place ((base ++ args) ++ more) new
    (record { args = args; entry_heap = heap; heap = new; result = result })
reads_over env places place base args more heap new result first on_top fit fits is_heap is_new kept are = record {
  heap_is = refl;
  args_are = λ n v is.
      subst (λ m. slice_get ((base ++ args) ++ more) (m + n) ≡ Some v) (sym first)
      (prefix_at (base ++ args) more (length base + n) v (past base args n ∙ is));
  result_is = on_top;
  fit = fit;
  result_fits = fits;
  is_heap = is_new;
  is_entry = is_heap;
  kept = kept;
  are_values = are;
}

entry_values : (old new : Heap) → KeepsForms old new → (vs : List Value) → AllByRecursion (IsValue old) vs
    → AllByRecursion (IsValue new) vs
entry_values old new kept vs are = AreValues-kept old new kept vs are

-- ---- at a call

-- The values below the arguments of a call.
abbrev pub below_args : List Place → Point → List Value
below_args places p = base_of p.frame ++ reverse (drop (length places) p.frame.stack)

-- What is so where a state holds of a call.
pub record IsAtCall (callee : CalleeInfo) (state : State) (p : Point) (args : List Value) : Type 0 where
  pub first : first_of (length callee.args) state ≡ length (below_args callee.args p)
  pub over : HoldsOver state (below_args callee.args p ++ args) p.heap
  pub fit : FitPlaces p.heap callee.args args
  pub is_heap : IsHeap p.heap
  pub are : AllByRecursion (IsValue p.heap) (below_args callee.args p ++ args)
  pub long : length args ≡ length callee.args

pub at_call_is : (callee : CalleeInfo) (state : State) (p : Point) (args : List Value)
    → args_of p.heap callee.args p.frame.stack ≡ Some args → HoldsAt state (passing callee.args args p)
    → IsAtCall callee state p args
at_call_is callee state p args are holds =
    let rest = drop (length callee.args) p.frame.stack in
    let below = below_args callee.args p in
    let parts : variables_of (passing callee.args args p).frame ≡ below ++ args =
    over_args (base_of p.frame) rest args in
    let machine = holds.machine in
    let stack = all_split (IsValue p.heap) (reverse args) rest machine.stack in
    let of_args = subst (AllByRecursion (IsValue p.heap)) (reverse-reverse args)
    (all_reverse (IsValue p.heap) (reverse args) stack.0) in
    let fit = fit_put p.heap callee.args (reverse (take (length callee.args) p.frame.stack)) args of_args are in
    let long = fit_long p.heap callee.args args fit in
    let over = subst (λ l. HoldsOver state l p.heap) parts (over_of state (passing callee.args args p) holds) in
    let all = length-append below args in
    let entry : AllByRecursion (IsValue p.heap) p.frame.entry_args =
    entry_values p.frame.entry_heap p.heap machine.kept p.frame.entry_args machine.entry_args in
    record {
      first = as_long state (below ++ args) p.heap (length callee.args) over ∙ omega (arith, long, all);
      over = over;
      fit = fit;
      is_heap = machine.heap;
      are =
          all_append (IsValue p.heap) below args
          (all_append (IsValue p.heap) (base_of p.frame) (reverse rest)
          (all_append (IsValue p.heap) (p.frame.entry_args ++ p.frame.args) p.frame.locals
          (all_append (IsValue p.heap) p.frame.entry_args p.frame.args entry machine.args) machine.locals)
          (all_reverse (IsValue p.heap) rest stack.1)) of_args;
      long = long;
    }

-- What a Requires reads.
reads_at_call : (callee : CalleeInfo) (state : State) (p : Point) (args : List Value) → IsAtCall callee state p args
    → Reads (at_call (length callee.args) state) callee.args callee.result (below_args callee.args p ++ args) p.heap
    (reading_at_call args p.heap)
reads_at_call callee state p args is =
    let below = below_args callee.args p in
    subst (λ vs. Reads (at_call (length callee.args) state) callee.args callee.result vs p.heap
    (reading_at_call args p.heap)) (append-nil (below ++ args))
    (reads_over (at_call (length callee.args) state) callee.args callee.result below args [] p.heap p.heap None is.first
    tt is.fit (λ v none. absurd (none-some v none)) is.is_heap is.is_heap (keeps_itself p.heap)
    (subst (AllByRecursion (IsValue p.heap)) (sym (append-nil (below ++ args))) is.are))

-- A Requires may be a test where the callee may be called.
pub test_at_call : (callee : CalleeInfo) (clause : Clause) (state : State) → CanCall callee state
    → IsClauseOf callee.args callee.result clause → CanTest (at_call (length callee.args) state) clause.tree state
test_at_call callee clause state ready is = record {
  args = callee.args;
  result = callee.result;
  readable = ready.readable;
  test = is_test callee.args callee.result clause is;
}

-- Each of them may be assumed.
pub call_assumes : (callee : CalleeInfo) (state : State) → IsCallee callee → CanCall callee state
    → CanAssume (at_call (length callee.args) state) callee.clauses state
call_assumes callee state formed ready = record {
  args = callee.args;
  result = callee.result;
  readable = ready.readable;
  tests = callee_clauses callee formed;
}

-- A Requires that is shown is true.
pub shown_at_call : (callee : CalleeInfo) (clause : Clause) (state : State) → CanCall callee state
    → IsClauseOf callee.args callee.result clause → requires_shown callee clause state ≡ true
    → IsRequiredAt callee clause state
shown_at_call callee clause state ready is shown = λ p args are holds.
    let here = at_call_is callee state p args are holds in
    shown_is_so (at_call (length callee.args) state) true clause.tree state callee.args callee.result
    (below_args callee.args p ++ args) p.heap (reading_at_call args p.heap) ready.readable
    (record { kind_is = is.number; ints = is.ints }) (reads_at_call callee state p args here) here.over shown

-- A state that holds of the values of a call holds of the call.
back_to : (callee : CalleeInfo) (before after : State) (p : Point) (args : List Value)
    → HoldsAt before (passing callee.args args p) → HoldsOver after (below_args callee.args p ++ args) p.heap
    → HoldsAt after (passing callee.args args p)
back_to callee before after p args holds over =
    at_of after (passing callee.args args p) holds.machine
    (subst (λ l. HoldsOver after l p.heap)
    (sym (over_args (base_of p.frame) (drop (length callee.args) p.frame.stack) args)) over)

-- One that is assumed is kept.
pub assumed_at_call : (callee : CalleeInfo) (clause : Clause) (state : State) → CanCall callee state
    → IsClauseOf callee.args callee.result clause
    → KeepsRequired callee clause state (requires_assumed callee clause state)
assumed_at_call callee clause state ready is = λ p args are so holds.
    let here = at_call_is callee state p args are holds in
    back_to callee state (requires_assumed callee clause state) p args holds
    (assumed_is_kept (at_call (length callee.args) state) true clause.tree state callee.args callee.result
    (below_args callee.args p ++ args) p.heap (reading_at_call args p.heap) ready.readable
    (is_test callee.args callee.result clause is) (reads_at_call callee state p args here) here.over
    (true_value (reading_at_call args p.heap) clause so))

-- So are all of them.
pub required_at_call : (callee : CalleeInfo) (state : State) → IsCallee callee → CanCall callee state
    → KeepsAllRequired callee state (required callee state)
unfolding required
required_at_call callee state formed ready = λ p args are none holds.
    let here = at_call_is callee state p args are holds in
    let clauses = clauses_of clause_kinds.Requires callee.clauses in
    back_to callee state (assumed_each (at_call (length callee.args) state) clauses state) p args holds
    (each_keeps (at_call (length callee.args) state) callee.args callee.result clauses state
    (below_args callee.args p ++ args) p.heap (reading_at_call args p.heap) ready.readable
    (of_kind callee.args callee.result clause_kinds.Requires callee.clauses (callee_clauses callee formed))
    (reads_at_call callee state p args here) (all_true 1 (reading_at_call args p.heap) clauses none) here.over)

-- ---- the next state

pub same_long : (a b : StateFacts) (vs ws : List Var) → AreSameForms a b vs ws → length ws ≡ length vs
same_long a b [] [] same = refl
same_long a b (v ∷ vs) (w ∷ ws) same = ap suc (same_long a b vs ws same.1)
same_long a b [] (w ∷ ws) same = elim same [ ]
same_long a b (v ∷ vs) [] same = elim same [ ]

no_call : (callee : CalleeInfo) → CanCall callee None
no_call callee = record {
  few = omega arith;
  there = λ x is. absurd (none-some x is);
  readable = λ x is. absurd (none-some x is);
}

-- Where the callee may be called, it may be in a state of the same forms.
pub ready_in : (callee : CalleeInfo) (known : StateFacts) (o : State) → CanCall callee (Some known)
    → HasSameFormsIn known o → CanCall callee o
ready_in callee known None ready same = no_call callee
ready_in callee known (Some after) ready same =
    let many = same_long known after known.variables after.variables same.variables in
    record {
      few = subst (λ n. n ≤ 2 * MAX_VARIABLES) (sym many) ready.few;
      there = λ x is.
          subst (λ k. length callee.args ≤ length k.variables) (same_Some after x is)
          (subst (λ n. length callee.args ≤ n) (sym many) (ready.there known refl));
      readable =
          subst (λ n. ForSome (Some after)
          (IsReadable (record { args = n - length callee.args; result = None }) callee.args callee.result)) (sym many)
          (readable_in (at_call (length callee.args) (Some known)) callee.args callee.result known (Some after)
          (ready.readable known refl) same);
    }

pub assumed_ready : (callee : CalleeInfo) (clause : Clause) (state : State) → CanCall callee state
    → IsClauseOf callee.args callee.result clause → CanCall callee (requires_assumed callee clause state)
assumed_ready callee clause None ready is =
    subst (CanCall callee) (sym (none_assumed (at_call (length callee.args) None) true clause.tree)) ready
assumed_ready callee clause (Some known) ready is =
    let env = at_call (length callee.args) (Some known) in
    ready_in callee known (assumed env true clause.tree (Some known)) ready
    (assumed_keeps_forms env true clause.tree known callee.args callee.result (ready.readable known refl)
    (is_test callee.args callee.result clause is))

pub required_same : (callee : CalleeInfo) (known : StateFacts) → IsCallee callee → CanCall callee (Some known)
    → HasSameFormsIn known (required callee (Some known))
unfolding required
required_same callee known formed ready =
    let here = ready.readable known refl in
    each_same (at_call (length callee.args) (Some known)) callee.args callee.result
    (clauses_of clause_kinds.Requires callee.clauses) known (Some known) here (itself_same known here.form)
    (of_kind callee.args callee.result clause_kinds.Requires callee.clauses (callee_clauses callee formed))

pub none_required : (callee : CalleeInfo) → required callee None ≡ None
unfolding required
none_required callee =
    none_each (at_call (length callee.args) None) (clauses_of clause_kinds.Requires callee.clauses)

pub required_ready : (callee : CalleeInfo) (state : State) → IsCallee callee → CanCall callee state
    → CanCall callee (required callee state)
required_ready callee None formed ready =
    subst (CanCall callee) (sym (none_required callee)) ready
required_ready callee (Some known) formed ready =
    ready_in callee known (required callee (Some known)) ready (required_same callee known formed ready)

pub none_put : (places : List Place) → put_args places None ≡ None
unfolding put_args
none_put places = by places (first_of (length places) None)
  where
    by : (places : List Place) (i : ℕ) → put_from i places None ≡ None
    by [] i = refl
    by (place ∷ places) i = by places (i + 1)

-- The callee may be called where its arguments are put.
pub put_ready : (callee : CalleeInfo) (state : State) → CanCall callee state
    → CanCall callee (put_args callee.args state)
put_ready callee None ready = subst (CanCall callee) (sym (none_put callee.args)) ready
put_ready callee (Some known) ready =
    ready_in callee known (put_args callee.args (Some known)) ready
    (args_same callee.args known (ready.readable known refl).form)

-- ---- one after the other

-- Where each Requires is shown in turn, none is false.
pub none_false : (callee : CalleeInfo) (clauses : List Clause) (n : ℕ) (state : State) (p : Point) (args : List Value)
    → CanCall callee state → AllByRecursion (IsClauseOf callee.args callee.result) clauses
    → AreRequired callee clauses state → args_of p.heap callee.args p.frame.stack ≡ Some args
    → HoldsAt state (passing callee.args args p) → first_false n (reading_at_call args p.heap) clauses ≡ None
none_false callee [] n state p args ready all shown are holds = refl
none_false callee (clause ∷ clauses) n state p args ready all shown are holds =
    let r = reading_at_call args p.heap in
    let so = shown_at_call callee clause state ready all.0 shown.0 p args are holds in
    ap (λ b. if b then first_false (n + 1) r clauses else Some n) so
    ∙ none_false callee clauses (n + 1) (requires_assumed callee clause state) p args
    (assumed_ready callee clause state ready all.0) all.1 shown.1 are
    (assumed_at_call callee clause state ready all.0 p args are so holds)
