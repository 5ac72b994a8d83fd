-- What is so behind a call.
use Rattle.std.proofs.Common.{◌≡◌, ℕ, zero, suc, ◌+◌, ℤ, pos, inl, inr, List, [], ◌∷◌, ◌++◌, length, reverse, take, drop, slice_get, Option, Some, None, refl, ap, subst, sym, ◌∙◌, append_assoc, append-nil, arith}
use Rattle.std.specs.Prelude.{◌⊎◌}
use Rattle.std.specs.List.{AllByRecursion}
use Rattle.std.specs.Option.{ForSome, option_map}
use Rattle.std.proofs.lemmas.List.{drop_at, length-append, reverse-append, take_at}
use Rattle.std.proofs.lemmas.Option.{none-some, same_Some}
use Rattle.alias_facts.specs.PairsOf.{Pair}
use Rattle.cil_model.specs.Calls.{FitsResult, FreeReturn, IsPassedOrNew, KeepsArrays}
use Rattle.cil_model.specs.Clauses.{Reading, clauses_of}
use Rattle.cil_model.specs.Kinds.{kind_of}
use Rattle.cil_model.specs.Values.{FitsPlace, Heap, IsValue, KeepsForms}
use Rattle.cil_model.specs.WellFormed.{IsCallee}
use Rattle.cil_model.specs.declared.clause.ClauseKind.TheVariants as clause_kinds
use Rattle.cil_model.specs.declared.instruction.Instr.{Instr}
use Rattle.cil_model.specs.declared.machine.Value.{Value}
use Rattle.cil_model.specs.declared.place.Kind.{Kind}
use Rattle.cil_model.specs.declared.place.Kind.TheVariants as kinds
use Rattle.cil_model.specs.declared.place.Place.{Place}
use Rattle.cil_model.specs.declared.place.Place.TheVariants as places
use Rattle.cil_model.specs.declared.unit.CalleeInfo.{CalleeInfo}
use Rattle.cil_model.proofs.HeapsKept.{AreValues-kept, keeps_on, value_of_place}
use Rattle.cil_model.proofs.Lists.{all_append, all_split}
use Rattle.clause_trees.proofs.PushedMoves.{unknown_pushed}
use Rattle.clause_trees.proofs.Stays.{form_alike, kind_by_form, pushed_readable}
use Rattle.clause_trees.specs.Meaning.{Reads, ReadsResult}
use Rattle.clause_trees.specs.VariableKinds.{IsOfKind, IsOneOfKind, IsPushed, IsPushedIn, IsReadable, place_in}
use Rattle.frame_names.specs.declared.var.Var.{Var}
use Rattle.machine_points.specs.MachineValues.{HasMachineValues}
use Rattle.machine_points.specs.declared.point.Point.{Point}
use Rattle.merged_states.specs.Following.{HoldsOver}
use Rattle.number_facts.specs.Fresh.{Made, fresh}
use Rattle.state_facts.proofs.Agreeing.{have_taken}
use Rattle.state_facts.proofs.ArraysHold.{call_keeps}
use Rattle.state_facts.proofs.Growing.{Formed}
use Rattle.state_facts.proofs.MoveForms.{result_form, without_form}
use Rattle.state_facts.specs.Calls.{passed, returned, with_call, with_result, with_returned, without_items}
use Rattle.state_facts.specs.Forms.{HasForm}
use Rattle.state_facts.specs.Holds.{HaveValues, variables_of}
use Rattle.state_facts.specs.Keeps.{listed}
use Rattle.state_facts.specs.StateFacts.{StateFacts, State}
use Rattle.state_facts.specs.States.{forget}
use Rattle.state_facts.specs.UnknownValues.{with_unknown}
use Rattle.contract_calls.specs.Arguments.{first_of}
use Rattle.contract_calls.specs.CallForms.{CanAssume, CanCall}
use Rattle.contract_calls.specs.CallStates.{after_call, behind_args, given, less, result_at}
use Rattle.contract_calls.specs.Meaning.{KeepsReturned, back, passing}
use Rattle.contract_calls.proofs.Assuming.{all_true, each_keeps, of_kind}
use Rattle.contract_calls.proofs.AtCalls.{IsAtCall, at_call_is, below_args, reads_over}
use Rattle.contract_calls.proofs.MethodClauses.{callee_clauses}
use Rattle.contract_calls.proofs.PassedArguments.{at_of, base_of}

-- ---- the result is pushed

pub kind_alike : (a b : StateFacts) → ((r : ℕ) → place_in b r ≡ place_in a r) → (kind : Kind) (v : Var)
    → IsOfKind a kind v
    → IsOfKind b kind v
kind_alike a b same kind v is = kind_by_form a b kind v (form_alike a b v same) is

-- What is apart does not matter to what is pushed.
apart_pushed : (one two : List Pair) (place : Place) (kind : Kind) (known : StateFacts) (o : Option Made)
    → IsPushedIn known kind (option_map (returned one place known) o)
    → Formed (option_map (returned two place known) o)
    → IsPushedIn known kind (option_map (returned two place known) o)
apart_pushed one two place kind known None is formed = tt
apart_pushed one two place kind known (Some made) is formed = record {
  grown = record {
    form = formed;
    symbols = is.grown.symbols;
    references = is.grown.references;
    places = is.grown.places;
  };
  top = is.top;
  variables_are = is.variables_are;
  of_kind =
      kind_alike (returned one place known made) (returned two place known made) (λ r. refl) kind is.top is.of_kind;
}

array_pushed : (apart : List Pair) (place : Place) (kind : Kind) (known : StateFacts)
    → IsPushedIn known kind (with_returned known.apart place known) → Formed (with_returned apart place known)
    → IsPushedIn known kind (with_returned apart place known)
unfolding with_returned
array_pushed apart place kind known is formed =
    apart_pushed known.apart apart place kind known (fresh known.facts (pos 0) (pos 2147483647) None []) is formed

-- What a call gives is of its kind.
pub result_pushed : (first count : ℕ) (place : Place) (kind : Kind) (known : StateFacts) → HasForm known
    → kind_of place ≡ Some kind → IsPushedIn known kind (with_result first count place known)
unfolding with_result with_unknown
result_pushed first count places.Void kind known form is = absurd (none-some kind is)
result_pushed first count places.Bool kind known form is = unknown_pushed places.Bool kind known form is
result_pushed first count places.Int kind known form is = unknown_pushed places.Int kind known form is
result_pushed first count places.Bools kind known form is =
    array_pushed _ places.Bools kind known (unknown_pushed places.Bools kind known form is)
    (result_form first count places.Bools known form tt)
result_pushed first count places.Ints kind known form is =
    array_pushed _ places.Ints kind known (unknown_pushed places.Ints kind known form is)
    (result_form first count places.Ints known form tt)

-- What is pushed on a state whose items were forgotten is pushed on what it was before.
forgotten_pushed : (passed : List Var) (known : StateFacts) (kind : Kind) (o : State)
    → IsPushedIn (without_items passed known) kind o → IsPushedIn known kind o
forgotten_pushed passed known kind None is = tt
forgotten_pushed passed known kind (Some after) is = record {
  grown = record {
    form = is.grown.form;
    symbols = is.grown.symbols;
    references = is.grown.references;
    places = is.grown.places;
  };
  top = is.top;
  variables_are = is.variables_are;
  of_kind = is.of_kind;
}

pub call_pushed : (first count : ℕ) (place : Place) (kind : Kind) (known : StateFacts) → HasForm known
    → kind_of place ≡ Some kind → IsPushedIn known kind (with_call first count place known)
unfolding with_call
call_pushed first count place kind known form is =
    forgotten_pushed (passed first count known) known kind _
    (result_pushed first count place kind (without_items (passed first count known) known)
    (without_form (passed first count known) known form) is)

-- ---- what Ensures read is there

-- With the result on top.
pushed_result : (first i : ℕ) (args : List Place) (place : Place) (kind : Kind) (known after : StateFacts)
    → IsPushed known kind after → i ≡ length known.variables → kind_of place ≡ Some kind
    → IsReadable (record { args = first; result = None }) args place known
    → IsReadable (record { args = first; result = Some i }) args place after
pushed_result first i args place kind known after is top of_place readable =
    let still = pushed_readable (record { args = first; result = None }) args place known after kind is readable in
    let there : slice_get after.variables i ≡ Some is.top =
    ap (λ n. slice_get after.variables n) top ∙ ap (λ l. slice_get l (length known.variables)) is.variables_are
    ∙ last_var known.variables is.top in
    record {
      form = still.form;
      args_fit = still.args_fit;
      result_fits = λ j k at of_kind.
          subst (λ m. IsOneOfKind after k (slice_get after.variables m)) (same_Some i j at)
          (subst (λ q. IsOneOfKind after q (slice_get after.variables i)) (same_Some kind k (sym of_place ∙ of_kind))
          (subst (IsOneOfKind after kind) (sym there) is.of_kind));
    }
  where
    last_var : (vs : List Var) (v : Var) → slice_get (vs ++ v ∷ []) (length vs) ≡ Some v
    last_var [] v = refl
    last_var (x ∷ vs) v = last_var vs v

one_readable : (first i : ℕ) (args : List Place) (place : Place) (kind : Kind) (known : StateFacts) (o : State)
    → IsPushedIn known kind o → i ≡ length known.variables → kind_of place ≡ Some kind
    → IsReadable (record { args = first; result = None }) args place known
    → ForSome o (IsReadable (record { args = first; result = Some i }) args place)
one_readable first i args place kind known None is top of_place readable = λ x at. absurd (none-some x at)
one_readable first i args place kind known (Some after) is top of_place readable = λ x at.
    subst (IsReadable (record { args = first; result = Some i }) args place) (same_Some after x at)
    (pushed_result first i args place kind known after is top of_place readable)

call_readable : (first count : ℕ) (args : List Place) (place : Place) (known : StateFacts)
    → first + count ≡ length known.variables → IsReadable (record { args = first; result = None }) args place known
    → ForSome (with_call first count place known)
    (IsReadable (record { args = first; result = result_at place (first + count) }) args place)
unfolding with_call with_result
call_readable first count args places.Void known top readable = λ x at.
    subst (IsReadable (record { args = first; result = None }) args places.Void)
    (same_Some (without_items (passed first count known) known) x at)
    (record {
      form = without_form (passed first count known) known readable.form;
      args_fit = readable.args_fit;
      result_fits = readable.result_fits;
    })
call_readable first count args places.Bool known top readable =
    one_readable first (first + count) args places.Bool kinds.Int known (with_call first count places.Bool known)
    (call_pushed first count places.Bool kinds.Int known readable.form refl) top refl readable
call_readable first count args places.Int known top readable =
    one_readable first (first + count) args places.Int kinds.Int known (with_call first count places.Int known)
    (call_pushed first count places.Int kinds.Int known readable.form refl) top refl readable
call_readable first count args places.Bools known top readable =
    one_readable first (first + count) args places.Bools kinds.Bools known (with_call first count places.Bools known)
    (call_pushed first count places.Bools kinds.Bools known readable.form refl) top refl readable
call_readable first count args places.Ints known top readable =
    one_readable first (first + count) args places.Ints kinds.Ints known (with_call first count places.Ints known)
    (call_pushed first count places.Ints kinds.Ints known readable.form refl) top refl readable

-- The state in which Ensures are assumed.
abbrev pub forgotten : CalleeInfo → State → State
forgotten callee state = forget (first_of (length callee.args) state) (length callee.args) callee.result state

pub behind_readable : (callee : CalleeInfo) (state : State) → CanCall callee state
    → ForSome (forgotten callee state) (IsReadable (behind_args callee state) callee.args callee.result)
behind_readable callee None ready = λ x at. absurd (none-some x at)
behind_readable callee (Some known) ready =
    let most = ready.there known refl in
    call_readable (first_of (length callee.args) (Some known)) (length callee.args) callee.args callee.result known
    (omega (arith, most)) (ready.readable known refl)

pub behind_assumes : (callee : CalleeInfo) (state : State) → IsCallee callee → CanCall callee state
    → CanAssume (behind_args callee state) callee.clauses (forgotten callee state)
behind_assumes callee state formed ready = record {
  args = callee.args;
  result = callee.result;
  readable = behind_readable callee state ready;
  tests = callee_clauses callee formed;
}

-- ---- values less the arguments

have_dropped : (number : ℕ → ℤ) (array : ℕ → Option ℕ) (n : ℕ) (vs : List Var) (xs : List Value)
    → HaveValues number array vs xs → HaveValues number array (drop n vs) (drop n xs)
have_dropped number array zero vs xs have = have
have_dropped number array (suc n) [] [] have = tt
have_dropped number array (suc n) [] (x ∷ xs) have = elim have [ ]
have_dropped number array (suc n) (v ∷ vs) [] have = elim have [ ]
have_dropped number array (suc n) (v ∷ vs) (x ∷ xs) have = have_dropped number array n vs xs have.1

have_both : (number : ℕ → ℤ) (array : ℕ → Option ℕ) (vs ws : List Var) (xs ys : List Value)
    → HaveValues number array vs xs → HaveValues number array ws ys → HaveValues number array (vs ++ ws) (xs ++ ys)
have_both number array [] ws [] ys one two = two
have_both number array [] ws (x ∷ xs) ys one two = elim one [ ]
have_both number array (v ∷ vs) ws [] ys one two = elim one [ ]
have_both number array (v ∷ vs) ws (x ∷ xs) ys one two = (one.0, have_both number array vs ws xs ys one.1 two)

pub less_keeps : (state : State) (first count : ℕ) (below args more : List Value) (heap : Heap) → first ≡ length below
    → length args ≡ count → HoldsOver state ((below ++ args) ++ more) heap
    → HoldsOver (option_map (less first count) state) (below ++ more) heap
less_keeps None first count below args more heap start long over = elim over.holds [ ]
less_keeps (Some known) first count below args more heap start long over =
    let all = (below ++ args) ++ more in
    let prefix : take first all ≡ below =
    ap (take first) (append_assoc below args more) ∙ take_at below (args ++ more) first (sym start) in
    let size : length (below ++ args) ≡ first + count = length-append below args ∙ omega (arith, start, long) in
    let rest : drop (first + count) all ≡ more = drop_at (below ++ args) more (first + count) size in
    let vs = over.holds.variables in
    record {
      number = over.number;
      array = over.array;
      holds = record {
        null = over.holds.null;
        facts = over.holds.facts;
        variables =
            subst (λ l. HaveValues over.number over.array (take first known.variables
            ++ drop (first + count) known.variables) l) (ap (λ l. l ++ drop (first + count) all) prefix
            ∙ ap (λ l. below ++ l) rest)
            (have_both over.number over.array (take first known.variables) (drop (first + count) known.variables)
            (take first all) (drop (first + count) all)
            (have_taken over.number over.array first known.variables all vs)
            (have_dropped over.number over.array (first + count) known.variables all vs));
        references = over.holds.references;
        apart = over.holds.apart;
        contents = over.holds.contents;
      };
    }

-- ---- what a call gives

record IsGivenBy (new : Heap) (place : Place) (result : Option Value) : Type 0 where
  value : Value
  is : result ≡ Some value
  fits : FitsPlace new place value
  at : (i : ℕ) → result_at place i ≡ Some i

given_tells : (new : Heap) (place : Place) (result : Option Value) → FitsResult new place result
    → ((place ≡ places.Void) × (result ≡ None)) ⊎ IsGivenBy new place result
given_tells new places.Void None fits = inl (refl, refl)
given_tells new places.Void (Some v) fits = elim fits [ ]
given_tells new places.Bool None fits = elim fits [ ]
given_tells new places.Int None fits = elim fits [ ]
given_tells new places.Bools None fits = elim fits [ ]
given_tells new places.Ints None fits = elim fits [ ]
given_tells new places.Bool (Some v) fits = inr (record { value = v; is = refl; fits = fits; at = λ i. refl })
given_tells new places.Int (Some v) fits = inr (record { value = v; is = refl; fits = fits; at = λ i. refl })
given_tells new places.Bools (Some v) fits = inr (record { value = v; is = refl; fits = fits; at = λ i. refl })
given_tells new places.Ints (Some v) fits = inr (record { value = v; is = refl; fits = fits; at = λ i. refl })

given_fits : (new : Heap) (place : Place) (result : Option Value) → FitsResult new place result → (v : Value)
    → result ≡ Some v → FitsPlace new place v
given_fits new place result fits v at = elim (given_tells new place result fits) [
  | inl told ↦ absurd (none-some v (sym told.1 ∙ at))
  | inr told ↦ subst (FitsPlace new place) (same_Some told.value v (sym told.is ∙ at)) told.fits
]

given_values : (new : Heap) (place : Place) (result : Option Value) → FitsResult new place result
    → AllByRecursion (IsValue new) (listed result)
given_values new place None fits = tt
given_values new place (Some v) fits = (value_of_place new place v (given_fits new place (Some v) fits v refl), tt)

given_read : (new : Heap) (place : Place) (result : Option Value) (lower : List Value) (i : ℕ)
    → FitsResult new place result → i ≡ length lower → ReadsResult (lower ++ listed result) (result_at place i) result
given_read new place result lower i fits top = elim (given_tells new place result fits) [
  | inl told ↦
      subst (λ r. ReadsResult (lower ++ listed r) (result_at place i) r) (sym told.1)
      (subst (λ pl. ReadsResult (lower ++ []) (result_at pl i) None) (sym told.0) tt)
  | inr told ↦
      subst (λ r. ReadsResult (lower ++ listed r) (result_at place i) r) (sym told.is)
      (subst (λ o. ReadsResult (lower ++ told.value ∷ []) o (Some told.value)) (sym (told.at i))
      (subst (λ n. slice_get (lower ++ told.value ∷ []) n ≡ Some told.value) (sym top) (last_value lower told.value)))
]
  where
    last_value : (vs : List Value) (v : Value) → slice_get (vs ++ v ∷ []) (length vs) ≡ Some v
    last_value [] v = refl
    last_value (x ∷ vs) v = last_value vs v

-- ---- the point behind a call

back_parts : (callee : CalleeInfo) (i : Instr) (p : Point) (new : Heap) (result : Option Value)
    → variables_of (back callee i result new p).frame ≡ below_args callee.args p ++ listed result
back_parts callee i p new None = sym (append-nil (below_args callee.args p))
back_parts callee i p new (Some v) =
    let rest = drop (length callee.args) p.frame.stack in
    ap (λ l. base_of p.frame ++ l) (reverse-append (v ∷ []) rest)
    ∙ sym (append_assoc (base_of p.frame) (reverse rest) (v ∷ []))

back_values : (callee : CalleeInfo) (i : Instr) (p : Point) (args : List Value) (new : Heap) (result : Option Value)
    → FreeReturn callee args p.heap new result → HasMachineValues (passing callee.args args p)
    → HasMachineValues (back callee i result new p)
back_values callee i p args new result free machine =
    let kept = free.keeps.forms in
    let rest = drop (length callee.args) p.frame.stack in
    let below = AreValues-kept p.heap new kept rest
    (all_split (IsValue p.heap) (reverse args) rest machine.stack).1 in
    by result (given_values new callee.result result free.fits)
    (AreValues-kept p.heap new kept p.frame.args machine.args)
    (AreValues-kept p.heap new kept p.frame.locals machine.locals) below
    (keeps_on p.frame.entry_heap p.heap new machine.kept kept)
  where
    by : (o : Option Value) → AllByRecursion (IsValue new) (listed o) → AllByRecursion (IsValue new) p.frame.args
        → AllByRecursion (IsValue new) p.frame.locals
        → AllByRecursion (IsValue new) (drop (length callee.args) p.frame.stack) → KeepsForms p.frame.entry_heap new
        → HasMachineValues (back callee i o new p)
    by None on_top of_args of_locals below kept = record {
      heap = free.heap_is;
      args = of_args;
      locals = of_locals;
      stack = below;
      entry_heap = machine.entry_heap;
      entry_args = machine.entry_args;
      kept = kept;
    }
    by (Some v) on_top of_args of_locals below kept = record {
      heap = free.heap_is;
      args = of_args;
      locals = of_locals;
      stack = (on_top.0, below);
      entry_heap = machine.entry_heap;
      entry_args = machine.entry_args;
      kept = kept;
    }

-- ---- the whole

-- What the call gives holds with the result on top of the arguments.
forgotten_keeps : (callee : CalleeInfo) (state : State) (p : Point) (args : List Value) (new : Heap)
    (result : Option Value) → ForSome state HasForm → IsAtCall callee state p args
    → FreeReturn callee args p.heap new result
    → HoldsOver (forgotten callee state) ((below_args callee.args p ++ args) ++ listed result) new
forgotten_keeps callee state p args new result form here free =
    let count = length callee.args in
    let first = first_of count state in
    let vs = below_args callee.args p ++ args in
    let taken : take count (drop first vs) ≡ args =
    ap (take count) (drop_at (below_args callee.args p) args first (sym here.first))
    ∙ take_whole args count here.long in
    let kept = call_keeps first count callee.result state form vs p.heap new here.over.number here.over.array result
    here.over.holds free.heap_is (subst (KeepsArrays p.heap new) (sym taken) free.keeps) free.fits
    (subst (λ l. IsPassedOrNew p.heap l result) (sym taken) free.passed_or_new) in
    record { number = kept.later; array = kept.later_array; holds = kept.holds }
  where
    take_whole : (xs : List Value) (n : ℕ) → length xs ≡ n → take n xs ≡ xs
    take_whole xs n long =
        ap (take n) (sym (append-nil xs)) ∙ take_at xs [] n long

-- What Ensures read.
reads_behind : (callee : CalleeInfo) (state : State) (p : Point) (args : List Value) (new : Heap)
    (result : Option Value) → IsAtCall callee state p args → FreeReturn callee args p.heap new result
    → Reads (behind_args callee state) callee.args callee.result
    ((below_args callee.args p ++ args) ++ listed result) new
    (record { args = args; entry_heap = p.heap; heap = new; result = result })
reads_behind callee state p args new result here free =
    let count = length callee.args in
    let lower = below_args callee.args p ++ args in
    let size = length-append (below_args callee.args p) args in
    reads_over (behind_args callee state) callee.args callee.result (below_args callee.args p) args (listed result)
    p.heap
    new result here.first
    (given_read new callee.result result lower (first_of count state + count) free.fits
    (omega (arith, size, here.first, here.long)))
    here.fit (given_fits new callee.result result free.fits) here.is_heap free.heap_is free.keeps.forms
    (all_append (IsValue new) lower (listed result) (AreValues-kept p.heap new free.keeps.forms lower here.are)
    (given_values new callee.result result free.fits))

pub call_kept : (callee : CalleeInfo) (state : State) → IsCallee callee → CanCall callee state
    → KeepsReturned callee state (after_call callee state)
unfolding after_call
call_kept callee state formed ready = λ i p args new result are free holds.
    let here = at_call_is callee state p args are holds in
    let count = length callee.args in
    let clauses = clauses_of clause_kinds.Ensures callee.clauses in
    let r : Reading = record { args = args; entry_heap = p.heap; heap = new; result = result } in
    let below = below_args callee.args p in
    let over = forgotten_keeps callee state p args new result (λ x is. (ready.readable x is).form) here free in
    let all = each_keeps (behind_args callee state) callee.args callee.result clauses (forgotten callee state)
    ((below ++ args) ++ listed result) new r (behind_readable callee state ready)
    (of_kind callee.args callee.result clause_kinds.Ensures callee.clauses (callee_clauses callee formed))
    (reads_behind callee state p args new result here free) (all_true 1 r clauses free.ensured) over in
    at_of (option_map (less (first_of count state) count) (given callee state)) (back callee i result new p)
    (back_values callee i p args new result free holds.machine)
    (subst (λ l. HoldsOver (option_map (less (first_of count state) count) (given callee state)) l new)
    (sym (back_parts callee i p new result))
    (less_keeps (given callee state) (first_of count state) count below args (listed result) new here.first
    here.long all))
