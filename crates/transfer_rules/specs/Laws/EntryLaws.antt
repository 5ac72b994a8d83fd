-- The state where a method begins holds of each point with which a call may begin, and its variables fit.
use Rattle.std.proofs.Common.{◌≡◌, ℕ, zero, suc, ◌+◌, Bool, true, false, not, List, [], ◌∷◌, ◌++◌, map, slice_get, Option, Some, None, int_eq, pos, refl, sym, ap, subst, ◌∙◌, append-nil, arith}
use Rattle.std.specs.List.{AllByRecursion}
use Rattle.std.specs.Option.{ForSome, option_and_then, option_map}
use Rattle.std.proofs.lemmas.Bool.{cond_both, false≢true}
use Rattle.std.proofs.lemmas.Option.{none-some, same_Some, slice_get-map}
use Rattle.cil_model.proofs.HeapsKept.{keeps_itself}
use Rattle.cil_model.specs.Calls.{clauses_in_force, entry_frame}
use Rattle.cil_model.specs.Clauses.{Reading, clause_holds, clauses_of, first_false, is_kind, is_number_true, value_of}
use Rattle.cil_model.specs.Comparisons.{is_true}
use Rattle.cil_model.specs.Kinds.{kind_of}
use Rattle.cil_model.specs.Runs.{MayBegin}
use Rattle.cil_model.specs.Terms as terms
use Rattle.cil_model.specs.Terms.{Term}
use Rattle.cil_model.specs.TreeKinds.{IsNumberClause, kind_in}
use Rattle.cil_model.specs.Values.{Heap, IsValue, zero_of}
use Rattle.cil_model.specs.WellFormed.{HasInts, IsWellFormed}
use Rattle.cil_model.specs.declared.clause.Clause.{Clause}
use Rattle.cil_model.specs.declared.clause.ClauseKind.{ClauseKind}
use Rattle.cil_model.specs.declared.clause.ClauseKind.TheVariants as clause_kinds
use Rattle.cil_model.specs.declared.instruction.BinOp.TheVariants as operators
use Rattle.cil_model.specs.declared.machine.Value.{Value}
use Rattle.cil_model.specs.declared.machine.Value.TheVariants as values
use Rattle.cil_model.specs.declared.place.Kind.{Kind}
use Rattle.cil_model.specs.declared.place.Kind.TheVariants as kinds
use Rattle.cil_model.specs.declared.place.Place.{Place}
use Rattle.cil_model.specs.declared.unit.Unit.{Unit as MethodUnit}
use Rattle.clause_trees.proofs.AssumedKept.{assumed_is_kept, assumed_keeps_forms}
use Rattle.clause_trees.proofs.EntryKinds.{kind_everywhere}
use Rattle.clause_trees.specs.ClauseStates.{assumed}
use Rattle.clause_trees.specs.Meaning.{IsTest, Reads}
use Rattle.clause_trees.specs.declared.reader.TreeEnv.{TreeEnv}
use Rattle.clause_trees.specs.VariableKinds.{IsOneOfKind, IsReadable}
use Rattle.contract_calls.proofs.OwnInts.{own_ints}
use Rattle.machine_points.proofs.PointsKeep.{entry_point, point_values}
use Rattle.machine_points.specs.MachineValues.{HasMachineValues}
use Rattle.machine_points.specs.Points.{point}
use Rattle.merged_states.specs.Following.{HoldsOver}
use Rattle.merged_states.specs.Merging.{join}
use Rattle.merged_states.specs.Laws.StatesHold.{normal_at}
use Rattle.state_facts.specs.Holds.{HoldsAt, HoldsIn}
use Rattle.state_facts.specs.StateFacts.{StateFacts, State}
use Rattle.transfer_rules.specs.Entry.{HoldsAtEntry, at_entry, begun, entry, required}
use Rattle.transfer_rules.specs.Forms as forms
use Rattle.transfer_rules.specs.Forms.{FitsStack, HasKinds}
use Rattle.transfer_rules.specs.Laws.BegunLaws.{begun_kinds, begun_over, both_all, entry_kinds, forms_of, on_no_stack}
use Rattle.transfer_rules.specs.Laws.Fitting.{AreKinds, fit_at}
use Rattle.transfer_rules.specs.Laws.FormsMerged.{normal_fits}
use Rattle.transfer_rules.specs.Laws.SameKinds.{read_kind, same_forms}

-- ---- what a Requires reads

prefix_at : {X : Type 0} (xs ys : List X) (i : ℕ) (x : X) → slice_get xs i ≡ Some x → slice_get (xs ++ ys) i ≡ Some x
prefix_at [] ys i x is = absurd (none-some x is)
prefix_at (y ∷ xs) ys zero x is = is
prefix_at (y ∷ xs) ys (suc i) x is = prefix_at xs ys i x is

readable : (unit : MethodUnit) (known : StateFacts) → HasKinds (entry_kinds unit) known
    → IsReadable at_entry unit.args unit.result known
readable unit known has = record {
  form = has.form;
  args_fit = λ n kind is. by n kind (slice_get unit.args n) refl is;
  result_fits = λ i kind none is. absurd (none-some i none);
}
  where
    found : (n : ℕ) (place : Place) → slice_get unit.args n ≡ Some place
        → slice_get (entry_kinds unit) n ≡ Some (forms.kind_in place)
    found n place is =
        let args = map forms.kind_in unit.args in
        prefix_at (args ++ args) (map forms.kind_in unit.locals) n (forms.kind_in place)
        (prefix_at args args n (forms.kind_in place)
        (slice_get-map forms.kind_in unit.args n ∙ ap (option_map forms.kind_in) is))

    by : (n : ℕ) (kind : Kind) (o : Option Place) → slice_get unit.args n ≡ o → option_and_then kind_of o ≡ Some kind
        → IsOneOfKind known kind (slice_get known.variables (0 + n))
    by n kind None there is = absurd (none-some kind is)
    by n kind (Some place) there is =
        let at =
        fit_at known (entry_kinds unit) known.variables n (forms.kind_in place) has.fit (found n place there) in
        let plain : n ≡ 0 + n = omega arith in
        subst (λ m. IsOneOfKind known kind (slice_get known.variables m)) plain
        (subst (IsOneOfKind known kind) (sym at.is) (read_kind known place kind at.var is at.fits))

-- ---- each Requires

abbrev pub IsTestOf : MethodUnit → Clause → Type 0
IsTestOf unit clause = IsTest unit.args unit.result clause.tree

no_ensures : (kind : ClauseKind) → is_kind clause_kinds.Requires kind ≡ true → is_kind clause_kinds.Ensures kind ≡ false
no_ensures clause_kinds.Requires is = refl
no_ensures clause_kinds.Ensures is = absurd (false≢true is)

is_test : (unit : MethodUnit) (clause : Clause) → is_kind clause_kinds.Requires clause.kind ≡ true
    → IsNumberClause unit.args unit.result clause
    → HasInts clause → IsTestOf unit clause
is_test unit clause requires number ints = record {
  kind = kinds.Int;
  typed = record {
    kind_is = kind_everywhere unit.args unit.result clause.tree kinds.Int
        (subst (λ ensured. kind_in unit.args unit.result ensured clause.tree ≡ Some kinds.Int)
        (no_ensures clause.kind requires) number);
    ints = ints;
  };
  tested = refl;
}

all_tests : (unit : MethodUnit) (clauses : List Clause) → AllByRecursion (IsNumberClause unit.args unit.result) clauses
    → AllByRecursion HasInts clauses → AllByRecursion (IsTestOf unit) (clauses_of clause_kinds.Requires clauses)
all_tests unit [] numbers ints = tt
all_tests unit (clause ∷ clauses) numbers ints =
    cond_both (is_kind clause_kinds.Requires clause.kind) _ _ (AllByRecursion (IsTestOf unit))
    (λ requires. (is_test unit clause requires numbers.0 ints.0, all_tests unit clauses numbers.1 ints.1))
    (λ other. all_tests unit clauses numbers.1 ints.1)

-- Where nothing is reached, nothing is behind what is assumed.
none_assumed : (env : TreeEnv) (holds : Bool) (t : Term) → assumed env holds t None ≡ None
unfolding assumed
none_assumed env holds (terms.Cond c a b) =
    ap (λ o. join (assumed env holds a o) (assumed env holds b (assumed env false c None))) (none_assumed env true c)
    ∙ ap (λ o. join o (assumed env holds b (assumed env false c None))) (none_assumed env holds a)
    ∙ ap (assumed env holds b) (none_assumed env false c) ∙ none_assumed env holds b
none_assumed env holds (terms.Bin operators.Ceq a (terms.Const n)) =
    cond_both (int_eq n (pos 0)) _ _ (λ (o : State). o ≡ None) (λ zero. none_assumed env (not holds) a) (λ other. refl)
none_assumed env holds _ = refl

pub assumed_kinds : (unit : MethodUnit) (t : Term) (state : State) → IsTest unit.args unit.result t
    → AreKinds (entry_kinds unit) state
    → AreKinds (entry_kinds unit) (assumed at_entry true t state)
assumed_kinds unit t None test are = subst (AreKinds (entry_kinds unit)) (sym (none_assumed at_entry true t)) tt
assumed_kinds unit t (Some known) test has =
    same_forms (entry_kinds unit) known (assumed at_entry true t (Some known))
    (assumed_keeps_forms at_entry true t known unit.args unit.result (readable unit known has) test) has

required_kinds : (unit : MethodUnit) (clauses : List Clause) (state : State) → AllByRecursion (IsTestOf unit) clauses
    → AreKinds (entry_kinds unit) state → AreKinds (entry_kinds unit) (required clauses state)
required_kinds unit [] state tests are = are
required_kinds unit (clause ∷ clauses) state tests are =
    required_kinds unit clauses (assumed at_entry true clause.tree state) tests.1
    (assumed_kinds unit clause.tree state tests.0 are)

pub all_readable : (unit : MethodUnit) (state : State) → AreKinds (entry_kinds unit) state
    → ForSome state (IsReadable at_entry unit.args unit.result)
all_readable unit None are = λ x is. absurd (none-some x is)
all_readable unit (Some known) has = λ x is.
    subst (IsReadable at_entry unit.args unit.result) (same_Some known x is) (readable unit known has)

true_value : (o : Option Value) → is_number_true o ≡ true → option_and_then is_true o ≡ Some true
true_value (Some (values.Int n)) is = ap Some is
true_value _ is = absurd (false≢true is)

all_true : (n : ℕ) (r : Reading) (clauses : List Clause) → first_false n r clauses ≡ None
    → AllByRecursion (λ clause. clause_holds r clause ≡ true) clauses
all_true n r [] none = tt
all_true n r (clause ∷ clauses) none = cond_both (clause_holds r clause) _ _
    (λ (o : Option ℕ). o ≡ None
    → (clause_holds r clause ≡ true) × AllByRecursion (λ c. clause_holds r c ≡ true) clauses)
    (λ so rest. (so, all_true (n + 1) r clauses rest)) (λ not is. absurd (none-some n (sym is))) none

required_over : (unit : MethodUnit) (clauses : List Clause) (state : State) (vs : List Value) (heap : Heap)
    (r : Reading)
    → AllByRecursion (IsTestOf unit) clauses → AreKinds (entry_kinds unit) state
    → Reads at_entry unit.args unit.result vs heap r
    → AllByRecursion (λ clause. clause_holds r clause ≡ true) clauses → HoldsOver state vs heap
    → HoldsOver (required clauses state) vs heap
required_over unit [] state vs heap r tests are reads so over = over
required_over unit (clause ∷ clauses) state vs heap r tests are reads so over =
    required_over unit clauses (assumed at_entry true clause.tree state) vs heap r tests.1
    (assumed_kinds unit clause.tree state tests.0 are) reads so.1
    (assumed_is_kept at_entry true clause.tree state unit.args unit.result vs heap r
    (all_readable unit state are) tests.0 reads over
    (true_value (value_of clause.tree r) so.0))

-- ---- the whole

abbrev requires : MethodUnit → List Clause
requires unit = clauses_of clause_kinds.Requires (clauses_in_force unit)

pub unit_tests : (unit : MethodUnit) → IsWellFormed unit → AllByRecursion (IsTestOf unit) (requires unit)
unit_tests unit formed = all_tests unit unit.clauses formed.numbers (own_ints unit formed)

kinds_required : (unit : MethodUnit) → IsWellFormed unit
    → AreKinds (entry_kinds unit) (required (requires unit) (begun unit))
kinds_required unit formed =
    required_kinds unit (requires unit) (begun unit) (unit_tests unit formed) (begun_kinds unit formed)

pub entry_fits : (unit : MethodUnit) → IsWellFormed unit → FitsStack unit (Some []) (entry unit)
unfolding entry
entry_fits unit formed =
    normal_fits unit (Some []) (required (requires unit) (begun unit))
    (on_no_stack unit (required (requires unit) (begun unit)) (kinds_required unit formed))

entry_reads : (unit : MethodUnit) (index : ℕ) (args : List Value) (heap : Heap) → IsWellFormed unit
    → MayBegin unit args heap
    → Reads at_entry unit.args unit.result (args ++ args ++ map zero_of unit.locals) heap
    (record { args = args; entry_heap = heap; heap = heap; result = None })
entry_reads unit index args heap formed begins =
    let p = point (entry_frame unit index args heap) heap in
    let machine : HasMachineValues p = point_values unit p (entry_point unit index args heap formed.locals begins) in
    let zeros = map zero_of unit.locals in
    record {
      heap_is = refl;
      args_are = λ n v is. from_first n v (prefix_at (args ++ args) zeros n v (prefix_at args args n v is));
      result_is = tt;
      fit = begins.fit;
      result_fits = λ v is. absurd (none-some v is);
      is_heap = begins.heap_is;
      is_entry = begins.heap_is;
      kept = keeps_itself heap;
      are_values =
          both_all (IsValue heap) (args ++ args) zeros
          (both_all (IsValue heap) args args machine.args machine.args) machine.locals;
    }
  where
    from_first : (n : ℕ) (v : Value) → slice_get (args ++ args ++ map zero_of unit.locals) n ≡ Some v
        → slice_get (args ++ args ++ map zero_of unit.locals) (0 + n) ≡ Some v
    from_first n v is =
        let plain : n ≡ 0 + n =
        omega arith in subst (λ m. slice_get (args ++ args ++ map zero_of unit.locals) m ≡ Some v) plain is

at_begin : (unit : MethodUnit) (state : State) (index : ℕ) (args : List Value) (heap : Heap) → IsWellFormed unit
    → MayBegin unit args heap
    → HoldsOver state (args ++ args ++ map zero_of unit.locals) heap
    → HoldsAt state (point (entry_frame unit index args heap) heap)
at_begin unit state index args heap formed begins over =
    let p = point (entry_frame unit index args heap) heap in
    record {
      machine = point_values unit p (entry_point unit index args heap formed.locals begins);
      frame = record {
        number = over.number;
        array = over.array;
        holds =
            subst (λ vs. HoldsIn state vs heap over.number over.array)
            (sym (append-nil (args ++ args ++ map zero_of unit.locals))) over.holds;
      };
    }

pub begun_holds : (unit : MethodUnit) → IsWellFormed unit → HoldsAtEntry unit (begun unit)
begun_holds unit formed = λ index args heap begins.
    at_begin unit (begun unit) index args heap formed begins
    (begun_over unit args heap formed begins.heap_is begins.fit)

pub entry_holds : (unit : MethodUnit) → IsWellFormed unit → HoldsAtEntry unit (entry unit)
unfolding entry
entry_holds unit formed = λ index args heap begins.
    let state = required (requires unit) (begun unit) in
    let vs = args ++ args ++ map zero_of unit.locals in
    let r : Reading = record { args = args; entry_heap = heap; heap = heap; result = None } in
    normal_at state (point (entry_frame unit index args heap) heap)
    (forms_of (entry_kinds unit) state (kinds_required unit formed))
    (at_begin unit state index args heap formed begins
    (required_over unit (requires unit) (begun unit) vs heap r (unit_tests unit formed) (begun_kinds unit formed)
    (entry_reads unit index args heap formed begins) (all_true 1 r (requires unit) begins.required)
    (begun_over unit args heap formed begins.heap_is begins.fit)))
