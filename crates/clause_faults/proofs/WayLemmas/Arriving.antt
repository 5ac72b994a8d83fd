-- What is wrong from an instruction on, with all stacks that come there: what is wrong at it, and what is wrong after
-- it.
use Rattle.std.proofs.Common.{◌≡◌, ℕ, zero, suc, ◌+◌, ◌≤◌, ◌==◌, Bool, true, false, not, List, [], ◌∷◌, length, Option, Some, None, refl, sym, ap, cond, ◌∙◌, arith}
use Rattle.std.specs.Prelude.{nat_lt}
use Rattle.std.specs.List.{list_any}
use Rattle.std.specs.Option.{option_map_or}
use Rattle.std.proofs.lemmas.Bool.{le-ltb, lt-ltb}
use Rattle.std.proofs.lemmas.Bool.Decides.{nat_tests}
use Rattle.cil_model.specs.Blocks.{closes}
use Rattle.cil_model.specs.Kinds.{call_operands, operand_count}
use Rattle.cil_model.specs.Runs.{instr_at}
use Rattle.cil_model.specs.UnitCalls.{unit_call}
use Rattle.cil_model.specs.declared.instruction.Instr.{Instr}
use Rattle.cil_model.specs.declared.instruction.Op.{Op}
use Rattle.cil_model.specs.declared.instruction.Op.TheVariants as ops
use Rattle.cil_model.specs.declared.place.Place.{Place}
use Rattle.cil_model.specs.declared.shape.Shape.{Shape}
use Rattle.cil_model.specs.declared.unit_numbers.UnitCall.{UnitCall}
use Rattle.cil_model.specs.declared.unit_numbers.UnitCall.TheVariants as calls
use Rattle.clause_faults.specs.Faults.{fault_if, first_fault}
use Rattle.clause_faults.specs.PassedInstr.{arrived_fault, behind_arrivals, old_call_fault, old_op_fault, passed_arrivals}
use Rattle.clause_faults.specs.PureCode.{calls_with_message, is_pure}
use Rattle.clause_faults.specs.SharedStacks.{AreGrounded, AreOrdered, IsGrounded, Stacks, arrivals_at, differs, either, lacks, least, least_of, least_over, old_fault, told_of}
use Rattle.clause_faults.specs.Ways.{Told, closing_faults, faults_at, faults_here, old_faults_of, stack_behind, ways_behind}
use Rattle.clause_faults.specs.declared.ways.arrivals.Arrival.{Arrival}
use Rattle.clause_faults.specs.declared.ways.arrivals.Arrival.TheVariants.{Empty, Over}
use Rattle.clause_faults.specs.declared.clause_fault.ClauseFault.{ClauseFault}
use Rattle.clause_faults.specs.declared.clause_fault.ClauseFault.TheVariants.{StackLeft}
use Rattle.clause_faults.proofs.FaultLemmas.Earliest.{either-assoc, either-both, either-none, least-if, least-none, least-same}
use Rattle.clause_faults.proofs.WayLemmas.Joins.{Joins, first_on, goes_on}
use Rattle.clause_faults.proofs.WayLemmas.Moves.{Behind, moves, where_there}
use Rattle.clause_faults.proofs.WayLemmas.Standing.{Judge, all_grounded_higher, grounded_higher, least-same_all, least_of-none, least_of-same, least_over-const, least_over-either, least_over-none, least_over-same}

-- A fault where a test holds.
abbrev pub fault_where : Bool → ClauseFault → Option ClauseFault
fault_where test fault = first_fault (fault_if test fault)

module _ (stacks : Stacks) (ordered : AreOrdered stacks) (fault : ClauseFault) where
  -- ---- stacks that lack values

  lacking : ℕ → Judge
  lacking count stack = fault_where (nat_lt (length stack) count) fault

  lack_none : (n : ℕ) → fault_where (nat_lt n 0) fault ≡ None
  lack_none n = let test : nat_lt n 0 ≡ false = le-ltb n 0 (omega arith) in rw test refl

  lack_next : (n count : ℕ) → fault_where (nat_lt (suc n) (suc count)) fault ≡ fault_where (nat_lt n count) fault
  lack_next n count = let test : nat_lt (suc n) (suc count) ≡ nat_lt n count = grind (arith, nat_tests) in rw test refl

  lacks_judged : (count most : ℕ) (top : Arrival) → IsGrounded stacks most top → least_of most stacks (lacking count) top ≡ fault_where (lacks count stacks top) fault
  unfolding lacking
  lacks_judged zero most top g = least_of-same stacks most (lacking 0) (λ stack. None) top (λ stack. lack_none (length stack)) ∙ least_of-none stacks most top
  lacks_judged (suc count) most Empty g = let test : nat_lt 0 (suc count) ≡ true = lt-ltb 0 (suc count) (omega arith) in rw test refl
  lacks_judged (suc count) zero (Over value below) g = absurd (let h = g.0 in omega arith)
  lacks_judged (suc count) (suc most) (Over value below) g =
      least_over-same stacks most (λ stack. lacking (suc count) (told_of value ∷ stack)) (lacking count) (arrivals_at stacks below) (λ stack. lack_next (length stack) count)
      ∙ least-same_all (IsGrounded stacks below) (λ a. least_of most stacks (lacking count) a) (λ a. fault_where (lacks count stacks a) fault) (arrivals_at stacks below) (ordered below)
      (λ a h. lacks_judged count most a (grounded_higher stacks below most a (let k = g.0 in omega arith) h))
      ∙ least-if (λ a. lacks count stacks a) fault (arrivals_at stacks below)

  pub any_lacks_judged : (count most index : ℕ) (tops : List Arrival) → index ≤ most → AreGrounded stacks index tops
      → least_over most stacks (λ stack. fault_where (nat_lt (length stack) count) fault) tops ≡ fault_where (list_any (λ top. lacks count stacks top) tops) fault
  unfolding lacking
  any_lacks_judged count most index tops le all =
      least-same_all (IsGrounded stacks index) (λ a. least_of most stacks (lacking count) a) (λ a. fault_where (lacks count stacks a) fault) tops all
      (λ a h. lacks_judged count most a (grounded_higher stacks index most a le h))
      ∙ least-if (λ a. lacks count stacks a) fault tops

  -- ---- stacks of another height

  differing : ℕ → Judge
  differing count stack = fault_where (not (count == length stack)) fault

  differ_next : (n count : ℕ) → fault_where (not (suc count == suc n)) fault ≡ fault_where (not (count == n)) fault
  differ_next n count = let test : (suc count == suc n) ≡ (count == n) = grind (arith, nat_tests) in rw test refl

  differ_none : (n : ℕ) → fault_where (not (0 == suc n)) fault ≡ Some fault
  differ_none n = let test : (0 == suc n) ≡ false = grind (arith, nat_tests) in rw test refl

  differs_judged : (count most : ℕ) (top : Arrival) → IsGrounded stacks most top → least_of most stacks (differing count) top ≡ fault_where (differs count stacks top) fault
  unfolding differing
  differs_judged zero most Empty g = refl
  differs_judged (suc count) most Empty g = let test : (suc count == 0) ≡ false = grind (arith, nat_tests) in rw test refl
  differs_judged count zero (Over value below) g = absurd (let h = g.0 in omega arith)
  differs_judged zero (suc most) (Over value below) g =
      least_over-same stacks most (λ stack. differing 0 (told_of value ∷ stack)) (λ stack. Some fault) (arrivals_at stacks below) (λ stack. differ_none (length stack))
      ∙ least_over-const stacks ordered most below (Some fault) (let h = g.0 in omega arith) g.1
  differs_judged (suc count) (suc most) (Over value below) g =
      least_over-same stacks most (λ stack. differing (suc count) (told_of value ∷ stack)) (differing count) (arrivals_at stacks below) (λ stack. differ_next (length stack) count)
      ∙ least-same_all (IsGrounded stacks below) (λ a. least_of most stacks (differing count) a) (λ a. fault_where (differs count stacks a) fault) (arrivals_at stacks below) (ordered below)
      (λ a h. differs_judged count most a (grounded_higher stacks below most a (let k = g.0 in omega arith) h))
      ∙ least-if (λ a. differs count stacks a) fault (arrivals_at stacks below)

  pub any_differs_judged : (count most index : ℕ) (tops : List Arrival) → index ≤ most → AreGrounded stacks index tops
      → least_over most stacks (λ stack. fault_where (not (count == length stack)) fault) tops ≡ fault_where (list_any (λ top. differs count stacks top) tops) fault
  unfolding differing
  any_differs_judged count most index tops le all =
      least-same_all (IsGrounded stacks index) (λ a. least_of most stacks (differing count) a) (λ a. fault_where (differs count stacks a) fault) tops all
      (λ a h. differs_judged count most a (grounded_higher stacks index most a le h))
      ∙ least-if (λ a. differs count stacks a) fault tops

-- ---- old values

module _ (stacks : Stacks) (ordered : AreOrdered stacks) (n : ℕ) (shape : Shape) (i : Instr) where
  cond_none : (test : Bool) → ◌≡◌ {A = Option ClauseFault} (cond test None None) None
  cond_none true = refl
  cond_none false = refl

  nothing_judged : (count : ℕ) (tops : List Arrival) → least_over (suc (suc n)) stacks (where_there count (λ stack. None)) tops ≡ None
  nothing_judged count tops =
      least_over-same stacks (suc (suc n)) (where_there count (λ stack. None)) (λ stack. None) tops (λ stack. cond_none (nat_lt (length stack) count))
      ∙ least_over-none stacks (suc (suc n)) tops

  old_judged : (place : Place) (top : Arrival) → IsGrounded stacks (suc n) top
      → least_of (suc (suc n)) stacks (where_there 1 (λ stack. first_fault (old_faults_of i (Some (calls.OldValue place)) stack))) top ≡ old_fault i.at place top
  old_judged place Empty g = refl
  old_judged place (Over value below) g =
      let test : (k : ℕ) → nat_lt (suc k) 1 ≡ false = λ k. le-ltb (suc k) 1 (omega arith) in
      least_over-same stacks (suc n) (λ stack. where_there 1 (λ stack. first_fault (old_faults_of i (Some (calls.OldValue place)) stack)) (told_of value ∷ stack))
      (λ stack. old_fault i.at place (Over value below)) (arrivals_at stacks below)
      (λ stack. ap (λ (t : Bool). cond t None (old_fault i.at place (Over value below))) (test (length stack)))
      ∙ least_over-const stacks ordered (suc n) below (old_fault i.at place (Over value below)) (let h = g.0 in omega arith) g.1

  old_call_judged : (call : Option UnitCall) (tops : List Arrival) → AreGrounded stacks (suc n) tops
      → least_over (suc (suc n)) stacks (where_there (call_operands shape call) (λ stack. first_fault (old_faults_of i call stack))) tops ≡ old_call_fault i.at call tops
  old_call_judged (Some (calls.OldValue place)) tops all =
      least-same_all (IsGrounded stacks (suc n)) (λ a. least_of (suc (suc n)) stacks (where_there 1 (λ stack. first_fault (old_faults_of i (Some (calls.OldValue place)) stack))) a)
      (old_fault i.at place) tops all (λ a g. old_judged place a g)
  old_call_judged call tops all = nothing_judged (call_operands shape call) tops

  here_judged : (op : Op) (tops : List Arrival) → AreGrounded stacks (suc n) tops
      → least_over (suc (suc n)) stacks (where_there (operand_count shape op) (λ stack. first_fault (faults_here i op stack))) tops ≡ old_op_fault i.at op tops
  here_judged (ops.Call number) tops all = old_call_judged (unit_call number) tops all
  here_judged op tops all = nothing_judged (operand_count shape op) tops

-- ---- all ways

-- The faults of the ways on, one way after another.
ways_swapped : (stacks : Stacks) (most : ℕ) (judge : ℕ → Judge) (ways : List ℕ) (tops : List Arrival)
    → least_over most stacks (λ stack. least (λ later. judge later stack) ways) tops ≡ least (λ later. least_over most stacks (judge later) tops) ways
ways_swapped stacks most judge [] tops = least_over-none stacks most tops
ways_swapped stacks most judge (later ∷ ways) tops =
    least_over-either stacks most (judge later) (λ stack. least (λ later. judge later stack) ways) tops
    ∙ ap (either (least_over most stacks (judge later) tops)) (ways_swapped stacks most judge ways tops)

inside_ways : (test : Bool) (f : ℕ → Option ClauseFault) (ways : List ℕ) → cond test None (least f ways) ≡ least (λ later. cond test None (f later)) ways
inside_ways true f ways = sym (least-none ways)
inside_ways false f ways = refl

apart : (test : Bool) (fault : ClauseFault) (faults : List ClauseFault) (here on : Option ClauseFault) → first_fault faults ≡ either here on
    → first_fault (cond test (fault ∷ []) faults) ≡ either (fault_where test fault) (either (cond test None here) (cond test None on))
apart true fault faults here on e = refl
apart false fault faults here on e = e

module _ (stacks : Stacks) (ordered : AreOrdered stacks) (n : ℕ) (is : List Instr) (shape : Shape) (i : Instr) (from : ℕ → List Told → List ClauseFault) (joins : Joins from)
    (index : ℕ) (low : index ≤ suc n) (tops : List Arrival) (are : tops ≡ arrivals_at stacks index) where
  all : AreGrounded stacks (suc n) tops
  all = rw are (all_grounded_higher stacks index (suc n) (arrivals_at stacks index) low (ordered index))

  -- The judgement of the ways on, from one later offset on.
  abbrev pub on_from : ℕ → Judge
  on_from later stack = first_fault (from later stack)

  open_judged : is_pure is i ≡ true → closes i.op ≡ false
      → least_over (suc (suc n)) stacks (λ stack. first_fault (cond (nat_lt (length stack) (operand_count shape i.op)) (StackLeft i.at ∷ []) (goes_on from shape i stack))) tops
      ≡ either (either (fault_where (list_any (λ top. lacks (operand_count shape i.op) stacks top) tops) (StackLeft i.at)) (old_op_fault i.at i.op tops))
      (least (λ later. least_over (suc (suc n)) stacks (on_from later) (behind_arrivals shape.args i i.op stacks index tops)) (ways_behind i.op (i.at + i.size)))
  open_judged pure unclosed =
      let count = operand_count shape i.op in
      let ways = ways_behind i.op (i.at + i.size) in
      let lack : Judge = λ stack. fault_where (nat_lt (length stack) count) (StackLeft i.at) in
      let here : Judge = where_there count (λ stack. first_fault (faults_here i i.op stack)) in
      let on : Judge = where_there count (λ stack. least (λ later. on_from later (stack_behind shape i i.op stack)) ways) in
      let each : ℕ → Judge = λ later. Behind shape i i.op (on_from later) in
      let behind = behind_arrivals shape.args i i.op stacks index tops in
      let message = option_map_or (λ next. calls_with_message next.op) (instr_at is (i.at + i.size)) false in
      least_over-same stacks (suc (suc n)) (λ stack. first_fault (cond (nat_lt (length stack) count) (StackLeft i.at ∷ []) (goes_on from shape i stack)))
      (λ stack. either (lack stack) (either (here stack) (on stack))) tops
      (λ stack. apart (nat_lt (length stack) count) (StackLeft i.at) (goes_on from shape i stack) (first_fault (faults_here i i.op stack))
      (least (λ later. on_from later (stack_behind shape i i.op stack)) ways) (first_on from shape i stack))
      ∙ least_over-either stacks (suc (suc n)) lack (λ stack. either (here stack) (on stack)) tops
      ∙ either-both (any_lacks_judged stacks ordered (StackLeft i.at) count (suc (suc n)) (suc n) tops (omega arith) all)
      (least_over-either stacks (suc (suc n)) here on tops
      ∙ either-both (here_judged stacks ordered n shape i i.op tops all)
      (least_over-same stacks (suc (suc n)) on (λ stack. least (λ later. each later stack) ways) tops
      (λ stack. inside_ways (nat_lt (length stack) count) (λ later. on_from later (stack_behind shape i i.op stack)) ways)
      ∙ ways_swapped stacks (suc (suc n)) each ways tops
      ∙ least-same (λ later. least_over (suc (suc n)) stacks (each later) tops) (λ later. least_over (suc (suc n)) stacks (on_from later) behind) ways
      (λ later. moves stacks ordered n shape i (on_from later) (joins later) index low tops are all message i.op pure unclosed)))
      ∙ sym (either-assoc (fault_where (list_any (λ top. lacks count stacks top) tops) (StackLeft i.at)) (old_op_fault i.at i.op tops)
      (least (λ later. least_over (suc (suc n)) stacks (on_from later) behind) ways))

  closing_where : (same : Bool) → first_fault (cond same [] (StackLeft i.at ∷ [])) ≡ fault_where (not same) (StackLeft i.at)
  closing_where true = refl
  closing_where false = refl

  no_ways : (ways : List ℕ) (x : Option ClauseFault) → x ≡ either x (least (λ later. least_over (suc (suc n)) stacks (on_from later) []) ways)
  no_ways ways x = sym (ap (either x) (least-none ways) ∙ either-none x)

  by_kind : (closing pure : Bool) → closes i.op ≡ closing → is_pure is i ≡ pure
      → least_over (suc (suc n)) stacks (λ stack. first_fault (cond closing (closing_faults i.at (operand_count shape i.op) (length stack))
      (cond (not pure) [] (cond (nat_lt (length stack) (operand_count shape i.op)) (StackLeft i.at ∷ []) (goes_on from shape i stack))))) tops
      ≡ either (cond closing (fault_where (list_any (λ top. differs (operand_count shape i.op) stacks top) tops) (StackLeft i.at))
      (cond (not pure) None (either (fault_where (list_any (λ top. lacks (operand_count shape i.op) stacks top) tops) (StackLeft i.at)) (old_op_fault i.at i.op tops))))
      (least (λ later. least_over (suc (suc n)) stacks (on_from later) (cond closing [] (cond (not pure) [] (behind_arrivals shape.args i i.op stacks index tops))))
      (ways_behind i.op (i.at + i.size)))
  by_kind true pure is_closing is_it =
      least_over-same stacks (suc (suc n)) (λ stack. first_fault (closing_faults i.at (operand_count shape i.op) (length stack)))
      (λ stack. fault_where (not (operand_count shape i.op == length stack)) (StackLeft i.at)) tops (λ stack. closing_where (operand_count shape i.op == length stack))
      ∙ any_differs_judged stacks ordered (StackLeft i.at) (operand_count shape i.op) (suc (suc n)) (suc n) tops (omega arith) all
      ∙ no_ways (ways_behind i.op (i.at + i.size)) (fault_where (list_any (λ top. differs (operand_count shape i.op) stacks top) tops) (StackLeft i.at))
  by_kind false false is_closing is_it = least_over-none stacks (suc (suc n)) tops ∙ no_ways (ways_behind i.op (i.at + i.size)) None
  by_kind false true is_closing is_it = open_judged is_it is_closing

  pub arrived_judged :
      least_over (suc (suc n)) stacks (λ stack. first_fault (faults_at from is shape i stack)) tops
      ≡ either (arrived_fault is shape i stacks tops)
      (least (λ later. least_over (suc (suc n)) stacks (on_from later) (passed_arrivals is shape i stacks index tops)) (ways_behind i.op (i.at + i.size)))
  arrived_judged = by_kind (closes i.op) (is_pure is i) refl refl
