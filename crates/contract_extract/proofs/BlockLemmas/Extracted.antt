-- One clause of a contract block after another.
use Rattle.std.proofs.Common.{◌≡◌, ℕ, ◌+◌, ◌-◌, ◌<◌, ◌≤◌, ◌==◌, Bool, true, false, ◌&&◌, ◌||◌, List, [], ◌∷◌, ◌++◌, length, take, drop, length-append, length-drop, drop-drop, Option, Some, None, refl, sym, subst, ap, ◌∙◌, arith, append_assoc, slice_get}
use Rattle.std.specs.Prelude.{nat_lt}
use Rattle.std.specs.List.{AllByRecursion, flat_map}
use Rattle.std.proofs.lemmas.Bool.Decides.{nat_tests}
use Rattle.std.proofs.lemmas.List.{drop_more, length-take-le, take-append-drop, take_at}
use Rattle.std.proofs.lemmas.Option.{get_or_from_slice_get, slice_get_within}
use Rattle.cil_model.specs.Blocks.{closes}
use Rattle.cil_model.specs.ClauseTrees.{closing}
use Rattle.cil_model.specs.ShortCode.{AreOfShortCode, IsOfShortCode, LieFrom}
use Rattle.cil_model.specs.Terms.{Term}
use Rattle.cil_model.specs.declared.clause.ClauseKind.{ClauseKind}
use Rattle.cil_model.specs.declared.instruction.Instr.{Instr}
use Rattle.cil_model.specs.declared.shape.Shape.{Shape}
use Rattle.cil_model.proofs.Lists.{all_append}
use Rattle.clause_faults.specs.ClauseLies.{LieInOrder, code_between}
use Rattle.clause_faults.specs.ClauseLies as lies
use Rattle.clause_faults.specs.Faults.{code_faults, comes_before, fault_at, fault_if, fault_rank, faults_in, faults_of, first_fault, limit_faults, with_clause}
use Rattle.clause_faults.specs.SharedStacks.{either}
use Rattle.clause_faults.specs.declared.clause_fault.ClauseFault.{ClauseFault}
use Rattle.clause_faults.specs.declared.clause_fault.ClauseFault.TheVariants.{NotPure, Backward, StackLeft, IntoBlock, OldForm, TooLong}
use Rattle.clause_faults.proofs.FaultLemmas.Earliest.{first_fault-append}
use Rattle.clause_faults.proofs.FaultLemmas.FaultRanges.{Between, faults_above, faults_of_at, first_has, lower_first, way_faults_between}
use Rattle.clause_faults.proofs.WayLemmas.Between.{from_drop}
use Rattle.contract_extract.specs.Extracting.{NoneCloses}
use Rattle.contract_extract.proofs.BlockLemmas.Segments.{clause_faults_with, segment}

-- ---- where the code lies

pub in_order : (from : ℕ) (is : List Instr) → LieFrom from is → AllByRecursion IsOfShortCode is → lies.LieFrom from is
in_order from [] lie each = tt
in_order from (i ∷ is) lie each = (lie.0, each.0.some, omega (arith, lie.0, each.0.end), in_order (from + i.size) is lie.1 each.1)

pub lie_in_order : (is : List Instr) → AreOfShortCode is → LieInOrder is
lie_in_order is short = record { lie = in_order 0 is short.lie short.each }

-- The code up to a call, the call and what follows it.
pub split_at : (is : List Instr) (first last : ℕ) (call : Instr) → first ≤ last → slice_get is last ≡ Some call → drop first is ≡ take (last - first) (drop first is) ++ call ∷ drop (last + 1) is
split_at is first last call le there =
    let sum : first + (last - first) ≡ last = omega (arith, le) in
    sym (take-append-drop (last - first) (drop first is))
    ∙ ap (λ rest. take (last - first) (drop first is) ++ rest)
    (drop-drop (last - first) first is ∙ ap (λ (n : ℕ). drop n is) sum ∙ drop_more is last call (slice_get_within is last call there) ∙ ap (λ c. c ∷ drop (last + 1) is) (get_or_from_slice_get is last call call there))

pub between_is : (is : List Instr) (first last : ℕ) (call : Instr) → first ≤ last → slice_get is last ≡ Some call → code_between is first last ≡ take (last - first) (drop first is) ++ call ∷ []
between_is is first last call le there =
    let code = take (last - first) (drop first is) in
    let inside = slice_get_within is last call there in
    let size : length code ≡ last - first = length-take-le (last - first) (drop first is) (omega (arith, inside, length-drop first is, le)) in
    let whole : length (code ++ call ∷ []) ≡ last + 1 - first = omega (arith, size, le, length-append code (call ∷ [])) in
    ap (take (last + 1 - first)) (split_at is first last call le there ∙ sym (append_assoc code (call ∷ []) (drop (last + 1) is)))
    ∙ take_at (code ++ call ∷ []) (drop (last + 1) is) (last + 1 - first) whole

-- ---- where the faults of a clause stand

starts_there : (start : ℕ) (rest : List Instr) (i : Instr) → LieFrom start rest → slice_get rest 0 ≡ Some i → i.at ≡ start
starts_there start [] i lie there = absurd (cc)
starts_there start (j ∷ rest) i lie there = let e : j ≡ i = cc in sym (ap (λ k. k.at) e) ∙ lie.0

pub first_of_drop : (is : List Instr) (first : ℕ) → slice_get (drop first is) 0 ≡ slice_get is first
first_of_drop is first = let e : first + 0 ≡ first = omega arith in sym (from_drop is first 0) ∙ ap (slice_get is) e

pub begins_there : (is : List Instr) (first start : ℕ) (i : Instr) → LieFrom start (drop first is) → slice_get is first ≡ Some i → i.at ≡ start
begins_there is first start i lie there = starts_there start (drop first is) i lie (first_of_drop is first ∙ there)

-- Code lies before the call after it.
below_call : (start : ℕ) (code : List Instr) (call : Instr) (rest : List Instr) → LieFrom start (code ++ call ∷ rest) → (start ≤ call.at) × AllByRecursion (λ i. i.at ≤ call.at) (code ++ call ∷ [])
below_call start [] call rest lie = (omega (arith, lie.0), (omega arith, tt))
below_call start (i ∷ code) call rest lie =
    let later = below_call (start + i.size) code call rest lie.1 in
    (omega (arith, later.0), (omega (arith, later.0, lie.0), later.1))

behind_call : (start : ℕ) (code : List Instr) (call : Instr) (rest : List Instr) → LieFrom start (code ++ call ∷ rest) → LieFrom (call.at + call.size) rest
behind_call start [] call rest lie = subst (λ n. LieFrom (n + call.size) rest) (sym lie.0) lie.1
behind_call start (i ∷ code) call rest lie = behind_call (start + i.size) code call rest lie.1

own_below : (is : List Instr) (shape : Shape) (start : ℕ) (call : Instr) (code : List Instr) → AllByRecursion (λ i. i.at ≤ call.at) code
    → AllByRecursion (λ f. fault_at f ≤ call.at) (flat_map (faults_of is shape start call) code)
own_below is shape start call [] all = tt
own_below is shape start call (i ∷ code) all =
    all_append (λ f. fault_at f ≤ call.at) (faults_of is shape start call i) _ (at_low i.at _ all.0 (faults_of_at is shape start call i)) (own_below is shape start call code all.1)
  where
    at_low : (at : ℕ) (faults : List ClauseFault) → at ≤ call.at → AllByRecursion (λ f. fault_at f ≡ at) faults → AllByRecursion (λ f. fault_at f ≤ call.at) faults
    at_low at [] le all = tt
    at_low at (f ∷ faults) le all = (omega (arith, le, all.0), at_low at faults le all.1)

between_below : (start high : ℕ) (faults : List ClauseFault) → AllByRecursion (λ f. Between start high (fault_at f)) faults → AllByRecursion (λ f. fault_at f ≤ high) faults
between_below start high [] all = tt
between_below start high (f ∷ faults) all = (all.0.1, between_below start high faults all.1)

code_below : (is : List Instr) (shape : Shape) (start : ℕ) (code : List Instr) (call : Instr) (rest : List Instr) → LieFrom start (code ++ call ∷ rest)
    → AllByRecursion (λ f. fault_at f ≤ call.at) (code_faults is shape start call (code ++ call ∷ []))
code_below is shape start code call rest lie =
    let places = below_call start code call rest lie in
    all_append (λ f. fault_at f ≤ call.at) (flat_map (faults_of is shape start call) (code ++ call ∷ [])) _ (own_below is shape start call (code ++ call ∷ []) places.1)
    (between_below start call.at _ (way_faults_between is shape start call places.0))

rank_at_most : (f : ClauseFault) → fault_rank f ≤ 6
rank_at_most (NotPure at) = omega arith
rank_at_most (Backward at) = omega arith
rank_at_most (StackLeft at) = omega arith
rank_at_most (IntoBlock at) = omega arith
rank_at_most (OldForm at) = omega arith
rank_at_most (TooLong at) = omega arith

not_before : (m n r : ℕ) → n ≤ m → r ≤ 6 → (nat_lt m n || (m == n && nat_lt 6 r)) ≡ false
not_before m n r l k = grind (arith, nat_tests)

-- A fault that is no higher than a call comes before the call's size.
before_size : (f : ClauseFault) (at : ℕ) (large : Bool) → fault_at f ≤ at → either (Some f) (first_fault (fault_if large (TooLong at))) ≡ Some f
before_size f at false le = refl
before_size f at true le =
    let no : comes_before (TooLong at) f ≡ false = not_before at (fault_at f) (fault_rank f) le (rank_at_most f) in
    rw no refl

-- ---- the first fault of all, by those of a clause

module _ (is : List Instr) (shape : Shape) (start : ℕ) (clauses : List (ClauseKind × Option Term)) (code : List Instr) (call : Instr) (rest : List Instr)
    (none : NoneCloses code) (closes_it : closes call.op ≡ true) (some : 0 < call.size) (lie : LieFrom start (code ++ call ∷ rest)) where
  Parts : Option ClauseFault
  Parts = either (either (first_fault (code_faults is shape start call (code ++ call ∷ []))) (first_fault (limit_faults is start clauses call)))
      (first_fault (faults_in is shape (call.at + call.size) (with_clause is start clauses (closing call.op)) rest))

  in_parts : first_fault (faults_in is shape start clauses (code ++ call ∷ rest)) ≡ Parts
  unfolding Parts
  in_parts =
      ap first_fault (segment is shape start clauses code call rest none closes_it)
      ∙ first_fault-append (clause_faults_with is shape start clauses code call) _
      ∙ ap (λ x. either x (first_fault (faults_in is shape (call.at + call.size) (with_clause is start clauses (closing call.op)) rest)))
      (first_fault-append (code_faults is shape start call (code ++ call ∷ [])) (limit_faults is start clauses call))

  later_above : AllByRecursion (λ g. call.at + call.size ≤ fault_at g) (faults_in is shape (call.at + call.size) (with_clause is start clauses (closing call.op)) rest)
  later_above = faults_above (call.at + call.size) is shape (call.at + call.size) (call.at + call.size) (with_clause is start clauses (closing call.op)) rest
      (behind_call start code call rest lie) (omega arith) (omega arith)

  -- A fault of the clause's code is the first of all.
  pub by_code : (f : ClauseFault) → first_fault (code_faults is shape start call (code ++ call ∷ [])) ≡ Some f → first_fault (faults_in is shape start clauses (code ++ call ∷ rest)) ≡ Some f
  unfolding Parts
  by_code f e =
      let low = first_has (λ g. fault_at g ≤ call.at) (code_faults is shape start call (code ++ call ∷ [])) (code_below is shape start code call rest lie) f e in
      in_parts ∙ ap (λ x. either (either x (first_fault (limit_faults is start clauses call))) (first_fault (faults_in is shape (call.at + call.size) (with_clause is start clauses (closing call.op)) rest))) e
      ∙ ap (λ x. either x (first_fault (faults_in is shape (call.at + call.size) (with_clause is start clauses (closing call.op)) rest))) (before_size f call.at _ low)
      ∙ lower_first f (call.at + call.size) _ (omega (arith, low, some)) later_above

  -- Where the code has none, its size is.
  pub by_size : first_fault (code_faults is shape start call (code ++ call ∷ [])) ≡ None → limit_faults is start clauses call ≡ TooLong call.at ∷ []
      → first_fault (faults_in is shape start clauses (code ++ call ∷ rest)) ≡ Some (TooLong call.at)
  unfolding Parts
  by_size clean large =
      in_parts ∙ ap (λ x. either (either x (first_fault (limit_faults is start clauses call))) (first_fault (faults_in is shape (call.at + call.size) (with_clause is start clauses (closing call.op)) rest))) clean
      ∙ ap (λ limit. either (first_fault limit) (first_fault (faults_in is shape (call.at + call.size) (with_clause is start clauses (closing call.op)) rest))) large
      ∙ lower_first (TooLong call.at) (call.at + call.size) _ (omega (arith, some)) later_above

  -- Where the clause has none, the rest goes on.
  pub by_rest : first_fault (code_faults is shape start call (code ++ call ∷ [])) ≡ None → limit_faults is start clauses call ≡ []
      → first_fault (faults_in is shape start clauses (code ++ call ∷ rest)) ≡ first_fault (faults_in is shape (call.at + call.size) (with_clause is start clauses (closing call.op)) rest)
  unfolding Parts
  by_rest clean small =
      in_parts ∙ ap (λ x. either (either x (first_fault (limit_faults is start clauses call))) (first_fault (faults_in is shape (call.at + call.size) (with_clause is start clauses (closing call.op)) rest))) clean
      ∙ ap (λ limit. either (first_fault limit) (first_fault (faults_in is shape (call.at + call.size) (with_clause is start clauses (closing call.op)) rest))) small

  pub lies_behind : LieFrom (call.at + call.size) rest
  lies_behind = behind_call start code call rest lie
