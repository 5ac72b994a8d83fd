-- A clause's code before its first instruction is passed, and after its last one.
use Rattle.std.proofs.Common.{◌≡◌, ℕ, zero, suc, ◌+◌, ◌-◌, ◌<◌, ◌≤◌, List, [], ◌∷◌, ◌++◌, length, drop, replicate, get_or, Option, Some, None, option_map, slice_get, refl, sym, ap, subst, ◌∙◌, arith, add-one}
use Rattle.std.specs.List.{flat_map}
use Rattle.std.proofs.lemmas.List.{length-replicate}
use Rattle.std.proofs.lemmas.Option.{slice_get-get_or, none-some, same_Some}
use Rattle.cil_model.proofs.Lists.{all_drop}
use Rattle.cil_model.specs.Offsets.{RiseFrom}
use Rattle.cil_model.specs.declared.instruction.Instr.{Instr}
use Rattle.cil_model.specs.declared.shape.Shape.{Shape}
use Rattle.clause_faults.specs.ClauseLies.{IsClauseIn, LiesFrom}
use Rattle.clause_faults.specs.Faults.{code_faults, faults_of, first_fault}
use Rattle.clause_faults.specs.PassedInstr.{IsPassed}
use Rattle.clause_faults.specs.SharedStacks.{AreGrounded, Stacks, arrivals_at, either, least, least_over}
use Rattle.clause_faults.specs.Ways.{way_faults}
use Rattle.clause_faults.specs.declared.ways.arrivals.Arrival.{Arrival}
use Rattle.clause_faults.specs.declared.ways.arrivals.Arrival.TheVariants.{Empty}
use Rattle.clause_faults.specs.declared.clause_fault.ClauseFault.{ClauseFault}
use Rattle.clause_faults.proofs.FaultLemmas.Earliest.{either-both, either-none, first_fault-append, first_fault-flat_map}
use Rattle.clause_faults.proofs.WayLemmas.Lying.{rise_drop}
use Rattle.clause_faults.proofs.WayLemmas.Passing.{EndBy, IsUnderWay, own, pass_one}
use Rattle.clause_faults.proofs.WayLemmas.Pending.{LiesAt, StandWell, on_way, pending}
use Rattle.clause_faults.proofs.WayLemmas.Walks.{walk, walk_is}

-- ---- the whole

abbrev pub first_stacks_of : ℕ → Stacks
first_stacks_of count = (Empty ∷ []) ∷ replicate (count - 1) []

nothing_there : (count k : ℕ) → arrivals_at (replicate count []) k ≡ []
nothing_there zero k = refl
nothing_there (suc count) zero = refl
nothing_there (suc count) (suc k) = nothing_there count k

length_first : (count : ℕ) → 0 < count → length (first_stacks_of count) ≡ count
length_first count some =
    let nothing : List Arrival = [] in
    omega (arith, length-replicate (count - 1) nothing)

first_well : (count : ℕ) → StandWell (first_stacks_of count) 0
first_well count = record { ordered = by; below = by_zero }
  where
    by : (index : ℕ) → AreGrounded (first_stacks_of count) index (arrivals_at (first_stacks_of count) index)
    by zero = (tt, tt)
    by (suc k) = rw (nothing_there (count - 1) k) tt

    by_zero : (other : ℕ) → AreGrounded (first_stacks_of count) 0 (arrivals_at (first_stacks_of count) other)
    by_zero zero = (tt, tt)
    by_zero (suc k) = rw (nothing_there (count - 1) k) tt

module _ (n : ℕ) (is : List Instr) (shape : Shape) (closing : Instr) where
  nothing_pending : (count index : ℕ) (rest : List Instr) → pending n is shape closing (first_stacks_of count) (suc index) rest ≡ None
  nothing_pending count index [] = refl
  nothing_pending count index (i ∷ rest) =
      either-both
      (ap (least_over (suc (suc n)) (first_stacks_of count) (on_way n is shape closing (i ∷ rest) i.at)) (nothing_there (count - 1) index))
      (nothing_pending count (suc index) rest)

  first_pending : (count start : ℕ) (code : List Instr) → option_map (λ i. i.at) (slice_get code 0) ≡ Some start
      → pending n is shape closing (first_stacks_of count) 0 code ≡ first_fault (walk is shape closing code start [])
  first_pending count start [] begins = absurd (none-some start begins)
  first_pending count start (i ∷ rest) begins =
      let at : i.at ≡ start = same_Some i.at start begins in
      ap (either (either (first_fault (walk is shape closing (i ∷ rest) i.at [])) None)) (nothing_pending count 0 rest)
      ∙ either-none (either (first_fault (walk is shape closing (i ∷ rest) i.at [])) None)
      ∙ either-none (first_fault (walk is shape closing (i ∷ rest) i.at []))
      ∙ ap (λ (k : ℕ). first_fault (walk is shape closing (i ∷ rest) k [])) at

rise_at_start : (start : ℕ) (code : List Instr) → RiseFrom 0 code → option_map (λ i. i.at) (slice_get code 0) ≡ Some start → RiseFrom start code
rise_at_start start [] rise begins = tt
rise_at_start start (i ∷ rest) rise begins = let at : i.at ≡ start = same_Some i.at start begins in (omega arith, rise.1)

-- The ways are those of the code that lies ahead.
ways_are : (is : List Instr) (shape : Shape) (first start : ℕ) (closing : Instr) (code : List Instr) → IsClauseIn is first start closing code
    → way_faults is shape start closing ≡ walk is shape closing code start []
ways_are is shape first start closing code clause =
    walk_is is shape closing (length is) code start start [] (rise_at_start start code clause.lies.rise clause.begins) clause.few (omega arith) clause.within clause.has

pub begun : (n : ℕ) (is : List Instr) (shape : Shape) (first start : ℕ) (closing : Instr) (code : List Instr) (stacks : Stacks) → IsClauseIn is first start closing code
    → stacks ≡ first_stacks_of (length code)
    → IsUnderWay n is shape closing code start (first_fault (code_faults is shape start closing code)) 0 code None stacks
begun n is shape first start closing code stacks clause are =
    let whole : first_fault (code_faults is shape start closing code) ≡ either (least (own n is shape closing code start) code) (first_fault (walk is shape closing code start [])) =
    first_fault-append (flat_map (faults_of is shape start closing) code) (way_faults is shape start closing)
    ∙ either-both (first_fault-flat_map (faults_of is shape start closing) code) (ap first_fault (ways_are is shape first start closing code clause)) in
    record {
      lengths = ap length are ∙ length_first (length code) (some code clause.begins);
      well = subst (λ (s : Stacks). StandWell s 0) (sym are) (first_well (length code));
      sum = ap (either (least (own n is shape closing code start) code))
          (ap (λ (s : Stacks). pending n is shape closing s 0 code) are ∙ first_pending n is shape closing (length code) start code clause.begins)
          ∙ sym whole;
    }
  where
    some : (code : List Instr) → option_map (λ i. i.at) (slice_get code 0) ≡ Some start → 0 < length code
    some [] begins = absurd (none-some start begins)
    some (i ∷ rest) begins = omega arith

pub ended : (n : ℕ) (is : List Instr) (shape : Shape) (closing : Instr) (code : List Instr) (start index : ℕ) (whole found : Option ClauseFault) (stacks : Stacks)
    → IsUnderWay n is shape closing code start whole index [] found stacks → found ≡ whole
ended n is shape closing code start index whole found stacks under_way = sym (either-none found) ∙ under_way.sum

-- ---- the instructions between

drop_split : (code : List Instr) (k : ℕ) (d : Instr) → k < length code → drop k code ≡ get_or code k d ∷ drop (suc k) code
drop_split [] k d within = absurd (omega arith)
drop_split (i ∷ code) zero d within = refl
drop_split (i ∷ code) (suc k) d within = drop_split code k d (omega arith)

lies_behind : (code : List Instr) (k : ℕ) → LiesAt code k (drop k code)
lies_behind code zero d = let e : 0 + d ≡ d = omega arith in rw e refl
lies_behind [] (suc k) d = refl
lies_behind (i ∷ code) (suc k) d = let e : suc k + d ≡ suc (k + d) = omega arith in rw e (lies_behind code k d)

pub next_passed : (is : List Instr) (shape : Shape) (first start : ℕ) (closing : Instr) (code : List Instr) → IsClauseIn is first start closing code
    → (k : ℕ) (d : Instr) → k < length code → (whole so_far found : Option ClauseFault) (old new : Stacks)
    → IsPassed is shape start closing code k (get_or code k d) old new found
    → IsUnderWay (length code) is shape closing code start whole k (drop k code) so_far old
    → IsUnderWay (length code) is shape closing code start whole (k + 1) (drop (k + 1) code) (either so_far found) new
next_passed is shape first start closing code clause k d within whole so_far found old new passed under_way =
    let i = get_or code k d in
    let rest = drop (suc k) code in
    let parts : drop k code ≡ i ∷ rest = drop_split code k d within in
    let rise : RiseFrom 0 (i ∷ rest) = subst (RiseFrom 0) parts (rise_drop k 0 code clause.lies.rise) in
    let ends : EndBy closing.at (i ∷ rest) = subst (EndBy closing.at) parts (all_drop (λ j. j.at ≤ closing.at) k code clause.ends) in
    let before = subst (λ (xs : List Instr). IsUnderWay (length code) is shape closing code start whole k xs so_far old) parts under_way in
    rw add-one
    (pass_one (length code) is shape closing code start whole k i rest old new so_far found passed (omega arith) rise.1 ends.1 (lies_behind code (suc k)) before)

pub all_passed : (is : List Instr) (shape : Shape) (start : ℕ) (closing : Instr) (code : List Instr) (k : ℕ) (whole found : Option ClauseFault) (stacks : Stacks) → length code ≤ k
    → IsUnderWay (length code) is shape closing code start whole k (drop k code) found stacks → found ≡ whole
all_passed is shape start closing code k whole found stacks past under_way =
    ended (length code) is shape closing code start k whole found stacks
    (subst (λ (xs : List Instr). IsUnderWay (length code) is shape closing code start whole k xs found stacks) (drop_all code k past) under_way)
  where
    drop_all : (code : List Instr) (k : ℕ) → length code ≤ k → drop k code ≡ []
    drop_all [] zero past = refl
    drop_all [] (suc k) past = refl
    drop_all (i ∷ code) zero past = absurd (omega arith)
    drop_all (i ∷ code) (suc k) past = drop_all code k (omega arith)

pub there_too : (is : List Instr) (first : ℕ) (code : List Instr) (k : ℕ) (d : Instr) → LiesFrom is first code → k < length code → slice_get is (first + k) ≡ Some (get_or code k d)
there_too is first code k d lies within = lies.there k within ∙ slice_get-get_or code k d within

pub next_found : (is : List Instr) (shape : Shape) (first start : ℕ) (closing : Instr) (code : List Instr) → IsClauseIn is first start closing code
    → (k : ℕ) (d : Instr) → k < length code → (whole so_far found both : Option ClauseFault) (old new : Stacks)
    → IsPassed is shape start closing code k (get_or code k d) old new found → both ≡ either so_far found
    → IsUnderWay (length code) is shape closing code start whole k (drop k code) so_far old
    → IsUnderWay (length code) is shape closing code start whole (k + 1) (drop (k + 1) code) both new
next_found is shape first start closing code clause k d within whole so_far found both old new passed is_both under_way =
    subst (λ (f : Option ClauseFault). IsUnderWay (length code) is shape closing code start whole (k + 1) (drop (k + 1) code) f new) (sym is_both)
    (next_passed is shape first start closing code clause k d within whole so_far found old new passed under_way)

repeated : (count : ℕ) (nothing : List Arrival) → replicate count nothing ++ nothing ∷ [] ≡ replicate (suc count) nothing
repeated zero nothing = refl
repeated (suc count) nothing = ap (λ (xs : Stacks). nothing ∷ xs) (repeated count nothing)

-- One more instruction to which nothing comes.
pub one_more_empty : (count : ℕ) (stacks new : Stacks) (nothing : List Arrival) → stacks ≡ (Empty ∷ []) ∷ replicate count [] → nothing ≡ [] → new ≡ stacks ++ nothing ∷ []
    → new ≡ (Empty ∷ []) ∷ replicate (count + 1) []
one_more_empty count stacks new nothing are none more =
    more ∙ ap (λ (xs : List Arrival). stacks ++ xs ∷ []) none ∙ ap (λ (xs : Stacks). xs ++ [] ∷ []) are ∙ rw add-one (ap (λ (xs : Stacks). (Empty ∷ []) ∷ xs) (repeated count []))
