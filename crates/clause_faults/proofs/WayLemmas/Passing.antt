-- A clause's code that is passed instruction by instruction: what was found so far, and what is pending, is the whole.
use Rattle.std.proofs.Common.{◌≡◌, ℕ, suc, ◌+◌, ◌<◌, ◌≤◌, ◌==◌, Bool, true, false, List, [], ◌∷◌, length, Option, refl, sym, ap, cond, ◌∙◌, arith, inl, inr}
use Rattle.std.specs.Prelude.{nat_lt, nat_le, ◌⊎◌}
use Rattle.std.specs.List.{AllByRecursion}
use Rattle.std.proofs.lemmas.Bool.{and_cases, eq-eqb, ne_eqb, ltb-false, leb-false}
use Rattle.cil_model.specs.Offsets.{RiseFrom}
use Rattle.cil_model.specs.declared.instruction.Instr.{Instr}
use Rattle.cil_model.specs.declared.shape.Shape.{Shape}
use Rattle.clause_faults.specs.ClauseCodes.{goes_forward}
use Rattle.clause_faults.specs.Faults.{faults_of, first_fault}
use Rattle.clause_faults.specs.PassedInstr.{IsPassed, arrived_fault, passed_arrivals}
use Rattle.clause_faults.specs.SharedStacks.{Stacks, arrivals_at, either, least, least_over}
use Rattle.clause_faults.specs.Ways.{Told, faults_at, ways_behind}
use Rattle.clause_faults.specs.declared.clause_fault.ClauseFault.{ClauseFault}
use Rattle.clause_faults.proofs.WayLemmas.Arriving.{arrived_judged}
use Rattle.clause_faults.proofs.FaultLemmas.Earliest.{either-assoc, either-both, either-comm, either-turn, least-same}
use Rattle.clause_faults.proofs.WayLemmas.Pending.{LiesAt, StandWell, all_sent_length, all_sent_pending, all_sent_well, gathered_pending, gathered_well, on_way, pending}
use Rattle.clause_faults.proofs.WayLemmas.Standing.{all_grounded_higher, least_over-same}
use Rattle.clause_faults.proofs.WayLemmas.Walks.{ahead, ahead_joins, no_walk_below, walk}

-- Above the offsets there is nothing.
abbrev pub EndBy : ℕ → List Instr → Type 0
EndBy high rest = AllByRecursion (λ i. i.at ≤ high) rest

no_walk_above : (is : List Instr) (shape : Shape) (closing : Instr) (high at : ℕ) (rest : List Instr) (stack : List Told) → EndBy high rest → high < at
    → walk is shape closing rest at stack ≡ []
no_walk_above is shape closing high at [] stack low above = refl
no_walk_above is shape closing high at (i ∷ rest) stack low above =
    let h = low.0 in
    let test : (i.at == at) ≡ false = ne_eqb i.at at (λ e. omega arith) in
    rw test (no_walk_above is shape closing high at rest stack low.1 above)

-- A way that goes on so comes to an instruction that lies ahead, and only such a way.
ahead_is : (is : List Instr) (shape : Shape) (closing : Instr) (at later : ℕ) (rest : List Instr) (stack : List Told) → RiseFrom (suc at) rest → EndBy closing.at rest
    → ahead is shape closing at rest later stack ≡ walk is shape closing rest later stack
ahead_is is shape closing at later rest stack rise ends = by (goes_forward at later closing) refl
  where
    nothing : (nat_lt at later ≡ false) ⊎ (nat_le later closing.at ≡ false) → walk is shape closing rest later stack ≡ []
    nothing (inl e) = let low = ltb-false at later e in no_walk_below is shape closing (suc at) later rest stack rise (omega arith)
    nothing (inr e) = no_walk_above is shape closing closing.at later rest stack ends (leb-false later closing.at e)

    by : (test : Bool) → goes_forward at later closing ≡ test → cond test (walk is shape closing rest later stack) [] ≡ walk is shape closing rest later stack
    by true e = refl
    by false e = sym (nothing (and_cases (nat_lt at later) (nat_le later closing.at) e))

well_next : (stacks : Stacks) (index : ℕ) → StandWell stacks index → StandWell stacks (suc index)
well_next stacks index well = record {
  ordered = well.ordered;
  below = λ other. all_grounded_higher stacks index (suc index) (arrivals_at stacks other) (omega arith) (well.below other);
}

regrouped : (f s o a l p : Option ClauseFault) → either f (either (either s o) (either (either a l) p)) ≡ either (either f (either s a)) (either o (either p l))
regrouped f s o a l p =
    ap (either f) (ap (either (either s o)) (either-assoc a l p ∙ ap (either a) (either-comm l p)) ∙ either-turn s o a (either p l))
    ∙ sym (either-assoc f (either s a) (either o (either p l)))

module _ (n : ℕ) (is : List Instr) (shape : Shape) (closing : Instr) (code : List Instr) (start : ℕ) where
  -- The first fault of an instruction by itself.
  abbrev pub own : Instr → Option ClauseFault
  own i = first_fault (faults_of is shape start closing i)

  -- The code from an index on is still to be passed, and what was found is the first of the whole with what is not.
  pub record IsUnderWay (whole : Option ClauseFault) (index : ℕ) (rest : List Instr) (found : Option ClauseFault) (stacks : Stacks) : Type 0 where
    pub lengths : length stacks ≡ length code
    pub well : StandWell stacks index
    pub sum : either found (either (least own rest) (pending n is shape closing stacks index rest)) ≡ whole

  here_judged : (index low : ℕ) (i : Instr) (rest : List Instr) (old new : Stacks) (found : Option ClauseFault) (passed : IsPassed is shape start closing code index i old new found)
      → index ≤ suc n → RiseFrom (suc i.at) rest → EndBy closing.at rest → StandWell passed.mid index
      → least_over (suc (suc n)) passed.mid (on_way n is shape closing (i ∷ rest) i.at) (arrivals_at passed.mid index)
      ≡ either (arrived_fault is shape i passed.mid (arrivals_at passed.mid index))
      (least (λ later. least_over (suc (suc n)) passed.mid (on_way n is shape closing rest later) passed.out) (ways_behind i.op (i.at + i.size)))
  here_judged index low i rest old new found passed inside rise ends well =
      let mid = passed.mid in
      let tops = arrivals_at mid index in
      let from = ahead is shape closing i.at rest in
      let at : (i.at == i.at) ≡ true = eq-eqb i.at i.at refl in
      least_over-same mid (suc (suc n)) (on_way n is shape closing (i ∷ rest) i.at) (λ stack. first_fault (faults_at from is shape i stack)) tops
      (λ stack. ap (λ (t : Bool). first_fault (cond t (faults_at from is shape i stack) (walk is shape closing rest i.at stack))) at)
      ∙ arrived_judged mid well.ordered n is shape i from (ahead_joins is shape closing i.at rest) index inside tops refl
      ∙ ap (either (arrived_fault is shape i mid tops))
      (least-same (λ later. least_over (suc (suc n)) mid (λ stack. first_fault (from later stack)) (passed_arrivals is shape i mid index tops))
      (λ later. least_over (suc (suc n)) mid (on_way n is shape closing rest later) passed.out) (ways_behind i.op (i.at + i.size))
      (λ later. sym (passed.behind.same n inside well.ordered (λ stack. first_fault (from later stack)) (ahead_joins is shape closing i.at rest later))
      ∙ least_over-same mid (suc (suc n)) (λ stack. first_fault (from later stack)) (on_way n is shape closing rest later) passed.out
      (λ stack. ap first_fault (ahead_is is shape closing i.at later rest stack rise ends))))

  pub pass_one : (whole : Option ClauseFault) (index : ℕ) (i : Instr) (rest : List Instr) (old new : Stacks) (so_far found : Option ClauseFault)
      → IsPassed is shape start closing code index i old new found → index ≤ suc n → RiseFrom (suc i.at) rest → EndBy closing.at rest → LiesAt code (suc index) rest
      → IsUnderWay whole index (i ∷ rest) so_far old → IsUnderWay whole (suc index) rest (either so_far found) new
  pass_one whole index i rest old new so_far found passed inside rise ends lies under_way =
      let mid = passed.mid in
      let ways = ways_behind i.op (i.at + i.size) in
      let mid_well = gathered_well n is shape closing index old mid passed.gathered under_way.well in
      let next_well = well_next mid index mid_well in
      let out_grounded = passed.behind.grounded mid_well.ordered in
      let arrived = arrived_fault is shape i mid (arrivals_at mid index) in
      let on = least (λ later. least_over (suc (suc n)) mid (on_way n is shape closing rest later) passed.out) ways in
      let later = pending n is shape closing mid (suc index) rest in
      let before : pending n is shape closing old index (i ∷ rest) ≡ either (either arrived on) later =
      sym (gathered_pending n is shape closing index old mid (i ∷ rest) passed.gathered under_way.well)
      ∙ ap (λ v. either v later) (here_judged index 0 i rest old new found passed inside rise ends mid_well) in
      let behind : pending n is shape closing new (suc index) rest ≡ either later on =
      all_sent_pending n is shape closing code index passed.out rest (suc i.at) lies rise ways mid new passed.sent next_well out_grounded in
      record {
        lengths = all_sent_length code index passed.out ways mid new passed.sent ∙ passed.gathered.lengths ∙ under_way.lengths;
        well = all_sent_well code index passed.out ways mid new passed.sent next_well out_grounded;
        sum = either-both (ap (either so_far) passed.faults) (ap (either (least own rest)) behind)
            ∙ sym (ap (either so_far) (ap (either (either (own i) (least own rest))) before) ∙ regrouped so_far (own i) (least own rest) arrived on later)
            ∙ under_way.sum;
      }
