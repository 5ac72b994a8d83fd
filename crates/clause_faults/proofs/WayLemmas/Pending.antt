-- What is still to be found on the ways through a clause's code, when some instructions are passed.
use Rattle.std.proofs.Common.{◌≡◌, ℕ, suc, ◌+◌, ◌<◌, ◌==◌, Bool, true, false, List, [], ◌∷◌, ◌++◌, length, Option, Some, None, slice_get, refl, sym, ap, subst, cond, ◌∙◌, arith, inl, inr}
use Rattle.std.specs.Prelude.{nat_lt, ◌⊎◌}
use Rattle.std.specs.List.{AllByRecursion}
use Rattle.std.proofs.lemmas.Bool.{cases_eq, eqb-true, le-ltb, lt-ltb, and_parts, ltb-true}
use Rattle.cil_model.proofs.Lists.{all_append}
use Rattle.cil_model.specs.Offsets.{RiseFrom}
use Rattle.cil_model.specs.declared.instruction.Instr.{Instr}
use Rattle.cil_model.specs.declared.shape.Shape.{Shape}
use Rattle.clause_faults.specs.ClauseCodes.{goes_forward}
use Rattle.clause_faults.specs.Faults.{first_fault}
use Rattle.clause_faults.specs.PassedInstr.{AreGatheredAt, AreSent, AreSentTo, is_sent_to}
use Rattle.clause_faults.specs.SharedStacks.{AreGrounded, AreOrdered, IsGrounded, Stacks, arrivals_at, either, least, least_of, least_over}
use Rattle.clause_faults.specs.Ways.{faults_at}
use Rattle.clause_faults.specs.declared.ways.arrivals.Arrival.{Arrival}
use Rattle.clause_faults.specs.declared.ways.arrivals.Arrival.TheVariants.{Empty, Over}
use Rattle.clause_faults.specs.declared.clause_fault.ClauseFault.{ClauseFault}
use Rattle.clause_faults.proofs.FaultLemmas.Earliest.{either-assoc, either-both, either-comm, either-none, least-append, least-same}
use Rattle.clause_faults.proofs.WayLemmas.Standing.{Judge, all_grounded_higher, all_grounded_kept, least_over-kept, least_over-none, least_over-same}
use Rattle.clause_faults.proofs.WayLemmas.Walks.{no_walk_below, walk, walk_joins}

-- ---- stacks that stand well

-- The arrivals are over earlier instructions that are passed.
pub record StandWell (stacks : Stacks) (index : ℕ) : Type 0 where
  pub ordered : AreOrdered stacks
  pub below : (other : ℕ) → AreGrounded stacks index (arrivals_at stacks other)

module _ {X : Type 0} (P Q R : X → Type 0) where
  all-both : (xs : List X) → AllByRecursion P xs → AllByRecursion Q xs → ((x : X) → P x → Q x → R x) → AllByRecursion R xs
  all-both [] p q both = tt
  all-both (x ∷ xs) p q both = (both x p.0 q.0, all-both xs p.1 q.1 both)

grounded_both : (stacks others : Stacks) (m n : ℕ) (arrival : Arrival) → IsGrounded stacks m arrival → IsGrounded others n arrival → IsGrounded others m arrival
grounded_both stacks others m n Empty g h = tt
grounded_both stacks others m n (Over value below) g h = (g.0, h.1)

all_grounded_both : (stacks others : Stacks) (m n : ℕ) (arrivals : List Arrival) → AreGrounded stacks m arrivals → AreGrounded others n arrivals → AreGrounded others m arrivals
all_grounded_both stacks others m n arrivals g h =
    all-both (IsGrounded stacks m) (IsGrounded others n) (IsGrounded others m) arrivals g h (λ a x y. grounded_both stacks others m n a x y)

-- What stands well, and is the same below an index, stands well in other stacks.
kept_both : (stacks others : Stacks) (index m : ℕ) (arrivals : List Arrival) → ((k : ℕ) → k < index → arrivals_at others k ≡ arrivals_at stacks k)
    → AreGrounded stacks m arrivals → AreGrounded stacks index arrivals → AreGrounded others m arrivals
kept_both stacks others index m arrivals same g h = all_grounded_both stacks others m index arrivals g (all_grounded_kept stacks others index arrivals same h)

-- ---- what is pending

module _ (n : ℕ) (is : List Instr) (shape : Shape) (closing : Instr) where
  -- The judgement of the ways on from an IL offset, in the code that lies ahead.
  abbrev pub on_way : List Instr → ℕ → Judge
  on_way rest at stack = first_fault (walk is shape closing rest at stack)

  -- The first fault on the ways that come to these instructions, the first of which has this index.
  abbrev pub pending : Stacks → ℕ → List Instr → Option ClauseFault
  pending stacks index [] = None
  pending stacks index (i ∷ rest) = either (least_over (suc (suc n)) stacks (on_way (i ∷ rest) i.at) (arrivals_at stacks index)) (pending stacks (suc index) rest)

  -- ---- gathering

  gathered_rest : (index other : ℕ) (old new : Stacks) (rest : List Instr) → AreGatheredAt index old new → StandWell old index → index < other
      → pending new other rest ≡ pending old other rest
  gathered_rest index other old new [] gathered well behind = refl
  gathered_rest index other old new (i ∷ rest) gathered well behind =
      either-both
      (ap (least_over (suc (suc n)) new (on_way (i ∷ rest) i.at)) (gathered.others other (λ e. omega arith))
      ∙ least_over-kept old new index (suc (suc n)) (on_way (i ∷ rest) i.at) (arrivals_at old other) well.ordered (λ m h. gathered.others m (λ e. omega arith)) (well.below other))
      (gathered_rest index (suc other) old new rest gathered well (omega arith))

  pub gathered_pending : (index : ℕ) (old new : Stacks) (rest : List Instr) → AreGatheredAt index old new → StandWell old index
      → pending new index rest ≡ pending old index rest
  gathered_pending index old new [] gathered well = refl
  gathered_pending index old new (i ∷ rest) gathered well =
      either-both
      (least_over-kept old new index (suc (suc n)) (on_way (i ∷ rest) i.at) (arrivals_at new index) well.ordered (λ m h. gathered.others m (λ e. omega arith))
      (gathered.here.grounded old index (well.below index))
      ∙ gathered.here.same (suc (suc n)) old (on_way (i ∷ rest) i.at) (walk_joins is shape closing (i ∷ rest) i.at))
      (gathered_rest index (suc index) old new rest gathered well (omega arith))

  pub gathered_well : (index : ℕ) (old new : Stacks) → AreGatheredAt index old new → StandWell old index → StandWell new index
  gathered_well index old new gathered well =
      let same : (k : ℕ) → k < index → arrivals_at new k ≡ arrivals_at old k = λ k h. gathered.others k (λ e. omega arith) in
      record {
        ordered = λ other. by_case other (cases_eq other index) (λ m xs. kept_both old new index m xs same);
        below = λ other. by_place other (cases_eq other index) (λ xs. all_grounded_kept old new index xs same);
      }
    where
      by_place : (other : ℕ) → (other ≡ index) ⊎ (other ≡ index → ⊥) → ((xs : List Arrival) → AreGrounded old index xs → AreGrounded new index xs) → AreGrounded new index (arrivals_at new other)
      by_place other (inl e) keep = rw e (keep (arrivals_at new index) (gathered.here.grounded old index (well.below index)))
      by_place other (inr ne) keep = rw (gathered.others other ne) (keep (arrivals_at old other) (well.below other))

      by_case : (other : ℕ) → (other ≡ index) ⊎ (other ≡ index → ⊥)
          → ((m : ℕ) (xs : List Arrival) → AreGrounded old m xs → AreGrounded old index xs → AreGrounded new m xs) → AreGrounded new other (arrivals_at new other)
      by_case other (inl e) keep = rw e (let g = gathered.here.grounded old index (well.below index) in keep index (arrivals_at new index) g g)
      by_case other (inr ne) keep = rw (gathered.others other ne) (keep other (arrivals_at old other) (well.ordered other) (well.below other))

-- ---- sending

-- Code lies from an index on.
abbrev pub LiesAt : List Instr → ℕ → List Instr → Type 0
LiesAt code index rest = (d : ℕ) → slice_get code (index + d) ≡ slice_get rest d

pub lies_next : (code : List Instr) (index : ℕ) (i : Instr) (rest : List Instr) → LiesAt code index (i ∷ rest) → LiesAt code (suc index) rest
lies_next code index i rest lies d = let e : suc index + d ≡ index + suc d = omega arith in rw e (lies (suc d))

pub lies_here : (code : List Instr) (index : ℕ) (i : Instr) (rest : List Instr) → LiesAt code index (i ∷ rest) → slice_get code index ≡ Some i
lies_here code index i rest lies = let e : index ≡ index + 0 = omega arith in subst (λ (k : ℕ). slice_get code k ≡ Some i) (sym e) (lies 0)

module _ (code : List Instr) (index later : ℕ) (out : List Arrival) (old new : Stacks) (sent : AreSentTo code index later out old new) where
  pub sent_same : (m : ℕ) → m < suc index → arrivals_at new m ≡ arrivals_at old m
  sent_same m low =
      let test : nat_lt index m ≡ false = le-ltb index m (omega arith) in
      sent.come m ∙ rw test refl

  -- What comes to an instruction that lies after.
  sent_here : (other : ℕ) (i : Instr) → index < other → slice_get code other ≡ Some i
      → arrivals_at new other ≡ cond (i.at == later) (arrivals_at old other ++ out) (arrivals_at old other)
  sent_here other i behind is =
      let test : nat_lt index other ≡ true = lt-ltb index other behind in
      sent.come other ∙ rw (test, is) refl

  grown : (other : ℕ) → (arrivals_at new other ≡ arrivals_at old other) ⊎ ((index < other) × (arrivals_at new other ≡ arrivals_at old other ++ out))
  grown other = by (is_sent_to code index later other) refl
    where
      by : (test : Bool) → is_sent_to code index later other ≡ test → (arrivals_at new other ≡ arrivals_at old other) ⊎ ((index < other) × (arrivals_at new other ≡ arrivals_at old other ++ out))
      by true e = inr (ltb-true index other (and_parts (nat_lt index other) _ e).0, sent.come other ∙ ap (λ (t : Bool). cond t (arrivals_at old other ++ out) (arrivals_at old other)) e)
      by false e = inl (sent.come other ∙ ap (λ (t : Bool). cond t (arrivals_at old other ++ out) (arrivals_at old other)) e)

  pub sent_well : StandWell old (suc index) → AreGrounded old (suc index) out → StandWell new (suc index)
  sent_well well out_grounded = record {
    ordered = λ other. by_order other (grown other);
    below = λ other. by_place other (grown other);
  }
    where
      by_place : (other : ℕ) → (arrivals_at new other ≡ arrivals_at old other) ⊎ ((index < other) × (arrivals_at new other ≡ arrivals_at old other ++ out)) → AreGrounded new (suc index) (arrivals_at new other)
      by_place other (inl e) = rw e (all_grounded_kept old new (suc index) (arrivals_at old other) sent_same (well.below other))
      by_place other (inr (behind, e)) =
          rw e (all_grounded_kept old new (suc index) (arrivals_at old other ++ out) sent_same (all_append (IsGrounded old (suc index)) (arrivals_at old other) out (well.below other) out_grounded))

      by_order : (other : ℕ) → (arrivals_at new other ≡ arrivals_at old other) ⊎ ((index < other) × (arrivals_at new other ≡ arrivals_at old other ++ out)) → AreGrounded new other (arrivals_at new other)
      by_order other (inl e) = rw e (kept_both old new (suc index) other (arrivals_at old other) sent_same (well.ordered other) (well.below other))
      by_order other (inr (behind, e)) =
          rw e (kept_both old new (suc index) other (arrivals_at old other ++ out) sent_same
          (all_append (IsGrounded old other) (arrivals_at old other) out (well.ordered other) (all_grounded_higher old (suc index) other out (omega arith) out_grounded))
          (all_append (IsGrounded old (suc index)) (arrivals_at old other) out (well.below other) out_grounded))

pub out_kept : (code : List Instr) (index later : ℕ) (out : List Arrival) (old new : Stacks) → AreSentTo code index later out old new → AreGrounded old (suc index) out → AreGrounded new (suc index) out
out_kept code index later out old new sent all = all_grounded_kept old new (suc index) out (sent_same code index later out old new sent) all

module _ (n : ℕ) (is : List Instr) (shape : Shape) (closing : Instr) (code : List Instr) (index later : ℕ) (out : List Arrival) (old new : Stacks)
    (sent : AreSentTo code index later out old new) (well : StandWell old (suc index)) (out_grounded : AreGrounded old (suc index) out) where
  abbrev fault_of_out : List Instr → Option ClauseFault
  fault_of_out rest = least_over (suc (suc n)) old (on_way n is shape closing rest later) out

  -- The stacks of one instruction in the new stacks, judged in the old ones.
  in_old : (judge : Judge) (arrivals : List Arrival) → AreGrounded old (suc index) arrivals → least_over (suc (suc n)) new judge arrivals ≡ least_over (suc (suc n)) old judge arrivals
  in_old judge arrivals all = least_over-kept old new (suc index) (suc (suc n)) judge arrivals well.ordered (sent_same code index later out old new sent) all

  turned_in : (a o p : Option ClauseFault) → either (either a o) p ≡ either (either a p) o
  turned_in a o p = either-assoc a o p ∙ ap (either a) (either-comm o p) ∙ sym (either-assoc a p o)

  sent_first : (other : ℕ) (i : Instr) (rest : List Instr) (test : Bool) → (i.at == later) ≡ test → RiseFrom (suc i.at) rest
      → arrivals_at new other ≡ cond test (arrivals_at old other ++ out) (arrivals_at old other)
      → pending n is shape closing new (suc other) rest ≡ either (pending n is shape closing old (suc other) rest) (fault_of_out rest)
      → pending n is shape closing new other (i ∷ rest) ≡ either (pending n is shape closing old other (i ∷ rest)) (fault_of_out (i ∷ rest))
  sent_first other i rest false e rise here there =
      let judge : Judge = on_way n is shape closing (i ∷ rest) i.at in
      let same : fault_of_out (i ∷ rest) ≡ fault_of_out rest =
      least_over-same old (suc (suc n)) (on_way n is shape closing (i ∷ rest) later) (on_way n is shape closing rest later) out
      (λ stack. ap (λ (t : Bool). first_fault (cond t
      (faults_at (λ at behind. cond (goes_forward later at closing) (walk is shape closing rest at behind) []) is shape i stack) (walk is shape closing rest later stack))) e) in
      either-both (ap (least_over (suc (suc n)) new judge) here ∙ in_old judge (arrivals_at old other) (well.below other)) there
      ∙ sym (either-assoc (least_over (suc (suc n)) old judge (arrivals_at old other)) (pending n is shape closing old (suc other) rest) (fault_of_out rest))
      ∙ ap (either (pending n is shape closing old other (i ∷ rest))) (sym same)
  sent_first other i rest true e rise here there =
      let at : i.at ≡ later = eqb-true i.at later e in
      let judge : Judge = on_way n is shape closing (i ∷ rest) i.at in
      let on : Option ClauseFault = pending n is shape closing old (suc other) rest in
      let mine : Option ClauseFault = least_over (suc (suc n)) old judge (arrivals_at old other) in
      let nothing : fault_of_out rest ≡ None =
      least_over-same old (suc (suc n)) (on_way n is shape closing rest later) (λ stack. None) out
      (λ stack. ap first_fault (no_walk_below is shape closing (suc i.at) later rest stack rise (omega arith)))
      ∙ least_over-none old (suc (suc n)) out in
      let theirs : least_over (suc (suc n)) old judge out ≡ fault_of_out (i ∷ rest) = ap (λ (k : ℕ). least_over (suc (suc n)) old (on_way n is shape closing (i ∷ rest) k) out) at in
      either-both
      (ap (least_over (suc (suc n)) new judge) here
      ∙ in_old judge (arrivals_at old other ++ out) (all_append (IsGrounded old (suc index)) (arrivals_at old other) out (well.below other) out_grounded)
      ∙ least-append (λ a. least_of (suc (suc n)) old judge a) (arrivals_at old other) out ∙ ap (either mine) theirs)
      (there ∙ ap (either on) nothing ∙ either-none on)
      ∙ turned_in mine (fault_of_out (i ∷ rest)) on

  pub sent_pending : (other : ℕ) (rest : List Instr) (low : ℕ) → index < other → LiesAt code other rest → RiseFrom low rest
      → pending n is shape closing new other rest ≡ either (pending n is shape closing old other rest) (fault_of_out rest)
  sent_pending other [] low behind lies rise = sym (least_over-none old (suc (suc n)) out)
  sent_pending other (i ∷ rest) low behind lies rise =
      sent_first other i rest (i.at == later) refl rise.1
      (sent_here code index later out old new sent other i behind (lies_here code other i rest lies))
      (sent_pending (suc other) rest (suc i.at) (omega arith) (lies_next code other i rest lies) rise.1)

-- To all ways.
module _ (n : ℕ) (is : List Instr) (shape : Shape) (closing : Instr) (code : List Instr) (index : ℕ) (out : List Arrival) (rest : List Instr) (low : ℕ)
    (lies : LiesAt code (suc index) rest) (rise : RiseFrom low rest) where
  abbrev pub faults_on : Stacks → List ℕ → Option ClauseFault
  faults_on stacks ways = least (λ later. least_over (suc (suc n)) stacks (on_way n is shape closing rest later) out) ways

  pub all_sent_pending : (ways : List ℕ) (old new : Stacks) → AreSent code index ways out old new → StandWell old (suc index) → AreGrounded old (suc index) out
      → pending n is shape closing new (suc index) rest ≡ either (pending n is shape closing old (suc index) rest) (faults_on old ways)
  all_sent_pending [] old new sent well grounded = rw sent (sym (either-none (pending n is shape closing old (suc index) rest)))
  all_sent_pending (later ∷ ways) old new (mid, one, others) well grounded =
      let first = least_over (suc (suc n)) old (on_way n is shape closing rest later) out in
      let mid_grounded = out_kept code index later out old mid one grounded in
      all_sent_pending ways mid new others (sent_well code index later out old mid one well grounded) mid_grounded
      ∙ either-both (sent_pending n is shape closing code index later out old mid one well grounded (suc index) rest low (omega arith) lies rise)
      (least-same (λ at. least_over (suc (suc n)) mid (on_way n is shape closing rest at) out) (λ at. least_over (suc (suc n)) old (on_way n is shape closing rest at) out) ways
      (λ at. least_over-kept old mid (suc index) (suc (suc n)) (on_way n is shape closing rest at) out well.ordered (sent_same code index later out old mid one) grounded))
      ∙ either-assoc (pending n is shape closing old (suc index) rest) first (faults_on old ways)

pub all_sent_well : (code : List Instr) (index : ℕ) (out : List Arrival) (ways : List ℕ) (old new : Stacks) → AreSent code index ways out old new → StandWell old (suc index)
    → AreGrounded old (suc index) out → StandWell new (suc index)
all_sent_well code index out [] old new sent well grounded = subst (λ (stacks : Stacks). StandWell stacks (suc index)) (sym sent) well
all_sent_well code index out (later ∷ ways) old new (mid, one, others) well grounded =
    all_sent_well code index out ways mid new others (sent_well code index later out old mid one well grounded) (out_kept code index later out old mid one grounded)

pub all_sent_length : (code : List Instr) (index : ℕ) (out : List Arrival) (ways : List ℕ) (old new : Stacks) → AreSent code index ways out old new → length new ≡ length old
all_sent_length code index out [] old new sent = ap length sent
all_sent_length code index out (later ∷ ways) old new (mid, one, others) = all_sent_length code index out ways mid new others ∙ one.lengths
