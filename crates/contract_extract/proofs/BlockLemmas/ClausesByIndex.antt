-- The code of a clause by the indexes of its first and its last instruction.
use Rattle.std.proofs.Common.{◌≡◌, ℕ, zero, suc, ◌+◌, ◌-◌, ◌<◌, ◌≤◌, ◌==◌, Bool, true, false, ◌||◌, List, [], ◌∷◌, take, drop, Some, None, IsSome, if◌then◌else◌, slice_get, slice_range, refl, sym, ap, subst, ◌∙◌, arith, inl, inr}
use Rattle.std.specs.List.{AllByRecursion, flat_map}
use Rattle.std.proofs.lemmas.Bool.{cases_lt}
use Rattle.std.proofs.lemmas.Option.{none-some, same_Some}
use Rattle.cil_model.specs.Blocks.{branch_targets, closes}
use Rattle.cil_model.specs.ClauseTrees.{closing, tree_of}
use Rattle.cil_model.specs.Code.{begins_at}
use Rattle.cil_model.specs.Runs.{instr_at}
use Rattle.cil_model.specs.declared.clause.ClauseKind.{ClauseKind}
use Rattle.cil_model.specs.declared.instruction.Instr.{Instr}
use Rattle.cil_model.specs.declared.shape.Shape.{Shape}
use Rattle.cil_model.specs.ShortCode.{AreOfShortCode}
use Rattle.clause_faults.specs.Faults.{code_faults, faults_of, first_fault}
use Rattle.clause_faults.specs.Ways.{way_faults}
use Rattle.clause_faults.proofs.FaultLemmas.NoFaults.{no_first, none_in_both, none_of_each}
use Rattle.contract_extract.proofs.TreeLemmas.HasTree.{IsClause, clause_has_tree}
use Rattle.contract_extract.proofs.BlockLemmas.SliceFound.{in_order, slice_found}

-- The instructions from the one index to the other are the code of a clause, the last its closing call, with no fault.
pub record HasNoFault (is : List Instr) (shape : Shape) (first last : ℕ) (i call : Instr) : Type 0 where
  pub first_is : slice_get is first ≡ Some i
  pub last_is : slice_get is last ≡ Some call
  pub order : first ≤ last
  pub kind : ClauseKind
  pub message : Bool
  pub closes_it : closing call.op ≡ Some (kind, message)
  pub others_stay : (k : ℕ) (j : Instr) → first ≤ k → k < last → slice_get is k ≡ Some j → closes j.op ≡ false
  pub no_fault : first_fault (code_faults is shape i.at call (slice_range is first (last + 1))) ≡ None

found_begins : (is : List Instr) (at : ℕ) (j : Instr) → instr_at is at ≡ Some j → begins_at is at ≡ true
found_begins [] at j e = absurd (none-some j e)
found_begins (i ∷ is) at j e = by (i.at == at) (found_begins is at j) e
  where
    by : (here : Bool) → (instr_at is at ≡ Some j → begins_at is at ≡ true) → (if here then Some i else instr_at is at) ≡ Some j → (here || begins_at is at) ≡ true
    by true rest e = refl
    by false rest e = rest e

index_found : (is : List Instr) (at : ℕ) (j : Instr) → instr_at is at ≡ Some j → (k : ℕ) × (slice_get is k ≡ Some j)
index_found [] at j e = absurd (none-some j e)
index_found (i ∷ is) at j e = by (i.at == at) (index_found is at j) e
  where
    by : (here : Bool) → (instr_at is at ≡ Some j → (k : ℕ) × (slice_get is k ≡ Some j)) → (if here then Some i else instr_at is at) ≡ Some j
        → (k : ℕ) × (slice_get (i ∷ is) k ≡ Some j)
    by true rest e = (0, e)
    by false rest e = let (k, there) = rest e in (suc k, there)

of_range : {X : Type 0} (P : X → Type 0) (xs : List X) (first n k : ℕ) (x : X) → AllByRecursion P (take n (drop first xs)) → slice_get xs k ≡ Some x
    → first ≤ k → k < first + n → P x
of_range P [] first n k x all e low high = absurd cc
of_range P (y ∷ xs) zero zero k x all e low high = absurd (omega (arith, high))
of_range P (y ∷ xs) zero (suc n) zero x all e low high = subst P (same_Some y x e) all.0
of_range P (y ∷ xs) zero (suc n) (suc k) x all e low high = of_range P xs zero n k x all.1 e (omega arith) (omega (arith, high))
of_range P (y ∷ xs) (suc first) n zero x all e low high = absurd (omega (arith, low))
of_range P (y ∷ xs) (suc first) n (suc k) x all e low high = of_range P xs first n k x all e (omega (arith, low)) (omega (arith, high))

module _ (is : List Instr) (shape : Shape) (first last : ℕ) (i call : Instr) (short : AreOfShortCode is)
    (targets : AllByRecursion (λ j. AllByRecursion (λ at. begins_at is at ≡ true) (branch_targets j.op)) is) (clean : HasNoFault is shape first last i call) where
  -- Nothing is wrong on the ways, nor with an instruction.
  none_wrong : (flat_map (faults_of is shape i.at call) (slice_range is first (last + 1)) ≡ []) × (way_faults is shape i.at call ≡ [])
  none_wrong =
      none_in_both (flat_map (faults_of is shape i.at call) (slice_range is first (last + 1))) (way_faults is shape i.at call)
      (no_first (code_faults is shape i.at call (slice_range is first (last + 1))) clean.no_fault)

  pub no_way_faults : way_faults is shape i.at call ≡ []
  no_way_faults = none_wrong.1

  -- An instruction from the first one's offset on and below the call's has an index between theirs.
  record Among (j : Instr) : Type 0 where
    index : ℕ
    there : slice_get is index ≡ Some j
    low : first ≤ index
    high : index < last

  among : (j : Instr) → instr_at is j.at ≡ Some j → i.at ≤ j.at → j.at < call.at → Among j
  among j found above below =
      let (k, there) = index_found is j.at j found in
      elim (cases_lt k last) [
        | inl high ↦
            elim (cases_lt k first) [
              | inl low ↦ absurd (let up : j.at < i.at = in_order is k first j i short low there clean.first_is in omega (arith, up, above))
              | inr low ↦ record { index = k; there = there; low = low; high = high }
            ]
        | inr high ↦ absurd (reaches k there high)
      ]
    where
      reaches : (k : ℕ) → slice_get is k ≡ Some j → last ≤ k → ⊥
      reaches k there high = elim (cases_lt last k) [
        | inl more ↦ (let up : call.at < j.at = in_order is last k call j short more clean.last_is there in omega (arith, up, below))
        | inr same ↦
            let e : k ≡ last = omega (arith, same, high) in
            let one : j ≡ call = same_Some j call (sym there ∙ ap (slice_get is) e ∙ clean.last_is) in
            let at : j.at ≡ call.at = ap (λ (x : Instr). x.at) one in omega (arith, at, below)
      ]

  right_there : (j : Instr) → instr_at is j.at ≡ Some j → i.at ≤ j.at → j.at < call.at → faults_of is shape i.at call j ≡ []
  right_there j found above below =
      let place = among j found above below in
      of_range (λ x. faults_of is shape i.at call x ≡ []) is first ((last + 1) - first) place.index j
      (none_of_each (faults_of is shape i.at call) (slice_range is first (last + 1)) none_wrong.0) place.there place.low
      (let up = place.high in omega (arith, up, clean.order))

  pub is_clause : IsClause is shape i.at call
  is_clause = record {
    short = short;
    targets = targets;
    kind = clean.kind;
    message = clean.message;
    closes_it = clean.closes_it;
    there = slice_found is last call short clean.last_is;
    others_stay = λ j found above below. let place = among j found above below in clean.others_stay place.index j place.low place.high place.there;
    right = right_there;
  }

  pub first_inside : i.at ≤ call.at
  first_inside = elim (cases_lt first last) [
    | inl more ↦ (let up = in_order is first last i call short more clean.first_is clean.last_is in omega (arith, up))
    | inr same ↦
        let e : first ≡ last = omega (arith, same, clean.order) in
        let one : i ≡ call = same_Some i call (sym clean.first_is ∙ ap (slice_get is) e ∙ clean.last_is) in
        let at : i.at ≡ call.at = ap (λ (x : Instr). x.at) one in omega (arith, at)
  ]

  -- It has a tree.
  pub has_tree : IsSome (tree_of is i.at)
  has_tree =
      clause_has_tree is shape i.at call is_clause (found_begins is i.at i (slice_found is first i short clean.first_is)) first_inside no_way_faults
