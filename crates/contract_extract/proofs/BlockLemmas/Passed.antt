-- The instructions of a method are passed one by one.
use Rattle.std.proofs.Common.{◌≡◌, ℕ, ◌+◌, ◌-◌, suc, true, false, List, [], ◌∷◌, ◌++◌, drop, take, slice_get, length, map, Some, refl, sym, ap, subst, ◌∙◌, append-nil, length-drop, arith}
use Rattle.std.specs.Prelude.{flat_map}
use Rattle.std.proofs.Math.Seq.{take-length, take-suc}
use Rattle.std.proofs.lemmas.Option.{get_or_from_slice_get, slice_get_within}
use Rattle.cil_model.specs.Blocks.{closes, start_of_body}
use Rattle.cil_model.specs.ShortCode.{AreOfShortCode}
use Rattle.cil_model.specs.WellFormed.{told_by_code}
use Rattle.cil_model.specs.declared.clause.Clause.{Clause}
use Rattle.cil_model.specs.declared.instruction.Instr.{Instr}
use Rattle.cil_model.specs.declared.shape.Shape.{Shape}
use Rattle.cil_model.proofs.Lists.{all_append}
use Rattle.clause_faults.specs.Faults.{body_faults, first_clause_fault, first_fault}
use Rattle.clause_faults.proofs.WayLemmas.Between.{from_drop}
use Rattle.contract_extract.specs.Extracting.{AreContracts, ArePassed, IsClosing, NoneCloses}
use Rattle.contract_extract.proofs.BlockLemmas.Segments.{body_left, body_starts, no_clauses_left}

-- ---- the first instruction, and one more

pub none_passed : (is : List Instr) (shape : Shape) → AreOfShortCode is → ArePassed is shape [] 0 0 0 0
none_passed is shape short = record {
  left = record {
    faults = refl;
    told = refl;
    body = refl;
    lies = short.lie;
    counted = refl;
    within = record { count = omega arith; nodes = tt; conditions = tt; old_values = omega arith };
  };
  order = omega arith;
  none = tt;
}

-- One more of a list is its next.
take_more : (n : ℕ) (xs : List Instr) (x : Instr) → slice_get xs n ≡ Some x → take (suc n) xs ≡ take n xs ++ x ∷ []
take_more n xs x there = take-suc xs n x (slice_get_within xs n x there) ∙ ap (λ y. take n xs ++ y ∷ []) (get_or_from_slice_get xs n x x there)

module _ (is : List Instr) (shape : Shape) (clauses : List Clause) (olds first start index : ℕ) (i : Instr)
    (passed : ArePassed is shape clauses olds first start index) (there : slice_get is index ≡ Some i) where
  pub passes_on : closes i.op ≡ false → ArePassed is shape clauses olds first start (index + 1)
  passes_on stays =
      let sum : first + (index - first) ≡ index = omega (arith, passed.order) in
      let here : slice_get (drop first is) (index - first) ≡ Some i = sym (from_drop is first (index - first)) ∙ ap (slice_get is) sum ∙ there in
      let more : suc (index - first) ≡ (index + 1) - first = omega (arith, passed.order) in
      record {
        left = passed.left;
        order = omega (arith, passed.order);
        none = subst (λ (n : ℕ). NoneCloses (take n (drop first is))) more
            (subst NoneCloses (sym (take_more (index - first) (drop first is) i here)) (all_append (λ j. closes j.op ≡ false) (take (index - first) (drop first is)) (i ∷ []) passed.none (stays, tt)));
      }

  pub is_closing : closes i.op ≡ true → IsClosing is first index
  is_closing closed = record { order = passed.order; call = i; there = there; closes_it = closed; none = passed.none }

-- ---- the last

module _ (is : List Instr) (shape : Shape) (clauses : List Clause) (olds first start : ℕ) (passed : ArePassed is shape clauses olds first start (length is)) where
  all_left : take (length is - first) (drop first is) ≡ drop first is
  all_left = ap (λ n. take n (drop first is)) (sym (length-drop first is)) ∙ take-length (drop first is)

  none_left : NoneCloses (drop first is)
  none_left = subst NoneCloses all_left passed.none

  starts : start_of_body is ≡ start
  starts = passed.left.body ∙ body_starts start (drop first is) none_left

  pub fault_left : first_clause_fault is shape ≡ first_fault (flat_map (body_faults start) (take (length is - first) (drop first is)))
  fault_left =
      passed.left.faults ∙ ap first_fault (body_left is shape start (map told_by_code clauses) (drop first is) none_left)
      ∙ ap (λ (n : ℕ). first_fault (flat_map (body_faults n) (drop first is))) starts
      ∙ ap (λ body. first_fault (flat_map (body_faults start) body)) (sym all_left)

  pub contracts_left : AreContracts is clauses start
  contracts_left = record {
    told = passed.left.told ∙ ap (λ more. map told_by_code clauses ++ more) (no_clauses_left is start (drop first is) none_left) ∙ append-nil (map told_by_code clauses);
    body = sym starts;
  }
