-- What is made after an instruction stands for the stacks there.
use Rattle.std.proofs.Common.{◌≡◌, ℕ, suc, ◌<◌, Bool, true, false, not, ◌&&◌, List, [], ◌∷◌, length, Option, Some, None, refl, sym, ap, subst, cond, ◌∙◌, arith}
use Rattle.std.specs.List.{flat_map}
use Rattle.cil_model.specs.UnitCalls.{unit_call}
use Rattle.cil_model.specs.declared.instruction.Instr.{Instr}
use Rattle.cil_model.specs.declared.instruction.Op.{Op}
use Rattle.cil_model.specs.declared.instruction.Op.TheVariants as ops
use Rattle.cil_model.specs.declared.instruction.Test.TheVariants as tests
use Rattle.cil_model.specs.declared.place.Place.{Place}
use Rattle.cil_model.specs.declared.shape.Shape.{Shape}
use Rattle.cil_model.specs.declared.unit_numbers.UnitCall.{UnitCall}
use Rattle.cil_model.specs.declared.unit_numbers.UnitCall.TheVariants as calls
use Rattle.clause_faults.specs.GatheredStacks.{StandForSame}
use Rattle.clause_faults.specs.PassedInstr.{IsHome, IsRestOfGathered, StandBehind, StandFor, behind_arrivals, behind_call, is_comparing, other_arrivals, passed_arrivals, pushed}
use Rattle.clause_faults.specs.PureCode.{is_pure}
use Rattle.cil_model.specs.Blocks.{closes}
use Rattle.clause_faults.specs.SharedStacks.{AreGrounded, AreOrdered, Stacks, arrivals_at, either, least, least_of, least_over, made_seen, rest_of, told_of}
use Rattle.clause_faults.specs.declared.ways.arrivals.Arrival.{Arrival}
use Rattle.clause_faults.proofs.WayLemmas.Moves.{below_joins, below_top, one_grounded, rest_grounded, rests_judged, two_grounded}
use Rattle.clause_faults.proofs.WayLemmas.Standing.{all_grounded_higher}

module _ (shape : Shape) (i : Instr) (stacks : Stacks) (index : ℕ) where
  abbrev tops : List Arrival
  tops = arrivals_at stacks index

  pushed_grounded : (list : List Arrival) → list ≡ arrivals_at stacks index → AreGrounded stacks (suc index) (pushed shape.args i index list)
  pushed_grounded [] are = tt
  pushed_grounded (top ∷ list) are = ((omega arith, some), tt)
    where
      some : 0 < length (arrivals_at stacks index)
      some = subst (λ (xs : List Arrival). 0 < length xs) are (omega arith)

  module _ (ordered : AreOrdered stacks) where
    higher : AreGrounded stacks (suc index) tops
    higher = all_grounded_higher stacks index (suc index) tops (omega arith) (ordered index)

    call_grounded : (call : Option UnitCall) → AreGrounded stacks (suc index) (behind_call shape.args i call index tops)
    call_grounded (Some (calls.OldValue place)) = one_grounded stacks ordered 0 shape i tops (suc index) higher
    call_grounded _ = pushed_grounded tops refl

    other_grounded : (op : Op) → AreGrounded stacks (suc index) (other_arrivals shape.args i op stacks index tops)
    other_grounded ops.Nop = higher
    other_grounded (ops.Branch tests.Always target) = higher
    other_grounded (ops.Branch test target) = rest_grounded stacks ordered 0 shape i tops (suc index) higher
    other_grounded (ops.Bin operator) = two_grounded stacks ordered 0 shape i tops (suc index) higher
    other_grounded (ops.LoadElem place) = two_grounded stacks ordered 0 shape i tops (suc index) higher
    other_grounded ops.Neg = one_grounded stacks ordered 0 shape i tops (suc index) higher
    other_grounded ops.Not = one_grounded stacks ordered 0 shape i tops (suc index) higher
    other_grounded ops.ConvI4 = one_grounded stacks ordered 0 shape i tops (suc index) higher
    other_grounded ops.Length = one_grounded stacks ordered 0 shape i tops (suc index) higher
    other_grounded (ops.Call number) = call_grounded (unit_call number)
    other_grounded _ = pushed_grounded tops refl

  pub compared_stands : (out : List Arrival) → is_comparing i.op ≡ true → IsRestOfGathered stacks tops out
      → StandFor stacks index (behind_arrivals shape.args i i.op stacks index tops) out
  compared_stands out comparing made =
      let expected : behind_arrivals shape.args i i.op stacks index tops ≡ flat_map (rest_of stacks) (flat_map (rest_of stacks) tops) = rw comparing refl in
      let pairs = flat_map (rest_of stacks) tops in
      record {
        same = λ n low ordered fault joins.
            (let all : AreGrounded stacks (suc n) pairs =
            rest_grounded stacks ordered 0 shape i tops (suc n) (all_grounded_higher stacks index (suc n) tops low (ordered index)) in
            ap (least_over (suc (suc n)) stacks fault) made.rest
            ∙ sym (rests_judged stacks ordered n fault made.seconds (made.gathered.grounded stacks (suc n) all))
            ∙ made.gathered.same (suc (suc n)) stacks (below_top fault) (below_joins fault joins)
            ∙ rests_judged stacks ordered n fault pairs all ∙ ap (least_over (suc (suc n)) stacks fault) (sym expected));
        grounded = λ ordered.
            (subst (AreGrounded stacks (suc index)) (sym made.rest)
            (rest_grounded stacks ordered 0 shape i made.seconds (suc index)
            (made.gathered.grounded stacks (suc index) (rest_grounded stacks ordered 0 shape i tops (suc index) (higher ordered)))));
      }

-- A value that is put over another instruction, to which the same stacks come.
module _ (shape : Shape) (i : Instr) (stacks : Stacks) (index home : ℕ) (is_home : IsHome stacks index home) where
  abbrev come : List Arrival
  come = arrivals_at stacks index

  stands_itself : (list : List Arrival) → (AreOrdered stacks → AreGrounded stacks (suc index) list) → StandFor stacks index list list
  stands_itself list grounded = record { same = λ n low ordered fault joins. refl; grounded = grounded }

  pushed_home : (list : List Arrival) → list ≡ come → StandFor stacks index (pushed shape.args i index list) (pushed shape.args i home list)
  pushed_home [] are = stands_itself [] (λ ordered. tt)
  pushed_home (top ∷ list) are = record {
    same = λ n low ordered fault joins.
        ap (λ (xs : List Arrival). either (least (λ arrival. least_of (suc n) stacks (λ stack. fault (told_of (made_seen shape.args i []) ∷ stack)) arrival) xs) None) is_home.same;
    grounded = λ ordered. ((low_home, some), tt);
  }
    where
      low_home : home < suc index
      low_home = (let x = is_home.most in omega (arith, x))

      some : 0 < length (arrivals_at stacks home)
      some = subst (λ (xs : List Arrival). 0 < length xs) (are ∙ sym is_home.same) (omega arith)

  call_home : (call : Option UnitCall) → StandFor stacks index (behind_call shape.args i call index come) (behind_call shape.args i call home come)
  call_home (Some (calls.OldValue place)) = stands_itself _ (λ ordered. call_grounded shape i stacks index ordered (Some (calls.OldValue place)))
  call_home _ = pushed_home come refl

  other_home : (op : Op) → StandFor stacks index (other_arrivals shape.args i op stacks index come) (other_arrivals shape.args i op stacks home come)
  other_home ops.Nop = stands_itself _ (λ ordered. other_grounded shape i stacks index ordered ops.Nop)
  other_home (ops.Branch tests.Always target) = stands_itself _ (λ ordered. other_grounded shape i stacks index ordered (ops.Branch tests.Always target))
  other_home (ops.Branch test target) = stands_itself _ (λ ordered. other_grounded shape i stacks index ordered (ops.Branch test target))
  other_home (ops.Bin operator) = stands_itself _ (λ ordered. other_grounded shape i stacks index ordered (ops.Bin operator))
  other_home (ops.LoadElem place) = stands_itself _ (λ ordered. other_grounded shape i stacks index ordered (ops.LoadElem place))
  other_home ops.Neg = stands_itself _ (λ ordered. other_grounded shape i stacks index ordered ops.Neg)
  other_home ops.Not = stands_itself _ (λ ordered. other_grounded shape i stacks index ordered ops.Not)
  other_home ops.ConvI4 = stands_itself _ (λ ordered. other_grounded shape i stacks index ordered ops.ConvI4)
  other_home ops.Length = stands_itself _ (λ ordered. other_grounded shape i stacks index ordered ops.Length)
  other_home (ops.Call number) = call_home (unit_call number)
  other_home _ = pushed_home come refl

  pub other_stands : (out : List Arrival) → is_comparing i.op ≡ false → out ≡ other_arrivals shape.args i i.op stacks home come
      → StandFor stacks index (behind_arrivals shape.args i i.op stacks index come) out
  other_stands out comparing are =
      let expected : other_arrivals shape.args i i.op stacks index come ≡ behind_arrivals shape.args i i.op stacks index come = rw comparing refl in
      subst (λ (xs : List Arrival). StandFor stacks index xs out) expected
      (subst (λ (xs : List Arrival). StandFor stacks index (other_arrivals shape.args i i.op stacks index come) xs) (sym are) (other_home i.op))

-- As the code reads the arguments and the tops.
module _ (shape : Shape) (i : Instr) (stacks : Stacks) (index : ℕ) (args : List Place) (read : List Arrival) (args_are : args ≡ shape.args) (are : read ≡ arrivals_at stacks index) where
  pub other_read : (home : ℕ) (out : List Arrival) → IsHome stacks index home → is_comparing i.op ≡ false → out ≡ other_arrivals args i i.op stacks home read
      → StandFor stacks index (behind_arrivals shape.args i i.op stacks index (arrivals_at stacks index)) out
  other_read home out is_home comparing made =
      other_stands shape i stacks index home is_home out comparing
      (made ∙ ap (λ (places : List Place). other_arrivals places i i.op stacks home read) args_are ∙ ap (λ (xs : List Arrival). other_arrivals shape.args i i.op stacks home xs) are)

  pub compared_read : (out : List Arrival) → is_comparing i.op ≡ true → IsRestOfGathered stacks read out
      → StandFor stacks index (behind_arrivals shape.args i i.op stacks index (arrivals_at stacks index)) out
  compared_read out comparing made =
      compared_stands shape i stacks index out comparing (subst (λ (xs : List Arrival). IsRestOfGathered stacks xs out) are made)

passed_is : (closing pure : Bool) (behind : List Arrival) → cond (not closing && pure) behind [] ≡ cond closing [] (cond (not pure) [] behind)
passed_is true pure behind = refl
passed_is false true behind = refl
passed_is false false behind = refl

pub behind_read : (is : List Instr) (shape : Shape) (i : Instr) (stacks : Stacks) (index : ℕ) (goes : Bool) (out read : List Arrival) → goes ≡ (not (closes i.op) && is_pure is i) → read ≡ out
    → StandFor stacks index (cond goes (behind_arrivals shape.args i i.op stacks index (arrivals_at stacks index)) []) out → StandBehind is shape i stacks index read
behind_read is shape i stacks index goes out read goes_is are stand =
    let behind = behind_arrivals shape.args i i.op stacks index (arrivals_at stacks index) in
    let same : cond goes behind [] ≡ passed_arrivals is shape i stacks index (arrivals_at stacks index) = ap (λ (t : Bool). cond t behind []) goes_is ∙ passed_is (closes i.op) (is_pure is i) behind in
    subst (λ (xs : List Arrival). StandFor stacks index (passed_arrivals is shape i stacks index (arrivals_at stacks index)) xs) (sym are)
    (subst (λ (xs : List Arrival). StandFor stacks index xs out) same stand)

-- Gathered they stand for the same.
pub gathered_stands : (stacks : Stacks) (index : ℕ) (expected out read gathered : List Arrival) → read ≡ out → StandFor stacks index expected out → StandForSame read gathered
    → StandFor stacks index expected gathered
gathered_stands stacks index expected out read gathered are stand same = record {
  same = λ n low ordered fault joins.
      (same.same (suc (suc n)) stacks fault joins ∙ ap (least_over (suc (suc n)) stacks fault) are ∙ stand.same n low ordered fault joins);
  grounded = λ ordered. same.grounded stacks (suc index) (subst (AreGrounded stacks (suc index)) (sym are) (stand.grounded ordered));
}
