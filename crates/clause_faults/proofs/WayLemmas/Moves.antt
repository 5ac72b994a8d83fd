-- The stacks after an instruction are those for which the arrivals after it stand.
use Rattle.std.proofs.Common.{◌≡◌, ℕ, suc, ◌≤◌, Bool, true, false, List, [], ◌∷◌, length, take, drop, Option, Some, None, refl, sym, ap, cond, ◌∙◌, arith}
use Rattle.std.specs.Prelude.{nat_lt}
use Rattle.std.specs.List.{flat_map}
use Rattle.std.proofs.lemmas.Bool.{le-ltb}
use Rattle.cil_model.proofs.Lists.{all_append}
use Rattle.cil_model.specs.Blocks.{closes, is_closing_call}
use Rattle.cil_model.specs.Kinds.{call_operands, operand_count}
use Rattle.cil_model.specs.UnitCalls.{unit_call}
use Rattle.cil_model.specs.declared.instruction.Instr.{Instr}
use Rattle.cil_model.specs.declared.instruction.Op.{Op}
use Rattle.cil_model.specs.declared.instruction.Op.TheVariants as ops
use Rattle.cil_model.specs.declared.instruction.Test.TheVariants as tests
use Rattle.cil_model.specs.declared.shape.Shape.{Shape}
use Rattle.cil_model.specs.declared.unit_numbers.UnitCall.{UnitCall}
use Rattle.cil_model.specs.declared.unit_numbers.UnitCall.TheVariants as calls
use Rattle.clause_faults.specs.JoinedStacks.{IsJoining}
use Rattle.clause_faults.specs.PassedInstr.{behind_arrivals, behind_call, pushed}
use Rattle.clause_faults.specs.PureCode.{is_clause_call, is_pure_before}
use Rattle.clause_faults.specs.SharedStacks.{AreGrounded, AreOrdered, IsGrounded, Stacks, arrivals_at, least_of, least_over, made_seen, rest_of, told_of, with_one, with_second, with_two}
use Rattle.clause_faults.specs.Ways.{Told, made, stack_behind}
use Rattle.clause_faults.specs.declared.ways.arrivals.Arrival.{Arrival}
use Rattle.clause_faults.specs.declared.ways.arrivals.Arrival.TheVariants.{Empty, Over}
use Rattle.clause_faults.specs.declared.ways.arrivals.Seen.{Seen}
use Rattle.clause_faults.specs.declared.clause_fault.ClauseFault.{ClauseFault}
use Rattle.clause_faults.proofs.FaultLemmas.Earliest.{either-none, least-flat_map, least-same}
use Rattle.clause_faults.proofs.WayLemmas.Standing.{Judge, all_grounded_higher, grounded_higher, least-same_all, least_over-more, least_over-same, made_same}

-- The judgement of the rest, where there is a top.
abbrev pub below_top : Judge → Judge
below_top fault [] = None
below_top fault (top ∷ stack) = fault stack

pub below_joins : (fault : Judge) → IsJoining fault → IsJoining (below_top fault)
below_joins fault joins [] [] [] j = refl
below_joins fault joins (x ∷ a) (y ∷ b) (z ∷ c) j = joins a b c j.1
below_joins fault joins [] [] (z ∷ c) j = absurd j
below_joins fault joins [] (y ∷ b) c j = absurd j
below_joins fault joins (x ∷ a) [] c j = absurd j
below_joins fault joins (x ∷ a) (y ∷ b) [] j = absurd j

-- Where so many values are there.
abbrev pub where_there : ℕ → Judge → Judge
where_there count fault stack = cond (nat_lt (length stack) count) None (fault stack)

abbrev pub Behind : Shape → Instr → Op → Judge → Judge
Behind shape i op fault = where_there (operand_count shape op) (λ stack. fault (stack_behind shape i op stack))

enough : (count n : ℕ) → count ≤ n → (fault : Option ClauseFault) → cond (nat_lt n count) None fault ≡ fault
enough count n le fault = let test : nat_lt n count ≡ false = le-ltb n count le in rw test refl

module _ (stacks : Stacks) (ordered : AreOrdered stacks) (n : ℕ) where
  -- What lies below the tops.
  rest_judged : (fault : Judge) (top : Arrival) → IsGrounded stacks (suc n) top
      → least_of (suc (suc n)) stacks (below_top fault) top ≡ least_over (suc (suc n)) stacks fault (rest_of stacks top)
  rest_judged fault Empty g = refl
  rest_judged fault (Over value below) g =
      sym (least_over-more stacks ordered (suc n) below fault (arrivals_at stacks below) (let h = g.0 in omega arith) (ordered below))

  pub rests_judged : (fault : Judge) (tops : List Arrival) → AreGrounded stacks (suc n) tops
      → least_over (suc (suc n)) stacks (below_top fault) tops ≡ least_over (suc (suc n)) stacks fault (flat_map (rest_of stacks) tops)
  rests_judged fault tops all =
      least-same_all (IsGrounded stacks (suc n)) (λ a. least_of (suc (suc n)) stacks (below_top fault) a) (λ a. least_over (suc (suc n)) stacks fault (rest_of stacks a)) tops all
      (λ a g. rest_judged fault a g)
      ∙ sym (least-flat_map (λ a. least_of (suc (suc n)) stacks fault a) (rest_of stacks) tops)

  module _ (shape : Shape) (i : Instr) where
    -- One operand.
    one_judged : (fault : Judge) → IsJoining fault → (top : Arrival)
        → least_of (suc (suc n)) stacks (where_there 1 (λ stack. fault (made shape i (take 1 stack) ∷ drop 1 stack))) top
        ≡ least_over (suc (suc n)) stacks fault (with_one shape.args i top)
    one_judged fault joins Empty = refl
    one_judged fault joins (Over a below) =
        least_over-same stacks (suc n) (λ stack. where_there 1 (λ stack. fault (made shape i (take 1 stack) ∷ drop 1 stack)) (told_of a ∷ stack))
        (λ stack. fault (told_of (made_seen shape.args i (a ∷ [])) ∷ stack)) (arrivals_at stacks below)
        (λ stack. enough 1 (length (told_of a ∷ stack)) (omega arith) (fault (made shape i (told_of a ∷ []) ∷ stack)) ∙ sym (made_same fault shape i (a ∷ []) stack joins))
        ∙ sym (either-none (least_of (suc (suc n)) stacks fault (Over (made_seen shape.args i (a ∷ [])) below)))

    pub ones_judged : (fault : Judge) → IsJoining fault → (tops : List Arrival)
        → least_over (suc (suc n)) stacks (where_there 1 (λ stack. fault (made shape i (take 1 stack) ∷ drop 1 stack))) tops
        ≡ least_over (suc (suc n)) stacks fault (flat_map (with_one shape.args i) tops)
    ones_judged fault joins tops =
        least-same (λ a. least_of (suc (suc n)) stacks (where_there 1 (λ stack. fault (made shape i (take 1 stack) ∷ drop 1 stack))) a)
        (λ a. least_over (suc (suc n)) stacks fault (with_one shape.args i a)) tops (λ a. one_judged fault joins a)
        ∙ sym (least-flat_map (λ a. least_of (suc (suc n)) stacks fault a) (with_one shape.args i) tops)

    -- Two operands.
    second_judged : (fault : Judge) → IsJoining fault → (b : Seen) (second : Arrival) → IsGrounded stacks (suc n) second
        → least_of (suc n) stacks (λ stack. where_there 2 (λ stack. fault (made shape i (take 2 stack) ∷ drop 2 stack)) (told_of b ∷ stack)) second
        ≡ least_over (suc (suc n)) stacks fault (with_second shape.args i b second)
    second_judged fault joins b Empty g = refl
    second_judged fault joins b (Over a below) g =
        least_over-same stacks n (λ stack. where_there 2 (λ stack. fault (made shape i (take 2 stack) ∷ drop 2 stack)) (told_of b ∷ told_of a ∷ stack))
        (λ stack. fault (told_of (made_seen shape.args i (b ∷ a ∷ [])) ∷ stack)) (arrivals_at stacks below)
        (λ stack. enough 2 (length (told_of b ∷ told_of a ∷ stack)) (omega arith) (fault (made shape i (told_of b ∷ told_of a ∷ []) ∷ stack))
        ∙ sym (made_same fault shape i (b ∷ a ∷ []) stack joins))
        ∙ sym (least_over-more stacks ordered n below (λ stack. fault (told_of (made_seen shape.args i (b ∷ a ∷ [])) ∷ stack)) (arrivals_at stacks below) (let h = g.0 in omega arith) (ordered below))
        ∙ sym (either-none (least_of (suc (suc n)) stacks fault (Over (made_seen shape.args i (b ∷ a ∷ [])) below)))

    two_judged : (fault : Judge) → IsJoining fault → (top : Arrival) → IsGrounded stacks (suc n) top
        → least_of (suc (suc n)) stacks (where_there 2 (λ stack. fault (made shape i (take 2 stack) ∷ drop 2 stack))) top
        ≡ least_over (suc (suc n)) stacks fault (with_two shape.args i stacks top)
    two_judged fault joins Empty g = refl
    two_judged fault joins (Over b below) g =
        least-same_all (IsGrounded stacks below)
        (λ a. least_of (suc n) stacks (λ stack. where_there 2 (λ stack. fault (made shape i (take 2 stack) ∷ drop 2 stack)) (told_of b ∷ stack)) a)
        (λ a. least_over (suc (suc n)) stacks fault (with_second shape.args i b a)) (arrivals_at stacks below) (ordered below)
        (λ a h. second_judged fault joins b a (grounded_higher stacks below (suc n) a (let k = g.0 in omega arith) h))
        ∙ sym (least-flat_map (λ a. least_of (suc (suc n)) stacks fault a) (with_second shape.args i b) (arrivals_at stacks below))

    pub twos_judged : (fault : Judge) → IsJoining fault → (tops : List Arrival) → AreGrounded stacks (suc n) tops
        → least_over (suc (suc n)) stacks (where_there 2 (λ stack. fault (made shape i (take 2 stack) ∷ drop 2 stack))) tops
        ≡ least_over (suc (suc n)) stacks fault (flat_map (with_two shape.args i stacks) tops)
    twos_judged fault joins tops all =
        least-same_all (IsGrounded stacks (suc n)) (λ a. least_of (suc (suc n)) stacks (where_there 2 (λ stack. fault (made shape i (take 2 stack) ∷ drop 2 stack))) a)
        (λ a. least_over (suc (suc n)) stacks fault (with_two shape.args i stacks a)) tops all (λ a g. two_judged fault joins a g)
        ∙ sym (least-flat_map (λ a. least_of (suc (suc n)) stacks fault a) (with_two shape.args i stacks) tops)

    -- None: a value is pushed.
    pushed_judged : (fault : Judge) → IsJoining fault → (index : ℕ) → index ≤ suc n → (tops : List Arrival) → tops ≡ arrivals_at stacks index
        → least_over (suc (suc n)) stacks (where_there 0 (λ stack. fault (made shape i (take 0 stack) ∷ drop 0 stack))) tops
        ≡ least_over (suc (suc n)) stacks fault (pushed shape.args i index tops)
    pushed_judged fault joins index low [] are = refl
    pushed_judged fault joins index low (top ∷ tops) are =
        let on : Judge = λ stack. fault (told_of (made_seen shape.args i []) ∷ stack) in
        least_over-same stacks (suc (suc n)) (where_there 0 (λ stack. fault (made shape i (take 0 stack) ∷ drop 0 stack))) on (top ∷ tops)
        (λ stack. enough 0 (length stack) (omega arith) (fault (made shape i [] ∷ stack)) ∙ sym (made_same fault shape i [] stack joins))
        ∙ ap (least_over (suc (suc n)) stacks on) are
        ∙ least_over-more stacks ordered (suc n) index on (arrivals_at stacks index) low (ordered index)
        ∙ sym (either-none (least_of (suc (suc n)) stacks fault (Over (made_seen shape.args i []) index)))

    -- The tops of two operands are over what comes further below.
    second_grounded : (b : Seen) (seconds : List Arrival) (index : ℕ) → AreGrounded stacks index seconds → AreGrounded stacks index (flat_map (with_second shape.args i b) seconds)
    second_grounded b [] index all = tt
    second_grounded b (Empty ∷ seconds) index all = second_grounded b seconds index all.1
    second_grounded b (Over a below ∷ seconds) index all = (all.0, second_grounded b seconds index all.1)

    pub one_grounded : (tops : List Arrival) (index : ℕ) → AreGrounded stacks index tops → AreGrounded stacks index (flat_map (with_one shape.args i) tops)
    one_grounded [] index all = tt
    one_grounded (Empty ∷ tops) index all = one_grounded tops index all.1
    one_grounded (Over a below ∷ tops) index all = (all.0, one_grounded tops index all.1)

    pub two_grounded : (tops : List Arrival) (index : ℕ) → AreGrounded stacks index tops → AreGrounded stacks index (flat_map (with_two shape.args i stacks) tops)
    two_grounded [] index all = tt
    two_grounded (Empty ∷ tops) index all = two_grounded tops index all.1
    two_grounded (Over b below ∷ tops) index all =
        all_append (IsGrounded stacks index) (flat_map (with_second shape.args i b) (arrivals_at stacks below)) (flat_map (with_two shape.args i stacks) tops)
        (second_grounded b (arrivals_at stacks below) index
        (all_grounded_higher stacks below index (arrivals_at stacks below) (let h = all.0.0 in omega arith) (ordered below)))
        (two_grounded tops index all.1)

    pub rest_grounded : (tops : List Arrival) (index : ℕ) → AreGrounded stacks index tops → AreGrounded stacks index (flat_map (rest_of stacks) tops)
    rest_grounded [] index all = tt
    rest_grounded (Empty ∷ tops) index all = rest_grounded tops index all.1
    rest_grounded (Over b below ∷ tops) index all =
        all_append (IsGrounded stacks index) (arrivals_at stacks below) (flat_map (rest_of stacks) tops)
        (all_grounded_higher stacks below index (arrivals_at stacks below) (let h = all.0.0 in omega arith) (ordered below)) (rest_grounded tops index all.1)

    -- A branch takes its operands and leaves the rest.
    kept_judged : (fault : Judge) (tops : List Arrival) → least_over (suc (suc n)) stacks (where_there 0 fault) tops ≡ least_over (suc (suc n)) stacks fault tops
    kept_judged fault tops = least_over-same stacks (suc (suc n)) (where_there 0 fault) fault tops (λ stack. enough 0 (length stack) (omega arith) (fault stack))

    below_one : (fault : Judge) (stack : List Told) → where_there 1 (λ stack. fault (drop 1 stack)) stack ≡ below_top fault stack
    below_one fault [] = refl
    below_one fault (x ∷ stack) = enough 1 (length (x ∷ stack)) (omega arith) (fault stack)

    branch_one : (fault : Judge) (tops : List Arrival) → AreGrounded stacks (suc n) tops
        → least_over (suc (suc n)) stacks (where_there 1 (λ stack. fault (drop 1 stack))) tops ≡ least_over (suc (suc n)) stacks fault (flat_map (rest_of stacks) tops)
    branch_one fault tops all =
        least_over-same stacks (suc (suc n)) (where_there 1 (λ stack. fault (drop 1 stack))) (below_top fault) tops (below_one fault) ∙ rests_judged fault tops all

    below_two : (fault : Judge) (stack : List Told) → where_there 2 (λ stack. fault (drop 2 stack)) stack ≡ below_top (below_top fault) stack
    below_two fault [] = refl
    below_two fault (x ∷ []) = refl
    below_two fault (x ∷ y ∷ stack) = enough 2 (length (x ∷ y ∷ stack)) (omega arith) (fault stack)

    branch_two : (fault : Judge) (tops : List Arrival) → AreGrounded stacks (suc n) tops
        → least_over (suc (suc n)) stacks (where_there 2 (λ stack. fault (drop 2 stack))) tops
        ≡ least_over (suc (suc n)) stacks fault (flat_map (rest_of stacks) (flat_map (rest_of stacks) tops))
    branch_two fault tops all =
        least_over-same stacks (suc (suc n)) (where_there 2 (λ stack. fault (drop 2 stack))) (below_top (below_top fault)) tops (below_two fault)
        ∙ rests_judged (below_top fault) tops all ∙ rests_judged fault (flat_map (rest_of stacks) tops) (rest_grounded tops (suc n) all)

    module _ (fault : Judge) (joins : IsJoining fault) (index : ℕ) (low : index ≤ suc n) (tops : List Arrival) (are : tops ≡ arrivals_at stacks index)
        (all : AreGrounded stacks (suc n) tops) where
      call_moves : (call : Option UnitCall) → is_clause_call call ≡ true → is_closing_call call ≡ false
          → least_over (suc (suc n)) stacks (where_there (call_operands shape call) (λ stack. fault (made shape i (take (call_operands shape call) stack) ∷ drop (call_operands shape call) stack))) tops
          ≡ least_over (suc (suc n)) stacks fault (behind_call shape.args i call index tops)
      call_moves (Some (calls.OldValue place)) pure unclosed = ones_judged fault joins tops
      call_moves (Some (calls.Result place)) pure unclosed = pushed_judged fault joins index low tops are
      call_moves (Some (calls.Requires message)) pure unclosed = absurd (cc)
      call_moves (Some (calls.Ensures message)) pure unclosed = absurd (cc)
      call_moves (Some calls.EndContractBlock) pure unclosed = absurd (cc)
      call_moves _ pure unclosed = absurd (cc)

      pub moves : (message : Bool) (op : Op) → is_pure_before message op ≡ true → closes op ≡ false
          → least_over (suc (suc n)) stacks (Behind shape i op fault) tops ≡ least_over (suc (suc n)) stacks fault (behind_arrivals shape.args i op stacks index tops)
      moves message ops.Nop pure unclosed = kept_judged fault tops
      moves message (ops.Branch tests.Always target) pure unclosed = kept_judged fault tops
      moves message (ops.Branch (tests.Cmp op) target) pure unclosed = branch_two fault tops all
      moves message (ops.Branch tests.True target) pure unclosed = branch_one fault tops all
      moves message (ops.Branch tests.False target) pure unclosed = branch_one fault tops all
      moves message (ops.LoadArg k) pure unclosed = pushed_judged fault joins index low tops are
      moves message ops.Null pure unclosed = pushed_judged fault joins index low tops are
      moves message (ops.Const k) pure unclosed = pushed_judged fault joins index low tops are
      moves message (ops.Text token) pure unclosed = pushed_judged fault joins index low tops are
      moves message (ops.Bin operator) pure unclosed = twos_judged fault joins tops all
      moves message (ops.LoadElem place) pure unclosed = twos_judged fault joins tops all
      moves message ops.Neg pure unclosed = ones_judged fault joins tops
      moves message ops.Not pure unclosed = ones_judged fault joins tops
      moves message ops.ConvI4 pure unclosed = ones_judged fault joins tops
      moves message ops.Length pure unclosed = ones_judged fault joins tops
      moves message (ops.Call number) pure unclosed = call_moves (unit_call number) pure unclosed
      moves message _ pure unclosed = absurd (cc)
