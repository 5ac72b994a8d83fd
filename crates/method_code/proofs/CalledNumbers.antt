-- The numbers of calls in the code of a unit: each callee is called by its place among the callees.
use Rattle.std.proofs.Common.{◌≡◌, ℕ, ◌+◌, ◌-◌, ◌<◌, ◌==◌, nat_le, Bool, true, false, ◌||◌, List, [], ◌∷◌, length, map, filter_map, refl, sym, ap, ap₂, subst, ◌∙◌, arith, if◌then◌else◌}
use Rattle.std.specs.Prelude.{Option, Some, None, option_map, position}
use Rattle.std.specs.List.{AllByRecursion, cons_option}
use Rattle.std.specs.Option.{option_map_or}
use Rattle.std.proofs.lemmas.Bool.{eq-eqb, le-leb, lt-leb}
use Rattle.cil_model.specs.UnitCalls.{callee_of as unit_callee, condition_call, place_call, unit_call}
use Rattle.cil_model.specs.WellFormed.{InOrderOfUse, called_by}
use Rattle.cil_model.specs.declared.instruction.Instr.{Instr}
use Rattle.cil_model.specs.declared.instruction.Op.{Op}
use Rattle.cil_model.specs.declared.instruction.Op.TheVariants as ops
use Rattle.cil_model.specs.declared.unit_numbers.UnitCall.{UnitCall}
use Rattle.method_code.specs.Called.{called_by_op, callee_key, callees_of, calls_in}
use Rattle.method_code.specs.Meanings.{HasSmallNumbers, IsSmall, Meaning}
use Rattle.method_code.specs.Numbering.{call_number, numbered, numbered_instr, numbered_op}
use Rattle.method_code.specs.declared.call.Call.{Call}
use Rattle.method_code.specs.declared.call.Call.TheVariants.{Callee, Contract, Unknown}
use Rattle.method_code.proofs.CalleeOrder.{is_in, place_in, position_of, use_stands, uses_in_order}

-- ---- what numbers call

none_if : (b : Bool) (x y : Option UnitCall) → unit_callee x ≡ None → unit_callee y ≡ None → unit_callee (if b then x else y) ≡ None
none_if true x y first second = first
none_if false x y first second = second

condition_none : (n : ℕ) → unit_callee (condition_call n) ≡ None
condition_none n =
    none_if (n == 1) _ _ refl (none_if (n == 2) _ _ refl (none_if (n == 3) _ _ refl (none_if (n == 4) _ _ refl (none_if (n == 5) _ _ refl (none_if (n == 6) _ _ refl
    (none_if (n == 7) _ _ refl (none_if (n == 8) _ _ refl refl)))))))

place_none : (n : ℕ) → unit_callee (place_call n) ≡ None
place_none n =
    none_if (n == 11) _ _ refl (none_if (n == 12) _ _ refl (none_if (n == 13) _ _ refl (none_if (n == 14) _ _ refl (none_if (n == 21) _ _ refl (none_if (n == 22) _ _ refl
    (none_if (n == 23) _ _ refl (none_if (n == 24) _ _ refl refl)))))))

small_none : (n : ℕ) → n < 100 → unit_callee (unit_call n) ≡ None
unfolding unit_call
small_none n less =
    let low : nat_le 100 n ≡ false = lt-leb 100 n less in
    rw low (none_if (n == 9) _ _ refl (none_if (nat_le n 8) _ _ (condition_none n) (place_none n)))

callee_called : (index : ℕ) → unit_callee (unit_call (100 + index)) ≡ Some index
unfolding unit_call
callee_called index =
    let high : nat_le 100 (100 + index) ≡ true = le-leb 100 (100 + index) (omega arith) in
    let back : 100 + index - 100 ≡ index = omega arith in
    rw (high, back) refl

-- ---- one instruction

-- What an operation calls is one of these.
abbrev IsAmong : List ℕ → Option ℕ → Type 0
IsAmong uses None = Unit {0}
IsAmong uses (Some n) = is_in uses n ≡ true

-- What the number calls that a place gives.
abbrev called_at : Option ℕ → Option ℕ
called_at found = unit_callee (unit_call (option_map_or (λ index. 100 + index) found 0))

position_at : (uses : List ℕ) (n : ℕ) → is_in uses n ≡ true → position (λ m. m == n) uses ≡ Some (place_in uses n)
position_at uses n is = position_of uses n ∙ ap (λ (b : Bool). if b then Some (place_in uses n) else None) is

callee_numbered : (uses : List ℕ) (call : Call) → IsSmall call → IsAmong uses (callee_key call)
    → unit_callee (unit_call (call_number uses call)) ≡ option_map (place_in uses) (callee_key call)
callee_numbered uses (Callee key) small among = ap called_at (position_at uses key among) ∙ callee_called (place_in uses key)
callee_numbered uses (Contract number) small among = small_none number small
callee_numbered uses Unknown small among = small_none 0 (omega arith)

op_numbered : (meaning : Meaning) (uses : List ℕ) (op : Op) → HasSmallNumbers meaning → IsAmong uses (called_by_op meaning op)
    → called_by (numbered_op meaning uses op) ≡ option_map (place_in uses) (called_by_op meaning op)
op_numbered meaning uses (ops.Call token) small among = callee_numbered uses (meaning.call token) (small token) among
op_numbered meaning uses (ops.NewArray token) small among = refl
op_numbered meaning uses (ops.LoadAddr token) small among = refl
op_numbered meaning uses (ops.Text token) small among = refl
op_numbered meaning uses _ small among = refl

-- ---- all instructions

first_among : (uses : List ℕ) (call : Option ℕ) (rest : List ℕ) → ((n : ℕ) → is_in (cons_option call rest) n ≡ true → is_in uses n ≡ true) → IsAmong uses call
first_among uses None rest stand = tt
first_among uses (Some n) rest stand = stand n (rw (eq-eqb n n refl) refl)

rest_among : (call : Option ℕ) (rest : List ℕ) (n : ℕ) → is_in rest n ≡ true → is_in (cons_option call rest) n ≡ true
rest_among None rest n there = there
rest_among (Some m) rest n there = by (m == n)
  where
    by : (b : Bool) → (b || is_in rest n) ≡ true
    by true = refl
    by false = there

all_among : (meaning : Meaning) (uses : List ℕ) (is : List Instr) → ((n : ℕ) → is_in (calls_in meaning is) n ≡ true → is_in uses n ≡ true) → AllByRecursion (λ i. IsAmong uses (called_by_op meaning i.op)) is
all_among meaning uses [] stand = tt
all_among meaning uses (i ∷ is) stand = (
  first_among uses (called_by_op meaning i.op) (calls_in meaning is) stand,
  all_among meaning uses is (λ n there. stand n (rest_among (called_by_op meaning i.op) (calls_in meaning is) n there)),
)

placed : (uses : List ℕ) (call : Option ℕ) (rest : List ℕ) → cons_option (option_map (place_in uses) call) (map (place_in uses) rest) ≡ map (place_in uses) (cons_option call rest)
placed uses None rest = refl
placed uses (Some n) rest = refl

calls_numbered : (meaning : Meaning) (uses : List ℕ) (is : List Instr) → HasSmallNumbers meaning → AllByRecursion (λ i. IsAmong uses (called_by_op meaning i.op)) is
    → filter_map (λ i. called_by i.op) (map (numbered_instr meaning uses) is) ≡ map (place_in uses) (calls_in meaning is)
calls_numbered meaning uses [] small among = refl
calls_numbered meaning uses (i ∷ is) small among =
    ap₂ cons_option (op_numbered meaning uses i.op small among.0) (calls_numbered meaning uses is small among.1) ∙ placed uses (called_by_op meaning i.op) (calls_in meaning is)

-- The callees of a method are called, and first in their order.
pub callees_in_order : (meaning : Meaning) (is : List Instr) → HasSmallNumbers meaning → InOrderOfUse 0 (length (callees_of meaning is)) (filter_map (λ i. called_by i.op) (numbered meaning is))
callees_in_order meaning is small =
    let uses = callees_of meaning is in
    let among = all_among meaning uses is (λ n there. use_stands (calls_in meaning is) n [] there) in
    subst (InOrderOfUse 0 (length uses)) (sym (calls_numbered meaning uses is small among)) (uses_in_order (calls_in meaning is))
