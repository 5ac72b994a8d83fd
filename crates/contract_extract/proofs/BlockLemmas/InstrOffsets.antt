-- Instructions that lie one after another, by their IL offsets.
use Rattle.std.proofs.Common.{◌≡◌, ℕ, ◌+◌, ◌<◌, ◌≤◌, ◌==◌, Bool, true, false, ◌||◌, List, [], ◌∷◌, length, Some, None, if◌then◌else◌, refl, sym, ap, subst, arith}
use Rattle.std.proofs.lemmas.Bool.{cond_both, eqb-true, eq-eqb, ne_eqb, false≢true, or_right, or_left}
use Rattle.std.proofs.lemmas.Option.{none-some, same_Some}
use Rattle.cil_model.specs.Code.{begins_at}
use Rattle.cil_model.specs.Runs.{instr_at}
use Rattle.cil_model.specs.declared.instruction.Instr.{Instr}
use Rattle.cil_model.specs.ShortCode.{AreOfShortCode, LieFrom}

-- How many instructions there are from the one at an IL offset on.
abbrev pub left : List Instr → ℕ → ℕ
left [] at = 0
left (i ∷ is) at = if i.at == at then length (i ∷ is) else left is at

pub left_most : (is : List Instr) (at : ℕ) → left is at ≤ length is
left_most [] at = omega arith
left_most (i ∷ is) at =
    cond_both (i.at == at) _ _ (λ (n : ℕ). n ≤ length (i ∷ is)) (λ here. omega arith) (λ later. omega (arith, left_most is at))

pub left_some : (is : List Instr) (at : ℕ) (i : Instr) → instr_at is at ≡ Some i → 0 < left is at
left_some [] at i found = absurd (none-some i found)
left_some (j ∷ is) at i found = by (j.at == at) (left_some is at i) found
  where
    by : (here : Bool) → (instr_at is at ≡ Some i → 0 < left is at) → (if here then Some j else instr_at is at) ≡ Some i
        → 0 < (if here then length (j ∷ is) else left is at)
    by true rest found = omega arith
    by false rest found = rest found

pub none_left : (is : List Instr) (at : ℕ) → left is at ≤ 0 → instr_at is at ≡ None
none_left [] at none = refl
none_left (j ∷ is) at none = by (j.at == at) (none_left is at) none
  where
    by : (here : Bool) → (left is at ≤ 0 → instr_at is at ≡ None) → (if here then length (j ∷ is) else left is at) ≤ 0
        → (if here then Some j else instr_at is at) ≡ None
    by true rest none = absurd (omega (arith, none))
    by false rest none = rest none

none_below : (from : ℕ) (is : List Instr) (at : ℕ) → LieFrom from is → at < from → left is at ≡ 0
none_below from [] at lie below = refl
none_below from (i ∷ is) at lie below =
    rw (ne_eqb i.at at (λ e. omega (arith, lie.0))) (none_below (from + i.size) is at lie.1 (omega arith))

-- Fewer are left from a later instruction on.
left_falls_from : (from : ℕ) (is : List Instr) (at later : ℕ) → LieFrom from is → 0 < left is at → at < later → left is later < left is at
left_falls_from from [] at later lie some below = absurd (omega arith)
left_falls_from from (i ∷ is) at later lie some below =
    by (i.at == at) (i.at == later) (λ some. left_falls_from (from + i.size) is at later lie.1 some below) (eqb-true i.at at) (eqb-true i.at later) some
  where
    by : (here there : Bool) → (0 < left is at → left is later < left is at) → (here ≡ true → i.at ≡ at) → (there ≡ true → i.at ≡ later)
        → 0 < (if here then length (i ∷ is) else left is at)
        → (if there then length (i ∷ is) else left is later) < (if here then length (i ∷ is) else left is at)
    by true true rest here there some = absurd (omega (arith, here refl, there refl, below))
    by true false rest here there some = omega (arith, left_most is later)
    by false true rest here there some = absurd (omega (arith, none_below (from + i.size) is at lie.1 (omega (arith, lie.0, there refl, below)), some))
    by false false rest here there some = rest some

pub left_falls : (is : List Instr) (at later : ℕ) → AreOfShortCode is → 0 < left is at → at < later → left is later < left is at
left_falls is at later short some below = left_falls_from 0 is at later short.lie some below

-- ---- the next instruction

pub begin_found : (is : List Instr) (at : ℕ) → begins_at is at ≡ true → (i : Instr) × (instr_at is at ≡ Some i)
begin_found [] at begins = absurd (false≢true begins)
begin_found (j ∷ is) at begins = by (j.at == at) (begin_found is at) begins
  where
    by : (here : Bool) → (begins_at is at ≡ true → (i : Instr) × (instr_at is at ≡ Some i)) → (here || begins_at is at) ≡ true
        → (i : Instr) × ((if here then Some j else instr_at is at) ≡ Some i)
    by true rest begins = (j, refl)
    by false rest begins = rest begins

found_from : (from : ℕ) (is : List Instr) (at : ℕ) (i : Instr) → LieFrom from is → instr_at is at ≡ Some i → from ≤ at
found_from from [] at i lie found = absurd (none-some i found)
found_from from (j ∷ is) at i lie found = by (j.at == at) (found_from (from + j.size) is at i lie.1) (eqb-true j.at at) found
  where
    by : (here : Bool) → (instr_at is at ≡ Some i → from + j.size ≤ at) → (here ≡ true → j.at ≡ at) → (if here then Some j else instr_at is at) ≡ Some i
        → from ≤ at
    by true rest here found = omega (arith, lie.0, here refl)
    by false rest here found = omega (arith, rest found)

-- Below an instruction, the next one begins where one ends.
pub record Next (is : List Instr) (i : Instr) (last : ℕ) : Type 0 where
  pub begins : begins_at is (i.at + i.size) ≡ true
  pub inside : i.at + i.size ≤ last

first_begins : (from : ℕ) (is : List Instr) (last : ℕ) (c : Instr) → LieFrom from is → instr_at is last ≡ Some c → begins_at is from ≡ true
first_begins from [] last c lie there = absurd (none-some c there)
first_begins from (j ∷ is) last c lie there = or_left (j.at == from) (begins_at is from) (eq-eqb j.at from lie.0)

next_from : (from : ℕ) (is : List Instr) (at last : ℕ) (i c : Instr) → LieFrom from is → instr_at is at ≡ Some i → instr_at is last ≡ Some c → at < last
    → Next is i last
next_from from [] at last i c lie found there below = absurd (none-some i found)
next_from from (j ∷ is) at last i c lie found there below =
    by (j.at == at) (j.at == last) (λ found there. next_from (from + j.size) is at last i c lie.1 found there below) (eqb-true j.at at) (eqb-true j.at last) found there
  where
    by : (here end : Bool) → (instr_at is at ≡ Some i → instr_at is last ≡ Some c → Next is i last) → (here ≡ true → j.at ≡ at) → (end ≡ true → j.at ≡ last) → (if here then Some j else instr_at is at) ≡ Some i
        → (if end then Some j else instr_at is last) ≡ Some c → Next (j ∷ is) i last
    by true true rest here end found there = absurd (omega (arith, here refl, end refl, below))
    by true false rest here end found there =
        let one : j ≡ i = same_Some j i found in
        let at_is : from + j.size ≡ j.at + j.size = ap (λ (n : ℕ). n + j.size) (sym lie.0) in
        subst (λ (k : Instr). Next (j ∷ is) k last) one (record {
          begins = or_right (j.at == (j.at + j.size)) (begins_at is (j.at + j.size)) (subst (λ (n : ℕ). begins_at is n ≡ true) at_is (first_begins (from + j.size) is last c lie.1 there));
          inside = omega (arith, lie.0, found_from (from + j.size) is last c lie.1 there);
        })
    by false true rest here end found there = absurd (omega (arith, lie.0, end refl, found_from (from + j.size) is at i lie.1 found))
    by false false rest here end found there =
        let n = rest found there in
        record { begins = or_right (j.at == (i.at + i.size)) (begins_at is (i.at + i.size)) n.begins; inside = n.inside }

pub next_begins : (is : List Instr) (at last : ℕ) (i c : Instr) → AreOfShortCode is → instr_at is at ≡ Some i → instr_at is last ≡ Some c → at < last
    → Next is i last
next_begins is at last i c short found there below = next_from 0 is at last i c short.lie found there below
