-- How instructions lie that come one after another.
use Rattle.std.proofs.Common.{◌≡◌, ℕ, zero, suc, ◌+◌, ◌<◌, ◌≤◌, ◌==◌, ◌^◌, true, false, List, [], ◌∷◌, take, drop, Some, slice_get, refl, ap, add-one, arith}
use Rattle.std.proofs.lemmas.Bool.{ne_eqb, eq-eqb}
use Rattle.std.proofs.lemmas.Option.{none-some, same_Some}
use Rattle.cil_model.specs.Offsets.{RiseFrom}
use Rattle.cil_model.specs.Runs.{instr_at}
use Rattle.cil_model.specs.declared.instruction.Instr.{Instr}
use Rattle.clause_faults.specs.ClauseLies.{LieFrom, LieInOrder}
use Rattle.clause_faults.proofs.WayLemmas.Walks.{rise_higher}

not_below : (start : ℕ) (is : List Instr) (k : ℕ) (i : Instr) → LieFrom start is → slice_get is k ≡ Some i → start ≤ i.at
not_below start [] k i lie there = absurd (none-some i there)
not_below start (j ∷ is) zero i lie there = let e : j.at ≡ i.at = ap (λ (x : Instr). x.at) (same_Some j i there) in omega (arith, lie.0)
not_below start (j ∷ is) (suc k) i lie there = omega (arith, not_below (start + j.size) is k i lie.3 there)

has_bytes : (start : ℕ) (is : List Instr) (k : ℕ) (i : Instr) → LieFrom start is → slice_get is k ≡ Some i → (0 < i.size) × (i.at + i.size < 2 ^ 32)
has_bytes start [] k i lie there = absurd (none-some i there)
has_bytes start (j ∷ is) zero i lie there =
    let e = same_Some j i there in let at : j.at ≡ i.at = ap (λ (x : Instr). x.at) e in let size : j.size ≡ i.size = ap (λ (x : Instr). x.size) e in
    (omega (arith, lie.1), omega (arith, lie.0, lie.2))
has_bytes start (j ∷ is) (suc k) i lie there = has_bytes (start + j.size) is k i lie.3 there

-- The end of an instruction is a number of 32 bits.
pub ends_short : (is : List Instr) (k : ℕ) (i : Instr) → LieInOrder is → slice_get is k ≡ Some i → i.at + i.size < 2 ^ 32
ends_short is k i lies there = (has_bytes 0 is k i lies.lie there).1

next_from : (start : ℕ) (is : List Instr) (k : ℕ) (i : Instr) → LieFrom start is → slice_get is k ≡ Some i → instr_at is (i.at + i.size) ≡ slice_get is (suc k)
next_from start [] k i lie there = absurd (none-some i there)
next_from start (j ∷ []) zero i lie there =
    let e = same_Some j i there in let at : j.at ≡ i.at = ap (λ (x : Instr). x.at) e in let size : j.size ≡ i.size = ap (λ (x : Instr). x.size) e in
    let test : (j.at == (i.at + i.size)) ≡ false = ne_eqb j.at (i.at + i.size) (λ f. omega (arith, lie.1)) in rw test refl
next_from start (j ∷ k ∷ is) zero i lie there =
    let e = same_Some j i there in let at : j.at ≡ i.at = ap (λ (x : Instr). x.at) e in let size : j.size ≡ i.size = ap (λ (x : Instr). x.size) e in
    let test : (j.at == (i.at + i.size)) ≡ false = ne_eqb j.at (i.at + i.size) (λ f. omega (arith, lie.1)) in
    let next : (k.at == (i.at + i.size)) ≡ true = eq-eqb k.at (i.at + i.size) (omega (arith, lie.0, lie.3.0)) in rw (test, next) refl
next_from start (j ∷ is) (suc k) i lie there =
    let low = not_below (start + j.size) is k i lie.3 there in
    let test : (j.at == (i.at + i.size)) ≡ false = ne_eqb j.at (i.at + i.size) (λ f. omega (arith, lie.0, lie.1, (has_bytes (start + j.size) is k i lie.3 there).0)) in
    rw test (next_from (start + j.size) is k i lie.3 there)

-- The instruction after another one is the next of the list.
pub next_there : (is : List Instr) (k : ℕ) (i : Instr) → LieInOrder is → slice_get is k ≡ Some i → instr_at is (i.at + i.size) ≡ slice_get is (k + 1)
next_there is k i lies there = rw add-one (next_from 0 is k i lies.lie there)

rise_from : (start : ℕ) (is : List Instr) → LieFrom start is → RiseFrom start is
rise_from start [] lie = tt
rise_from start (i ∷ is) lie = (omega (arith, lie.0), rise_higher (suc i.at) (start + i.size) is (omega (arith, lie.0, lie.1)) (rise_from (start + i.size) is lie.3))

-- The offsets of parts of code rise too.
pub rise_drop : (n low : ℕ) (is : List Instr) → RiseFrom low is → RiseFrom low (drop n is)
rise_drop zero low is rise = rise
rise_drop (suc n) low [] rise = tt
rise_drop (suc n) low (i ∷ is) rise = rise_drop n low is (rise_higher low (suc i.at) is (let h = rise.0 in omega arith) rise.1)

pub rise_take : (n low : ℕ) (is : List Instr) → RiseFrom low is → RiseFrom low (take n is)
rise_take zero low is rise = tt
rise_take (suc n) low [] rise = tt
rise_take (suc n) low (i ∷ is) rise = (rise.0, rise_take n (suc i.at) is rise.1)

pub rises : (is : List Instr) → LieInOrder is → RiseFrom 0 is
rises is lies = rise_from 0 is lies.lie
