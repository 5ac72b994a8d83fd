-- The instruction of an index, found at its IL offset.
use Rattle.std.proofs.Common.{◌≡◌, ℕ, zero, suc, ◌+◌, ◌<◌, ◌≤◌, List, [], ◌∷◌, length, Some, None, slice_get, slice_index_or, sym, ap, arith}
use Rattle.std.specs.List.{AllByRecursion}
use Rattle.std.proofs.lemmas.Bool.{eq-eqb, ne_eqb}
use Rattle.std.proofs.lemmas.Option.{none-some, same_Some}
use Rattle.cil_model.specs.Runs.{instr_at}
use Rattle.cil_model.specs.declared.instruction.Instr.{Instr}
use Rattle.cil_model.specs.ShortCode.{AreOfShortCode, IsOfShortCode, LieFrom}

pub slice_found_from : (from : ℕ) (is : List Instr) (k : ℕ) (i : Instr) → LieFrom from is → AllByRecursion IsOfShortCode is → slice_get is k ≡ Some i
    → (from ≤ i.at) × (instr_at is i.at ≡ Some i)
slice_found_from from [] k i lie each e = absurd cc
slice_found_from from (j ∷ is) zero i lie each e =
    let same : j ≡ i = same_Some j i e in
    let at : j.at ≡ i.at = ap (λ (x : Instr). x.at) same in
    (omega (arith, lie.0, at), rw (eq-eqb j.at i.at at) e)
slice_found_from from (j ∷ is) (suc k) i lie each e =
    let rest = slice_found_from (from + j.size) is k i lie.1 each.1 e in
    let low : from + j.size ≤ i.at = rest.0 in
    (omega (arith, low), rw (ne_eqb j.at i.at (λ f. omega (arith, f, low, lie.0, each.0.some))) rest.1)

pub slice_found : (is : List Instr) (k : ℕ) (i : Instr) → AreOfShortCode is → slice_get is k ≡ Some i → instr_at is i.at ≡ Some i
slice_found is k i short e = (slice_found_from 0 is k i short.lie short.each e).1

pub some_within : {X : Type 0} (xs : List X) (k : ℕ) → k < length xs → slice_get xs k ≡ None → ⊥
some_within [] k within none = omega (arith, within)
some_within (x ∷ xs) zero within none = cc
some_within (x ∷ xs) (suc k) within none = some_within xs k (omega (arith, within)) none

-- Instructions stand in the order of their offsets.
in_order_from : (from : ℕ) (is : List Instr) (j k : ℕ) (a b : Instr) → LieFrom from is → AllByRecursion IsOfShortCode is → j < k → slice_get is j ≡ Some a
    → slice_get is k ≡ Some b → a.at < b.at
in_order_from from [] j k a b lie each less e f = absurd (none-some a e)
in_order_from from (i ∷ is) j zero a b lie each less e f = absurd (omega (arith, less))
in_order_from from (i ∷ is) zero (suc k) a b lie each less e f =
    let same : i.at ≡ a.at = ap (λ (x : Instr). x.at) (same_Some i a e) in
    let above : from + i.size ≤ b.at = (slice_found_from (from + i.size) is k b lie.1 each.1 f).0 in
    omega (arith, same, above, lie.0, each.0.some)
in_order_from from (i ∷ is) (suc j) (suc k) a b lie each less e f = in_order_from (from + i.size) is j k a b lie.1 each.1 (omega (arith, less)) e f

pub in_order : (is : List Instr) (j k : ℕ) (a b : Instr) → AreOfShortCode is → j < k → slice_get is j ≡ Some a → slice_get is k ≡ Some b → a.at < b.at
in_order is j k a b short less e f = in_order_from 0 is j k a b short.lie short.each less e f

pub slice_own : (is : List Instr) (k : ℕ) (i : Instr) → k < length is → i ≡ slice_index_or is k i → slice_get is k ≡ Some i
slice_own [] k i within own = absurd (omega (arith, within))
slice_own (j ∷ is) zero i within own = ap Some (sym own)
slice_own (j ∷ is) (suc k) i within own = slice_own is k i (omega (arith, within)) own
