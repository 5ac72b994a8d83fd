-- Instructions that lie one after another: their offsets rise, and the code that spells them is short.
use Rattle.std.proofs.Common.{◌≡◌, ℕ, zero, suc, ◌+◌, ◌<◌, ◌≤◌, List, [], ◌∷◌, length, map, get_or, sym, ap, subst, add-one, ◌∙◌, arith, inl, inr}
use Rattle.std.specs.List.{AllByRecursion, AllPairs}
use Rattle.std.specs.List.Sorted.{IsNonDecreasing, IsNonDecreasingBy, IsStrictlyIncreasing}
use Rattle.std.proofs.lemmas.Bool.{cases_lt}
use Rattle.std.proofs.lemmas.List.{get_or-map, length-append, length-map}
use Rattle.std.proofs.lemmas.List.Kept.{AllPairs-from_increasing}
use Rattle.cc_base.specs.Slices.{IsShort}
use Rattle.cil_model.specs.Code.{CodeFrom, CodeOf}
use Rattle.cil_model.specs.ShortCode.{AreOfShortCode, IsOfShortCode, LieFrom}
use Rattle.cil_model.specs.declared.instruction.Instr.{Instr}
use Rattle.cil_model.proofs.Forms.{spelling_some}
use Rattle.cil_model.proofs.TargetRows.{few_targets}

-- ---- code

pub code_lies : (at : ℕ) (is : List Instr) (code : List ℕ) → CodeFrom at is code → at + length code ≤ 2147483647
    → LieFrom at is × AllByRecursion IsOfShortCode is
code_lies at [] code spelled short = (tt, tt)
code_lies at (i ∷ is) code (begins, (bytes, rest, spells, parts, others)) short =
    let whole : length code ≡ length bytes + length rest = ap length parts ∙ length-append bytes rest in
    let size : i.size ≡ length bytes = spells.size in
    let behind = code_lies (at + i.size) is rest others (omega (arith, whole, size, short)) in (
      (begins, behind.0),
      (
        record {
          some = omega (arith, size, spelling_some i bytes spells);
          end = omega (arith, begins, whole, size, short);
          targets = few_targets i bytes spells;
        },
        behind.1,
      ),
    )

pub code_is_short : (is : List Instr) (code : List ℕ) → CodeOf is code → IsShort code → AreOfShortCode is
code_is_short is code spelled short = let parts = code_lies 0 is code spelled.spelled (omega (arith, short)) in record { lie = parts.0; each = parts.1 }

-- ---- lists that rise

-- Each number is below those after it.
abbrev pub Rises : List ℕ → Type 0
Rises xs = AllPairs (λ a b. a < b) xs

pub not_falling : (xs : List ℕ) → Rises xs → IsNonDecreasing xs
not_falling xs rise i j d le inside =
    elim (cases_lt i j) [
      | inl below ↦ omega (arith, rise i j d below inside)
      | inr same ↦ (let e : i ≡ j = omega arith in rw e (omega arith))
    ]

-- ---- offsets

rises : (at : ℕ) (is : List Instr) (k : ℕ) → LieFrom at is → AllByRecursion IsOfShortCode is → suc k < length is
    → get_or (map (λ i. i.at) is) k 0 < get_or (map (λ i. i.at) is) (suc k) 0
rises at [] k lie each inside = absurd (omega arith)
rises at (i ∷ []) k lie each inside = absurd (omega arith)
rises at (i ∷ j ∷ is) zero lie each inside = omega (arith, lie.0, lie.1.0, each.0.some)
rises at (i ∷ j ∷ is) (suc k) lie each inside = rises (at + i.size) (j ∷ is) k lie.1 each.1 (omega arith)

pub offsets_increase : (at : ℕ) (is : List Instr) → LieFrom at is → AllByRecursion IsOfShortCode is → IsStrictlyIncreasing (map (λ i. i.at) is)
offsets_increase at is lie each k inside =
    let offsets = map (λ (i : Instr). i.at) is in
    subst (λ (n : ℕ). get_or offsets k 0 < get_or offsets n 0) (sym (add-one k)) (rises at is k lie each (omega (arith, inside, length-map is (λ (i : Instr). i.at))))

pub offsets_rise : (is : List Instr) → AreOfShortCode is → IsNonDecreasingBy (λ i. i.at) is
offsets_rise is short i j d le inside =
    let offsets = map (λ (i : Instr). i.at) is in
    let same = length-map is (λ (i : Instr). i.at) in
    let up = not_falling offsets (AllPairs-from_increasing offsets (offsets_increase 0 is short.lie short.each)) i j 0 le (omega (arith, same, inside)) in
    omega (arith, up, get_or-map (λ (i : Instr). i.at) is i d 0 (omega arith), get_or-map (λ (i : Instr). i.at) is j d 0 inside)

pub count_short : (at : ℕ) (is : List Instr) → LieFrom at is → AllByRecursion IsOfShortCode is → at ≤ 2147483647 → at + length is ≤ 2147483647
count_short at [] lie each low = omega arith
count_short at (i ∷ is) lie each low =
    omega (arith, lie.0, each.0.some, each.0.end, count_short (at + i.size) is lie.1 each.1 (omega (arith, lie.0, each.0.end)))
