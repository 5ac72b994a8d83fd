-- Runs of methods, and the type that owns a method.
use Rattle.std.proofs.Common.{◌≡◌, ℕ, zero, suc, ◌+◌, ◌-◌, ◌<◌, ◌≤◌, List, [], ◌∷◌, Bool, true, false, ◌&&◌, eqb, None, refl, sym, ap, subst, ◌∙◌, arith}
use Rattle.std.proofs.lemmas.Bool.{le-leb, lt-leb, leb-true}
use Rattle.std.proofs.lemmas.Bool.Decides.{nat_tests}
use Rattle.cc_base.specs.Tests.{first_of, must}
use Rattle.cc_base.proofs.TestLemmas.{none_behind, none_here, each-passed}
use Rattle.asm_image.specs.Cells.{type_count, method_list, owner_among, owner, RunsRise, Begins}
use Rattle.asm_image.specs.Faults.{least_list, list_test, text_test, type_tests, types_tests}
use Rattle.asm_image.specs.declared.fault.AsmFault.{AsmFault}

pub least_next : (md : List ℕ) (i : ℕ) → least_list md (i + 1 + 1) ≡ method_list md (i + 1)
least_next md i =
    let other : eqb (i + 1 + 1) 1 ≡ false = grind (arith, nat_tests) in
    let before : i + 1 + 1 - 1 ≡ i + 1 = omega arith in
    rw other (ap (method_list md) before)

must-both : (a b : Bool) (fault : AsmFault) → must (a && b) fault ≡ None → a ≡ true
must-both true b fault e = refl
must-both false b fault e = absurd cc

-- A type whose tests are passed begins its run where the one before does, or after it.
step-rises : (md : List ℕ) (base k : ℕ) → first_of (type_tests md base (k + 1 + 1)) ≡ None → method_list md (k + 1) ≤ method_list md (k + 1 + 1)
unfolding type_tests
step-rises md base k e =
    let row : ℕ = k + 1 + 1 in
    let last = none_behind (text_test md base 2 row 1 ∷ text_test md base 2 row 2 ∷ []) (list_test md base row ∷ []) e in
    let here = none_here (list_test md base row) [] last in
    let holds = leb-true (least_list md row) (method_list md row) (must-both _ _ _ here) in
    omega (arith, holds, least_next md k)

rises : (md : List ℕ) (base i d : ℕ) → first_of (types_tests md base) ≡ None → 1 ≤ i → i + d ≤ type_count md → method_list md i ≤ method_list md (i + d)
unfolding types_tests
rises md base i zero e low high =
    let same : i + 0 ≡ i = omega arith in
    rw same (omega arith)
rises md base i (suc d) e low high =
    let before = rises md base i d e low (omega arith) in
    let k : i + d ≡ i + d - 1 + 1 = omega arith in
    let next : i + suc d ≡ i + d - 1 + 1 + 1 = omega arith in
    let here = each-passed (type_tests md base) 1 (type_count md) (i + d - 1 + 1 + 1) (omega arith) (omega arith) e in
    let step = step-rises md base (i + d - 1) here in
    let low_end : method_list md (i + d) ≡ method_list md (i + d - 1 + 1) = ap (method_list md) k in
    let high_end : method_list md (i + suc d) ≡ method_list md (i + d - 1 + 1 + 1) = ap (method_list md) next in
    omega (arith, before, step, low_end, high_end)

-- Where all types pass, the runs rise.
pub runs_rise : (md : List ℕ) (base : ℕ) → first_of (types_tests md base) ≡ None → RunsRise md
runs_rise md base e i j low le high =
    let there : i + (j - i) ≡ j = omega arith in
    subst (λ (k : ℕ). method_list md i ≤ method_list md k) there (rises md base i (j - i) e low (omega arith))

-- ---- the type that owns a method

owner-here : (md : List ℕ) (row k : ℕ) → Begins md k row → owner_among md row k ≡ k
unfolding owner_among
owner-here md row zero begins = refl
owner-here md row (suc k) begins =
    let test = le-leb (method_list md (suc k)) row (begins (omega arith)) in
    rw test refl

owner-more : (md : List ℕ) (row k n : ℕ) → Begins md k row → ((j : ℕ) → k < j → j ≤ k + n → row < method_list md j) → owner_among md row (k + n) ≡ k
unfolding owner_among
owner-more md row k zero begins later =
    let same : k + 0 ≡ k = omega arith in
    rw same (owner-here md row k begins)
owner-more md row k (suc n) begins later =
    let more : k + suc n ≡ suc (k + n) = omega arith in
    let past : row < method_list md (suc (k + n)) = later (suc (k + n)) (omega arith) (omega arith) in
    let test = lt-leb (method_list md (suc (k + n))) row past in
    let one : owner_among md row (suc (k + n)) ≡ owner_among md row (k + n) = rw test refl in
    rw more (one ∙ owner-more md row k n begins (λ j low high. later j low (omega arith)))

-- The next type's run begins after the method.
pub owner_stop : (md : List ℕ) (row k : ℕ) → RunsRise md → Begins md k row → k < type_count md → row < method_list md (k + 1) → k ≡ owner md row
unfolding owner
owner_stop md row k rise begins lt past =
    let all : k + (type_count md - k) ≡ type_count md = omega arith in
    sym (subst (λ (n : ℕ). owner_among md row n ≡ k) all
    (owner-more md row k (type_count md - k) begins
    (λ j low high. let up = rise (k + 1) j (omega arith) (omega arith) (omega arith) in omega (arith, up, past))))

-- There is no later type.
pub owner_done : (md : List ℕ) (row k : ℕ) → Begins md k row → k ≡ type_count md → k ≡ owner md row
unfolding owner
owner_done md row k begins is = sym (rw (← is) (owner-here md row k begins))

-- ---- the same, sought by halving

-- The runs of the types after this one begin after the method.
abbrev pub BeginLater : List ℕ → ℕ → ℕ → Type 0
BeginLater md last row = (type : ℕ) → last < type → type ≤ type_count md → row < method_list md type

pub none_later : (md : List ℕ) (row : ℕ) → BeginLater md (type_count md) row
none_later md row type low high = absurd (omega arith)

pub later_from : (md : List ℕ) (row middle : ℕ) → RunsRise md → 1 ≤ middle → row < method_list md middle → BeginLater md (middle - 1) row
later_from md row middle rise some past type low high =
    let up = rise middle type some (omega arith) high in
    omega (arith, up, past)

pub owner_halved : (md : List ℕ) (row k : ℕ) → Begins md k row → k ≤ type_count md → BeginLater md k row → k ≡ owner md row
unfolding owner
owner_halved md row k begins there later =
    let all : k + (type_count md - k) ≡ type_count md = omega arith in
    sym (subst (λ (n : ℕ). owner_among md row n ≡ k) all
    (owner-more md row k (type_count md - k) begins (λ j low high. later j low (omega arith))))
