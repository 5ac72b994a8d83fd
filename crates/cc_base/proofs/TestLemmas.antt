-- The first fault of tests: test by test, list after list, and by number.
use Rattle.std.proofs.Common.{◌≡◌, ℕ, zero, suc, ◌+◌, ◌-◌, ◌<◌, ◌≤◌, List, [], ◌∷◌, ◌++◌, map, Bool, true, false, Option, Some, None, refl, sym, ap, subst, ◌∙◌, arith, inl, inr}
use Rattle.std.specs.Prelude.{Result, Ok, Err, IsOk, IfErr, IsErrAnd, ◌↔◌}
use Rattle.std.specs.List.{AllByRecursion, flat_map, range_with_len}
use Rattle.std.specs.Option.{option_or}
use Rattle.std.proofs.lemmas.Bool.{cases_lt}
use Rattle.std.proofs.lemmas.List.Concat.{flat_map-cons}
use Rattle.cc_base.specs.Tests.{first_of, must, Judges, JudgesOrNoMemory}
use Rattle.cc_base.specs.declared.refusal.Refusal.{Refusal}
use Rattle.cc_base.specs.declared.refusal.Refusal.TheVariants.{Bad, NoMemory}

-- ---- test by test

pub first_of-nil : {F : Type 0} → first_of {F = F} [] ≡ None
unfolding first_of
first_of-nil = refl

pub first_of-one : {F : Type 0} (test : Option F) → first_of (test ∷ []) ≡ test
unfolding first_of
first_of-one None = refl
first_of-one (Some fault) = refl

pub first_of-none : {F : Type 0} (test : Option F) (rest : List (Option F)) → test ≡ None → first_of (test ∷ rest) ≡ first_of rest
unfolding first_of
first_of-none test rest none = rw none refl

pub first_of-some : {F : Type 0} (test : Option F) (rest : List (Option F)) (fault : F) → test ≡ Some fault → first_of (test ∷ rest) ≡ Some fault
unfolding first_of
first_of-some test rest fault some = rw some refl

pub ruleset first_tests = (first_of-nil, first_of-none, first_of-some)

pub must-passed : {F : Type 0} (holds : Bool) (fault : F) (rest : List (Option F)) → holds ≡ true → first_of (must holds fault ∷ rest) ≡ first_of rest
unfolding first_of
must-passed holds fault rest so = rw so refl

pub must-failed : {F : Type 0} (holds : Bool) (fault : F) (rest : List (Option F)) → holds ≡ false → first_of (must holds fault ∷ rest) ≡ Some fault
unfolding first_of
must-failed holds fault rest so = rw so refl

-- ---- one list of tests after another

pub first_of-append : {F : Type 0} (tests rest : List (Option F)) → first_of (tests ++ rest) ≡ option_or (first_of tests) (first_of rest)
unfolding first_of
first_of-append [] rest = refl
first_of-append (None ∷ tests) rest = first_of-append tests rest
first_of-append (Some fault ∷ tests) rest = refl

pub first_of-append_none : {F : Type 0} (tests rest : List (Option F)) → first_of tests ≡ None → first_of (tests ++ rest) ≡ first_of rest
first_of-append_none tests rest none = first_of-append tests rest ∙ rw none refl

pub first_of-append_some : {F : Type 0} (tests rest : List (Option F)) (fault : F) → first_of tests ≡ Some fault → first_of (tests ++ rest) ≡ Some fault
first_of-append_some tests rest fault some = first_of-append tests rest ∙ rw some refl

pub ruleset appended = (first_of-append_none, first_of-append_some)

-- No test of either list failed, and so of each.

pub none_before : {F : Type 0} (tests rest : List (Option F)) → first_of (tests ++ rest) ≡ None → first_of tests ≡ None
unfolding first_of
none_before [] rest none = refl
none_before (None ∷ tests) rest none = none_before tests rest none
none_before (Some fault ∷ tests) rest none = absurd cc

pub none_behind : {F : Type 0} (tests rest : List (Option F)) → first_of (tests ++ rest) ≡ None → first_of rest ≡ None
none_behind tests rest none = sym (first_of-append_none tests rest (none_before tests rest none)) ∙ none

pub none_here : {F : Type 0} (test : Option F) (rest : List (Option F)) → first_of (test ∷ rest) ≡ None → test ≡ None
none_here test rest none = sym (first_of-one test) ∙ none_before (test ∷ []) rest none

-- No test failed: each is passed.
abbrev pub ArePassed : {F : Type 0} → List (Option F) → Type 0
ArePassed tests = AllByRecursion (λ test. test ≡ None) tests

pub none_failed : {F : Type 0} (tests : List (Option F)) → (first_of tests ≡ None) ↔ ArePassed tests
unfolding first_of
none_failed [] = (λ none. tt, λ passed. refl)
none_failed (None ∷ tests) = (λ none. (refl, (none_failed tests).0 none), λ passed. (none_failed tests).1 passed.1)
none_failed (Some fault ∷ tests) = (λ none. absurd cc, λ passed. absurd (let failed = passed.0 in cc))

pub passed-append : {F : Type 0} (tests rest : List (Option F)) → ArePassed (tests ++ rest) ↔ (ArePassed tests × ArePassed rest)
passed-append [] rest = (λ passed. (tt, passed), λ both. both.1)
passed-append (test ∷ tests) rest =
    (λ passed. let both = (passed-append tests rest).0 passed.1 in ((passed.0, both.0), both.1), λ both. (both.0.0, (passed-append tests rest).1 (both.0.1, both.1)))

pub must_hold : {F : Type 0} (holds : Bool) (fault : F) → (must holds fault ≡ None) ↔ (holds ≡ true)
must_hold true fault = (λ none. refl, λ so. refl)
must_hold false fault = (λ none. absurd cc, λ so. absurd cc)

-- ---- tests by number, from i on and below n

range-from : (i n : ℕ) → i < n → range_with_len i (n - i) ≡ i ∷ range_with_len (i + 1) (n - (i + 1))
range-from i n h =
    let k : n - i ≡ suc (n - (i + 1)) = omega arith in
    rw k refl

range-end : (i n : ℕ) → n ≤ i → range_with_len i (n - i) ≡ []
range-end i n h =
    let k : n - i ≡ 0 = omega arith in
    rw k refl

-- The first fault, where each number has a list.
abbrev pub from_on : {F : Type 0} → (ℕ → List (Option F)) → ℕ → ℕ → Option F
from_on tests i n = first_of (flat_map tests (range_with_len i (n - i)))

pub from_on-start : {F : Type 0} (tests : ℕ → List (Option F)) (i n : ℕ) → from_on tests i (n + i) ≡ first_of (flat_map tests (range_with_len i n))
from_on-start tests i n = let k : n + i - i ≡ n = omega arith in rw k refl

from_on-is : {F : Type 0} (tests : ℕ → List (Option F)) (i n : ℕ) → i < n
    → from_on tests i n ≡ first_of (tests i ++ flat_map tests (range_with_len (i + 1) (n - (i + 1))))
from_on-is tests i n h =
    ap (λ (numbers : List ℕ). first_of (flat_map tests numbers)) (range-from i n h)
    ∙ ap first_of (flat_map-cons tests i (range_with_len (i + 1) (n - (i + 1))))

pub from_on-next : {F : Type 0} (tests : ℕ → List (Option F)) (i n : ℕ) (all : Option F) → i < n
    → first_of (tests i) ≡ None → from_on tests i n ≡ all → from_on tests (i + 1) n ≡ all
from_on-next tests i n all h none so_far =
    sym (first_of-append_none (tests i) (flat_map tests (range_with_len (i + 1) (n - (i + 1)))) none) ∙ sym (from_on-is tests i n h) ∙ so_far

pub from_on-stop : {F : Type 0} (tests : ℕ → List (Option F)) (i n : ℕ) (all : Option F) (fault : F) → i < n
    → first_of (tests i) ≡ Some fault → from_on tests i n ≡ all → all ≡ Some fault
from_on-stop tests i n all fault h some so_far =
    sym so_far ∙ from_on-is tests i n h ∙ first_of-append_some (tests i) (flat_map tests (range_with_len (i + 1) (n - (i + 1)))) fault some

pub from_on-done : {F : Type 0} (tests : ℕ → List (Option F)) (i n : ℕ) (all : Option F) → n ≤ i → from_on tests i n ≡ all → all ≡ None
from_on-done tests i n all h so_far =
    sym so_far ∙ ap (λ (numbers : List ℕ). first_of (flat_map tests numbers)) (range-end i n h) ∙ first_of-nil

pub ruleset numbered = (from_on-start, from_on-next, from_on-stop, from_on-done)

-- No test of these numbers failed, and so none of each.
pub each-passed : {F : Type 0} (tests : ℕ → List (Option F)) (i n k : ℕ) → i ≤ k → k < i + n
    → first_of (flat_map tests (range_with_len i n)) ≡ None → first_of (tests k) ≡ None
each-passed tests i zero k low high e = absurd (omega arith)
each-passed {F} tests i (suc n) k low high e =
    let split : first_of (flat_map tests (range_with_len i (suc n))) ≡ first_of (tests i ++ flat_map tests (range_with_len (i + 1) n)) =
    ap first_of (flat_map-cons tests i (range_with_len (i + 1) n)) in
    let whole = sym split ∙ e in
    elim (cases_lt i k) [
      | inl lt ↦ each-passed tests (i + 1) n k (omega arith) (omega arith) (none_behind (tests i) (flat_map tests (range_with_len (i + 1) n)) whole)
      | inr le ↦
          let same : i ≡ k = omega arith in
          subst (λ (j : ℕ). first_of (tests j) ≡ None) same (none_before (tests i) (flat_map tests (range_with_len (i + 1) n)) whole)
    ]

-- The first fault, where each number has one test.
abbrev pub singles_on : {F : Type 0} → (ℕ → Option F) → ℕ → ℕ → Option F
singles_on tests i n = first_of (map tests (range_with_len i (n - i)))

singles_on-is : {F : Type 0} (tests : ℕ → Option F) (i n : ℕ) → i < n
    → singles_on tests i n ≡ first_of (tests i ∷ map tests (range_with_len (i + 1) (n - (i + 1))))
singles_on-is tests i n h = ap (λ (numbers : List ℕ). first_of (map tests numbers)) (range-from i n h)

pub singles_on-next : {F : Type 0} (tests : ℕ → Option F) (i n : ℕ) (all : Option F) → i < n
    → tests i ≡ None → singles_on tests i n ≡ all → singles_on tests (i + 1) n ≡ all
singles_on-next tests i n all h none so_far =
    sym (first_of-none (tests i) (map tests (range_with_len (i + 1) (n - (i + 1)))) none) ∙ sym (singles_on-is tests i n h) ∙ so_far

pub singles_on-stop : {F : Type 0} (tests : ℕ → Option F) (i n : ℕ) (all : Option F) (fault : F) → i < n
    → tests i ≡ Some fault → singles_on tests i n ≡ all → all ≡ Some fault
singles_on-stop tests i n all fault h some so_far =
    sym so_far ∙ singles_on-is tests i n h ∙ first_of-some (tests i) (map tests (range_with_len (i + 1) (n - (i + 1)))) fault some

pub singles_on-done : {F : Type 0} (tests : ℕ → Option F) (i n : ℕ) (all : Option F) → n ≤ i → singles_on tests i n ≡ all → all ≡ None
singles_on-done tests i n all h so_far =
    sym so_far ∙ ap (λ (numbers : List ℕ). first_of (map tests numbers)) (range-end i n h) ∙ first_of-nil

-- ---- answers that tests judge

pub judged-ok : {X F : Type 0} (r : Result X F) (first : Option F) (P : X → Type 0) → Judges r first P → IsOk r ↔ (first ≡ None)
judged-ok (Ok x) first P judged = (λ _. judged.0, λ _. refl)
judged-ok (Err fault) first P judged = (λ h. absurd cc, λ h. absurd cc)

pub judged-err : {X F : Type 0} (r : Result X F) (first : Option F) (P : X → Type 0) → Judges r first P → IfErr r (λ fault. first ≡ Some fault)
judged-err (Ok x) first P judged = tt
judged-err (Err fault) first P judged = judged

-- ---- answers that tests judge, unless memory ran out: what `?` carries up

-- The fault of a part is the first of the whole.
pub fault-carried : {X F : Type 0} (r : Result X (Refusal F)) (fault : F) (first : Option F) (P : X → Type 0)
    → IsErrAnd r (λ refusal. refusal ≡ Bad fault) → first ≡ Some fault → JudgesOrNoMemory r first P
fault-carried (Ok x) fault first P is some = elim is [ ]
fault-carried (Err refusal) fault first P is some = rw is some

-- The refusal of a part whose fault is the first of the whole.
pub refusal-carried : {X Y F : Type 0} (r : Result Y (Refusal F)) (refusal : Refusal F) (part first : Option F) (P : X → Type 0) (Q : Y → Type 0)
    → IsErrAnd r (λ same. same ≡ refusal) → JudgesOrNoMemory {X = X} (Err refusal) part P → ((fault : F) → part ≡ Some fault → first ≡ Some fault)
    → JudgesOrNoMemory r first Q
refusal-carried (Ok y) refusal part first P Q is judged carried = elim is [ ]
refusal-carried (Err same) (Bad fault) part first P Q is judged carried = rw is (carried fault judged)
refusal-carried (Err same) NoMemory part first P Q is judged carried = rw is tt

-- The answer of the last part is that of the whole.
pub last-carried : {X F : Type 0} (r : Result X (Refusal F)) (part first : Option F) (P : X → Type 0)
    → JudgesOrNoMemory r part P → first ≡ part → JudgesOrNoMemory r first P
last-carried r part first P judged same = rw same judged

pub ruleset carried = (fault-carried, refusal-carried, last-carried)
