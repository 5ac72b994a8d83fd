-- The section headers, one after another.
use Rattle.std.proofs.Common.{◌≡◌, ℕ, zero, suc, ◌+◌, ◌-◌, ◌<◌, ◌≤◌, List, [], ◌∷◌, length, true, false, Some, None, refl, arith, inl, inr, ◌∙◌, add-one}
use Rattle.std.proofs.lemmas.Bool.{cases_lt}
use Rattle.cc_base.specs.Tests.{first_of}
use Rattle.cc_base.proofs.TestLemmas.{first_of-append_none, first_of-append_some, none_before, none_behind, none_here}
use Rattle.pe_reader.specs.declared.fault.PeFault.{PeFault}
use Rattle.pe_reader.specs.Places.{section_at}
use Rattle.pe_reader.specs.Addresses.{section_contains, section_from}
use Rattle.pe_reader.specs.Faults.{field, section_tests, sections_tests}

-- ---- the tests of the headers

pub sections_tests-zero : (bytes : List ℕ) → first_of (sections_tests bytes 0) ≡ None
unfolding sections_tests first_of
sections_tests-zero bytes = refl

pub sections_tests-next : (bytes : List ℕ) (i : ℕ) → first_of (sections_tests bytes i) ≡ None → first_of (section_tests bytes i) ≡ None → first_of (sections_tests bytes (i + 1)) ≡ None
unfolding sections_tests
sections_tests-next bytes i before here = rw add-one (first_of-append_none (sections_tests bytes i) (section_tests bytes i) before ∙ here)

pub sections_tests-fault : (bytes : List ℕ) (i n : ℕ) (fault : PeFault) → i < n → first_of (sections_tests bytes i) ≡ None → first_of (section_tests bytes i) ≡ Some fault → first_of (sections_tests bytes n) ≡ Some fault
unfolding sections_tests
sections_tests-fault bytes i zero fault within before here = absurd (omega arith)
sections_tests-fault bytes i (suc n) fault within before here =
    elim (cases_lt i n) [
      | inl lt ↦ first_of-append_some (sections_tests bytes n) (section_tests bytes n) fault (sections_tests-fault bytes i n fault lt before here)
      | inr le ↦ let same : i ≡ n = omega arith in
          rw (← same) (first_of-append_none (sections_tests bytes i) (section_tests bytes i) before ∙ here)
    ]

pub ruleset each_section = (sections_tests-zero, sections_tests-next, sections_tests-fault)

field_lies : (bytes : List ℕ) (at size : ℕ) → field bytes at size ≡ None → at + size ≤ length bytes
unfolding field
field_lies bytes at size none = grind arith

section_tests-lies : (bytes : List ℕ) (i : ℕ) → first_of (section_tests bytes i) ≡ None → section_at bytes i + 24 ≤ length bytes
unfolding section_tests
section_tests-lies bytes i none =
    let last = none_behind (field bytes (section_at bytes i) 8 ∷ field bytes (section_at bytes i + 8) 4 ∷ field bytes (section_at bytes i + 12) 4 ∷ field bytes (section_at bytes i + 16) 4 ∷ []) _ none in
    let lies = field_lies bytes (section_at bytes i + 20) 4 (none_here _ _ last) in
    omega arith

-- the fields of each header that passed its tests lie in the file
pub section_lies : (bytes : List ℕ) (n i : ℕ) → first_of (sections_tests bytes n) ≡ None → i < n → section_at bytes i + 24 ≤ length bytes
unfolding sections_tests
section_lies bytes zero i none within = absurd (omega arith)
section_lies bytes (suc n) i none within =
    elim (cases_lt i n) [
      | inl lt ↦ section_lies bytes n i (none_before _ _ none) lt
      | inr le ↦ let same : i ≡ n = omega arith in
          rw same (section_tests-lies bytes n (none_behind (sections_tests bytes n) _ none))
    ]

-- ---- the first section that contains an address

pub section_from-here : (bytes : List ℕ) (rva i n : ℕ) → i < n → section_contains bytes rva i ≡ true → section_from bytes rva i (n - i) ≡ Some i
unfolding section_from
section_from-here bytes rva i n within so =
    let more : n - i ≡ suc (n - (i + 1)) = omega arith in
    rw (more, so) refl

pub section_from-next : (bytes : List ℕ) (rva i n : ℕ) → i < n → section_contains bytes rva i ≡ false → section_from bytes rva i (n - i) ≡ section_from bytes rva (i + 1) (n - (i + 1))
unfolding section_from
section_from-next bytes rva i n within so =
    let more : n - i ≡ suc (n - (i + 1)) = omega arith in
    rw (more, so) refl

pub section_from-end : (bytes : List ℕ) (rva i n : ℕ) → n ≤ i → section_from bytes rva i (n - i) ≡ None
unfolding section_from
section_from-end bytes rva i n end =
    let none : n - i ≡ 0 = omega arith in
    rw none refl

pub ruleset lookup = (section_from-here, section_from-next, section_from-end)
