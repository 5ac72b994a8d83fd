-- The bytes from an address on tell those of every length.
use Rattle.std.proofs.Common.{◌≡◌, ℕ, zero, suc, ◌+◌, ◌-◌, ◌≤◌, List, length, take, drop, Option, Some, None, refl, arith, inl, inr, Bool, leb, ◌&&◌, cond, true, false, length-drop}
use Rattle.std.specs.Option.{option_and_then, option_map}
use Rattle.std.specs.Prelude.{slice_range}
use Rattle.std.proofs.lemmas.Bool.{cases_lt, lt-leb, le-leb}
use Rattle.std.proofs.lemmas.Bool.Decides.{nat_tests}
use Rattle.std.proofs.lemmas.List.{length-take, take-take}
use Rattle.pe_reader.specs.Places.{virtual_address, raw_size, raw_at}
use Rattle.pe_reader.specs.Addresses.{section_contains, section_from, section_of, place_in, place_of, bytes_at, rest_in, rest_at, first_bytes}

and-false : (b : Bool) → (b && false) ≡ false
and-false true = refl
and-false false = refl

-- Bytes from a place on that end before the section and the file do.
fitting : (bytes : List ℕ) (rva end at len : ℕ) → rva ≤ end
    → option_map (λ place. slice_range bytes place (place + len)) (cond (leb (rva + len) end && leb (at + len) (length bytes)) (Some at) None)
    ≡ first_bytes len (cond (leb at (length bytes)) (Some (take (end - rva) (drop at bytes))) None)
fitting bytes rva end at len before =
    elim (cases_lt (length bytes) at) [
      | inl past ↦ rw (lt-leb (at + len) (length bytes) (omega arith), and-false (leb (rva + len) end), lt-leb at (length bytes) past) refl
      | inr within ↦
          let room = length-take (end - rva) (drop at bytes) in
          let behind = length-drop at bytes in
          elim (cases_lt end (rva + len)) [
            | inl long ↦
                rw (lt-leb (rva + len) end long, le-leb at (length bytes) within, lt-leb len (length (take (end - rva) (drop at bytes))) (omega arith)) refl
            | inr short ↦
                elim (cases_lt (length bytes) (at + len)) [
                  | inl long ↦
                      rw (le-leb (rva + len) end short, lt-leb (at + len) (length bytes) long, le-leb at (length bytes) within, lt-leb len (length (take (end - rva) (drop at bytes))) (omega arith)) refl
                  | inr fit ↦
                      let whole : at + len - at ≡ len = omega arith in
                      rw (le-leb (rva + len) end short, le-leb (at + len) (length bytes) fit, le-leb at (length bytes) within, le-leb len (length (take (end - rva) (drop at bytes))) (omega arith))
                      (rw (whole, take-take len (end - rva) (drop at bytes) (omega arith)) refl)
                ]
          ]
    ]

in_section : (bytes : List ℕ) (rva len i : ℕ) → section_contains bytes rva i ≡ true
    → option_map (λ at. slice_range bytes at (at + len)) (place_in bytes rva len i) ≡ first_bytes len (rest_in bytes rva i)
unfolding place_in rest_in section_contains
in_section bytes rva len i inside =
    fitting bytes rva (virtual_address bytes i + raw_size bytes i) (raw_at bytes i + (rva - virtual_address bytes i)) len (grind (arith, nat_tests))

chosen : (bytes : List ℕ) (rva i j : ℕ) (here : Bool) (behind : Option ℕ) → section_contains bytes rva i ≡ here
    → (behind ≡ Some j → section_contains bytes rva j ≡ true) → cond here (Some i) behind ≡ Some j → section_contains bytes rva j ≡ true
chosen bytes rva i j true behind is later found = let same : i ≡ j = cc in rw (← same) is
chosen bytes rva i j false behind is later found = later found

found_contains : (bytes : List ℕ) (rva i n j : ℕ) → section_from bytes rva i n ≡ Some j → section_contains bytes rva j ≡ true
unfolding section_from
found_contains bytes rva i zero j found = absurd cc
found_contains bytes rva i (suc n) j found = chosen bytes rva i j (section_contains bytes rva i) (section_from bytes rva (i + 1) n) refl (found_contains bytes rva (i + 1) n j) found

through : (bytes : List ℕ) (rva len : ℕ) (section : Option ℕ) → ((i : ℕ) → section ≡ Some i → section_contains bytes rva i ≡ true)
    → option_map (λ at. slice_range bytes at (at + len)) (option_and_then (place_in bytes rva len) section) ≡ first_bytes len (option_and_then (rest_in bytes rva) section)
through bytes rva len None inside = refl
through bytes rva len (Some i) inside = in_section bytes rva len i (inside i refl)

pub any_length : (bytes : List ℕ) (rva len : ℕ) → bytes_at bytes rva len ≡ first_bytes len (rest_at bytes rva)
unfolding bytes_at place_of rest_at section_of
any_length bytes rva len = through bytes rva len (section_of bytes rva) (λ i found. found_contains bytes rva 0 _ i found)
