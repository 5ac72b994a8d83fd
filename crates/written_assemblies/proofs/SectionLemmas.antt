-- What is found in a file of one section.
use Rattle.std.proofs.Common.{◌≡◌, ℕ, ◌+◌, ◌-◌, ◌<◌, ◌≤◌, List, length, Some, ap, ◌∙◌, arith}
use Rattle.std.specs.Option.{option_and_then}
use Rattle.pe_reader.specs.Places.{section_count, virtual_address, raw_size, raw_at}
use Rattle.pe_reader.specs.Addresses.{section_contains, section_from, section_of, place_in, place_of}

-- The one section: where it stands in memory, its size, and where in the file.
pub record IsOnlySection (bytes : List ℕ) (address size at : ℕ) : Type 0 where
  pub one : section_count bytes ≡ 1
  pub address_is : virtual_address bytes 0 ≡ address
  pub size_is : raw_size bytes 0 ≡ size
  pub at_is : raw_at bytes 0 ≡ at

section_there : (bytes : List ℕ) (address size at offset : ℕ) → IsOnlySection bytes address size at → offset < size → section_of bytes (address + offset) ≡ Some 0
unfolding section_of section_from section_contains
section_there bytes address size at offset only within =
    rw (only.one, only.address_is, only.size_is) (grind arith)

in_section : (bytes : List ℕ) (address size at offset len : ℕ) → IsOnlySection bytes address size at
    → offset + len ≤ size → at + size ≤ length bytes → place_in bytes (address + offset) len 0 ≡ Some (at + offset)
unfolding place_in
in_section bytes address size at offset len only within whole =
    let from : address + offset - address ≡ offset = omega arith in
    rw (only.address_is, only.size_is, only.at_is, from) (grind arith)

-- The bytes at an address in the section.
pub place_there : (bytes : List ℕ) (address size at offset len : ℕ) → IsOnlySection bytes address size at → offset < size
    → offset + len ≤ size → at + size ≤ length bytes → place_of bytes (address + offset) len ≡ Some (at + offset)
unfolding place_of
place_there bytes address size at offset len only begins ends whole =
    ap (option_and_then (place_in bytes (address + offset) len)) (section_there bytes address size at offset only begins)
    ∙ in_section bytes address size at offset len only ends whole
