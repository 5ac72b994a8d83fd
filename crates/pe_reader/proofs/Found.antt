-- What is found lies in the file.
use Rattle.std.proofs.Common.{◌≡◌, ℕ, ◌+◌, ◌≤◌, List, length, Option, Some, None, arith}
use Rattle.std.specs.Option.{option_and_then}
use Rattle.cc_base.specs.Tests.{first_of}
use Rattle.cc_base.proofs.TestLemmas.{none_before, none_behind}
use Rattle.pe_reader.specs.Places.{section_count}
use Rattle.pe_reader.specs.Addresses.{section_of, place_in, place_of}
use Rattle.pe_reader.specs.Faults.{header_tests, sections_tests, pe_tests, first_pe_fault}

place_in-lies : (bytes : List ℕ) (rva len i at : ℕ) → place_in bytes rva len i ≡ Some at → at + len ≤ length bytes
unfolding place_in
place_in-lies bytes rva len i at found = grind arith

through-lies : (bytes : List ℕ) (rva len at : ℕ) (section : Option ℕ) → option_and_then (place_in bytes rva len) section ≡ Some at → at + len ≤ length bytes
through-lies bytes rva len at None found = absurd cc
through-lies bytes rva len at (Some i) found = place_in-lies bytes rva len i at found

pub place_lies : (bytes : List ℕ) (rva len at : ℕ) → place_of bytes rva len ≡ Some at → at + len ≤ length bytes
unfolding place_of
place_lies bytes rva len at found = through-lies bytes rva len at (section_of bytes rva) found

pub headers_whole : (bytes : List ℕ) → first_of (header_tests bytes) ≡ None → first_of (sections_tests bytes (section_count bytes)) ≡ None
unfolding header_tests
headers_whole bytes none = none_behind _ _ none

pub file_whole : (bytes : List ℕ) → first_pe_fault bytes ≡ None → first_of (sections_tests bytes (section_count bytes)) ≡ None
unfolding first_pe_fault pe_tests
file_whole bytes none = headers_whole bytes (none_before _ _ none)

pub ruleset whole = (headers_whole, file_whole)
