-- What the steps of the reader promise.
use Rattle.std.specs.Prelude.{◌≡◌, ℕ, List}
use Rattle.pe_reader.specs.declared.sections.Section.{Section}
use Rattle.pe_reader.specs.declared.sections.Sections.{Sections}
use Rattle.pe_reader.specs.Places.{sections_at, section_count, virtual_address, raw_size, raw_at}

-- These are the section headers of the file.
pub record AreSections (bytes : List ℕ) (sections : Sections) : Type 0 where
  pub place : sections.at ≡ sections_at bytes
  pub number : sections.count ≡ section_count bytes

-- This is what the header of section i says.
pub record IsSection (bytes : List ℕ) (i : ℕ) (section : Section) : Type 0 where
  pub address : section.address ≡ virtual_address bytes i
  pub len : section.len ≡ raw_size bytes i
  pub place : section.place ≡ raw_at bytes i
