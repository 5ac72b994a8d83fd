-- What a file that was read keeps beside its bytes.
use Rattle.std.specs.Prelude.{◌≡◌, Some, None}
use Rattle.cc_base.specs.Slices.{IsShort}
use Rattle.pe_reader.specs.declared.image.Image.TheInside.{Inside}
use Rattle.pe_reader.specs.Addresses.{metadata_size, metadata_place}
use Rattle.pe_reader.specs.Faults.{first_pe_fault}
use Rattle.pe_reader.specs.Reading.{AreSections}

-- The file has no fault, and the numbers are those of its headers.
pub record IsImage (image : Inside) : Type 0 where
  pub small : IsShort image.bytes.now
  pub accepted : first_pe_fault image.bytes.now ≡ None
  pub sections : AreSections image.bytes.now image.sections
  pub metadata : metadata_place image.bytes.now ≡ Some image.metadata_at
  pub metadata_len : image.metadata_len ≡ metadata_size image.bytes.now
