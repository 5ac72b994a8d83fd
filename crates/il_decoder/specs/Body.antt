-- The body of a method: a header at its address, and the code after it (II.25.4).
use Rattle.std.specs.Prelude.{◌≡◌, ℕ, ◌+◌, ◌/◌, ◌%◌, ◌^◌, List, drop, slice_index, false, ◌==◌, if◌then◌else◌, Option, Some, None, is_some, option_map}
use Rattle.std.specs.Int.{bit_at}
use Rattle.std.specs.Option.{option_and_then}
use Rattle.cc_base.specs.LittleEndian.{u16_at, u32_at}
use Rattle.cc_base.specs.Tests.{must}
use Rattle.pe_reader.specs.Addresses.{bytes_at}
use Rattle.il_decoder.specs.declared.body.Body.{Body}
use Rattle.il_decoder.specs.declared.body.Header.{Header}
use Rattle.il_decoder.specs.declared.fault.IlFault.{IlFault}
use Rattle.il_decoder.specs.declared.fault.IlFault.TheVariants as faults

-- A tiny header is one byte, with the length of the code in its high six bits (II.25.4.2). The stack has 8
-- slots, and there are no locals.
unfoldable pub tiny_header : ℕ → Header
tiny_header first =
    record { len = 1; code_len = first / 4; max_stack = 8; init_locals = false; more_sections = false; local_token = 0 }

-- A fat header is twelve bytes (II.25.4.3): its flags, with its own length in units of four bytes in their
-- top four bits, then MaxStack, CodeSize and LocalVarSigTok. None where it tells another length of itself.
-- Bit 3 of the flags is MoreSects, and bit 4 is InitLocals.
unfoldable pub fat_header : List ℕ → Option Header
fat_header bytes =
    let flags = u16_at bytes 0 in
    if flags / 2 ^ 12 == 3
    then Some (record {
      len = 12;
      code_len = u32_at bytes 4;
      max_stack = u16_at bytes 2;
      init_locals = bit_at flags 4 == 1;
      more_sections = bit_at flags 3 == 1;
      local_token = u32_at bytes 8;
    })
    else None

-- The header that begins with this byte: the low two bits tell its kind (II.25.4.1).
abbrev pub header_from : List ℕ → ℕ → ℕ → Option Header
header_from image rva first =
    if first % 4 == 2 then Some (tiny_header first)
    else if first % 4 == 3 then option_and_then fat_header (bytes_at image rva 12)
    else None

-- The header at an address, if one stands there whole.
unfoldable pub header_at : List ℕ → ℕ → Option Header
header_at image rva = option_and_then (λ found. header_from image rva (slice_index found 0)) (bytes_at image rva 1)

-- The code after a header. Both are looked up together, at the header's address.
unfoldable pub code_at : List ℕ → ℕ → Header → Option (List ℕ)
code_at image rva header = option_map (drop header.len) (bytes_at image rva (header.len + header.code_len))

-- The code of the body at an address. None where no header stands there whole, or no code after it.
unfoldable pub body_code : List ℕ → ℕ → Option (List ℕ)
body_code image rva = option_and_then (code_at image rva) (header_at image rva)

abbrev pub code_fault : List ℕ → ℕ → Option Header → Option IlFault
code_fault image rva None = Some (faults.Header 0)
code_fault image rva (Some header) = must (is_some (code_at image rva header)) (faults.Short 0)

-- What is wrong with the body at an address: no header, or a code that is not whole.
unfoldable pub body_fault : List ℕ → ℕ → Option IlFault
body_fault image rva = code_fault image rva (header_at image rva)

-- This is the body at the address: what its header says, and its code.
pub record IsBody (image : List ℕ) (rva : ℕ) (body : Body) : Type 0 where
  pub header : Header
  pub stands : header_at image rva ≡ Some header
  pub max_stack : body.max_stack ≡ header.max_stack
  pub init_locals : body.init_locals ≡ header.init_locals
  pub more_sections : body.more_sections ≡ header.more_sections
  pub local_token : body.local_token ≡ header.local_token
  pub code : code_at image rva header ≡ Some body.code.now
