-- Methods that units may call.
use Rattle.std.specs.Prelude.{Bool, true, false, not, ◌&&◌, ◌==◌, bit_and}
use Rattle.asm_image.specs.declared.method_row.MethodRow.{MethodRow}
use Rattle.signature_blobs.specs.declared.method.SigTypes.{SigTypes}
use Rattle.signature_blobs.specs.declared.method.SigTypes.TheVariants as types

-- The method is static (II.23.1.10: Static), and has no `this`.
abbrev pub is_static : MethodRow → Bool
is_static method = not (bit_and method.flags 0x0010 == 0) && not method.sig.has_this

-- Each type of the signature is in the profile.
abbrev pub are_known : SigTypes → Bool
are_known (types.Known signature) = true
are_known types.Other = false

-- Units may have an entry of the method among their callees.
abbrev pub is_callable : MethodRow → Bool
is_callable method = is_static method && not method.sig.generic && are_known method.sig.types
