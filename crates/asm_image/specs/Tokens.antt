-- What tokens name (ECMA-335 II.22 and III.1.9).
use Rattle.std.specs.Prelude.{ℕ, List, [], ◌==◌, ◌&&◌, nat_le, Option, Some, None, Result, Ok, Err, if◌then◌else◌, codes}
use Rattle.std.specs.Option.{option_and_then}
use Rattle.std.specs.Str.{bytes_eq}
use Rattle.cc_base.specs.Tokens.{table_of, row_of}
use Rattle.cil_model.specs.declared.place.Place.{Place}
use Rattle.cil_model.specs.declared.place.Place.TheVariants as places
use Rattle.metadata_tables.specs.Heaps.{blob_at}
use Rattle.metadata_tables.specs.Layout.{row_count, cell}
use Rattle.metadata_tables.specs.Numbers.{type_ref, type_ref_name, type_ref_namespace, stand_alone_sig, stand_alone_sig_signature}
use Rattle.signature_blobs.specs.Signatures.{local_signature}
use Rattle.signature_blobs.specs.declared.fault.SigFault.{SigFault}
use Rattle.signature_blobs.specs.declared.local.LocalSig.{LocalSig}
use Rattle.signature_blobs.specs.declared.local.LocalSig.TheVariants as locals
use Rattle.asm_image.specs.Cells.{text}

-- The row of a table that a token names: the table in the high byte, and the row in the other three.
unfoldable pub row_in : List ℕ → ℕ → ℕ → Option ℕ
row_in md table token =
    if table_of token == table && nat_le 1 (row_of token) && nat_le (row_of token) (row_count md table)
    then Some (row_of token) else None

-- What was read, where there is no fault.
abbrev pub faultless : Result LocalSig SigFault → Option LocalSig
faultless (Ok sig) = Some sig
faultless (Err fault) = None

-- The locals that a row of the table StandAloneSig says (II.22.36).
unfoldable pub locals_at : List ℕ → ℕ → Option LocalSig
locals_at md row = option_and_then (λ blob. faultless (local_signature blob)) (blob_at md (cell md stand_alone_sig row stand_alone_sig_signature))

-- The locals that a token names. The token 0 names none (II.25.4.3).
unfoldable pub locals_of : List ℕ → ℕ → Option LocalSig
locals_of md token = if token == 0 then Some (locals.Known []) else option_and_then (locals_at md) (row_in md stand_alone_sig token)

-- The type that a row of the table TypeRef names (II.22.38), where it is one of these two.
unfoldable pub element_at : List ℕ → ℕ → Option Place
element_at md row =
    if bytes_eq (text md type_ref row type_ref_namespace) (codes "System")
    then (
    if bytes_eq (text md type_ref row type_ref_name) (codes "Int32") then Some places.Int
    else if bytes_eq (text md type_ref row type_ref_name) (codes "Boolean") then Some places.Bool
    else None
    )
    else None

-- The type of an array's elements, which a token names.
unfoldable pub element_of : List ℕ → ℕ → Option Place
element_of md token = option_and_then (element_at md) (row_in md type_ref token)
