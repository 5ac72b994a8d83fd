-- What the cells of types and methods say (ECMA-335 II.22.26 and II.22.37).
use Rattle.std.specs.Prelude.{ℕ, zero, suc, ◌≤◌, List, [], Option, Result, Ok, Err, unwrap_or, nat_le, false, if◌then◌else◌}
use Rattle.metadata_tables.specs.Heaps.{string_at, blob_at, blob_offset}
use Rattle.metadata_tables.specs.Layout.{row_count, cell}
use Rattle.metadata_tables.specs.Numbers.{type_def, type_def_name, type_def_namespace, type_def_method_list, method_def, method_def_name, method_def_signature}
use Rattle.signature_blobs.specs.Signatures.{method_signature}
use Rattle.signature_blobs.specs.declared.fault.SigFault.{SigFault}
use Rattle.signature_blobs.specs.declared.method.MethodSig.{MethodSig}
use Rattle.signature_blobs.specs.declared.method.SigTypes.TheVariants as types

-- How many rows the table TypeDef has, and how many the table MethodDef.
abbrev pub type_count : List ℕ → ℕ
type_count md = row_count md type_def

abbrev pub method_count : List ℕ → ℕ
method_count md = row_count md method_def

-- A table has a row. Rows are counted from 1.
abbrev pub HasRow : List ℕ → ℕ → ℕ → Type 0
HasRow md table row = (1 ≤ row) × (row ≤ row_count md table)

-- The text that a cell names, where there is one, and the same with an empty one in place of none.
abbrev pub text_at : List ℕ → ℕ → ℕ → ℕ → Option (List ℕ)
text_at md table row column = string_at md (cell md table row column)

abbrev pub text : List ℕ → ℕ → ℕ → ℕ → List ℕ
text md table row column = unwrap_or (string_at md (cell md table row column)) []

-- The item of the heap `#Blob` that a cell names, where there is one.
abbrev pub blob : List ℕ → ℕ → ℕ → ℕ → List ℕ
blob md table row column = unwrap_or (blob_at md (cell md table row column)) []

-- TypeName and TypeNamespace of a type.
abbrev pub type_name : List ℕ → ℕ → List ℕ
type_name md row = text md type_def row type_def_name

abbrev pub namespace : List ℕ → ℕ → List ℕ
namespace md row = text md type_def row type_def_namespace

-- MethodList of a type: the method that its run of methods begins with.
abbrev pub method_list : List ℕ → ℕ → ℕ
method_list md row = cell md type_def row type_def_method_list

-- Name and Signature of a method, where they are there.
abbrev pub method_name : List ℕ → ℕ → List ℕ
method_name md row = text md method_def row method_def_name

abbrev pub signature_blob : List ℕ → ℕ → List ℕ
signature_blob md row = blob md method_def row method_def_signature

-- Where the bytes of a method's signature stand in the metadata.
abbrev pub signature_at : List ℕ → ℕ → ℕ
signature_at md row = unwrap_or (blob_offset md (cell md method_def row method_def_signature)) 0

-- A signature that was read.
abbrev pub read_signature : Result MethodSig SigFault → MethodSig
read_signature (Ok sig) = sig
read_signature (Err fault) = record { has_this = false; generic = false; types = types.Other }

unfoldable pub signature : List ℕ → ℕ → MethodSig
signature md row = read_signature (method_signature (signature_blob md row))

-- The last of the first types whose run of methods begins at or before a method, 0 where there is none.
unfoldable pub owner_among : List ℕ → ℕ → ℕ → ℕ
owner_among md row zero = 0
owner_among md row (suc types) = if nat_le (method_list md (suc types)) row then suc types else owner_among md row types

-- The type that owns a method. A type's run ends where the next one begins, and the last run after the
-- last method.
unfoldable pub owner : List ℕ → ℕ → ℕ
owner md row = owner_among md row (type_count md)

-- No run begins before that of an earlier type.
abbrev pub RunsRise : List ℕ → Type 0
RunsRise md = (i j : ℕ) → 1 ≤ i → i ≤ j → j ≤ type_count md → method_list md i ≤ method_list md j

-- A type's run begins at or before a method. Row 0 is no type.
abbrev pub Begins : List ℕ → ℕ → ℕ → Type 0
Begins md type row = 1 ≤ type → method_list md type ≤ row
