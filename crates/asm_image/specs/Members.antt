-- The names by which an assembly cites the methods of others, and by which others cite its own (ECMA-335 II.22.2,
-- II.22.5, II.22.25, II.22.37 and II.22.38).
use Rattle.std.specs.Prelude.{ℕ, zero, suc, List, [], nat_le, Option, Some, None, if◌then◌else◌}
use Rattle.std.specs.Option.{option_and_then}
use Rattle.std.specs.Result.{result_ok}
use Rattle.metadata_tables.specs.Heaps.{blob_at}
use Rattle.metadata_tables.specs.Layout.{row_count, cell}
use Rattle.metadata_tables.specs.Numbers.{type_ref, type_ref_scope, type_ref_name, type_ref_namespace, method_def, member_ref, member_ref_name, member_ref_signature, assembly, assembly_ref, assembly_ref_name}
use Rattle.metadata_tables.specs.Numbers.{assembly_name as assembly_name_column}
use Rattle.signature_blobs.specs.Signatures.{method_signature}
use Rattle.signature_blobs.specs.declared.method.MethodSig.{MethodSig}
use Rattle.asm_image.specs.Calls.{tagged_row, class_row}
use Rattle.asm_image.specs.Cells.{text_at, type_name, namespace, method_name, owner}
use Rattle.asm_image.specs.Tokens.{row_in}
use Rattle.asm_image.specs.declared.members.Member.{Member}

-- What tells a method among those of several assemblies.
pub record MethodKey : Type 0 where
  pub assembly : List ℕ
  pub namespace : List ℕ
  pub class : List ℕ
  pub name : List ℕ
  pub sig : MethodSig

-- A member as the code has it.
abbrev pub key_of : Member → MethodKey
key_of member = record {
  assembly = member.assembly.now;
  namespace = member.namespace.now;
  class = member.class.now;
  name = member.name.now;
  sig = member.sig;
}

-- What is read next, where something was read.
infixl 10 ◌>>=◌
abbrev pub ◌>>=◌ : {A B : Type 0} → Option A → (A → Option B) → Option B
(Some x) >>= f = f x
None >>= f = None

-- ---- the name of an assembly

-- That of the first row of Assembly, where there is one and its text is there.
unfoldable pub assembly_name : List ℕ → Option (List ℕ)
assembly_name md = if nat_le 1 (row_count md assembly) then text_at md assembly 1 assembly_name_column else None

-- ---- what a row of MemberRef names

-- The row of AssemblyRef that the column ResolutionScope of a TypeRef names. Its tag is 2 of 2 bits (II.24.2.6).
abbrev pub scope_row : List ℕ → ℕ → Option ℕ
scope_row md row = tagged_row md assembly_ref 2 4 (cell md type_ref row type_ref_scope)

-- The name of the assembly that a row of TypeRef is a class of.
unfoldable pub scope_name : List ℕ → ℕ → Option (List ℕ)
scope_name md row = do
  scope ← scope_row md row
  text_at md assembly_ref scope assembly_ref_name

-- The signature of a row of MemberRef, where its blob is there and reads.
unfoldable pub member_signature : List ℕ → ℕ → Option MethodSig
member_signature md row = do
  bytes ← blob_at md (cell md member_ref row member_ref_signature)
  result_ok (method_signature bytes)

-- The method that a row of MemberRef names. Its parent is a row of TypeRef, which is a class of another assembly, and
-- all its names and its signature read.
unfoldable pub member_at : List ℕ → ℕ → Option MethodKey
member_at md row = do
  parent ← class_row md row
  assembly ← scope_name md parent
  namespace ← text_at md type_ref parent type_ref_namespace
  class ← text_at md type_ref parent type_ref_name
  name ← text_at md member_ref row member_ref_name
  sig ← member_signature md row
  Some (record { assembly = assembly; namespace = namespace; class = class; name = name; sig = sig })

-- The method of another assembly that a token names.
unfoldable pub member_of : List ℕ → ℕ → Option MethodKey
member_of md token = do
  row ← row_in md member_ref token
  member_at md row

-- ---- the names of a method of the assembly

-- A class: its namespace and its name.
pub record Class : Type 0 where
  pub namespace : List ℕ
  pub name : List ℕ

-- The type of a row. Row 0 is no type, and has two empty names.
abbrev pub class_at : List ℕ → ℕ → Class
class_at md zero = record { namespace = []; name = [] }
class_at md (suc k) = record { namespace = namespace md (suc k); name = type_name md (suc k) }

abbrev pub class_by : List ℕ → Option ℕ → Class
class_by md (Some row) = class_at md (owner md row)
class_by md None = class_at md 0

-- The type that owns the method of a token.
unfoldable pub class_of : List ℕ → ℕ → Class
class_of md token = class_by md (row_in md method_def token)

abbrev pub name_by : List ℕ → Option ℕ → List ℕ
name_by md (Some row) = method_name md row
name_by md None = []

-- The name of the method of a token.
unfoldable pub name_of_method : List ℕ → ℕ → List ℕ
name_of_method md token = name_by md (row_in md method_def token)
