-- The rows of the tables (ECMA-335 II.22).
use Rattle.std.specs.Prelude.{ℕ, ◌+◌, List, [], ◌∷◌, ◌++◌, length, map, flat_map, position, unwrap_or, Bool, if◌then◌else◌, ◌==◌}
use Rattle.std.specs.List.{range_with_len}
use Rattle.asm_writer.specs.declared.blob.Blob.{Blob}
use Rattle.asm_writer.specs.declared.blob.Blob.TheVariants as blobs
use Rattle.asm_writer.specs.declared.field.Field.{Field}
use Rattle.asm_writer.specs.declared.field.Field.TheVariants as fields
use Rattle.asm_writer.specs.declared.field.Field.TheVariants.{Plain, Strings, Guid, Row, Coded}
use Rattle.asm_writer.specs.declared.name.ExternPart.TheVariants as parts
use Rattle.asm_writer.specs.declared.name.Name.{Name}
use Rattle.asm_writer.specs.declared.name.Name.TheVariants as names
use Rattle.asm_writer.specs.declared.number.Number.TheVariants.{Two, Four}
use Rattle.asm_writer.specs.declared.plan.MethodPlan.{MethodPlan}
use Rattle.asm_writer.specs.declared.table.CodedIndex.TheVariants.{TypeDefOrRef, MemberRefParent, MethodDefOrRef, ResolutionScope}
use Rattle.asm_writer.specs.declared.table.Table.{Table}
use Rattle.asm_writer.specs.declared.table.Table.TheVariants as tables
use Rattle.asm_writer.specs.Bodies.{has_locals}
use Rattle.asm_writer.specs.Each.{each_from}
use Rattle.asm_writer.specs.Names.{name_index}

-- The row of the first that has the name, where the rows have these names.
abbrev pub row_named : Name → List Name → ℕ
row_named name among = unwrap_or (position (λ other. name_index other == name_index name) among) 0 + 1

-- Module (II.22.30): its generation, its name, and the first GUID.
abbrev pub module_rows : List (List Field)
module_rows = (Plain (Two 0) ∷ Strings names.File ∷ Guid 1 ∷ Guid 0 ∷ Guid 0 ∷ []) ∷ []

-- AssemblyRef (II.22.5): its version, flags, key, name, culture and hash.
abbrev pub assemblies : List Name
assemblies = names.Mscorlib ∷ []

abbrev pub assembly_ref_row : Name → List Field
assembly_ref_row name =
    Plain (Two 0) ∷ Plain (Two 0) ∷ Plain (Two 0) ∷ Plain (Two 0) ∷ Plain (Four 0)
    ∷ fields.Blobs blobs.Empty ∷ Strings name ∷ Strings names.Empty ∷ fields.Blobs blobs.Empty ∷ []

-- TypeRef (II.22.38): types of `mscorlib`, with their names and namespaces.
abbrev pub types : List Name
types = names.Object ∷ names.Int32 ∷ names.Boolean ∷ names.Contract ∷ []

abbrev pub namespace_of : Name → Name
namespace_of names.Contract = names.Contracts
namespace_of _ = names.System

abbrev pub type_ref_row : Name → List Field
type_ref_row name =
    Coded ResolutionScope tables.AssemblyRef (row_named names.Mscorlib assemblies)
    ∷ Strings name ∷ Strings (namespace_of name) ∷ []

-- TypeDef (II.22.37): flags, name, namespace, what it extends, and the first of its fields and of its methods.
-- `<Module>` has none, and the class, which extends Object, has all.
abbrev pub type_def_rows : List (List Field)
type_def_rows =
    (Plain (Four 0) ∷ Strings names.Global ∷ Strings names.Empty
    ∷ Coded TypeDefOrRef tables.TypeDef 0
    ∷ Row tables.Field 1 ∷ Row tables.MethodDef 1 ∷ [])
    ∷ (Plain (Four 0) ∷ Strings names.Class ∷ Strings names.Namespace
    ∷ Coded TypeDefOrRef tables.TypeRef (row_named names.Object types)
    ∷ Row tables.Field 1 ∷ Row tables.MethodDef 1 ∷ [])
    ∷ []

-- MethodAttributes (II.23.1.10): Static, or none.
abbrev pub method_flags : Bool → ℕ
method_flags is_static = if is_static then 0x10 else 0

-- MethodDef (II.22.26): the body, ImplFlags, the flags, the name, the signature, and no parameters.
abbrev pub method_row : ℕ → MethodPlan → List Field
method_row index m =
    fields.MethodBody index ∷ Plain (Two 0) ∷ Plain (Two (method_flags m.is_static))
    ∷ fields.MethodName index ∷ fields.MethodSignature index ∷ Row tables.Param 1 ∷ []

-- MemberRef (II.22.25): the contract calls, each with its name and the kind of its signature.
abbrev pub calls : List (Name × Blob)
calls =
    (names.Requires, blobs.Condition) ∷ (names.Requires, blobs.ConditionAndMessage)
    ∷ (names.Ensures, blobs.Condition) ∷ (names.Ensures, blobs.ConditionAndMessage)
    ∷ (names.Assert, blobs.Condition) ∷ (names.Assert, blobs.ConditionAndMessage)
    ∷ (names.Assume, blobs.Condition) ∷ (names.Assume, blobs.ConditionAndMessage)
    ∷ (names.EndContractBlock, blobs.Nothing)
    ∷ (names.Result, blobs.Result)
    ∷ (names.OldValue, blobs.OldValue) ∷ []

abbrev pub member_ref_row : Name × Blob → List Field
member_ref_row (name, signature) =
    Coded MemberRefParent tables.TypeRef (row_named names.Contract types)
    ∷ Strings name ∷ fields.Blobs signature ∷ []

-- The row of the first call of this name.
abbrev pub call_row : Name → ℕ
call_row name = row_named name (map (λ call. call.0) calls)

-- StandAloneSig (II.22.36): the locals of each method that has any.
abbrev pub locals_fields : ℕ → List Field
locals_fields index = fields.MethodLocals index ∷ []

-- Assembly (II.22.2): no hash, version, flags and key; its name, and no culture.
abbrev pub assembly_rows : List (List Field)
assembly_rows =
    (Plain (Four 0) ∷ Plain (Two 0) ∷ Plain (Two 0) ∷ Plain (Two 0) ∷ Plain (Two 0) ∷ Plain (Four 0)
    ∷ fields.Blobs blobs.Empty ∷ fields.OwnName ∷ Strings names.Empty ∷ [])
    ∷ []

-- MethodSpec (II.22.29): `Result`, then `OldValue`, by each type.
abbrev pub instantiations : List Blob
instantiations = blobs.OfBool ∷ blobs.OfInt ∷ blobs.OfBools ∷ blobs.OfInts ∷ []

abbrev pub method_spec_row : Name → Blob → List Field
method_spec_row call by = Coded MethodDefOrRef tables.MemberRef (call_row call) ∷ fields.Blobs by ∷ []

-- The rows that hang neither on the methods nor on the externs.
abbrev pub fixed_rows : Table → List (List Field)
fixed_rows tables.Module = module_rows
fixed_rows tables.TypeRef = map type_ref_row types
fixed_rows tables.TypeDef = type_def_rows
fixed_rows tables.MemberRef = map member_ref_row calls
fixed_rows tables.Assembly = assembly_rows
fixed_rows tables.AssemblyRef = map assembly_ref_row assemblies
fixed_rows tables.MethodSpec =
    map (method_spec_row names.Result) instantiations ++ map (method_spec_row names.OldValue) instantiations
fixed_rows _ = []

-- The rows that a table has for the method of this index.
abbrev pub rows_of_method : Table → ℕ → MethodPlan → List (List Field)
rows_of_method tables.MethodDef index m = method_row index m ∷ []
rows_of_method tables.StandAloneSig index m = if has_locals m then locals_fields index ∷ [] else []
rows_of_method _ index m = []

-- The row of the extern of this index in a table whose rows of externs follow these.
abbrev pub extern_row : List Name → ℕ → ℕ
extern_row before index = index + (length before + 1)

-- Its assembly, its class there, and the method itself.
abbrev pub extern_assembly_row : ℕ → List Field
extern_assembly_row index =
    Plain (Two 0) ∷ Plain (Two 0) ∷ Plain (Two 0) ∷ Plain (Two 0) ∷ Plain (Four 0)
    ∷ fields.Blobs blobs.Empty ∷ fields.ExternName index parts.Assembly ∷ Strings names.Empty ∷ fields.Blobs blobs.Empty ∷ []

abbrev pub extern_type_row : ℕ → List Field
extern_type_row index =
    Coded ResolutionScope tables.AssemblyRef (extern_row assemblies index)
    ∷ fields.ExternName index parts.Class ∷ fields.ExternName index parts.Namespace ∷ []

abbrev pub extern_member_row : ℕ → List Field
extern_member_row index =
    Coded MemberRefParent tables.TypeRef (extern_row types index)
    ∷ fields.ExternName index parts.Name ∷ fields.ExternSignature index ∷ []

-- The rows that a table has for the extern of this index.
abbrev pub rows_of_extern : Table → ℕ → List (List Field)
rows_of_extern tables.AssemblyRef index = extern_assembly_row index ∷ []
rows_of_extern tables.TypeRef index = extern_type_row index ∷ []
rows_of_extern tables.MemberRef index = extern_member_row index ∷ []
rows_of_extern _ index = []

-- The rows that a table has for so many externs.
unfoldable pub extern_rows : Table → ℕ → List (List Field)
extern_rows table externs = flat_map (rows_of_extern table) (range_with_len 0 externs)

-- The rows of a table, where there are so many externs.
abbrev pub table_rows : List MethodPlan → ℕ → Table → List (List Field)
table_rows methods externs tables.MethodDef = each_from 0 (rows_of_method tables.MethodDef) methods
table_rows methods externs tables.StandAloneSig = each_from 0 (rows_of_method tables.StandAloneSig) methods
table_rows methods externs tables.TypeRef = fixed_rows tables.TypeRef ++ extern_rows tables.TypeRef externs
table_rows methods externs tables.MemberRef = fixed_rows tables.MemberRef ++ extern_rows tables.MemberRef externs
table_rows methods externs tables.AssemblyRef = fixed_rows tables.AssemblyRef ++ extern_rows tables.AssemblyRef externs
table_rows methods externs table = fixed_rows table
