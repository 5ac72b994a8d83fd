-- What tables there are (ECMA-335 II.22), and how wide their columns are (II.24.2.6).
use Rattle.std.specs.Prelude.{ℕ, ◌-◌, ◌^◌, List, [], ◌∷◌, ◌==◌, nat_lt, sum_by, slice_index, slice_index_or, if◌then◌else◌}
use Rattle.std.specs.List.{list_all}
use Rattle.std.specs.Int.{bit_at}
use Rattle.metadata_tables.specs.Numbers.{assembly, assembly_ref, decl_security, event, exported_type, field, file, generic_param, generic_param_constraint, interface_impl, manifest_resource, member_ref, method_def, method_spec, «module», module_ref, param, property, stand_alone_sig, type_def, type_ref, type_spec}
use Rattle.metadata_tables.specs.declared.schema.CodedIndex.{CodedIndex}
use Rattle.metadata_tables.specs.declared.schema.CodedIndex.TheVariants.{TypeDefOrRef, HasConstant, HasCustomAttribute, HasFieldMarshal, HasDeclSecurity, MemberRefParent, HasSemantics, MethodDefOrRef, MemberForwarded, Implementation, CustomAttributeType, ResolutionScope, TypeOrMethodDef}
use Rattle.metadata_tables.specs.declared.schema.Column.{Column}
use Rattle.metadata_tables.specs.declared.schema.Column.TheVariants.{Two, Four, Strings, Guid, Blob, Row, Coded}

-- The columns of the tables 00 to 2c. A table without columns is none (II.22).
abbrev pub schemas : List (List Column)
schemas =
    -- 00 Module
    (Two ∷ Strings ∷ Guid ∷ Guid ∷ Guid ∷ []) ∷
    -- 01 TypeRef
    ((Coded ResolutionScope) ∷ Strings ∷ Strings ∷ []) ∷
    -- 02 TypeDef
    (Four ∷ Strings ∷ Strings ∷ (Coded TypeDefOrRef) ∷ (Row field) ∷ (Row method_def) ∷ []) ∷
    -- 03 none
    [] ∷
    -- 04 Field
    (Two ∷ Strings ∷ Blob ∷ []) ∷
    -- 05 none
    [] ∷
    -- 06 MethodDef
    (Four ∷ Two ∷ Two ∷ Strings ∷ Blob ∷ (Row param) ∷ []) ∷
    -- 07 none
    [] ∷
    -- 08 Param
    (Two ∷ Two ∷ Strings ∷ []) ∷
    -- 09 InterfaceImpl
    ((Row type_def) ∷ (Coded TypeDefOrRef) ∷ []) ∷
    -- 0a MemberRef
    ((Coded MemberRefParent) ∷ Strings ∷ Blob ∷ []) ∷
    -- 0b Constant
    (Two ∷ (Coded HasConstant) ∷ Blob ∷ []) ∷
    -- 0c CustomAttribute
    ((Coded HasCustomAttribute) ∷ (Coded CustomAttributeType) ∷ Blob ∷ []) ∷
    -- 0d FieldMarshal
    ((Coded HasFieldMarshal) ∷ Blob ∷ []) ∷
    -- 0e DeclSecurity
    (Two ∷ (Coded HasDeclSecurity) ∷ Blob ∷ []) ∷
    -- 0f ClassLayout
    (Two ∷ Four ∷ (Row type_def) ∷ []) ∷
    -- 10 FieldLayout
    (Four ∷ (Row field) ∷ []) ∷
    -- 11 StandAloneSig
    (Blob ∷ []) ∷
    -- 12 EventMap
    ((Row type_def) ∷ (Row event) ∷ []) ∷
    -- 13 none
    [] ∷
    -- 14 Event
    (Two ∷ Strings ∷ (Coded TypeDefOrRef) ∷ []) ∷
    -- 15 PropertyMap
    ((Row type_def) ∷ (Row property) ∷ []) ∷
    -- 16 none
    [] ∷
    -- 17 Property
    (Two ∷ Strings ∷ Blob ∷ []) ∷
    -- 18 MethodSemantics
    (Two ∷ (Row method_def) ∷ (Coded HasSemantics) ∷ []) ∷
    -- 19 MethodImpl
    ((Row type_def) ∷ (Coded MethodDefOrRef) ∷ (Coded MethodDefOrRef) ∷ []) ∷
    -- 1a ModuleRef
    (Strings ∷ []) ∷
    -- 1b TypeSpec
    (Blob ∷ []) ∷
    -- 1c ImplMap
    (Two ∷ (Coded MemberForwarded) ∷ Strings ∷ (Row module_ref) ∷ []) ∷
    -- 1d FieldRVA
    (Four ∷ (Row field) ∷ []) ∷
    -- 1e none
    [] ∷
    -- 1f none
    [] ∷
    -- 20 Assembly
    (Four ∷ Two ∷ Two ∷ Two ∷ Two ∷ Four ∷ Blob ∷ Strings ∷ Strings ∷ []) ∷
    -- 21 AssemblyProcessor
    (Four ∷ []) ∷
    -- 22 AssemblyOS
    (Four ∷ Four ∷ Four ∷ []) ∷
    -- 23 AssemblyRef
    (Two ∷ Two ∷ Two ∷ Two ∷ Four ∷ Blob ∷ Strings ∷ Strings ∷ Blob ∷ []) ∷
    -- 24 AssemblyRefProcessor
    (Four ∷ (Row assembly_ref) ∷ []) ∷
    -- 25 AssemblyRefOS
    (Four ∷ Four ∷ Four ∷ (Row assembly_ref) ∷ []) ∷
    -- 26 File
    (Four ∷ Strings ∷ Blob ∷ []) ∷
    -- 27 ExportedType
    (Four ∷ Four ∷ Strings ∷ Strings ∷ (Coded Implementation) ∷ []) ∷
    -- 28 ManifestResource
    (Four ∷ Four ∷ Strings ∷ (Coded Implementation) ∷ []) ∷
    -- 29 NestedClass
    ((Row type_def) ∷ (Row type_def) ∷ []) ∷
    -- 2a GenericParam
    (Two ∷ Two ∷ (Coded TypeOrMethodDef) ∷ Strings ∷ []) ∷
    -- 2b MethodSpec
    ((Coded MethodDefOrRef) ∷ Blob ∷ []) ∷
    -- 2c GenericParamConstraint
    ((Row generic_param) ∷ (Coded TypeDefOrRef) ∷ []) ∷
    []

-- The columns of the table of a number, none where there is no such table.
unfoldable pub columns_of : ℕ → List Column
columns_of table = slice_index_or schemas table []

-- The tables that a coded index names, in the order of their tags (II.24.2.6).
abbrev pub tables_of : CodedIndex → List ℕ
tables_of TypeDefOrRef = type_def ∷ type_ref ∷ type_spec ∷ []
tables_of HasConstant = field ∷ param ∷ property ∷ []
tables_of HasCustomAttribute = method_def ∷ field ∷ type_ref ∷ type_def ∷ param ∷ interface_impl ∷ member_ref ∷ «module» ∷ decl_security ∷ property ∷ event ∷ stand_alone_sig ∷ module_ref ∷ type_spec ∷ assembly ∷ assembly_ref ∷ file ∷ exported_type ∷ manifest_resource ∷ generic_param ∷ generic_param_constraint ∷ method_spec ∷ []
tables_of HasFieldMarshal = field ∷ param ∷ []
tables_of HasDeclSecurity = type_def ∷ method_def ∷ assembly ∷ []
tables_of MemberRefParent = type_def ∷ type_ref ∷ module_ref ∷ method_def ∷ type_spec ∷ []
tables_of HasSemantics = event ∷ property ∷ []
tables_of MethodDefOrRef = method_def ∷ member_ref ∷ []
tables_of MemberForwarded = field ∷ method_def ∷ []
tables_of Implementation = file ∷ assembly_ref ∷ exported_type ∷ []
-- of the tags 2 and 3; the others are not used
tables_of CustomAttributeType = method_def ∷ member_ref ∷ []
tables_of ResolutionScope = «module» ∷ module_ref ∷ assembly_ref ∷ type_ref ∷ []
tables_of TypeOrMethodDef = type_def ∷ method_def ∷ []

-- How many of its lowest bits are the tag.
abbrev pub tag_bits_of : CodedIndex → ℕ
tag_bits_of TypeDefOrRef = 2
tag_bits_of HasConstant = 2
tag_bits_of HasCustomAttribute = 5
tag_bits_of HasFieldMarshal = 1
tag_bits_of HasDeclSecurity = 2
tag_bits_of MemberRefParent = 3
tag_bits_of HasSemantics = 1
tag_bits_of MethodDefOrRef = 1
tag_bits_of MemberForwarded = 1
tag_bits_of Implementation = 2
tag_bits_of CustomAttributeType = 3
tag_bits_of ResolutionScope = 2
tag_bits_of TypeOrMethodDef = 1

-- The bytes of an index that has this many bits for the row, over the row counts of its tables.
abbrev pub row_index_width : List ℕ → List ℕ → ℕ → ℕ
row_index_width counts tables bits = if list_all (λ table. nat_lt (slice_index counts table) (2 ^ bits)) tables then 2 else 4

-- The bytes of an index into a heap, whose indexes are wide where this bit of HeapSizes is set.
abbrev pub heap_index_width : ℕ → ℕ → ℕ
heap_index_width heap_sizes bit = if bit_at heap_sizes bit == 1 then 4 else 2

-- The bytes of a column, over the row counts of all tables and HeapSizes.
unfoldable pub width : List ℕ → ℕ → Column → ℕ
width counts heap_sizes Two = 2
width counts heap_sizes Four = 4
width counts heap_sizes Strings = heap_index_width heap_sizes 0
width counts heap_sizes Guid = heap_index_width heap_sizes 1
width counts heap_sizes Blob = heap_index_width heap_sizes 2
width counts heap_sizes (Row table) = row_index_width counts (table ∷ []) 16
width counts heap_sizes (Coded kind) = row_index_width counts (tables_of kind) (16 - tag_bits_of kind)

-- The bytes of some columns side by side.
abbrev pub total_width : List ℕ → ℕ → List Column → ℕ
total_width counts heap_sizes columns = sum_by (width counts heap_sizes) columns
