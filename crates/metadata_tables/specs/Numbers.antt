-- The numbers of tables and of columns (ECMA-335 II.22). Columns are counted from 0.
use Rattle.std.specs.Prelude.{ℕ}

-- ---- tables

-- II.22.30
abbrev pub «module» : ℕ
«module» = 0x00

-- II.22.38
abbrev pub type_ref : ℕ
type_ref = 0x01

-- II.22.37
abbrev pub type_def : ℕ
type_def = 0x02

-- II.22.15
abbrev pub field : ℕ
field = 0x04

-- II.22.26
abbrev pub method_def : ℕ
method_def = 0x06

-- II.22.33
abbrev pub param : ℕ
param = 0x08

-- II.22.23
abbrev pub interface_impl : ℕ
interface_impl = 0x09

-- II.22.25
abbrev pub member_ref : ℕ
member_ref = 0x0a

-- II.22.11
abbrev pub decl_security : ℕ
decl_security = 0x0e

-- II.22.36
abbrev pub stand_alone_sig : ℕ
stand_alone_sig = 0x11

-- II.22.13
abbrev pub event : ℕ
event = 0x14

-- II.22.34
abbrev pub property : ℕ
property = 0x17

-- II.22.31
abbrev pub module_ref : ℕ
module_ref = 0x1a

-- II.22.39
abbrev pub type_spec : ℕ
type_spec = 0x1b

-- II.22.2
abbrev pub assembly : ℕ
assembly = 0x20

-- II.22.5
abbrev pub assembly_ref : ℕ
assembly_ref = 0x23

-- II.22.19
abbrev pub file : ℕ
file = 0x26

-- II.22.14
abbrev pub exported_type : ℕ
exported_type = 0x27

-- II.22.24
abbrev pub manifest_resource : ℕ
manifest_resource = 0x28

-- II.22.20
abbrev pub generic_param : ℕ
generic_param = 0x2a

-- II.22.29
abbrev pub method_spec : ℕ
method_spec = 0x2b

-- II.22.21
abbrev pub generic_param_constraint : ℕ
generic_param_constraint = 0x2c

-- ---- columns, each under its table's name

-- II.22.38
abbrev pub type_ref_scope : ℕ
type_ref_scope = 0

abbrev pub type_ref_name : ℕ
type_ref_name = 1

abbrev pub type_ref_namespace : ℕ
type_ref_namespace = 2

-- II.22.37
abbrev pub type_def_name : ℕ
type_def_name = 1

abbrev pub type_def_namespace : ℕ
type_def_namespace = 2

abbrev pub type_def_method_list : ℕ
type_def_method_list = 5

-- II.22.26
abbrev pub method_def_rva : ℕ
method_def_rva = 0

abbrev pub method_def_impl_flags : ℕ
method_def_impl_flags = 1

abbrev pub method_def_flags : ℕ
method_def_flags = 2

abbrev pub method_def_name : ℕ
method_def_name = 3

abbrev pub method_def_signature : ℕ
method_def_signature = 4

-- II.22.25
abbrev pub member_ref_class : ℕ
member_ref_class = 0

abbrev pub member_ref_name : ℕ
member_ref_name = 1

abbrev pub member_ref_signature : ℕ
member_ref_signature = 2

-- II.22.36
abbrev pub stand_alone_sig_signature : ℕ
stand_alone_sig_signature = 0

-- II.22.29
abbrev pub method_spec_method : ℕ
method_spec_method = 0

abbrev pub method_spec_instantiation : ℕ
method_spec_instantiation = 1

-- II.22.2
abbrev pub assembly_name : ℕ
assembly_name = 7

-- II.22.5
abbrev pub assembly_ref_name : ℕ
assembly_ref_name = 6
