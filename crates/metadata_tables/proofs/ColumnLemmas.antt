-- How many columns the tables have that a reader of assemblies names.
use Rattle.std.proofs.Common.{◌≡◌, length, refl}
use Rattle.std.specs.Prelude.{slice_index_or}
use Rattle.metadata_tables.specs.declared.schema.Column.TheVariants.{Two}
use Rattle.metadata_tables.specs.Numbers.{type_ref, type_def, method_def, member_ref, stand_alone_sig, assembly, assembly_ref, method_spec, method_def_impl_flags, method_def_flags}
use Rattle.metadata_tables.specs.Schema.{columns_of}

pub type_ref_columns : length (columns_of type_ref) ≡ 3
unfolding columns_of
type_ref_columns = refl

pub type_def_columns : length (columns_of type_def) ≡ 6
unfolding columns_of
type_def_columns = refl

pub method_def_columns : length (columns_of method_def) ≡ 6
unfolding columns_of
method_def_columns = refl

pub member_ref_columns : length (columns_of member_ref) ≡ 3
unfolding columns_of
member_ref_columns = refl

pub stand_alone_sig_columns : length (columns_of stand_alone_sig) ≡ 1
unfolding columns_of
stand_alone_sig_columns = refl

pub assembly_columns : length (columns_of assembly) ≡ 9
unfolding columns_of
assembly_columns = refl

pub assembly_ref_columns : length (columns_of assembly_ref) ≡ 9
unfolding columns_of
assembly_ref_columns = refl

pub method_spec_columns : length (columns_of method_spec) ≡ 2
unfolding columns_of
method_spec_columns = refl

-- ImplFlags and Flags have two bytes.
pub impl_flags_two : slice_index_or (columns_of method_def) method_def_impl_flags Two ≡ Two
unfolding columns_of
impl_flags_two = refl

pub flags_two : slice_index_or (columns_of method_def) method_def_flags Two ≡ Two
unfolding columns_of
flags_two = refl

pub ruleset known_columns = (type_ref_columns, type_def_columns, method_def_columns, member_ref_columns, stand_alone_sig_columns, assembly_columns, assembly_ref_columns, method_spec_columns, impl_flags_two, flags_two)
