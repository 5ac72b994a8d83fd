-- The forms of what is known, as tests.
use Rattle.std.specs.Prelude.{ℕ, ◌+◌, ◌==◌, nat_le, pos, negsuc, Bool, true, false, ◌&&◌, int_le, List, [], ◌∷◌, length}
use Rattle.std.specs.List.{list_all}
use Rattle.alias_facts.specs.PairsOf.{Pair}
use Rattle.array_contents.specs.FormTest.{are_formed, is_narrow}
use Rattle.cil_model.specs.declared.place.Place.{Place}
use Rattle.cil_model.specs.declared.place.Place.TheVariants as places
use Rattle.domain_api.specs.declared.expr.Expr.{Expr}
use Rattle.pentagon_domain.specs.declared.bound_row.BoundRow.{BoundRow}
use Rattle.symbolic_values.specs.declared.def.Def.{Def}
use Rattle.symbolic_values.specs.declared.def.Def.TheVariants.{Eq, Lt, LtUn, NullTest, Sub}
use Rattle.abs_state.specs.StateParts.{StateParts}
use Rattle.state_facts.specs.Forms.{lengths_of}
use Rattle.frame_names.specs.declared.reference.Reference.{Reference}
use Rattle.frame_names.specs.declared.var.Var.{Var}
use Rattle.frame_names.specs.declared.var.Var.TheVariants as vars

abbrev pub has : ℕ → Expr → Bool
has symbols e = nat_le e.sym symbols

abbrev pub is_number : ℕ → Expr → Bool
is_number symbols e = has symbols e && (int_le (negsuc 4294967295) e.k && int_le e.k (pos 4294967296))

abbrev pub is_var : (symbols references : ℕ) → Var → Bool
is_var symbols references (vars.Number e) = is_number symbols e
is_var symbols references (vars.Reference r) = nat_le r references
is_var symbols references vars.Text = true
is_var symbols references (vars.Address r e) = nat_le r references && is_number symbols e

abbrev pub is_array_place : Place → Bool
is_array_place places.Bools = true
is_array_place places.Ints = true
is_array_place _ = false

abbrev pub is_reference : ℕ → Reference → Bool
is_reference symbols r = is_array_place r.place && is_number symbols r.length

abbrev pub is_def : (symbols references : ℕ) → Def → Bool
is_def symbols references (Eq a b) = has symbols a && has symbols b
is_def symbols references (Lt a b) = has symbols a && has symbols b
is_def symbols references (LtUn a b) = has symbols a && has symbols b
is_def symbols references (Sub a b) = has symbols a && has symbols b
is_def symbols references (NullTest r is) = nat_le r references

abbrev pub is_definition : (symbols references : ℕ) → (ℕ × Def) → Bool
is_definition symbols references d = nat_le d.0 symbols && is_def symbols references d.1

abbrev pub is_bound : ℕ → BoundRow → Bool
is_bound symbols row = nat_le row.s symbols && nat_le row.t symbols

abbrev pub is_pair : ℕ → Pair → Bool
is_pair references p = nat_le p.0 references && nat_le p.1 references

-- Symbols rise, from a least one on.
abbrev pub rise_from : ℕ → List (ℕ × Def) → Bool
rise_from least [] = true
rise_from least (d ∷ definitions) = nat_le least d.0 && rise_from (d.0 + 1) definitions

-- Symbol 0 has no definition.
abbrev pub are_rising : List (ℕ × Def) → Bool
are_rising definitions = rise_from 1 definitions

abbrev pub is_none : {X : Type 0} → List X → Bool
is_none xs = length xs == 0

abbrev pub is_empty : StateParts → Bool
is_empty parts =
    is_none parts.variables && (is_none parts.ranges && (is_none parts.definitions
    && (is_none parts.bounds && (is_none parts.references && (is_none parts.apart && is_none parts.contents)))))

-- Of symbols: ranges are of int32, definitions rise and name what is there, and so do bounds.
unfoldable pub has_numbers : StateParts → Bool
has_numbers parts =
    list_all is_narrow parts.ranges
    && (are_rising parts.definitions
    && (list_all (is_definition (length parts.ranges) (length parts.references)) parts.definitions
    && list_all (is_bound (length parts.ranges)) parts.bounds))

abbrev pub has_variables : StateParts → Bool
has_variables parts = list_all (is_var (length parts.ranges) (length parts.references)) parts.variables

-- Of references: lengths are there, and so are those that are apart.
unfoldable pub has_references : StateParts → Bool
has_references parts =
    list_all (is_reference (length parts.ranges)) parts.references
    && list_all (is_pair (length parts.references)) parts.apart

abbrev pub names_known : StateParts → Bool
names_known parts = has_numbers parts && (has_variables parts && has_references parts)

-- There are segments for each reference.
abbrev pub has_contents : StateParts → Bool
has_contents parts = are_formed (length parts.ranges) (lengths_of parts.references) parts.contents

abbrev pub has_form : StateParts → Bool
has_form parts = names_known parts && has_contents parts
