-- Whether one state says at least as much as another.
use Rattle.std.specs.Prelude.{ℕ, ◌==◌, pos, ◌-ℤ◌, Bool, true, false, ◌&&◌, List, length, map, drop, get_or, Option, Some, None, if◌then◌else◌}
use Rattle.std.specs.List.{list_all}
use Rattle.std.specs.Ordering.{int_eq}
use Rattle.array_contents.specs.Merging as items
use Rattle.domain_api.specs.declared.expr.Expr.{Expr}
use Rattle.frame_names.specs.Binding.{FrameBinding, bound_frames}
use Rattle.frame_names.specs.Following.{all_apart, all_entailed}
use Rattle.frame_names.specs.declared.slots.Bound.{Bound}
use Rattle.merged_numbers.specs.Included.{included}
use Rattle.number_facts.specs.Gaps.{gap}
use Rattle.symbolic_values.specs.Names.{fitting, renamed_def, same_flag}
use Rattle.symbolic_values.specs.declared.def.Def.{Def}
use Rattle.symbolic_values.specs.declared.def.Def.TheVariants.{Eq, Lt, LtUn, NullTest, Sub}
use Rattle.state_facts.specs.Assuming.{definition_at}
use Rattle.merged_states.specs.Parts.{numbers_known}
use Rattle.state_facts.specs.StateFacts.{StateFacts, State}

-- ---- definitions

abbrev pub same_expr : Expr → Expr → Bool
same_expr e f = e.sym == f.sym && int_eq e.k f.k

-- Two definitions are the same.
abbrev pub same_def : Def → Def → Bool
same_def (Eq x y) (Eq z w) = same_expr x z && same_expr y w
same_def (Eq x y) _ = false
same_def (Lt x y) (Lt z w) = same_expr x z && same_expr y w
same_def (Lt x y) _ = false
same_def (LtUn x y) (LtUn z w) = same_expr x z && same_expr y w
same_def (LtUn x y) _ = false
same_def (NullTest r is) (NullTest q also) = r == q && same_flag is also
same_def (NullTest r is) _ = false
same_def (Sub x y) (Sub z w) = same_expr x z && same_expr y w
same_def (Sub x y) _ = false

abbrev pub same_defs : Option Def → Option Def → Bool
same_defs (Some a) (Some b) = same_def a b
same_defs _ _ = false

-- What a symbol is bound to, as an expression. None where its constant is none of 64 bits.
abbrev pub bound_expr : Bound → Option Expr
bound_expr x = fitting x.value.sym (x.value.k -ℤ x.offset)

abbrev pub symbol_names : FrameBinding → List (Option Expr)
symbol_names binding = map bound_expr binding.symbols

abbrev pub reference_bound : ℕ → Option ℕ
reference_bound r = Some r

abbrev pub bound_references : FrameBinding → List (Option ℕ)
bound_references binding = map reference_bound binding.references

-- The definition of what a symbol is bound to, where it is bound to a symbol alone.
abbrev pub def_bound : List (ℕ × Def) → Option Expr → Option Def
def_bound definitions None = None
def_bound definitions (Some e) = if int_eq e.k (pos 0) then definition_at definitions e.sym else None

-- The symbol of a definition is bound to one that has the same definition.
abbrev pub def_follows : List (ℕ × Def) → List (Option Expr) → List (Option ℕ) → ℕ × Def → Bool
def_follows definitions symbols references d =
    same_defs (def_bound definitions (get_or symbols d.0 None)) (renamed_def symbols references d.1)

abbrev pub definitions_follow : StateFacts → StateFacts → FrameBinding → Bool
definitions_follow a b binding =
    list_all (def_follows a.facts.definitions (symbol_names binding) (bound_references binding)) b.facts.definitions

-- ---- ranges and bounds

-- What the second state knows of symbols from 1 on is known of what they are bound to.
abbrev pub numbers_follow : StateFacts → StateFacts → FrameBinding → Bool
numbers_follow a b binding = included (numbers_known a.facts) (drop 1 binding.symbols) b.facts.ranges b.facts.bounds

-- ---- items

-- What the second state knows of the items of references from 1 on is known of what they are bound to.
abbrev pub items_follow : StateFacts → StateFacts → FrameBinding → Bool
items_follow a b binding =
    items.included (gap a.facts) (symbol_names binding) a.contents (drop 1 binding.references) b.contents

-- ---- the whole

-- All that the second state knows of what is bound is known in the first.
abbrev pub all_follows : StateFacts → StateFacts → FrameBinding → Bool
all_follows a b binding =
    all_entailed a.references b.references (drop 1 binding.references)
    && (numbers_follow a b binding
    && (definitions_follow a b binding
    && (all_apart a.references a.apart binding.references b.apart && items_follow a b binding)))

abbrev pub if_bound : StateFacts → StateFacts → Option FrameBinding → Bool
if_bound a b None = false
if_bound a b (Some binding) = all_follows a b binding

-- The second state's frame is bound to that of the first, and then all follows.
abbrev pub is_included_known : StateFacts → StateFacts → Bool
is_included_known a b =
    if_bound a b (bound_frames (gap a.facts) a.variables a.references b.variables b.references (length b.facts.ranges))

-- The first state says at least as much as the second. One that is not reached says all.
abbrev pub is_included : State → State → Bool
is_included None b = true
is_included (Some a) None = false
is_included (Some a) (Some b) = is_included_known a b
