-- The limits of a method's clauses.
use Rattle.std.specs.Prelude.{ℕ, ◌+◌, Bool, false, ◌||◌, nat_lt, List, [], ◌∷◌, length, Option}
use Rattle.std.specs.Option.{option_map_or}
use Rattle.cil_model.specs.Limits.{MAX_CLAUSES, MAX_CONDITIONS, MAX_NODES, MAX_OLD_VALUES}
use Rattle.cil_model.specs.Terms.{Term, term_size, condition_depth, old_count}
use Rattle.cil_model.specs.declared.clause.ClauseKind.{ClauseKind}

-- A tree has more nodes than a clause may have, or more conditions on one way from its root to a leaf. Each part counts
-- as often as it stands in the tree.
abbrev pub is_too_large : Term → Bool
is_too_large tree = nat_lt MAX_NODES (term_size tree) || nat_lt MAX_CONDITIONS (condition_depth tree)

-- How many old values these clauses have together.
abbrev pub old_values_in : List (ClauseKind × Option Term) → ℕ
old_values_in [] = 0
old_values_in ((kind, tree) ∷ clauses) = option_map_or old_count tree 0 + old_values_in clauses

-- These are more clauses than a method may have, or more old values.
abbrev pub are_too_many : List (ClauseKind × Option Term) → Bool
are_too_many clauses = nat_lt MAX_CLAUSES (length clauses) || nat_lt MAX_OLD_VALUES (old_values_in clauses)

-- A clause is too large, or makes the clauses up to it too many.
abbrev pub passes_limit : List (ClauseKind × Option Term) → Option Term → Bool
passes_limit clauses tree = option_map_or is_too_large tree false || are_too_many clauses
