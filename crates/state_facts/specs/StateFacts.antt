-- What is known of a point.
use Rattle.std.specs.Prelude.{ℕ, zero, suc, pos, Bool, true, List, [], slice_get, Option, Some, None}
use Rattle.array_contents.specs.Contents.{Contents}
use Rattle.domain_api.specs.declared.expr.Expr.{Expr}
use Rattle.alias_facts.specs.NullnessOf.{must_differ}
use Rattle.alias_facts.specs.PairsOf.{Pair, contains, ordered}
use Rattle.alias_facts.specs.declared.nullness.Nullness.{Nullness}
use Rattle.alias_facts.specs.declared.nullness.Nullness.TheVariants.{Null}
use Rattle.cil_model.specs.Values.{same_place}
use Rattle.number_facts.specs.Facts.{Facts}
use Rattle.number_spans.specs.Constants.{constant}
use Rattle.frame_names.specs.declared.reference.Reference.{Reference}
use Rattle.frame_names.specs.declared.var.Var.{Var}

-- What each variable has, what is known of symbols, what is known of each reference from 1 on, in order, which
-- references are not the same array, and what is known of the items of each. Symbol 0 is the number 0, and reference 0
-- is null.
pub record StateFacts : Type 0 where
  pub variables : List Var
  pub facts : Facts
  pub references : List Reference
  pub apart : List Pair
  pub contents : Contents

-- None: nothing is reached.
abbrev pub State : Type 0
State = Option StateFacts

-- The variables of a state. There are none where nothing is reached.
abbrev pub variables_in : State → List Var
variables_in None = []
variables_in (Some known) = known.variables

-- ---- references

-- What is known of a reference. None for reference 0.
unfoldable pub reference_at : List Reference → ℕ → Option Reference
reference_at references zero = None
reference_at references (suc r) = slice_get references r

abbrev pub nullness_of : Option Reference → Nullness
nullness_of None = Null
nullness_of (Some r) = r.nullness

abbrev pub nullness_at : StateFacts → ℕ → Nullness
nullness_at known r = nullness_of (reference_at known.references r)

abbrev pub length_of : Option Reference → Expr
length_of None = constant (pos 0)
length_of (Some r) = r.length

abbrev pub length_at : StateFacts → ℕ → Expr
length_at known r = length_of (reference_at known.references r)

abbrev pub both_of_same_place : Option Reference → Option Reference → Bool
both_of_same_place (Some a) (Some b) = same_place a.place b.place
both_of_same_place _ _ = true

abbrev pub of_same_place : StateFacts → ℕ → ℕ → Bool
of_same_place known r q = both_of_same_place (reference_at known.references r) (reference_at known.references q)

-- Two references are known not to be the same array: the pair is kept, their places differ, or one is null.
unfoldable pub are_apart : StateFacts → ℕ → ℕ → Bool
are_apart known r q =
    must_differ (contains known.apart (ordered r q)) (of_same_place known r q) (nullness_at known r) (nullness_at known q)
