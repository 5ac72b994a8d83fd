-- What is known where a comparison is assumed to hold, or not to hold. None: nothing is reached then.
use Rattle.std.specs.Prelude.{ℕ, zero, suc, ◌==◌, ◌-◌, pos, set, Bool, true, false, ◌&&◌, List, [], ◌∷◌, Option, Some, None, if◌then◌else◌}
use Rattle.std.specs.Option.{option_and_then, option_map}
use Rattle.std.specs.Ordering.{int_eq}
use Rattle.alias_facts.specs.declared.nullness.Nullness.{Nullness}
use Rattle.alias_facts.specs.declared.nullness.Nullness.TheVariants.{May, NotNull, Null}
use Rattle.cil_model.specs.declared.instruction.CmpOp.{CmpOp}
use Rattle.cil_model.specs.declared.instruction.CmpOp.TheVariants as comparisons
use Rattle.domain_api.specs.declared.expr.Expr.{Expr}
use Rattle.number_facts.specs.Assume as numbers
use Rattle.number_facts.specs.Ends.{range_of}
use Rattle.number_facts.specs.Facts.{Facts, IsNamed}
use Rattle.number_spans.specs.Spans.{is_not_negative}
use Rattle.symbolic_values.specs.Names.{same_flag}
use Rattle.symbolic_values.specs.declared.def.Def.{Def}
use Rattle.symbolic_values.specs.declared.def.Def.TheVariants.{Eq, Lt, LtUn, NullTest, Sub}
use Rattle.state_facts.specs.Comparing.{null_tested}
use Rattle.state_facts.specs.StateFacts.{StateFacts, nullness_at, reference_at}
use Rattle.frame_names.specs.declared.reference.Reference.{Reference}
use Rattle.state_facts.specs.declared.test.Test.{Test}
use Rattle.state_facts.specs.declared.test.Test.TheVariants.{Compares, IsNull}
use Rattle.frame_names.specs.declared.var.Var.{Var}
use Rattle.frame_names.specs.declared.var.Var.TheVariants as vars

-- ---- null

abbrev pub null_if : Bool → Nullness
null_if is = if is then Null else NotNull

-- It is known that a reference is not as a test says.
abbrev pub contradicts : Nullness → Bool → Bool
contradicts May is = false
contradicts NotNull is = is
contradicts Null is = same_flag is false

abbrev pub with_told : StateFacts → ℕ → Nullness → Option Reference → StateFacts
with_told known r told None = known
with_told known r told (Some reference) =
    record known { references = set known.references (r - 1) (record reference { nullness = told }) }

-- That of reference 0 is never changed.
unfoldable pub with_nullness : StateFacts → ℕ → Nullness → StateFacts
with_nullness known r told = with_told known r told (reference_at known.references r)

-- A reference is null, or is not.
unfoldable pub with_null : ℕ → Bool → StateFacts → Option StateFacts
with_null r is known = if contradicts (nullness_at known r) is then None else Some (with_nullness known r (null_if is))

-- Two references are the same, or are not. Of two other than 0 nothing is known then.
abbrev pub with_null_tested : Option ℕ → Bool → StateFacts → Option StateFacts
with_null_tested (Some r) is known = with_null r is known
with_null_tested None is known = Some known

abbrev pub with_same : ℕ → ℕ → Bool → StateFacts → Option StateFacts
with_same r q is known = with_null_tested (null_tested r q) is known

-- ---- what follows by a definition

abbrev pub is_zero : Expr → Bool
is_zero e = e.sym == 0 && int_eq e.k (pos 0)

-- The symbol of an expression without a constant.
abbrev pub symbol_alone : Expr → Option ℕ
symbol_alone e = if int_eq e.k (pos 0) then Some e.sym else None

-- The symbol that is compared with 0.
abbrev pub symbol_with_zero : Expr → Expr → Option ℕ
symbol_with_zero a b = if is_zero b then symbol_alone a else if is_zero a then symbol_alone b else None

-- Where 0 is less than a symbol, both taken as unsigned, and this is not known to be an order of signed numbers, the
-- symbol differs from 0.
unfoldable pub symbol_above_zero : Facts → Expr → Expr → Option ℕ
symbol_above_zero facts a b =
    if is_not_negative (range_of facts b) then None else if is_zero a then symbol_alone b else None

abbrev pub with_flag : Bool → Option ℕ → Option (ℕ × Bool)
with_flag so symbol = option_map (λ s. (s, so)) symbol

-- The symbol that a comparison which holds tells not to be 0, or to be 0.
unfoldable pub symbol_told : Facts → CmpOp → Expr → Expr → Option (ℕ × Bool)
symbol_told facts comparisons.Eq a b = with_flag false (symbol_with_zero a b)
symbol_told facts comparisons.NeUn a b = with_flag true (symbol_with_zero a b)
symbol_told facts comparisons.LtUn a b = with_flag true (symbol_above_zero facts a b)
symbol_told facts comparisons.GtUn a b = with_flag true (symbol_above_zero facts b a)
symbol_told facts comparisons.Lt a b = None
symbol_told facts comparisons.Gt a b = None
symbol_told facts comparisons.Le a b = None
symbol_told facts comparisons.Ge a b = None
symbol_told facts comparisons.LeUn a b = None
symbol_told facts comparisons.GeUn a b = None

abbrev pub definition_at : List (ℕ × Def) → ℕ → Option Def
definition_at [] symbol = None
definition_at (d ∷ definitions) symbol = if d.0 == symbol then Some d.1 else definition_at definitions symbol

-- What a definition says where its symbol is 1, or is 0. A difference is no truth.
abbrev pub told_by : Bool → Def → Option Test
told_by so (Eq a b) = Some (Compares comparisons.Eq a b so)
told_by so (Lt a b) = Some (Compares comparisons.Lt a b so)
told_by so (LtUn a b) = Some (Compares comparisons.LtUn a b so)
told_by so (NullTest r is) = Some (IsNull r (same_flag is so))
told_by so (Sub a b) = None

abbrev pub told_of : List (ℕ × Def) → ℕ × Bool → Option Test
told_of definitions told = option_and_then (told_by told.1) (definition_at definitions told.0)

-- What follows from a test.
unfoldable pub following : StateFacts → Test → Option Test
following known (Compares op a b holds) =
    option_and_then (told_of known.facts.definitions)
    (symbol_told known.facts (if holds then op else numbers.contrary op) a b)
following known (IsNull r is) = None

-- ---- tests

abbrev pub with_facts : StateFacts → Facts → StateFacts
with_facts known facts = record known { facts = facts }

-- A test is so.
unfoldable pub with_test : Test → StateFacts → Option StateFacts
with_test (Compares op a b holds) known = option_map (with_facts known) (numbers.assumed op known.facts a b holds)
with_test (IsNull r is) known = with_null r is known

-- A test is so, and then what follows from it, in so many steps.
unfoldable pub with_steps : ℕ → Option Test → StateFacts → Option StateFacts
with_steps zero test known = Some known
with_steps (suc steps) None known = Some known
with_steps (suc steps) (Some test) known =
    option_and_then (with_steps steps (following known test)) (with_test test known)

-- What a test names is there.
abbrev pub IsNamedTest : StateFacts → Test → Type 0
IsNamedTest known (Compares op a b holds) = IsNamed known.facts a × IsNamed known.facts b
IsNamedTest known (IsNull r is) = Unit {0}

abbrev pub AreNamedTests : StateFacts → Option Test → Type 0
AreNamedTests known None = Unit {0}
AreNamedTests known (Some test) = IsNamedTest known test

-- ---- comparisons

abbrev pub is_equality : CmpOp → Bool
is_equality comparisons.Eq = true
is_equality comparisons.NeUn = false
is_equality comparisons.Lt = false
is_equality comparisons.LtUn = false
is_equality comparisons.Gt = false
is_equality comparisons.GtUn = false
is_equality comparisons.Le = false
is_equality comparisons.LeUn = false
is_equality comparisons.Ge = false
is_equality comparisons.GeUn = false

-- A comparison holds, or does not. At most eight definitions are followed, one after another.
unfoldable pub assumed : CmpOp → Var → Var → Bool → StateFacts → Option StateFacts
assumed op (vars.Number a) (vars.Number b) holds known = with_steps 9 (Some (Compares op a b holds)) known
assumed op (vars.Number a) _ holds known = Some known
assumed op (vars.Reference r) (vars.Reference q) holds known = with_same r q (same_flag (is_equality op) holds) known
assumed op (vars.Reference r) _ holds known = Some known
assumed op vars.Text _ holds known = Some known
assumed op (vars.Address r e) _ holds known = Some known
