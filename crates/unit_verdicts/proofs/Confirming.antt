-- Under the entries of the units that were judged, each of these has the verdicts that it had.
use Rattle.std.proofs.Common.{◌≡◌, ℕ, zero, suc, ◌==◌, ◌<◌, Bool, true, false, ◌&&◌, List, [], ◌∷◌, length, cond, Some, None, refl, sym, ap, ◌∙◌, ◌⊎◌, inl, inr, arith}
use Rattle.std.specs.Prelude.{Contains, filter_map}
use Rattle.std.specs.List.{AllByRecursion, cons_option, list_all, range_with_len}
use Rattle.std.specs.Str.{bytes_eq}
use Rattle.std.proofs.lemmas.Bool.{cases_Bool, eqb-true, false≢true}
use Rattle.std.proofs.lemmas.Slice.Eq.{bytes_eq-Decides}
use Rattle.cil_model.specs.declared.unit.Unit.{Unit as MethodUnit}
use Rattle.invariant_checker.specs.Inducts.{fits_block, has_shape, is_inductive}
use Rattle.invariant_checker.specs.Verdicts.{verdicts}
use Rattle.method_unit.specs.UnitFile.{unit_of}
use Rattle.method_unit.specs.Units.{IsUnit}
use Rattle.method_unit.proofs.UnitAgain.{unit_again}
use Rattle.proof_files.specs.Proofs.{Entry}
use Rattle.state_facts.specs.StateFacts.{State}
use Rattle.transfer_rules.specs.Laws.FlowLaws.{has_block}
use Rattle.unit_flow.specs.FlowOf.{flow_of}
use Rattle.unit_flow.specs.declared.unit_flow.UnitFlow.{UnitFlow}
use Rattle.unit_form.specs.Spelling.{unit_bytes}
use Rattle.unit_verdicts.specs.Keys.{IsKey}
use Rattle.unit_verdicts.specs.Picks.{Pick, pick_from, verdicts_under}
use Rattle.unit_verdicts.specs.ProvedUnits.{states_for}
use Rattle.unit_verdicts.specs.ProofLeft.{Confirms, proof_entries, proof_entry}
use Rattle.unit_verdicts.specs.declared.source.Source.{Source}
use Rattle.unit_verdicts.proofs.UnitSafety.{lawful_flow}

-- ---- states of another shape

-- Nothing is proved by states of another shape.
unshaped : (code : UnitFlow) (a b : List State) → has_shape code a ≡ false → has_shape code b ≡ false
    → verdicts code a ≡ verdicts code b
unfolding verdicts is_inductive
unshaped code a b one other = rw (one, other) refl

-- A unit has a block, so no states at all are not of its shape.
none_unshaped : (unit : MethodUnit) → IsUnit unit → has_shape (flow_of unit) [] ≡ false
none_unshaped unit is = by (0 == length (flow_of unit).graph.blocks) refl
  where
    some : 0 < length (flow_of unit).graph.blocks
    some = has_block (flow_of unit) (lawful_flow unit is)

    by : (b : Bool) → (0 == length (flow_of unit).graph.blocks) ≡ b
        → (b && list_all (fits_block (flow_of unit) []) (range_with_len 0 0)) ≡ false
    by true same = absurd (omega (arith, some, eqb-true 0 (length (flow_of unit).graph.blocks) same))
    by false same = refl

-- ---- the entries that are left

module _ (pick : Pick) (unit : MethodUnit) (is : IsUnit unit) where
  abbrev entries_for : List (List ℕ) → List Entry
  entries_for keys = filter_map (λ key. proof_entry pick (unit_of key)) keys

  abbrev found_for : List Entry → List State
  found_for entries = states_for entries (unit_bytes unit)

  -- The unit of a key that is the unit's.
  one_unit : (key : List ℕ) → IsKey key → bytes_eq (unit_bytes unit) (unit_bytes (unit_of key)) ≡ true → unit_of key ≡ unit
  one_unit key is_key same =
      let keys : unit_bytes unit ≡ key = (bytes_eq-Decides (unit_bytes unit) (unit_bytes (unit_of key))).0 same ∙ is_key.spelled in
      ap unit_of (sym keys) ∙ (unit_again unit is).1

  -- A unit whose states have not its shape has no entry.
  left_out : (keys : List (List ℕ)) → AllByRecursion IsKey keys → has_shape (flow_of unit) (pick unit) ≡ false
      → found_for (entries_for keys) ≡ []
  left_out [] all fails = refl
  left_out (key ∷ keys) all fails =
      by (has_shape (flow_of (unit_of key)) (pick (unit_of key))) refl (left_out keys all.1 fails)
    where
      by_unit : (same : Bool) → bytes_eq (unit_bytes unit) (unit_bytes (unit_of key)) ≡ same
          → has_shape (flow_of (unit_of key)) (pick (unit_of key)) ≡ true → found_for (entries_for keys) ≡ []
          → cond same (pick (unit_of key)) (found_for (entries_for keys)) ≡ []
      by_unit true same shaped later =
          let shape = ap (λ (u : MethodUnit). has_shape (flow_of u) (pick u)) (one_unit key all.0 same) in
          absurd (false≢true (sym fails ∙ sym shape ∙ shaped))
      by_unit false same shaped later = later

      by : (shaped : Bool) → has_shape (flow_of (unit_of key)) (pick (unit_of key)) ≡ shaped
          → found_for (entries_for keys) ≡ []
          → found_for (cons_option (cond shaped (Some (record { unit = unit_of key; states = pick (unit_of key) })) None) (entries_for keys)) ≡ []
      by true shaped later = by_unit (bytes_eq (unit_bytes unit) (unit_bytes (unit_of key))) refl shaped later
      by false shaped later = later

  -- The first of some keys, or one behind it.
  first_or : (key : List ℕ) (keys : List (List ℕ)) (x : List ℕ) → Contains (key ∷ keys) x → (key ≡ x) ⊎ Contains keys x
  first_or key keys x (zero, below, is) = inl is
  first_or key keys x (suc k, below, is) = inr (k, omega (arith, below), is)

  -- Another one is found where it was.
  put_in : (keys : List (List ℕ)) → AllByRecursion IsKey keys → has_shape (flow_of unit) (pick unit) ≡ true
      → Contains keys (unit_bytes unit) → found_for (entries_for keys) ≡ pick unit
  put_in [] all shaped (k, below, is) = absurd (omega (arith, below))
  put_in (key ∷ keys) all shaped there =
      by (bytes_eq (unit_bytes unit) (unit_bytes (unit_of key))) refl (λ later. put_in keys all.1 shaped later)
    where
      by_shape : (shape : Bool) → bytes_eq (unit_bytes unit) (unit_bytes (unit_of key)) ≡ false
          → found_for (entries_for keys) ≡ pick unit
          → found_for (cons_option (cond shape (Some (record { unit = unit_of key; states = pick (unit_of key) })) None) (entries_for keys)) ≡ pick unit
      by_shape true differs later = ap (λ (b : Bool). cond b (pick (unit_of key)) (found_for (entries_for keys))) differs ∙ later
      by_shape false differs later = later

      by : (same : Bool) → bytes_eq (unit_bytes unit) (unit_bytes (unit_of key)) ≡ same
          → (Contains keys (unit_bytes unit) → found_for (entries_for keys) ≡ pick unit)
          → found_for (entries_for (key ∷ keys)) ≡ pick unit
      by true same behind =
          let units = one_unit key all.0 same in
          let shape : has_shape (flow_of (unit_of key)) (pick (unit_of key)) ≡ true =
          ap (λ (u : MethodUnit). has_shape (flow_of u) (pick u)) units ∙ shaped in
          ap (λ (b : Bool). found_for (cons_option (cond b (Some (record { unit = unit_of key; states = pick (unit_of key) })) None) (entries_for keys))) shape
          ∙ ap (λ (b : Bool). cond b (pick (unit_of key)) (found_for (entries_for keys))) same
          ∙ ap pick units
      by false differs behind = elim (first_or key keys (unit_bytes unit) there) [
        | inl its ↦ (
            let keys_are : unit_bytes unit ≡ unit_bytes (unit_of key) = sym its ∙ sym all.0.spelled in
            absurd (false≢true (sym differs ∙ (bytes_eq-Decides (unit_bytes unit) (unit_bytes (unit_of key))).1 keys_are)))
        | inr later ↦ by_shape (has_shape (flow_of (unit_of key)) (pick (unit_of key))) differs (behind later)
      ]

-- ---- what they confirm

pub confirmed : (held : Source) (keys : List (List ℕ)) → AllByRecursion IsKey keys → Confirms (proof_entries held keys) held keys
unfolding verdicts_under
confirmed held keys all unit is there = elim (cases_Bool (has_shape (flow_of unit) (pick_from held unit))) [
  | inl shaped ↦ ap (verdicts (flow_of unit)) (put_in (pick_from held) unit is keys all shaped there)
  | inr fails ↦ ap (verdicts (flow_of unit)) (left_out (pick_from held) unit is keys all fails)
      ∙ unshaped (flow_of unit) [] (pick_from held unit) (none_unshaped unit is) fails
]
