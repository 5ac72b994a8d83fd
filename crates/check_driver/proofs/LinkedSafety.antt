-- Where all that a method of linked files reaches by calls was printed as proved, the method is safe in its world.
use Rattle.std.proofs.Common.{◌≡◌, ℕ, ◌-◌, ◌<◌, ◌^◌, List, [], get_or, Option, Some, None, IsSome, slice_get, refl, sym, ap, subst, ◌∙◌}
use Rattle.std.specs.Prelude.{Contains}
use Rattle.std.specs.List.{AllByRecursion}
use Rattle.std.specs.Option.{option_and_then}
use Rattle.std.proofs.lemmas.Option.{get_or_from_slice_get, none-some, same_Some}
use Rattle.asm_image.specs.Bodies.{method_of}
use Rattle.asm_image.specs.Rows.{methods_of}
use Rattle.asm_image.specs.declared.method_row.MethodRow.{MethodRow}
use Rattle.cc_base.specs.Tokens.{row_of}
use Rattle.cil_model.specs.Runs.{LocalSafe, Safe}
use Rattle.cil_model.specs.WellFormed.{IsWellFormed}
use Rattle.cil_model.specs.declared.unit.Unit.{Unit as MethodUnit}
use Rattle.method_unit.specs.Units.{IsUnit}
use Rattle.safe_worlds.proofs.SafeWorlds.{frames_keep_reach, runs_give_freely, world_is_safe}
use Rattle.unit_builder.specs.Graphs.{unit_in}
use Rattle.unit_builder.specs.Linked.{linked, linked_calls, linked_method, linked_unit, linked_world}
use Rattle.unit_builder.specs.Meanings.{as_token}
use Rattle.unit_builder.specs.Outcomes.{IfAnalysed, entry_in, outcome_in}
use Rattle.unit_builder.specs.Reach.{Reaches, itself}
use Rattle.unit_builder.specs.Scopes.{file_of, key_at, scope_in, token_in}
use Rattle.unit_builder.specs.Walks.{unit_by}
use Rattle.unit_builder.specs.declared.entry.MethodEntry.{MethodEntry}
use Rattle.unit_builder.specs.declared.entry.Outcome.{Outcome}
use Rattle.unit_builder.specs.declared.entry.Outcome.TheVariants.{Analysed, Skipped}
use Rattle.unit_builder.proofs.KeyFacts.{file_at, is_at, key_back, small_key}
use Rattle.unit_builder.proofs.LinkedWorlds.{AllAnalysedIn, each_of_linked, linked_agrees, linked_begins, method_at, token_is}
use Rattle.unit_builder.proofs.VisitLemmas.{row_there, some_is}
use Rattle.check_driver.specs.Headline.{RunsKeepArrays, WasAppended}
use Rattle.check_driver.specs.LinkedHeadline.{BeginsLinkedWorld, SomeLinkedBegun, TellLinkedProved}
use Rattle.check_driver.specs.NothingOr.{NothingOr}
use Rattle.check_driver.proofs.LinkedSections.{IsSafeOf, each_accepted, section_safe}
use Rattle.assembly_reports.proofs.Members.{all_at, contained_at}
use Rattle.assembly_reports.proofs.NamedMethods.{named_itself}

module _ (names files : List (List ℕ)) (old new : Option (List ℕ)) (text : List ℕ) (appended : WasAppended old new text) (begun : NothingOr old new (SomeLinkedBegun names files old new))
    (k : ℕ) (bytes : List ℕ) (method : MethodRow) (at : slice_get files k ≡ Some bytes) (has : Contains (methods_of bytes) method) (all : TellLinkedProved text files k method) where
  abbrev from : ℕ
  from = key_at k method.token.0

  -- What is known of the method itself.
  own : IsSafeOf files k method
  own = section_safe names files old new text appended begun k bytes method at has (all k bytes method at has itself)

  own_named : method_of bytes (as_token method.token.0) ≡ Some method
  own_named = named_itself bytes method (each_accepted files k bytes own.accepted at) has

  own_small : method.token.0 < 2 ^ 32
  own_small = small_key bytes method.token.0 (subst IsSome (sym own_named) refl)

  own_key : linked_method files from ≡ Some method
  own_key = method_at files k method.token.0 bytes own_small at ∙ own_named

  -- ---- each method that is reached

  -- It is analysed, and its unit can be run and is safe by itself.
  record IsSafeAt (key : ℕ) : Type 0 where
    unit : MethodUnit
    is : linked_unit files key ≡ Some unit
    is_unit : IsUnit unit
    safe : LocalSafe unit

  unit_of_key : (key : ℕ) (reached : MethodRow) (unit : MethodUnit) → linked_method files key ≡ Some reached → outcome_in (scope_in (linked files) (file_of key)) reached ≡ Analysed unit
      → linked_unit files key ≡ Some unit
  unfolding unit_in
  unit_of_key key reached unit named analysed =
      ap (option_and_then (λ (m : MethodRow). unit_by (outcome_in (scope_in (linked files) (file_of key)) m))) named ∙ ap unit_by analysed

  can_run : (outcome : Outcome) (unit : MethodUnit) → IfAnalysed outcome IsUnit → outcome ≡ Analysed unit → IsUnit unit
  can_run (Analysed other) unit runs is = subst IsUnit (unit_is other unit is) runs
    where
      unit_is : (a b : MethodUnit) → Analysed a ≡ Analysed b → a ≡ b
      unit_is a b e = same_Some a b (ap unit_by e)
  can_run (Skipped reason) unit runs is = absurd cc

  safe_at : (key : ℕ) → IsSome (linked_method files key) → Reaches (linked_calls files) from key → IsSafeAt key
  safe_at key there reaches =
      let (reached, named) = some_is (linked_method files key) there in
      let place = is_at files key reached named in
      let row = (row_there place.asm (as_token (token_in key)) reached place.named).1 in
      let among = contained_at (methods_of place.asm) (row_of (token_in key) - 1) reached row in
      let same : key_at (file_of key) reached.token.0 ≡ key = ap (key_at (file_of key)) (token_is place.asm (token_in key) reached place.named) ∙ key_back key in
      let line = all (file_of key) place.asm reached place.file among (subst (Reaches (linked_calls files) from) (sym same) reaches) in
      let one = section_safe names files old new text appended begun (file_of key) place.asm reached place.file among line in
      let found = one.safe in
      let asm : get_or files (file_of key) [] ≡ place.asm = get_or_from_slice_get files (file_of key) place.asm [] place.file in
      let runs =
      all_at (λ (entry : MethodEntry). IfAnalysed entry.outcome IsUnit) (entry_in (scope_in (linked files) (file_of key))) (methods_of (get_or files (file_of key) [])) reached one.known
      (subst (λ (b : List ℕ). Contains (methods_of b) reached) (sym asm) among) in
      record {
        unit = found.unit;
        is = unit_of_key key reached found.unit named found.analysed;
        is_unit = can_run (outcome_in (scope_in (linked files) (file_of key)) reached) found.unit runs found.analysed;
        safe = found.safe.local;
      }

  method_there : (key : ℕ) (unit : MethodUnit) → linked_unit files key ≡ Some unit → IsSome (linked_method files key)
  unfolding unit_in
  method_there key unit is = by (linked_method files key) is
    where
      by : (found : Option MethodRow) → option_and_then (λ (m : MethodRow). unit_by (outcome_in (scope_in (linked files) (file_of key)) m)) found ≡ Some unit → IsSome found
      by None is = absurd (none-some unit is)
      by (Some m) is = refl

  all_analysed : AllAnalysedIn (linked files) from
  all_analysed = record {
    there = subst IsSome (sym own_key) refl;
    analysed = λ key there reaches. subst IsSome (sym (IsSafeAt.is (safe_at key there reaches))) refl;
    units = λ key unit reaches is.
        let one = safe_at key (method_there key unit is) reaches in
        subst IsUnit (same_Some (IsSafeAt.unit one) unit (sym (IsSafeAt.is one) ∙ is)) (IsSafeAt.is_unit one);
  }

  all_formed : AllByRecursion IsWellFormed (linked_world files from).units
  all_formed =
      each_of_linked files from all_analysed IsWellFormed
      (λ key unit there reaches is. (AllAnalysedIn.units all_analysed key unit reaches is).well_formed)

  all_safe : AllByRecursion LocalSafe (linked_world files from).units
  all_safe =
      each_of_linked files from all_analysed LocalSafe
      (λ key unit there reaches is.
      let one = safe_at key there reaches in
      subst LocalSafe (same_Some (IsSafeAt.unit one) unit (sym (IsSafeAt.is one) ∙ is)) (IsSafeAt.safe one))

  -- ---- the theorem

  pub linked_safe : BeginsLinkedWorld files k method × Safe (linked_world files from) 0
  linked_safe = (
    (let found = own.safe in
        let there : outcome_in (scope_in (linked files) (file_of from)) method ≡ Analysed found.unit =
        ap (λ (file : ℕ). outcome_in (scope_in (linked files) file) method) (file_at k method.token.0 own_small) ∙ found.analysed in
        record {
          unit = found.unit;
          analysed = found.analysed;
          first = linked_begins files from found.unit (unit_of_key from method found.unit own_key there);
        }),
    world_is_safe (linked_world files from) (linked_agrees files from all_analysed) all_formed all_safe 0,
  )

  pub linked_keeps : RunsKeepArrays (linked_world files from)
  linked_keeps = record {
    frames = frames_keep_reach (linked_world files from) (linked_agrees files from all_analysed) all_formed;
    results = runs_give_freely (linked_world files from) (linked_agrees files from all_analysed) all_formed;
  }
