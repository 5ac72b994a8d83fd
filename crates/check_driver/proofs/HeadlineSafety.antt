-- Where all that a method reaches by calls was printed as proved, the method is safe in its world.
use Rattle.std.proofs.Common.{◌≡◌, ℕ, Bool, true, false, List, Option, Some, IsSome, refl, sym, subst, ◌∙◌, arith}
use Rattle.std.specs.Prelude.{Contains}
use Rattle.std.specs.List.{AllByRecursion}
use Rattle.std.proofs.lemmas.Option.{same_Some}
use Rattle.asm_image.specs.Bodies.{method_of}
use Rattle.asm_image.specs.Rows.{methods_of}
use Rattle.asm_image.specs.declared.method_row.MethodRow.{MethodRow}
use Rattle.cc_base.specs.Files.{Held}
use Rattle.cil_model.specs.Runs.{LocalSafe, Safe}
use Rattle.cil_model.specs.WellFormed.{IsWellFormed}
use Rattle.cil_model.specs.declared.unit.Unit.{Unit as MethodUnit}
use Rattle.command_words.specs.Words.{command_of}
use Rattle.pe_reader.specs.Addresses.{metadata}
use Rattle.safe_worlds.proofs.SafeWorlds.{frames_keep_reach, runs_give_freely, world_is_safe}
use Rattle.unit_builder.specs.Meanings.{as_token}
use Rattle.unit_builder.specs.Outcomes.{outcome_of}
use Rattle.unit_builder.specs.Reach.{Reaches, itself}
use Rattle.unit_builder.specs.Walks.{calls_of, unit_at}
use Rattle.unit_builder.specs.WorldOf.{world_of}
use Rattle.unit_builder.specs.declared.entry.Outcome.TheVariants.{Analysed}
use Rattle.unit_builder.proofs.ReachedWorlds.{AllAnalysed, each_of_world, world_agrees, world_begins}
use Rattle.unit_builder.proofs.VisitLemmas.{some_is}
use Rattle.check_driver.specs.Checked.{infers}
use Rattle.check_driver.specs.Confirmed.{source_held}
use Rattle.assembly_reports.specs.Reportable.{IsReportable}
use Rattle.check_driver.specs.Headline.{BeginsItsWorld, IsSafeInferred, RunsKeepArrays, TellAllProved}
use Rattle.assembly_reports.specs.InferredUnits.{method_candidates}
use Rattle.assembly_reports.specs.Sections.{HasProvedLine, proved_line, section}
use Rattle.check_driver.proofs.CheckedSafety.{IsKnownOf, its_pick, its_pick_is, section_inferred, section_reportable, section_safe}
use Rattle.assembly_reports.proofs.FewMethods.{methods_are_few}
use Rattle.assembly_reports.proofs.InferredEntries.{inferred_may, inferred_of}
use Rattle.assembly_reports.proofs.InferredWorlds.{strengthened_at}
use Rattle.assembly_reports.proofs.NamedMethods.{methods_long, named, named_itself, token_there, unit_is, unit_named}
use Rattle.assembly_reports.proofs.StrengthenedUnits.{inferred_safe}
use Rattle.unit_verdicts.specs.Picks.{Pick, pick_from}

-- The method is analysed, as a unit of which this is so.
record IsAnalysedAs (bytes : List ℕ) (P : MethodRow → MethodUnit → Type 0) (method : MethodRow) : Type 0 where
  unit : MethodUnit
  analysed : outcome_of bytes method ≡ Analysed unit
  holds : P method unit

-- ---- the world of a method

module _ (bytes : List ℕ) (method : MethodRow) (known : IsReportable bytes) (has : Contains (methods_of bytes) method) (P : MethodRow → MethodUnit → Type 0)
    (each : (reached : MethodRow) → Contains (methods_of bytes) reached → Reaches (calls_of bytes) method.token.0 reached.token.0 → IsAnalysedAs bytes P reached) where
  abbrev from : ℕ
  from = method.token.0

  -- Each method that is reached is analysed, and P is so of its unit.
  record IsUnitAt (token : ℕ) : Type 0 where
    row : MethodRow
    token_is : row.token.0 ≡ token
    unit : MethodUnit
    is : unit_at bytes token ≡ Some unit
    holds : P row unit

  unit_there : (token : ℕ) → IsSome (method_of bytes (as_token token)) → Reaches (calls_of bytes) from token → IsUnitAt token
  unit_there token there reaches =
      let (reached, names) = some_is (method_of bytes (as_token token)) there in
      let one = named bytes token reached known.accepted names in
      let found = each reached one.among (subst (Reaches (calls_of bytes) from) (sym one.token_is) reaches) in record {
        row = reached;
        token_is = one.token_is;
        unit = IsAnalysedAs.unit found;
        is = unit_named bytes token reached (IsAnalysedAs.unit found) names (IsAnalysedAs.analysed found);
        holds = IsAnalysedAs.holds found;
      }

  all_analysed : AllAnalysed bytes from
  all_analysed = record {
    small = omega (arith, methods_long (metadata bytes), methods_are_few bytes known.accepted);
    there = subst IsSome (sym (named_itself bytes method known.accepted has)) refl;
    analysed = λ token there reaches. subst IsSome (sym (IsUnitAt.is (unit_there token there reaches))) refl;
    units = λ token unit is. unit_is bytes token unit known.accepted known.runnable is;
  }

  all_formed : AllByRecursion IsWellFormed (world_of bytes from).units
  all_formed =
      each_of_world bytes from all_analysed IsWellFormed
      (λ token unit there reaches is. (unit_is bytes token unit known.accepted known.runnable is).well_formed)

  begins_world : BeginsItsWorld bytes method
  begins_world =
      let own = each method has itself in record {
        unit = IsAnalysedAs.unit own;
        analysed = IsAnalysedAs.analysed own;
        first = world_begins bytes from (IsAnalysedAs.unit own)
            (unit_named bytes from method (IsAnalysedAs.unit own) (named_itself bytes method known.accepted has) (IsAnalysedAs.analysed own));
      }

  keeps_arrays : RunsKeepArrays (world_of bytes from)
  keeps_arrays = record {
    frames = frames_keep_reach (world_of bytes from) (world_agrees bytes from all_analysed) all_formed;
    results = runs_give_freely (world_of bytes from) (world_agrees bytes from all_analysed) all_formed;
  }

  -- Where the unit of each method that it reaches is safe by itself, the method is safe in its world.
  safe_in_world : ((row : MethodRow) (unit : MethodUnit) → P row unit → LocalSafe unit) → Safe (world_of bytes from) 0
  safe_in_world safe =
      let all_safe = each_of_world bytes from all_analysed LocalSafe
      (λ token unit there reaches is.
      let one = unit_there token there reaches in
      subst LocalSafe (same_Some (IsUnitAt.unit one) unit (sym (IsUnitAt.is one) ∙ is)) (safe (IsUnitAt.row one) (IsUnitAt.unit one) (IsUnitAt.holds one))) in
      world_is_safe (world_of bytes from) (world_agrees bytes from all_analysed) all_formed all_safe 0

-- ---- the theorem

module _ (told : Option Held) (words : List (List ℕ)) (held : Held) (k : ℕ) (bytes text : List ℕ) (old new : Option (List ℕ))
    (is : IsKnownOf told words held k bytes text old new) where
  abbrev infer : Bool
  infer = infers (command_of words)

  abbrev pick : Pick
  pick = its_pick told words held k bytes text old new is

  reportable : (method : MethodRow) → Contains (methods_of bytes) method → TellAllProved (section k text) bytes method → IsReportable bytes
  reportable method has all = section_reportable told words held k bytes text old new is (proved_line method) (all method has itself)

  -- What is so of the unit of a method that is told to be proved.
  abbrev HoldsOf : Bool → MethodRow → MethodUnit → Type 0
  HoldsOf false row unit = LocalSafe unit
  HoldsOf true row unit = LocalSafe (strengthened_at bytes (method_candidates pick bytes) row.token.0 unit)

  found : (so : Bool) → infer ≡ so → (reached : MethodRow) → Contains (methods_of bytes) reached → HasProvedLine (section k text) reached
      → IsAnalysedAs bytes (HoldsOf so) reached
  found false so reached among line =
      let one = section_safe told words held k bytes text old new is so reached among line in
      record { unit = one.unit; analysed = one.analysed; holds = one.safe.local }
  found true so reached among line =
      let one = section_inferred told words held k bytes text old new is so reached among line in
      let of = inferred_of pick bytes reached one.unit one.analysed in
      record { unit = of.unit; analysed = of.analysed; holds = subst LocalSafe of.same one.safe.local }

  module _ (method : MethodRow) (has : Contains (methods_of bytes) method) (all : TellAllProved (section k text) bytes method) where
    abbrev known : IsReportable bytes
    known = reportable method has all

    each : (so : Bool) → infer ≡ so → (reached : MethodRow) → Contains (methods_of bytes) reached → Reaches (calls_of bytes) method.token.0 reached.token.0
        → IsAnalysedAs bytes (HoldsOf so) reached
    each so is_so reached among reaches = found so is_so reached among (all reached among reaches)

    -- With what is inferred it is safe, and so it is as it is written.
    inferred_here : infer ≡ true → IsSafeInferred pick bytes method.token.0
    inferred_here so =
        let added = method_candidates pick bytes in
        let its = each true so in
        let safe = inferred_safe bytes added known.runnable (inferred_may pick bytes known.runnable) method.token.0
        (all_analysed bytes method known has (HoldsOf true) its)
        (λ token unit reaches is_unit.
        let one = unit_there bytes method known has (HoldsOf true) its token (token_there bytes token unit is_unit) reaches in
        let same = same_Some (IsUnitAt.unit one) unit (sym (IsUnitAt.is one) ∙ is_unit) in
        subst (λ (t : ℕ). LocalSafe (strengthened_at bytes added t unit)) (IsUnitAt.token_is one)
        (subst (λ (u : MethodUnit). LocalSafe (strengthened_at bytes added (IsUnitAt.row one).token.0 u)) same (IsUnitAt.holds one))) in
        record { stronger = safe.stronger; alike = safe.alike; written = safe.written }

    pub headline_inferred : infer ≡ true → IsSafeInferred (pick_from (source_held words held)) bytes method.token.0
    headline_inferred so =
        subst (λ (p : Pick). IsSafeInferred p bytes method.token.0) (its_pick_is told words held k bytes text old new is so) (inferred_here so)

    pub headline_safe : BeginsItsWorld bytes method × Safe (world_of bytes method.token.0) 0
    headline_safe = by infer refl
      where
        by : (so : Bool) → infer ≡ so → BeginsItsWorld bytes method × Safe (world_of bytes method.token.0) 0
        by false so = (
          begins_world bytes method known has (HoldsOf false) (each false so),
          safe_in_world bytes method known has (HoldsOf false) (each false so) (λ row unit holds. holds),
        )
        by true so = (begins_world bytes method known has (HoldsOf true) (each true so), (inferred_here so).written)

    pub headline_keeps : RunsKeepArrays (world_of bytes method.token.0)
    headline_keeps = keeps_arrays bytes method known has (HoldsOf infer) (each infer refl)
