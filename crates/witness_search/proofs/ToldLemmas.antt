-- What a search tells of the lists that it tried.
use Rattle.std.proofs.Common.{◌≡◌, ℕ, is_none, List, Option, Some, None, slice_get, unwrap_or, if◌then◌else◌, refl, sym, subst}
use Rattle.std.specs.List.{filter_map}
use Rattle.std.specs.Option.{option_and_then}
use Rattle.std.proofs.lemmas.Option.{same_Some}
use Rattle.cil_model.specs.declared.arg.Arg.{Arg}
use Rattle.cil_model.specs.declared.machine.FaultKind.{FaultKind}
use Rattle.cil_model.specs.declared.machine.World.{World}
use Rattle.cil_model.specs.declared.unit.Unit.{Unit as MethodUnit}
use Rattle.cil_eval.specs.Outcome.{outcome}
use Rattle.cil_eval.specs.Starts.{start_refusal, start_state}
use Rattle.cil_eval.specs.declared.start_refusal.StartRefusal.{StartRefusal}
use Rattle.cil_eval.specs.declared.stop.Stop.{Stop}
use Rattle.cil_eval.specs.declared.stop.Stop.TheVariants as stops
use Rattle.witness_search.specs.Searches.{Tells, ending, fault_in, fault_of, found_among, not_found, outcome_of, search_limits, searched, tried_lists}
use Rattle.witness_search.specs.declared.answer.Search.{Search}
use Rattle.witness_search.specs.declared.answer.Search.TheVariants as searches
use Rattle.witness_search.proofs.FoundLemmas.{give_nothing, gives_first}

-- ---- one list

-- A run starts, and ends in this.
record RunsTo (w : World) (index : ℕ) (given : List Arg) (stop : Stop) : Type 0 where
  pub starts : start_refusal w search_limits index given ≡ None
  pub unit : MethodUnit
  pub unit_is : slice_get w.units index ≡ Some unit
  pub ends : outcome w search_limits search_limits.steps (start_state unit index given) ≡ Some stop

runs_to : (w : World) (index : ℕ) (given : List Arg) (stop : Stop) → ending w index given ≡ Some stop → RunsTo w index given stop
runs_to w index given stop e = by (start_refusal w search_limits index given) refl (slice_get w.units index) refl e
  where
    by : (refusal : Option StartRefusal) → start_refusal w search_limits index given ≡ refusal → (unit : Option MethodUnit) → slice_get w.units index ≡ unit
        → (if is_none refusal then option_and_then (outcome_of w index given) unit else None) ≡ Some stop → RunsTo w index given stop
    by None free (Some unit) is e = record { starts = free; unit = unit; unit_is = is; ends = e }
    by None free None is e = absurd cc
    by (Some refusal) free unit is e = absurd cc

-- What is found with a list is that its run ended in a fault.
record IsFaultOf (given : List Arg) (stop : Option Stop) (found : Search) : Type 0 where
  pub kind : FaultKind
  pub unit : ℕ
  pub at : ℕ
  pub found_is : found ≡ searches.Found given kind unit at
  pub stop_is : stop ≡ Some (stops.Fault kind unit at)

is_fault : (given : List Arg) (stop : Option Stop) (found : Search) → fault_in given stop ≡ Some found → IsFaultOf given stop found
is_fault given (Some (stops.Fault kind unit at)) found e =
    record { kind = kind; unit = unit; at = at; found_is = sym (same_Some (searches.Found given kind unit at) found e); stop_is = refl }
is_fault given None found e = absurd cc
is_fault given (Some (stops.Returned result)) found e = absurd cc
is_fault given (Some (stops.Assumed unit at)) found e = absurd cc
is_fault given (Some stops.Steps) found e = absurd cc
is_fault given (Some stops.Depth) found e = absurd cc
is_fault given (Some stops.Cells) found e = absurd cc

-- ---- lists

module _ (w : World) (index : ℕ) (lists : List (List Arg)) where
  tells_fault : (found : Search) → slice_get (filter_map (fault_of w index) lists) 0 ≡ Some found → Tells w index lists found
  tells_fault found e =
      let first = gives_first (fault_of w index) lists found e in
      let fault = is_fault first.item (ending w index first.item) found first.gives in
      let run = runs_to w index first.item (stops.Fault fault.kind fault.unit fault.at) fault.stop_is in
      subst (Tells w index lists) (sym fault.found_is) (record {
        before = first.before;
        after = first.after;
        lists_are = first.items_are;
        no_fault_before = first.none_before;
        starts = run.starts;
        unit = run.unit;
        unit_is = run.unit_is;
        ends = run.ends;
      })

  tells_among : Tells w index lists (found_among w index lists)
  tells_among = by (slice_get (filter_map (fault_of w index) lists) 0) refl
    where
      by : (first : Option Search) → slice_get (filter_map (fault_of w index) lists) 0 ≡ first → Tells w index lists (unwrap_or first (not_found w index lists))
      by None e = record { no_fault = give_nothing (fault_of w index) lists e; tried_is = refl; started_is = refl }
      by (Some found) e = tells_fault found e

pub tells : (w : World) (index runs : ℕ) (found : Search) → found ≡ searched w index runs → Tells w index (tried_lists w index runs) found
unfolding searched
tells w index runs found is = subst (Tells w index (tried_lists w index runs)) (sym is) (tells_among w index (tried_lists w index runs))
