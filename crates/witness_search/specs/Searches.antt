-- What a search finds.
use Rattle.std.specs.Prelude.{◌≡◌, ◌≢◌, ℕ, ◌≤◌, Bool, true, false, List, [], ◌∷◌, ◌++◌, length, take, drop, Option, Some, None, is_none, slice_get, unwrap_or, if◌then◌else◌}
use Rattle.std.specs.List.{AllByRecursion, filter, filter_map}
use Rattle.std.specs.Option.{option_and_then, option_map_or}
use Rattle.cil_eval.specs.Outcome.{outcome}
use Rattle.cil_eval.specs.Starts.{start_refusal, start_state}
use Rattle.cil_eval.specs.declared.limits.Limits.{Limits}
use Rattle.cil_eval.specs.declared.stop.Stop.{Stop}
use Rattle.cil_eval.specs.declared.stop.Stop.TheVariants as stops
use Rattle.cil_model.specs.declared.arg.Arg.{Arg}
use Rattle.cil_model.specs.declared.machine.FaultKind.{FaultKind}
use Rattle.cil_model.specs.declared.machine.World.{World}
use Rattle.cil_model.specs.declared.unit.Unit.{Unit as MethodUnit}
use Rattle.witness_search.specs.Choices.{argument_lists}
use Rattle.witness_search.specs.declared.answer.Search.{Search}
use Rattle.witness_search.specs.declared.answer.Search.TheVariants as searches

-- The limits of each run.
abbrev pub search_limits : Limits
search_limits = record { steps = 10000; cells = 65536; depth = 100 }

-- ---- one list

-- A run of the method of this index starts with these arguments.
abbrev pub is_started : World → ℕ → List Arg → Bool
is_started w index given = is_none (start_refusal w search_limits index given)

-- How the run of a unit's method ends.
abbrev pub outcome_of : World → ℕ → List Arg → MethodUnit → Option Stop
outcome_of w index given unit = outcome w search_limits search_limits.steps (start_state unit index given)

-- How the run of the method of this index with these arguments ends, if it starts.
abbrev pub ending : World → ℕ → List Arg → Option Stop
ending w index given =
    if is_started w index given then option_and_then (outcome_of w index given) (slice_get w.units index) else None

-- A fault is found, and no other end.
abbrev pub fault_in : List Arg → Option Stop → Option Search
fault_in given (Some (stops.Fault kind unit at)) = Some (searches.Found given kind unit at)
fault_in given _ = None

-- The fault in which the run with these arguments ends, if it ends in one.
abbrev pub fault_of : World → ℕ → List Arg → Option Search
fault_of w index given = fault_in given (ending w index given)

-- ---- lists

-- How many of these lists there are, and with how many of them a run starts.
abbrev pub not_found : World → ℕ → List (List Arg) → Search
not_found w index lists = searches.NotFound (length lists) (length (filter (is_started w index) lists))

-- The first fault that is found with these lists, or that there is none.
abbrev pub found_among : World → ℕ → List (List Arg) → Search
found_among w index lists = unwrap_or (slice_get (filter_map (fault_of w index) lists) 0) (not_found w index lists)

-- The lists that are tried of the method of this index: the first ones, so many at most.
abbrev pub tried_lists : World → ℕ → ℕ → List (List Arg)
tried_lists w index runs =
    take runs (option_map_or (λ (unit : MethodUnit). argument_lists unit.args) (slice_get w.units index) [])

-- What is found of the method of this index, where so many lists are tried at most.
unfoldable pub searched : World → ℕ → ℕ → Search
searched w index runs = found_among w index (tried_lists w index runs)

-- ---- what a search tells

-- No run with these arguments ends in a fault.
abbrev pub HasNoFault : World → ℕ → List Arg → Type 0
HasNoFault w index given = fault_of w index given ≡ None

-- Of these lists this one is the first with which a run ends in a fault: in this one.
pub record IsFirstFault (w : World) (index : ℕ) (lists : List (List Arg)) (given : List Arg) (fault : Stop) : Type 0 where
  pub before : List (List Arg)
  pub after : List (List Arg)
  pub lists_are : lists ≡ before ++ given ∷ after
  pub no_fault_before : AllByRecursion (HasNoFault w index) before
  pub starts : start_refusal w search_limits index given ≡ None
  pub unit : MethodUnit
  pub unit_is : slice_get w.units index ≡ Some unit
  pub ends : outcome w search_limits search_limits.steps (start_state unit index given) ≡ Some fault

-- With none of these lists a run ends in a fault, and so many of them were tried and started.
pub record HasNone (w : World) (index : ℕ) (lists : List (List Arg)) (tried started : ℕ) : Type 0 where
  pub no_fault : AllByRecursion (HasNoFault w index) lists
  pub tried_is : tried ≡ length lists
  pub started_is : started ≡ length (filter (is_started w index) lists)

-- What an answer tells of the lists that were tried.
abbrev pub Tells : World → ℕ → List (List Arg) → Search → Type 0
Tells w index lists (searches.Found given kind unit at) = IsFirstFault w index lists given (stops.Fault kind unit at)
Tells w index lists (searches.NotFound tried started) = HasNone w index lists tried started

abbrev pub is_found : Search → Bool
is_found (searches.Found given kind unit at) = true
is_found (searches.NotFound tried started) = false

-- ---- a search that goes on

-- The run did not end in a fault.
abbrev pub EndsInNoFault : Option Stop → Type 0
EndsInNoFault stop = (kind : FaultKind) (unit at : ℕ) → stop ≢ Some (stops.Fault kind unit at)

-- So many of the lists were tried, with so many of them a run was started, with none it ended in a fault, and these are
-- left.
pub record HasTried (w : World) (index : ℕ) (lists : List (List Arg)) (tried started : ℕ) (left : List (List Arg)) : Type 0 where
  pub left_are : left ≡ drop tried lists
  pub few : tried ≤ length lists
  pub no_fault : filter_map (fault_of w index) (take tried lists) ≡ []
  pub started_is : started ≡ length (filter (is_started w index) (take tried lists))
  pub few_started : started ≤ tried
