-- A method with which a search finds a fault is not safe.
use Rattle.std.proofs.Common.{◌≡◌, ℕ, true, List, ◌∷◌, subst}
use Rattle.std.specs.List.{AllByRecursion}
use Rattle.cil_model.specs.Runs.{Safe}
use Rattle.cil_model.specs.declared.arg.Arg.{Arg}
use Rattle.cil_model.specs.declared.machine.FaultKind.{FaultKind}
use Rattle.cil_model.specs.declared.machine.World.{World}
use Rattle.cil_model.proofs.Lists.{all_split}
use Rattle.cil_eval.specs.Given.{AreInts}
use Rattle.cil_eval.specs.declared.stop.Stop.TheVariants as stops
use Rattle.witness_search.specs.Searches.{IsFirstFault, Tells, is_found, search_limits, searched, tried_lists}
use Rattle.witness_search.specs.declared.answer.Search.{Search}
use Rattle.witness_search.specs.declared.answer.Search.TheVariants as searches
use Rattle.witness_search.proofs.FaultSteps.{fault_is_unsafe}
use Rattle.witness_search.proofs.IntChoices.{tried_are}
use Rattle.witness_search.proofs.ToldLemmas.{tells}

first_is_unsafe : (w : World) (index : ℕ) (lists : List (List Arg)) (given : List Arg) (kind : FaultKind) (unit at : ℕ) → IsFirstFault w index lists given (stops.Fault kind unit at)
    → AllByRecursion AreInts lists → Safe w index → ⊥
first_is_unsafe w index lists given kind unit at first ints safe =
    let rest = all_split AreInts first.before (given ∷ first.after) (subst (AllByRecursion AreInts) first.lists_are ints) in
    fault_is_unsafe w search_limits search_limits.steps first.unit index given kind unit at first.unit_is first.starts rest.1.0 first.ends safe

pub found_is_unsafe : (w : World) (index runs : ℕ) (found : Search) → found ≡ searched w index runs → is_found found ≡ true → Safe w index → ⊥
found_is_unsafe w index runs found is told = by found (tells w index runs found is) told
  where
    by : (found : Search) → Tells w index (tried_lists w index runs) found → is_found found ≡ true → Safe w index → ⊥
    by (searches.Found given kind unit at) told e safe = first_is_unsafe w index (tried_lists w index runs) given kind unit at told (tried_are w index runs) safe
    by (searches.NotFound tried started) told e safe = absurd cc
