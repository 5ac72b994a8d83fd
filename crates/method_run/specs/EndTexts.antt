-- How a run ended, as text.
use Rattle.std.specs.Prelude.{ℕ, List, ◌++◌, decimal, codes}
use Rattle.cil_model.specs.Values.{Heap}
use Rattle.cil_model.specs.declared.machine.World.{World}
use Rattle.cil_model.specs.declared.place.Place.{Place}
use Rattle.cil_eval.specs.declared.limits.Limits.{Limits}
use Rattle.cil_eval.specs.declared.stop.Stop.{Stop}
use Rattle.cil_eval.specs.declared.stop.Stop.TheVariants as stops
use Rattle.method_run.specs.FaultTexts.{fault_text, position_text}
use Rattle.method_run.specs.ValueTexts.{returned_text}

-- The end of a run of a world, or the limit that it met, where the entry's result has this type and the run's last
-- state this heap.
abbrev pub end_text : World → Limits → Place → Heap → Stop → List ℕ
end_text w limits place heap (stops.Returned result) = returned_text place heap result
end_text w limits place heap (stops.Fault kind index at) = fault_text w kind index at
end_text w limits place heap (stops.Assumed index at) = codes "assume false" ++ position_text w index at
end_text w limits place heap stops.Steps = codes "stopped: steps " ++ decimal limits.steps
end_text w limits place heap stops.Depth = codes "stopped: depth " ++ decimal limits.depth
end_text w limits place heap stops.Cells = codes "stopped: cells " ++ decimal limits.cells

-- The status that tells how a run ended.
abbrev pub end_status : Stop → ℕ
end_status (stops.Returned result) = 0
end_status (stops.Fault kind index at) = 8
end_status (stops.Assumed index at) = 10
end_status stops.Steps = 9
end_status stops.Depth = 9
end_status stops.Cells = 9
