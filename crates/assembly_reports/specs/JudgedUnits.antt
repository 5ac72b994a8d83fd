-- Which units are judged for reports, and what a finder is asked for as they are. A unit is told by the bytes of its
-- file.
use Rattle.std.specs.Prelude.{ℕ, Bool, true, false, List, [], ◌∷◌, ◌++◌}
use Rattle.std.specs.List.{flat_map}
use Rattle.unit_builder.specs.Outcomes.{entries_of}
use Rattle.unit_builder.specs.declared.entry.MethodEntry.{MethodEntry}
use Rattle.unit_builder.specs.declared.entry.Outcome.{Outcome}
use Rattle.unit_builder.specs.declared.entry.Outcome.TheVariants.{Analysed, Skipped}
use Rattle.unit_form.specs.Spelling.{unit_bytes}
use Rattle.unit_verdicts.specs.Asked.{asked_from, distinct, unseen}
use Rattle.unit_verdicts.specs.Picks.{Pick}
use Rattle.unit_verdicts.specs.VerdictCache.{CachedUnits}
use Rattle.assembly_reports.specs.InferredUnits.{inferred_entries}

-- ---- the units of files

-- The unit of a method, where it is analysed.
abbrev pub outcome_key : Outcome → List (List ℕ)
outcome_key (Analysed unit) = unit_bytes unit ∷ []
outcome_key (Skipped reason) = []

-- The units that are judged of these methods.
abbrev pub judged_keys : List MethodEntry → List (List ℕ)
judged_keys entries = flat_map (λ entry. outcome_key entry.outcome) entries

-- The units of an assembly that are judged, in the order of its methods, each once.
unfoldable pub units_asked : List ℕ → List (List ℕ)
units_asked bytes = distinct (judged_keys (entries_of bytes))

-- The units that are judged for the report of an assembly: those as they are written, and after them, where such is
-- inferred, those with what is inferred of them.
abbrev pub report_keys : Bool → Pick → List ℕ → List (List ℕ)
report_keys false pick bytes = judged_keys (entries_of bytes)
report_keys true pick bytes = judged_keys (entries_of bytes) ++ judged_keys (inferred_entries pick bytes)

-- ---- units that are judged one after another

-- The cache once these units were judged too: those that it has not seen yet come last.
abbrev pub with_judged : CachedUnits → List (List ℕ) → CachedUnits
with_judged cache keys = record {
  show = cache.show;
  keeps = cache.keeps;
  held = cache.held;
  keys = cache.keys ++ unseen cache.keys keys;
}

-- What a finder is asked for as these units are judged.
abbrev pub asked_for : CachedUnits → List (List ℕ) → List (List ℕ)
asked_for cache keys = asked_from cache.held (unseen cache.keys keys)
