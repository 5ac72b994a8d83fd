use Rattle.std.proofs.Common.{◌≡◌, ◌++◌, map, take, length}
use Rattle.asm_image.specs.Rows.{methods_of}
use Rattle.unit_builder.specs.FileSets.{files_in}
use Rattle.unit_builder.specs.Outcomes.{entry_in, outcome_in}
use Rattle.unit_builder.specs.Scopes.{scope_in}
use Rattle.unit_verdicts.specs.Picks.{pick_from}
use Rattle.assembly_reports.specs.JudgedUnits.{asked_for, with_judged}
use Rattle.assembly_reports.specs.InferredUnits.{all_candidates}
use Rattle.assembly_reports.proofs.FindAll.{AreKnown}
use Rattle.assembly_reports.proofs.KeysAsked.{keys_of}
use Rattle.assembly_reports.proofs.inferring.infer_each.Given as goal

abbrev pub invariant-loop-index : goal.invariant-loop-index
invariant-loop-index g l =
    let files = files_in l.initial.units in
    let scope = scope_in files l.file in
    let first = take l.index (methods_of (files.bytes l.file)) in
    let cache = l.initial.cache in
    record {
      same : l.units ≡ l.initial.units;
      end : l.index-end ≡ length (methods_of (files.bytes l.file));
      value : l.inferred.items ≡ all_candidates (pick_from cache.held) (map (entry_in scope) first);
      known : AreKnown (outcome_in scope) first;
      judged : l.cache ≡ with_judged cache (keys_of (outcome_in scope) first);
      asked : g.D.Finder.asked l.finder ≡ g.D.Finder.asked l.initial.finder ++ asked_for cache (keys_of (outcome_in scope) first);
    }
