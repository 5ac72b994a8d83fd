use Rattle.std.proofs.Common.{◌≡◌, ◌++◌, map, take, length}
use Rattle.std.specs.Prelude.{All}
use Rattle.asm_image.specs.Rows.{methods_of}
use Rattle.unit_builder.specs.Outcomes.{outcome_in}
use Rattle.unit_builder.specs.FileSets.{files_in}
use Rattle.unit_builder.specs.Scopes.{scope_in}
use Rattle.unit_verdicts.specs.Picks.{pick_from}
use Rattle.unit_verdicts.specs.VerdictCache.{manner_of}
use Rattle.assembly_reports.specs.JudgedUnits.{asked_for, with_judged}
use Rattle.assembly_reports.specs.CheckText.{all_shown, findings}
use Rattle.assembly_reports.specs.Findings.{IsWithin, shown_in, finding_in}
use Rattle.assembly_reports.specs.InferredUnits.{entry_by}
use Rattle.assembly_reports.proofs.FindAll.{AreKnown}
use Rattle.assembly_reports.proofs.KeysAsked.{keys_of}
use Rattle.assembly_reports.proofs.check_report.find_each.Given as goal

abbrev pub invariant-loop-index : goal.invariant-loop-index
invariant-loop-index g l =
    let files = files_in l.initial.units in
    let of = outcome_in (scope_in files l.file) in
    let first = take l.index (methods_of (files.bytes l.file)) in
    let cache = l.initial.cache in
    record {
      same : l.units ≡ l.initial.units;
      end : l.index-end ≡ length (methods_of (files.bytes l.file));
      value : map finding_in l.found.items ≡ findings (pick_from cache.held) (map (entry_by of) first);
      shown : map shown_in l.found.items ≡ all_shown (manner_of cache) (map (entry_by of) first);
      within : All IsWithin l.found.items;
      known : AreKnown of first;
      judged : l.cache ≡ with_judged cache (keys_of of first);
      asked : g.D.Finder.asked l.finder ≡ g.D.Finder.asked l.initial.finder ++ asked_for cache (keys_of of first);
    }
