use Rattle.std.proofs.Common.{◌≡◌, ◌++◌, map, take, length}
use Rattle.std.specs.Prelude.{All}
use Rattle.asm_image.specs.Rows.{methods_of}
use Rattle.unit_verdicts.specs.Picks.{pick_from}
use Rattle.unit_verdicts.specs.VerdictCache.{manner_of}
use Rattle.assembly_reports.specs.JudgedUnits.{asked_for, with_judged}
use Rattle.assembly_reports.specs.CheckText.{all_shown, findings}
use Rattle.assembly_reports.specs.Findings.{IsWithin, finding_in, shown_in}
use Rattle.assembly_reports.specs.InferredUnits.{entry_by, inferred_outcome}
use Rattle.assembly_reports.proofs.KeysAsked.{keys_of}
use Rattle.assembly_reports.proofs.inferring.find_each_inferred.Given as goal

abbrev pub invariant-loop-index : goal.invariant-loop-index
invariant-loop-index g l =
    let cache = l.initial.cache in
    let of = inferred_outcome (pick_from cache.held) l.assembly in
    let first = take l.index (methods_of l.assembly) in
    record {
      same : l.units ≡ l.initial.units;
      end : l.index-end ≡ length (methods_of l.assembly);
      value : map finding_in l.found.items ≡ findings (pick_from cache.held) (map (entry_by of) first);
      shown : map shown_in l.found.items ≡ all_shown (manner_of cache) (map (entry_by of) first);
      within : All IsWithin l.found.items;
      judged : l.cache ≡ with_judged cache (keys_of of first);
      asked : g.D.Finder.asked l.finder ≡ g.D.Finder.asked l.initial.finder ++ asked_for cache (keys_of of first);
    }
