use Rattle.std.proofs.Common.{map, ◌≡◌, subst}
use Rattle.std.specs.Prelude.{IfOk}
use Rattle.unit_builder.specs.Outcomes.{entries_of}
use Rattle.unit_verdicts.specs.declared.source.Source.{Source}
use Rattle.unit_verdicts.specs.Picks.{pick_from}
use Rattle.unit_verdicts.specs.VerdictCache.{CachedUnits, manner_of}
use Rattle.assembly_reports.specs.JudgedUnits.{judged_keys, units_asked}
use Rattle.assembly_reports.specs.CheckText.{all_shown, findings}
use Rattle.assembly_reports.specs.Findings.{finding_in, shown_in}
use Rattle.assembly_reports.proofs.Judging.{alone_units, asks_alone}
use Rattle.assembly_reports.proofs.check_report.find_alone.Goals as goal

pub returns-clause-value : goal.returns-clause-value
returns-clause-value g c =
    subst (λ (held : Source). IfOk c.find_all.result (λ found. map finding_in found.items ≡ findings (pick_from held) (entries_of c.args.assembly.now)))
    c.none-cache.ensures.held c.find_all.ensures.value

pub returns-clause-shown : goal.returns-clause-shown
returns-clause-shown g c =
    subst (λ (cache : CachedUnits). IfOk c.find_all.result (λ found. map shown_in found.items ≡ all_shown (manner_of cache) (entries_of c.args.assembly.now)))
    (alone_units c.none-cache.result c.args.show c.none-cache.ensures.show c.none-cache.ensures.keeps c.none-cache.ensures.held c.none-cache.ensures.keys) c.find_all.ensures.shown

pub returns-clause-asked : goal.returns-clause-asked
unfolding units_asked
returns-clause-asked g c =
    asks_alone c.none-cache.result c.args.show (judged_keys (entries_of c.args.assembly.now)) c.find_all.result _ _
    (alone_units c.none-cache.result c.args.show c.none-cache.ensures.show c.none-cache.ensures.keeps c.none-cache.ensures.held c.none-cache.ensures.keys) c.find_all.ensures.asked
