use Rattle.std.proofs.Common.{◌≡◌, sym, ◌∙◌, true≢false}
use Rattle.std.specs.List.{list_all}
use Rattle.alias_facts.specs.KeptPairs.{lower_first}
use Rattle.alias_facts.specs.PairsOf.{contains, kept_pairs}
use Rattle.alias_facts.proofs.RowLaws.{covers_from, covers_pairs, covers_rows}
use Rattle.alias_facts.proofs.TurnedLaws.{all-lower_first}
use Rattle.alias_facts.proofs.kept.covers.Goals as goal

pub returns-then-has_all : goal.returns-then-has_all
returns-then-has_all c =
    let kept = kept_pairs (lower_first c.args.rows.now) c.args.marks.now in
    let others = lower_first c.args.other_rows.now in
    let each : c.has_all.result ≡ list_all (contains kept) others = c.has_all.ensures ∙ all-lower_first (contains kept) c.args.other_rows.now in (
      λ is. covers_from kept others c.args.other_marks.now (sym each ∙ c.if-has_all.true) (sym c.has_rows.ensures ∙ is),
      λ all. c.has_rows.ensures ∙ covers_rows kept others c.args.other_marks.now all,
    )

pub returns-else-has_all : goal.returns-else-has_all
returns-else-has_all c =
    let kept = kept_pairs (lower_first c.args.rows.now) c.args.marks.now in
    let others = lower_first c.args.other_rows.now in
    let each : c.has_all.result ≡ list_all (contains kept) others = c.has_all.ensures ∙ all-lower_first (contains kept) c.args.other_rows.now in (
      λ is. absurd (true≢false (sym is ∙ c.if-has_all.false)),
      λ all. each ∙ covers_pairs kept others c.args.other_marks.now all,
    )
