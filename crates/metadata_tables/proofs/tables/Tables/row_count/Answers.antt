use Rattle.std.proofs.Common.{◌≡◌, ℕ, List, get_or, ap, ◌∙◌}
use Rattle.metadata_tables.specs.Layout.{row_count}
use Rattle.metadata_tables.proofs.CellLemmas.{rows_few}
use Rattle.metadata_tables.proofs.tables.Tables.row_count.Goals as goal

pub returns-clause-few : goal.returns-clause-few
returns-clause-few c =
    let kept = c.self.invariant in
    let md = c.self.inside.md.now in
    let is : c.count_of.result ≡ row_count md c.args.table = c.count_of.ensures ∙ ap (λ (xs : List ℕ). get_or xs c.args.table 0) kept.layout_kept.counts_kept in
    rw (is, ← c.self.view_is) (rows_few md c.args.table kept.sound)
