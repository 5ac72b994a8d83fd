use Rattle.std.proofs.Common.{◌≡◌}
use Rattle.metadata_tables.specs.Schema.{columns_of}
use Rattle.metadata_tables.proofs.SchemaLemmas.{columns_few}
use Rattle.metadata_tables.proofs.schema.columns.Goals as goal

pub returns-clause-few : goal.returns-clause-few
unfolding columns_of
returns-clause-few c =
    let same : c.schema_at.result.now ≡ columns_of c.args.table = c.schema_at.ensures in
    rw same (columns_few c.args.table)
