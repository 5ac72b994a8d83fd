use Rattle.std.proofs.Common.{◌≡◌, ◌++◌, [], ◌∷◌, rules}
use Rattle.number_facts.specs.Differences.{difference_of, put_some}
use Rattle.number_facts.proofs.DifferenceLists.{both_added}
use Rattle.number_facts.proofs.definitions.add.Goals as goal

pub returns-clause-form : goal.returns-clause-form
returns-clause-form c =
    let row = c.args.row in
    let rows : c.push.new.self.items ≡ c.args.rows.now.items ++ row ∷ [] = search rules in
    let ds : c.put_some.new.differences.items ≡ put_some c.args.differences.now.items (difference_of row.0 row.1) = search rules in
    rw (rows, ds) (both_added c.args.differences.now.items c.args.rows.now.items row c.requires)
