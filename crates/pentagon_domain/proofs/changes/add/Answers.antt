use Rattle.std.proofs.Common.{◌≡◌, true, arith, rules}
use Rattle.std.specs.Prelude.{IsOk}
use Rattle.pentagon_domain.specs.Rows.{is_pair}
use Rattle.pentagon_domain.proofs.TargetLists.{both_put}
use Rattle.pentagon_domain.proofs.changes.add.Goals as goal

pub returns-clause-targets : goal.returns-clause-targets
returns-clause-targets c =
    let row = c.args.row in
    let pair : is_pair row.s row.t ≡ true = grind arith in
    let room : IsOk c.put_at-2.result = search rules in
    both_put c.put_at-2.result c.args.targets.now.items c.args.rows.now.items _ _ row c.place_to-target.result c.place_of-place.result pair c.requires.form
    c.requires.targets (search rules) (search rules) (search rules) room (search rules)
