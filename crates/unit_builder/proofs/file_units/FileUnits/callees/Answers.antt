use Rattle.std.proofs.Common.{rules, ap}
use Rattle.unit_builder.specs.FileSets.{FileSet, files_in}
use Rattle.unit_builder.specs.Scopes.{scope_in}
use Rattle.unit_builder.specs.Sources.{scope_at}
use Rattle.unit_builder.proofs.CallFacts.{keys_told, row_read}
use Rattle.unit_builder.proofs.file_units.FileUnits.callees.Goals as goal

pub returns-clause-value : goal.returns-clause-value
returns-clause-value c = λ method unit at is.
    let scope = scope_at c.self.inside.sources c.args.file in
    let row = row_read scope.asm c.methods.result.now c.args.index c.index-methods-index.result (search rules) (search rules) c.index-methods-index.is in
    keys_told c.callees_of.result scope (scope_in (files_in c.args.self.now) c.args.file) c.args.index c.index-methods-index.result method unit
    (ap (λ (set : FileSet). scope_in (files_in set) c.args.file) c.self.view_is) row at is c.callees_of.ensures.value
