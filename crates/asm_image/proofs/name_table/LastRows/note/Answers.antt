use Rattle.asm_image.proofs.NameTableLemmas.{noted}
use Rattle.asm_image.proofs.name_table.LastRows.note.Goals as goal

pub returns : goal.returns
returns c =
    noted (λ key. key.items) c.self.inside.rows.entries c.insert.new.self.entries c.args.self.now c.args.name c.args.row c.self.view_is c.in_ok-insert.ensures.entries
