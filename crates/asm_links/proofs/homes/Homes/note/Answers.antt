use Rattle.std.proofs.Common.{refl, sym, ◌∙◌}
use Rattle.asm_links.proofs.HomeLemmas.{noted}
use Rattle.asm_links.proofs.homes.Homes.note.Goals as goal

pub returns : goal.returns
returns c =
    noted c.self.inside.homes.entries c.insert.new.self.entries c.args.self.now _ c.args.key (c.args.file, c.args.token) c.one_more-home.result c.copied.result c.self.view_is refl
    (c.copied.ensures ∙ c.get.ensures.value) c.one_more-home.ensures c.in_ok-insert.ensures.entries
