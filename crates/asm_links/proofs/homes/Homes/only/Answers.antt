use Rattle.std.proofs.Common.{◌≡◌, Option, Some, None, sym, ap, ◌∙◌, rules}
use Rattle.asm_image.specs.Members.{key_of}
use Rattle.asm_links.specs.Homes.{only_home}
use Rattle.asm_links.specs.declared.homes.Home.{Home}
use Rattle.asm_links.specs.declared.homes.Home.TheVariants.{One, Several}
use Rattle.asm_links.proofs.HomeLemmas.{found_home}
use Rattle.asm_links.proofs.homes.Homes.only.Goals as goal

pub returns-in_err-file : goal.returns-in_err-file
returns-in_err-file c =
    c.from_residual.ensures
    ∙ ap only_home (found_home c.self.inside.homes.entries c.args.self.now (key_of c.args.key.now.member) None c.self.view_is (search rules))

pub returns-in-One : goal.returns-in-One
returns-in-One c =
    ap only_home (found_home c.self.inside.homes.entries c.args.self.now (key_of c.args.key.now.member) (Some (One c.in-One.file c.in-One.token)) c.self.view_is (search rules))

pub returns-in-Several : goal.returns-in-Several
returns-in-Several c =
    ap only_home (found_home c.self.inside.homes.entries c.args.self.now (key_of c.args.key.now.member) (Some Several) c.self.view_is (search rules))
