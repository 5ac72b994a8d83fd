use Rattle.std.proofs.Common.{refl, rules, sym, ap, ◌∙◌}
use Rattle.asm_image.specs.Rows.{methods_of}
use Rattle.asm_links.proofs.HomeLemmas.{all_told, next_told, none_named, none_yet}
use Rattle.asm_links.proofs.homes.Homes.note_all.Goals as goal

pub returns-in_default : goal.returns-in_default
returns-in_default c = λ before told. none_named c.args.file c.args.assembly.now before c.args.self.now (search rules) told

pub loop-method-init : goal.loop-method-init
loop-method-init c = λ before told. none_yet before c.args.self.now told

pub loop-method-preserved : goal.loop-method-preserved
loop-method-preserved c = λ before told.
    next_told c.args.file c.args.assembly.now c.in-Some.name.now (methods_of c.args.assembly.now) c.loop-method.method-index c.method-item.result _ before c.loop-method.self c.note.new.self
    (search rules) (search rules) c.of_method.ensures (c.loop-method.invariant before told) c.in_ok-note.ensures

pub returns : goal.returns
returns c = λ before told.
    all_told c.args.file c.args.assembly.now c.in-Some.name.now (methods_of c.args.assembly.now) c.loop-method.method-index before c.loop-method.self refl (search rules) (search rules)
    (c.loop-method.invariant before told)
