use Rattle.std.proofs.Common.{◌∙◌, sym}
use Rattle.merged_numbers.specs.Known.{known}
use Rattle.merged_numbers.specs.Merging.{told}
use Rattle.merged_numbers.proofs.ApartLaws.{pair_told}
use Rattle.merged_numbers.proofs.merging.Sides.add_pair.Goals as goal

pub returns-then-is_told : goal.returns-then-is_told
returns-then-is_told c =
    pair_told c.args.self.now.rule (known c.args.self.now.a) (known c.args.self.now.b) c.args.self.now.keys.now c.args.i c.args.j _ _
    c.first_of.result c.first_of-2.result (told c.args.ranges.now c.args.i c.args.j) c.term_gap-left.result c.args.bounds.now
    c.requires.from c.requires.to c.first_of.ensures.value c.first_of-2.ensures.value c.term_gap-left.ensures
    (sym c.is_told.ensures ∙ c.if-is_told.true)
