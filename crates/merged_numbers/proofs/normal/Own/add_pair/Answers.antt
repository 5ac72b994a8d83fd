use Rattle.std.proofs.Common.{refl, sym, ap}
use Rattle.std.specs.Prelude.{option_map}
use Rattle.std.proofs.lemmas.Result.{on_ok_weaker}
use Rattle.merged_numbers.specs.Known.{known}
use Rattle.merged_numbers.proofs.ApartLaws.{pair_by_row}
use Rattle.merged_numbers.proofs.TermLaws.{none_there}
use Rattle.merged_numbers.proofs.normal.Own.add_pair.Goals as goal

pub returns-then-is_none : goal.returns-then-is_none
returns-then-is_none c =
    pair_by_row (known c.args.self.now.a) c.args.self.now.keys.now c.args.self.now.ranges.now c.args.i c.args.j _ _
    c.known_by_row-known.result _ c.args.bounds.now c.args.bounds.now c.requires.ranges c.requires.first c.requires.second
    c.known_by_row-known.ensures (ap (option_map _) (sym (none_there c.known_by_row-known.result c.is_none.result c.is_none.ensures c.if-is_none.true))) refl

pub returns : goal.returns
returns c =
    on_ok_weaker c.add_gap.result
    (pair_by_row (known c.args.self.now.a) c.args.self.now.keys.now c.args.self.now.ranges.now c.args.i c.args.j _ _
    c.known_by_row-known.result c.key_gap.result c.args.bounds.now c.add_gap.new.bounds
    c.requires.ranges c.requires.first c.requires.second c.known_by_row-known.ensures c.key_gap.ensures)
    c.add_gap.ensures
