use Rattle.std.proofs.Common.{◌≡◌, None, refl, rules}
use Rattle.merged_numbers.specs.Known.{known}
use Rattle.merged_numbers.proofs.KeptLaws.{bare_row}
use Rattle.merged_numbers.proofs.merging.Sides.add_rows.Goals as goal

pub loop-i-preserved-then-is_none : goal.loop-i-preserved-then-is_none
loop-i-preserved-then-is_none c =
    let none : c.row_from-left.result ≡ None = search rules in
    record {
      so_far = bare_row c.args.self.now.rule (known c.args.self.now.a) (known c.args.self.now.b) c.args.self.now.keys.now c.args.ranges.now c.loop-i.i _
          c.args.bounds.now c.loop-i.bounds (c.if-is_plain.ensures.kept refl) (c.if-is_plain.ensures.own refl) c.loop-i-test.true (c.row_from-left.ensures.bare none)
          c.loop-i.invariant.so_far;
      within = search rules;
    }
