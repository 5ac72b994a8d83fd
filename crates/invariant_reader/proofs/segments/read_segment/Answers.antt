use Rattle.std.proofs.Common.{List, ℕ, Vec, Global, Bor, Option, option_map, ap, sym, refl}
use Rattle.domain_api.specs.declared.expr.Expr.{Expr}
use Rattle.invariant_reader.proofs.Repeats.{pair}
use Rattle.invariant_reader.proofs.SegmentReads.{end_missed, range_missed, segment_read, segment_unbegun}
use Rattle.invariant_reader.proofs.segments.read_segment.Goals as goal

abbrev told : Option (Vec Expr Global × Bor (List ℕ)) → Option (List Expr × List ℕ)
told read = option_map (λ it. pair it.0.items it.1.now) read

pub returns-in_default : goal.returns-in_default
returns-in_default c = segment_unbegun c.args.text.now c.in_default.ensures

pub returns-in_default-read_range : goal.returns-in_default-read_range
returns-in_default-read_range c =
    range_missed c.args.text.now c.in-Some.left.now c.in-Some.ensures c.in_default-read_range.ensures

pub returns-in_default-2 : goal.returns-in_default-2
returns-in_default-2 c =
    end_missed c.args.text.now c.in-Some-read_range.read.0 c.read_mark-may_be_empty.result.0
    c.read_mark-may_be_empty.result.1.now (told c.in_ok-read.field-0)
    (record {
      left = c.in-Some.left.now;
      next = c.in-Some-read_range.read.1.now;
      begun = c.in-Some.ensures;
      range = c.in-Some-read_range.ensures;
      mark_is = c.read_mark-may_be_empty.ensures;
    })
    c.in_ok-read.ensures (sym (ap told c.in_default-2.is))

pub returns : goal.returns
returns c =
    segment_read c.args.text.now c.in-Some-read_range.read.0 c.read_mark-may_be_empty.result.0
    c.read_mark-may_be_empty.result.1.now (told c.in_ok-read.field-0) c.in-Some-2.read.0.items c.in-Some-2.read.1.now
    (record {
      left = c.in-Some.left.now;
      next = c.in-Some-read_range.read.1.now;
      begun = c.in-Some.ensures;
      range = c.in-Some-read_range.ensures;
      mark_is = c.read_mark-may_be_empty.ensures;
    })
    c.in_ok-read.ensures (sym (ap told c.in-Some-2.is))
