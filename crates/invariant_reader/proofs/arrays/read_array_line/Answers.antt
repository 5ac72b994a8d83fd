use Rattle.std.proofs.Common.{List, ℕ, Bor, Option, option_map, ap, sym, refl}
use Rattle.array_contents.specs.Contents.{Segments}
use Rattle.array_segments.specs.Segments.{lists_of}
use Rattle.array_segments.specs.declared.segments.Segs.{Segs}
use Rattle.interval_domain.specs.Interval.{Interval}
use Rattle.invariant_reader.proofs.ArrayReads.{line_read, line_unended, reference_missed, segments_missed}
use Rattle.invariant_reader.proofs.Repeats.{pair}
use Rattle.invariant_reader.proofs.arrays.read_array_line.Goals as goal

abbrev told : Option (Segs Interval × Bor (List ℕ)) → Option (Segments × List ℕ)
told read = option_map (λ it. pair (lists_of it.0) it.1.now) read

pub returns-in_default : goal.returns-in_default
returns-in_default c = reference_missed c.args.text.now c.in_default.ensures

pub returns-in_default-2 : goal.returns-in_default-2
returns-in_default-2 c =
    segments_missed c.args.text.now c.in-Some.read.0 c.in-Some.read.1.now (told c.in_ok-read.field-0) c.in-Some.ensures
    c.in_ok-read.ensures (sym (ap told c.in_default-2.is))

pub returns-in_default-behind : goal.returns-in_default-behind
returns-in_default-behind c =
    line_unended c.args.text.now c.in-Some.read.0 c.in-Some.read.1.now (told c.in_ok-read.field-0)
    (lists_of c.in-Some-2.read.0) c.in-Some-2.read.1.now c.in-Some.ensures c.in_ok-read.ensures
    (sym (ap told c.in-Some-2.is)) c.in_default-behind.ensures

pub returns : goal.returns
returns c =
    line_read c.args.text.now c.in-Some.read.0 c.in-Some.read.1.now (told c.in_ok-read.field-0)
    (lists_of c.in-Some-2.read.0) c.in-Some-2.read.1.now c.in-Some-behind.left.now c.in-Some.ensures c.in_ok-read.ensures
    (sym (ap told c.in-Some-2.is)) c.in-Some-behind.ensures
