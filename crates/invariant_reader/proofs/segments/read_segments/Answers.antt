use Rattle.std.proofs.Common.{List, ℕ, Vec, Global, Bor, Option, option_map, ap, sym, refl, subst}
use Rattle.array_contents.specs.Contents.{Segments}
use Rattle.array_segments.specs.Segments.{lists_of}
use Rattle.domain_api.specs.declared.expr.Expr.{Expr}
use Rattle.invariant_reader.specs.CodeLines.{Segment}
use Rattle.invariant_reader.proofs.Repeats.{AreUnderWay, goes_on, head_missed, item_missed, item_stuck, pair, starts, whole_read}
use Rattle.invariant_reader.proofs.SegmentLoops.{segment_next, segments_headed, segments_loop, segments_readable}
use Rattle.invariant_reader.proofs.segments.read_segments.Goals as goal

abbrev told : Option (Vec Expr Global × Bor (List ℕ)) → Option (List Expr × List ℕ)
told read = option_map (λ it. pair it.0.items it.1.now) read

abbrev told_segment : Option (Segment × Bor (List ℕ)) → Option (Segment × List ℕ)
told_segment read = option_map (λ it. pair it.0 it.1.now) read

pub returns-in_default : goal.returns-in_default
returns-in_default c =
    head_missed (segments_headed c.args.text.now (told c.in_ok-read.field-0) c.in_ok-read.ensures)
    (sym (ap told c.in_default.is))

pub loop-alloc-init : goal.loop-alloc-init
loop-alloc-init c = starts segments_loop (lists_of c.in_ok-segs.segs) 0 c.in-Some.read.1.now

pub returns-in_default-2 : goal.returns-in_default-2
returns-in_default-2 c =
    item_missed segments_readable (segments_headed c.args.text.now (told c.in_ok-read.field-0) c.in_ok-read.ensures)
    (record { head_is = sym (ap told c.in-Some.is); start_is = c.in_ok-segs.ensures })
    c.loop-alloc.invariant c.loop-alloc-test.ensures
    (segment_next c.loop-alloc.rest.now (told_segment c.in_ok-read-2.field-0) c.in_ok-read-2.ensures)
    (sym (ap told_segment c.in_default-2.is))

pub returns-then-left-rest : goal.returns-then-left-rest
returns-then-left-rest c =
    item_stuck segments_readable (segments_headed c.args.text.now (told c.in_ok-read.field-0) c.in_ok-read.ensures)
    (record { head_is = sym (ap told c.in-Some.is); start_is = c.in_ok-segs.ensures })
    c.loop-alloc.invariant c.loop-alloc-test.ensures
    (segment_next c.loop-alloc.rest.now (told_segment c.in_ok-read-2.field-0) c.in_ok-read-2.ensures)
    c.in-Some-2.read.0 c.in-Some-2.read.1.now (sym (ap told_segment c.in-Some-2.is)) c.if-left-rest.true

pub loop-alloc-preserved : goal.loop-alloc-preserved
loop-alloc-preserved c =
    let one = goes_on segments_readable c.loop-alloc.invariant c.loop-alloc-test.ensures
    (segment_next c.loop-alloc.rest.now (told_segment c.in_ok-read-2.field-0) c.in_ok-read-2.ensures)
    c.in-Some-2.read.0 c.in-Some-2.read.1.now (sym (ap told_segment c.in-Some-2.is)) in
    subst (λ (s : Segments). AreUnderWay segments_loop (lists_of c.in_ok-segs.segs) 0 c.in-Some.read.1.now s
    c.in-Some-2.read.1.now) (sym c.in_ok-add.ensures) one

pub returns : goal.returns
returns c =
    whole_read segments_readable (segments_headed c.args.text.now (told c.in_ok-read.field-0) c.in_ok-read.ensures)
    (record { head_is = sym (ap told c.in-Some.is); start_is = c.in_ok-segs.ensures })
    c.loop-alloc.invariant c.loop-alloc-test.ensures
