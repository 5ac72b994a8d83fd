use Rattle.std.proofs.Common.{◌≡◌, ◌+◌, ◌∙◌, refl, rules, to_z, of_z, w64}
use Rattle.invariant_codec.specs.Numbers.{int32}
use Rattle.invariant_codec.proofs.RangesRead.{range_read}
use Rattle.invariant_codec.proofs.ranges.read_range.Goals as goal

pub returns : goal.returns
returns c =
    let low_same : to_z w64 (of_z w64 c.from-lo.result) ≡ c.from-lo.result = search rules in
    let high_same : to_z w64 (of_z w64 c.from-hi.result) ≡ c.from-hi.result = search rules in
    let lo : c.from-lo.result ≡ (int32.read c.args.bytes.now c.args.at).value = search rules in
    let hi : c.from-hi.result ≡ (int32.read c.args.bytes.now (c.args.at + 4)).value = search rules in
    let read = range_read c.args.bytes.now c.args.at c.in_ok-holed.next (to_z w64 (of_z w64 c.from-lo.result))
    (to_z w64 (of_z w64 c.from-hi.result)) c.in-Some.range c.in_ok-holed.holed
    c.in_ok-read_i32.ensures.0 (low_same ∙ lo) c.in_ok-read_i32.ensures.1.1 c.in_ok-read_i32-2.ensures.0
    (high_same ∙ hi) c.in_ok-read_i32-2.ensures.1.1 (c.in-Some.ensures.some.0 refl) c.in-Some.ensures.value
    c.in_ok-holed.ensures.0 c.in_ok-holed.ensures.1.0 c.in_ok-holed.ensures.1.1 in
    (read.tests, (read.value, read.next_is, c.in_ok-holed.ensures.1.2))
