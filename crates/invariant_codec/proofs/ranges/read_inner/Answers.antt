use Rattle.std.proofs.Common.{◌≡◌, ◌∙◌, sym, rules, to_z, of_z, w64}
use Rattle.invariant_codec.specs.Numbers.{int32}
use Rattle.invariant_codec.proofs.RangesRead.{inner_read}
use Rattle.invariant_codec.proofs.ranges.read_inner.Goals as goal

pub returns-in-Some : goal.returns-in-Some
returns-in-Some c =
    let same : to_z w64 (of_z w64 c.from-hole.result) ≡ c.from-hole.result = search rules in
    let hole : c.from-hole.result ≡ (int32.read c.args.bytes.now c.args.at).value = search rules in
    let read = inner_read c.args.bytes.now c.args.at c.args.range.lo c.args.range.hi
    (to_z w64 (of_z w64 c.from-hole.result)) c.in-Some.holed
    c.in_ok-read_i32.ensures.0 (same ∙ hole) (sym c.with_hole.ensures ∙ c.in-Some.is) in
    (read.tests, (read.value, c.in_ok-read_i32.ensures.1.1, c.in_ok-read_i32.ensures.1.2))
