use Rattle.std.proofs.Common.{◌∙◌, arith, refl, length-set}
use Rattle.cc_base.proofs.DigitLemmas.{hex_more, hex_all}
use Rattle.cc_base.proofs.digits.hex_text.Goals as goal

pub loop-index-init : goal.loop-index-init
loop-index-init c = record { room = refl; written = refl }

pub loop-index-preserved : goal.loop-index-preserved
loop-index-preserved c = record {
  room = length-set c.loop-index.text _ _ ∙ c.loop-index.invariant.room;
  written =
      hex_more c.loop-index.index c.loop-index.rest c.hex_digit.result c.loop-index.text
      c.loop-index-test.true (omega arith) c.hex_digit.ensures
      ∙ c.loop-index.invariant.written;
}

pub returns : goal.returns
returns c =
    hex_all c.loop-index.index c.loop-index.rest c.args.digits c.args.n c.loop-index.text _
    c.loop-index-test.false c.loop-index.invariant.written
