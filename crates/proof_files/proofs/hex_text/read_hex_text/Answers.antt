use Rattle.std.proofs.Common.{arith}
use Rattle.proof_files.proofs.HexReading.{hex_odd, pair_none}
use Rattle.proof_files.proofs.hex_text.read_hex_text.Goals as goal

pub returns-then-text-eq1 : goal.returns-then-text-eq1
returns-then-text-eq1 c bytes small is = hex_odd c.args.text.now c.if-text-eq1.true bytes small is

pub returns-in_default : goal.returns-in_default
returns-in_default c bytes small is =
    pair_none c.args.text.now c.loop-place.place (omega (arith, c.loop-place-test.true)) c.in_default.ensures bytes
    small is
