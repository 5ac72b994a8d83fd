use Rattle.proof_files.proofs.HexReading.{AreRead}
use Rattle.proof_files.proofs.hex_text.read_hex_text.Given as goal

abbrev pub invariant-loop-place : goal.invariant-loop-place
invariant-loop-place l = AreRead l.text l.bytes.items l.place
