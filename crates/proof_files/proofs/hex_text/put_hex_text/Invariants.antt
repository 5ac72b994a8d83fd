use Rattle.std.proofs.Common.{◌≡◌, ◌++◌, take}
use Rattle.proof_files.specs.Proofs.{hex_text}
use Rattle.proof_files.proofs.hex_text.put_hex_text.Given as goal

abbrev pub invariant-loop-byte : goal.invariant-loop-byte
invariant-loop-byte l = l.out.items ≡ l.initial.out.items ++ hex_text (take l.byte-index l.bytes)
