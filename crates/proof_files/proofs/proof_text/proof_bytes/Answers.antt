use Rattle.std.proofs.Common.{[]}
use Rattle.proof_files.specs.Held.{entries_told}
use Rattle.proof_files.proofs.KeptLemmas.{are_each}
use Rattle.proof_files.proofs.proof_text.proof_bytes.Goals as goal

pub text_of-requires : goal.text_of-requires
text_of-requires c = are_each [] (entries_told c.args.entries.now) c.requires
