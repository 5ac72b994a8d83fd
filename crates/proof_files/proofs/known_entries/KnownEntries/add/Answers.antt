use Rattle.std.proofs.Common.{ap, ◌∙◌}
use Rattle.proof_files.specs.Held.{keys_in}
use Rattle.proof_files.proofs.KeyLemmas.{key_last}
use Rattle.proof_files.proofs.known_entries.KnownEntries.add.Goals as goal

pub returns-clause-keys : goal.returns-clause-keys
returns-clause-keys c = ap keys_in c.in_ok-insert.ensures.entries
    ∙ key_last c.args.self.now.keys.entries c.args.key tt c.requires.new
