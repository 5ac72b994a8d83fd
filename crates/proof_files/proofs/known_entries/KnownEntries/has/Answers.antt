use Rattle.std.proofs.Common.{◌∙◌}
use Rattle.proof_files.proofs.KeyLemmas.{has_key}
use Rattle.proof_files.proofs.known_entries.KnownEntries.has.Goals as goal

pub returns : goal.returns
returns c = c.is_some.ensures ∙ has_key c.get.result c.args.self.now.keys.entries c.args.key.now c.get.ensures.value
