use Rattle.proof_files.proofs.KeptLemmas.{each_at}
use Rattle.proof_files.proofs.proof_text.text_of.Goals as goal

pub add_entry-requires : goal.add_entry-requires
add_entry-requires c =
    each_at c.args.entries.now c.loop-entry.entry-index c.entry-item.result c.requires c.loop-entry-test.true
    c.entry-item.is
