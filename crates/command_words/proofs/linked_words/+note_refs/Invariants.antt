use Rattle.std.proofs.Common.{length}
use Rattle.command_words.proofs.linked_words.+note_refs.Given as goal

abbrev pub decreases-note_refs : goal.decreases-note_refs
decreases-note_refs l = length l.words.now
