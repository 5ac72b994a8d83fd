use Rattle.std.proofs.Common.{length}
use Rattle.command_words.proofs.check_words.+are_refs_named.Given as goal

abbrev pub decreases-are_refs_named : goal.decreases-are_refs_named
decreases-are_refs_named l = length l.words.now
