use Rattle.std.proofs.Common.{length}
use Rattle.command_words.proofs.linked_words.+append_some.Given as goal

abbrev pub decreases-append_some : goal.decreases-append_some
decreases-append_some l = length l.refs.now
