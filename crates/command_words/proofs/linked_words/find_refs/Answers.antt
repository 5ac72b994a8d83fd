use Rattle.std.proofs.Common.{[], refl}
use Rattle.command_words.proofs.linked_words.find_refs.Goals as goal

pub returns : goal.returns
returns c = c.note_refs.ensures [] refl refl
