use Rattle.std.proofs.Common.{arith, sym, ◌∙◌}
use Rattle.proof_files.proofs.KeptLemmas.{put_answer, put_none}
use Rattle.proof_files.proofs.proof_text.ProofText.put.Goals as goal

pub returns-then-has_room : goal.returns-then-has_room
returns-then-has_room c =
    put_answer c.put_entry.result c.args.self.now c.self.inside.text.items c.put_entry.new.out.items c.args.key.now
    c.args.lines.now
    c.self.inside.full c.saturating_sub-room.result c.self.view_is c.requires.open c.put_entry.ensures
    (omega (arith, c.saturating_sub-room.ensures, c.len.ensures)) (sym c.has_room.ensures ∙ c.if-has_room.true)

pub returns-else-has_room : goal.returns-else-has_room
returns-else-has_room c =
    put_none c.args.self.now c.self.inside.text.items c.args.key.now c.args.lines.now c.self.inside.full
    c.saturating_sub-room.result
    c.self.view_is c.requires.open (omega (arith, c.saturating_sub-room.ensures, c.len.ensures))
    (sym c.has_room.ensures ∙ c.if-has_room.false)
