use Rattle.std.proofs.lemmas.Result.{IfOk-weaker}
use Rattle.frame_names.proofs.TableLaws.{frames_agree}
use Rattle.frame_names.proofs.NearLaws.{frames_there}
use Rattle.frame_names.proofs.SaidLaws.{frames_have_lengths, frames_say}
use Rattle.frame_names.proofs.pairing.pair_frames.Goals as goal

pub returns-clause-says : goal.returns-clause-says
returns-clause-says c = IfOk-weaker c.paired.result _ _ (λ frames is. frames_say c.args.a.now.vars.now c.args.b.now.vars.now c.args.a.now.references.now c.args.b.now.references.now frames c.requires.alike is) c.paired.ensures

pub returns-clause-lengths : goal.returns-clause-lengths
returns-clause-lengths c = IfOk-weaker c.paired.result _ _ (λ frames is. frames_have_lengths c.args.a.now.vars.now c.args.b.now.vars.now c.args.a.now.references.now c.args.b.now.references.now frames c.requires.alike is) c.paired.ensures

pub returns-clause-places : goal.returns-clause-places
returns-clause-places c = λ places.
    IfOk-weaker c.paired.result _ _
    (λ frames is. frames_agree c.args.a.now.references.now c.args.b.now.references.now c.args.a.now.vars.now c.args.b.now.vars.now frames c.requires.alike places is)
    c.paired.ensures

pub returns-clause-some : goal.returns-clause-some
returns-clause-some c =
    IfOk-weaker c.paired.result _ _
    (λ frames is. λ is_first number fit. frames_there c.args.a.now.vars.now c.args.b.now.vars.now c.args.a.now.references.now c.args.b.now.references.now frames
    is_first number c.requires.alike is fit)
    c.paired.ensures
