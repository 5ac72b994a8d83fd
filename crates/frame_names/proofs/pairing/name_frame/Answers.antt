use Rattle.std.proofs.Common.{true}
use Rattle.std.proofs.lemmas.Result.{IfOk-weaker}
use Rattle.frame_names.proofs.FrameLemmas.{alike_itself}
use Rattle.frame_names.proofs.NearLaws.{frames_there}
use Rattle.frame_names.proofs.SaidLaws.{frames_have_lengths, frames_say}
use Rattle.frame_names.proofs.pairing.name_frame.Goals as goal

pub returns-clause-says : goal.returns-clause-says
returns-clause-says c = IfOk-weaker c.own.result _ _ (λ frames is. frames_say c.args.frame.now.vars.now c.args.frame.now.vars.now c.args.frame.now.references.now c.args.frame.now.references.now frames (alike_itself c.args.frame.now.vars.now) is) c.own.ensures

pub returns-clause-lengths : goal.returns-clause-lengths
returns-clause-lengths c = IfOk-weaker c.own.result _ _ (λ frames is. frames_have_lengths c.args.frame.now.vars.now c.args.frame.now.vars.now c.args.frame.now.references.now c.args.frame.now.references.now frames (alike_itself c.args.frame.now.vars.now) is) c.own.ensures

pub returns-clause-some : goal.returns-clause-some
returns-clause-some c =
    IfOk-weaker c.own.result _ _
    (λ frames is. λ number fit. frames_there c.args.frame.now.vars.now c.args.frame.now.vars.now c.args.frame.now.references.now c.args.frame.now.references.now frames
    true number (alike_itself c.args.frame.now.vars.now) is fit)
    c.own.ensures
