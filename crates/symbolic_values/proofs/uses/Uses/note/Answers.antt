use Rattle.std.proofs.Common.{sym, ap, ◌∙◌, ◌∷◌}
use Rattle.symbolic_values.specs.Pairing.{origin}
use Rattle.symbolic_values.proofs.Origins.{noted_other}
use Rattle.symbolic_values.proofs.uses.Uses.note.Goals as goal

pub returns : goal.returns
returns c =
    ap (λ l. origin ∷ l) c.in_ok-place_of.ensures.keys ∙ sym (noted_other c.args.self.now c.args.used.now (sym c.is_origin.ensures ∙ c.if-is_origin.false))
