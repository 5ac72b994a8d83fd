use Rattle.std.proofs.Common.{sym, ◌∙◌}
use Rattle.array_segments.specs.Segments.{lists_of}
use Rattle.array_segments.proofs.FormLaw.{formed_is, is_formed_where}
use Rattle.array_segments.proofs.segments.Segs.has_form.Goals as goal

pub returns : goal.returns
returns g c = (λ is. formed_is (lists_of c.args.self.now) (sym c.is_formed.ensures ∙ is), λ form. c.is_formed.ensures ∙ is_formed_where (lists_of c.args.self.now) form)
