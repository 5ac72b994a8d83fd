use Rattle.array_segments.specs.Segments.{lists_of}
use Rattle.array_contents.proofs.AtSteps.{form_of}
use Rattle.array_contents.proofs.contents.Contents.includes_one.Goals as goal

pub leq_under-requires-clause-form : goal.leq_under-requires-clause-form
leq_under-requires-clause-form g c = form_of c.args.self.now c.args.r (lists_of c.in-Some.known.now) c.requires.form c.in-Some.ensures
