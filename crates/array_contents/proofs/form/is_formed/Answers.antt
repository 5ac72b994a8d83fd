use Rattle.array_segments.specs.Segments.{lists_of}
use Rattle.array_contents.proofs.FormSteps.{form_test}
use Rattle.array_contents.proofs.form.is_formed.Goals as goal

pub returns : goal.returns
returns c = form_test (lists_of c.args.one.now) c.has_form.result c.has_form.ensures
