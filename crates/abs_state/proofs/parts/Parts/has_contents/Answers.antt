use Rattle.std.proofs.Common.{rules, ◌≡◌}
use Rattle.state_facts.specs.Forms.{lengths_of}
use Rattle.abs_state.proofs.PartForms.{contents_test}
use Rattle.abs_state.proofs.parts.Parts.has_contents.Goals as goal

pub returns : goal.returns
returns c =
    let are : c.as_slice.result.now ≡ lengths_of c.args.self.now.references = search rules in
    contents_test c.args.self.now c.as_slice.result.now c.are_formed.result are c.are_formed.ensures
