use Rattle.std.proofs.Common.{rules, ◌≡◌, length, sym, ◌∙◌}
use Rattle.merged_states.proofs.Nothing.{none_defined, none_named}
use Rattle.merged_states.proofs.merging.named_tables.Goals as goal

pub returns-then-is_empty-2-clause-definitions : goal.returns-then-is_empty-2-clause-definitions
returns-then-is_empty-2-clause-definitions c =
    let none : length c.args.a.now.facts.definitions ≡ 0 = search rules in
    c.nothing.ensures.definitions ∙ sym (none_defined c.args.frames.now _ _ c.args.a.now.facts.definitions _ none)

pub returns-then-is_empty-2-clause-contents : goal.returns-then-is_empty-2-clause-contents
returns-then-is_empty-2-clause-contents c =
    let none : length c.args.frames.now.references.keys ≡ 0 = search rules in
    c.nothing.ensures.contents ∙ sym (none_named c.args.a.now c.args.frames.now _ c.requires.paired none)
