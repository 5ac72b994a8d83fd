use Rattle.std.proofs.Common.{rules, ◌≡◌, true, length, sym, ap, subst}
use Rattle.std.specs.List.{AllByRecursion}
use Rattle.array_contents.proofs.FormLaws.{formed_each}
use Rattle.array_segments.specs.SegmentLists.{HasForm}
use Rattle.merged_states.specs.Parts.{are_numbered}
use Rattle.merged_states.proofs.Handed.{named_given, zero_given}
use Rattle.merged_states.proofs.items.contents_of_one.Goals as goal

pub renamed-requires-clause-form : goal.renamed-requires-clause-form
renamed-requires-clause-form c =
    subst (AllByRecursion HasForm) (sym (ap (λ known. known.contents) c.a.view_is))
    (formed_each _ _ c.args.a.now.contents c.requires.form.contents)

pub renamed-requires-clause-zero : goal.renamed-requires-clause-zero
renamed-requires-clause-zero c = zero_given c.args.frames.now.numbers (length c.args.a.now.facts.ranges) c.args.names.now c.requires.names

pub renamed-requires-clause-ends : goal.renamed-requires-clause-ends
renamed-requires-clause-ends c =
    let numbered : are_numbered c.args.frames.now ≡ true = search rules in
    named_given c.args.a.now c.args.frames.now c.args.names.now _ _ c.requires.form c.requires.paired numbered c.requires.names
    (ap (λ known. known.contents) c.a.view_is) (search rules)
