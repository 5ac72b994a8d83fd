use Rattle.std.proofs.Common.{rules, ◌≡◌, true, sym, ap, subst}
use Rattle.std.specs.List.{AllByRecursion}
use Rattle.array_contents.proofs.FormLaws.{formed_each}
use Rattle.array_segments.specs.SegmentLists.{HasForm}
use Rattle.merged_states.specs.Parts.{are_numbered}
use Rattle.merged_states.proofs.Handed.{stand_given}
use Rattle.merged_states.proofs.items.contents_of_both.Goals as goal

pub merged-requires-clause-first : goal.merged-requires-clause-first
merged-requires-clause-first c =
    subst (AllByRecursion HasForm) (sym (ap (λ known. known.contents) c.a.view_is))
    (formed_each _ _ c.args.a.now.contents c.requires.first.contents)

pub merged-requires-clause-second : goal.merged-requires-clause-second
merged-requires-clause-second c =
    subst (AllByRecursion HasForm) (sym (ap (λ known. known.contents) c.b.view_is))
    (formed_each _ _ c.args.b.now.contents c.requires.second.contents)

pub merged-requires-clause-ends : goal.merged-requires-clause-ends
merged-requires-clause-ends c =
    let numbered : are_numbered c.args.frames.now ≡ true = search rules in
    stand_given c.args.a.now c.args.b.now c.args.frames.now _ _ _ _ _ c.requires.first c.requires.second c.requires.alike c.requires.paired numbered
    (ap (λ known. known.contents) c.a.view_is) (ap (λ known. known.contents) c.b.view_is) (search rules) (search rules) (search rules)
