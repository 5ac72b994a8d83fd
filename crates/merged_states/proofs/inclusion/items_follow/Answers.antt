use Rattle.std.proofs.Common.{sym, ap, subst}
use Rattle.std.specs.List.{AllByRecursion}
use Rattle.array_contents.proofs.FormLaws.{formed_each}
use Rattle.array_segments.specs.SegmentLists.{HasForm}
use Rattle.merged_states.proofs.inclusion.items_follow.Goals as goal

pub includes-requires-clause-form : goal.includes-requires-clause-form
includes-requires-clause-form c =
    subst (AllByRecursion HasForm) (sym (ap (λ known. known.contents) c.a.view_is))
    (formed_each _ _ c.args.a.now.contents c.requires.first.contents)

pub includes-requires-clause-other : goal.includes-requires-clause-other
includes-requires-clause-other c =
    subst (AllByRecursion HasForm) (sym (ap (λ known. known.contents) c.b.view_is))
    (formed_each _ _ c.args.b.now.contents c.requires.second.contents)
