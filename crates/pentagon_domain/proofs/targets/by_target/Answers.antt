use Rattle.std.proofs.Common.{ap, ◌∙◌, rules}
use Rattle.std.proofs.lemmas.List.Sorted.{answers_always, IsNonDecreasingBy-from_sort_by_key}
use Rattle.pentagon_domain.specs.Rows.{rows_to}
use Rattle.pentagon_domain.proofs.TargetLists.{targets_sorted, same_from_stable}
use Rattle.pentagon_domain.proofs.targets.by_target.Goals as goal

pub returns : goal.returns
returns c =
    let rise = IsNonDecreasingBy-from_sort_by_key (λ row. row.t) _ c.in_ok-sort_by_key.ensures.sorted (λ a r q k. search rules) in
    let stable = c.in_ok-sort_by_key.ensures.stable (λ row. row.t) (answers_always _ _ _ (λ f a r g h. search rules)) in
    targets_sorted c.args.rows.now _ c.requires rise (λ t. same_from_stable _ _ stable t ∙ ap (λ rows. rows_to rows t) c.in_ok-targets.ensures.items)
