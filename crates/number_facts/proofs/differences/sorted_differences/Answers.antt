use Rattle.std.proofs.Common.{ap, ◌∙◌, rules}
use Rattle.std.proofs.lemmas.List.Sorted.{answers_always, IsNonDecreasingBy-from_sort_by_key}
use Rattle.number_facts.specs.Differences.{subtracting}
use Rattle.number_facts.proofs.DifferenceLists.{same_from_stable}
use Rattle.number_facts.proofs.differences.sorted_differences.Goals as goal

pub returns : goal.returns
returns c =
    let stable = c.in_ok-sort_by_key.ensures.stable (λ d. d.subtrahend.sym) (answers_always _ _ _ (λ f a r g h. search rules)) in
    record {
      rise = IsNonDecreasingBy-from_sort_by_key (λ d. d.subtrahend.sym) _ c.in_ok-sort_by_key.ensures.sorted (λ a r q k. search rules);
      same = λ y. same_from_stable _ _ stable y ∙ ap (λ ds. subtracting y ds) c.in_ok-differences.ensures;
    }
