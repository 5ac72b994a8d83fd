use Rattle.std.proofs.Common.{sym, ap, subst, ◌∙◌, ℕ, ◌==◌}
use Rattle.std.specs.List.{list_any}
use Rattle.std.specs.List.Sorted.{IsBinarySearchResult, IsNonDecreasing}
use Rattle.std.specs.Ordering.{nat_cmp}
use Rattle.alias_facts.proofs.MarkLists.{insert_rises, insert_adds, there_adds}
use Rattle.alias_facts.proofs.marks.mark.Goals as goal

pub returns-in_ok-insert-clause-rising : goal.returns-in_ok-insert-clause-rising
returns-in_ok-insert-clause-rising c =
    let search = subst (λ l. IsBinarySearchResult (λ y. nat_cmp y c.args.reference) l c.binary_search.result) c.as_slice.ensures.value c.binary_search.ensures.position in
    subst IsNonDecreasing (sym c.in_ok-insert.ensures.items) (insert_rises c.args.marks.now.items c.args.reference c.in-Err.place _ search c.requires c.in-Err.is)

pub returns-in_ok-insert-clause-marked : goal.returns-in_ok-insert-clause-marked
returns-in_ok-insert-clause-marked c = λ r.
    ap (list_any (λ (mark : ℕ). mark == r)) c.in_ok-insert.ensures.items ∙ insert_adds c.args.marks.now.items c.args.reference c.in-Err.place r

pub returns-in_default-clause-marked : goal.returns-in_default-clause-marked
returns-in_default-clause-marked c = λ r.
    let search = subst (λ l. IsBinarySearchResult (λ y. nat_cmp y c.args.reference) l c.binary_search.result) c.as_slice.ensures.value c.binary_search.ensures.position in
    there_adds c.args.marks.now.items c.args.reference c.in_default.field-0 r _ search c.requires c.in_default.is
