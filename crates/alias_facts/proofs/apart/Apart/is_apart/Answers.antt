use Rattle.std.proofs.Common.{sym, ap, ◌∙◌, ◌≡◌, true}
use Rattle.alias_facts.specs.KeptPairs.{lower_first}
use Rattle.alias_facts.specs.PairsOf.{contains, is_proper, kept_pairs, ordered}
use Rattle.alias_facts.proofs.KeptLaws.{proper_itself}
use Rattle.alias_facts.proofs.ApartLaws.{contained_differ}
use Rattle.alias_facts.proofs.apart.Apart.is_apart.Goals as goal

pub returns-clause-different : goal.returns-clause-different
returns-clause-different c = λ is same.
    let proper : is_proper (ordered c.args.r c.args.q) ≡ true = ap is_proper (sym c.ordered.ensures) ∙ c.is_kept.ensures.proper is in
    proper_itself c.args.r c.args.q proper same

pub returns-clause-differ : goal.returns-clause-differ
returns-clause-differ c = λ is array all.
    let there : contains c.args.self.now (ordered c.args.r c.args.q) ≡ true =
    ap (contains c.args.self.now) (sym c.ordered.ensures) ∙ ap (λ kept. contains kept c.ordered.result) (sym c.self.view_is)
    ∙ ap (λ rows. contains (kept_pairs (lower_first rows) c.self.inside.marks.items) c.ordered.result) (sym c.as_slice.ensures.value)
    ∙ ap (λ marks. contains (kept_pairs (lower_first c.as_slice.result.now) marks) c.ordered.result) (sym c.as_slice-2.ensures.value)
    ∙ sym c.is_kept.ensures.kept ∙ is in
    contained_differ c.args.self.now array c.args.r c.args.q there all
