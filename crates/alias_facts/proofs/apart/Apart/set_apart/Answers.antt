use Rattle.std.proofs.Common.{◌≡◌, true, sym, ap, subst, ◌∙◌, if◌then◌else◌}
use Rattle.alias_facts.specs.KeptPairs.{lower_first, turned}
use Rattle.alias_facts.specs.PairsOf.{AreProper, inserted, is_proper, kept_pairs, with_pair}
use Rattle.alias_facts.proofs.KeptLaws.{kept_one_more}
use Rattle.alias_facts.proofs.TurnedLaws.{one_row_more, proper_row_more}
use Rattle.alias_facts.specs.Arrays.{AllDiffer}
use Rattle.alias_facts.proofs.ApartLaws.{with_pair_differ}
use Rattle.alias_facts.proofs.apart.Apart.set_apart.Goals as goal

pub invariant_of-self-2 : goal.invariant_of-self-2
invariant_of-self-2 c =
    let pair = c.ordered-pair.result in
    let is : is_proper pair ≡ true = sym c.is_proper.ensures ∙ c.if-not-is_proper.false in
    let new : c.insert.new.pairs.items ≡ inserted (turned pair) c.self.inside.rows.items =
    c.in_ok-insert.ensures.ok ∙ ap (λ p. inserted p c.self.inside.rows.items) c.turned.ensures in
    record {
      in_order = c.in_ok-insert.ensures.in_order;
      proper = subst (λ rows. AreProper (lower_first rows)) (sym new) (proper_row_more pair c.self.inside.rows.items is c.self.invariant.proper);
      rising = c.self.invariant.rising;
    }

pub returns-clause-ok : goal.returns-clause-ok
returns-clause-ok c =
    let pair = c.ordered-pair.result in
    let is : is_proper pair ≡ true = sym c.is_proper.ensures ∙ c.if-not-is_proper.false in
    let old = c.args.self.now in
    let rows = c.self.inside.rows.items in
    let new : c.insert.new.pairs.items ≡ inserted (turned pair) rows = c.in_ok-insert.ensures.ok ∙ ap (λ p. inserted p rows) c.turned.ensures in
    ap (λ rows. kept_pairs (lower_first rows) c.self.inside.marks.items) new
    ∙ kept_one_more (lower_first rows) (lower_first (inserted (turned pair) rows)) c.self.inside.marks.items pair (one_row_more rows pair)
    ∙ ap (inserted pair) c.self.view_is
    ∙ sym (ap (λ b. if b then inserted pair old else old) is) ∙ ap (λ p. with_pair p old) c.ordered-pair.ensures

pub returns-clause-keeps : goal.returns-clause-keeps
returns-clause-keeps c = λ array all differ.
    subst (AllDiffer array) (sym (returns-clause-ok c)) (with_pair_differ c.args.self.now array c.args.r c.args.q all differ)
