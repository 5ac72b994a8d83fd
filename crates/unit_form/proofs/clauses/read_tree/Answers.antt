use Rattle.std.proofs.Common.{map, sym, ap, ◌∙◌, arith}
use Rattle.std.proofs.lemmas.List.{length-map}
use Rattle.cc_base.proofs.TestLemmas.{refusal-carried}
use Rattle.unit_form.specs.Roots.{told}
use Rattle.unit_form.proofs.ClausesRead.{kept_small, kept_read, kept_refused, tree_cut}
use Rattle.unit_form.proofs.clauses.read_tree.Goals as goal

pub returns-in_err-roots : goal.returns-in_err-roots
returns-in_err-roots c =
    refusal-carried _ _ _ _ _ _ c.from_residual.ensures.1 c.in_err-roots.ensures
    (λ fault. tree_cut c.args.form c.args.args.now c.args.result_place c.args.kind c.args.olds c.args.bytes.now c.args.at fault)

pub kept_tree-requires-clause-small : goal.kept_tree-requires-clause-small
kept_tree-requires-clause-small c few =
    kept_small c.args.form c.args.bytes.now c.args.at (map told c.deref.result.now) c.in_ok-roots.ensures.0 (ap (map told) c.deref.ensures.value ∙ c.in_ok-roots.ensures.1.0)
    (omega (arith, few, length-map c.deref.result.now told))

pub returns-in-Some : goal.returns-in-Some
returns-in-Some c =
    kept_read c.args.form c.args.args.now c.args.result_place c.args.kind c.args.olds c.args.bytes.now c.args.at c.in_ok-roots.next (map told c.deref.result.now) c.in-Some.tree
    c.in_ok-roots.ensures.0 (ap (map told) c.deref.ensures.value ∙ c.in_ok-roots.ensures.1.0) (sym c.in-Some.is ∙ c.in_ok-tree.ensures)
    c.in_ok-roots.ensures.1.1 c.in_ok-roots.ensures.1.2

pub returns : goal.returns
returns c =
    rw c.into.ensures
    (kept_refused c.args.form c.args.args.now c.args.result_place c.args.kind c.args.olds c.args.bytes.now c.args.at (map told c.deref.result.now)
    c.in_ok-roots.ensures.0 (ap (map told) c.deref.ensures.value ∙ c.in_ok-roots.ensures.1.0) (sym c.in-None.is ∙ c.in_ok-tree.ensures))
