use Rattle.std.proofs.Common.{◌≡◌, ◌≢◌, ◌-◌, ◌+◌, length, sym, ◌∙◌, arith}
use Rattle.std.proofs.lemmas.Bool.{eqb-false}
use Rattle.pentagon_domain.proofs.Searches.{all_before}
use Rattle.pentagon_domain.proofs.search.ends_before.Goals as goal

pub returns : goal.returns
returns c = λ yes.
    let rows = c.args.rows.now in
    let some : length rows ≢ 0 = eqb-false (length rows) 0 (sym c.is_empty.ensures ∙ c.if-is_empty.false) in
    let last : (length rows - 1) + 1 ≡ length rows = omega (arith, some) in
    all_before rows c.args.s c.args.t (length rows - 1) _ c.requires last (sym c.is_before.ensures ∙ yes)
