use Rattle.std.proofs.Common.{◌≡◌, pos, get_or, rules, w64, to_z, of_z}
use Rattle.pentagon_domain.specs.declared.bound_row.BoundRow.{BoundRow}
use Rattle.pentagon_domain.specs.Most.{IsUpTo}
use Rattle.pentagon_domain.proofs.IdleSums.{up_more, up_to_step}
use Rattle.pentagon_domain.proofs.idle.most_of.Goals as goal

pub loop-row-preserved : goal.loop-row-preserved
loop-row-preserved c =
    let none : BoundRow = record { s = 0; t = 0; k = pos 0 } in
    let m = to_z w64 c.loop-row.most-bits in
    let n = c.most_with-most.result in
    let whole : to_z w64 (of_z w64 n) ≡ n = search rules in
    let here : IsUpTo n (get_or c.args.rows.now c.loop-row.row-index none) = search rules in
    let up = c.most_with-most.ensures.least in
    rw whole
    (record {
      least = up_more _ m n c.loop-row.invariant.least up;
      so_far = up_to_step c.args.rows.now c.loop-row.row-index m n none c.loop-row-test.true up here c.loop-row.invariant.so_far;
    })
