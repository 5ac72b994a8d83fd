use Rattle.std.proofs.Common.{◌≡◌, map, drop}
use Rattle.std.specs.Prelude.{nat_le}
use Rattle.std.specs.List.{list_all}
use Rattle.array_contents.proofs.form.all_are_there.Given as goal

abbrev pub invariant-loop-bound : goal.invariant-loop-bound
invariant-loop-bound l =
    list_all (list_all (λ e. nat_le e.sym l.symbols)) (map (λ bound. bound.items) (drop l.bound-index l.bounds))
    ≡ list_all (list_all (λ e. nat_le e.sym l.symbols)) (map (λ bound. bound.items) l.bounds)
