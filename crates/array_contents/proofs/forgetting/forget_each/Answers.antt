use Rattle.std.proofs.Common.{◌≡◌, map, ap, ◌∙◌}
use Rattle.std.specs.Option.{option_map}
use Rattle.array_segments.specs.Segments.{lists_of}
use Rattle.array_contents.specs.Replacing.{replaced_each, unknown_lists}
use Rattle.array_contents.proofs.EachSteps.{forgotten_is}
use Rattle.array_contents.proofs.forgetting.forget_each.Goals as goal

pub returns-clause-ok : goal.returns-clause-ok
returns-clause-ok c =
    let fresh : map (option_map lists_of) c.in_ok-fresh.fresh.items ≡ map unknown_lists c.args.arrays.now = c.in_ok-fresh.ensures in
    c.replace_each.ensures
    ∙ ap (λ news. replaced_each news (map lists_of c.args.segments.now)) fresh
    ∙ forgotten_is c.args.arrays.now (map lists_of c.args.segments.now)
