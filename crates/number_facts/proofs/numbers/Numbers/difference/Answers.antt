use Rattle.std.proofs.Common.{◌≡◌, ◌-ℤ◌, refl, w32, w64, to_z, of_z, rules}
use Rattle.std.specs.Int.{w128}
use Rattle.cc_base.specs.Wrap.{wrap32}
use Rattle.number_spans.specs.Constants.{constant}
use Rattle.number_facts.proofs.Small.{difference_known}
use Rattle.number_facts.proofs.numbers.Numbers.difference.Goals as goal

pub returns-then-a-b : goal.returns-then-a-b
returns-then-a-b c =
    let wide : to_z w64 (of_z w64 c.from.result) ≡ c.from.result = search rules in
    let wrapped : to_z w32 (of_z w32 c.wrap.result) ≡ c.wrap.result = search rules in
    let apart : to_z w128 (of_z w128 c.constants_apart.result) ≡ c.constants_apart.result = search rules in
    let only : c.constant.result ≡ constant (wrap32 (c.args.a.k -ℤ c.args.b.k)) =
    rw (c.constant.ensures, wide, c.from.ensures, wrapped, c.wrap.ensures, apart, c.constants_apart.ensures.value) refl in
    difference_known c.args.self.now c.args.a c.args.b c.constant.result (search rules) (search rules) only
