use Rattle.std.proofs.Common.{rules}
use Rattle.unit_builder.proofs.OrderLemmas.{place_within, puts-met, refuses}
use Rattle.unit_builder.proofs.world.put_next.Goals as goal

pub index-requires : goal.index-requires
index-requires c = place_within c.args.reached.now.met.tokens c.args.token.0 c.in-Some.place _ c.in-Some.ensures (search rules)

pub returns-then-is_none-clause-put : goal.returns-then-is_none-clause-put
returns-then-is_none-clause-put c = λ asm from whole. refuses asm from _ _ whole c.args.token c.args.order.now.tokens c.in-Some.place c.index.result.now (search rules) (search rules) (search rules)

pub returns-clause-put : goal.returns-clause-put
returns-clause-put c = λ asm from whole. puts-met asm from _ _ whole c.args.token c.args.order.now.tokens c.in-Some.place c.index.result.now _ (search rules) (search rules) (search rules) (search rules)
