use Rattle.std.proofs.Common.{rules, Some, None, option_map, ap, ◌∙◌, length-set}
use Rattle.cc_base.specs.declared.token.Token.{Token}
use Rattle.unit_builder.specs.Walks.{numbers}
use Rattle.unit_builder.specs.WorldOf.{places_in, places_made, unit_made}
use Rattle.unit_builder.specs.declared.reach.Visited.{Visited}
use Rattle.unit_builder.proofs.MadeLemmas.{left_later, left_more, made_slot, made_unmet}
use Rattle.unit_builder.proofs.OrderLemmas.{found-push, place_within}
use Rattle.unit_builder.proofs.world.world_in.Goals as goal

pub loop-token-preserved-in_default : goal.loop-token-preserved-in_default
loop-token-preserved-in_default c =
    let d : Token = record { 0 = 0 } in
    let none = made_unmet c.args.reached.met.tokens c.args.reached.visits.items _ _ _ d c.loop-token.invariant.3 c.loop-token-test.true c.in_default.ensures in (
      c.loop-token.invariant.0,
      found-push (unit_made c.args.reached.met.tokens c.args.reached.visits.items) _ _ d None _ _ c.loop-token-test.true c.loop-token.invariant.1
          (ap (option_map (λ (v : Visited). v.unit)) none) (search rules),
      found-push (places_made c.args.order.now.tokens c.args.reached.met.tokens c.args.reached.visits.items) _ _ d None _ _ c.loop-token-test.true c.loop-token.invariant.2
          (ap (option_map (λ (v : Visited). places_in c.args.order.now.tokens (numbers v.callees.items))) none) (search rules),
      left_later _ _ _ _ _ c.loop-token.invariant.3,
    )

pub index_mut-requires : goal.index_mut-requires
index_mut-requires c = place_within c.args.reached.met.tokens _ c.in-Some.place _ c.in-Some.ensures (search rules)

pub loop-token-preserved-in_default-take : goal.loop-token-preserved-in_default-take
loop-token-preserved-in_default-take c =
    let d : Token = record { 0 = 0 } in
    let none = made_slot c.args.reached.met.tokens c.args.reached.visits.items _ _ _ d c.loop-token.invariant.3 c.loop-token-test.true c.in-Some.place None c.in-Some.ensures
    (place_within c.args.reached.met.tokens _ c.in-Some.place _ c.in-Some.ensures c.loop-token.invariant.0) (search rules) in (
      length-set c.loop-token.visits.items c.in-Some.place c.take.new.self ∙ c.loop-token.invariant.0,
      found-push (unit_made c.args.reached.met.tokens c.args.reached.visits.items) _ _ d None _ _ c.loop-token-test.true c.loop-token.invariant.1
          (ap (option_map (λ (v : Visited). v.unit)) none) (search rules),
      found-push (places_made c.args.order.now.tokens c.args.reached.met.tokens c.args.reached.visits.items) _ _ d None _ _ c.loop-token-test.true c.loop-token.invariant.2
          (ap (option_map (λ (v : Visited). places_in c.args.order.now.tokens (numbers v.callees.items))) none) (search rules),
      rw c.take.ensures.after
          (left_more _ _ _ _ c.args.order.now.tokens _ c.in-Some.place d c.tokens-tokens.ensures.value c.tokens-tokens.ensures.each c.loop-token-test.true c.in-Some.ensures c.loop-token.invariant.3),
    )

pub loop-token-preserved : goal.loop-token-preserved
loop-token-preserved c =
    let d : Token = record { 0 = 0 } in
    let some = made_slot c.args.reached.met.tokens c.args.reached.visits.items _ _ _ d c.loop-token.invariant.3 c.loop-token-test.true c.in-Some.place (Some c.in-Some-take.visited) c.in-Some.ensures
    (place_within c.args.reached.met.tokens _ c.in-Some.place _ c.in-Some.ensures c.loop-token.invariant.0) (search rules) in (
      length-set c.loop-token.visits.items c.in-Some.place c.take.new.self ∙ c.loop-token.invariant.0,
      found-push (unit_made c.args.reached.met.tokens c.args.reached.visits.items) _ _ d (Some c.in-Some-take.visited.unit) _ _ c.loop-token-test.true c.loop-token.invariant.1
          (ap (option_map (λ (v : Visited). v.unit)) some) (search rules),
      found-push (places_made c.args.order.now.tokens c.args.reached.met.tokens c.args.reached.visits.items) _ _ d (Some (places_in c.args.order.now.tokens (numbers c.in-Some-take.visited.callees.items))) _ _
          c.loop-token-test.true c.loop-token.invariant.2
          (ap (option_map (λ (v : Visited). places_in c.args.order.now.tokens (numbers v.callees.items))) some) (search rules),
      rw c.take.ensures.after
          (left_more _ _ _ _ c.args.order.now.tokens _ c.in-Some.place d c.tokens-tokens.ensures.value c.tokens-tokens.ensures.each c.loop-token-test.true c.in-Some.ensures c.loop-token.invariant.3),
    )
