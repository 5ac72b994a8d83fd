use Rattle.std.proofs.Common.{rules}
use Rattle.unit_builder.proofs.StepLemmas.{among_count, calls_among, next_there, walk_more}
use Rattle.unit_builder.proofs.WalkLemmas.{walk-start, whole}
use Rattle.unit_builder.proofs.reach.walk.Goals as goal

pub meet-requires : goal.meet-requires
meet-requires c = record { among = among_count c.args.units.now c.args.from _ (search rules) c.requires.there }

pub visit-requires : goal.visit-requires
visit-requires c =
    let there = next_there c.args.units.now c.args.from.0 c.visit.met.tokens c.visit.visits.items c.visit.invariant.2 c.tokens.result.now (search rules) c.len-in-visit-2.result (search rules) (search rules) in
    record { there = rw c.visit.invariant.0 there }

pub meet_all-requires : goal.meet_all-requires
meet_all-requires c = record {
  among = calls_among c.args.units.now c.args.from.0 c.visit.met.tokens c.visit.visits.items c.visit.invariant.2 c.tokens.result.now (search rules) c.len-in-visit-2.result (search rules) (search rules)
      c.in_ok-visited.visited _ c.calls_in.result.now (search rules) (rw c.visit.invariant.0 at c.in_ok-visited.ensures.told) (search rules);
}

pub visit-init : goal.visit-init
visit-init c = let start = walk-start c.args.units.now c.args.from.0 c.requires.there in (search rules, search rules, rw c.new-visits.ensures.items (search rules))

pub visit-preserved : goal.visit-preserved
visit-preserved c = (
  search rules,
  search rules,
  walk_more c.args.units.now c.args.from.0 c.visit.met.tokens c.visit.visits.items c.visit.invariant.2 c.tokens.result.now (search rules) c.len-in-visit-2.result (search rules) (search rules)
      c.in_ok-visited.visited c.calls_in.result.now c.meet_all.new.self.tokens c.push.new.self.items (rw c.visit.invariant.0 at c.in_ok-visited.ensures.told) (search rules) (search rules) (search rules),
)

pub returns-clause-whole : goal.returns-clause-whole
returns-clause-whole c = whole c.args.units.now c.args.from.0 c.visit.met.tokens c.visit.visits.items c.visit.invariant.2 (search rules) (search rules)
