use Rattle.std.proofs.Common.{◌+◌, refl}
use Rattle.cil_eval.proofs.MachineLemmas.{ended_by_itself, no_stop, one_step, step_kept, step_stops, stops_again, stops_at_limit}
use Rattle.cil_eval.proofs.machine.Machine.step.Goals as goal

pub returns-then-is_some-clause-stops : goal.returns-then-is_some-clause-stops
returns-then-is_some-clause-stops c = rw (← c.self.view_is) (λ start run. stops_again _ start run)

pub returns-then-self-clause-stops : goal.returns-then-self-clause-stops
returns-then-self-clause-stops c =
    rw (← c.self.view_is) (λ start run. stops_at_limit _ start run (no_stop c.self.inside.ended c.if-is_some.ensures) c.if-self.true)

pub returns-clause-kept : goal.returns-clause-kept
returns-clause-kept c =
    rw (← c.self.view_is) (λ start run.
    step_kept _ _ start run (no_stop c.self.inside.ended c.if-is_some.ensures) (record { world = refl; limits = refl }) refl c.if-self.false
    c.advance-self-inside.ensures.advances c.advance-self-inside.ensures.ended)

pub returns-clause-stops : goal.returns-clause-stops
returns-clause-stops c =
    rw (← c.self.view_is) (λ start run.
    step_stops _ (record {
      world = c.self.inside.world.now;
      limits = c.self.inside.limits;
      taken = c.self.inside.taken + 1;
      ended = c.advance-self-inside.result;
      frames = c.advance-self-inside.new.frames;
      store = c.advance-self-inside.new.memory;
    }) start run (no_stop c.self.inside.ended c.if-is_some.ensures) (record { world = refl; limits = refl }) refl c.if-self.false
    c.advance-self-inside.ensures.advances c.advance-self-inside.ensures.ended)

pub returns-then-is_some-clause-limit : goal.returns-then-is_some-clause-limit
returns-then-is_some-clause-limit c = rw (← c.self.view_is) (λ start run is. absurd (ended_by_itself _ start run is))

pub returns-clause-limit : goal.returns-clause-limit
returns-clause-limit c =
    rw (← c.self.view_is) (λ start run is.
    absurd (ended_by_itself (record {
      world = c.self.inside.world.now;
      limits = c.self.inside.limits;
      taken = c.self.inside.taken + 1;
      ended = c.advance-self-inside.result;
      frames = c.advance-self-inside.new.frames;
      store = c.advance-self-inside.new.memory;
    }) start (step_kept _ _ start run (no_stop c.self.inside.ended c.if-is_some.ensures) (record { world = refl; limits = refl }) refl c.if-self.false
    c.advance-self-inside.ensures.advances c.advance-self-inside.ensures.ended) is))

pub returns-clause-one_step : goal.returns-clause-one_step
returns-clause-one_step c =
    rw (← c.self.view_is) (λ start run live.
    one_step _ (record {
      world = c.self.inside.world.now;
      limits = c.self.inside.limits;
      taken = c.self.inside.taken + 1;
      ended = c.advance-self-inside.result;
      frames = c.advance-self-inside.new.frames;
      store = c.advance-self-inside.new.memory;
    }) start run (no_stop c.self.inside.ended c.if-is_some.ensures) (record { world = refl; limits = refl }) refl c.if-self.false
    c.advance-self-inside.ensures.advances c.advance-self-inside.ensures.ended)
