use Rattle.std.proofs.Common.{ap, refl, arith}
use Rattle.cil_eval.specs.Outcome.{last_state, outcome}
use Rattle.cil_eval.specs.Starts.{start_state}
use Rattle.clause_eval.specs.GivenArrays.{heap_of}
use Rattle.cil_eval.specs.Given.{values_of}
use Rattle.cil_eval.proofs.GivenValues.{may_begin}
use Rattle.cil_eval.proofs.MachineLemmas.{has_end}
use Rattle.cil_eval.proofs.SoundRuns.{start_goes_on}
use Rattle.cil_eval.proofs.machine.Machine.start.Goals as goal

pub returns-clause-begins : goal.returns-clause-begins
returns-clause-begins c =
    let method = c.in_ok-method.method.now in
    let w = c.self.inside.world.now in
    rw (← c.self.view_is)
    (record {
      unit = method;
      unit_is = c.in_ok-method.ensures.admitted.unit_is;
      world = refl;
      limits = refl;
      taken = refl;
      never_stuck = λ can n.
          has_end w c.self.inside.limits n (start_state method c.args.unit c.args.args.now)
          (start_goes_on w c.self.inside.limits can method c.args.unit (values_of c.args.args.now) (heap_of c.args.args.now)
          c.in_ok-method.ensures.admitted.unit_is
          (may_begin method c.args.args.now c.in_ok-method.ensures.admitted.fit c.in_ok-method.ensures.admitted.required c.read_args.ensures) c.self.invariant.deep n);
      run = λ can. record {
        within = omega arith;
        comes = record {
          state = start_state method c.args.unit c.args.args.now;
          holds = c.reset.ensures.begun w c.in_ok-method.ensures.admitted.unit_is;
          steps = refl;
          onward = start_goes_on w c.self.inside.limits can method c.args.unit (values_of c.args.args.now) (heap_of c.args.args.now)
              c.in_ok-method.ensures.admitted.unit_is
              (may_begin method c.args.args.now c.in_ok-method.ensures.admitted.fit c.in_ok-method.ensures.admitted.required c.read_args.ensures) c.self.invariant.deep;
          last = λ n. ap (λ k. last_state w c.self.inside.limits k (start_state method c.args.unit c.args.args.now)) (omega arith);
          same = λ n. ap (λ k. outcome w c.self.inside.limits k (start_state method c.args.unit c.args.args.now)) (omega arith);
        };
      };
    })
