use Rattle.std.proofs.Common.{length, ◌++◌, ◌∷◌, [], ◌+◌, List, ℕ, Bor, Option, option_map, ap, arith, drop, length-append, subst, sym}
use Rattle.std.specs.List.{AllByRecursion}
use Rattle.std.specs.Prelude.{IfSome}
use Rattle.state_facts.specs.StateFacts.{State}
use Rattle.invariant_text.specs.Shape.{IsPrintableState}
use Rattle.invariant_reader.specs.Reading.{HasParts}
use Rattle.invariant_reader.proofs.BlockReads.{BlocksLeft, all_more, block_missed_at, block_more_at}
use Rattle.invariant_reader.proofs.Repeats.{pair}
use Rattle.invariant_reader.proofs.blocks.read_blocks.Goals as goal

abbrev told : Option (State × Bor (List ℕ)) → Option (State × List ℕ)
told read = option_map (λ it. pair it.0 it.1.now) read

pub returns-in_default-clause-reads : goal.returns-in_default-clause-reads
returns-in_default-clause-reads c =
    block_missed_at c.args.blocks.now c.args.text.now c.loop-at.at-index _ c.loop-at.states.items c.loop-at.rest.now
    (told c.in_ok-read.field-0) c.loop-at-test.true c.loop-at.invariant.left c.in_ok-read.ensures.reads
    (sym (ap told c.in_default.is))

pub loop-at-preserved : goal.loop-at-preserved
loop-at-preserved c =
    let items = c.in_ok-push.ensures.items in
    record {
      left = subst (λ (read : List State). BlocksLeft c.args.blocks.now c.args.text.now
          (drop (c.loop-at.at-index + 1) c.args.blocks.now) read c.in-Some.read.1.now) (sym items)
          (block_more_at c.args.blocks.now c.args.text.now c.loop-at.at-index _ c.loop-at.states.items
          c.loop-at.rest.now (told c.in_ok-read.field-0) c.in-Some.read.0 c.in-Some.read.1.now c.loop-at-test.true
          c.loop-at.invariant.left c.in_ok-read.ensures.reads (sym (ap told c.in-Some.is)));
      count = omega (
        arith,
        ap length items,
        length-append c.loop-at.states.items (c.in-Some.read.0 ∷ []),
        c.loop-at.invariant.count,
      );
      printable = subst (AllByRecursion IsPrintableState) (sym items)
          (all_more IsPrintableState c.loop-at.states.items c.in-Some.read.0 c.loop-at.invariant.printable
          (subst (λ (o : Option (State × Bor (List ℕ))). IfSome o (λ it. IsPrintableState it.0)) c.in-Some.is
          c.in_ok-read.ensures.printable));
      ordered = subst (AllByRecursion HasParts) (sym items)
          (all_more HasParts c.loop-at.states.items c.in-Some.read.0 c.loop-at.invariant.ordered
          (subst (λ (o : Option (State × Bor (List ℕ))). IfSome o (λ it. HasParts it.0)) c.in-Some.is
          c.in_ok-read.ensures.ordered));
    }
