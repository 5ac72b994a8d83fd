use Rattle.std.proofs.Common.{◌≡◌, ◌-◌, suc, List, length, Some, slice_get, sym, subst, arith}
use Rattle.cil_model.specs.declared.instruction.Instr.{Instr}
use Rattle.contract_extract.specs.Dropping.{AreAhead, AreFirstOwn, LiesAhead, ahead_at}
use Rattle.contract_extract.specs.declared.trees.ahead.Ahead.{Ahead}
use Rattle.contract_extract.proofs.TreeLemmas.Looking.{all_own, fewer_own, first_own, one_known}
use Rattle.contract_extract.proofs.trees.ahead.look_ahead.Goals as goal

pub loop-index-init : goal.loop-index-init
loop-index-init c =
    let is = c.args.instrs.now in
    record {
      known = subst (AreAhead is) (sym c.in_ok-ahead.ensures) (all_own is);
      own = subst (λ (ahead : List Ahead). AreFirstOwn is ahead (length is)) (sym c.in_ok-ahead.ensures) (first_own is (length is));
      within = omega arith;
    }

pub loop-index-preserved : goal.loop-index-preserved
loop-index-preserved c =
    let is = c.args.instrs.now in
    let ahead = c.loop-index.ahead.items in
    let some = c.loop-index-test.true in
    let within = c.loop-index.invariant.within in
    let first : AreFirstOwn is ahead (suc (c.loop-index.index - 1)) =
    subst (AreFirstOwn is ahead) (let e : c.loop-index.index ≡ suc (c.loop-index.index - 1) = omega (arith, some) in e) c.loop-index.invariant.own in
    let lies = subst (λ (all : List Ahead). (i : Instr) → slice_get is (c.loop-index.index - 1) ≡ Some i → LiesAhead is (ahead_at is all) i c.ahead_of-here.result)
    c.deref.ensures.value c.ahead_of-here.ensures in
    record {
      known = one_known is ahead (c.loop-index.index - 1) c.ahead_of-here.result c.requires c.loop-index.invariant.known first (omega (arith, some, within)) lies;
      own = fewer_own is ahead (c.loop-index.index - 1) c.ahead_of-here.result first;
      within = omega (arith, within);
    }
