use Rattle.std.proofs.Common.{subst, sym}
use Rattle.std.proofs.lemmas.Result.{IfOk-weaker}
use Rattle.transfer_rules.specs.Entry.{HoldsAtEntry}
use Rattle.transfer_rules.specs.Laws.EntryLaws.{entry_holds}
use Rattle.transfer_rules.proofs.entry.entry_state.Goals as goal

pub returns-clause-sound : goal.returns-clause-sound
returns-clause-sound c =
    IfOk-weaker c.entry.result _ (HoldsAtEntry c.args.unit.now)
    (λ state is. subst (HoldsAtEntry c.args.unit.now) (sym is) (entry_holds c.args.unit.now c.requires.formed))
    c.entry.ensures
