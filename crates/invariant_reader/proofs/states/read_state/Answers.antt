use Rattle.std.proofs.Common.{List, ℕ, Bor, Option, option_map, ap, sym}
use Rattle.abs_state.specs.StateParts.{StateParts}
use Rattle.invariant_reader.proofs.BlockReads.{parts_missed, state_missed, state_read}
use Rattle.invariant_reader.proofs.Repeats.{pair}
use Rattle.invariant_reader.proofs.states.read_state.Goals as goal

abbrev told : Option (StateParts × Bor (List ℕ)) → Option (StateParts × List ℕ)
told read = option_map (λ it. pair it.0 it.1.now) read

pub returns-in_default-clause-reads : goal.returns-in_default-clause-reads
returns-in_default-clause-reads c =
    parts_missed c.args.text.now (told c.in_ok-read.field-0) c.in_ok-read.ensures (sym (ap told c.in_default.is))

pub returns-in_default-2-clause-reads : goal.returns-in_default-2-clause-reads
returns-in_default-2-clause-reads c =
    state_missed c.args.text.now (told c.in_ok-read.field-0) c.in-Some.read.0 c.in-Some.read.1.now
    c.in_ok-state.field-0 c.in_ok-read.ensures (sym (ap told c.in-Some.is)) c.in_ok-state.ensures.reads
    (sym c.in_default-2.is)

pub returns-clause-reads : goal.returns-clause-reads
returns-clause-reads c =
    state_read c.args.text.now (told c.in_ok-read.field-0) c.in-Some.read.0 c.in-Some.read.1.now
    c.in_ok-state.field-0 c.in-Some-2.state c.in_ok-read.ensures (sym (ap told c.in-Some.is)) c.in_ok-state.ensures.reads
    (sym c.in-Some-2.is)
