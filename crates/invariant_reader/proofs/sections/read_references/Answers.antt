use Rattle.std.proofs.Common.{List, ℕ, Bor, Option, option_map, ap, sym, refl, subst}
use Rattle.invariant_reader.specs.ArrayReaders.{Arrays}
use Rattle.invariant_reader.specs.CodeLines.{Known}
use Rattle.invariant_reader.proofs.Repeats.{AreUnderWay, goes_on, item_missed, item_stuck, pair, starts, whole_read}
use Rattle.invariant_reader.proofs.SectionLoops.{array_next, arrays_headed, arrays_loop, arrays_readable}
use Rattle.invariant_reader.proofs.sections.read_references.Goals as goal

abbrev told : Option (Known × Bor (List ℕ)) → Option (Known × List ℕ)
told read = option_map (λ it. pair it.0 it.1.now) read

pub loop-alloc-init : goal.loop-alloc-init
loop-alloc-init c = starts arrays_loop c.new-arrays.result 1 c.args.text.now

pub returns-in_default : goal.returns-in_default
returns-in_default c =
    item_missed arrays_readable (arrays_headed c.args.text.now)
    (record { head_is = refl; start_is = c.new-arrays.ensures })
    c.loop-alloc.invariant c.loop-alloc-test.ensures
    (array_next c.loop-alloc.rest.now (told c.in_ok-read.field-0) c.in_ok-read.ensures) (sym (ap told c.in_default.is))

pub returns-then-left-rest : goal.returns-then-left-rest
returns-then-left-rest c =
    item_stuck arrays_readable (arrays_headed c.args.text.now)
    (record { head_is = refl; start_is = c.new-arrays.ensures })
    c.loop-alloc.invariant c.loop-alloc-test.ensures
    (array_next c.loop-alloc.rest.now (told c.in_ok-read.field-0) c.in_ok-read.ensures)
    c.in-Some.read.0 c.in-Some.read.1.now (sym (ap told c.in-Some.is)) c.if-left-rest.true

pub loop-alloc-preserved : goal.loop-alloc-preserved
loop-alloc-preserved c =
    let one = goes_on arrays_readable c.loop-alloc.invariant c.loop-alloc-test.ensures
    (array_next c.loop-alloc.rest.now (told c.in_ok-read.field-0) c.in_ok-read.ensures)
    c.in-Some.read.0 c.in-Some.read.1.now (sym (ap told c.in-Some.is)) in
    subst (λ (a : Arrays). AreUnderWay arrays_loop c.new-arrays.result 1 c.args.text.now a c.in-Some.read.1.now)
    (sym c.in_ok-add.ensures) one

pub returns : goal.returns
returns c =
    whole_read arrays_readable (arrays_headed c.args.text.now)
    (record { head_is = refl; start_is = c.new-arrays.ensures })
    c.loop-alloc.invariant c.loop-alloc-test.ensures
