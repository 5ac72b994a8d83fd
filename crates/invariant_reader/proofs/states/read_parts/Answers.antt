use Rattle.std.proofs.Common.{List, ℕ, Vec, Global, Bor, Option, option_map, ap, sym}
use Rattle.alias_facts.specs.PairsOf.{Pair}
use Rattle.frame_names.specs.declared.var.Var.{Var}
use Rattle.interval_domain.specs.Interval.{Interval}
use Rattle.pentagon_domain.specs.declared.bound_row.BoundRow.{BoundRow}
use Rattle.symbolic_values.specs.declared.def.Def.{Def}
use Rattle.invariant_reader.specs.ArrayReaders.{Arrays}
use Rattle.invariant_reader.proofs.Repeats.{pair}
use Rattle.invariant_reader.proofs.StateSteps.{apart_missed, arrays_missed, arrays_read, bounds_missed, bounds_read}
use Rattle.invariant_reader.proofs.StateSteps.{definitions_missed, definitions_read, parts_read, symbols_missed, symbols_read}
use Rattle.invariant_reader.proofs.StateSteps.{variables_missed, variables_read}
use Rattle.invariant_reader.proofs.states.read_parts.Goals as goal

abbrev told_variables : Option (Vec Var Global × Bor (List ℕ)) → Option (List Var × List ℕ)
told_variables read = option_map (λ it. pair it.0.items it.1.now) read

abbrev told_symbols : Option (Vec Interval Global × Bor (List ℕ)) → Option (List Interval × List ℕ)
told_symbols read = option_map (λ it. pair it.0.items it.1.now) read

abbrev told_arrays : Option (Arrays × Bor (List ℕ)) → Option (Arrays × List ℕ)
told_arrays read = option_map (λ it. pair it.0 it.1.now) read

abbrev told_bounds : Option (Vec BoundRow Global × Bor (List ℕ)) → Option (List BoundRow × List ℕ)
told_bounds read = option_map (λ it. pair it.0.items it.1.now) read

abbrev told_definitions : Option (Vec (ℕ × Def) Global × Bor (List ℕ)) → Option (List (ℕ × Def) × List ℕ)
told_definitions read = option_map (λ it. pair it.0.items it.1.now) read

abbrev told_apart : Option (Vec Pair Global × Bor (List ℕ)) → Option (List Pair × List ℕ)
told_apart read = option_map (λ it. pair it.0.items it.1.now) read

pub returns-in_default : goal.returns-in_default
returns-in_default c =
    variables_missed c.args.text.now (told_variables c.in_ok-read.field-0) c.in_ok-read.ensures (sym (ap told_variables c.in_default.is))

pub returns-in_default-2 : goal.returns-in_default-2
returns-in_default-2 c =
    let at_1 = variables_read c.args.text.now (told_variables c.in_ok-read.field-0) c.in-Some.read.0.items c.in-Some.read.1.now
    c.in_ok-read.ensures (sym (ap told_variables c.in-Some.is)) in
    symbols_missed c.args.text.now c.in-Some.read.0.items c.in-Some.read.1.now (told_symbols c.in_ok-read-2.field-0)
    at_1 c.in_ok-read-2.ensures (sym (ap told_symbols c.in_default-2.is))

pub returns-in_default-3 : goal.returns-in_default-3
returns-in_default-3 c =
    let at_1 = variables_read c.args.text.now (told_variables c.in_ok-read.field-0) c.in-Some.read.0.items c.in-Some.read.1.now
    c.in_ok-read.ensures (sym (ap told_variables c.in-Some.is)) in
    let at_2 = symbols_read c.args.text.now c.in-Some.read.0.items c.in-Some.read.1.now (told_symbols c.in_ok-read-2.field-0)
    c.in-Some-2.read.0.items c.in-Some-2.read.1.now at_1 c.in_ok-read-2.ensures (sym (ap told_symbols c.in-Some-2.is)) in
    arrays_missed c.args.text.now c.in-Some.read.0.items c.in-Some-2.read.0.items c.in-Some-2.read.1.now (told_arrays c.in_ok-read-3.field-0)
    at_2 c.in_ok-read-3.ensures (sym (ap told_arrays c.in_default-3.is))

pub returns-in_default-4 : goal.returns-in_default-4
returns-in_default-4 c =
    let at_1 = variables_read c.args.text.now (told_variables c.in_ok-read.field-0) c.in-Some.read.0.items c.in-Some.read.1.now
    c.in_ok-read.ensures (sym (ap told_variables c.in-Some.is)) in
    let at_2 = symbols_read c.args.text.now c.in-Some.read.0.items c.in-Some.read.1.now (told_symbols c.in_ok-read-2.field-0)
    c.in-Some-2.read.0.items c.in-Some-2.read.1.now at_1 c.in_ok-read-2.ensures (sym (ap told_symbols c.in-Some-2.is)) in
    let at_3 = arrays_read c.args.text.now c.in-Some.read.0.items c.in-Some-2.read.0.items c.in-Some-2.read.1.now (told_arrays c.in_ok-read-3.field-0)
    c.in-Some-3.read.0 c.in-Some-3.read.1.now at_2 c.in_ok-read-3.ensures (sym (ap told_arrays c.in-Some-3.is)) in
    bounds_missed c.args.text.now c.in-Some.read.0.items c.in-Some-2.read.0.items c.in-Some-3.read.0 c.in-Some-3.read.1.now (told_bounds c.in_ok-read-4.field-0)
    at_3 c.in_ok-read-4.ensures (sym (ap told_bounds c.in_default-4.is))

pub returns-in_default-5 : goal.returns-in_default-5
returns-in_default-5 c =
    let at_1 = variables_read c.args.text.now (told_variables c.in_ok-read.field-0) c.in-Some.read.0.items c.in-Some.read.1.now
    c.in_ok-read.ensures (sym (ap told_variables c.in-Some.is)) in
    let at_2 = symbols_read c.args.text.now c.in-Some.read.0.items c.in-Some.read.1.now (told_symbols c.in_ok-read-2.field-0)
    c.in-Some-2.read.0.items c.in-Some-2.read.1.now at_1 c.in_ok-read-2.ensures (sym (ap told_symbols c.in-Some-2.is)) in
    let at_3 = arrays_read c.args.text.now c.in-Some.read.0.items c.in-Some-2.read.0.items c.in-Some-2.read.1.now (told_arrays c.in_ok-read-3.field-0)
    c.in-Some-3.read.0 c.in-Some-3.read.1.now at_2 c.in_ok-read-3.ensures (sym (ap told_arrays c.in-Some-3.is)) in
    let at_4 = bounds_read c.args.text.now c.in-Some.read.0.items c.in-Some-2.read.0.items c.in-Some-3.read.0 c.in-Some-3.read.1.now (told_bounds c.in_ok-read-4.field-0)
    c.in-Some-4.read.0.items c.in-Some-4.read.1.now at_3 c.in_ok-read-4.ensures (sym (ap told_bounds c.in-Some-4.is)) in
    definitions_missed c.args.text.now c.in-Some.read.0.items c.in-Some-2.read.0.items c.in-Some-3.read.0 c.in-Some-4.read.0.items c.in-Some-4.read.1.now (told_definitions c.in_ok-read-5.field-0)
    at_4 c.in_ok-read-5.ensures (sym (ap told_definitions c.in_default-5.is))

pub returns-in_default-6 : goal.returns-in_default-6
returns-in_default-6 c =
    let at_1 = variables_read c.args.text.now (told_variables c.in_ok-read.field-0) c.in-Some.read.0.items c.in-Some.read.1.now
    c.in_ok-read.ensures (sym (ap told_variables c.in-Some.is)) in
    let at_2 = symbols_read c.args.text.now c.in-Some.read.0.items c.in-Some.read.1.now (told_symbols c.in_ok-read-2.field-0)
    c.in-Some-2.read.0.items c.in-Some-2.read.1.now at_1 c.in_ok-read-2.ensures (sym (ap told_symbols c.in-Some-2.is)) in
    let at_3 = arrays_read c.args.text.now c.in-Some.read.0.items c.in-Some-2.read.0.items c.in-Some-2.read.1.now (told_arrays c.in_ok-read-3.field-0)
    c.in-Some-3.read.0 c.in-Some-3.read.1.now at_2 c.in_ok-read-3.ensures (sym (ap told_arrays c.in-Some-3.is)) in
    let at_4 = bounds_read c.args.text.now c.in-Some.read.0.items c.in-Some-2.read.0.items c.in-Some-3.read.0 c.in-Some-3.read.1.now (told_bounds c.in_ok-read-4.field-0)
    c.in-Some-4.read.0.items c.in-Some-4.read.1.now at_3 c.in_ok-read-4.ensures (sym (ap told_bounds c.in-Some-4.is)) in
    let at_5 = definitions_read c.args.text.now c.in-Some.read.0.items c.in-Some-2.read.0.items c.in-Some-3.read.0 c.in-Some-4.read.0.items c.in-Some-4.read.1.now (told_definitions c.in_ok-read-5.field-0)
    c.in-Some-5.read.0.items c.in-Some-5.read.1.now at_4 c.in_ok-read-5.ensures (sym (ap told_definitions c.in-Some-5.is)) in
    apart_missed c.args.text.now c.in-Some.read.0.items c.in-Some-2.read.0.items c.in-Some-3.read.0 c.in-Some-4.read.0.items c.in-Some-5.read.0.items c.in-Some-5.read.1.now (told_apart c.in_ok-read-6.field-0)
    at_5 c.in_ok-read-6.ensures (sym (ap told_apart c.in_default-6.is))

pub returns : goal.returns
returns c =
    let at_1 = variables_read c.args.text.now (told_variables c.in_ok-read.field-0) c.in-Some.read.0.items c.in-Some.read.1.now
    c.in_ok-read.ensures (sym (ap told_variables c.in-Some.is)) in
    let at_2 = symbols_read c.args.text.now c.in-Some.read.0.items c.in-Some.read.1.now (told_symbols c.in_ok-read-2.field-0)
    c.in-Some-2.read.0.items c.in-Some-2.read.1.now at_1 c.in_ok-read-2.ensures (sym (ap told_symbols c.in-Some-2.is)) in
    let at_3 = arrays_read c.args.text.now c.in-Some.read.0.items c.in-Some-2.read.0.items c.in-Some-2.read.1.now (told_arrays c.in_ok-read-3.field-0)
    c.in-Some-3.read.0 c.in-Some-3.read.1.now at_2 c.in_ok-read-3.ensures (sym (ap told_arrays c.in-Some-3.is)) in
    let at_4 = bounds_read c.args.text.now c.in-Some.read.0.items c.in-Some-2.read.0.items c.in-Some-3.read.0 c.in-Some-3.read.1.now (told_bounds c.in_ok-read-4.field-0)
    c.in-Some-4.read.0.items c.in-Some-4.read.1.now at_3 c.in_ok-read-4.ensures (sym (ap told_bounds c.in-Some-4.is)) in
    let at_5 = definitions_read c.args.text.now c.in-Some.read.0.items c.in-Some-2.read.0.items c.in-Some-3.read.0 c.in-Some-4.read.0.items c.in-Some-4.read.1.now (told_definitions c.in_ok-read-5.field-0)
    c.in-Some-5.read.0.items c.in-Some-5.read.1.now at_4 c.in_ok-read-5.ensures (sym (ap told_definitions c.in-Some-5.is)) in
    parts_read c.args.text.now c.in-Some.read.0.items c.in-Some-2.read.0.items c.in-Some-3.read.0 c.in-Some-4.read.0.items c.in-Some-5.read.0.items c.in-Some-5.read.1.now
    (told_apart c.in_ok-read-6.field-0) c.in-Some-6.read.0.items c.in-Some-6.read.1.now at_5 c.in_ok-read-6.ensures
    (sym (ap told_apart c.in-Some-6.is)) c.joined-parts.result c.joined-parts.ensures
