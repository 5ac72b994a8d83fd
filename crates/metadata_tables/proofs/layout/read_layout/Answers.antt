use Rattle.std.proofs.Common.{◌≡◌, ◌+◌, ◌*◌, refl, ◌∙◌, arith}
use Rattle.std.proofs.lemmas.Result.{err_from_is_err_and}
use Rattle.metadata_tables.specs.Layout.{present_below}
use Rattle.metadata_tables.proofs.StreamLemmas.{tables_tests-is, valid-is, counts_at-is, rows_at-is, heap_sizes-is, placed-is}
use Rattle.metadata_tables.proofs.layout.read_layout.Goals as goal

pub returns-in_err-sorted_at-clause-judged : goal.returns-in_err-sorted_at-clause-judged
returns-in_err-sorted_at-clause-judged c =
    let tests = tables_tests-is c.args.md.now c.args.tables _ _ _ _ c.requires.tables refl refl refl refl in
    let p = err_from_is_err_and c.from_residual.result c.from_residual.ensures.1 in
    rw (p.1, p.2) (tests ∙ rw (c.in_err-sorted_at.ensures.judged) refl)

pub row_counts-counts-requires-clause-bits : goal.row_counts-counts-requires-clause-bits
row_counts-counts-requires-clause-bits c = c.u64_at-valid.ensures ∙ valid-is c.args.md.now c.args.tables c.requires.tables

pub row_counts-counts-requires-clause-place : goal.row_counts-counts-requires-clause-place
row_counts-counts-requires-clause-place c =
    omega (arith, counts_at-is c.args.md.now c.args.tables c.requires.tables, c.in_ok-sorted_at.ensures.place, c.in_ok-counts_at.ensures.place)

pub returns-in_err-present-clause-judged : goal.returns-in_err-present-clause-judged
returns-in_err-present-clause-judged c =
    let tests = tables_tests-is c.args.md.now c.args.tables c.u64_at-valid.result _ _ _ c.requires.tables c.u64_at-valid.ensures refl refl refl in
    let p = err_from_is_err_and c.from_residual-in_err-present.result c.from_residual-in_err-present.ensures.1 in
    rw (p.1, p.2) (tests ∙ rw (c.in_ok-sorted_at.ensures.judged.0, c.in_err-present.ensures.judged) refl)

pub returns-in_err-counts_at-clause-judged : goal.returns-in_err-counts_at-clause-judged
returns-in_err-counts_at-clause-judged c =
    let sorted : c.in_ok-sorted_at.sorted_at ≡ c.args.tables.at + 16 = omega (arith, c.in_ok-sorted_at.ensures.place) in
    let tests = tables_tests-is c.args.md.now c.args.tables c.u64_at-valid.result c.in_ok-sorted_at.sorted_at _ _ c.requires.tables c.u64_at-valid.ensures sorted refl refl in
    let p = err_from_is_err_and c.from_residual-in_err-counts_at.result c.from_residual-in_err-counts_at.ensures.1 in
    rw (p.1, p.2) (tests ∙ rw (c.in_ok-sorted_at.ensures.judged.0, c.in_ok-present.ensures.judged.0, c.in_err-counts_at.ensures.judged) refl)

pub returns-in_err-rows_at-clause-judged : goal.returns-in_err-rows_at-clause-judged
returns-in_err-rows_at-clause-judged c =
    let sorted : c.in_ok-sorted_at.sorted_at ≡ c.args.tables.at + 16 = omega (arith, c.in_ok-sorted_at.ensures.place) in
    let counts : c.in_ok-counts_at.counts_at ≡ c.args.tables.at + 24 = omega (arith, c.in_ok-sorted_at.ensures.place, c.in_ok-counts_at.ensures.place) in
    let tests = tables_tests-is c.args.md.now c.args.tables c.u64_at-valid.result c.in_ok-sorted_at.sorted_at c.in_ok-counts_at.counts_at _ c.requires.tables c.u64_at-valid.ensures sorted counts refl in
    let p = err_from_is_err_and c.from_residual-in_err-rows_at.result c.from_residual-in_err-rows_at.ensures.1 in
    rw (p.1, p.2)
    (tests ∙ rw (c.in_ok-sorted_at.ensures.judged.0, c.in_ok-present.ensures.judged.0, c.in_ok-counts_at.ensures.judged.0, rw (c.in_ok-present.ensures.present) at c.in_err-rows_at.ensures.judged) refl)

pub returns-clause-judged : goal.returns-clause-judged
returns-clause-judged c =
    let md = c.args.md.now in
    let s = c.args.tables in
    let sorted : c.in_ok-sorted_at.sorted_at ≡ c.args.tables.at + 16 = omega (arith, c.in_ok-sorted_at.ensures.place) in
    let counts : c.in_ok-counts_at.counts_at ≡ c.args.tables.at + 24 = omega (arith, c.in_ok-sorted_at.ensures.place, c.in_ok-counts_at.ensures.place) in
    let many = c.in_ok-present.ensures.present in
    let rows : c.in_ok-rows_at.rows_at ≡ c.in_ok-counts_at.counts_at + present_below c.u64_at-valid.result 64 * 4 = rw (← many) (c.in_ok-rows_at.ensures.place) in
    let tests = tables_tests-is md s c.u64_at-valid.result c.in_ok-sorted_at.sorted_at c.in_ok-counts_at.counts_at c.in_ok-rows_at.rows_at c.requires.tables c.u64_at-valid.ensures sorted counts rows in
    let last = tests ∙ rw (c.in_ok-sorted_at.ensures.judged.0, c.in_ok-present.ensures.judged.0, c.in_ok-counts_at.ensures.judged.0, rw many at c.in_ok-rows_at.ensures.judged.0, ← c.row_counts-counts.ensures) refl in
    rw last c.place_rows.ensures.judged

pub returns-clause-placed : goal.returns-clause-placed
returns-clause-placed c =
    let md = c.args.md.now in
    let s = c.args.tables in
    let counts : c.in_ok-counts_at.counts_at ≡ c.args.tables.at + 24 = omega (arith, c.in_ok-sorted_at.ensures.place, c.in_ok-counts_at.ensures.place) in
    let many = c.in_ok-present.ensures.present in
    let rows : c.in_ok-rows_at.rows_at ≡ c.in_ok-counts_at.counts_at + present_below c.u64_at-valid.result 64 * 4 = rw (← many) (c.in_ok-rows_at.ensures.place) in
    let begin = rows_at-is md s c.u64_at-valid.result c.in_ok-counts_at.counts_at c.in_ok-rows_at.rows_at c.requires.tables c.u64_at-valid.ensures counts rows in
    placed-is md c.place_rows.result _ _ _ c.row_counts-counts.ensures (heap_sizes-is md s c.requires.tables) begin c.place_rows.ensures.placed
