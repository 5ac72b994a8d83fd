use Rattle.std.proofs.Common.{◌+◌, [], get_or, refl, sym, ◌∙◌, arith}
use Rattle.std.proofs.lemmas.List.{length-set}
use Rattle.std.proofs.lemmas.Result.{err_from_is_err_and}
use Rattle.cc_base.proofs.TestLemmas.{from_on-next, from_on-stop, from_on-done}
use Rattle.metadata_tables.specs.Layout.{column_offsets, bytes_below}
use Rattle.metadata_tables.specs.Schema.{columns_of}
use Rattle.metadata_tables.specs.TableTests.{rows_tests}
use Rattle.metadata_tables.proofs.LayoutLemmas.{filled-more, row_width-is, bytes_below-zero, place-next, all_rows_tests-start, rows_tests-is, offsets-filled, bases-filled}
use Rattle.metadata_tables.proofs.layout.place_rows.Goals as goal

pub loop-table-init : goal.loop-table-init
loop-table-init c = record {
  place = omega (arith, bytes_below-zero c.args.counts c.args.heap_sizes);
  within = c.requires.start;
  long_bases = refl;
  long_offsets = refl;
  filled_bases = λ k h. absurd (omega arith);
  filled_offsets = λ k h. absurd (omega arith);
  tests = all_rows_tests-start c.args.end c.args.counts c.args.heap_sizes c.args.start;
}

pub returns-in_err-at-clause-judged : goal.returns-in_err-at-clause-judged
returns-in_err-at-clause-judged c =
    let table = c.loop-table.table in
    let wide = row_width-is c.args.counts c.args.heap_sizes table c.columns.result.now c.from.result c.columns.ensures.value (c.from.ensures ∙ c.column_offsets-row.ensures.end) in
    let same = rows_tests-is c.args.end c.args.counts c.args.heap_sizes c.args.start table c.loop-table.at (get_or c.args.counts table 0) c.from.result c.loop-table.invariant.place refl wide in
    let p = err_from_is_err_and c.from_residual.result c.from_residual.ensures.1 in
    rw (p.1, p.2) (from_on-stop (rows_tests c.args.end c.args.counts c.args.heap_sizes c.args.start) table 45 _ _ (omega arith) (sym same ∙ c.in_err-at.ensures.judged) c.loop-table.invariant.tests)

pub loop-table-preserved : goal.loop-table-preserved
loop-table-preserved c =
    let table = c.loop-table.table in
    let before = c.loop-table.invariant in
    let wide = row_width-is c.args.counts c.args.heap_sizes table c.columns.result.now c.from.result c.columns.ensures.value (c.from.ensures ∙ c.column_offsets-row.ensures.end) in
    let same = rows_tests-is c.args.end c.args.counts c.args.heap_sizes c.args.start table c.loop-table.at (get_or c.args.counts table 0) c.from.result before.place refl wide in
    record {
      place = place-next c.args.counts c.args.heap_sizes c.args.start table c.loop-table.at c.from.result c.in_ok-at.at before.place wide c.in_ok-at.ensures.place;
      within = c.in_ok-at.ensures.within;
      long_bases = length-set _ _ _ ∙ before.long_bases;
      long_offsets = length-set _ _ _ ∙ before.long_offsets;
      filled_bases = filled-more (λ k. c.args.start + bytes_below c.args.counts c.args.heap_sizes k) c.loop-table.bases table c.loop-table.at 0 (omega arith) before.place before.filled_bases;
      filled_offsets = filled-more (λ k. column_offsets c.args.counts c.args.heap_sizes (columns_of k)) c.loop-table.offsets table c.column_offsets-row.result [] (omega arith) (rw (← c.columns.ensures.value) c.column_offsets-row.ensures.offsets) before.filled_offsets;
      tests = from_on-next (rows_tests c.args.end c.args.counts c.args.heap_sizes c.args.start) table 45 _ (omega arith) (sym same ∙ c.in_ok-at.ensures.judged.0) before.tests;
    }

pub returns-clause-judged : goal.returns-clause-judged
returns-clause-judged c = (from_on-done (rows_tests c.args.end c.args.counts c.args.heap_sizes c.args.start) c.loop-table.table 45 _ (omega arith) c.loop-table.invariant.tests, tt)

pub returns-clause-placed : goal.returns-clause-placed
returns-clause-placed c =
    let last = c.loop-table.invariant in
    record {
      counts_kept = refl;
      offsets_kept = offsets-filled c.args.counts c.args.heap_sizes c.loop-table.offsets last.long_offsets (λ k h. last.filled_offsets k (omega arith));
      bases_kept = bases-filled c.args.counts c.args.heap_sizes c.args.start c.loop-table.bases last.long_bases (λ k h. last.filled_bases k (omega arith));
    }
