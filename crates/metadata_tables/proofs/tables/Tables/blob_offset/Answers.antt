use Rattle.std.proofs.Common.{length, ap, arith, length-drop, Some, None}
use Rattle.std.specs.Prelude.{codes}
use Rattle.metadata_tables.proofs.HeapLemmas.{heap-end, blob_offset-is, lent-is, stands-is}
use Rattle.metadata_tables.proofs.tables.Tables.blob_offset.Goals as goal

pub returns-in_err-prefix-clause-place : goal.returns-in_err-prefix-clause-place
returns-in_err-prefix-clause-place c =
    let kept = rw c.self.view_is at c.self.invariant.blob_kept in
    let begin = rw c.self.view_is at c.self.invariant.blob_begin in
    rw c.from_residual.ensures
    (blob_offset-is c.args.self.now c.self.inside.blob.now c.rest_from.result.now c.args.index c.self.inside.blob_at None kept begin c.rest_from.ensures c.in_err-prefix.ensures.value)

pub overflow_add-result : goal.overflow_add-result
overflow_add-result c =
    let i = c.self.inside in
    let kept = c.self.invariant in
    omega (arith, kept.short, kept.blob_begin, ap length kept.blob_kept, heap-end i.md.now (codes "#Blob") kept.sound, ap length c.rest_from.ensures, length-drop c.args.index i.blob.now, c.in_ok-prefix.ensures.whole, c.in_ok-prefix.ensures.some)

pub overflow_add-result-2 : goal.overflow_add-result-2
overflow_add-result-2 c =
    let i = c.self.inside in
    let kept = c.self.invariant in
    omega (arith, kept.short, kept.blob_begin, ap length kept.blob_kept, heap-end i.md.now (codes "#Blob") kept.sound, ap length c.rest_from.ensures, length-drop c.args.index i.blob.now, c.in_ok-prefix.ensures.whole, c.in_ok-prefix.ensures.some)

pub returns-clause-place : goal.returns-clause-place
returns-clause-place c =
    let kept = rw c.self.view_is at c.self.invariant.blob_kept in
    let begin = rw c.self.view_is at c.self.invariant.blob_begin in
    blob_offset-is c.args.self.now c.self.inside.blob.now c.rest_from.result.now c.args.index c.self.inside.blob_at (Some c.in_ok-prefix.prefix) kept begin c.rest_from.ensures c.in_ok-prefix.ensures.value

pub returns-clause-within : goal.returns-clause-within
returns-clause-within c =
    let i = c.self.inside in
    let kept = c.self.invariant in
    omega (arith, kept.blob_begin, ap length kept.blob_kept, heap-end i.md.now (codes "#Blob") kept.sound, ap length c.rest_from.ensures, length-drop c.args.index i.blob.now, c.in_ok-prefix.ensures.whole, c.in_ok-prefix.ensures.some, ap length c.self.view_is)

pub returns-in_err-prefix-clause-lent : goal.returns-in_err-prefix-clause-lent
returns-in_err-prefix-clause-lent c =
    let kept = rw c.self.view_is at c.self.invariant.blob_kept in
    rw c.from_residual.ensures (lent-is c.args.self.now c.self.inside.blob.now c.rest_from.result.now c.args.index None kept c.rest_from.ensures c.in_err-prefix.ensures.value)

pub returns-clause-lent : goal.returns-clause-lent
returns-clause-lent c =
    let kept = rw c.self.view_is at c.self.invariant.blob_kept in
    lent-is c.args.self.now c.self.inside.blob.now c.rest_from.result.now c.args.index (Some c.in_ok-prefix.prefix) kept c.rest_from.ensures c.in_ok-prefix.ensures.value

pub returns-clause-stands : goal.returns-clause-stands
returns-clause-stands c =
    let sound = rw c.self.view_is at c.self.invariant.sound in
    let kept = rw c.self.view_is at c.self.invariant.blob_kept in
    let begin = rw c.self.view_is at c.self.invariant.blob_begin in
    stands-is c.args.self.now c.self.inside.blob.now c.rest_from.result.now c.args.index c.self.inside.blob_at c.in_ok-prefix.prefix sound kept begin c.rest_from.ensures
    c.in_ok-prefix.ensures.value c.in_ok-prefix.ensures.some c.in_ok-prefix.ensures.whole
