use Rattle.std.proofs.Common.{arith}
use Rattle.std.proofs.lemmas.Result.{err_from_is_err_and}
use Rattle.std.specs.Prelude.{codes}
use Rattle.metadata_tables.proofs.HeaderLemmas.{headers-next, headers-stop, headers-done, among-next, among-done}
use Rattle.metadata_tables.proofs.root.read_headers.Goals as goal

pub returns-in_err-header-clause-judged : goal.returns-in_err-header-clause-judged
returns-in_err-header-clause-judged c =
    let p = err_from_is_err_and c.from_residual.result c.from_residual.ensures.1 in
    rw (p.1, p.2) (headers-stop c.args.md.now c.loop.at c.args.count c.loop.counter _ _ (omega arith) c.in_err-header.ensures.judged c.loop.invariant.tests)

pub loop-preserved : goal.loop-preserved
loop-preserved c =
    let md = c.args.md.now in
    let at = c.loop.at in
    let n = c.args.count in
    let i = c.loop.counter in
    let header = c.in_ok-header.header in
    let read = c.in_ok-header.ensures in
    let before = c.loop.invariant in
    record {
      within = read.within;
      tests = headers-next md at n i header.next _ (omega arith) read.judged.0 read.next before.tests;
      tables = among-next md (codes "#~") at n i header.next c.loop.found.tables c.first_named.result header.name.now header.stream _ (omega arith) read.name read.stream read.next c.first_named.ensures before.tables;
      strings = among-next md (codes "#Strings") at n i header.next c.loop.found.strings c.first_named-in-loop.result header.name.now header.stream _ (omega arith) read.name read.stream read.next c.first_named-in-loop.ensures before.strings;
      blob = among-next md (codes "#Blob") at n i header.next c.loop.found.blob c.first_named-in-loop-2.result header.name.now header.stream _ (omega arith) read.name read.stream read.next c.first_named-in-loop-2.ensures before.blob;
      user_strings = among-next md (codes "#US") at n i header.next c.loop.found.user_strings c.first_named-in-loop-3.result header.name.now header.stream _ (omega arith) read.name read.stream read.next c.first_named-in-loop-3.ensures before.user_strings;
    }

pub returns-clause-judged : goal.returns-clause-judged
returns-clause-judged c = (headers-done c.args.md.now c.loop.at c.args.count c.loop.counter _ (omega arith) c.loop.invariant.tests, tt)

pub returns-clause-tables : goal.returns-clause-tables
returns-clause-tables c = among-done c.args.md.now (codes "#~") c.loop.at c.args.count c.loop.counter c.loop.found.tables _ (omega arith) c.loop.invariant.tables

pub returns-clause-strings : goal.returns-clause-strings
returns-clause-strings c = among-done c.args.md.now (codes "#Strings") c.loop.at c.args.count c.loop.counter c.loop.found.strings _ (omega arith) c.loop.invariant.strings

pub returns-clause-blob : goal.returns-clause-blob
returns-clause-blob c = among-done c.args.md.now (codes "#Blob") c.loop.at c.args.count c.loop.counter c.loop.found.blob _ (omega arith) c.loop.invariant.blob

pub returns-clause-user_strings : goal.returns-clause-user_strings
returns-clause-user_strings c = among-done c.args.md.now (codes "#US") c.loop.at c.args.count c.loop.counter c.loop.found.user_strings _ (omega arith) c.loop.invariant.user_strings
