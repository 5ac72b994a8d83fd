use Rattle.std.proofs.Common.{refl, ◌∙◌, Some, None}
use Rattle.std.proofs.lemmas.Result.{err_from_is_err_and}
use Rattle.std.specs.Prelude.{codes, ⊤}
use Rattle.cc_base.specs.Tests.{Judges}
use Rattle.cc_base.proofs.TestLemmas.{judged-ok, judged-err}
use Rattle.metadata_tables.specs.TableTests.{first_table_fault}
use Rattle.metadata_tables.proofs.HeaderLemmas.{stream-within}
use Rattle.metadata_tables.proofs.HeapLemmas.{heap-is, start-is, fault-streams, fault-tables}
use Rattle.metadata_tables.proofs.tables.Tables.read.Goals as goal
use Rattle.metadata_tables.proofs.tables.Tables.read.Goals.{in-Some, in-None}

pub returns-in_err-streams-clause-accepted : goal.returns-in_err-streams-clause-accepted
returns-in_err-streams-clause-accepted c =
    let p = err_from_is_err_and c.from_residual.result c.from_residual.ensures.1 in
    let judged : Judges c.from_residual.result (first_table_fault c.args.md.now) (λ _. ⊤) = rw (p.1, p.2) (fault-streams c.args.md.now _ c.in_err-streams.ensures.judged) in
    judged-ok c.from_residual.result (first_table_fault c.args.md.now) (λ _. ⊤) judged

pub returns-in_err-streams-clause-refused : goal.returns-in_err-streams-clause-refused
returns-in_err-streams-clause-refused c =
    let p = err_from_is_err_and c.from_residual.result c.from_residual.ensures.1 in
    let judged : Judges c.from_residual.result (first_table_fault c.args.md.now) (λ _. ⊤) = rw (p.1, p.2) (fault-streams c.args.md.now _ c.in_err-streams.ensures.judged) in
    judged-err c.from_residual.result (first_table_fault c.args.md.now) (λ _. ⊤) judged

pub read_layout-requires-clause-within : goal.read_layout-requires-clause-within
read_layout-requires-clause-within c = stream-within c.args.md.now (codes "#~") c.in_ok-streams.streams.tables c.in_ok-streams.ensures.judged.0 c.in_ok-streams.ensures.tables

pub returns-in_err-layout-clause-accepted : goal.returns-in_err-layout-clause-accepted
returns-in_err-layout-clause-accepted c =
    let p = err_from_is_err_and c.from_residual-in_err-layout.result c.from_residual-in_err-layout.ensures.1 in
    let judged : Judges c.from_residual-in_err-layout.result (first_table_fault c.args.md.now) (λ _. ⊤) =
    rw (p.1, p.2) (fault-tables c.args.md.now _ c.in_ok-streams.ensures.judged.0 c.in_err-layout.ensures.judged) in
    judged-ok c.from_residual-in_err-layout.result (first_table_fault c.args.md.now) (λ _. ⊤) judged

pub returns-in_err-layout-clause-refused : goal.returns-in_err-layout-clause-refused
returns-in_err-layout-clause-refused c =
    let p = err_from_is_err_and c.from_residual-in_err-layout.result c.from_residual-in_err-layout.ensures.1 in
    let judged : Judges c.from_residual-in_err-layout.result (first_table_fault c.args.md.now) (λ _. ⊤) =
    rw (p.1, p.2) (fault-tables c.args.md.now _ c.in_ok-streams.ensures.judged.0 c.in_err-layout.ensures.judged) in
    judged-err c.from_residual-in_err-layout.result (first_table_fault c.args.md.now) (λ _. ⊤) judged

pub bytes_of-user_strings-requires : goal.bytes_of-user_strings-requires
bytes_of-user_strings-requires c =
    stream-within c.args.md.now (codes "#US") c.in-Some.stream c.in_ok-streams.ensures.judged.0 (c.in_ok-streams.ensures.user_strings ∙ c.in-Some.is)

pub bytes_of-strings-requires : goal.bytes_of-strings-requires
bytes_of-strings-requires c = stream-within c.args.md.now (codes "#Strings") c.in_ok-streams.streams.strings c.in_ok-streams.ensures.judged.0 c.in_ok-streams.ensures.strings

pub bytes_of-requires : goal.bytes_of-requires
bytes_of-requires c = stream-within c.args.md.now (codes "#Blob") c.in_ok-streams.streams.blob c.in_ok-streams.ensures.judged.0 c.in_ok-streams.ensures.blob

pub invariant_of-result : goal.invariant_of-result
invariant_of-result c = record {
  short = c.requires;
  sound = fault-tables c.args.md.now _ c.in_ok-streams.ensures.judged.0 c.in_ok-layout.ensures.judged.0;
  strings_kept = heap-is c.args.md.now (codes "#Strings") _ _ c.in_ok-streams.ensures.strings c.bytes_of-strings.ensures;
  texts_end = c.behind_last_zero.ensures;
  blob_kept = heap-is c.args.md.now (codes "#Blob") _ _ c.in_ok-streams.ensures.blob c.bytes_of.ensures;
  blob_begin = start-is c.args.md.now (codes "#Blob") c.in_ok-streams.streams.blob c.in_ok-streams.ensures.blob;
  user_strings_kept =
      elim c.match-streams.branch [
        | in-Some w ↦
            rw w.user_strings-is
            (heap-is c.args.md.now (codes "#US") (Some w.in-Some.stream) _ (c.in_ok-streams.ensures.user_strings ∙ w.in-Some.is) w.bytes_of-user_strings.ensures)
        | in-None w ↦ rw w.user_strings-is (heap-is c.args.md.now (codes "#US") None _ (c.in_ok-streams.ensures.user_strings ∙ w.in-None.is) refl)
      ];
  layout_kept = c.in_ok-layout.ensures.placed;
}

pub returns-clause-accepted : goal.returns-clause-accepted
returns-clause-accepted c = (λ _. fault-tables c.args.md.now _ c.in_ok-streams.ensures.judged.0 c.in_ok-layout.ensures.judged.0, λ _. refl)
