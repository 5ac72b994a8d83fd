use Rattle.std.proofs.Common.{◌≡◌, refl, sym, ap, subst, ◌∙◌}
use Rattle.std.proofs.lemmas.Result.{err_from_is_err_and}
use Rattle.std.specs.Prelude.{IfOk, Option, Some, codes, ⊤}
use Rattle.cc_base.specs.Tests.{first_of, Judges}
use Rattle.metadata_tables.specs.declared.fault.TableFault.{TableFault}
use Rattle.metadata_tables.specs.declared.root.Stream.{Stream}
use Rattle.metadata_tables.proofs.HeaderLemmas.{stream_count-is, stream-is, streams-are, presence-is}
use Rattle.metadata_tables.proofs.root.read_streams.Goals as goal

pub returns-in_err-first-clause-judged : goal.returns-in_err-first-clause-judged
returns-in_err-first-clause-judged c =
    let p = err_from_is_err_and c.from_residual.result c.from_residual.ensures.1 in
    rw (p.1, p.2) (streams-are c.args.md.now _ _ refl refl ∙ rw (c.in_err-first.ensures.judged) refl)

pub returns-in_err-found-clause-judged : goal.returns-in_err-found-clause-judged
returns-in_err-found-clause-judged c =
    let md = c.args.md.now in
    let first = c.in_ok-first.ensures.place in
    let count = c.u16_at.ensures ∙ stream_count-is md c.in_ok-first.first first in
    let p = err_from_is_err_and c.from_residual-in_err-found.result c.from_residual-in_err-found.ensures.1 in
    rw (p.1, p.2) (streams-are md c.u16_at.result c.in_ok-first.first first count ∙ rw (c.in_ok-first.ensures.judged.0, c.in_err-found.ensures.judged) refl)

pub returns-clause-judged : goal.returns-clause-judged
returns-clause-judged c =
    let md = c.args.md.now in
    let first = c.in_ok-first.ensures.place in
    let count = c.u16_at.ensures ∙ stream_count-is md c.in_ok-first.first first in
    let found = c.in_ok-found.ensures in
    let all = streams-are md c.u16_at.result c.in_ok-first.first first count ∙ rw (c.in_ok-first.ensures.judged.0, found.judged.0) refl in
    let present =
    presence-is md c.in_ok-found.found.tables c.in_ok-found.found.strings c.in_ok-found.found.blob
    (found.tables ∙ stream-is md (codes "#~") c.u16_at.result c.in_ok-first.first first count)
    (found.strings ∙ stream-is md (codes "#Strings") c.u16_at.result c.in_ok-first.first first count)
    (found.blob ∙ stream-is md (codes "#Blob") c.u16_at.result c.in_ok-first.first first count) in
    subst (λ (o : Option TableFault). Judges c.all_present.result o (λ _. ⊤)) (ap first_of present ∙ sym all) c.all_present.ensures.judged

pub returns-clause-tables : goal.returns-clause-tables
returns-clause-tables c =
    let first = c.in_ok-first.ensures.place in
    let count = c.u16_at.ensures ∙ stream_count-is c.args.md.now c.in_ok-first.first first in
    subst (λ (o : Option Stream). IfOk c.all_present.result (λ streams. o ≡ Some streams.tables))
    (c.in_ok-found.ensures.tables ∙ stream-is c.args.md.now (codes "#~") c.u16_at.result c.in_ok-first.first first count) c.all_present.ensures.tables

pub returns-clause-strings : goal.returns-clause-strings
returns-clause-strings c =
    let first = c.in_ok-first.ensures.place in
    let count = c.u16_at.ensures ∙ stream_count-is c.args.md.now c.in_ok-first.first first in
    subst (λ (o : Option Stream). IfOk c.all_present.result (λ streams. o ≡ Some streams.strings))
    (c.in_ok-found.ensures.strings ∙ stream-is c.args.md.now (codes "#Strings") c.u16_at.result c.in_ok-first.first first count) c.all_present.ensures.strings

pub returns-clause-blob : goal.returns-clause-blob
returns-clause-blob c =
    let first = c.in_ok-first.ensures.place in
    let count = c.u16_at.ensures ∙ stream_count-is c.args.md.now c.in_ok-first.first first in
    subst (λ (o : Option Stream). IfOk c.all_present.result (λ streams. o ≡ Some streams.blob))
    (c.in_ok-found.ensures.blob ∙ stream-is c.args.md.now (codes "#Blob") c.u16_at.result c.in_ok-first.first first count) c.all_present.ensures.blob

pub returns-clause-user_strings : goal.returns-clause-user_strings
returns-clause-user_strings c =
    let first = c.in_ok-first.ensures.place in
    let count = c.u16_at.ensures ∙ stream_count-is c.args.md.now c.in_ok-first.first first in
    subst (λ (o : Option Stream). IfOk c.all_present.result (λ streams. o ≡ streams.user_strings))
    (c.in_ok-found.ensures.user_strings ∙ stream-is c.args.md.now (codes "#US") c.u16_at.result c.in_ok-first.first first count) c.all_present.ensures.user_strings
