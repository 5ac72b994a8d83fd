use Rattle.std.proofs.Common.{ℕ, List, Vec, Global, ◌<◌, ◌++◌, ◌∷◌, [], take, length, sym, ap, ◌∙◌, arith}
use Rattle.std.proofs.lemmas.List.{length-map}
use Rattle.std.proofs.lemmas.Result.{err_from_is_err_and}
use Rattle.check_driver.specs.Met.{bytes_read}
use Rattle.check_driver.proofs.LinkedAnswers.{bytes_there, stopped_at, taken_one}
use Rattle.check_driver.proofs.LinkedFiles.{accepted_more}
use Rattle.check_driver.proofs.linked_answer.read_all.Goals as goal

pub returns-in_err-read_one : goal.returns-in_err-read_one
returns-in_err-read_one c =
    let p = err_from_is_err_and c.from_residual.result c.from_residual.ensures.1 in
    let read = c.args.read.now in
    let n = c.loop-file.file in
    let lt : n < length (bytes_read read) = omega (arith, c.loop-file-test.true, length-map read (λ (b : Vec ℕ Global). b.items)) in
    let there = bytes_there read n c.index-read-file.result c.deref.result.now c.loop-file-test.true c.index-read-file.is c.deref.ensures.value in
    rw (p.1, p.2) (stopped_at (bytes_read read) n c.deref.result.now c.in_err-read_one.field-0.0 c.loop-file.invariant.accepted lt there c.in_err-read_one.ensures)

pub loop-file-preserved : goal.loop-file-preserved
loop-file-preserved c =
    let read = c.args.read.now in
    let files = bytes_read read in
    let n = c.loop-file.file in
    let lt : n < length files = omega (arith, c.loop-file-test.true, length-map read (λ (b : Vec ℕ Global). b.items)) in
    let there = bytes_there read n c.index-read-file.result c.deref.result.now c.loop-file-test.true c.index-read-file.is c.deref.ensures.value in
    record {
      items =
          c.in_ok-push.ensures.items ∙ ap (λ (xs : List (List ℕ)). xs ++ c.in_ok-read_one.field-0 ∷ []) c.loop-file.invariant.items
          ∙ ap (λ (b : List ℕ). take n files ++ b ∷ []) c.in_ok-read_one.ensures.0 ∙ sym (taken_one files n c.deref.result.now lt there);
      accepted = accepted_more files n c.deref.result.now c.loop-file.invariant.accepted lt there c.in_ok-read_one.ensures.1;
    }
