use Rattle.std.proofs.Common.{arith, refl}
use Rattle.std.proofs.lemmas.Result.{err_from_is_err_and}
use Rattle.command_words.specs.Words.{words_at, words_bytes}
use Rattle.check_driver.proofs.FilesRead.{all_under, read_more, read_stop}
use Rattle.check_driver.proofs.reading.read_files.Goals as goal

pub returns-in_err-read_file-clause-read : goal.returns-in_err-read_file-clause-read
returns-in_err-read_file-clause-read g c =
    let held = g.F.Files.held in
    let p = err_from_is_err_and c.from_residual.result c.from_residual.ensures.1 in
    let one = c.in_err-read_file.ensures.read in
    let so_far = c.loop-word.invariant in
    rw (p.1, p.2)
    (read_stop (held c.args.files.now) (held c.loop-word.files) (words_bytes c.args.words.now) c.args.indexes.now c.loop-word.word-index _ c.loop-word.read.items one.0 _ _ _ _ _ _
    c.in_err-read_file.field-0.0 so_far.held_kept c.loop-word-test.true refl so_far.so_far so_far.missed_kept so_far.faults_kept one.1 one.2)

pub returns-in_err-push-clause-read : goal.returns-in_err-push-clause-read
returns-in_err-push-clause-read g c =
    let p = err_from_is_err_and c.from_residual-in_err-push.result c.from_residual-in_err-push.ensures.1 in
    let any = all_under (g.F.Files.held c.args.files.now) (words_at (words_bytes c.args.words.now) c.args.indexes.now) in
    (any.0, any.1, rw (p.1, p.2) tt)

pub loop-word-preserved : goal.loop-word-preserved
loop-word-preserved g c =
    let held = g.F.Files.held in
    let one = c.in_ok-read_file.ensures.read in
    let so_far = c.loop-word.invariant in
    record {
      so_far = rw c.in_ok-push.ensures.items
          (read_more (held c.args.files.now) (held c.loop-word.files) (words_bytes c.args.words.now) c.args.indexes.now c.loop-word.word-index _ c.loop-word.read.items one.0 c.in_ok-read_file.field-0
          so_far.held_kept c.loop-word-test.true refl so_far.so_far one.1 one.2);
      held_kept = cc;
      missed_kept = omega (arith, so_far.missed_kept, c.in_ok-read_file.ensures.missed_kept);
      faults_kept = omega (arith, so_far.faults_kept, c.in_ok-read_file.ensures.faults_kept);
    }
