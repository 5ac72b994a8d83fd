use Rattle.command_words.specs.Words.{words_bytes}
use Rattle.command_words.specs.declared.command.Command.TheVariants as commands
use Rattle.unit_verdicts.specs.CacheFile.{cache_left}
use Rattle.unit_verdicts.specs.Picks.{entries_in}
use Rattle.unit_verdicts.specs.ProofLeft.{proof_left}
use Rattle.check_driver.specs.CacheMet.{command_cache, command_proof}
use Rattle.check_driver.specs.FilesLeft.{named_file}
use Rattle.check_driver.proofs.LeftFiles.{prefix_where, honest_at_proof}
use Rattle.check_driver.proofs.left_files.leave_both.Goals as goal

pub returns-in_err-leave_proof-clause-honest : goal.returns-in_err-leave_proof-clause-honest
returns-in_err-leave_proof-clause-honest g c =
    let words = words_bytes c.args.words.now in
    honest_at_proof (command_cache words (commands.Check c.args.check)) (command_proof words (commands.Check c.args.check))
    (proof_left c.args.units.now.held c.args.units.now.keys) (entries_in c.args.units.now.held) _ _ c.in_err-leave_proof.ensures.err

pub returns-clause-err : goal.returns-clause-err
returns-clause-err g c =
    let words = words_bytes c.args.words.now in
    let units = c.args.units.now in
    prefix_where c.leave_cache.result (named_file (command_proof words (commands.Check c.args.check)) (proof_left units.held units.keys))
    (named_file (command_cache words (commands.Check c.args.check)) (cache_left (entries_in units.held) units.keys)) _ _ _
    c.in_ok-leave_proof.ensures.ok c.leave_cache.ensures.err
