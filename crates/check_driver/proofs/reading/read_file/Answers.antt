use Rattle.std.proofs.Common.{refl}
use Rattle.command_words.specs.Words.{word_at, words_bytes}
use Rattle.check_driver.proofs.FilesRead.{any_under, read_under}
use Rattle.check_driver.proofs.reading.read_file.Goals as goal

pub returns-in-Ok-clause-read : goal.returns-in-Ok-clause-read
returns-in-Ok-clause-read g c = read_under (g.F.Files.held c.args.files.now) _ c.in-Ok.bytes.items (rw c.word_at.ensures at c.in-Ok.ensures.found)

pub returns-in-Err-Failed-clause-read : goal.returns-in-Err-Failed-clause-read
returns-in-Err-Failed-clause-read g c =
    let u = any_under (g.F.Files.held c.args.files.now) (word_at (words_bytes c.args.words.now) c.args.index) in
    (u.0, u.1, ((rw c.in-Err-Failed.field-0-is at c.in-Err-Failed.ensures.failed_cause) refl, refl))

pub returns-in-Err-NoMemory-clause-read : goal.returns-in-Err-NoMemory-clause-read
returns-in-Err-NoMemory-clause-read g c =
    let u = any_under (g.F.Files.held c.args.files.now) (word_at (words_bytes c.args.words.now) c.args.index) in (u.0, u.1, tt)
