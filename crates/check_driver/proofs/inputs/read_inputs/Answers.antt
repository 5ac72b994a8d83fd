use Rattle.std.proofs.Common.{ℕ, List, Ok, Err, subst}
use Rattle.std.proofs.lemmas.Result.{err_from_is_err_and}
use Rattle.cc_base.specs.Counts.{Rose}
use Rattle.command_words.specs.Words.{words_bytes}
use Rattle.check_driver.proofs.InputsRead.{ReadsFiles, all_read, stopped_at_cache, stopped_at_file}
use Rattle.check_driver.proofs.inputs.read_inputs.Goals as goal

pub returns-in_err-read-clause-read : goal.returns-in_err-read-clause-read
returns-in_err-read-clause-read g c =
    let told = g.F.Files.held c.args.files.now in
    let words = words_bytes c.args.words.now in
    let missed : Type 0 = Rose (g.F.Files.missed c.args.files.now) (g.F.Files.missed c.read_files.new.files) in
    let failed : Type 0 = Rose (g.F.Files.faults c.args.files.now) (g.F.Files.faults c.read_files.new.files) in
    let p = err_from_is_err_and c.from_residual.result c.from_residual.ensures.1 in
    rw (p.1, p.2)
    (stopped_at_file told words c.args.command missed failed c.in_err-read.field-0.0
    (subst (λ (indexes : List ℕ). ReadsFiles told words indexes missed failed (Err c.in_err-read.field-0.0)) c.requires.indexes c.in_err-read.ensures.read))

pub returns-in_err-cache-clause-read : goal.returns-in_err-cache-clause-read
returns-in_err-cache-clause-read g c =
    let told = g.F.Files.held c.args.files.now in
    let words = words_bytes c.args.words.now in
    let missed : Type 0 = Rose (g.F.Files.missed c.args.files.now) (g.F.Files.missed c.read_files.new.files) in
    let failed : Type 0 = Rose (g.F.Files.faults c.args.files.now) (g.F.Files.faults c.read_files.new.files) in
    let p = err_from_is_err_and c.from_residual-in_err-cache.result c.from_residual-in_err-cache.ensures.1 in
    rw (p.1, p.2)
    (stopped_at_cache told (g.F.Files.held c.read_files.new.files) words c.args.command c.in_ok-read.read missed failed _ _ _ _ c.in_err-cache.field-0.0 c.read_files.ensures.files
    c.read_files.ensures.faults_kept (subst (λ (indexes : List ℕ). ReadsFiles told words indexes missed failed (Ok c.in_ok-read.read)) c.requires.indexes c.in_ok-read.ensures.read)
    c.in_err-cache.ensures.read)

pub returns-clause-read : goal.returns-clause-read
returns-clause-read g c =
    let told = g.F.Files.held c.args.files.now in
    let words = words_bytes c.args.words.now in
    let missed : Type 0 = Rose (g.F.Files.missed c.args.files.now) (g.F.Files.missed c.read_files.new.files) in
    let failed : Type 0 = Rose (g.F.Files.faults c.args.files.now) (g.F.Files.faults c.read_files.new.files) in
    let later : Type 0 = Rose (g.F.Files.faults c.read_files.new.files) (g.F.Files.faults c.read_its_cache.new.files) in
    all_read told (g.F.Files.held c.read_files.new.files) words c.args.command c.in_ok-read.read c.in_ok-cache.cache missed failed later missed failed c.read_files.ensures.files
    (subst (λ (indexes : List ℕ). ReadsFiles told words indexes missed failed (Ok c.in_ok-read.read)) c.requires.indexes c.in_ok-read.ensures.read) c.in_ok-cache.ensures.read
