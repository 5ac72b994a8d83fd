use Rattle.std.proofs.Common.{◌≡◌, take}
use Rattle.cc_base.specs.Counts.{Kept}
use Rattle.command_words.specs.Words.{words_bytes}
use Rattle.check_driver.proofs.FilesRead.{ReadSoFar}
use Rattle.check_driver.proofs.reading.read_files.Given as goal

abbrev pub invariant-loop-word : goal.invariant-loop-word
invariant-loop-word g l =
    let held = g.F.Files.held in
    let missed = g.F.Files.missed in
    let faults = g.F.Files.faults in
    record {
      so_far : ReadSoFar (held l.initial.files) (words_bytes l.words) (take l.word-index l.indexes) l.read.items;
      held_kept : held l.files ≡ held l.initial.files;
      missed_kept : Kept (missed l.initial.files) (missed l.files);
      faults_kept : Kept (faults l.initial.files) (faults l.files);
    }
