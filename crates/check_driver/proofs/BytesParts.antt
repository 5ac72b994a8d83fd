-- Answers to a command for what was read, by the answers of its parts.
use Rattle.std.proofs.Common.{◌≡◌, ◌≢◌, ℕ, List, [], ◌∷◌, length, Vec, Global, Option, None, false, is_some, Result, slice_index_or, refl, sym, subst, ◌∙◌, ap, inl}
use Rattle.std.specs.Prelude.{IfOk}
use Rattle.cc_base.specs.Files.{Held}
use Rattle.answer_lines.specs.Outcome.{Gives}
use Rattle.answer_lines.specs.Writing.{Change}
use Rattle.answer_lines.specs.declared.interrupt.Interrupt.{Interrupt}
use Rattle.asm_image.specs.Faults.{FirstBroken}
use Rattle.assembly_answers.specs.Answers.{il_answer, list_answer, refute_file_answer, run_file_answer}
use Rattle.assembly_answers.proofs.Statuses.{IsOfBytes, of_il, of_list, of_refute_file, of_run_file}
use Rattle.command_words.specs.Words.{args_told, check_files, linked_files, word_at, words_at}
use Rattle.command_words.specs.declared.check_words.CheckWords.{CheckWords}
use Rattle.command_words.specs.declared.command.Command.{Command}
use Rattle.command_words.specs.declared.command.Command.TheVariants as commands
use Rattle.command_words.specs.declared.command.RunWords.{RunWords}
use Rattle.command_words.specs.declared.linked_words.LinkedWords.{LinkedWords}
use Rattle.proof_files.specs.Reading.{ProofRead}
use Rattle.check_driver.specs.BytesAnswered.{AnswersBytes}
use Rattle.assembly_reports.specs.CheckText.{all_methods_proved}
use Rattle.check_driver.specs.Expected.{bytes_answer, check_manner, file_at, gen_answer, unit_file_answer, verify_answer}
use Rattle.check_driver.specs.FilesLeft.{AnswerLeaves, GivesOrUnreplaced, bytes_left}
use Rattle.check_driver.specs.Met.{bytes_read}
use Rattle.check_driver.specs.ProofMet.{IsProofMet, IsReadOf}
use Rattle.check_driver.proofs.Answering.{two_files}
use Rattle.check_driver.proofs.CheckParts.{leaves_none}
use Rattle.check_driver.proofs.ProofCuts.{none_met}
use Rattle.check_driver.proofs.Statuses.{never_memory, of_check, of_linked, of_report, of_unit_file}
use Rattle.unit_verdicts.specs.Picks.{limit_pick}
use Rattle.written_assemblies.specs.GeneratedFiles.{generated_file}

module _ (command : Command) (words : List (List ℕ)) (cache : Option (List ℕ)) (files : List (List ℕ)) (unreplaced : Type 0) (r : Result ℕ Interrupt) (out err : Change) (old : Option Held) where
  -- What was read of a proof file, and the answer.
  abbrev pub Answered : Option Held → Type 0
  Answered new = (read : Option ProofRead) × IsProofMet files read × AnswersBytes command words cache read files unreplaced r out err old new

  -- A command that reads no proof file, and leaves no file.
  pub plain_answered : bytes_left command words cache files ≡ [] → IsOfBytes (bytes_answer command words cache None files).status → Gives (bytes_answer command words cache None files) r out err → Answered old
  plain_answered none of gives = (
    None,
    none_met files,
    record {
      gives = inl (inl gives);
      left = rw none (leaves_none (bytes_answer command words cache None files).out r out old old refl);
      memory = never_memory (bytes_answer command words cache None files) unreplaced r out err of (inl (inl gives));
    },
  )

  -- A check.
  pub check_answered : (new : Option Held) → IsOfBytes (bytes_answer command words cache None files).status → GivesOrUnreplaced (bytes_answer command words cache None files) unreplaced r out err
      → AnswerLeaves (bytes_left command words cache files) (bytes_answer command words cache None files).out r out old new → Answered new
  check_answered new of gives left =
      (None, none_met files, record { gives = gives; left = left; memory = never_memory (bytes_answer command words cache None files) unreplaced r out err of gives })

  -- A command that reads a proof file.
  pub read_answered : (read : Option ProofRead) → bytes_left command words cache files ≡ [] → IsProofMet files read → Gives (bytes_answer command words cache read files) r out err
      → IfOk r (λ status. status ≢ 7) → Answered old
  read_answered read none is gives memory = (
    read,
    is,
    record { gives = inl (inl gives); left = rw none (leaves_none (bytes_answer command words cache read files).out r out old old refl); memory = memory },
  )

-- ---- each command

module _ (words : List (List ℕ)) (cache : Option (List ℕ)) (files : List (List ℕ)) (unreplaced : Type 0) (r : Result ℕ Interrupt) (out err : Change) (old : Option Held) where
  pub unit_answered : (file : ℕ) → Gives (unit_file_answer (word_at words file) (file_at files 0)) r out err → Answered (commands.Unit file) words cache files unreplaced r out err old old
  unit_answered file gives = plain_answered (commands.Unit file) words cache files unreplaced r out err old refl (of_unit_file (word_at words file) (file_at files 0)) gives

  pub list_answered : (file : ℕ) → Gives (list_answer (word_at words file) (file_at files 0) (FirstBroken (file_at files 0))) r out err
      → Answered (commands.List file) words cache files unreplaced r out err old old
  list_answered file gives =
      plain_answered (commands.List file) words cache files unreplaced r out err old refl (of_list (word_at words file) (file_at files 0) (FirstBroken (file_at files 0))) gives

  pub il_answered : (file method : ℕ) → Gives (il_answer (word_at words file) (word_at words method) (file_at files 0) (FirstBroken (file_at files 0))) r out err
      → Answered (commands.Il file method) words cache files unreplaced r out err old old
  il_answered file method gives =
      plain_answered (commands.Il file method) words cache files unreplaced r out err old refl
      (of_il (word_at words file) (word_at words method) (file_at files 0) (FirstBroken (file_at files 0))) gives

  pub run_answered : (run : RunWords) → Gives (run_file_answer (word_at words run.file) (word_at words run.method) (args_told run words) run.steps (file_at files 0) (FirstBroken (file_at files 0))) r out err
      → Answered (commands.Run run) words cache files unreplaced r out err old old
  run_answered run gives =
      plain_answered (commands.Run run) words cache files unreplaced r out err old refl
      (of_run_file (word_at words run.file) (word_at words run.method) (args_told run words) run.steps (file_at files 0) (FirstBroken (file_at files 0))) gives

  pub refute_answered : (file method runs : ℕ) → Gives (refute_file_answer (word_at words file) (word_at words method) runs (file_at files 0) (FirstBroken (file_at files 0))) r out err
      → Answered (commands.Refute file method runs) words cache files unreplaced r out err old old
  refute_answered file method runs gives =
      plain_answered (commands.Refute file method runs) words cache files unreplaced r out err old refl
      (of_refute_file (word_at words file) (word_at words method) runs (file_at files 0) (FirstBroken (file_at files 0))) gives

  pub gen_answered : (seed count : ℕ) → Gives (gen_answer (generated_file seed count)) r out err → Answered (commands.Gen seed count) words cache files unreplaced r out err old old
  gen_answered seed count gives =
      plain_answered (commands.Gen seed count) words cache files unreplaced r out err old refl (of_report (all_methods_proved false limit_pick (generated_file seed count))) gives

  pub check_words_answered : (check : CheckWords) (new : Option Held) → GivesOrUnreplaced (bytes_answer (commands.Check check) words cache None files) unreplaced r out err
      → AnswerLeaves (bytes_left (commands.Check check) words cache files) (bytes_answer (commands.Check check) words cache None files).out r out old new
      → Answered (commands.Check check) words cache files unreplaced r out err old new
  check_words_answered check new gives left =
      check_answered (commands.Check check) words cache files unreplaced r out err old new (of_check (is_some check.infer) (check_manner check cache) (words_at words (check_files check)) files) gives left

  pub linked_words_answered : (linked : LinkedWords) (new : Option Held) → GivesOrUnreplaced (bytes_answer (commands.Linked linked) words cache None files) unreplaced r out err
      → AnswerLeaves (bytes_left (commands.Linked linked) words cache files) (bytes_answer (commands.Linked linked) words cache None files).out r out old new
      → Answered (commands.Linked linked) words cache files unreplaced r out err old new
  linked_words_answered linked new gives left =
      check_answered (commands.Linked linked) words cache files unreplaced r out err old new (of_linked (check_manner linked.check cache) (words_at words (linked_files linked)) files) gives left

pub verify_answered : (words : List (List ℕ)) (cache : Option (List ℕ)) (read : List (Vec ℕ Global)) (unreplaced : Type 0) (r : Result ℕ Interrupt) (out err : Change) (old : Option Held)
    (file proof : ℕ) (a b : Vec ℕ Global) (first second : List ℕ) → length read ≡ 2 → first ≡ (slice_index_or read 0 a).items → second ≡ (slice_index_or read 1 b).items
    → (by : Option ProofRead) × IsReadOf second by × Gives (verify_answer (word_at words file) (word_at words proof) by first (FirstBroken first)) r out err
    → IfOk r (λ status. status ≢ 7) → Answered (commands.Verify file proof) words cache (bytes_read read) unreplaced r out err old old
verify_answered words cache read unreplaced r out err old file proof a b first second two is also (by, reads, gives) memory =
    let files : bytes_read read ≡ first ∷ second ∷ [] =
    two_files read a b two ∙ ap (λ (f : List ℕ). f ∷ (slice_index_or read 1 b).items ∷ []) (sym is) ∙ ap (λ (f : List ℕ). first ∷ f ∷ []) (sym also) in
    subst (λ (fs : List (List ℕ)). Answered (commands.Verify file proof) words cache fs unreplaced r out err old old) (sym files)
    (read_answered (commands.Verify file proof) words cache (first ∷ second ∷ []) unreplaced r out err old by refl reads gives memory)

pub ruleset answered = (unit_answered, list_answered, il_answered, run_answered, refute_answered, gen_answered, check_words_answered, linked_words_answered)
