-- What `verify` gives by the proof file that a check has left.
use Rattle.std.specs.Prelude.{◌≡◌, ℕ, false, List, [], ◌∷◌, Some, option_and_then}
use Rattle.cc_base.specs.Files.{Held}
use Rattle.check_driver.specs.Asked.{check_keys}
use Rattle.check_driver.specs.CacheMet.{cache_entries}
use Rattle.assembly_reports.specs.CheckText.{check_text}
use Rattle.command_words.specs.Words.{cache_name, check_files, command_of, word_at}
use Rattle.command_words.specs.declared.check_words.CheckWords.{CheckWords}
use Rattle.command_words.specs.declared.command.Command.TheVariants as commands
use Rattle.proof_files.specs.Proofs.{kept}
use Rattle.unit_verdicts.specs.Asked.{distinct}
use Rattle.unit_verdicts.specs.Picks.{Manner, pick_from}
use Rattle.unit_verdicts.specs.ProofLeft.{proof_entries}
use Rattle.unit_verdicts.specs.VerdictCache.{manner_under}
use Rattle.unit_verdicts.specs.declared.source.Source.{Source}
use Rattle.unit_verdicts.specs.declared.source.Source.TheVariants.{Cache as OfCache}

-- What a call of these words uses of what is held under the name of its cache.
abbrev pub source_held : List (List ℕ) → Held → Source
source_held words held = OfCache (cache_entries (option_and_then held (cache_name words)))

-- The manner of the reports that a call of these words makes, but that no invariant is shown.
abbrev pub plain_manner : List (List ℕ) → Held → Manner
plain_manner words held = manner_under false (source_held words held)

-- A proof file has room for all units of an assembly with these bytes.
abbrev pub IsUncut : Source → List ℕ → Type 0
IsUncut held bytes =
    let entries = proof_entries held (distinct (check_keys false (pick_from held) (bytes ∷ []))) in kept entries ≡ entries

-- The words ask to check one file, which is held, and to leave a proof file, which has room for all its units. The
-- other words ask to verify that file by it.
pub record AsksToConfirm (words other : List (List ℕ)) (held : Held) : Type 0 where
  pub check : CheckWords
  pub file : ℕ
  pub proof : ℕ
  pub bytes : List ℕ
  pub command : command_of words ≡ Some (commands.Check check)
  pub one : check_files check ≡ file ∷ []
  pub leaves : check.proof ≡ Some proof
  pub is_held : held (word_at words file) ≡ Some bytes
  pub uncut : IsUncut (source_held words held) bytes
  pub its_file : ℕ
  pub its_proof : ℕ
  pub confirms : command_of other ≡ Some (commands.Verify its_file its_proof)
  pub same_file : word_at other its_file ≡ word_at words file
  pub same_proof : word_at other its_proof ≡ word_at words proof

-- The report that a call of these words makes of an assembly of this name and with these bytes, without the lines of
-- invariants.
abbrev pub plain_report : List (List ℕ) → Held → List ℕ → List ℕ → List ℕ
plain_report words held name bytes = check_text false name (plain_manner words held) bytes
