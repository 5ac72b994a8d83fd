-- What was printed, and the answer of a command that has one file.
use Rattle.std.proofs.Common.{◌≡◌, ℕ, List, [], ◌∷◌, ◌++◌, Option, Some, refl, sym, ap, ◌∙◌}
use Rattle.std.proofs.lemmas.List.{append_cancel_left}
use Rattle.std.proofs.lemmas.Option.{same_Some}
use Rattle.cc_base.specs.Files.{Held}
use Rattle.cc_base.specs.Sink.{appended}
use Rattle.check_driver.specs.Expected.{bytes_answer, command_answer, expected, files_answer, missing_or}
use Rattle.check_driver.specs.CacheMet.{CallMet}
use Rattle.check_driver.specs.Met.{AreUnder, first_missing}
use Rattle.command_words.specs.Words.{command_of, file_indexes, word_at, words_at}
use Rattle.command_words.specs.declared.command.Command.{Command}

-- What was appended is known from what was written before and after.
pub same_appended : (old new : Option (List ℕ)) (prefix before text : List ℕ)
    → new ≡ appended old prefix → old ≡ Some before → new ≡ Some (before ++ text) → prefix ≡ text
same_appended old new prefix before text adds was is =
    let both : Some (before ++ prefix) ≡ Some (before ++ text) = ap (λ (o : Option (List ℕ)). appended o prefix) (sym was) ∙ sym adds ∙ is in
    append_cancel_left before prefix text (same_Some (before ++ prefix) (before ++ text) both)

-- What is met is the file of a command that has one.
pub file_asked : (words : List (List ℕ)) (command : Command) (file : ℕ) (held : Held) (bytes : List ℕ) (met : CallMet) → file_indexes command ≡ file ∷ []
    → held (word_at words file) ≡ Some bytes → command_of words ≡ Some command → AreUnder (Some held) (words_at words (file ∷ [])) met.files
    → expected words met ≡ bytes_answer command words met.cache met.proof (bytes ∷ [])
file_asked words command file held bytes met one at asked under = by met.files under
  where
    by : (files : List (Option (List ℕ))) → AreUnder (Some held) (words_at words (file ∷ [])) files
        → expected words (record { files = files; cache = met.cache; proof = met.proof }) ≡ bytes_answer command words met.cache met.proof (bytes ∷ [])
    by (under ∷ []) (is, last) =
        let met_is : under ≡ Some bytes = sym (is held refl) ∙ at in
        ap (command_answer words (record { files = under ∷ []; cache = met.cache; proof = met.proof })) asked
        ∙ ap (λ (u : Option (List ℕ)). files_answer command words (record { files = u ∷ []; cache = met.cache; proof = met.proof })) met_is
        ∙ ap (λ (indexes : List ℕ). missing_or (first_missing (words_at words indexes) (Some bytes ∷ [])) (bytes_answer command words met.cache met.proof (bytes ∷ []))) one
    by [] h = absurd h
    by (under ∷ other ∷ files) h = absurd h.1
