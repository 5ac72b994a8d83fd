-- What a command gives, by what its call met, wherever it ended.
use Rattle.std.proofs.Common.{◌≡◌, ℕ, List, ◌++◌, Vec, Global, Option, Some, Result, Ok, Err, refl, sym, subst, inl}
use Rattle.std.specs.Prelude.{IfOk, option_to_list}
use Rattle.cc_base.specs.Counts.{Kept, Rose}
use Rattle.cc_base.specs.Files.{Held}
use Rattle.cc_base.proofs.CountLemmas.{Kept-refl}
use Rattle.answer_lines.specs.Answers.{Answer, error_answer, missing_line}
use Rattle.answer_lines.specs.Outcome.{Gives, GivesOrFails, unread_answer}
use Rattle.answer_lines.specs.Writing.{Change}
use Rattle.answer_lines.specs.declared.interrupt.Interrupt.{Interrupt}
use Rattle.answer_lines.specs.declared.interrupt.Interrupt.TheVariants as interrupts
use Rattle.answer_lines.proofs.Writings.{change, gives_no_memory}
use Rattle.command_words.specs.Words.{file_indexes, word_at, words_at}
use Rattle.command_words.specs.declared.command.Command.{Command}
use Rattle.proof_files.specs.Reading.{ProofRead}
use Rattle.result_cache.specs.Entries.{Entry}
use Rattle.unit_verdicts.specs.Asked.{Asks}
use Rattle.check_driver.specs.Asked.{AnswerAsks, bytes_asked, files_asked}
use Rattle.check_driver.specs.BytesAnswered.{AnswersBytes}
use Rattle.check_driver.specs.CacheMet.{CallMet, IsMet, cache_entries, command_cache, command_proof}
use Rattle.check_driver.specs.CallRead.{IsReadIndex, cache_bytes}
use Rattle.check_driver.specs.Expected.{bytes_answer, files_answer}
use Rattle.check_driver.specs.FilesLeft.{AnswerLeaves, IfEither, LeftFile, bytes_left, files_left}
use Rattle.check_driver.specs.HonestCaches.{HonestWhereHonest}
use Rattle.check_driver.specs.Known.{AnswerKnows, Knows}
use Rattle.check_driver.specs.Met.{AreContents, IsCacheContent, bytes_read, first_missing}
use Rattle.check_driver.specs.ProofMet.{IsProofMet}
use Rattle.check_driver.proofs.Answering.{gives_read, gives_unread, missing_answer, missing_asked, missing_left, read_answer, read_asked, read_left}
use Rattle.check_driver.proofs.Asking.{answer_asks, answer_asks_none, unasked, unread_asks}
use Rattle.check_driver.proofs.CacheCuts.{entries_alike}
use Rattle.check_driver.proofs.CheckParts.{honest_as_before, leaves_as_before, leaves_none, named_rose}
use Rattle.check_driver.proofs.InputsRead.{any_met}
use Rattle.check_driver.proofs.KnownFiles.{known_missing, known_read, known_unread}
use Rattle.check_driver.proofs.ProofCuts.{proof_met}

-- A file was not read.
leaves_unread : (left : List LeftFile) (text : List ℕ) (r : Result ℕ Interrupt) (out : Change) (old new : Option Held) → new ≡ old → IfOk r (λ status. status ≡ 4)
    → AnswerLeaves left text r out old new
leaves_unread left text (Ok status) out old new same is = record { whole = λ other. absurd (other is); either = inl same }
leaves_unread left text (Err i) out old new same is = record { whole = tt; either = inl same }

module _ (told : Option Held) (words : List (List ℕ)) (command : Command) where
  abbrev names : List (List ℕ)
  names = words_at words (file_indexes command)

  abbrev cache : Option (List ℕ)
  cache = command_cache words command

  abbrev proof : Option (List ℕ)
  proof = command_proof words command

  -- What it met, and what it gave.
  abbrev pub AnswersCall : Type 0 → Result ℕ Interrupt → Change → Change → List (List ℕ) → List (List ℕ) → Option Held → Type 0
  AnswersCall failed r out err before after now =
      (met : CallMet) × IsMet told names cache met
      × GivesOrFails (files_answer command words met) (names ++ option_to_list cache) failed (IfEither proof cache failed) r out err
      × AnswerAsks (files_asked command words met) r before after
      × AnswerLeaves (files_left command words met) (files_answer command words met).out r out told now
      × AnswerKnows command words met r
      × HonestWhereHonest cache proof (cache_entries met.cache) told now

  -- Memory ran out before anything was done.
  pub no_memory_call : (now : Option Held) (failed : Type 0) (o e : Option (List ℕ)) (p q : Option ℕ) (f g : ℕ) (asked : List (List ℕ)) → now ≡ told
      → AnswersCall failed (Err interrupts.NoMemory) (change o o p p f f) (change e e q q g g) asked asked now
  no_memory_call now failed o e p q f g asked same =
      let (met, is) = any_met told names cache in (
        met,
        is,
        inl (inl (gives_no_memory (files_answer command words met) (change o o p p f f) (change e e q q g g) refl refl (Kept-refl f) (Kept-refl g))),
        unasked (files_asked command words met) asked,
        leaves_as_before (files_left command words met) (files_answer command words met).out interrupts.NoMemory (change o o p p f f) told now same,
        tt,
        honest_as_before cache proof (cache_entries met.cache) told now same,
      )

  -- A file is missing.
  pub missing_call : (now : Option Held) (failed : Type 0) (met : CallMet) (index : ℕ) (r : Result ℕ Interrupt) (out err : Change) (asked : List (List ℕ)) → now ≡ told
      → IsMet told names cache met
      → first_missing names met.files ≡ Some (word_at words index) → Gives (error_answer 3 (missing_line (word_at words index))) r out err → AnswersCall failed r out err asked asked now
  missing_call now failed met index r out err asked same is first gives =
      let name = word_at words index in
      let answer = missing_answer command words met name first in (
        met,
        is,
        inl (inl (subst (λ (a : Answer). Gives a r out err) (sym answer) gives)),
        subst (λ (keys : List (List ℕ)). AnswerAsks keys r asked asked) (sym (missing_asked command words met name first)) (answer_asks_none r asked),
        subst (λ (left : List LeftFile). AnswerLeaves left (files_answer command words met).out r out told now) (sym (missing_left command words met name first))
            (leaves_none (files_answer command words met).out r out told now same),
        known_missing command words met name r first,
        honest_as_before cache proof (cache_entries met.cache) told now same,
      )

  -- A device refused to give a file, or the cache.
  pub unread_call : (now : Option Held) (failed : Type 0) (met : CallMet) (index : ℕ) (r : Result ℕ Interrupt) (out err : Change) (asked : List (List ℕ)) → now ≡ told
      → IsMet told names cache met → failed
      → IsReadIndex command index → IfOk r (λ status. status ≡ 4) → Gives (unread_answer (word_at words index)) r out err → AnswersCall failed r out err asked asked now
  unread_call now failed met index r out err asked same is f at status gives = (
    met,
    is,
    gives_unread (files_answer command words met) words command index failed (IfEither proof cache failed) r out err f at gives,
    unread_asks (files_asked command words met) r asked status,
    leaves_unread (files_left command words met) (files_answer command words met).out r out told now same status,
    known_unread command words met r status,
    honest_as_before cache proof (cache_entries met.cache) told now same,
  )

  -- All was read.
  pub read_call : (mid now : Option Held) (f0 f1 f2 : ℕ) (first : CallMet) (read : List (Vec ℕ Global)) (own : Option (Vec ℕ Global)) (by : Option ProofRead) (r : Result ℕ Interrupt)
      (out err : Change) (before after : List (List ℕ)) → mid ≡ told → Kept f0 f1 → IsMet told names cache first → AreContents first.files read → IsCacheContent first.cache own
      → IsProofMet (bytes_read read) by
      → AnswersBytes command words (cache_bytes own) by (bytes_read read) (IfEither proof cache (Rose f1 f2)) r out err mid now
      → Asks (bytes_asked command (cache_bytes own) (bytes_read read)) r before after
      → IfOk r (λ status. Knows command (cache_bytes own) (bytes_read read) status)
      → HonestWhereHonest cache proof (cache_entries (cache_bytes own)) mid now → AnswersCall (Rose f0 f2) r out err before after now
  read_call mid now f0 f1 f2 first read own by r out err before after same kept is contents content proof_is answers asks knows honest =
      let met : CallMet = record { files = first.files; cache = first.cache; proof = by } in
      let answer = read_answer command words met read own contents content in
      let entries = entries_alike met.cache own content in (
        met,
        record { files = is.files; cache = is.cache; proof = proof_met met.files read by contents proof_is },
        subst (λ (a : Answer). GivesOrFails a (names ++ option_to_list cache) (Rose f0 f2) (IfEither proof cache (Rose f0 f2)) r out err) (sym answer)
            (gives_read _ _ (Rose f0 f2) (IfEither proof cache (Rose f1 f2)) (IfEither proof cache (Rose f0 f2)) r out err (named_rose proof cache f0 f1 f2 kept) answers.gives),
        subst (λ (keys : List (List ℕ)). AnswerAsks keys r before after) (sym (read_asked command words met read own contents content)) (answer_asks _ r before after asks),
        subst (λ (a : Answer). AnswerLeaves (files_left command words met) a.out r out told now) (sym answer)
            (subst (λ (left : List LeftFile). AnswerLeaves left (bytes_answer command words (cache_bytes own) by (bytes_read read)).out r out told now)
            (sym (read_left command words met read own contents content))
            (subst
            (λ (h : Option Held). AnswerLeaves (bytes_left command words (cache_bytes own) (bytes_read read)) (bytes_answer command words (cache_bytes own) by (bytes_read read)).out r out h now)
            same answers.left)),
        known_read command words met read own r contents content knows,
        subst (λ (es : List Entry). HonestWhereHonest cache proof es told now) (sym entries)
            (subst (λ (h : Option Held). HonestWhereHonest cache proof (cache_entries (cache_bytes own)) h now) same honest),
      )
