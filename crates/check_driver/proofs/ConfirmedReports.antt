-- By the proof file that a check of one file has left, `verify` gives the report of that check.
use Rattle.std.proofs.Common.{◌≡◌, ◌≢◌, ℕ, ◌≤◌, max, Bool, true, false, ◌&&◌, List, [], ◌∷◌, ◌++◌, Option, Some, None, is_none, is_some, option_map, Result, Ok, Err, if◌then◌else◌, refl, sym, ap, subst, ◌∙◌, append-nil, arith, inl, inr}
use Rattle.std.specs.Prelude.{Contains, IfSome}
use Rattle.std.proofs.lemmas.Option.{same_Some}
use Rattle.asm_image.specs.Faults.{FirstBroken}
use Rattle.asm_image.specs.declared.fault.AsmFault.{AsmFault}
use Rattle.cc_base.specs.Files.{Held}
use Rattle.answer_lines.specs.Answers.{Answer, output_answer}
use Rattle.answer_lines.specs.Outcome.{GivesOrFails, status_of}
use Rattle.answer_lines.specs.Writing.{Change}
use Rattle.answer_lines.specs.declared.interrupt.Interrupt.{Interrupt}
use Rattle.answer_lines.specs.declared.interrupt.Interrupt.TheVariants as interrupts
use Rattle.command_words.proofs.InferWords.{check_infers_nothing}
use Rattle.command_words.specs.Words.{cache_name, check_files, command_files, file_names, word_at, words_at}
use Rattle.command_words.specs.declared.check_words.CheckWords.{CheckWords}
use Rattle.command_words.specs.declared.command.Command.{Command}
use Rattle.command_words.specs.declared.command.Command.TheVariants as commands
use Rattle.proof_files.specs.Proofs.{Entry as ProofEntry, IsProofOf, kept}
use Rattle.proof_files.specs.Reading.{ProofRead, Whole}
use Rattle.proof_files.proofs.ReadOnce.{one_read}
use Rattle.unit_builder.specs.Outcomes.{entries_of}
use Rattle.unit_verdicts.specs.Asked.{distinct}
use Rattle.unit_verdicts.specs.CacheFile.{cache_left}
use Rattle.unit_verdicts.specs.Picks.{Manner, Pick, entries_in, pick_from, pick_of, shown_text}
use Rattle.unit_verdicts.specs.ProofLeft.{Confirms, IsProofLeft, proof_entries, proof_left}
use Rattle.unit_verdicts.specs.VerdictCache.{manner_under}
use Rattle.unit_verdicts.specs.declared.source.Source.{Source}
use Rattle.unit_verdicts.specs.declared.source.Source.TheVariants.{Cache as OfCache, Proof as OfProof}
use Rattle.check_driver.specs.Asked.{check_keys, keys_before}
use Rattle.assembly_reports.specs.JudgedUnits.{judged_keys}
use Rattle.check_driver.specs.CacheMet.{CallMet, IsMet, cache_entries, command_cache, command_proof}
use Rattle.assembly_reports.specs.CheckText.{all_methods_proved, check_text}
use Rattle.assembly_reports.specs.Reportable.{AreRunnable}
use Rattle.check_driver.specs.Confirmed.{AsksToConfirm, plain_report, source_held}
use Rattle.check_driver.specs.Expected.{answer_by, assembly_answer, bytes_answer, check_answer, check_manner, checked_before, command_answer, expected, files_answer, missing_or, verify_answer}
use Rattle.check_driver.specs.FilesLeft.{AnswerLeaves, AreLeft, LeftFile, check_left, command_left, left_by, left_files, left_unless, left_where, named_file}
use Rattle.check_driver.specs.Known.{AnswerKnows, AreAllRunnable, KnowsCheck, RunnableBefore, WordsKnow, known_unless}
use Rattle.check_driver.specs.Met.{AreUnder, contents, first_missing}
use Rattle.check_driver.specs.ProofMet.{IsProofMet, IsReadOf}
use Rattle.check_driver.proofs.AlikeReports.{AgreeOn, AreAmong, same_proved, same_text}
use Rattle.check_driver.proofs.CacheCuts.{met_cache}
use Rattle.check_driver.proofs.DistinctKeys.{all_distinct}
use Rattle.check_driver.proofs.LeftFiles.{AreOthers, others_kept}
use Rattle.check_driver.proofs.OwnNames.{file_not_cache, file_not_proof, proof_apart}

-- ---- one assembly, in two manners

-- Where the verdicts are confirmed, two manners that show nothing agree.
agree_confirmed : (entries : List ProofEntry) (held : Source) (keys : List (List ℕ)) → Confirms entries held keys → AgreeOn (manner_under false (OfProof entries)) (manner_under false held) keys
unfolding shown_text
agree_confirmed entries held keys confirms = record { verdicts = confirms; shown = λ unit is has. refl }

-- The keys of an assembly that is accepted.
keys_of_one : (pick : Pick) (bytes : List ℕ) (fault : Option AsmFault) → fault ≡ None → keys_before false pick bytes fault [] ≡ judged_keys (entries_of bytes)
keys_of_one pick bytes None none = append-nil (judged_keys (entries_of bytes))
keys_of_one pick bytes (Some fault) none = absurd cc

runnable_one : (bytes : List ℕ) (fault : Option AsmFault) (Others : Type 0) → fault ≡ None → RunnableBefore bytes fault Others → AreRunnable bytes
runnable_one bytes None Others none known = known.0
runnable_one bytes (Some fault) Others none known = absurd cc

-- The units that are judged for the report of one assembly, of its methods as they are written.
abbrev keys_by : Source → List ℕ → List (List ℕ)
keys_by held bytes = distinct (check_keys false (pick_from held) (bytes ∷ []))

module _ (name by_name bytes : List ℕ) (held : Source) (accepted : FirstBroken bytes ≡ None) where
  abbrev keys : List (List ℕ)
  keys = keys_by held bytes

  abbrev entries : List ProofEntry
  entries = proof_entries held keys

  abbrev plain : Manner
  plain = manner_under false held

  -- The report by the entries that were left is the report that was made, and so is its status.
  same_report : AreAllRunnable (bytes ∷ []) → Confirms entries held keys
      → assembly_answer (manner_under false (OfProof entries)) name bytes ≡ assembly_answer plain name bytes
  same_report known confirms =
      let its = runnable_one bytes (FirstBroken bytes) (AreAllRunnable []) accepted known in
      let agree = agree_confirmed entries held keys confirms in
      let one : check_keys false (pick_from held) (bytes ∷ []) ≡ judged_keys (entries_of bytes) = keys_of_one (pick_from held) bytes (FirstBroken bytes) accepted in
      let among = subst (λ (k : List (List ℕ)). AreAmong keys k) one (all_distinct (check_keys false (pick_from held) (bytes ∷ []))) in
      ap (λ (text : List ℕ). output_answer (if all_methods_proved false (Manner.pick (manner_under false (OfProof entries))) bytes then 0 else 1) text)
      (same_text (manner_under false (OfProof entries)) plain keys agree name bytes its among)
      ∙ ap (λ (proved : Bool). output_answer (if proved then 0 else 1) (check_text false name plain bytes))
      (same_proved (manner_under false (OfProof entries)) plain keys agree bytes its among)

  -- What is read of the file that was left.
  by_read : (left : IsProofLeft held keys) (read : Option ProofRead) → kept entries ≡ entries → AreAllRunnable (bytes ∷ []) → IsReadOf (proof_left held keys) read
      → (answer_by name bytes by_name read).status ≢ 7 → answer_by name bytes by_name read ≡ assembly_answer plain name bytes
  by_read left None uncut known reads memory = absurd (memory refl)
  by_read left (Some read) uncut known reads memory =
      let file = subst (λ (es : List ProofEntry). IsProofOf es (proof_left held keys)) uncut left.file in
      let is : read ≡ Whole entries = one_read (proof_left held keys) read (Whole entries) reads file in
      ap (λ (r : ProofRead). answer_by name bytes by_name (Some r)) is ∙ same_report known (left.confirms uncut)

-- ---- what a check has answered

-- A check of one file that answered with a status of 0 or 1 accepted it, and this was the status of its report.
accepted_one : (infer : Bool) (manner : Manner) (name bytes : List ℕ) (status : ℕ) → status ≡ (check_answer infer manner (name ∷ []) (bytes ∷ [])).status → status ≤ 1 → FirstBroken bytes ≡ None
accepted_one infer manner name bytes status is few = by (FirstBroken bytes) refl
  where
    by : (fault : Option AsmFault) → FirstBroken bytes ≡ fault → FirstBroken bytes ≡ None
    by None first = first
    by (Some fault) first =
        let five : status ≡ 5 = is ∙ ap (λ (found : Option AsmFault). Answer.status (checked_before infer name manner bytes found (check_answer infer manner [] []))) first in
        absurd (omega (arith, five, few))

status_one : (infer : Bool) (manner : Manner) (name bytes : List ℕ) (status : ℕ) → status ≡ (check_answer infer manner (name ∷ []) (bytes ∷ [])).status → FirstBroken bytes ≡ None
    → status ≡ (if all_methods_proved infer manner.pick bytes then 0 else 1)
status_one infer manner name bytes status is accepted =
    is ∙ ap (λ (found : Option AsmFault). Answer.status (checked_before infer name manner bytes found (check_answer infer manner [] []))) accepted
    ∙ greatest (if all_methods_proved infer manner.pick bytes then 0 else 1)
  where
    greatest : (n : ℕ) → max n 0 ≡ n
    greatest n = omega arith

-- ---- what was left

-- The proof file and the cache of these names, where the file of this name is none of them.
module _ (name proof : List ℕ) (cache : Option (List ℕ)) (bytes other : List ℕ) (held after : Held) (not_proof : name ≢ proof) (not_cache : cache ≢ Some name) (apart : cache ≢ Some proof)
    (left : AreLeft (named_file (Some proof) bytes ++ named_file cache other) (Some held) (Some after)) where
  cache_other : (own : List ℕ) (file : Option (List ℕ)) → file ≢ Some own → AreOthers own (named_file file other)
  cache_other own None differs = tt
  cache_other own (Some file) differs = (λ same. differs (ap (λ (n : List ℕ). Some n) (sym same)), tt)

  pub file_kept : after name ≡ held name
  file_kept = others_kept name (named_file (Some proof) bytes ++ named_file cache other) held after (Some after) (not_proof, cache_other name cache not_cache) left refl

  pub proof_there : after proof ≡ Some bytes
  proof_there = by left
    where
      by : AreLeft (named_file (Some proof) bytes ++ named_file cache other) (Some held) (Some after) → after proof ≡ Some bytes
      by (None, put, later) = absurd put
      by (Some mid, put, later) = others_kept proof (named_file cache other) mid after (Some after) (cache_other proof cache apart) later refl ∙ put.replaced

-- ---- what is met

-- One file.
met_one : (held : Held) (name bytes : List ℕ) (met : List (Option (List ℕ))) → AreUnder (Some held) (name ∷ []) met → held name ≡ Some bytes → met ≡ Some bytes ∷ []
met_one held name bytes (under ∷ []) (is, last) there = ap (λ (u : Option (List ℕ)). u ∷ []) (sym (is held refl) ∙ there)
met_one held name bytes [] is there = absurd is
met_one held name bytes (under ∷ second ∷ met) (is, never) there = absurd never

-- Two files.
met_two : (held : Held) (name by bytes proof : List ℕ) (met : List (Option (List ℕ))) → AreUnder (Some held) (name ∷ by ∷ []) met → held name ≡ Some bytes → held by ≡ Some proof
    → met ≡ Some bytes ∷ Some proof ∷ []
met_two held name by bytes proof (under ∷ second ∷ []) (is, (also, last)) there its_proof =
    ap (λ (u : Option (List ℕ)). u ∷ second ∷ []) (sym (is held refl) ∙ there) ∙ ap (λ (u : Option (List ℕ)). Some bytes ∷ u ∷ []) (sym (also held refl) ∙ its_proof)
met_two held name by bytes proof [] is there its_proof = absurd is
met_two held name by bytes proof (under ∷ []) (is, never) there its_proof = absurd never
met_two held name by bytes proof (under ∷ second ∷ third ∷ met) (is, (also, never)) there its_proof = absurd never

-- ---- the other words

module _ (words other : List (List ℕ)) (held after : Held) (asks : AsksToConfirm words other held) (status : ℕ) where
  abbrev check : CheckWords
  check = asks.check

  abbrev name : List ℕ
  name = word_at words asks.file

  abbrev by : List ℕ
  by = word_at words asks.proof

  abbrev source : Source
  source = source_held words held

  abbrev its_keys : List (List ℕ)
  its_keys = keys_by source asks.bytes

  -- Nothing is inferred where a proof file is left.
  no_infer : is_some check.infer ≡ false
  no_infer = ap (λ (infer : Option ℕ). is_some infer) (check_infers_nothing words check asks.command (ap is_some asks.leaves))

  -- What `verify` is expected to give where it meets both files.
  verified : (met : CallMet) → IsMet (Some after) (file_names other) None met → FirstBroken asks.bytes ≡ None → after name ≡ Some asks.bytes → after by ≡ Some (proof_left source its_keys)
      → AreAllRunnable (asks.bytes ∷ []) → IsProofLeft source its_keys → (expected other met).status ≢ 7
      → expected other met ≡ assembly_answer (manner_under false source) name asks.bytes
  verified met is accepted there proof_is runnable left memory =
      let command = commands.Verify asks.its_file asks.its_proof in
      let names : file_names other ≡ name ∷ by ∷ [] =
      ap (command_files other) asks.confirms ∙ ap (λ (n : List ℕ). n ∷ word_at other asks.its_proof ∷ []) asks.same_file ∙ ap (λ (n : List ℕ). name ∷ n ∷ []) asks.same_proof in
      let files = met_two after name by asks.bytes (proof_left source its_keys) met.files (subst (λ (ns : List (List ℕ)). AreUnder (Some after) ns met.files) names is.files) there proof_is in
      let read = subst (λ (fs : List (Option (List ℕ))). IsProofMet (contents fs) met.proof) files is.proof in
      let answer : expected other met ≡ answer_by name asks.bytes by met.proof =
      ap (command_answer other met) asks.confirms
      ∙ ap (λ (fs : List (Option (List ℕ))). files_answer command other (record { files = fs; cache = met.cache; proof = met.proof })) files
      ∙ ap (λ (n : List ℕ). verify_answer n (word_at other asks.its_proof) met.proof asks.bytes (FirstBroken asks.bytes)) asks.same_file
      ∙ ap (λ (n : List ℕ). verify_answer name n met.proof asks.bytes (FirstBroken asks.bytes)) asks.same_proof
      ∙ ap (verify_answer name by met.proof asks.bytes) accepted in
      answer ∙ by_read name by asks.bytes source accepted left met.proof asks.uncut runnable read (subst (λ (a : Answer). a.status ≢ 7) answer memory)

  -- What this call left, where it answered so.
  module _ (met : CallMet) (is : IsMet (Some held) (file_names words) (cache_name words) met) (few : status ≤ 1) (given : status ≡ (expected words met).status)
      (left : AreLeft (left_by words met) (Some held) (Some after)) (knows : WordsKnow words met (Ok status)) where
    abbrev command : Command
    command = commands.Check check

    names : file_names words ≡ name ∷ []
    names = ap (command_files words) asks.command ∙ ap (words_at words) asks.one

    files : met.files ≡ Some asks.bytes ∷ []
    files = met_one held name asks.bytes met.files (subst (λ (ns : List (List ℕ)). AreUnder (Some held) ns met.files) names is.files) asks.is_held

    entries_are : OfCache (cache_entries met.cache) ≡ source
    entries_are = ap (λ (c : Option (List ℕ)). OfCache (cache_entries c)) (met_cache held (cache_name words) met.cache is.cache)

    -- No file is missing.
    none : first_missing (words_at words (check_files check)) met.files ≡ None
    none = ap (λ (l : List ℕ). first_missing (words_at words l) met.files) asks.one ∙ ap (first_missing (name ∷ [])) files

    abbrev manner : Manner
    manner = check_manner check met.cache

    reports : (expected words met).status ≡ (check_answer false manner (name ∷ []) (asks.bytes ∷ [])).status
    reports =
        ap (λ (c : Option Command). Answer.status (command_answer words met c)) asks.command
        ∙ ap (λ (missing : Option (List ℕ)). Answer.status (missing_or missing (bytes_answer command words met.cache met.proof (contents met.files)))) none
        ∙ ap (λ (l : List ℕ). Answer.status (check_answer (is_some check.infer) manner (words_at words l) (contents met.files))) asks.one
        ∙ ap (λ (fs : List (Option (List ℕ))). Answer.status (check_answer (is_some check.infer) manner (name ∷ []) (contents fs))) files
        ∙ ap (λ (infer : Bool). Answer.status (check_answer infer manner (name ∷ []) (asks.bytes ∷ []))) no_infer

    accepted : FirstBroken asks.bytes ≡ None
    accepted = accepted_one false manner name asks.bytes status (given ∙ reports) few

    status_is : status ≡ (if all_methods_proved false (Manner.pick (manner_under false source)) asks.bytes then 0 else 1)
    status_is =
        status_one false manner name asks.bytes status (given ∙ reports) accepted
        ∙ ap (λ (s : Source). if all_methods_proved false (Manner.pick (manner_under false s)) asks.bytes then 0 else 1) entries_are

    known : KnowsCheck check met.cache (asks.bytes ∷ []) status
    known =
        let its = subst (λ (c : Option Command). IfSome c (λ some. AnswerKnows some words met (Ok status))) asks.command knows in
        let read : status ≢ 4 = λ four. omega (arith, four, few) in
        let all = subst (λ (missing : Option (List ℕ)). known_unless missing (KnowsCheck check met.cache (contents met.files) status)) none (its read) in
        subst (λ (fs : List (Option (List ℕ))). KnowsCheck check met.cache (contents fs) status) files all

    proof_is_left : IsProofLeft source its_keys
    proof_is_left =
        let entries = cache_entries met.cache in
        subst (λ (s : Source). IsProofLeft s (keys_by s asks.bytes)) entries_are
        (subst (λ (infer : Bool). IsProofLeft (OfCache entries) (distinct (check_keys infer (pick_of entries) (asks.bytes ∷ [])))) no_infer
        (subst (λ (index : Option ℕ). IfSome index (λ _. IsProofLeft (OfCache entries) (distinct (check_keys (is_some check.infer) (pick_of entries) (asks.bytes ∷ []))))) asks.leaves (known.left few)))

    -- The files that were left, by their names.
    left_are : left_by words met ≡ left_files (Some by) (command_cache words command) source its_keys
    left_are =
        let own = OfCache (cache_entries met.cache) in
        ap (command_left words met) asks.command
        ∙ ap (λ (missing : Option (List ℕ)). left_unless missing (check_left (is_some check.infer) words command met.cache (contents met.files))) none
        ∙ ap (λ (fs : List (Option (List ℕ))). check_left (is_some check.infer) words command met.cache (contents fs)) files
        ∙ ap (λ (infer : Bool). check_left infer words command met.cache (asks.bytes ∷ [])) no_infer
        ∙ ap (λ (found : Option AsmFault). left_where (is_none found && true) (command_proof words command) (command_cache words command) own (keys_by own asks.bytes)) accepted
        ∙ ap (λ (index : Option ℕ). left_files (option_map (word_at words) index) (command_cache words command) own (keys_by own asks.bytes)) asks.leaves
        ∙ ap (λ (s : Source). left_files (Some by) (command_cache words command) s (keys_by s asks.bytes)) entries_are

    has_file : Contains (check_files check) asks.file
    has_file = subst (λ (l : List ℕ). Contains l asks.file) (sym asks.one) (0, omega arith, refl)

    cache_apart : (own : List ℕ) → ((index : ℕ) → check.cache ≡ Some index → own ≢ word_at words index) → command_cache words command ≢ Some own
    cache_apart own apart = by_index check.cache refl
      where
        by_index : (index : Option ℕ) → check.cache ≡ index → option_map (word_at words) index ≢ Some own
        by_index None there = λ same. absurd cc
        by_index (Some index) there = λ same. apart index there (sym (same_Some (word_at words index) own same))

    its_left : AreLeft (named_file (Some by) (proof_left source its_keys) ++ named_file (command_cache words command) (cache_left (entries_in source) its_keys)) (Some held) (Some after)
    its_left = subst (λ (l : List LeftFile). AreLeft l (Some held) (Some after)) left_are left

    name_not_cache : command_cache words command ≢ Some name
    name_not_cache = cache_apart name (λ index there. file_not_cache words check asks.file index asks.command has_file there)

    by_not_cache : command_cache words command ≢ Some by
    by_not_cache = cache_apart by (λ index there. proof_apart words check index asks.proof asks.command there asks.leaves)

    name_not_by : name ≢ by
    name_not_by = file_not_proof words check asks.file asks.proof asks.command has_file asks.leaves

    pub confirmed : (its_met : CallMet) → IsMet (Some after) (file_names other) None its_met → (expected other its_met).status ≢ 7
        → expected other its_met ≡ output_answer status (plain_report words held name asks.bytes)
    confirmed its_met its memory =
        let there = file_kept name by (command_cache words command) (proof_left source its_keys) (cache_left (entries_in source) its_keys) held after name_not_by name_not_cache by_not_cache its_left in
        let proof_is = proof_there name by (command_cache words command) (proof_left source its_keys) (cache_left (entries_in source) its_keys) held after name_not_by name_not_cache by_not_cache its_left in
        verified its_met its accepted (there ∙ asks.is_held) proof_is known.runnable proof_is_left memory
        ∙ ap (λ (n : ℕ). output_answer n (plain_report words held name asks.bytes)) (sym status_is)

-- ---- the clause

pub confirms_reports : (words other : List (List ℕ)) (told now : Option Held) (held after : Held) (met its_met : CallMet) (r : Result ℕ Interrupt) (names : List (List ℕ)) (failed unreplaced : Type 0)
    (out err : Change) → told ≡ Some held → now ≡ Some after → (asks : AsksToConfirm words other held) → IsMet told (file_names words) (cache_name words) met
    → GivesOrFails (expected words met) names failed unreplaced r out err → AnswerLeaves (left_by words met) (expected words met).out r out told now → WordsKnow words met r
    → IsMet (Some after) (file_names other) None its_met → status_of r ≤ 1 → (expected other its_met).status ≢ 7
    → expected other its_met ≡ output_answer (status_of r) (plain_report words held (word_at words asks.file) asks.bytes)
confirms_reports words other told now held after met its_met (Err interrupts.CannotWrite) names failed unreplaced out err told_is now_is asks is gives leaves knows its few memory = absurd (omega (arith, few))
confirms_reports words other told now held after met its_met (Err interrupts.NoMemory) names failed unreplaced out err told_is now_is asks is gives leaves knows its few memory = absurd (omega (arith, few))
confirms_reports words other told now held after met its_met (Ok status) names failed unreplaced out err told_is now_is asks is gives leaves knows its few memory =
    let here = subst (λ (t : Option Held). IsMet t (file_names words) (cache_name words) met) told_is is in
    let read : status ≢ 4 = λ four. omega (arith, four, few) in
    let left = leaves.whole read in
    let told_left = subst (λ (t : Option Held). AreLeft (left_by words met) t now) told_is left in
    let both = subst (λ (n : Option Held). AreLeft (left_by words met) (Some held) n) now_is told_left in
    confirmed words other held after asks status met here few (status_given (expected words met) gives) both knows its_met its memory
  where
    status_given : (x : Answer) → GivesOrFails x names failed unreplaced (Ok status) out err → status ≡ x.status
    status_given x (inl (inl g)) = g.status
    status_given x (inl (inr (f, (k, n, lt, at, g)))) = absurd (omega (arith, g.status, few))
    status_given x (inr (f, g)) = absurd (let never = g.interrupted in cc)
