-- The answers for the assemblies of a check, one after another: what is written, what is begun and what is asked.
use Rattle.std.proofs.Common.{◌≡◌, ◌⊎◌, ℕ, Bool, suc, ◌-◌, ◌<◌, ◌≤◌, max, List, [], ◌∷◌, ◌++◌, take, drop, length, get_or, zip, Vec, Global, Option, Some, None, Result, Ok, Err, if◌then◌else◌, refl, sym, ap, subst, ◌∙◌, append-nil, inl, inr, arith}
use Rattle.std.specs.Prelude.{IsErrOf}
use Rattle.std.specs.List.{flat_map}
use Rattle.std.proofs.Math.Seq.{take-length}
use Rattle.cc_base.specs.Counts.{Rose}
use Rattle.cc_base.specs.Sink.{AppendsPrefix, appended, counted}
use Rattle.cc_base.proofs.CountLemmas.{Kept-Rose, Kept-refl, Kept-trans}
use Rattle.cc_base.proofs.SinkLemmas.{AppendsPrefix-after, AppendsPrefix-more, AppendsPrefix-none, appended-appended, appended-nil}
use Rattle.answer_lines.specs.Answers.{Answer, output_answer, refused_answer}
use Rattle.answer_lines.specs.LineCounts.{line_count}
use Rattle.answer_lines.specs.Outcome.{Gives}
use Rattle.answer_lines.specs.Writing.{Change, Writes}
use Rattle.answer_lines.specs.declared.interrupt.Interrupt.{Interrupt}
use Rattle.answer_lines.specs.declared.interrupt.Interrupt.TheVariants as interrupts
use Rattle.answer_lines.proofs.LineLemmas.{counted-lines, puts_none}
use Rattle.answer_lines.proofs.Writings.{change, gives_output}
use Rattle.assembly_answers.specs.FaultText.{assembly_fault_text}
use Rattle.asm_image.specs.Faults.{FirstBroken}
use Rattle.asm_image.specs.declared.fault.AsmFault.{AsmFault}
use Rattle.command_words.specs.Words.{word_at, words_at}
use Rattle.check_driver.specs.Asked.{check_keys, keys_before}
use Rattle.assembly_reports.specs.JudgedUnits.{asked_for, report_keys, with_judged}
use Rattle.assembly_reports.specs.CheckText.{all_methods_proved, check_text}
use Rattle.check_driver.specs.Expected.{check_answer, checked_before}
use Rattle.check_driver.specs.Checked.{AreBegun, report_of}
use Rattle.assembly_reports.specs.Reportable.{AreRunnable, IsReportable}
use Rattle.check_driver.specs.Known.{AreAllRunnable, RunnableBefore}
use Rattle.check_driver.specs.Met.{bytes_read}
use Rattle.check_driver.specs.NothingOr.{NothingOr}
use Rattle.unit_verdicts.specs.Asked.{Asks}
use Rattle.unit_verdicts.specs.Picks.{Manner, pick_from}
use Rattle.unit_verdicts.specs.VerdictCache.{CachedUnits}
use Rattle.unit_verdicts.specs.declared.source.Source.{Source}

abbrev Keys : Type 0
Keys = List (List ℕ)

-- ---- what is written

-- Where there is no assembly, nothing is.
pub gives_nothing : (o e : Option (List ℕ)) (p q : Option ℕ) (f g : ℕ) → Gives (output_answer 0 []) (Ok 0) (change o o p p f f) (change e e q q g g)
gives_nothing o e p q f g =
    gives_output 0 [] (Ok 0) (change o o p p f f) e q g refl
    (record { whole = sym (appended-nil o); puts = puts_none p; prefix = tt; cause = λ is. absurd cc; kept = Kept-refl f })

-- The answer for the first assembly, and for those after it.
abbrev pub answer_then : List ℕ → ℕ → Answer → Answer
answer_then text status others = record { out = text ++ others.out; err = others.err; status = max status others.status }

pub cannot_write : {X Y : Type 0} (i : Interrupt) → IsErrOf {T = X} (Err i) interrupts.CannotWrite → IsErrOf {T = Y} (Err i) interrupts.CannotWrite
cannot_write interrupts.CannotWrite is = refl
cannot_write interrupts.NoMemory is = absurd cc

-- The report of the first was interrupted.
pub gives_stop : {X : Type 0} (text : List ℕ) (status : ℕ) (others : Answer) (i : Interrupt) (out : Change) (e : Option (List ℕ)) (q : Option ℕ) (g : ℕ)
    → Writes {X = X} (Err i) out text → Gives (answer_then text status others) (Err i) out (change e e q q g g)
gives_stop {X} text status others i out e q g w = record {
  status = tt;
  out_all = tt;
  err_all = tt;
  out_puts = tt;
  err_puts = tt;
  out_prefix = AppendsPrefix-more out.old out.new text others.out w.prefix;
  err_prefix = AppendsPrefix-none e e others.err refl;
  cause = λ is. inl (w.cause (cannot_write {X = ℕ} {Y = X} i is));
  out_kept = w.kept;
  err_kept = Kept-refl g;
}

module _ {X : Type 0} (x : X) (text : List ℕ) (first status : ℕ) (others : Answer) (o0 o1 o2 : Option (List ℕ)) (p0 p1 p2 : Option ℕ) (f0 f1 f2 : ℕ) (err : Change)
    (is_first : status ≡ first) (w : Writes (Ok x) (change o0 o1 p0 p1 f0 f1) text) where
  -- The report of the first was written, and a later one was interrupted.
  pub gives_later_stop : (i : Interrupt) → Gives others (Err i) (change o1 o2 p1 p2 f1 f2) err
      → Gives (answer_then text first others) (Err i) (change o0 o2 p0 p2 f0 f2) err
  gives_later_stop i gives = record {
    status = tt;
    out_all = tt;
    err_all = tt;
    out_puts = tt;
    err_puts = tt;
    out_prefix = AppendsPrefix-after o0 o1 o2 text others.out w.whole gives.out_prefix;
    err_prefix = gives.err_prefix;
    cause = λ is. later_cause (gives.cause is);
    out_kept = Kept-trans f0 f1 f2 w.kept gives.out_kept;
    err_kept = gives.err_kept;
  }
    where
      later_cause : Rose f1 f2 ⊎ Rose err.faults_before err.faults_after → Rose f0 f2 ⊎ Rose err.faults_before err.faults_after
      later_cause (inl rose) = inl (Kept-Rose f0 f1 f2 w.kept rose)
      later_cause (inr rose) = inr rose

  -- All were answered.
  pub gives_both : (later greater : ℕ) → greater ≡ max status later → Gives others (Ok later) (change o1 o2 p1 p2 f1 f2) err
      → Gives (answer_then text first others) (Ok greater) (change o0 o2 p0 p2 f0 f2) err
  gives_both later greater is gives = record {
    status = is ∙ ap (λ (n : ℕ). max n later) is_first ∙ ap (max first) gives.status;
    out_all = gives.out_all ∙ ap (λ (o : Option (List ℕ)). appended o others.out) w.whole ∙ appended-appended o0 text others.out;
    err_all = gives.err_all;
    out_puts = gives.out_puts ∙ ap (λ (p : Option ℕ). counted (line_count others.out) p) w.puts ∙ counted-lines text others.out p0;
    err_puts = gives.err_puts;
    out_prefix = tt;
    err_prefix = tt;
    cause = λ never. absurd cc;
    out_kept = Kept-trans f0 f1 f2 w.kept gives.out_kept;
    err_kept = gives.err_kept;
  }

-- An answer that is equal to one that was given.
pub gives_is : (a b : Answer) (r : Result ℕ Interrupt) (out err : Change) → a ≡ b → Gives b r out err → Gives a r out err
gives_is a b r out err same gives = subst (λ (x : Answer). Gives x r out err) (sym same) gives

-- ---- what is begun

pub begun_none : (infer : Bool) (manner : Manner) (files : List (List ℕ × List ℕ)) (old new : Option (List ℕ)) → new ≡ old → AreBegun infer manner files old new
begun_none infer manner files old new same = record { count = 0; each = tt; prefix = AppendsPrefix-none old new [] same }

-- A prefix of the first report was written.
pub begun_first : (infer : Bool) (manner : Manner) (name bytes : List ℕ) (files : List (List ℕ × List ℕ)) (old new : Option (List ℕ)) → NothingOr old new (IsReportable bytes)
    → AppendsPrefix old new (check_text infer name manner bytes) → AreBegun infer manner ((name, bytes) ∷ files) old new
begun_first infer manner name bytes files old new (inl same) prefix = begun_none infer manner ((name, bytes) ∷ files) old new same
begun_first infer manner name bytes files old new (inr known) prefix =
    record { count = 1; each = (known, tt); prefix = subst (AppendsPrefix old new) (sym (append-nil (check_text infer name manner bytes))) prefix }

-- The first report was written.
pub begun_more : (infer : Bool) (manner : Manner) (name bytes : List ℕ) (files : List (List ℕ × List ℕ)) (old mid new : Option (List ℕ)) → IsReportable bytes
    → mid ≡ appended old (check_text infer name manner bytes) → AreBegun infer manner files mid new → AreBegun infer manner ((name, bytes) ∷ files) old new
begun_more infer manner name bytes files old mid new known whole later = record {
  count = suc later.count;
  each = (known, later.each);
  prefix = AppendsPrefix-after old mid new (check_text infer name manner bytes) (flat_map (report_of infer manner) (take later.count files)) whole later.prefix;
}

-- ---- what is asked and judged

pub asks_is : {X E : Type 0} (cache : CachedUnits) (a b : Keys) (r : Result X E) (old new : Keys) → a ≡ b → Asks (asked_for cache b) r old new → Asks (asked_for cache a) r old new
asks_is cache a b r old new same asks = subst (λ (keys : Keys). Asks (asked_for cache keys) r old new) (sym same) asks

-- What is asked for later files, and what is judged, told of the pick that was there before the first.
module _ (infer : Bool) (old mid : CachedUnits) (first : Keys) (files : List (List ℕ)) where
  abbrev later_keys : Source → Keys
  later_keys held = check_keys infer (pick_from held) files

  held_same : mid ≡ with_judged old first → mid.held ≡ old.held
  held_same is = ap (λ (cache : CachedUnits). cache.held) is

  pub asks_for_later : {X E : Type 0} (r : Result X E) (before new : Keys) → mid ≡ with_judged old first → Asks (asked_for mid (later_keys mid.held)) r before new
      → Asks (asked_for mid (later_keys old.held)) r before new
  asks_for_later r before new is asks = subst (λ (held : Source). Asks (asked_for mid (later_keys held)) r before new) (held_same is) asks

  pub judged_for_later : (new : CachedUnits) → mid ≡ with_judged old first → new ≡ with_judged mid (later_keys mid.held) → new ≡ with_judged mid (later_keys old.held)
  judged_for_later new is judged = subst (λ (held : Source). new ≡ with_judged mid (later_keys held)) (held_same is) judged

-- ---- the files

pub no_file : (read : List (Vec ℕ Global)) → length read < 1 → bytes_read read ≡ []
no_file [] none = refl
no_file (bytes ∷ read) none = absurd (omega (arith, none))

pub no_runnable : (read : List (Vec ℕ Global)) → length read < 1 → AreAllRunnable (bytes_read read)
no_runnable read none = subst AreAllRunnable (sym (no_file read none)) tt

-- Where no word names a file, the answer is that for none.
pub no_answer : (infer : Bool) (manner : Manner) (words : List (List ℕ)) (indexes : List ℕ) (files : List (List ℕ)) → length indexes < 1 → check_answer infer manner (words_at words indexes) files ≡ output_answer 0 []
no_answer infer manner words [] files none = refl
no_answer infer manner words (index ∷ indexes) files none = absurd (omega (arith, none))

-- What stands behind the first element.
abbrev pub rest_of : {X : Type 0} → List X → List X
rest_of all = take (length all - 1) (drop 1 all)

pub parts_of : {X : Type 0} (all : List X) (first d : X) → 1 ≤ length all → get_or all 0 d ≡ first → all ≡ first ∷ rest_of all
parts_of [] first d some is = absurd (omega (arith, some))
parts_of {X} (x ∷ rest) first d some is =
    let many : length rest ≡ length (x ∷ rest) - 1 = omega arith in
    ap (λ (y : X). y ∷ rest) is ∙ ap (λ (others : List X). first ∷ others) (sym (take-length rest) ∙ ap (λ (k : ℕ). take k rest) many)

-- The first file of a check has this name and these bytes.
pub record IsFirst (words : List (List ℕ)) (indexes : List ℕ) (read : List (Vec ℕ Global)) (name file : List ℕ) : Type 0 where
  pub names : words_at words indexes ≡ name ∷ words_at words (rest_of indexes)
  pub bytes : bytes_read read ≡ file ∷ bytes_read (rest_of read)

pub first_is : (words : List (List ℕ)) (indexes : List ℕ) (read : List (Vec ℕ Global)) (name file : List ℕ) (index : ℕ) (bytes : Vec ℕ Global) → 1 ≤ length indexes → 1 ≤ length read
    → get_or indexes 0 0 ≡ index → bytes ≡ get_or read 0 bytes → name ≡ word_at words index → file ≡ bytes.items → IsFirst words indexes read name file
first_is words indexes read name file index bytes some some_read at is named same = record {
  names = ap (words_at words) (parts_of indexes index 0 some at) ∙ ap (λ (n : List ℕ). n ∷ words_at words (rest_of indexes)) (sym named);
  bytes = ap bytes_read (parts_of read bytes bytes some_read (sym is)) ∙ ap (λ (b : List ℕ). b ∷ bytes_read (rest_of read)) (sym same);
}

module _ (infer : Bool) (manner : Manner) (words : List (List ℕ)) (indexes : List ℕ) (read : List (Vec ℕ Global)) (name file : List ℕ) (is : IsFirst words indexes read name file) where
  abbrev pub others_answer : Answer
  others_answer = check_answer infer manner (words_at words (rest_of indexes)) (bytes_read (rest_of read))

  answer_is : (fault : Option AsmFault) → FirstBroken file ≡ fault
      → check_answer infer manner (words_at words indexes) (bytes_read read) ≡ checked_before infer name manner file fault others_answer
  answer_is fault first =
      ap (λ (names : List (List ℕ)). check_answer infer manner names (bytes_read read)) is.names
      ∙ ap (check_answer infer manner (name ∷ words_at words (rest_of indexes))) is.bytes
      ∙ ap (λ (found : Option AsmFault). checked_before infer name manner file found others_answer) first

  pub answer_of_first : FirstBroken file ≡ None
      → check_answer infer manner (words_at words indexes) (bytes_read read) ≡ answer_then (check_text infer name manner file) (if all_methods_proved infer manner.pick file then 0 else 1) others_answer
  answer_of_first accepted = answer_is None accepted

  pub answer_refused : (fault : AsmFault) → FirstBroken file ≡ Some fault
      → check_answer infer manner (words_at words indexes) (bytes_read read) ≡ refused_answer name (assembly_fault_text fault.cause) fault.at
  answer_refused fault first = answer_is (Some fault) first

  keys_are : (fault : Option AsmFault) → FirstBroken file ≡ fault → check_keys infer manner.pick (bytes_read read) ≡ keys_before infer manner.pick file fault (check_keys infer manner.pick (bytes_read (rest_of read)))
  keys_are fault first = ap (check_keys infer manner.pick) is.bytes ∙ ap (λ (found : Option AsmFault). keys_before infer manner.pick file found (check_keys infer manner.pick (bytes_read (rest_of read)))) first

  pub keys_of_first : FirstBroken file ≡ None → check_keys infer manner.pick (bytes_read read) ≡ report_keys infer manner.pick file ++ check_keys infer manner.pick (bytes_read (rest_of read))
  keys_of_first accepted = keys_are None accepted

  pub no_keys : (fault : AsmFault) → FirstBroken file ≡ Some fault → check_keys infer manner.pick (bytes_read read) ≡ []
  no_keys fault first = keys_are (Some fault) first

  -- The units of this file can be run, and those of the files after it; or it is refused.
  runnable_is : (fault : Option AsmFault) → FirstBroken file ≡ fault → RunnableBefore file fault (AreAllRunnable (bytes_read (rest_of read))) → AreAllRunnable (bytes_read read)
  runnable_is fault first known =
      subst AreAllRunnable (sym is.bytes)
      (subst (λ (found : Option AsmFault). RunnableBefore file found (AreAllRunnable (bytes_read (rest_of read)))) (sym first) known)

  pub runnable_of_first : FirstBroken file ≡ None → AreRunnable file → AreAllRunnable (bytes_read (rest_of read)) → AreAllRunnable (bytes_read read)
  runnable_of_first accepted own later = runnable_is None accepted (own, later)

  pub runnable_refused : (fault : AsmFault) → FirstBroken file ≡ Some fault → AreAllRunnable (bytes_read read)
  runnable_refused fault first = runnable_is (Some fault) first tt

  -- What was begun of this file and of those after it was begun of all.
  pub begun_of_first : (old new : Option (List ℕ)) → AreBegun infer manner ((name, file) ∷ zip (words_at words (rest_of indexes)) (bytes_read (rest_of read))) old new
      → AreBegun infer manner (zip (words_at words indexes) (bytes_read read)) old new
  begun_of_first old new begun =
      subst (λ (files : List (List ℕ × List ℕ)). AreBegun infer manner files old new)
      (sym (ap (λ (names : List (List ℕ)). zip names (bytes_read read)) is.names ∙ ap (zip (name ∷ words_at words (rest_of indexes))) is.bytes)) begun
