-- The first of linked files that is refused.
use Rattle.std.proofs.Common.{◌≡◌, ℕ, zero, suc, ◌+◌, ◌<◌, ◌≤◌, ◌&&◌, List, [], ◌∷◌, length, take, get_or, Vec, Global, Option, Some, None, is_none, unwrap_or, refl, sym, ap, ◌∙◌, arith, inl, inr, length-take}
use Rattle.asm_image.specs.Faults.{FirstBroken}
use Rattle.asm_image.specs.declared.fault.AsmFault.{AsmFault}
use Rattle.assembly_answers.proofs.CutFiles.{large_first}
use Rattle.cc_base.specs.Files.{READ_LIMIT}
use Rattle.answer_lines.specs.Answers.{Answer}
use Rattle.std.proofs.lemmas.Bool.{cases_lt}
use Rattle.std.proofs.lemmas.List.{take_all}
use Rattle.std.proofs.lemmas.Option.{same_Some}
use Rattle.check_driver.specs.Asked.{keys_unless}
use Rattle.check_driver.specs.FilesLeft.{are_accepted}
use Rattle.check_driver.specs.LinkedReports.{RefusedFile, first_of_both, first_refused, refused_or}
use Rattle.check_driver.specs.Met.{AreContents, IsContent, bytes_read, contents}
use Rattle.check_driver.proofs.Contents.{file_alike}

-- ---- one after another

-- Where none is refused, the first is not, and none of the others is.
pub none_of_both : (fault : Option AsmFault) (later : Option RefusedFile) → first_of_both fault later ≡ None → (fault ≡ None) × (later ≡ None)
none_of_both (Some fault) later is = absurd cc
none_of_both None None is = (refl, refl)
none_of_both None (Some refused) is = absurd cc

-- The file behind some that are accepted is refused, or it is accepted too.
pub refused_at : (files : List (List ℕ)) (n : ℕ) (bytes : List ℕ) (fault : AsmFault) → first_refused (take n files) ≡ None → n < length files → get_or files n [] ≡ bytes → FirstBroken bytes ≡ Some fault
    → first_refused files ≡ Some (n, fault)
refused_at [] n bytes fault before lt at first = absurd (omega (arith, lt))
refused_at (file ∷ files) zero bytes fault before lt at first =
    ap (λ (found : Option AsmFault). first_of_both found (first_refused files)) (ap FirstBroken at ∙ first)
refused_at (file ∷ files) (suc n) bytes fault before lt at first =
    let parts = none_of_both (FirstBroken file) (first_refused (take n files)) before in
    ap (λ (found : Option AsmFault). first_of_both found (first_refused files)) parts.0
    ∙ ap (λ (later : Option RefusedFile). first_of_both None later) (refused_at files n bytes fault parts.1 (omega (arith, lt)) at first)

accepted_next : (files : List (List ℕ)) (n : ℕ) (bytes : List ℕ) → first_refused (take n files) ≡ None → n < length files → get_or files n [] ≡ bytes → FirstBroken bytes ≡ None
    → first_refused (take (suc n) files) ≡ None
accepted_next [] n bytes before lt at first = absurd (omega (arith, lt))
accepted_next (file ∷ files) zero bytes before lt at first =
    ap (λ (found : Option AsmFault). first_of_both found None) (ap FirstBroken at ∙ first)
accepted_next (file ∷ files) (suc n) bytes before lt at first =
    let parts = none_of_both (FirstBroken file) (first_refused (take n files)) before in
    ap (λ (found : Option AsmFault). first_of_both found (first_refused (take (suc n) files))) parts.0
    ∙ ap (λ (later : Option RefusedFile). first_of_both None later) (accepted_next files n bytes parts.1 (omega (arith, lt)) at first)

pub accepted_more : (files : List (List ℕ)) (n : ℕ) (bytes : List ℕ) → first_refused (take n files) ≡ None → n < length files → get_or files n [] ≡ bytes → FirstBroken bytes ≡ None
    → first_refused (take (n + 1) files) ≡ None
accepted_more files n bytes before lt at first =
    let one : n + 1 ≡ suc n = omega arith in ap (λ (m : ℕ). first_refused (take m files)) one ∙ accepted_next files n bytes before lt at first

-- One that is refused is one of the files.
pub refused_inside : (files : List (List ℕ)) (file : ℕ) (fault : AsmFault) → first_refused files ≡ Some (file, fault) → file < length files
refused_inside [] file fault is = absurd cc
refused_inside (bytes ∷ files) file fault is = by (FirstBroken bytes) (first_refused files) refl is (λ at other same. refused_inside files at other same)
  where
    number : Option RefusedFile → ℕ
    number None = 0
    number (Some refused) = refused.0

    by : (first : Option AsmFault) (later : Option RefusedFile) → first_refused files ≡ later → first_of_both first later ≡ Some (file, fault)
        → ((at : ℕ) (other : AsmFault) → first_refused files ≡ Some (at, other) → at < length files) → file < length (bytes ∷ files)
    by (Some other) later same is inside = let zero_is : 0 ≡ file = ap number is in omega (arith, zero_is)
    by None None same is inside = absurd cc
    by None (Some refused) same is inside =
        let next : suc refused.0 ≡ file = ap number is in
        let within = inside refused.0 refused.1 same in omega (arith, next, within)

-- ---- whether all are accepted

pub all_accepted : (files : List (List ℕ)) → are_accepted files ≡ is_none (first_refused files)
all_accepted [] = refl
all_accepted (bytes ∷ files) = by (FirstBroken bytes) (first_refused files) (all_accepted files)
  where
    by : (first : Option AsmFault) (later : Option RefusedFile) → are_accepted files ≡ is_none later → (is_none first && are_accepted files) ≡ is_none (first_of_both first later)
    by (Some fault) later same = refl
    by None None same = same
    by None (Some refused) same = same

-- ---- files that a read cut off

refused_cut : (later : Option RefusedFile) (bytes : List ℕ) (limit : ℕ) → limit ≡ READ_LIMIT → READ_LIMIT ≤ length bytes
    → first_of_both (FirstBroken bytes) later ≡ first_of_both (FirstBroken (take limit bytes)) later
refused_cut later bytes limit is past =
    let whole = large_first bytes past in
    let cut = large_first (take limit bytes) (omega (arith, length-take limit bytes)) in
    rw (whole, cut) refl

-- What was read is refused as what is met.
pub refused_alike : (met : List (Option (List ℕ))) (read : List (Vec ℕ Global)) → AreContents met read → first_refused (contents met) ≡ first_refused (bytes_read read)
refused_alike [] [] h = refl
refused_alike (under ∷ met) (bytes ∷ read) h =
    let whole = unwrap_or under [] in
    ap (first_of_both (FirstBroken whole)) (refused_alike met read h.1)
    ∙ file_alike (λ b. first_of_both (FirstBroken b) (first_refused (bytes_read read))) under bytes.items
    (λ b past. refused_cut (first_refused (bytes_read read)) b READ_LIMIT refl past) h.0
refused_alike [] (bytes ∷ read) h = absurd h
refused_alike (under ∷ met) [] h = absurd h

-- An assembly that is accepted was not cut.
whole_same : (whole bytes : List ℕ) (limit : ℕ) → limit ≡ READ_LIMIT → take limit whole ≡ bytes → FirstBroken whole ≡ None → bytes ≡ whole
whole_same whole bytes limit is cut accepted =
    elim (cases_lt (length whole) limit) [
      | inl lt ↦ sym cut ∙ take_all limit whole (omega arith)
      | inr ge ↦ absurd (let both = sym accepted ∙ large_first whole (omega (arith, is, ge)) in cc)
    ]

pub read_same : (whole bytes : List ℕ) → IsContent (Some whole) bytes → FirstBroken whole ≡ None → bytes ≡ whole
read_same whole bytes (inl is) accepted = sym (same_Some whole bytes is)
read_same whole bytes (inr cut) accepted = whole_same whole bytes READ_LIMIT refl (same_Some (take READ_LIMIT whole) bytes cut) accepted

-- Where none of linked files is refused, what was read is what is met.
pub contents_same : (met : List (Option (List ℕ))) (read : List (Vec ℕ Global)) → AreContents met read → first_refused (contents met) ≡ None → bytes_read read ≡ contents met
contents_same [] [] h none = refl
contents_same (Some whole ∷ met) (bytes ∷ read) (content, others) none =
    let parts = none_of_both (FirstBroken whole) (first_refused (contents met)) none in
    ap (λ (b : List ℕ). b ∷ bytes_read read) (read_same whole bytes.items content parts.0) ∙ ap (λ (files : List (List ℕ)). whole ∷ files) (contents_same met read others parts.1)
contents_same (None ∷ met) (bytes ∷ read) (inl is, others) none = absurd cc
contents_same (None ∷ met) (bytes ∷ read) (inr is, others) none = absurd cc
contents_same [] (bytes ∷ read) h none = absurd h
contents_same (under ∷ met) [] h none = absurd h

-- What comes of linked files where none is refused is the same of what was read.
pub refused_or_same : (answer : List (List ℕ) → Answer) (names : List (List ℕ)) (a b : Option RefusedFile) (met read : List (List ℕ)) → a ≡ b → (a ≡ None → read ≡ met)
    → refused_or names a (answer met) ≡ refused_or names b (answer read)
refused_or_same answer names None b met read same whole =
    ap answer (sym (whole refl)) ∙ ap (λ (refused : Option RefusedFile). refused_or names refused (answer read)) same
refused_or_same answer names (Some refused) b met read same whole = ap (λ (found : Option RefusedFile). refused_or names found (answer read)) same

pub keys_unless_same : (keys : List (List ℕ) → List (List ℕ)) (a b : Option RefusedFile) (met read : List (List ℕ)) → a ≡ b → (a ≡ None → read ≡ met)
    → keys_unless a (keys met) ≡ keys_unless b (keys read)
keys_unless_same keys None b met read same whole = ap keys (sym (whole refl)) ∙ ap (λ (refused : Option RefusedFile). keys_unless refused (keys read)) same
keys_unless_same keys (Some refused) b met read same whole = ap (λ (found : Option RefusedFile). keys_unless found (keys read)) same
