-- Bytes that were cut off past the limit of a read have the answers of the whole.
use Rattle.std.proofs.Common.{◌≡◌, ℕ, ◌≤◌, List, length, take, Some, length-take, refl, arith}
use Rattle.std.proofs.lemmas.Bool.{lt-leb}
use Rattle.asm_image.specs.Faults.{FirstBroken, assembly_tests, file_tests, large_test}
use Rattle.asm_image.specs.declared.fault.Cause.TheVariants as causes
use Rattle.cc_base.specs.Files.{READ_LIMIT}
use Rattle.cc_base.specs.Tests.{first_of}
use Rattle.cil_model.specs.Limits.{MAX_FILE_BYTES}
use Rattle.answer_lines.specs.Answers.{Answer}
use Rattle.assembly_answers.specs.Answers.{il_answer, list_answer, refute_file_answer, run_file_answer}

-- An assembly past the limit has that fault first.
pub large_first : (bytes : List ℕ) → READ_LIMIT ≤ length bytes → FirstBroken bytes ≡ Some (record { at = MAX_FILE_BYTES; cause = causes.Large })
unfolding FirstBroken assembly_tests file_tests large_test first_of
large_first bytes past = rw (lt-leb (length bytes) MAX_FILE_BYTES (omega (arith, past))) refl

abbrev pub list_file_answer : List ℕ → List ℕ → Answer
list_file_answer name bytes = list_answer name bytes (FirstBroken bytes)

pub list_cut : (name bytes : List ℕ) (limit : ℕ) → limit ≡ READ_LIMIT → READ_LIMIT ≤ length bytes → list_file_answer name bytes ≡ list_file_answer name (take limit bytes)
list_cut name bytes limit is past =
    let whole = large_first bytes past in
    let cut = large_first (take limit bytes) (omega (arith, length-take limit bytes)) in
    rw (whole, cut) refl

abbrev pub il_file_answer : List ℕ → List ℕ → List ℕ → Answer
il_file_answer name method bytes = il_answer name method bytes (FirstBroken bytes)

pub il_cut : (name method bytes : List ℕ) (limit : ℕ) → limit ≡ READ_LIMIT → READ_LIMIT ≤ length bytes
    → il_file_answer name method bytes ≡ il_file_answer name method (take limit bytes)
il_cut name method bytes limit is past =
    let whole = large_first bytes past in
    let cut = large_first (take limit bytes) (omega (arith, length-take limit bytes)) in
    rw (whole, cut) refl

abbrev pub run_bytes_answer : List ℕ → List ℕ → List (List ℕ) → ℕ → List ℕ → Answer
run_bytes_answer name method args steps bytes = run_file_answer name method args steps bytes (FirstBroken bytes)

pub run_cut : (name method : List ℕ) (args : List (List ℕ)) (steps : ℕ) (bytes : List ℕ) (limit : ℕ) → limit ≡ READ_LIMIT → READ_LIMIT ≤ length bytes
    → run_bytes_answer name method args steps bytes ≡ run_bytes_answer name method args steps (take limit bytes)
run_cut name method args steps bytes limit is past =
    let whole = large_first bytes past in
    let cut = large_first (take limit bytes) (omega (arith, length-take limit bytes)) in
    rw (whole, cut) refl

abbrev pub refute_bytes_answer : List ℕ → List ℕ → ℕ → List ℕ → Answer
refute_bytes_answer name method runs bytes = refute_file_answer name method runs bytes (FirstBroken bytes)

pub refute_cut : (name method : List ℕ) (runs : ℕ) (bytes : List ℕ) (limit : ℕ) → limit ≡ READ_LIMIT → READ_LIMIT ≤ length bytes
    → refute_bytes_answer name method runs bytes ≡ refute_bytes_answer name method runs (take limit bytes)
refute_cut name method runs bytes limit is past =
    let whole = large_first bytes past in
    let cut = large_first (take limit bytes) (omega (arith, length-take limit bytes)) in
    rw (whole, cut) refl
