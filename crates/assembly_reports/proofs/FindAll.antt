-- What is found of one method after another.
use Rattle.std.proofs.Common.{◌≡◌, ℕ, zero, suc, ◌+◌, ◌<◌, ◌≤◌, List, [], ◌∷◌, ◌++◌, length, map, take, Some, None, Result, Ok, Err, slice_get, refl, ap, sym, ◌∙◌, arith}
use Rattle.std.specs.Prelude.{IfOk}
use Rattle.std.specs.List.{AllByRecursion}
use Rattle.asm_image.specs.Faults.{FirstBroken}
use Rattle.std.proofs.lemmas.List.{length-map, map-append}
use Rattle.asm_image.specs.declared.method_row.MethodRow.{MethodRow}
use Rattle.cil_model.specs.declared.clause.Clause.{Clause}
use Rattle.method_unit.specs.Units.{IsUnit}
use Rattle.unit_builder.specs.Outcomes.{IfAnalysed, entries_in, entries_of, outcome_of}
use Rattle.unit_builder.specs.FileSets.{Alone, FileSet}
use Rattle.unit_builder.specs.Scopes.{alone}
use Rattle.unit_builder.specs.declared.entry.MethodEntry.{MethodEntry}
use Rattle.unit_builder.specs.declared.entry.Outcome.{Outcome}
use Rattle.assembly_reports.specs.CheckText.{all_shown, outcome_finding, findings, outcome_shown}
use Rattle.assembly_reports.specs.Reportable.{IsReportable, CanRun, entries_at}
use Rattle.assembly_reports.specs.Findings.{shown_in, finding_in}
use Rattle.assembly_reports.specs.InferredUnits.{all_candidates, entry_by, outcome_candidates}
use Rattle.assembly_reports.specs.declared.finding.Finding.{Finding as Found}
use Rattle.unit_verdicts.specs.Picks.{Manner, Pick}

-- The element at a place is the last of those up to it.
there_next : {X : Type 0} (xs : List X) (n : ℕ) → n < length xs → (x : X) × (slice_get xs n ≡ Some x) × (take (suc n) xs ≡ take n xs ++ x ∷ [])
there_next [] n below = absurd (omega (arith, below))
there_next (x ∷ xs) zero below = (x, refl, refl)
there_next (x ∷ xs) (suc n) below =
    let later = there_next xs n (omega (arith, below)) in
    (later.0, later.1, ap (λ others. x ∷ others) later.2)

pub there : {X : Type 0} (xs : List X) (n : ℕ) → n < length xs → (x : X) × (slice_get xs n ≡ Some x) × (take (n + 1) xs ≡ take n xs ++ x ∷ [])
there xs n below =
    let next = there_next xs n below in
    let one : n + 1 ≡ suc n = omega arith in
    (next.0, next.1, ap (λ m. take m xs) one ∙ next.2)

-- What is told of the first methods, one method later.
told_next : {X : Type 0} (of : MethodRow → Outcome) (tell : Outcome → X) (methods : List MethodRow) (n : ℕ) (method : MethodRow) (told : List X) (one : X)
    → take (n + 1) methods ≡ take n methods ++ method ∷ [] → told ≡ map (λ (e : MethodEntry). tell e.outcome) (map (entry_by of) (take n methods)) → one ≡ tell (of method)
    → told ++ one ∷ [] ≡ map (λ (e : MethodEntry). tell e.outcome) (map (entry_by of) (take (n + 1) methods))
told_next {X} of tell methods n method told one next so_far is =
    let tells : List MethodEntry → List X = λ entries. map (λ (e : MethodEntry). tell e.outcome) entries in
    rw (so_far, is) (sym (ap (λ (l : List MethodRow). tells (map (entry_by of) l)) next ∙ ap tells (map-append (entry_by of) (take n methods) (method ∷ []))
    ∙ map-append (λ (e : MethodEntry). tell e.outcome) (map (entry_by of) (take n methods)) (entry_by of method ∷ [])))

pub found_next : (of : MethodRow → Outcome) (pick : Pick) (methods : List MethodRow) (n : ℕ) (method : MethodRow) (found : List Found) (one : Found)
    → take (n + 1) methods ≡ take n methods ++ method ∷ [] → map finding_in found ≡ findings pick (map (entry_by of) (take n methods))
    → finding_in one ≡ outcome_finding pick (of method)
    → map finding_in (found ++ one ∷ []) ≡ findings pick (map (entry_by of) (take (n + 1) methods))
found_next of pick methods n method found one next so_far is =
    map-append finding_in found (one ∷ []) ∙ told_next of (outcome_finding pick) methods n method (map finding_in found) (finding_in one) next so_far is

pub shown_next : (of : MethodRow → Outcome) (manner : Manner) (methods : List MethodRow) (n : ℕ) (method : MethodRow) (found : List Found) (one : Found)
    → take (n + 1) methods ≡ take n methods ++ method ∷ [] → map shown_in found ≡ all_shown manner (map (entry_by of) (take n methods))
    → shown_in one ≡ outcome_shown manner (of method)
    → map shown_in (found ++ one ∷ []) ≡ all_shown manner (map (entry_by of) (take (n + 1) methods))
shown_next of manner methods n method found one next so_far is =
    map-append shown_in found (one ∷ []) ∙ told_next of (outcome_shown manner) methods n method (map shown_in found) (shown_in one) next so_far is

pub candidates_next : (of : MethodRow → Outcome) (pick : Pick) (methods : List MethodRow) (n : ℕ) (method : MethodRow) (inferred : List (List Clause)) (one : List Clause)
    → take (n + 1) methods ≡ take n methods ++ method ∷ [] → inferred ≡ all_candidates pick (map (entry_by of) (take n methods))
    → one ≡ outcome_candidates pick (of method)
    → inferred ++ one ∷ [] ≡ all_candidates pick (map (entry_by of) (take (n + 1) methods))
candidates_next of pick methods n method inferred one next so_far is = told_next of (outcome_candidates pick) methods n method inferred one next so_far is

abbrev pub AreKnown : (MethodRow → Outcome) → List MethodRow → Type 0
AreKnown of methods = AllByRecursion (λ entry. IfAnalysed entry.outcome IsUnit) (map (entry_by of) methods)

known_push : (of : MethodRow → Outcome) (methods : List MethodRow) (method : MethodRow) → AreKnown of methods → IfAnalysed (of method) IsUnit → AreKnown of (methods ++ method ∷ [])
known_push of [] method known is = (is, tt)
known_push of (first ∷ methods) method known is = (known.0, known_push of methods method known.1 is)

pub known_next : (of : MethodRow → Outcome) (methods : List MethodRow) (n : ℕ) (method : MethodRow) → take (n + 1) methods ≡ take n methods ++ method ∷ [] → AreKnown of (take n methods)
    → IfAnalysed (of method) IsUnit → AreKnown of (take (n + 1) methods)
known_next of methods n method next known is = rw next (known_push of (take n methods) method known is)

pub all_taken : {X : Type 0} (xs : List X) (n : ℕ) → length xs ≤ n → take n xs ≡ xs
all_taken [] zero long = refl
all_taken [] (suc n) long = refl
all_taken (x ∷ xs) zero long = absurd (omega (arith, long))
all_taken (x ∷ xs) (suc n) long = ap (λ others. x ∷ others) (all_taken xs n (omega (arith, long)))

-- There are as many findings as methods.
pub found_few : (of : MethodRow → Outcome) (pick : Pick) (methods : List MethodRow) (found : List Found) → map finding_in found ≡ findings pick (map (entry_by of) methods)
    → length found ≡ length methods
found_few of pick methods found same =
    sym (length-map found finding_in) ∙ ap length same ∙ length-map (map (entry_by of) methods) (λ (e : MethodEntry). outcome_finding pick e.outcome) ∙ length-map methods (entry_by of)

-- The entries of a file alone are those of the assembly.
pub entries_alone : (asm : List ℕ) → entries_in (alone asm) 0 ≡ entries_of asm
unfolding entries_of outcome_of
entries_alone asm = refl

pub entries_of_alone : (files : FileSet) (asm : List ℕ) → files ≡ Alone asm → entries_at files 0 ≡ entries_of asm
entries_of_alone files asm is = ap (λ (f : FileSet). entries_at f 0) is ∙ entries_alone asm

pub reportable_of : {X E : Type 0} (r : Result X E) (asm : List ℕ) → IfOk r (λ _. FirstBroken asm ≡ None) → IfOk r (λ _. CanRun (entries_of asm)) → IfOk r (λ _. IsReportable asm)
reportable_of (Ok x) asm accepted runnable = record { accepted = accepted; runnable = runnable }
reportable_of (Err e) asm accepted runnable = tt
