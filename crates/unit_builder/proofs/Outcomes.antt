-- What comes of a method, by its tests.
use Rattle.std.proofs.Common.{◌≡◌, ℕ, zero, suc, ◌+◌, ◌≤◌, List, [], ◌∷◌, ◌++◌, arith, length, map, take, sym, ap, subst, ◌∙◌}
use Rattle.std.proofs.lemmas.List.{map-append, take_all}
use Rattle.asm_image.specs.Rows.{methods_of}
use Rattle.std.specs.List.{AllByRecursion, range_with_len}
use Rattle.unit_builder.specs.Linked.{linked, linked_entries}
use Rattle.unit_builder.specs.Scopes.{Scope}
use Rattle.unit_builder.specs.declared.entry.MethodEntry.{MethodEntry}
use Rattle.std.specs.Prelude.{Some, None}
use Rattle.asm_image.specs.declared.method_row.MethodRow.{MethodRow}
use Rattle.cc_base.specs.Tests.{first_of}
use Rattle.cil_model.specs.declared.unit.Unit.{Unit as MethodUnit}
use Rattle.unit_builder.specs.Making.{IsMade}
use Rattle.unit_builder.specs.Outcomes.{entries_in, entries_of, entry_in, entry_of, outcome_by, outcome_in, unit_of}
use Rattle.unit_builder.specs.Reasons.{reason_tests}
use Rattle.unit_builder.specs.declared.entry.Outcome.TheVariants.{Analysed, Skipped}
use Rattle.unit_builder.specs.declared.reason.Reason.{Reason}

pub is_analysed : (s : Scope) (method : MethodRow) (unit : MethodUnit) → first_of (reason_tests s method) ≡ None → IsMade s method unit → Analysed unit ≡ outcome_in s method
unfolding outcome_in
is_analysed s method unit none made = ap Analysed made.same ∙ sym (ap (λ first. outcome_by first (unit_of s method)) none)

pub is_skipped : (s : Scope) (method : MethodRow) (reason : Reason) → first_of (reason_tests s method) ≡ Some reason → Skipped reason ≡ outcome_in s method
unfolding outcome_in
is_skipped s method reason some = sym (ap (λ first. outcome_by first (unit_of s method)) some)

-- The entries of all methods.
pub all_entries : (asm : List ℕ) (count : ℕ) (entries : List MethodEntry) → entries ≡ map (entry_of asm) (take count (methods_of asm)) → length (methods_of asm) ≤ count → entries ≡ entries_of asm
unfolding entries_of
all_entries asm count entries are end = are ∙ ap (map (entry_of asm)) (take_all count (methods_of asm) end)

pub file_entries : (s : Scope) (methods : List MethodRow) (count : ℕ) (entries : List MethodEntry) → methods ≡ methods_of s.asm → entries ≡ map (entry_in s) (take count (methods_of s.asm))
    → length methods ≤ count → entries ≡ map (entry_in s) (methods_of s.asm)
file_entries s methods count entries same are end = are ∙ ap (map (entry_in s)) (take_all count (methods_of s.asm) (subst (λ (ms : List MethodRow). length ms ≤ count) same end))

-- The entries of all files.
pub linked_whole : (files : List (List ℕ)) (count : ℕ) (entries : List (List MethodEntry)) → entries ≡ map (entries_in (linked files)) (range_with_len 0 count) → count ≡ length files
    → entries ≡ linked_entries files
unfolding linked_entries
linked_whole files count entries are end = are ∙ ap (λ (n : ℕ). map (entries_in (linked files)) (range_with_len 0 n)) end

range_more : (i n : ℕ) → range_with_len i (suc n) ≡ range_with_len i n ++ (i + n) ∷ []
range_more i zero = let e : i ≡ i + 0 = omega arith in ap (λ (k : ℕ). k ∷ []) e
range_more i (suc n) =
    let there : (i + 1) + n ≡ i + suc n = omega arith in
    ap (λ (rows : List ℕ). i ∷ rows) (range_more (i + 1) n ∙ ap (λ (k : ℕ). range_with_len (i + 1) n ++ k ∷ []) there)

-- The entries of one file more.
pub linked_more : (files : List (List ℕ)) (index file : ℕ) (entries : List MethodEntry) (old new : List (List MethodEntry)) → old ≡ map (entries_in (linked files)) (range_with_len 0 index)
    → file ≡ index → entries ≡ entries_in (linked files) file → new ≡ old ++ entries ∷ [] → new ≡ map (entries_in (linked files)) (range_with_len 0 (index + 1))
linked_more files index file entries old new old_is same is more =
    let on : suc index ≡ index + 1 = omega arith in
    let zero_more : index ≡ 0 + index = omega arith in
    more ∙ ap (λ (es : List (List MethodEntry)). es ++ entries ∷ []) old_is
    ∙ ap (λ (e : List MethodEntry). map (entries_in (linked files)) (range_with_len 0 index) ++ e ∷ []) (is ∙ ap (entries_in (linked files)) (same ∙ zero_more))
    ∙ sym (map-append (entries_in (linked files)) (range_with_len 0 index) ((0 + index) ∷ []))
    ∙ ap (map (entries_in (linked files))) (sym (range_more 0 index) ∙ ap (range_with_len 0) on)

-- What is so of each, and of one that comes behind them.
pub each_pushed : {X : Type 0} (P : X → Type 0) (xs new : List X) (x : X) → AllByRecursion P xs → P x → new ≡ xs ++ x ∷ [] → AllByRecursion P new
each_pushed {X} P xs new x all here is = subst (AllByRecursion P) (sym is) (behind xs all)
  where
    behind : (ys : List X) → AllByRecursion P ys → AllByRecursion P (ys ++ x ∷ [])
    behind [] all = (here, tt)
    behind (y ∷ ys) all = (all.0, behind ys all.1)
