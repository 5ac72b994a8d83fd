-- The code of a clause, from one index up to another.
use Rattle.std.proofs.Common.{◌≡◌, ℕ, zero, suc, ◌+◌, ◌-◌, ◌<◌, ◌≤◌, ◌==◌, true, false, List, [], ◌∷◌, length, take, drop, get_or, Option, Some, option_map, slice_get, refl, sym, ap, cond, ◌∙◌, arith, inl, inr}
use Rattle.std.specs.List.{AllByRecursion}
use Rattle.std.specs.Option.{option_map_or}
use Rattle.std.proofs.lemmas.Bool.{eq-eqb, ne_eqb, cases_eq}
use Rattle.std.proofs.lemmas.List.{length-drop, length-take}
use Rattle.std.proofs.lemmas.Option.{get_or_from_slice_get, slice_get-get_or, none-some, same_Some, slice_get_within}
use Rattle.cil_model.specs.Offsets.{RiseFrom}
use Rattle.cil_model.specs.Runs.{instr_at}
use Rattle.cil_model.specs.declared.instruction.Instr.{Instr}
use Rattle.cil_model.specs.declared.shape.Shape.{Shape}
use Rattle.cil_model.proofs.OffsetSearch.{rise_at}
use Rattle.clause_faults.specs.ClauseLies.{IsClauseCode, IsClauseIn, clause_faults, code_between}
use Rattle.clause_faults.specs.Faults.{code_faults, first_fault}
use Rattle.clause_faults.proofs.WayLemmas.Lying.{rise_drop, rise_take, rises}
use Rattle.clause_faults.proofs.WayLemmas.Walks.{none_below}

-- The offsets at two indexes.
not_falling : (is : List Instr) (j k : ℕ) (x y : Instr) → RiseFrom 0 is → j ≤ k → slice_get is j ≡ Some x → slice_get is k ≡ Some y → x.at ≤ y.at
not_falling is j k x y rise le here there =
    let ex = get_or_from_slice_get is j x x here in
    let ey = get_or_from_slice_get is k y x there in
    elim (cases_eq j k) [
      | inl e ↦ (let same : x ≡ y = sym ex ∙ ap (λ (n : ℕ). get_or is n x) e ∙ ey in let at : x.at ≡ y.at = ap (λ (i : Instr). i.at) same in omega arith)
      | inr other ↦
          (let h = rise_at 0 is j k x rise (omega arith) (slice_get_within is k y there) in
          let ax : (get_or is j x).at ≡ x.at = ap (λ (i : Instr). i.at) ex in let ay : (get_or is k x).at ≡ y.at = ap (λ (i : Instr). i.at) ey in omega arith)
    ]

pub from_drop : (is : List Instr) (first k : ℕ) → slice_get is (first + k) ≡ slice_get (drop first is) k
from_drop is zero k = let e : 0 + k ≡ k = omega arith in rw e refl
from_drop [] (suc first) k = refl
from_drop (i ∷ is) (suc first) k = let e : suc first + k ≡ suc (first + k) = omega arith in rw e (from_drop is first k)

from_take : (n : ℕ) (is : List Instr) (k : ℕ) → k < length (take n is) → slice_get is k ≡ slice_get (take n is) k
from_take zero is k within = absurd (omega arith)
from_take (suc n) [] k within = refl
from_take (suc n) (i ∷ is) zero within = refl
from_take (suc n) (i ∷ is) (suc k) within = from_take n is k (omega arith)

all_by_index : (P : Instr → Type 0) (xs : List Instr) → ((k : ℕ) (x : Instr) → slice_get xs k ≡ Some x → P x) → AllByRecursion P xs
all_by_index P [] each = tt
all_by_index P (x ∷ xs) each = (each 0 x refl, all_by_index P xs (λ k y e. each (suc k) y e))

-- What stands at an offset of the part stands there in the whole.

skipped : (low : ℕ) (is : List Instr) (first : ℕ) (i : Instr) (at : ℕ) → RiseFrom low is → slice_get is first ≡ Some i → i.at ≤ at → instr_at is at ≡ instr_at (drop first is) at
skipped low is zero i at rise there above = refl
skipped low [] (suc first) i at rise there above = refl
skipped low (j ∷ is) (suc first) i at rise there above =
    let h = above_low (suc j.at) is first i rise.1 there in
    let test : (j.at == at) ≡ false = ne_eqb j.at at (λ e. omega arith) in
    rw test (skipped (suc j.at) is first i at rise.1 there above)
  where
    above_low : (low : ℕ) (is : List Instr) (k : ℕ) (i : Instr) → RiseFrom low is → slice_get is k ≡ Some i → low ≤ i.at
    above_low low [] k i rise there = absurd (none-some i there)
    above_low low (j ∷ is) zero i rise there = let e : j.at ≡ i.at = ap (λ (x : Instr). x.at) (same_Some j i there) in let h = rise.0 in omega arith
    above_low low (j ∷ is) (suc k) i rise there = let h = above_low (suc j.at) is k i rise.1 there in let g = rise.0 in omega arith

cut : (low : ℕ) (is : List Instr) (p : ℕ) (closing : Instr) (at : ℕ) → RiseFrom low is → slice_get is p ≡ Some closing → at ≤ closing.at
    → instr_at is at ≡ instr_at (take (suc p) is) at
cut low [] p closing at rise there below = refl
cut low (j ∷ is) zero closing at rise there below =
    let e : j.at ≡ closing.at = ap (λ (x : Instr). x.at) (same_Some j closing there) in
    elim (cases_eq j.at at) [
      | inl same ↦ (let test : (j.at == at) ≡ true = eq-eqb j.at at same in rw test refl)
      | inr other ↦ (let test : (j.at == at) ≡ false = ne_eqb j.at at other in rw test (none_below (suc j.at) at is rise.1 (omega arith)))
    ]
cut low (j ∷ is) (suc p) closing at rise there below =
    ap (λ (found : Option Instr). cond (j.at == at) (Some j) found) (cut (suc j.at) is p closing at rise.1 there below)

first_taken : (n : ℕ) (xs : List Instr) (x : Instr) → slice_get xs 0 ≡ Some x → slice_get (take (suc n) xs) 0 ≡ Some x
first_taken n [] x there = there
first_taken n (y ∷ xs) x there = there

pub clause_in : (is : List Instr) (first last : ℕ) (i closing : Instr) → IsClauseCode is first last → slice_get is first ≡ Some i → slice_get is last ≡ Some closing
    → IsClauseIn is first i.at closing (code_between is first last)
clause_in is first last i closing clause here there =
    let rise = rises is clause.lie in
    let p = last - first in
    let m : last + 1 - first ≡ suc p = (let le = clause.some in omega arith) in
    let dropped = drop first is in
    let code = take (last + 1 - first) dropped in
    let end : first + p ≡ last = (let le = clause.some in omega arith) in
    let there_p : slice_get dropped p ≡ Some closing = sym (from_drop is first p) ∙ ap (slice_get is) end ∙ there in
    let part : (k : ℕ) → k < length code → slice_get is (first + k) ≡ slice_get code k = λ k within. from_drop is first k ∙ from_take (last + 1 - first) dropped k within in
    let count : length code ≤ suc p = omega (arith, length-take (last + 1 - first) dropped) in
    record {
      lies = record { lie = clause.lie; rise = rise_take (last + 1 - first) 0 dropped (rise_drop first 0 is rise); there = part };
      begins = ap (option_map (λ (j : Instr). j.at))
          (ap (λ (n : ℕ). slice_get (take n dropped) 0) m
          ∙ first_taken p dropped i (sym (from_drop is first 0) ∙ (let none : first + 0 ≡ first = omega arith in ap (slice_get is) none) ∙ here));
      ends = all_by_index (λ j. j.at ≤ closing.at) code
          (λ k x e. (let inside = slice_get_within code k x e in not_falling is (first + k) last x closing rise (omega arith) (part k inside ∙ e) there));
      within = not_falling is first last i closing rise clause.some here there;
      has = λ at above below. (skipped 0 is first i at rise here above ∙ cut 0 dropped p closing at (rise_drop first 0 is rise) there_p below
          ∙ ap (λ (n : ℕ). instr_at (take n dropped) at) (sym m));
      few = omega (arith, length-take (last + 1 - first) dropped, length-drop first is);
    }

pub faults_are : (is : List Instr) (shape : Shape) (first last : ℕ) (i closing : Instr) → slice_get is first ≡ Some i → slice_get is last ≡ Some closing
    → clause_faults is shape first last ≡ code_faults is shape i.at closing (code_between is first last)
faults_are is shape first last i closing here there =
    ap (λ (c : Option Instr). option_map_or (λ closing. option_map_or (λ i. code_faults is shape i.at closing (code_between is first last)) (slice_get is first) []) c []) there
    ∙ ap (λ (b : Option Instr). option_map_or (λ i. code_faults is shape i.at closing (code_between is first last)) b []) here

-- As the code reads the two instructions.
module _ (is : List Instr) (first last : ℕ) (d closing : Instr) (clause : IsClauseCode is first last) (read : closing ≡ get_or is last closing) where
  here_read : slice_get is first ≡ Some (get_or is first d)
  here_read = slice_get-get_or is first d (let some = clause.some in let within = clause.within in omega arith)

  there_read : slice_get is last ≡ Some closing
  there_read = slice_get-get_or is last closing clause.within ∙ ap Some (sym read)

  pub read_in : IsClauseIn is first (get_or is first d).at closing (code_between is first last)
  read_in = clause_in is first last (get_or is first d) closing clause here_read there_read

  pub read_faults : (shape : Shape) → first_fault (clause_faults is shape first last) ≡ first_fault (code_faults is shape (get_or is first d).at closing (code_between is first last))
  read_faults shape = ap first_fault (faults_are is shape first last (get_or is first d) closing here_read there_read)
