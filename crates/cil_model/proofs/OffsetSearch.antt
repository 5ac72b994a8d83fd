-- The search for the instruction at an IL offset.
use Rattle.std.proofs.Common.{◌≡◌, ◌≢◌, ℕ, zero, suc, ◌+◌, ◌<◌, ◌≤◌, ◌==◌, true, false, List, [], ◌∷◌, length, get_or, Option, Some, None, Result, Ok, Err, MatchOption, slice_get, refl, sym, ap, ◌∙◌, arith, inl, inr}
use Rattle.std.specs.List.Sorted.{IsSearchInRange, IsBinarySearchResult}
use Rattle.std.specs.Option.{option_map_or}
use Rattle.std.specs.Ordering.{nat_cmp, ordering_index}
use Rattle.std.specs.Result.{result_ok}
use Rattle.std.proofs.lemmas.Bool.{cases_eq, cases_lt, cases_order, eq-eqb, ne_eqb}
use Rattle.std.proofs.lemmas.Bool.Decides.{nat_tests}
use Rattle.std.proofs.lemmas.Cmp.{ranked}
use Rattle.std.proofs.lemmas.Option.{none-some, slice_get_within, get_or_from_slice_get}
use Rattle.cil_model.specs.Code.{begins_at}
use Rattle.cil_model.specs.Offsets.{AreLaidOut, BeginsAt, LieFrom, RiseFrom, StandsAt, begins_with}
use Rattle.cil_model.specs.Runs.{instr_at}
use Rattle.cil_model.specs.declared.instruction.Instr.{Instr}

-- ---- offsets that rise

less_low : (low high : ℕ) (is : List Instr) → low ≤ high → RiseFrom high is → RiseFrom low is
less_low low high [] le rise = tt
less_low low high (i ∷ is) le rise = (omega (arith, le, rise.0), rise.1)

lie_rise : (start : ℕ) (is : List Instr) → LieFrom start is → RiseFrom start is
lie_rise start [] lie = tt
lie_rise start (i ∷ is) lie =
    (omega (arith, lie.0), less_low (suc i.at) (start + i.size) is (omega (arith, lie.0, lie.1)) (lie_rise (start + i.size) is lie.2))

-- The offsets of instructions one after another rise.
pub laid_rise : (is : List Instr) → AreLaidOut is → RiseFrom 0 is
laid_rise is laid = lie_rise 0 is laid.lie

not_below : (low : ℕ) (is : List Instr) (k : ℕ) (d : Instr) → RiseFrom low is → k < length is → low ≤ (get_or is k d).at
not_below low [] k d rise within = absurd (omega arith)
not_below low (i ∷ is) zero d rise within = rise.0
not_below low (i ∷ is) (suc k) d rise within = omega (arith, rise.0, not_below (suc i.at) is k d rise.1 (omega arith))

pub rise_at : (low : ℕ) (is : List Instr) (j k : ℕ) (d : Instr) → RiseFrom low is → j < k → k < length is → (get_or is j d).at < (get_or is k d).at
rise_at low [] j k d rise below within = absurd (omega arith)
rise_at low (i ∷ is) j zero d rise below within = absurd (omega arith)
rise_at low (i ∷ is) zero (suc k) d rise below within = omega (arith, not_below (suc i.at) is k d rise.1 (omega arith))
rise_at low (i ∷ is) (suc j) (suc k) d rise below within = rise_at (suc i.at) is j k d rise.1 (omega arith) (omega arith)

not_falling : (is : List Instr) (j k : ℕ) (d : Instr) → RiseFrom 0 is → j ≤ k → k < length is → (get_or is j d).at ≤ (get_or is k d).at
not_falling is j k d rise le within =
    elim (cases_eq j k) [
      | inl e ↦ rw e (omega arith)
      | inr other ↦ omega (arith, rise_at 0 is j k d rise (omega arith) within)
    ]

-- ---- what a search by halving answers

compared_rise : (a b at : ℕ) → a ≤ b → ordering_index (nat_cmp a at) ≤ ordering_index (nat_cmp b at)
compared_rise a b at le = grind (arith, nat_tests)

-- No instruction of an index begins at the offset.
abbrev NoneBegins : List Instr → ℕ → Type 0
NoneBegins is at = (k : ℕ) (d : Instr) → k < length is → (get_or is k d).at ≢ at

none_searched : (is : List Instr) (at k : ℕ) → RiseFrom 0 is → IsSearchInRange (Err k) (length is) → IsBinarySearchResult (λ i. nat_cmp i.at at) is (Err k)
    → NoneBegins is at
none_searched is at k rise within parted =
    let parts = parted (λ j k d le inside. compared_rise _ _ at (not_falling is j k d rise le inside)) in
    λ n d inside e.
    elim (cases_lt n k) [
      | inl below ↦ (let h = ranked _ at _ (sym (parts.0 n d (omega arith) below)) in omega (arith, h, e))
      | inr above ↦ (let h = ranked _ at _ (sym (parts.1 n d above inside)) in omega (arith, h, e))
    ]

-- ---- the instruction at the offset

found_from : (low : ℕ) (is : List Instr) (at k : ℕ) → RiseFrom low is → k < length is → ((d : Instr) → (get_or is k d).at ≡ at)
    → instr_at is at ≡ slice_get is k
found_from low [] at k rise within there = absurd (omega arith)
found_from low (i ∷ is) at zero rise within there = rw (eq-eqb i.at at (there i)) refl
found_from low (i ∷ is) at (suc k) rise within there =
    rw (ne_eqb i.at at (λ e. omega (arith, e, there i, not_below (suc i.at) is k i rise.1 (omega arith))))
    (found_from (suc i.at) is at k rise.1 (omega arith) there)

none_there : (is : List Instr) (at : ℕ) → NoneBegins is at → instr_at is at ≡ None
none_there [] at none = refl
none_there (i ∷ is) at none = rw (ne_eqb i.at at (none 0 i (omega arith))) (none_there is at (λ k d within. none (suc k) d (omega arith)))

pub stands_searched : (is : List Instr) (at : ℕ) (r : Result ℕ ℕ) → RiseFrom 0 is → IsSearchInRange r (length is) → IsBinarySearchResult (λ i. nat_cmp i.at at) is r
    → MatchOption (result_ok r) (instr_at is at ≡ None) (StandsAt is at)
stands_searched is at (Ok k) rise within equal =
    record { within = within; found = found_from 0 is at k rise within (λ d. ranked _ at _ (sym (equal d))) }
stands_searched is at (Err k) rise within parted = none_there is at (none_searched is at k rise within parted)

-- ---- whether one begins there

pub none_begins : (is : List Instr) (at : ℕ) → NoneBegins is at → begins_at is at ≡ false
none_begins [] at none = refl
none_begins (i ∷ is) at none = rw (ne_eqb i.at at (none 0 i (omega arith))) (none_begins is at (λ k d h. none (suc k) d (omega arith)))

pub begins_searched : (is : List Instr) (at : ℕ) (r : Result ℕ ℕ) → RiseFrom 0 is → IsSearchInRange r (length is) → IsBinarySearchResult (λ i. nat_cmp i.at at) is r
    → MatchOption (result_ok r) (begins_at is at ≡ false) (BeginsAt is at)
begins_searched is at (Ok k) rise within equal = record { within = within; offset = λ d. ranked _ at _ (sym (equal d)) }
begins_searched is at (Err k) rise within parted = none_begins is at (none_searched is at k rise within parted)

-- ---- which of them begins there

none_within : {X : Type 0} (xs : List X) (k : ℕ) → slice_get xs k ≡ None → k < length xs → ⊥
none_within [] k e h = omega arith
none_within (x ∷ xs) zero e h = none-some x (sym e)
none_within (x ∷ xs) (suc k) e h = none_within xs k e (omega arith)

not_begins : (is : List Instr) (at other : ℕ) → ((d : Instr) → other < length is → (get_or is other d).at ≡ at → ⊥) → begins_with is at other ≡ false
not_begins is at other none = by (slice_get is other) refl
  where
    by : (o : Option Instr) → slice_get is other ≡ o → option_map_or (λ i. i.at == at) o false ≡ false
    by None e = refl
    by (Some i) e = ne_eqb i.at at (λ same. none i (slice_get_within is other i e) (rw (get_or_from_slice_get is other i i e) same))

one_begins : (is : List Instr) (at k other : ℕ) → RiseFrom 0 is → k < length is → ((d : Instr) → (get_or is k d).at ≡ at) → begins_with is at other ≡ (k == other)
one_begins is at k other rise within there =
    elim (cases_order k other) [
      | inl same ↦ (here same ∙ sym (eq-eqb k other same))
      | inr (inl before) ↦
          (not_begins is at other (λ d inside same. let low = rise_at 0 is k other d rise before inside in omega (arith, low, there d, same))
          ∙ sym (ne_eqb k other (λ e. omega arith)))
      | inr (inr behind) ↦
          (not_begins is at other (λ d inside same. let low = rise_at 0 is other k d rise behind within in omega (arith, low, there d, same))
          ∙ sym (ne_eqb k other (λ e. omega arith)))
    ]
  where
    by : (o : Option Instr) → slice_get is other ≡ o → k ≡ other → option_map_or (λ i. i.at == at) o false ≡ true
    by None e same = absurd (let low : other < length is = omega arith in none_within is other e low)
    by (Some i) e same = eq-eqb i.at at (sym (ap (λ (j : Instr). j.at) (get_or_from_slice_get is other i i e)) ∙ ap (λ (n : ℕ). (get_or is n i).at) (sym same) ∙ there i)

    here : k ≡ other → begins_with is at other ≡ true
    here same = by (slice_get is other) refl same

pub only_searched : (is : List Instr) (at : ℕ) (r : Result ℕ ℕ) → RiseFrom 0 is → IsSearchInRange r (length is) → IsBinarySearchResult (λ i. nat_cmp i.at at) is r
    → (other : ℕ) → begins_with is at other ≡ option_map_or (λ k. k == other) (result_ok r) false
only_searched is at (Ok k) rise within equal other = one_begins is at k other rise within (λ d. ranked _ at _ (sym (equal d)))
only_searched is at (Err k) rise within parted other =
    not_begins is at other (λ d inside e. none_searched is at k rise within parted other d inside e)
