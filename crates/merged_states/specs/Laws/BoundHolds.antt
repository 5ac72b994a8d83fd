-- What the symbols and references of a state that is bound to another are bound to.
use Rattle.std.proofs.Common.{◌≡◌, ℕ, zero, suc, ◌==◌, ◌≤◌, ℤ, pos, ◌+ℤ◌, Bool, true, false, List, [], ◌∷◌, drop, length, set, slice_get, get_or, replicate, Option, Some, None, FitsSigned, w32, refl, sym, ap, ◌∙◌, subst, arith}
use Rattle.std.specs.Prelude.{if◌then◌else◌}
use Rattle.std.specs.Option.{option_and_then, option_map}
use Rattle.std.specs.List.{AllByRecursion}
use Rattle.domain_api.specs.declared.expr.Expr.{Expr}
use Rattle.alias_facts.specs.NullnessOf.{is_null}
use Rattle.frame_names.specs.Binding.{FrameBinding, Gaps, References, SlotLists, Symbols, all_filled, both_filled, bound_by, bound_frames, bound_number, bound_reference, expr_of, filled, filled_with, fits, free_slots, is_equal, number_in_slot, reference_in_slot, with_length, with_lengths, with_number, with_reference, with_references, with_symbols, with_var, with_vars}
use Rattle.frame_names.specs.BoundMeaning.{KeepGaps, zero_bound}
use Rattle.frame_names.specs.Frames.{length_at, nullness_at, numbers_of, references_of}
use Rattle.frame_names.specs.declared.reference.Reference.{Reference}
use Rattle.frame_names.specs.declared.slots.Bound.{Bound}
use Rattle.frame_names.specs.declared.var.Var.{Var}
use Rattle.frame_names.specs.declared.var.Var.TheVariants as vars
use Rattle.frame_names.proofs.BindingLaws.{number_bound}
use Rattle.symbolic_values.specs.Worth.{worth}
use Rattle.merged_states.specs.Laws.Uses.{AllFit}

-- ---- slots

same_some : {X : Type 0} (x y : X) → Some x ≡ Some y → x ≡ y
same_some x y same = cc

-- What is so of what slots have, by their numbers.
abbrev pub SlotsSo : {X : Type 0} → (ℕ → X → Type 0) → List (Option X) → Type 0
SlotsSo {X} P slots = (s : ℕ) (x : X) → slice_get slots s ≡ Some (Some x) → P s x

set_so : {X : Type 0} (P : ℕ → X → Type 0) (slots : List (Option X)) (i : ℕ) (y : X) → P i y → SlotsSo P slots
    → SlotsSo P (set slots i (Some y))
set_so P [] i y own so s x there = absurd cc
set_so P (o ∷ slots) zero y own so zero x there = subst (P zero) (same_some y x (same_some (Some y) (Some x) there)) own
set_so P (o ∷ slots) zero y own so (suc s) x there = so (suc s) x there
set_so P (o ∷ slots) (suc i) y own so zero x there = so zero x there
set_so P (o ∷ slots) (suc i) y own so (suc s) x there =
    set_so (λ n. P (suc n)) slots i y own (λ n z at. so (suc n) z at) s x there

free_so : {X : Type 0} (P : ℕ → X → Type 0) (count : ℕ) → SlotsSo P (replicate count None)
free_so P zero s x there = absurd cc
free_so P (suc count) zero x there = absurd cc
free_so P (suc count) (suc s) x there = free_so (λ n. P (suc n)) count s x there

-- What is filled was in its slot.
filled_back : {X : Type 0} (slots : List (Option X)) (xs : List X) (s : ℕ) (x : X) → all_filled slots ≡ Some xs
    → slice_get xs s ≡ Some x
    → slice_get slots s ≡ Some (Some x)
filled_back [] xs s x is there = absurd (none_at s (ap (λ l. slice_get l s) (same_some [] xs is) ∙ there))
  where
    none_at : (n : ℕ) → None ≡ Some x → ⊥
    none_at n wrong = cc
filled_back (None ∷ slots) xs s x is there = absurd cc
filled_back {X} (Some y ∷ slots) xs s x is there =
    by (all_filled slots) refl is s there (λ rest made n at. filled_back slots rest n x made at)
  where
    first : (z : X) → slice_get (y ∷ []) 0 ≡ Some z → Some (Some y) ≡ Some (Some z)
    first z at = cc

    by : (found : Option (List X)) → all_filled slots ≡ found → option_map (λ zs. y ∷ zs) found ≡ Some xs → (n : ℕ)
        → slice_get xs n ≡ Some x
        → ((rest : List X) → all_filled slots ≡ Some rest → (m : ℕ) → slice_get rest m ≡ Some x
        → slice_get slots m ≡ Some (Some x))
        → slice_get (Some y ∷ slots) n ≡ Some (Some x)
    by None found made n at later = absurd cc
    by (Some rest) found made zero at later = first x (ap (λ l. slice_get l 0) (same_some (y ∷ rest) xs made) ∙ at)
    by (Some rest) found made (suc m) at later =
        later rest found m (ap (λ l. slice_get l (suc m)) (same_some (y ∷ rest) xs made) ∙ at)

-- ---- symbols

-- Each symbol was bound by a value that is worth an int32, and symbol 0 is the number 0.
pub record SymbolsSo (number : ℕ → ℤ) (symbols : Symbols) : Type 0 where
  pub origin_is : slice_get symbols 0 ≡ Some (Some zero_bound)
  pub fit : SlotsSo (λ s x. FitsSigned w32 (worth number x.value)) symbols

slot_fits : (gap : Gaps) (number : ℕ → ℤ) (e f : Expr) (symbols new : Symbols) (slot : Option (Option Bound))
    → FitsSigned w32 (worth number e)
    → SlotsSo (λ s x. FitsSigned w32 (worth number x.value)) symbols → number_in_slot gap symbols e f slot ≡ Some new
    → SlotsSo (λ s x. FitsSigned w32 (worth number x.value)) new
slot_fits gap number e f symbols new None own so made = absurd cc
slot_fits gap number e f symbols new (Some None) own so made =
    subst (SlotsSo (λ s x. FitsSigned w32 (worth number x.value)))
    (same_some (set symbols f.sym (Some (bound_by e f))) new made)
    (set_so (λ s x. FitsSigned w32 (worth number x.value)) symbols f.sym (bound_by e f) own so)
slot_fits gap number e f symbols new (Some (Some bound)) own so made = by (is_equal gap e (expr_of bound f)) made
  where
    by : (equal : Bool) → (if equal then Some symbols else None) ≡ Some new
        → SlotsSo (λ s x. FitsSigned w32 (worth number x.value)) new
    by true is = subst (SlotsSo (λ s x. FitsSigned w32 (worth number x.value))) (same_some symbols new is) so
    by false is = absurd cc

number_so : (gap : Gaps) (number : ℕ → ℤ) (e f : Expr) (symbols new : Symbols) → KeepGaps gap number
    → FitsSigned w32 (worth number e) → SymbolsSo number symbols
    → with_number gap e f symbols ≡ Some new → SymbolsSo number new
number_so gap number e f symbols new keep own so made = record {
  origin_is = (number_bound gap number e f symbols new keep made).stays 0 zero_bound so.origin_is;
  fit = slot_fits gap number e f symbols new (slice_get symbols f.sym) own so.fit made;
}

-- ---- references

-- A reference fits one of the other state, and is there.
pub record IsFitting (a b : List Reference) (q r : ℕ) : Type 0 where
  pub fit : fits a b r q ≡ true
  pub there : r ≤ length a

-- What a reference is bound to: reference 0 to reference 0, and another to one that fits.
abbrev pub IsBoundWell : List Reference → List Reference → ℕ → ℕ → Type 0
IsBoundWell a b zero r = r ≡ 0
IsBoundWell a b (suc q) r = IsFitting a b (suc q) r

well_by : (a b : List Reference) (r q : ℕ) → (q == 0) ≡ false → r ≤ length a → fits a b r q ≡ true
    → IsBoundWell a b q r
well_by a b r zero other there fit = absurd cc
well_by a b r (suc q) other there fit = record { fit = fit; there = there }

reference_slot_so : (a b : List Reference) (r q : ℕ) (slots new : References) (fit : Bool)
    (slot : Option (Option ℕ)) → (fit ≡ true → IsBoundWell a b q r)
    → SlotsSo (IsBoundWell a b) slots → reference_in_slot fit slots r q slot ≡ Some new → SlotsSo (IsBoundWell a b) new
reference_slot_so a b r q slots new fit None own so made = absurd cc
reference_slot_so a b r q slots new true (Some None) own so made =
    subst (SlotsSo (IsBoundWell a b)) (same_some (set slots q (Some r)) new made)
    (set_so (IsBoundWell a b) slots q r (own refl) so)
reference_slot_so a b r q slots new false (Some None) own so made = absurd cc
reference_slot_so a b r q slots new fit (Some (Some bound)) own so made = by (r == bound) made
  where
    by : (same : Bool) → (if same then Some slots else None) ≡ Some new → SlotsSo (IsBoundWell a b) new
    by true is = subst (SlotsSo (IsBoundWell a b)) (same_some slots new is) so
    by false is = absurd cc

reference_so : (a b : List Reference) (r q : ℕ) (slots new : References) → r ≤ length a
    → SlotsSo (IsBoundWell a b) slots → with_reference a b r q slots ≡ Some new
    → SlotsSo (IsBoundWell a b) new
reference_so a b r q slots new there so made = by (q == 0) refl made
  where
    at_zero : (null : Bool) → (if null then Some slots else None) ≡ Some new → SlotsSo (IsBoundWell a b) new
    at_zero true is = subst (SlotsSo (IsBoundWell a b)) (same_some slots new is) so
    at_zero false is = absurd cc

    by : (none : Bool) → (q == 0) ≡ none
        → (if none then (if is_null (nullness_at a r) then Some slots else None) else reference_in_slot
        (fits a b r q) slots r q (slice_get slots q)) ≡ Some new
        → SlotsSo (IsBoundWell a b) new
    by true none is = at_zero (is_null (nullness_at a r)) is
    by false other is =
        reference_slot_so a b r q slots new (fits a b r q) (slice_get slots q)
        (λ fit. well_by a b r q other there fit) so is

set_first : (slots : References) (q : ℕ) (y : Option ℕ) → (q == 0) ≡ false
    → slice_get (set slots q y) 0 ≡ slice_get slots 0
set_first slots zero y other = absurd cc
set_first [] (suc q) y other = refl
set_first (o ∷ slots) (suc q) y other = refl

-- Reference 0 stays what it is bound to.
reference_first : (a b : List Reference) (r q : ℕ) (slots new : References)
    → slice_get slots 0 ≡ Some (Some 0) → with_reference a b r q slots ≡ Some new
    → slice_get new 0 ≡ Some (Some 0)
reference_first a b r q slots new first made = by (q == 0) refl made
  where
    kept : (test : Bool) → (if test then Some slots else None) ≡ Some new → slice_get new 0 ≡ Some (Some 0)
    kept true is = subst (λ l. slice_get l 0 ≡ Some (Some 0)) (same_some slots new is) first
    kept false is = absurd cc

    in_slot : (fit : Bool) (slot : Option (Option ℕ)) → (q == 0) ≡ false
        → reference_in_slot fit slots r q slot ≡ Some new → slice_get new 0 ≡ Some (Some 0)
    in_slot fit None other is = absurd cc
    in_slot true (Some None) other is =
        subst (λ l. slice_get l 0 ≡ Some (Some 0)) (same_some (set slots q (Some r)) new is)
        (set_first slots q (Some r) other ∙ first)
    in_slot false (Some None) other is = absurd cc
    in_slot fit (Some (Some bound)) other is = kept (r == bound) is

    by : (none : Bool) → (q == 0) ≡ none
        → (if none then (if is_null (nullness_at a r) then Some slots else None) else reference_in_slot
        (fits a b r q) slots r q (slice_get slots q)) ≡ Some new
        → slice_get new 0 ≡ Some (Some 0)
    by true none is = kept (is_null (nullness_at a r)) is
    by false other is = in_slot (fits a b r q) (slice_get slots q) other is

-- ---- variables, and then lengths

pub record BothSo (number : ℕ → ℤ) (a b : List Reference) (slots : SlotLists) : Type 0 where
  pub symbols : SymbolsSo number slots.symbols
  pub references : SlotsSo (IsBoundWell a b) slots.references
  pub first : slice_get slots.references 0 ≡ Some (Some 0)

module _ (gap : Gaps) (number : ℕ → ℤ) (a b : List Reference) (keep : KeepGaps gap number) where
  number_var : (old new : SlotLists) (e f : Expr) (made : Option Symbols) → FitsSigned w32 (worth number e)
      → BothSo number a b old
      → with_number gap e f old.symbols ≡ made → option_map (with_symbols old.references) made ≡ Some new
      → BothSo number a b new
  number_var old new e f None own so found is = absurd cc
  number_var old new e f (Some symbols) own so found is =
      subst (BothSo number a b) (same_some (with_symbols old.references symbols) new is)
      (record {
        symbols = number_so gap number e f old.symbols symbols keep own so.symbols found;
        references = so.references;
        first = so.first;
      })

  reference_var : (old new : SlotLists) (r q : ℕ) (made : Option References) → r ≤ length a → BothSo number a b old
      → with_reference a b r q old.references ≡ made → option_map (with_references old.symbols) made ≡ Some new
      → BothSo number a b new
  reference_var old new r q None there so found is = absurd cc
  reference_var old new r q (Some references) there so found is =
      subst (BothSo number a b) (same_some (with_references old.symbols references) new is)
      (record {
        symbols = so.symbols;
        references = reference_so a b r q old.references references there so.references found;
        first = reference_first a b r q old.references references so.first found;
      })

  -- The reference of an address is bound, and then its index.
  address_var : (old new : SlotLists) (r q : ℕ) (e f : Expr) (made : Option SlotLists) → FitsSigned w32 (worth number e)
      → r ≤ length a → BothSo number a b old
      → bound_reference a b r q old ≡ made → option_and_then (bound_number gap e f) made ≡ Some new
      → BothSo number a b new
  address_var old new r q e f None own there so found is = absurd cc
  address_var old new r q e f (Some next) own there so found is =
      number_var next new e f (with_number gap e f next.symbols) own
      (reference_var old next r q (with_reference a b r q old.references) there so refl found) refl is

  var_step : (xs ys : List Var) (new : SlotLists) (next : Option SlotLists)
      → ((slots : SlotLists) → BothSo number a b slots → with_vars gap a b xs ys slots ≡ Some new
      → BothSo number a b new)
      → ((slots : SlotLists) → next ≡ Some slots → BothSo number a b slots)
      → option_and_then (with_vars gap a b xs ys) next ≡ Some new → BothSo number a b new
  var_step xs ys new None rest so made = absurd cc
  var_step xs ys new (Some next) rest so made = rest next (so next refl) made

  vars_so : (xs ys : List Var) (old new : SlotLists) → AllFit number (numbers_of xs)
      → AllByRecursion (λ r. r ≤ length a) (references_of xs) → BothSo number a b old
      → with_vars gap a b xs ys old ≡ Some new
      → BothSo number a b new
  vars_so [] [] old new fit there so made = subst (BothSo number a b) (same_some old new made) so
  vars_so [] (y ∷ ys) old new fit there so made = absurd cc
  vars_so (x ∷ xs) [] old new fit there so made = absurd cc
  vars_so (vars.Number e ∷ xs) (vars.Number f ∷ ys) old new fit there so made =
      var_step xs ys new (with_var gap a b (vars.Number e) (vars.Number f) old)
      (λ next have is. vars_so xs ys next new fit.1 there have is)
      (λ slots is. number_var old slots e f (with_number gap e f old.symbols) fit.0 so refl is) made
  vars_so (vars.Reference r ∷ xs) (vars.Reference q ∷ ys) old new fit there so made =
      var_step xs ys new (with_var gap a b (vars.Reference r) (vars.Reference q) old)
      (λ next have is. vars_so xs ys next new fit there.1 have is)
      (λ slots is. reference_var old slots r q (with_reference a b r q old.references) there.0 so refl is)
      made
  vars_so (vars.Text ∷ xs) (vars.Text ∷ ys) old new fit there so made = vars_so xs ys old new fit there so made
  vars_so (vars.Address r e ∷ xs) (vars.Address q f ∷ ys) old new fit there so made =
      var_step xs ys new (with_var gap a b (vars.Address r e) (vars.Address q f) old)
      (λ next have is. vars_so xs ys next new fit.1 there.1 have is)
      (λ slots is. address_var old slots r q e f (bound_reference a b r q old) fit.0 there.0 so refl is) made
  vars_so (x ∷ xs) (y ∷ ys) old new fit there so made = absurd cc

  length_so : (known : Reference) (slot : Option ℕ) (symbols new : Symbols)
      → ((r : ℕ) → FitsSigned w32 (worth number (length_at a r)))
      → SymbolsSo number symbols → with_length gap a known slot symbols ≡ Some new → SymbolsSo number new
  length_so known None symbols new fit so made = absurd cc
  length_so known (Some r) symbols new fit so made =
      number_so gap number (length_at a r) known.length symbols new keep (fit r) so made

  lengths_step : (rest : List Reference) (slots : References) (new : Symbols) (next : Option Symbols)
      → ((symbols : Symbols) → SymbolsSo number symbols → with_lengths gap a rest slots symbols ≡ Some new
      → SymbolsSo number new)
      → ((symbols : Symbols) → next ≡ Some symbols → SymbolsSo number symbols)
      → option_and_then (with_lengths gap a rest slots) next ≡ Some new
      → SymbolsSo number new
  lengths_step rest slots new None later so made = absurd cc
  lengths_step rest slots new (Some next) later so made = later next (so next refl) made

  lengths_so : (rest : List Reference) (slots : References) (symbols new : Symbols)
      → ((r : ℕ) → FitsSigned w32 (worth number (length_at a r)))
      → SymbolsSo number symbols → with_lengths gap a rest slots symbols ≡ Some new → SymbolsSo number new
  lengths_so [] slots symbols new fit so made = subst (SymbolsSo number) (same_some symbols new made) so
  lengths_so (known ∷ rest) slots symbols new fit so made =
      lengths_step rest (drop 1 slots) new (with_length gap a known (get_or slots 0 None) symbols)
      (λ next have is. lengths_so rest (drop 1 slots) next new fit have is)
      (λ next is. length_so known (get_or slots 0 None) symbols next fit so is) made

-- ---- the whole

-- What the symbols and references of a state are bound to.
pub record BindingSo (number : ℕ → ℤ) (a b : List Reference) (binding : FrameBinding) : Type 0 where
  pub origin_is : get_or binding.symbols 0 zero_bound ≡ zero_bound
  pub fit : (s : ℕ) (x : Bound) → slice_get binding.symbols s ≡ Some x → FitsSigned w32 (worth number x.value)
  pub null : get_or binding.references 0 0 ≡ 0
  pub well : (q r : ℕ) → slice_get binding.references q ≡ Some r → IsBoundWell a b q r

origin_fits : (number : ℕ → ℤ) → number 0 ≡ pos 0 → FitsSigned w32 (worth number zero_bound.value)
origin_fits number is = subst (λ m. FitsSigned w32 (m +ℤ pos 0)) (sym is) (grind arith)

free_symbols_so : (number : ℕ → ℤ) (count references : ℕ) → number 0 ≡ pos 0
    → SymbolsSo number (free_slots count references).symbols
free_symbols_so number count references start = record { origin_is = refl; fit = all }
  where
    all : (s : ℕ) (x : Bound) → slice_get (free_slots count references).symbols s ≡ Some (Some x)
        → FitsSigned w32 (worth number x.value)
    all zero x there =
        subst (λ (y : Bound). FitsSigned w32 (worth number y.value))
        (same_some zero_bound x (same_some (Some zero_bound) (Some x) there)) (origin_fits number start)
    all (suc s) x there = free_so (λ n (y : Bound). FitsSigned w32 (worth number y.value)) count s x there

free_references_so : (a b : List Reference) (count references : ℕ)
    → SlotsSo (IsBoundWell a b) (free_slots count references).references
free_references_so a b count references zero r there = sym (same_some 0 r (same_some (Some 0) (Some r) there))
free_references_so a b count references (suc q) r there = free_so (λ n. IsBoundWell a b (suc n)) references q r there

-- Both lists of slots are filled.
record AreFilled (symbols : Symbols) (references : References) (binding : FrameBinding) : Type 0 where
  symbols_are : all_filled symbols ≡ Some binding.symbols
  references_are : all_filled references ≡ Some binding.references

both_are : (symbols : Symbols) (references : References) (made : Option (List Bound)) (found : Option (List ℕ))
    (binding : FrameBinding)
    → all_filled symbols ≡ made → all_filled references ≡ found → both_filled made found ≡ Some binding
    → AreFilled symbols references binding
both_are symbols references None found binding first second is = absurd cc
both_are symbols references (Some s) None binding first second is = absurd cc
both_are symbols references (Some s) (Some r) binding first second is =
    subst (AreFilled symbols references) (same_some (record { symbols = s; references = r }) binding is)
    (record { symbols_are = first; references_are = second })

filled_so : (number : ℕ → ℤ) (a b : List Reference) (symbols : Symbols) (references : References)
    (binding : FrameBinding) → SymbolsSo number symbols
    → SlotsSo (IsBoundWell a b) references → slice_get references 0 ≡ Some (Some 0)
    → AreFilled symbols references binding → BindingSo number a b binding
filled_so number a b symbols references binding so well zero_there are = record {
  origin_is = prefix symbols binding.symbols zero_bound zero_bound are.symbols_are so.origin_is;
  fit = λ s x at. so.fit s x (filled_back symbols binding.symbols s x are.symbols_are at);
  null = prefix references binding.references 0 0 are.references_are zero_there;
  well = λ q r at. well q r (filled_back references binding.references q r are.references_are at);
}
  where
    prefix : {X : Type 0} (slots : List (Option X)) (xs : List X) (x d : X) → all_filled slots ≡ Some xs
        → slice_get slots 0 ≡ Some (Some x) → get_or xs 0 d ≡ x
    prefix [] xs x d is there = absurd cc
    prefix (None ∷ slots) xs x d is there = absurd cc
    prefix {X} (Some y ∷ slots) xs x d is there = by (all_filled slots) is
      where
        by : (found : Option (List X)) → option_map (λ zs. y ∷ zs) found ≡ Some xs → get_or xs 0 d ≡ x
        by None made = absurd cc
        by (Some rest) made =
            ap (λ l. get_or l 0 d) (sym (same_some (y ∷ rest) xs made))
            ∙ same_some y x (same_some (Some y) (Some x) there)

-- What a state's frame is bound to, where values and lengths of the other are worth int32.
pub binding_so : (gap : Gaps) (number : ℕ → ℤ) (a_vars b_vars : List Var) (a b : List Reference)
    (count : ℕ) (binding : FrameBinding) → KeepGaps gap number
    → number 0 ≡ pos 0 → AllFit number (numbers_of a_vars) → AllByRecursion (λ r. r ≤ length a) (references_of a_vars)
    → ((r : ℕ) → FitsSigned w32 (worth number (length_at a r)))
    → bound_frames gap a_vars a b_vars b count ≡ Some binding → BindingSo number a b binding
binding_so gap number a_vars b_vars a b count binding keep start fit there lengths is =
    by (with_vars gap a b a_vars b_vars (free_slots count (length b))) refl is
  where
    at_end : (slots : SlotLists) (symbols : Option Symbols) → BothSo number a b slots
        → with_lengths gap a b (drop 1 slots.references) slots.symbols ≡ symbols
        → option_and_then (filled_with slots.references) symbols ≡ Some binding → BindingSo number a b binding
    at_end slots None so at made = absurd cc
    at_end slots (Some symbols) so at made =
        filled_so number a b symbols slots.references binding
        (lengths_so gap number a b keep b (drop 1 slots.references) slots.symbols symbols lengths so.symbols at)
        so.references so.first
        (both_are symbols slots.references (all_filled symbols) (all_filled slots.references) binding refl refl made)

    by : (found : Option SlotLists) → with_vars gap a b a_vars b_vars (free_slots count (length b)) ≡ found
        → option_and_then (filled gap a b) found ≡ Some binding
        → BindingSo number a b binding
    by None at made = absurd cc
    by (Some slots) at made =
        at_end slots (with_lengths gap a b (drop 1 slots.references) slots.symbols)
        (vars_so gap number a b keep a_vars b_vars (free_slots count (length b)) slots fit there
        (record {
          symbols = free_symbols_so number count (length b) start;
          references = free_references_so a b count
              (length b);
          first = refl;
        }) at) refl made
