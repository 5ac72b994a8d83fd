-- One frame bound to another: what its symbols are worth, and which references its references are, by the other's.
use Rattle.std.specs.Prelude.{ℕ, ◌==◌, ℤ, pos, ◌+ℤ◌, ◌-ℤ◌, Bool, ◌&&◌, ◌||◌, List, [], ◌∷◌, get_or, length, drop, set, slice_get, replicate, Option, Some, None, if◌then◌else◌}
use Rattle.std.specs.Option.{option_and_then, option_map}
use Rattle.domain_api.specs.Order.{gap_is_at_least}
use Rattle.domain_api.specs.declared.expr.Expr.{Expr}
use Rattle.alias_facts.specs.NullnessOf.{is_null}
use Rattle.frame_names.specs.Frames.{are_one_place, length_at, nullness_at, place_at}
use Rattle.frame_names.specs.declared.reference.Reference.{Reference}
use Rattle.frame_names.specs.declared.slots.Bound.{Bound}
use Rattle.frame_names.specs.declared.var.Var.{Var}
use Rattle.frame_names.specs.declared.var.Var.TheVariants as vars

-- ---- expressions of the first state, as far as gaps tell. A gap may be added to the first of two symbols without
-- passing the second

abbrev pub Gaps : Type 0
Gaps = ℕ → ℕ → Option ℤ

abbrev pub is_at_most : Gaps → Expr → Expr → Bool
is_at_most gap e f = gap_is_at_least (gap e.sym f.sym) (e.k -ℤ f.k)

abbrev pub is_equal : Gaps → Expr → Expr → Bool
is_equal gap e f = is_at_most gap e f && is_at_most gap f e

-- ---- slots: what each symbol is bound to so far, from symbol 0 on, and what each reference is

abbrev pub Symbols : Type 0
Symbols = List (Option Bound)

abbrev pub References : Type 0
References = List (Option ℕ)

pub record SlotLists : Type 0 where
  pub symbols : Symbols
  pub references : References

-- What is bound by an expression: the symbol of it, less the constant.
abbrev pub bound_by : Expr → Expr → Bound
bound_by e f = record { value = e; offset = f.k }

-- What an expression of a bound symbol is worth.
abbrev pub expr_of : Bound → Expr → Expr
expr_of bound f = record { sym = bound.value.sym; k = (bound.value.k -ℤ bound.offset) +ℤ f.k }

-- An expression of the other state is bound to a slot that is there: it is the first, or equal to what is bound.
abbrev pub number_in_slot : Gaps → Symbols → Expr → Expr → Option (Option Bound) → Option Symbols
number_in_slot gap symbols e f None = None
number_in_slot gap symbols e f (Some None) = Some (set symbols f.sym (Some (bound_by e f)))
number_in_slot gap symbols e f (Some (Some bound)) = if is_equal gap e (expr_of bound f) then Some symbols else None

-- An expression of the other state is what an expression of this one is worth.
abbrev pub with_number : Gaps → Expr → Expr → Symbols → Option Symbols
with_number gap e f symbols = number_in_slot gap symbols e f (slice_get symbols f.sym)

-- A reference of the other state is bound to a slot that is there: it fits and is the first, or is the same.
abbrev pub reference_in_slot : Bool → References → ℕ → ℕ → Option (Option ℕ) → Option References
reference_in_slot fits slots r q None = None
reference_in_slot fits slots r q (Some None) = if fits then Some (set slots q (Some r)) else None
reference_in_slot fits slots r q (Some (Some bound)) = if r == bound then Some slots else None

abbrev pub with_symbols : References → Symbols → SlotLists
with_symbols references symbols = record { symbols = symbols; references = references }

abbrev pub with_references : Symbols → References → SlotLists
with_references symbols references = record { symbols = symbols; references = references }

-- A reference of the other state is null, or of a type that is there.
abbrev pub fits : List Reference → List Reference → ℕ → ℕ → Bool
fits a b r q = is_null (nullness_at a r) || are_one_place (place_at a r) (place_at b q)

-- A reference of the other state is one of this state. Reference 0 asks for one that is null.
abbrev pub with_reference : List Reference → List Reference → ℕ → ℕ → References → Option References
with_reference a b r q slots =
    if q == 0 then (if is_null (nullness_at a r) then Some slots else None)
    else reference_in_slot (fits a b r q) slots r q (slice_get slots q)

-- ---- variables, and then lengths

abbrev pub bound_number : Gaps → Expr → Expr → SlotLists → Option SlotLists
bound_number gap e f slots = option_map (with_symbols slots.references) (with_number gap e f slots.symbols)

abbrev pub bound_reference : List Reference → List Reference → ℕ → ℕ → SlotLists → Option SlotLists
bound_reference a b r q slots = option_map (with_references slots.symbols) (with_reference a b r q slots.references)

-- Of an address first the reference is bound, then the index.
abbrev pub with_var : Gaps → List Reference → List Reference → Var → Var → SlotLists → Option SlotLists
with_var gap a b (vars.Number e) (vars.Number f) slots = bound_number gap e f slots
with_var gap a b (vars.Number e) _ slots = None
with_var gap a b (vars.Reference r) (vars.Reference q) slots = bound_reference a b r q slots
with_var gap a b (vars.Reference r) _ slots = None
with_var gap a b vars.Text vars.Text slots = Some slots
with_var gap a b vars.Text _ slots = None
with_var gap a b (vars.Address r e) (vars.Address q f) slots =
    option_and_then (bound_number gap e f) (bound_reference a b r q slots)
with_var gap a b (vars.Address r e) _ slots = None

abbrev pub with_vars : Gaps → List Reference → List Reference → List Var → List Var → SlotLists
    → Option SlotLists
with_vars gap a b [] [] slots = Some slots
with_vars gap a b (x ∷ xs) (y ∷ ys) slots = option_and_then (with_vars gap a b xs ys) (with_var gap a b x y slots)
with_vars gap a b _ _ slots = None

-- The length of what a reference is bound to. One that is not bound fails.
abbrev pub with_length : Gaps → List Reference → Reference → Option ℕ → Symbols → Option Symbols
with_length gap a known None symbols = None
with_length gap a known (Some r) symbols = with_number gap (length_at a r) known.length symbols

-- The lengths of the references from 1 on, with the slots of these.
abbrev pub with_lengths : Gaps → List Reference → List Reference → References → Symbols → Option Symbols
with_lengths gap a [] slots symbols = Some symbols
with_lengths gap a (known ∷ b) slots symbols =
    option_and_then (with_lengths gap a b (drop 1 slots)) (with_length gap a known (get_or slots 0 None) symbols)

-- ---- the whole

-- What all slots have, where none is free.
abbrev pub all_filled : {X : Type 0} → List (Option X) → Option (List X)
all_filled [] = Some []
all_filled (None ∷ slots) = None
all_filled (Some x ∷ slots) = option_map (λ xs. x ∷ xs) (all_filled slots)

-- What each symbol is bound to, and each reference, from number 0 on.
pub record FrameBinding : Type 0 where
  pub symbols : List Bound
  pub references : List ℕ

-- So many symbols and references, of which symbol 0 is the number 0, and reference 0 is null.
abbrev pub free_slots : ℕ → ℕ → SlotLists
free_slots symbols references = record {
  symbols = Some (record { value = record { sym = 0; k = pos 0 }; offset = pos 0 }) ∷ replicate symbols None;
  references = Some 0 ∷ replicate references None;
}

abbrev pub both_filled : Option (List Bound) → Option (List ℕ) → Option FrameBinding
both_filled (Some symbols) (Some references) = Some (record { symbols = symbols; references = references })
both_filled _ _ = None

abbrev pub filled_with : References → Symbols → Option FrameBinding
filled_with references symbols = both_filled (all_filled symbols) (all_filled references)

-- The lengths, and then no slot may be free.
abbrev pub filled : Gaps → List Reference → List Reference → SlotLists → Option FrameBinding
filled gap a b slots =
    option_and_then (filled_with slots.references) (with_lengths gap a b (drop 1 slots.references) slots.symbols)

-- The variables in order, then the lengths of references, bind the second frame, which has so many symbols, to the
-- first.
abbrev pub bound_frames : Gaps → List Var → List Reference → List Var → List Reference → ℕ
    → Option FrameBinding
bound_frames gap a_vars a b_vars b symbols =
    option_and_then (filled gap a b) (with_vars gap a b a_vars b_vars (free_slots symbols (length b)))
