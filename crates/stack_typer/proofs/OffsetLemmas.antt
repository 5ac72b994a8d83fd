-- The stacks at IL offsets, and what stands next.
use Rattle.std.proofs.Common.{◌≡◌, ℕ, zero, suc, ◌+◌, ◌<◌, ◌≤◌, ◌==◌, Bool, true, false, ◌||◌, List, [], ◌∷◌, length, get_or, set, Option, Some, None, slice_get, refl, sym, ap, add-one, ◌∙◌, arith, inl, inr}
use Rattle.std.specs.Option.{option_or}
use Rattle.std.proofs.lemmas.Bool.{cases_eq, eq-eqb, ne_eqb}
use Rattle.std.proofs.lemmas.List.{get_or_read}
use Rattle.std.proofs.lemmas.Option.{slice_get_within, get_or_from_slice_get}
use Rattle.cil_model.specs.Code.{begins_at}
use Rattle.cil_model.specs.Offsets.{AreLaidOut, BeginsAt, LieFrom, RiseFrom}
use Rattle.cil_model.specs.Passes.{Stacks, goes_behind, arrived, stack_at, come_to}
use Rattle.cil_model.specs.declared.instruction.Instr.{Instr}
use Rattle.cil_model.specs.declared.place.Kind.{Kind}
use Rattle.cil_model.proofs.OffsetSearch.{laid_rise, none_begins, rise_at}
use Rattle.stack_typer.specs.Successors.{next_offset}

-- ---- an offset where an instruction begins

-- The first instruction begins there, or a later one, which begins higher.
later : (low : ℕ) (i : Instr) (is : List Instr) (at k : ℕ) → RiseFrom low (i ∷ is) → BeginsAt (i ∷ is) at (suc k) → (i.at == at) ≡ false
later low i is at k rise there =
    ne_eqb i.at at (λ e. omega (arith, e, there.offset i, rise_at low (i ∷ is) zero (suc k) i rise (omega arith) there.within))

below_first : (i : Instr) (is : List Instr) (at k : ℕ) → BeginsAt (i ∷ is) at (suc k) → BeginsAt is at k
below_first i is at k there = record { within = omega (arith, there.within); offset = there.offset }

first_there : (i : Instr) (is : List Instr) (at : ℕ) → BeginsAt (i ∷ is) at zero → (i.at == at) ≡ true
first_there i is at there = eq-eqb i.at at (there.offset i)

stack_from : (low : ℕ) (is : List Instr) (stacks : Stacks) (at k : ℕ) → RiseFrom low is → BeginsAt is at k → stack_at is stacks at ≡ get_or stacks k None
stack_from low [] stacks at k rise there = absurd (omega (arith, there.within))
stack_from low (i ∷ is) [] at k rise there = refl
stack_from low (i ∷ is) (stack ∷ stacks) at zero rise there = rw (first_there i is at there) refl
stack_from low (i ∷ is) (stack ∷ stacks) at (suc k) rise there =
    rw (later low i is at k rise there) (stack_from (suc i.at) is stacks at k rise.1 (below_first i is at k there))

pub stack_there : (is : List Instr) (stacks : Stacks) (at k : ℕ) → AreLaidOut is → BeginsAt is at k → stack_at is stacks at ≡ get_or stacks k None
stack_there is stacks at k laid there = stack_from 0 is stacks at k (laid_rise is laid) there

-- As it is read there.
pub stack_read : (is : List Instr) (stacks : Stacks) (at k : ℕ) (before : Option (List Kind)) → AreLaidOut is → BeginsAt is at k → length stacks ≡ length is
    → before ≡ get_or stacks k before → stack_at is stacks at ≡ before
stack_read is stacks at k before laid there same read =
    stack_there is stacks at k laid there ∙ sym (get_or_read stacks k before (omega (arith, there.within)) read None)

-- The instruction of an index begins at its offset.
pub begins_here : (is : List Instr) (k at : ℕ) (i : Instr) → slice_get is k ≡ Some i → i.at ≡ at → BeginsAt is at k
begins_here is k at i here same = record { within = slice_get_within is k i here; offset = λ d. ap (λ (j : Instr). j.at) (get_or_from_slice_get is k i d here) ∙ same }

-- As it is read at the instruction's index.
pub stack_before : (is : List Instr) (stacks : Stacks) (k : ℕ) (i : Instr) (before : Option (List Kind)) → AreLaidOut is → slice_get is k ≡ Some i → length stacks ≡ length is
    → before ≡ get_or stacks k before → stack_at is stacks i.at ≡ before
stack_before is stacks k i before laid here same read =
    stack_read is stacks i.at k before laid (begins_here is k i.at i here refl) same read

-- What comes of a stack that is there and one that comes.
abbrev joined : Option (List Kind) → List Kind → Option (List Kind)
joined before stack = option_or (arrived before stack) before

come_from : (low : ℕ) (is : List Instr) (stacks : Stacks) (at k : ℕ) (stack : List Kind) → RiseFrom low is → BeginsAt is at k
    → come_to is stacks at stack ≡ set stacks k (joined (get_or stacks k None) stack)
come_from low [] stacks at k stack rise there = absurd (omega (arith, there.within))
come_from low (i ∷ is) [] at k stack rise there = refl
come_from low (i ∷ is) (before ∷ stacks) at zero stack rise there = rw (first_there i is at there) refl
come_from low (i ∷ is) (before ∷ stacks) at (suc k) stack rise there =
    rw (later low i is at k rise there) (ap (λ others. before ∷ others) (come_from (suc i.at) is stacks at k stack rise.1 (below_first i is at k there)))

come_there : (is : List Instr) (stacks : Stacks) (at k : ℕ) (stack : List Kind) → AreLaidOut is → BeginsAt is at k
    → come_to is stacks at stack ≡ set stacks k (joined (get_or stacks k None) stack)
come_there is stacks at k stack laid there = come_from 0 is stacks at k stack (laid_rise is laid) there

pub come_read : (is : List Instr) (stacks : Stacks) (at k : ℕ) (stack : List Kind) (before now : Option (List Kind)) → AreLaidOut is → BeginsAt is at k → length stacks ≡ length is
    → before ≡ get_or stacks k before → now ≡ option_or (arrived before stack) before → come_to is stacks at stack ≡ set stacks k now
come_read is stacks at k stack before now laid there same read e =
    let f : before ≡ get_or stacks k None = get_or_read stacks k before (omega (arith, there.within)) read None in
    come_there is stacks at k stack laid there ∙ ap (λ b. set stacks k (joined b stack)) (sym f) ∙ ap (set stacks k) (sym e)

-- ---- an offset where none begins

or_false : (a b : Bool) → (a || b) ≡ false → (a ≡ false) × (b ≡ false)
or_false true b e = absurd (cc)
or_false false b e = (refl, e)

pub no_stack_there : (is : List Instr) (stacks : Stacks) (at : ℕ) → begins_at is at ≡ false → stack_at is stacks at ≡ None
no_stack_there [] stacks at none = refl
no_stack_there (i ∷ is) [] at none = refl
no_stack_there (i ∷ is) (stack ∷ stacks) at none =
    let h = or_false (i.at == at) (begins_at is at) none in
    rw h.0 (no_stack_there is stacks at h.1)

pub none_come_there : (is : List Instr) (stacks : Stacks) (at : ℕ) (stack : List Kind) → begins_at is at ≡ false → come_to is stacks at stack ≡ stacks
none_come_there [] stacks at stack none = refl
none_come_there (i ∷ is) [] at stack none = refl
none_come_there (i ∷ is) (before ∷ stacks) at stack none =
    let h = or_false (i.at == at) (begins_at is at) none in
    rw h.0 (ap (λ others. before ∷ others) (none_come_there is stacks at stack h.1))

one_begins : (is : List Instr) (at k : ℕ) → BeginsAt is at k → begins_at is at ≡ true
one_begins [] at k there = absurd (omega (arith, there.within))
one_begins (i ∷ is) at zero there = rw (first_there i is at there) refl
one_begins (i ∷ is) at (suc k) there = rw (one_begins is at k (below_first i is at k there)) (or_true (i.at == at))
  where
    or_true : (a : Bool) → (a || true) ≡ true
    or_true true = refl
    or_true false = refl

pub ruleset coming = (come_read, none_come_there)

-- ---- the next instruction

next_from : (start : ℕ) (is : List Instr) (k : ℕ) (d : Instr) → LieFrom start is → suc k < length is → (get_or is (suc k) d).at ≡ (get_or is k d).at + (get_or is k d).size
next_from start [] k d lie within = absurd (omega arith)
next_from start (i ∷ []) k d lie within = absurd (omega arith)
next_from start (i ∷ j ∷ is) zero d lie within = lie.2.0 ∙ ap (λ n. n + i.size) (sym lie.0)
next_from start (i ∷ j ∷ is) (suc k) d lie within = next_from (start + i.size) (j ∷ is) k d lie.2 (omega arith)

has_bytes : (start : ℕ) (is : List Instr) (k : ℕ) (d : Instr) → LieFrom start is → k < length is → 0 < (get_or is k d).size
has_bytes start [] k d lie within = absurd (omega arith)
has_bytes start (i ∷ is) zero d lie within = lie.1
has_bytes start (i ∷ is) (suc k) d lie within = has_bytes (start + i.size) is k d lie.2 (omega arith)

-- What stands next.
pub goes_on : (is : List Instr) (k : ℕ) (i j : Instr) → AreLaidOut is → slice_get is k ≡ Some i → k + 1 < length is → j ≡ get_or is (k + 1) j → goes_behind i.op ≡ true
    → next_offset is i ≡ Some (j.at ∷ [])
goes_on is k i j laid here within read goes =
    let e = next_from 0 is k i laid.lie (omega arith) in
    let f = rw (← add-one k, ← get_or_read is (k + 1) j within read i, get_or_from_slice_get is k i i here) at e in
    let begins = one_begins is (i.at + i.size) (k + 1) (record { within = within; offset = λ d. rw (← get_or_read is (k + 1) j within read d) f }) in
    rw (goes, begins) (ap (λ (at : ℕ). Some (at ∷ [])) (sym f))

-- Behind the last instruction none begins.
none_next : (is : List Instr) (k : ℕ) (i : Instr) → AreLaidOut is → slice_get is k ≡ Some i → length is ≤ k + 1 → begins_at is (i.at + i.size) ≡ false
none_next is k i laid here end =
    let within = slice_get_within is k i here in
    let some = rw (get_or_from_slice_get is k i i here) at (has_bytes 0 is k i laid.lie within) in
    none_begins is (i.at + i.size) (λ n d inside same.
    elim (cases_eq n k) [
      | inl e ↦ (let last = rw (e, get_or_from_slice_get is k i d here) at same in omega (arith, some, last))
      | inr other ↦
          (let low = rw (get_or_from_slice_get is k i d here) at (rise_at 0 is n k d (laid_rise is laid) (omega (arith, inside, end)) within) in omega (arith, low, some, same))
    ])

pub ends_there : (is : List Instr) (k : ℕ) (i : Instr) → AreLaidOut is → slice_get is k ≡ Some i → length is ≤ k + 1 → goes_behind i.op ≡ true
    → next_offset is i ≡ None
ends_there is k i laid here end goes = rw (goes, none_next is k i laid here end) refl
