-- A step changes no stack, or leaves fewer changes.
use Rattle.std.proofs.Common.{◌≡◌, ℕ, ◌+◌, ◌<◌, ◌≤◌, ◌==◌, Bool, true, false, List, [], ◌∷◌, length, Option, Some, None, if◌then◌else◌, ◌⊎◌, inl, inr, refl, ap, ◌∙◌, arith}
use Rattle.std.specs.Option.{option_or}
use Rattle.std.proofs.lemmas.List.Sums.{sum_by-cons, count_by-le-length}
use Rattle.cil_model.specs.Kinds.{one_if}
use Rattle.cil_model.specs.Passes.{Stacks, merged_kind, with_kind, merged, arrived, come_to, come_to_all}
use Rattle.cil_model.specs.declared.instruction.Instr.{Instr}
use Rattle.cil_model.specs.declared.place.Kind.{Kind}
use Rattle.cil_model.specs.declared.place.Kind.TheVariants.{Int, Native, Ints, Bools, NullRef, Text, AddrInts, AddrBools}
use Rattle.stack_typer.specs.Room.{is_null, nulls, changes_left, all_changes_left}

abbrev pub Falls : {X : Type 0} → (X → ℕ) → X → X → Type 0
Falls size before after = (after ≡ before) ⊎ (size after < size before)

pub falls_on : {X : Type 0} (size : X → ℕ) (a b c : X) → Falls size a b → Falls size b c → Falls size a c
falls_on size a b c (inl e) (inl f) = inl (f ∙ e)
falls_on size a b c (inl e) (inr l) = inr (rw (← e) l)
falls_on size a b c (inr k) (inl f) = inr (rw f k)
falls_on size a b c (inr k) (inr l) = inr (omega (arith, k, l))

kind_falls : (a b kind : Kind) → merged_kind a b ≡ Some kind → Falls (λ k. one_if (is_null k)) a kind
kind_falls Int Int kind e = inl (cc)
kind_falls Native Native kind e = inl (cc)
kind_falls Text Text kind e = inl (cc)
kind_falls AddrInts AddrInts kind e = inl (cc)
kind_falls AddrBools AddrBools kind e = inl (cc)
kind_falls Ints Ints kind e = inl (cc)
kind_falls Bools Bools kind e = inl (cc)
kind_falls NullRef NullRef kind e = inl (cc)
kind_falls Ints NullRef kind e = inl (cc)
kind_falls Bools NullRef kind e = inl (cc)
kind_falls NullRef Ints kind e = inr (let k : Ints ≡ kind = cc in rw (← k) (omega arith))
kind_falls NullRef Bools kind e = inr (let k : Bools ≡ kind = cc in rw (← k) (omega arith))
kind_falls _ _ kind e = absurd (cc)

-- A list whose first item and whose others fall.
cons_falls : {X : Type 0} (size : X → ℕ) (total : List X → ℕ) → ((x : X) (xs : List X) → total (x ∷ xs) ≡ size x + total xs)
    → (x y : X) (xs ys : List X) → Falls size x y → Falls total xs ys → Falls total (x ∷ xs) (y ∷ ys)
cons_falls size total sum x y xs ys (inl e) (inl f) = inl (cc)
cons_falls size total sum x y xs ys (inl e) (inr l) = inr (omega (arith, sum x xs, sum y ys, ap size e, l))
cons_falls size total sum x y xs ys (inr k) (inl f) = inr (omega (arith, sum x xs, sum y ys, ap total f, k))
cons_falls size total sum x y xs ys (inr k) (inr l) = inr (omega (arith, sum x xs, sum y ys, k, l))

with_parts : (k : Option Kind) (m : Option (List Kind)) (kinds : List Kind) → with_kind k m ≡ Some kinds
    → (first : Kind) × ((others : List Kind) × (k ≡ Some first) × (m ≡ Some others) × (kinds ≡ first ∷ others))
with_parts None m kinds e = absurd (cc)
with_parts (Some k) None kinds e = absurd (cc)
with_parts (Some k) (Some others) kinds e = (k, (others, refl, refl, cc))

merged_falls : (before stack kinds : List Kind) → merged before stack ≡ Some kinds → Falls nulls before kinds
merged_falls [] [] kinds e = inl (cc)
merged_falls [] (y ∷ stack) kinds e = absurd (cc)
merged_falls (x ∷ before) [] kinds e = absurd (cc)
merged_falls (x ∷ before) (y ∷ stack) kinds e =
    let (first, (others, k, m, is)) = with_parts (merged_kind x y) (merged before stack) kinds e in
    rw is (cons_falls (λ k. one_if (is_null k)) nulls (sum_by-cons (λ k. one_if (is_null k))) x first before others (kind_falls x y first k) (merged_falls before stack others m))

-- What stands there, and what comes.
abbrev pub joined : Option (List Kind) → List Kind → Option (List Kind)
joined before stack = option_or (arrived before stack) before

joined_falls : (most : ℕ) (before : Option (List Kind)) (stack : List Kind) → length stack ≤ most → Falls (changes_left most) before (joined before stack)
joined_falls most None stack small = inr (omega (arith, small, count_by-le-length is_null stack))
joined_falls most (Some kinds) stack small = by_merge (merged kinds stack) refl
  where
    by_merge : (m : Option (List Kind)) → merged kinds stack ≡ m → Falls (changes_left most) (Some kinds) (option_or m (Some kinds))
    by_merge None e = inl refl
    by_merge (Some now) e = lift (merged_falls kinds stack now e)
      where
        lift : Falls nulls kinds now → Falls (changes_left most) (Some kinds) (Some now)
        lift (inl same) = inl (ap Some same)
        lift (inr fewer) = inr fewer

pub come_falls : (most : ℕ) (is : List Instr) (stacks : Stacks) (at : ℕ) (stack : List Kind) → length stack ≤ most → Falls (all_changes_left most) stacks (come_to is stacks at stack)
come_falls most [] stacks at stack small = inl refl
come_falls most (i ∷ is) [] at stack small = inl refl
come_falls most (i ∷ is) (before ∷ stacks) at stack small = by_test (come_falls most is stacks at stack small) (i.at == at)
  where
    by_test : Falls (all_changes_left most) stacks (come_to is stacks at stack) → (here : Bool) → Falls (all_changes_left most) (before ∷ stacks) (if here then joined before stack ∷ stacks else before ∷ come_to is stacks at stack)
    by_test others true = cons_falls (changes_left most) (all_changes_left most) (sum_by-cons (changes_left most)) before (joined before stack) stacks stacks (joined_falls most before stack small) (inl refl)
    by_test others false =
        cons_falls (changes_left most) (all_changes_left most) (sum_by-cons (changes_left most)) before before stacks (come_to is stacks at stack) (inl refl) others

pub come_all_falls : (most : ℕ) (is : List Instr) (stacks : Stacks) (stack : List Kind) (ats : List ℕ) → length stack ≤ most → Falls (all_changes_left most) stacks (come_to_all is stacks stack ats)
come_all_falls most is stacks stack [] small = inl refl
come_all_falls most is stacks stack (at ∷ ats) small =
    falls_on (all_changes_left most) stacks (come_to is stacks at stack) (come_to_all is (come_to is stacks at stack) stack ats) (come_falls most is stacks at stack small)
    (come_all_falls most is (come_to is stacks at stack) stack ats small)
