-- Stacks that merge.
use Rattle.std.proofs.Common.{◌≡◌, ◌≢◌, ℕ, suc, ◌+◌, ◌<◌, ◌≤◌, Bool, true, false, List, [], ◌∷◌, ◌++◌, length, take, drop, set, get_or, Option, Some, None, is_some, option_map, refl, sym, ap, ◌∙◌, arith, inl, inr}
use Rattle.std.proofs.lemmas.Bool.{cases_eq}
use Rattle.std.proofs.lemmas.List.{drop_more, take_more, take_more_set, drop-set-lt, length-set, drop_all, take_all, append-nil, append_assoc}
use Rattle.std.proofs.lemmas.List.Sums.{sum_by-set}
use Rattle.std.proofs.lemmas.Iterator.Adapters.{option_map_id}
use Rattle.cil_model.specs.Kinds.{one_if}
use Rattle.cil_model.specs.Passes.{merged_kind, with_kind, merged}
use Rattle.cil_model.specs.declared.place.Kind.{Kind}
use Rattle.cil_model.specs.declared.place.Kind.TheVariants.{Int, Native, Ints, Bools, NullRef, Text, AddrInts, AddrBools}
use Rattle.stack_typer.specs.Room.{changed_kind, is_null, nulls}

with_none : (k : Option Kind) → with_kind k None ≡ None
with_none None = refl
with_none (Some kind) = refl

pub with_some : (kind : Kind) (kinds : Option (List Kind)) → is_some (with_kind (Some kind) kinds) ≡ is_some kinds
with_some kind None = refl
with_some kind (Some kinds) = refl

-- Stacks of different heights do not merge.
pub merged-lengths : (before stack : List Kind) → length before ≢ length stack → merged before stack ≡ None
merged-lengths [] [] h = absurd (h refl)
merged-lengths [] (kind ∷ kinds) h = refl
merged-lengths (kind ∷ kinds) [] h = refl
merged-lengths (a ∷ before) (b ∷ stack) h =
    ap (with_kind (merged_kind a b)) (merged-lengths before stack (λ e. h (ap suc e))) ∙ with_none (merged_kind a b)

pub ruleset merges_rules = (merged-lengths, with_some)

-- ---- merging in place

-- A kind changes only from null to an array, and to what it merges to.
becomes : (a b kind : Kind) → changed_kind a b ≡ Some kind → (merged_kind a b ≡ Some kind) × (is_null a ≡ true) × (is_null kind ≡ false)
becomes NullRef Ints kind e = (e, refl, let k : Ints ≡ kind = cc in ap is_null (sym k))
becomes NullRef Bools kind e = (e, refl, let k : Bools ≡ kind = cc in ap is_null (sym k))
becomes _ _ kind e = absurd (cc)

-- Another kind that merges stays.
stays : (a b : Kind) → changed_kind a b ≡ None → is_some (merged_kind a b) ≡ true → merged_kind a b ≡ Some a
stays Int Int e merges = refl
stays Native Native e merges = refl
stays Text Text e merges = refl
stays AddrInts AddrInts e merges = refl
stays AddrBools AddrBools e merges = refl
stays Ints Ints e merges = refl
stays Bools Bools e merges = refl
stays NullRef NullRef e merges = refl
stays Ints NullRef e merges = refl
stays Bools NullRef e merges = refl
stays NullRef Ints e merges = absurd (cc)
stays NullRef Bools e merges = absurd (cc)
stays _ _ e merges = absurd (cc)

-- What puts a stack together has a kind.
first_there : (kind : Option Kind) (kinds : Option (List Kind)) → is_some (with_kind kind kinds) ≡ true → is_some kind ≡ true
first_there (Some kind) kinds e = refl
first_there None kinds e = absurd (cc)

fewer_nulls : (stack : List Kind) (i : ℕ) (kind d : Kind) → i < length stack → is_null (get_or stack i d) ≡ true → is_null kind ≡ false → nulls (set stack i kind) < nulls stack
fewer_nulls stack i kind d inside was now =
    let e = sum_by-set (λ k. one_if (is_null k)) stack i kind d inside in
    let h = rw (was, now) at e in
    omega (arith, h)

-- The first kinds of a stack are merged, and the others still are what they were.
pub record AreMerging (old before stack : List Kind) (i : ℕ) (changed : Bool) : Type 0 where
  pub same_length : length before ≡ length stack
  pub kept_length : length before ≡ length old
  pub merges : is_some (merged (drop i before) (drop i stack)) ≡ true
  pub rest : merged old stack ≡ option_map (λ rest. take i before ++ rest) (merged (drop i before) (drop i stack))
  pub same : changed ≡ false → before ≡ old
  pub fewer : changed ≡ true → nulls before < nulls old

same_lengths : (before stack : List Kind) → is_some (merged before stack) ≡ true → length before ≡ length stack
same_lengths before stack merges = elim (cases_eq (length before) (length stack)) [ inl e ↦ e | inr h ↦ absurd (let e = merged-lengths before stack h in cc) ]

-- Before the first kind.
pub merging_begins : (before stack : List Kind) → is_some (merged before stack) ≡ true → AreMerging before before stack 0 false
merging_begins before stack merges = record {
  same_length = same_lengths before stack merges;
  kept_length = refl;
  merges = merges;
  rest = sym (option_map_id (merged before stack));
  same = λ h. refl;
  fewer = λ h. absurd (cc);
}

-- Behind the last one.
pub merging_ends : (old before stack : List Kind) (changed : Bool) (i : ℕ) → length before ≤ i → AreMerging old before stack i changed → merged old stack ≡ Some before
merging_ends old before stack changed i end h =
    let e : drop i before ≡ [] = drop_all i before end in
    let f : drop i stack ≡ [] = drop_all i stack (omega (arith, h.same_length)) in
    let g : take i before ≡ before = take_all i before end in
    let r = rw (e, f, g) at h.rest in
    r ∙ ap Some (append-nil before)

-- Each step merges the kinds at one place.
step_rest : (a b kind : Kind) (prefix before stack : List Kind) → merged_kind a b ≡ Some kind
    → option_map (λ rest. prefix ++ rest) (merged (a ∷ before) (b ∷ stack)) ≡ option_map (λ rest. (prefix ++ kind ∷ []) ++ rest) (merged before stack)
step_rest a b kind prefix before stack e = rw e (through (merged before stack))
  where
    through : (m : Option (List Kind)) → option_map (λ rest. prefix ++ rest) (with_kind (Some kind) m) ≡ option_map (λ rest. (prefix ++ kind ∷ []) ++ rest) m
    through None = refl
    through (Some kinds) = ap Some (sym (append_assoc prefix (kind ∷ []) kinds))

-- What is known at a place.
record Here (old before stack : List Kind) (i : ℕ) (d e kind : Kind) : Type 0 where
  merges : is_some (merged (drop (i + 1) before) (drop (i + 1) stack)) ≡ true
  rest : merged old stack ≡ option_map (λ rest. (take i before ++ kind ∷ []) ++ rest) (merged (drop (i + 1) before) (drop (i + 1) stack))

here : (old before stack : List Kind) (changed : Bool) (i : ℕ) (d e kind : Kind) → i < length before → merged_kind (get_or before i d) (get_or stack i e) ≡ Some kind
    → AreMerging old before stack i changed → Here old before stack i d e kind
here old before stack changed i d e kind inside this h =
    let p : drop i before ≡ get_or before i d ∷ drop (i + 1) before = drop_more before i d inside in
    let q : drop i stack ≡ get_or stack i e ∷ drop (i + 1) stack = drop_more stack i e (omega (arith, h.same_length)) in
    let m = rw (p, q) at h.merges in
    let r = rw (p, q) at h.rest in
    record {
      merges = sym (with_some kind _) ∙ ap (λ k. is_some (with_kind k (merged (drop (i + 1) before) (drop (i + 1) stack)))) (sym this) ∙ m;
      rest = r ∙ step_rest (get_or before i d) (get_or stack i e) kind (take i before) (drop (i + 1) before) (drop (i + 1) stack) this;
    }

-- All of them merge.
merges_here : (old before stack : List Kind) (changed : Bool) (i : ℕ) (d e : Kind) → i < length before → AreMerging old before stack i changed
    → is_some (merged_kind (get_or before i d) (get_or stack i e)) ≡ true
merges_here old before stack changed i d e inside h =
    let p : drop i before ≡ get_or before i d ∷ drop (i + 1) before = drop_more before i d inside in
    let q : drop i stack ≡ get_or stack i e ∷ drop (i + 1) stack = drop_more stack i e (omega (arith, h.same_length)) in
    first_there (merged_kind (get_or before i d) (get_or stack i e)) (merged (drop (i + 1) before) (drop (i + 1) stack)) (rw (p, q) at h.merges)

-- The kind there stays.
pub merging_keeps : (old before stack : List Kind) (changed : Bool) (i : ℕ) (d e : Kind) → i < length before
    → changed_kind (get_or before i d) (get_or stack i e) ≡ None → AreMerging old before stack i changed → AreMerging old before stack (i + 1) changed
merging_keeps old before stack changed i d e inside none h =
    let this = stays (get_or before i d) (get_or stack i e) none (merges_here old before stack changed i d e inside h) in
    let k = here old before stack changed i d e (get_or before i d) inside this h in
    record {
      same_length = h.same_length;
      kept_length = h.kept_length;
      merges = k.merges;
      rest = rw (take_more before i d inside) k.rest;
      same = h.same;
      fewer = h.fewer;
    }

no_more : (old before : List Kind) (changed : Bool) → (changed ≡ false → before ≡ old) → (changed ≡ true → nulls before < nulls old) → nulls before ≤ nulls old
no_more old before false same fewer = rw (same refl) (omega arith)
no_more old before true same fewer = omega (arith, fewer refl)

-- The kind there changes.
pub merging_changes : (old before stack : List Kind) (changed : Bool) (i : ℕ) (d e kind : Kind) → i < length before
    → changed_kind (get_or before i d) (get_or stack i e) ≡ Some kind → AreMerging old before stack i changed
    → AreMerging old (set before i kind) stack (i + 1) true
merging_changes old before stack changed i d e kind inside this h =
    let c = becomes (get_or before i d) (get_or stack i e) kind this in
    let k = here old before stack changed i d e kind inside c.0 h in
    let n = length-set before i kind in
    let behind : drop (i + 1) (set before i kind) ≡ drop (i + 1) before = drop-set-lt (i + 1) before i kind (omega arith) in
    record {
      same_length = n ∙ h.same_length;
      kept_length = n ∙ h.kept_length;
      merges = rw behind k.merges;
      rest = rw (take_more_set before i kind inside, behind) k.rest;
      same = λ f. absurd (cc);
      fewer = λ t. omega (arith, fewer_nulls before i kind d inside c.1 c.2, no_more old before changed h.same h.fewer);
    }
