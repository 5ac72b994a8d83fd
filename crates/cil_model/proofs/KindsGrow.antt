-- Passes never take kinds back: the stacks stay, or they grow. So where a pass changes nothing, no instruction of
-- it does.
use Rattle.std.proofs.Common.{◌≡◌, ◌⊎◌, ℕ, zero, suc, ◌+◌, ◌<◌, ◌==◌, false, ◌&&◌, not, List, [], ◌∷◌, length, Option, Some, None, Result, Ok, Err, refl, sym, ap, subst, ◌∙◌, arith, inl, inr}
use Rattle.std.specs.List.{AllByRecursion}
use Rattle.std.specs.Option.{option_or}
use Rattle.std.proofs.lemmas.Bool.{cond_both}
use Rattle.std.proofs.lemmas.List.{length-map}
use Rattle.std.proofs.lemmas.Option.{none-some, same_Some}
use Rattle.cil_model.specs.Code.{begins_at}
use Rattle.cil_model.specs.Kinds.{typed}
use Rattle.cil_model.specs.Passes.{Stacks, after_pass, after_passes, arrived, come_to, come_to_all, first_stacks, follow, going_on, goes_behind, lowest_conflict, merged, merged_kind, pass_over, stack_at, successors, visited, with_kind}
use Rattle.cil_model.specs.declared.instruction.Instr.{Instr}
use Rattle.cil_model.specs.declared.place.Kind.{Kind}
use Rattle.cil_model.specs.declared.place.Kind.TheVariants.{Int, Native, Ints, Bools, NullRef, Text, AddrInts, AddrBools}
use Rattle.cil_model.specs.declared.shape.Shape.{Shape}
use Rattle.cil_model.specs.declared.type_fault.TypeFault.{TypeFault}

-- ---- how much is known

abbrev weight : Kind → ℕ
weight NullRef = 0
weight _ = 1

abbrev weights : List Kind → ℕ
weights [] = 0
weights (kind ∷ kinds) = weight kind + weights kinds

abbrev known : Option (List Kind) → ℕ
known None = 0
known (Some kinds) = suc (weights kinds)

abbrev all_known : Stacks → ℕ
all_known [] = 0
all_known (stack ∷ stacks) = known stack + all_known stacks

-- As many stacks as before, and the same ones or more that is known.
record Grows (old new : Stacks) : Type 0 where
  long : length new ≡ length old
  more : (old ≡ new) ⊎ (all_known old < all_known new)

stays : (s : Stacks) → Grows s s
stays s = record { long = refl; more = inl refl }

grows_on : (a b c : Stacks) → Grows a b → Grows b c → Grows a c
grows_on a b c h k = record { long = k.long ∙ h.long; more = on h.more k.more }
  where
    on : (a ≡ b) ⊎ (all_known a < all_known b) → (b ≡ c) ⊎ (all_known b < all_known c) → (a ≡ c) ⊎ (all_known a < all_known c)
    on (inl e) (inl f) = inl (e ∙ f)
    on (inl e) (inr f) = inr (let same = ap all_known e in omega arith)
    on (inr e) (inl f) = inr (let same = ap all_known f in omega arith)
    on (inr e) (inr f) = inr (omega arith)

both_ways_same : (a b : Stacks) → Grows a b → Grows b a → a ≡ b
both_ways_same a b h k = same h.more k.more
  where
    same : (a ≡ b) ⊎ (all_known a < all_known b) → (b ≡ a) ⊎ (all_known b < all_known a) → a ≡ b
    same (inl e) f = e
    same (inr e) (inl f) = sym f
    same (inr e) (inr f) = absurd (omega arith)

-- ---- merging

kind_grows : (a b c : Kind) → merged_kind a b ≡ Some c → (a ≡ c) ⊎ (weight a < weight c)
kind_grows Int Int c e = inl (same_Some Int c e)
kind_grows Native Native c e = inl (same_Some Native c e)
kind_grows Ints Ints c e = inl (same_Some Ints c e)
kind_grows Bools Bools c e = inl (same_Some Bools c e)
kind_grows NullRef NullRef c e = inl (same_Some NullRef c e)
kind_grows Text Text c e = inl (same_Some Text c e)
kind_grows AddrInts AddrInts c e = inl (same_Some AddrInts c e)
kind_grows AddrBools AddrBools c e = inl (same_Some AddrBools c e)
kind_grows Ints NullRef c e = inl (same_Some Ints c e)
kind_grows Bools NullRef c e = inl (same_Some Bools c e)
kind_grows NullRef Ints c e = inr (subst (λ (k : Kind). 0 < weight k) (same_Some Ints c e) (omega arith))
kind_grows NullRef Bools c e = inr (subst (λ (k : Kind). 0 < weight k) (same_Some Bools c e) (omega arith))
kind_grows _ _ c e = absurd (none-some c e)

-- The first kind and the others of a stack that was put together.
pub record Parts (kind : Option Kind) (kinds : Option (List Kind)) (all : List Kind) : Type 0 where
  pub first : Kind
  pub others : List Kind
  pub first_is : kind ≡ Some first
  pub others_are : kinds ≡ Some others
  pub all_is : all ≡ first ∷ others

pub parts : (kind : Option Kind) (kinds : Option (List Kind)) (all : List Kind) → with_kind kind kinds ≡ Some all → Parts kind kinds all
parts (Some kind) (Some kinds) all e =
    record { first = kind; others = kinds; first_is = refl; others_are = refl; all_is = sym (same_Some (kind ∷ kinds) all e) }
parts None kinds all e = absurd (none-some all e)
parts (Some kind) None all e = absurd (none-some all e)

stack_grows : (a b c : List Kind) → merged a b ≡ Some c → (a ≡ c) ⊎ (weights a < weights c)
stack_grows [] [] c e = inl (same_Some [] c e)
stack_grows (a ∷ xs) (b ∷ ys) c e =
    let p = parts (merged_kind a b) (merged xs ys) c e in
    subst (λ (all : List Kind). (a ∷ xs ≡ all) ⊎ (weights (a ∷ xs) < weights all)) (sym p.all_is)
    (both p.first p.others (kind_grows a b p.first p.first_is) (stack_grows xs ys p.others p.others_are))
  where
    both : (k : Kind) (ks : List Kind) → (a ≡ k) ⊎ (weight a < weight k) → (xs ≡ ks) ⊎ (weights xs < weights ks)
        → (a ∷ xs ≡ k ∷ ks) ⊎ (weights (a ∷ xs) < weights (k ∷ ks))
    both k ks (inl e) (inl f) = inl cc
    both k ks (inl e) (inr f) = inr (let same = ap weight e in omega arith)
    both k ks (inr e) (inl f) = inr (let same = ap weights f in omega arith)
    both k ks (inr e) (inr f) = inr (omega arith)
stack_grows [] (b ∷ ys) c e = absurd (none-some c e)
stack_grows (a ∷ xs) [] c e = absurd (none-some c e)

entry_grows : (before : Option (List Kind)) (stack : List Kind)
    → (before ≡ option_or (arrived before stack) before) ⊎ (known before < known (option_or (arrived before stack) before))
entry_grows None stack = inr (omega arith)
entry_grows (Some kinds) stack = by (merged kinds stack) (λ c e. stack_grows kinds stack c e)
  where
    by : (new : Option (List Kind)) → ((c : List Kind) → new ≡ Some c → (kinds ≡ c) ⊎ (weights kinds < weights c))
        → (Some kinds ≡ option_or new (Some kinds)) ⊎ (known (Some kinds) < known (option_or new (Some kinds)))
    by None grow = inl refl
    by (Some c) grow = elim (grow c refl) [ inl same ↦ inl (ap Some same) | inr more ↦ inr (omega arith) ]

-- ---- one instruction

first_grows : (old new : Option (List Kind)) (rest : Stacks) → (old ≡ new) ⊎ (known old < known new) → Grows (old ∷ rest) (new ∷ rest)
first_grows old new rest (inl same) = record { long = refl; more = inl (ap (λ (s : Option (List Kind)). s ∷ rest) same) }
first_grows old new rest (inr more) = record { long = refl; more = inr (omega arith) }

others_grow : (first : Option (List Kind)) (old new : Stacks) → Grows old new → Grows (first ∷ old) (first ∷ new)
others_grow first old new h = record { long = ap suc h.long; more = by h.more }
  where
    by : (old ≡ new) ⊎ (all_known old < all_known new) → (first ∷ old ≡ first ∷ new) ⊎ (all_known (first ∷ old) < all_known (first ∷ new))
    by (inl same) = inl (ap (λ (s : Stacks). first ∷ s) same)
    by (inr more) = inr (omega arith)

come_to_grows : (is : List Instr) (s : Stacks) (at : ℕ) (stack : List Kind) → Grows s (come_to is s at stack)
come_to_grows (i ∷ is) (before ∷ s) at stack =
    cond_both (i.at == at) _ _ (Grows (before ∷ s))
    (λ here. first_grows before (option_or (arrived before stack) before) s (entry_grows before stack))
    (λ later. others_grow before s (come_to is s at stack) (come_to_grows is s at stack))
come_to_grows [] s at stack = stays s
come_to_grows (i ∷ is) [] at stack = stays []

come_to_all_grows : (is : List Instr) (s : Stacks) (stack : List Kind) (ats : List ℕ) → Grows s (come_to_all is s stack ats)
come_to_all_grows is s stack [] = stays s
come_to_all_grows is s stack (at ∷ ats) =
    grows_on s (come_to is s at stack) (come_to_all is (come_to is s at stack) stack ats) (come_to_grows is s at stack)
    (come_to_all_grows is (come_to is s at stack) stack ats)

-- Where the stacks stay after all, they stay at each.
pub come_to_each : (is : List Instr) (s : Stacks) (stack : List Kind) (ats : List ℕ) → come_to_all is s stack ats ≡ s
    → AllByRecursion (λ at. come_to is s at stack ≡ s) ats
come_to_each is s stack [] e = tt
come_to_each is s stack (at ∷ ats) e =
    let back = subst (Grows (come_to is s at stack)) e (come_to_all_grows is (come_to is s at stack) stack ats) in
    let same : come_to is s at stack ≡ s = both_ways_same (come_to is s at stack) s back (come_to_grows is s at stack) in
    (same, come_to_each is s stack ats (subst (λ (t : Stacks). come_to_all is t stack ats ≡ s) same e))

-- ---- one pass

-- What the outcome of a visit was made of.
pub record Followed (is : List Instr) (s : Stacks) (i : Instr) (stack : List Kind) (t : Stacks) : Type 0 where
  pub behind : (goes_behind i.op && not (begins_at is (i.at + i.size))) ≡ false
  pub merge : lowest_conflict is s stack (successors i.op (i.at + i.size)) ≡ None
  pub comes : come_to_all is s stack (successors i.op (i.at + i.size)) ≡ t

abbrev done : Stacks → Result Stacks TypeFault
done s = Ok s

same_ok : (s t : Stacks) → done s ≡ Ok t → s ≡ t
same_ok s t e = cc

going_on_from : (is : List Instr) (s t : Stacks) (conflict : Option ℕ) (stack : List Kind) (ats : List ℕ) → going_on is s conflict stack ats ≡ Ok t
    → (conflict ≡ None) × (come_to_all is s stack ats ≡ t)
going_on_from is s t None stack ats e = (refl, same_ok (come_to_all is s stack ats) t e)
going_on_from is s t (Some at) stack ats e = absurd cc

pub follow_from : (is : List Instr) (s t : Stacks) (i : Instr) (stack : List Kind) → follow is s i (Ok stack) ≡ Ok t → Followed is s i stack t
follow_from is s t i stack e =
    cond_both (goes_behind i.op && not (begins_at is (i.at + i.size))) _ _ (λ (r : Result Stacks TypeFault). r ≡ Ok t → Followed is s i stack t)
    (λ falls f. absurd cc)
    (λ stands f. let both = going_on_from is s t (lowest_conflict is s stack (successors i.op (i.at + i.size))) stack (successors i.op (i.at + i.size)) f in
    record { behind = stands; merge = both.0; comes = both.1 })
    e

follow_grows : (is : List Instr) (s t : Stacks) (i : Instr) (stack : Result (List Kind) TypeFault) → follow is s i stack ≡ Ok t → Grows s t
follow_grows is s t i (Err fault) e = absurd cc
follow_grows is s t i (Ok stack) e =
    subst (Grows s) (follow_from is s t i stack e).comes (come_to_all_grows is s stack (successors i.op (i.at + i.size)))

visited_grows : (shape : Shape) (is : List Instr) (s t : Stacks) (i : Instr) (before : Option (List Kind)) → visited shape is s i before ≡ Ok t
    → Grows s t
visited_grows shape is s t i None e = subst (Grows s) (same_ok s t e) (stays s)
visited_grows shape is s t i (Some stack) e = follow_grows is s t i (typed shape i stack) e

module _ (shape : Shape) (is : List Instr) where
  fault_stays : (rest : List Instr) (fault : TypeFault) (t : Stacks) → pass_over shape is rest (Err fault) ≡ Ok t → ⊥
  fault_stays [] fault t e = cc
  fault_stays (i ∷ rest) fault t e = cc

  -- An instruction of a pass, and the others after it.
  visit : (rest : List Instr) (i : Instr) (s t : Stacks) (outcome : Result Stacks TypeFault) → outcome ≡ visited shape is s i (stack_at is s i.at)
      → pass_over shape is rest outcome ≡ Ok t → (mid : Stacks) × (outcome ≡ Ok mid) × Grows s mid × (pass_over shape is rest (Ok mid) ≡ Ok t)
  visit rest i s t (Err fault) v e = absurd (fault_stays rest fault t e)
  visit rest i s t (Ok mid) v e = (mid, refl, visited_grows shape is s mid i (stack_at is s i.at) (sym v), e)

  pass_over_grows : (rest : List Instr) (s t : Stacks) → pass_over shape is rest (Ok s) ≡ Ok t → Grows s t
  pass_over_grows [] s t e = subst (Grows s) (same_ok s t e) (stays s)
  pass_over_grows (i ∷ rest) s t e =
      let (mid, is_mid, grows, others) = visit rest i s t (visited shape is s i (stack_at is s i.at)) refl e in
      grows_on s mid t grows (pass_over_grows rest mid t others)

  -- A pass that changes nothing changes nothing at any instruction.
  pub visit_each : (rest : List Instr) (s : Stacks) → pass_over shape is rest (Ok s) ≡ Ok s
      → AllByRecursion (λ i. visited shape is s i (stack_at is s i.at) ≡ Ok s) rest
  visit_each [] s e = tt
  visit_each (i ∷ rest) s e =
      let (mid, is_mid, grows, others) = visit rest i s s (visited shape is s i (stack_at is s i.at)) refl e in
      let same : mid ≡ s = both_ways_same mid s (pass_over_grows rest mid s others) grows in
      (is_mid ∙ ap Ok same, visit_each rest s (subst (λ (t : Stacks). pass_over shape is rest (Ok t) ≡ Ok s) same others))

  -- ---- all passes

  first_long : (s : Stacks) → first_stacks is ≡ Ok s → length s ≡ length is
  first_long s e = long is e
    where
      long : (js : List Instr) → first_stacks js ≡ Ok s → length s ≡ length js
      long [] e = absurd cc
      long (j ∷ js) e = ap length (sym (same_ok _ s e)) ∙ ap suc (length-map js _)

  -- There are as many stacks as instructions.
  pub stacks_long : (n : ℕ) (s : Stacks) → after_passes shape is n ≡ Ok s → length s ≡ length is
  stacks_long zero s e = first_long s e
  stacks_long (suc n) s e = by (after_passes shape is n) (stacks_long n) e
    where
      by : (r : Result Stacks TypeFault) → ((mid : Stacks) → r ≡ Ok mid → length mid ≡ length is) → after_pass shape is r ≡ Ok s
          → length s ≡ length is
      by (Err fault) before e = absurd cc
      by (Ok mid) before e = (pass_over_grows is mid s e).long ∙ before mid refl
