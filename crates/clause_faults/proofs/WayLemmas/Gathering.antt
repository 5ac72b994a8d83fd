-- Gathered arrivals stand for the same stacks.
use Rattle.std.proofs.Common.{◌≡◌, ℕ, zero, suc, ◌+◌, ◌<◌, List, [], ◌∷◌, ◌++◌, length, take, get_or, set, Option, Some, slice_get, refl, sym, ap, subst, ◌∙◌, inl, inr}
use Rattle.std.specs.List.{AllByRecursion}
use Rattle.std.proofs.lemmas.Option.{none-some, same_Some}
use Rattle.std.proofs.lemmas.Grind.{take_at_read}
use Rattle.cil_model.proofs.Lists.{all_append, all_split}
use Rattle.clause_faults.specs.GatheredStacks.{IsJoinOf, IsPut, StandForSame}
use Rattle.clause_faults.specs.JoinedStacks.{IsJoined, IsJoining}
use Rattle.clause_faults.specs.SharedStacks.{AreGrounded, IsGrounded, Stacks, either, least, least_of, least_over, told_of}
use Rattle.clause_faults.specs.Ways.{Told}
use Rattle.clause_faults.specs.declared.ways.arrivals.Arrival.{Arrival}
use Rattle.clause_faults.specs.declared.ways.arrivals.Arrival.TheVariants.{Empty, Over}
use Rattle.clause_faults.specs.declared.ways.arrivals.Seen.{Seen}
use Rattle.clause_faults.specs.declared.clause_fault.ClauseFault.{ClauseFault}
use Rattle.clause_faults.proofs.FaultLemmas.Earliest.{either-assoc, either-both, either-comm, either-same, least-append, either-none}
use Rattle.clause_faults.proofs.WayLemmas.Standing.{called-lower, called_of, called_seen, least_of-joined}

-- ---- one arrival that is joined

values_joined : (a b joined : Seen) (m n l : ℕ) → IsJoinOf (Over a m) (Over b n) (Over joined l) → IsJoined (told_of a) (told_of b) (told_of joined)
values_joined a b joined m n l j = record {
  left = j.0;
  right = j.1;
  calls = called_seen joined ∙ ap called_of j.2 ∙ called-lower a.call b.call ∙ sym (either-both (called_seen a) (called_seen b));
}

join_judged : (most : ℕ) (stacks : Stacks) (fault : List Told → Option ClauseFault) → IsJoining fault → (a b joined : Arrival) → IsJoinOf a b joined
    → least_of most stacks fault joined ≡ either (least_of most stacks fault a) (least_of most stacks fault b)
join_judged most stacks fault joins Empty Empty Empty j = sym (either-same (fault []))
join_judged most stacks fault joins (Over a m) (Over b n) (Over joined l) j =
    least_of-joined stacks most fault a b joined l joins (values_joined a b joined m n l j)
    ∙ either-both (ap (λ (k : ℕ). least_of most stacks fault (Over a k)) j.3) (ap (λ (k : ℕ). least_of most stacks fault (Over b k)) j.4)
join_judged most stacks fault joins Empty Empty (Over joined l) j = absurd j
join_judged most stacks fault joins Empty (Over b n) joined j = absurd j
join_judged most stacks fault joins (Over a m) Empty joined j = absurd j
join_judged most stacks fault joins (Over a m) (Over b n) Empty j = absurd j

join_grounded : (stacks : Stacks) (index : ℕ) (a b joined : Arrival) → IsJoinOf a b joined → IsGrounded stacks index a → IsGrounded stacks index joined
join_grounded stacks index Empty Empty Empty j g = tt
join_grounded stacks index (Over a m) (Over b n) (Over joined l) j g = rw j.3 g
join_grounded stacks index Empty Empty (Over joined l) j g = absurd j
join_grounded stacks index Empty (Over b n) joined j g = absurd j
join_grounded stacks index (Over a m) Empty joined j g = absurd j
join_grounded stacks index (Over a m) (Over b n) Empty j g = absurd j

-- ---- a list of which one is joined

least-set : (f : Arrival → Option ClauseFault) (old : List Arrival) (place : ℕ) (there arrival joined : Arrival) → slice_get old place ≡ Some there
    → f joined ≡ either (f there) (f arrival) → least f (set old place joined) ≡ either (least f old) (f arrival)
least-set f [] place there arrival joined is e = absurd (none-some there is)
least-set f (x ∷ old) zero there arrival joined is e =
    let same : f x ≡ f there = ap f (same_Some x there is) in
    ap (λ v. either v (least f old)) (e ∙ ap (λ v. either v (f arrival)) (sym same))
    ∙ either-assoc (f x) (f arrival) (least f old) ∙ ap (either (f x)) (either-comm (f arrival) (least f old)) ∙ sym (either-assoc (f x) (least f old) (f arrival))
least-set f (x ∷ old) (suc place) there arrival joined is e =
    ap (either (f x)) (least-set f old place there arrival joined is e) ∙ sym (either-assoc (f x) (least f old) (f arrival))

all-set : (P : Arrival → Type 0) (old : List Arrival) (place : ℕ) (there joined : Arrival) → slice_get old place ≡ Some there → (P there → P joined)
    → AllByRecursion P old → AllByRecursion P (set old place joined)
all-set P [] place there joined is keeps all = tt
all-set P (x ∷ old) zero there joined is keeps all = (keeps (subst P (same_Some x there is) all.0), all.1)
all-set P (x ∷ old) (suc place) there joined is keeps all = (all.0, all-set P old place there joined is keeps all.1)

-- ---- one more

put_judged : (most : ℕ) (stacks : Stacks) (fault : List Told → Option ClauseFault) → IsJoining fault → (old new : List Arrival) (arrival : Arrival) → IsPut old arrival new
    → least_over most stacks fault new ≡ either (least_over most stacks fault old) (least_of most stacks fault arrival)
put_judged most stacks fault joins old new arrival (inl e) =
    let f : Arrival → Option ClauseFault = λ a. least_of most stacks fault a in
    ap (least f) e ∙ least-append f old (arrival ∷ []) ∙ ap (either (least f old)) (either-none (f arrival))
put_judged most stacks fault joins old new arrival (inr j) =
    let f : Arrival → Option ClauseFault = λ a. least_of most stacks fault a in
    ap (least f) j.are ∙ least-set f old j.place j.there arrival j.joined j.is (join_judged most stacks fault joins j.there arrival j.joined j.join)

put_grounded : (stacks : Stacks) (index : ℕ) (old new : List Arrival) (arrival : Arrival) → IsPut old arrival new
    → AreGrounded stacks index old → IsGrounded stacks index arrival → AreGrounded stacks index new
put_grounded stacks index old new arrival (inl e) all g = subst (AreGrounded stacks index) (sym e) (all_append (IsGrounded stacks index) old (arrival ∷ []) all (g, tt))
put_grounded stacks index old new arrival (inr j) all g =
    subst (AreGrounded stacks index) (sym j.are)
    (all-set (IsGrounded stacks index) old j.place j.there j.joined j.is (λ h. join_grounded stacks index j.there arrival j.joined j.join h) all)

pub nothing_stands : StandForSame [] []
nothing_stands = record { same = λ most stacks fault joins. refl; grounded = λ stacks index all. tt }

one_more : (xs old new : List Arrival) (arrival : Arrival) → StandForSame xs old → IsPut old arrival new → StandForSame (xs ++ arrival ∷ []) new
one_more xs old new arrival so_far put = record {
  same = λ most stacks fault joins.
      (let f : Arrival → Option ClauseFault = λ a. least_of most stacks fault a in
      put_judged most stacks fault joins old new arrival put ∙ ap (λ v. either v (f arrival)) (so_far.same most stacks fault joins)
      ∙ sym (least-append f xs (arrival ∷ []) ∙ ap (either (least f xs)) (either-none (f arrival))));
  grounded = λ stacks index all.
      (let parts = all_split (IsGrounded stacks index) xs (arrival ∷ []) all in
      put_grounded stacks index old new arrival put (so_far.grounded stacks index parts.0) parts.1.0);
}

pub next_gathered : (arrivals : List Arrival) (i : ℕ) (old new : List Arrival) (d : Arrival) → i < length arrivals
    → StandForSame (take i arrivals) old → IsPut old (get_or arrivals i d) new → StandForSame (take (i + 1) arrivals) new
next_gathered arrivals i old new d within so_far put =
    subst (λ (xs : List Arrival). StandForSame xs new) (sym (take_at_read arrivals i d within).1) (one_more (take i arrivals) old new (get_or arrivals i d) so_far put)
