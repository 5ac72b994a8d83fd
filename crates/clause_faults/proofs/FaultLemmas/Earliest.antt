-- The first of faults: it does not depend on their order, nor on how often one of them stands there.
use Rattle.std.proofs.Common.{◌≡◌, ℕ, ◌+◌, ◌*◌, ◌<◌, ◌≤◌, ◌==◌, min, Bool, true, false, ◌&&◌, ◌||◌, List, [], ◌∷◌, ◌++◌, length, get_or, take, Option, Some, None, refl, sym, ap, ◌∙◌, arith, lit<, if◌then◌else◌}
use Rattle.std.specs.Prelude.{nat_lt}
use Rattle.std.specs.List.{flat_map, list_any}
use Rattle.std.proofs.lemmas.Bool.Decides.{nat_tests}
use Rattle.std.proofs.lemmas.Bool.{cond_both}
use Rattle.std.proofs.lemmas.Grind.{take_at_read}
use Rattle.clause_faults.specs.Faults.{comes_before, earlier, fault_at, fault_if, fault_rank, first_fault}
use Rattle.clause_faults.specs.SharedStacks.{either, least}
use Rattle.clause_faults.specs.declared.clause_fault.ClauseFault.{ClauseFault}
use Rattle.clause_faults.specs.declared.clause_fault.ClauseFault.TheVariants.{NotPure, Backward, StackLeft, IntoBlock, OldForm, TooLong}

-- ---- faults by number

abbrev fault_of : ℕ → ℕ → ClauseFault
fault_of at rank =
    if rank == 1 then NotPure at else if rank == 2 then Backward at else if rank == 3 then StackLeft at
    else if rank == 4 then IntoBlock at else if rank == 5 then OldForm at else TooLong at

fault_of-is : (a : ClauseFault) → fault_of (fault_at a) (fault_rank a) ≡ a
fault_of-is (NotPure at) = refl
fault_of-is (Backward at) = refl
fault_of-is (StackLeft at) = refl
fault_of-is (IntoBlock at) = refl
fault_of-is (OldForm at) = refl
fault_of-is (TooLong at) = refl

rank_small : (a : ClauseFault) → fault_rank a < 8
rank_small (NotPure at) = lit< tt
rank_small (Backward at) = lit< tt
rank_small (StackLeft at) = lit< tt
rank_small (IntoBlock at) = lit< tt
rank_small (OldForm at) = lit< tt
rank_small (TooLong at) = lit< tt

number : ClauseFault → ℕ
number a = 8 * fault_at a + fault_rank a

number_same : (a b : ClauseFault) → number a ≡ number b → a ≡ b
unfolding number
number_same a b e =
    let r = rank_small a in
    let s = rank_small b in
    let at : fault_at a ≡ fault_at b = omega arith in
    let rank : fault_rank a ≡ fault_rank b = omega arith in
    sym (fault_of-is a) ∙ ap (λ n. fault_of n (fault_rank a)) at ∙ ap (fault_of (fault_at b)) rank ∙ fault_of-is b

before_true : (m n r s : ℕ) → r < 8 → s < 8 → (nat_lt m n || (m == n && nat_lt r s)) ≡ true → 8 * m + r < 8 * n + s
before_true m n r s h k e = grind (arith, nat_tests)

before_false : (m n r s : ℕ) → r < 8 → s < 8 → (nat_lt m n || (m == n && nat_lt r s)) ≡ false → 8 * n + s ≤ 8 * m + r
before_false m n r s h k e = grind (arith, nat_tests)

number-earlier : (a b : ClauseFault) → number (earlier a (Some b)) ≡ min (number a) (number b)
unfolding number
number-earlier a b =
    cond_both (comes_before b a) b a (λ (c : ClauseFault). number c ≡ min (number a) (number b))
    (λ e. omega (arith, before_true (fault_at b) (fault_at a) (fault_rank b) (fault_rank a) (rank_small b) (rank_small a) e))
    (λ e. omega (arith, before_false (fault_at b) (fault_at a) (fault_rank b) (fault_rank a) (rank_small b) (rank_small a) e))

-- ---- the earlier of two

pub either-none : (x : Option ClauseFault) → either x None ≡ x
either-none None = refl
either-none (Some a) = refl

pub either-same : (x : Option ClauseFault) → either x x ≡ x
either-same None = refl
either-same (Some a) = ap Some (number_same _ _ (number-earlier a a ∙ omega arith))

pub either-comm : (x y : Option ClauseFault) → either x y ≡ either y x
either-comm None y = sym (either-none y)
either-comm (Some a) None = refl
either-comm (Some a) (Some b) = ap Some (number_same _ _ (omega (arith, number-earlier a b, number-earlier b a)))

pub either-assoc : (x y z : Option ClauseFault) → either (either x y) z ≡ either x (either y z)
either-assoc None y z = refl
either-assoc (Some a) None z = refl
either-assoc (Some a) (Some b) None = refl
either-assoc (Some a) (Some b) (Some c) =
    ap Some (number_same _ _ (omega (arith, number-earlier (earlier a (Some b)) c, number-earlier a b, number-earlier a (earlier b (Some c)), number-earlier b c)))

pub either-both : {x y z w : Option ClauseFault} → x ≡ y → z ≡ w → either x z ≡ either y w
either-both {x} {y} {z} {w} e f = ap (λ v. either v z) e ∙ ap (either y) f

-- Two pairs, turned.
pub either-turn : (x y z w : Option ClauseFault) → either (either x y) (either z w) ≡ either (either x z) (either y w)
either-turn x y z w =
    either-assoc x y (either z w) ∙ ap (either x) (sym (either-assoc y z w) ∙ ap (λ v. either v w) (either-comm y z) ∙ either-assoc z y w)
    ∙ sym (either-assoc x z (either y w))

-- ---- the first of a list

pub first_fault-append : (xs ys : List ClauseFault) → first_fault (xs ++ ys) ≡ either (first_fault xs) (first_fault ys)
first_fault-append [] ys = refl
first_fault-append (x ∷ xs) ys = ap (either (Some x)) (first_fault-append xs ys) ∙ sym (either-assoc (Some x) (first_fault xs) (first_fault ys))

pub first_fault-flat_map : {X : Type 0} (f : X → List ClauseFault) (xs : List X) → first_fault (flat_map f xs) ≡ least (λ x. first_fault (f x)) xs
first_fault-flat_map f [] = refl
first_fault-flat_map f (x ∷ xs) = first_fault-append (f x) (flat_map f xs) ∙ ap (either (first_fault (f x))) (first_fault-flat_map f xs)

module _ {X : Type 0} where
  pub least-append : (f : X → Option ClauseFault) (xs ys : List X) → least f (xs ++ ys) ≡ either (least f xs) (least f ys)
  least-append f [] ys = refl
  least-append f (x ∷ xs) ys = ap (either (f x)) (least-append f xs ys) ∙ sym (either-assoc (f x) (least f xs) (least f ys))

  -- The first of one more.
  pub least-next : (f : X → Option ClauseFault) (xs : List X) (i : ℕ) (d : X) → i < length xs → least f (take (i + 1) xs) ≡ either (least f (take i xs)) (f (get_or xs i d))
  least-next f xs i d within =
      ap (least f) (take_at_read xs i d within).1 ∙ least-append f (take i xs) (get_or xs i d ∷ []) ∙ ap (either (least f (take i xs))) (either-none (f (get_or xs i d)))

  pub least-either : (f g : X → Option ClauseFault) (xs : List X) → least (λ x. either (f x) (g x)) xs ≡ either (least f xs) (least g xs)
  least-either f g [] = refl
  least-either f g (x ∷ xs) = ap (either (either (f x) (g x))) (least-either f g xs) ∙ either-turn (f x) (g x) (least f xs) (least g xs)

  pub least-none : (xs : List X) → least (λ x. None) xs ≡ None
  least-none [] = refl
  least-none (x ∷ xs) = least-none xs

  pub least-same : (f g : X → Option ClauseFault) (xs : List X) → ((x : X) → f x ≡ g x) → least f xs ≡ least g xs
  least-same f g [] same = refl
  least-same f g (x ∷ xs) same = rw (same x, least-same f g xs same) refl

  -- Where some have the fault and the others none.
  pub least-if : (p : X → Bool) (fault : ClauseFault) (xs : List X)
      → least (λ x. first_fault (fault_if (p x) fault)) xs ≡ first_fault (fault_if (list_any p xs) fault)
  least-if p fault [] = refl
  least-if p fault (x ∷ xs) = ap (either (first_fault (fault_if (p x) fault))) (least-if p fault xs) ∙ joined (p x) (list_any p xs)
    where
      joined : (a b : Bool) → either (first_fault (fault_if a fault)) (first_fault (fault_if b fault)) ≡ first_fault (fault_if (a || b) fault)
      joined true true = either-same (Some fault)
      joined true false = refl
      joined false b = refl

pub least-flat_map : {X Y : Type 0} (f : Y → Option ClauseFault) (g : X → List Y) (xs : List X) → least f (flat_map g xs) ≡ least (λ x. least f (g x)) xs
least-flat_map f g [] = refl
least-flat_map f g (x ∷ xs) = least-append f (g x) (flat_map g xs) ∙ ap (either (least f (g x))) (least-flat_map f g xs)

pub ruleset appended_faults = (first_fault-append)
