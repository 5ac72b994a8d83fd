-- The first uses of expressions that are worth int32.
use Rattle.std.proofs.Common.{◌≡◌, ℕ, ◌<◌, ℤ, pos, negsuc, ◌+ℤ◌, ◌-ℤ◌, ◌≤ℤ◌, Bool, true, false, ◌&&◌, int_le, List, [], ◌∷◌, length, map, get_or, FitsSigned, w32, refl, sym, ap, ◌∙◌, subst, arith}
use Rattle.std.specs.Prelude.{if◌then◌else◌}
use Rattle.std.specs.List.{AllByRecursion, list_all}
use Rattle.std.proofs.lemmas.Int.{ints}
use Rattle.std.proofs.lemmas.List.Sums.{passes_at_first}
use Rattle.domain_api.specs.declared.expr.Expr.{Expr}
use Rattle.merged_numbers.specs.Meaning.{AreInt32}
use Rattle.symbolic_values.specs.FirstUses.{noted, first_uses}
use Rattle.symbolic_values.specs.Pairing.{behind_first, known_in, named, number_in, origin, paired, same_key, uses_of}
use Rattle.symbolic_values.specs.Worth.{behind_uses, worth, worth_of_use}
use Rattle.symbolic_values.specs.declared.pairs.Key.{Key}
use Rattle.symbolic_values.proofs.Noting.{all_at, all_noted}
use Rattle.symbolic_values.proofs.WorthLaws.{AllKnown, all_known, named_worth}
use Rattle.frame_names.specs.PairedFrames.{is_near}

-- ---- what is so of each use is so of the first uses

pub all_first : (P : Key → Type 0) (known us : List Key) → AllByRecursion P known → AllByRecursion P us
    → AllByRecursion P (first_uses same_key known us)
all_first P known [] all rest = all
all_first P known (u ∷ us) all rest =
    all_first P (noted same_key known u) us (all_noted same_key P known u all rest.0) rest.1

behind_all : (P : Key → Type 0) (us : List Key) → AllByRecursion P us → AllByRecursion P (behind_first us)
behind_all P [] all = tt
behind_all P (u ∷ us) all = all.1

pub all_keys : (P : Key → Type 0) (a b : List Expr) → P origin → AllByRecursion P (uses_of a b)
    → AllByRecursion P (paired a b).keys
all_keys P a b first all = behind_all P (known_in a b) (all_first P (origin ∷ []) (uses_of a b) (first, tt) all)

-- ---- int32

-- Each expression is worth an int32.
abbrev pub AllFit : (ℕ → ℤ) → List Expr → Type 0
AllFit number exprs = AllByRecursion (λ e. FitsSigned w32 (worth number e)) exprs

abbrev pub UseFits : Bool → (ℕ → ℤ) → Key → Type 0
UseFits is_first number u = FitsSigned w32 (worth_of_use is_first number u)

second_worth : (number k l : ℤ) → (number +ℤ l) ≡ (number +ℤ (k +ℤ (l -ℤ k)))
second_worth number k l = omega (arith, ints)

pub uses_fit : (is_first : Bool) (number : ℕ → ℤ) (a b : List Expr) → AllFit number (if is_first then a else b)
    → AllByRecursion (UseFits is_first number) (uses_of a b)
uses_fit true number [] b all = tt
uses_fit true number (e ∷ a) [] all = tt
uses_fit true number (e ∷ a) (f ∷ b) all = (all.0, uses_fit true number a b all.1)
uses_fit false number [] b all = tt
uses_fit false number (e ∷ a) [] all = tt
uses_fit false number (e ∷ a) (f ∷ b) all =
    (subst (FitsSigned w32) (second_worth (number f.sym) e.k f.k) all.0, uses_fit false number a b all.1)

zero_fits : (n : ℤ) → n ≡ pos 0 → FitsSigned w32 (n +ℤ pos 0)
zero_fits n is = subst (λ m. FitsSigned w32 (m +ℤ pos 0)) (sym is) (grind arith)

zero_fits_twice : (n : ℤ) → n ≡ pos 0 → FitsSigned w32 (n +ℤ (pos 0 +ℤ pos 0))
zero_fits_twice n is = subst (λ m. FitsSigned w32 (m +ℤ (pos 0 +ℤ pos 0))) (sym is) (grind arith)

origin_fits : (is_first : Bool) (number : ℕ → ℤ) → number 0 ≡ pos 0 → UseFits is_first number origin
origin_fits true number zero = zero_fits (number 0) zero
origin_fits false number zero = zero_fits_twice (number 0) zero

-- The first use of each key is worth an int32.
pub keys_fit : (is_first : Bool) (number : ℕ → ℤ) (a b : List Expr) → number 0 ≡ pos 0
    → AllFit number (if is_first then a else b)
    → AreInt32 is_first number (paired a b).keys
keys_fit is_first number a b zero all =
    all_keys (UseFits is_first number) a b (origin_fits is_first number zero) (uses_fit is_first number a b all)

-- ---- constants of new expressions are near

near_least : (m n k : ℤ) → FitsSigned w32 m → FitsSigned w32 n → (m +ℤ k) ≡ n → negsuc 4294967295 ≤ℤ k
near_least m n k first second same = grind (arith, ints)

near_greatest : (m n k : ℤ) → FitsSigned w32 m → FitsSigned w32 n → (m +ℤ k) ≡ n → k ≤ℤ pos 4294967296
near_greatest m n k first second same = grind (arith, ints)

le_is : (m n : ℤ) → m ≤ℤ n → int_le m n ≡ true
le_is m n least = grind (arith, ints)

both_true : (a b : Bool) → a ≡ true → b ≡ true → (a && b) ≡ true
both_true true b first second = second
both_true false b first second = first

near_is : (e : Expr) (m n : ℤ) → FitsSigned w32 m → FitsSigned w32 n → (m +ℤ e.k) ≡ n → is_near e ≡ true
near_is e m n first second same =
    both_true (int_le (negsuc 4294967295) e.k) (int_le e.k (pos 4294967296))
    (le_is (negsuc 4294967295) e.k (near_least m n e.k first second same))
    (le_is e.k (pos 4294967296) (near_greatest m n e.k first second same))

one_near : (is_first : Bool) (number : ℕ → ℤ) (known : List Key) (u : Key) → number_in known u < length known
    → AllByRecursion (UseFits is_first number) known
    → UseFits is_first number u → is_near (named known u) ≡ true
one_near is_first number known u there fit own =
    near_is (named known u) (behind_uses is_first number known (number_in known u)) (worth_of_use is_first number u)
    (all_at (UseFits is_first number) known (number_in known u) origin fit there) own
    (named_worth is_first number known u there)

all_near : (is_first : Bool) (number : ℕ → ℤ) (known us : List Key) → AllKnown known us
    → AllByRecursion (UseFits is_first number) known
    → AllByRecursion (UseFits is_first number) us → list_all is_near (map (named known) us) ≡ true
all_near is_first number known [] there fit own = refl
all_near is_first number known (u ∷ us) there fit own =
    both_true (is_near (named known u)) (list_all is_near (map (named known) us))
    (one_near is_first number known u there.0 fit own.0)
    (all_near is_first number known us there.1 fit own.1)

-- Where expressions are worth int32 on a side, the constants of their new names are near.
pub exprs_near : (is_first : Bool) (number : ℕ → ℤ) (a b : List Expr) → number 0 ≡ pos 0
    → AllFit number (if is_first then a else b)
    → list_all is_near (paired a b).exprs ≡ true
exprs_near is_first number a b zero all =
    all_near is_first number (known_in a b) (uses_of a b) (all_known (origin ∷ []) (uses_of a b))
    (all_first (UseFits is_first number) (origin ∷ []) (uses_of a b) (origin_fits is_first number zero, tt)
    (uses_fit is_first number a b all))
    (uses_fit is_first number a b all)

-- ---- what keys have in common

-- What is the same of two uses of one key is the same of a use and of the one that it is named by.
pub at_named : {X : Type 0} (f : Key → X) → ((u v : Key) → same_key u v ≡ true → f u ≡ f v) → (known us : List Key)
    → AllKnown known us
    → map (λ (e : Expr). f (get_or known e.sym origin)) (map (named known) us) ≡ map f us
at_named f same known [] there = refl
at_named f same known (u ∷ us) there =
    ap (λ x. x ∷ map (λ (e : Expr). f (get_or known e.sym origin)) (map (named known) us))
    (sym (same u (get_or known (number_in known u) origin) (passes_at_first (same_key u) known origin there.0)))
    ∙ ap (λ xs. f u ∷ xs) (at_named f same known us there.1)
