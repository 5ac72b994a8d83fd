-- Where all variables and lengths are int32, the constants of new names are near.
use Rattle.std.proofs.Common.{◌≡◌, ℕ, ◌<◌, ℤ, pos, negsuc, ◌+ℤ◌, ◌-ℤ◌, ◌≤ℤ◌, int_le, Bool, true, false, ◌&&◌, List, [], ◌∷◌, ◌++◌, length, get_or, map, Option, Some, None, if◌then◌else◌, refl, sym, ap, ◌∙◌, subst, arith}
use Rattle.std.specs.Option.{IsSome}
use Rattle.std.specs.List.{AllByRecursion, list_all}
use Rattle.std.proofs.lemmas.Int.{ints}
use Rattle.std.proofs.lemmas.List.Sums.{passes_at_first}
use Rattle.domain_api.specs.declared.expr.Expr.{Expr}
use Rattle.symbolic_values.specs.declared.pairs.Key.{Key}
use Rattle.symbolic_values.specs.Pairing.{Pairing, known_in, named, number_in, origin, paired, same_key, uses_of}
use Rattle.symbolic_values.specs.Worth.{worth, worth_of_use}
use Rattle.symbolic_values.proofs.Keys.{same_key_is}
use Rattle.symbolic_values.proofs.Noting.{all_at}
use Rattle.symbolic_values.proofs.WorthLaws.{AllKnown, all_known, worth_later}
use Rattle.frame_names.specs.declared.reference.Reference.{Reference}
use Rattle.frame_names.specs.declared.var.Var.{Var}
use Rattle.frame_names.specs.Fitting.{AreInt32s, IsInt32}
use Rattle.frame_names.specs.Frames.{AreAlike, length_at, numbers_of}
use Rattle.frame_names.specs.PairedFrames.{FramePairing, exprs_of, is_near, named_frame, old_of, paired_frames, pairing_by, pairs_of}
use Rattle.frame_names.proofs.FrameLemmas.{same_exprs}
use Rattle.frame_names.proofs.UseLemmas.{all_first}

abbrev UseFits : Bool → (ℕ → ℤ) → Key → Type 0
UseFits is_first number u = IsInt32 (worth_of_use is_first number u)

second_same : (number k l : ℤ) → (number +ℤ l) ≡ (number +ℤ (k +ℤ (l -ℤ k)))
second_same number k l = omega (arith, ints)

uses_fit : (is_first : Bool) (number : ℕ → ℤ) (a b : List Expr) → length a ≡ length b → AllByRecursion (λ (e : Expr). IsInt32 (worth number e)) (if is_first then a else b)
    → AllByRecursion (UseFits is_first number) (uses_of a b)
uses_fit is_first number [] b same all = tt
uses_fit is_first number (e ∷ a) [] same all = absurd (omega (arith, same))
uses_fit true number (e ∷ a) (f ∷ b) same all = (all.0, uses_fit true number a b (omega (arith, same)) all.1)
uses_fit false number (e ∷ a) (f ∷ b) same all =
    (subst IsInt32 (second_same (number f.sym) e.k f.k) all.0, uses_fit false number a b (omega (arith, same)) all.1)

zero_fits : IsInt32 (pos 0)
zero_fits = record { least = omega (arith, ints); greatest = omega (arith, ints) }

origin_worth : (is_first : Bool) (number : ℕ → ℤ) → number 0 ≡ pos 0 → pos 0 ≡ worth_of_use is_first number origin
origin_worth true number zero_is = omega (arith, ints, zero_is)
origin_worth false number zero_is = omega (arith, ints, zero_is)

le_shown : (m n : ℤ) → m ≤ℤ n → int_le m n ≡ true
le_shown m n less = grind (arith, ints, less)

near_between : (m n k l : ℤ) → IsInt32 m → IsInt32 n → (m +ℤ (k -ℤ l)) ≡ n → (int_le (negsuc 4294967295) (k -ℤ l) && int_le (k -ℤ l) (pos 4294967296)) ≡ true
near_between m n k l first second is =
    let low : negsuc 4294967295 ≤ℤ (k -ℤ l) = omega (arith, ints, first.least, first.greatest, second.least, second.greatest, is) in
    let high : (k -ℤ l) ≤ℤ pos 4294967296 = omega (arith, ints, first.least, first.greatest, second.least, second.greatest, is) in
    ap (λ b. b && int_le (k -ℤ l) (pos 4294967296)) (le_shown _ _ low) ∙ le_shown _ _ high

named_near : (is_first : Bool) (number : ℕ → ℤ) (known : List Key) (u : Key) → number_in known u < length known → AllByRecursion (UseFits is_first number) known
    → UseFits is_first number u → is_near (named known u) ≡ true
named_near is_first number known u there all fit =
    let v = get_or known (number_in known u) origin in
    near_between (worth_of_use is_first number v) (worth_of_use is_first number u) u.first v.first
    (all_at (UseFits is_first number) known (number_in known u) origin all there) fit
    (worth_later is_first number u v (same_key_is u v (passes_at_first (same_key u) known origin there)))

all_near : (is_first : Bool) (number : ℕ → ℤ) (known us : List Key) → AllKnown known us → AllByRecursion (UseFits is_first number) known
    → AllByRecursion (UseFits is_first number) us → list_all is_near (map (named known) us) ≡ true
all_near is_first number known [] there all fit = refl
all_near is_first number known (u ∷ us) there all fit =
    ap (λ b. b && list_all is_near (map (named known) us)) (named_near is_first number known u there.0 all fit.0)
    ∙ all_near is_first number known us there.1 all fit.1

paired_near : (is_first : Bool) (number : ℕ → ℤ) (a b : List Expr) → number 0 ≡ pos 0 → length a ≡ length b
    → AllByRecursion (λ (e : Expr). IsInt32 (worth number e)) (if is_first then a else b) → list_all is_near (paired a b).exprs ≡ true
paired_near is_first number a b zero_is same all =
    let fit = uses_fit is_first number a b same all in
    all_near is_first number (known_in a b) (uses_of a b) (all_known (origin ∷ []) (uses_of a b))
    (all_first (UseFits is_first number) (origin ∷ []) (uses_of a b) (subst IsInt32 (origin_worth is_first number zero_is) zero_fits, tt) fit) fit

append_fit : (number : ℕ → ℤ) (es fs : List Expr) → AllByRecursion (λ (e : Expr). IsInt32 (worth number e)) es
    → AllByRecursion (λ (e : Expr). IsInt32 (worth number e)) fs → AllByRecursion (λ (e : Expr). IsInt32 (worth number e)) (es ++ fs)
append_fit number [] fs first second = second
append_fit number (e ∷ es) fs first second = (first.0, append_fit number es fs first.1 second)

lengths_fit : (number : ℕ → ℤ) (known : List Reference) (is_first : Bool) (keys : List Key) → ((r : ℕ) → IsInt32 (worth number (length_at known r)))
    → AllByRecursion (λ (e : Expr). IsInt32 (worth number e)) (map (λ key. length_at known (old_of is_first key)) keys)
lengths_fit number known is_first [] all = tt
lengths_fit number known is_first (key ∷ keys) all = (all (old_of is_first key), lengths_fit number known is_first keys all)

exprs_fit : (number : ℕ → ℤ) (vs : List Var) (known : List Reference) (is_first : Bool) (keys : List Key) → AreInt32s number vs known
    → AllByRecursion (λ (e : Expr). IsInt32 (worth number e)) (exprs_of vs known is_first keys)
exprs_fit number vs known is_first keys fit =
    append_fit number (numbers_of vs) (map (λ key. length_at known (old_of is_first key)) keys) fit.numbers (lengths_fit number known is_first keys fit.lengths)

frames_near : (is_first : Bool) (number : ℕ → ℤ) (a b : List Var) (known other : List Reference) (references : Pairing) → AreAlike a b
    → AreInt32s number (if is_first then a else b) (if is_first then known else other)
    → list_all is_near (pairing_by references a known b other).exprs ≡ true
frames_near true number a b known other references alike fit =
    paired_near true number (exprs_of a known true references.keys) (exprs_of b other false references.keys) fit.zero_is
    (same_exprs a b known other true false references.keys alike) (exprs_fit number a known true references.keys fit)
frames_near false number a b known other references alike fit =
    paired_near false number (exprs_of a known true references.keys) (exprs_of b other false references.keys) fit.zero_is
    (same_exprs a b known other true false references.keys alike) (exprs_fit number b other false references.keys fit)

some_near : (new : FramePairing) (found : Option FramePairing) (near : Bool) → found ≡ (if near then Some new else None) → near ≡ true → IsSome found
some_near new found true is near = subst IsSome (sym is) refl
some_near new found false is near = cc

-- Where all variables and lengths of a side are int32, there is an answer.
pub frames_there : (a b : List Var) (known other : List Reference) (found : Option FramePairing) (is_first : Bool) (number : ℕ → ℤ) → AreAlike a b
    → found ≡ paired_frames a known b other → AreInt32s number (if is_first then a else b) (if is_first then known else other) → IsSome found
frames_there a b known other found is_first number alike is fit =
    some_near (named_frame a (pairs_of a b) (pairing_by (pairs_of a b) a known b other)) found
    (list_all is_near (pairing_by (pairs_of a b) a known b other).exprs) is (frames_near is_first number a b known other (pairs_of a b) alike fit)
