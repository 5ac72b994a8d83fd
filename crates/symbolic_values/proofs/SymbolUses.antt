-- Symbols, use by use.
use Rattle.std.proofs.Common.{◌≡◌, ℕ, zero, suc, ◌+◌, ◌<◌, ◌≤◌, ℤ, pos, ◌-ℤ◌, Bool, true, false, ◌||◌, List, [], ◌∷◌, ◌++◌, length, get_or, map, drop, if◌then◌else◌, refl, sym, ap, ◌∙◌, arith, add-one}
use Rattle.std.specs.List.{list_any}
use Rattle.std.proofs.lemmas.Int.{ints}
use Rattle.std.proofs.lemmas.List.{drop_all, length-map, map-append}
use Rattle.domain_api.specs.declared.expr.Expr.{Expr}
use Rattle.symbolic_values.specs.declared.pairs.Key.{Key}
use Rattle.symbolic_values.specs.FirstUses.{noted, first_uses}
use Rattle.symbolic_values.specs.Pairing.{same_key, origin, behind_first, uses_of, known_in, paired, symbol_use, symbols_by_first_use}

drop-uses : (exprs : List Expr) (i : ℕ) (d : Expr) → i < length exprs → drop i (map symbol_use exprs) ≡ symbol_use (get_or exprs i d) ∷ drop (suc i) (map symbol_use exprs)
drop-uses [] i d below = absurd (omega arith)
drop-uses (e ∷ exprs) zero d below = refl
drop-uses (e ∷ exprs) (suc i) d below = drop-uses exprs i d (omega (arith, below))

pub use_step : (exprs : List Expr) (i : ℕ) (d : Expr) (known later : List Key) (u : Key) → i < length exprs → u ≡ symbol_use (get_or exprs i d)
    → origin ∷ later ≡ noted same_key (origin ∷ known) u
    → first_uses same_key (origin ∷ known) (drop i (map symbol_use exprs)) ≡ first_uses same_key (origin ∷ []) (map symbol_use exprs)
    → first_uses same_key (origin ∷ later) (drop (i + 1) (map symbol_use exprs)) ≡ first_uses same_key (origin ∷ []) (map symbol_use exprs)
use_step exprs i d known later u below used noted_is so_far =
    let us = map symbol_use exprs in
    let rest : drop i us ≡ u ∷ drop (suc i) us = drop-uses exprs i d below ∙ ap (λ v. v ∷ drop (suc i) us) (sym used) in
    ap (λ n. first_uses same_key (origin ∷ later) (drop n us)) (add-one i)
    ∙ ap (λ l. first_uses same_key l (drop (suc i) us)) noted_is ∙ ap (first_uses same_key (origin ∷ known)) (sym rest) ∙ so_far

pub use_end : (exprs : List Expr) (i : ℕ) (known : List Key) → length exprs ≤ i
    → first_uses same_key (origin ∷ known) (drop i (map symbol_use exprs)) ≡ first_uses same_key (origin ∷ []) (map symbol_use exprs)
    → known ≡ behind_first (first_uses same_key (origin ∷ []) (map symbol_use exprs))
use_end exprs i known all so_far =
    let none : drop i (map symbol_use exprs) ≡ [] = drop_all i (map symbol_use exprs) (omega (arith, length-map exprs symbol_use, all)) in
    ap (λ l. behind_first (first_uses same_key (origin ∷ known) l)) (sym none) ∙ ap behind_first so_far

-- ---- the symbols are those of the keys of a list paired with itself

abbrev plain : Key → Key
plain u = record { s = u.s; t = u.t; shift = u.shift; first = pos 0 }

any-plain : (u : Key) (known : List Key) → list_any (same_key (plain u)) (map plain known) ≡ list_any (same_key u) known
any-plain u [] = refl
any-plain u (v ∷ known) = ap (λ b. same_key u v || b) (any-plain u known)

noted_step : (u : Key) (known : List Key) (any : Bool) → map plain (if any then known else known ++ u ∷ []) ≡ (if any then map plain known else map plain known ++ plain u ∷ [])
noted_step u known true = refl
noted_step u known false = map-append plain known (u ∷ [])

noted-plain : (u : Key) (known : List Key) → map plain (noted same_key known u) ≡ noted same_key (map plain known) (plain u)
noted-plain u known =
    noted_step u known (list_any (same_key u) known) ∙ ap (λ any. if any then map plain known else map plain known ++ plain u ∷ []) (sym (any-plain u known))

first_uses-plain : (us known : List Key) → map plain (first_uses same_key known us) ≡ first_uses same_key (map plain known) (map plain us)
first_uses-plain [] known = refl
first_uses-plain (u ∷ us) known = first_uses-plain us (noted same_key known u) ∙ ap (λ l. first_uses same_key l (map plain us)) (noted-plain u known)

no_shift : (k : ℤ) → (k -ℤ k) ≡ pos 0
no_shift k = omega (arith, ints)

uses-plain : (exprs : List Expr) → map plain (uses_of exprs exprs) ≡ map symbol_use exprs
uses-plain [] = refl
uses-plain (e ∷ exprs) =
    ap (λ (shift : ℤ). record { s = e.sym; t = e.sym; shift = shift; first = pos 0 } ∷ map plain (uses_of exprs exprs)) (no_shift e.k)
    ∙ ap (λ us. symbol_use e ∷ us) (uses-plain exprs)

symbols-plain : (us : List Key) → map (λ u. u.s) (behind_first (map plain us)) ≡ map (λ u. u.s) (behind_first us)
symbols-plain [] = refl
symbols-plain (u ∷ us) = by us
  where
    by : (us : List Key) → map (λ u. u.s) (map plain us) ≡ map (λ u. u.s) us
    by [] = refl
    by (v ∷ us) = ap (λ l. v.s ∷ l) (by us)

pub symbols_of_keys : (exprs : List Expr) → symbols_by_first_use exprs ≡ map (λ u. u.s) (paired exprs exprs).keys
symbols_of_keys exprs =
    ap (λ us. map (λ u. u.s) (behind_first (first_uses same_key (origin ∷ []) us))) (sym (uses-plain exprs))
    ∙ ap (λ l. map (λ u. u.s) (behind_first l)) (sym (first_uses-plain (uses_of exprs exprs) (origin ∷ [])))
    ∙ symbols-plain (known_in exprs exprs)
