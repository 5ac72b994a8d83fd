-- What the test of both ends tells.
use Rattle.std.proofs.Common.{◌≡◌, ℕ, zero, suc, ◌<◌, Bool, true, false, ◌&&◌, ◌||◌, List, [], ◌∷◌, length, get_or, Option, None, Some, inl, inr, arith, refl, sym, ap}
use Rattle.std.proofs.lemmas.Bool.{and_parts, false≢true, or_cases}
use Rattle.std.proofs.lemmas.Bool.Decides.{Decides-eqb, Decides-int_eq}
use Rattle.std.specs.List.{Contains, list_any}
use Rattle.domain_api.specs.declared.expr.Expr.{Expr}
use Rattle.symbolic_values.specs.Names.{paired_expr}
use Rattle.symbolic_values.specs.Pairing.{Pairing}
use Rattle.array_segments.specs.Behind.{StandsForBoth}
use Rattle.array_segments.specs.CommonBounds.{same_expr}
use Rattle.array_segments.proofs.CommonLaw.{same_is}
use Rattle.segment_rules.specs.Ends.{is_name, stands_for_both}

any_member : {X : Type 0} (test : X → Bool) (xs : List X) → list_any test xs ≡ true → (x : X) × Contains xs x × (test x ≡ true)
any_member test [] there = absurd (false≢true there)
any_member test (x ∷ xs) there = elim (or_cases (test x) (list_any test xs) there) [
  | inl here ↦ (x, (0, omega arith, refl), here)
  | inr later ↦ let rest = any_member test xs later in let under : rest.1.0 < length xs = rest.1.1 in (rest.0, (suc rest.1.0, omega arith, rest.1.2), rest.2)
]

name_is : (name : Option Expr) (expr : Expr) → is_name name expr ≡ true → name ≡ Some expr
name_is None expr is = absurd (false≢true is)
name_is (Some name) expr is = ap (λ e. Some e) (same_is expr name is)

pub both_stand : (pairs : Pairing) (first second : List Expr) (new : Expr) → stands_for_both pairs first second new ≡ true → StandsForBoth pairs first second new
both_stand pairs first second new is =
    let one = any_member (λ e. list_any (λ f. is_name (paired_expr pairs e f) new) second) first is in
    let other = any_member (λ f. is_name (paired_expr pairs one.0 f) new) second one.2 in
    record { one = one.0; other = other.0; in_first = one.1; in_second = other.1; named = name_is (paired_expr pairs one.0 other.0) new other.2 }
