-- Pairing, use by use.
use Rattle.std.proofs.Common.{◌≡◌, ℕ, zero, suc, ◌+◌, ◌<◌, ◌≤◌, ◌-ℤ◌, subst, List, [], ◌∷◌, ◌++◌, length, get_or, map, drop, refl, sym, ap, ◌∙◌, arith, add-one, append_assoc, append-nil}
use Rattle.std.specs.List.{position_or_len}
use Rattle.std.proofs.lemmas.List.{drop_all}
use Rattle.domain_api.specs.declared.expr.Expr.{Expr}
use Rattle.symbolic_values.specs.declared.pairs.Key.{Key}
use Rattle.symbolic_values.specs.FirstUses.{noted, first_uses}
use Rattle.symbolic_values.specs.Pairing.{same_key, origin, named, name_at, number_in, use_of, uses_of, known_in, behind_first, paired}
use Rattle.symbolic_values.proofs.Noting.{Extends, by_more, place_prefix, noted_there, first_uses_extend}
use Rattle.symbolic_values.proofs.Keys.{same_itself}

-- ---- the uses of two lists

pub length-uses_of : (a b : List Expr) → length a ≡ length b → length (uses_of a b) ≡ length a
length-uses_of [] b same = refl
length-uses_of (e ∷ a) [] same = absurd (omega (arith, same))
length-uses_of (e ∷ a) (f ∷ b) same = ap suc (length-uses_of a b (omega (arith, same)))

pub drop-uses_of : (a b : List Expr) (i : ℕ) (d : Expr) → i < length a → length a ≡ length b
    → drop i (uses_of a b) ≡ use_of (get_or a i d) (get_or b i d) ∷ drop (suc i) (uses_of a b)
drop-uses_of [] b i d below same = absurd (omega (arith, below))
drop-uses_of (x ∷ a) [] i d below same = absurd (omega (arith, same))
drop-uses_of (x ∷ a) (y ∷ b) zero d below same = refl
drop-uses_of (x ∷ a) (y ∷ b) (suc i) d below same = drop-uses_of a b i d (omega (arith, below)) (omega (arith, same))

-- ---- names stay

get_or_prefix : (known more : List Key) (n : ℕ) → n < length known → get_or (known ++ more) n origin ≡ get_or known n origin
get_or_prefix [] more n below = absurd (omega (arith, below))
get_or_prefix (u ∷ known) more zero below = refl
get_or_prefix (u ∷ known) more (suc n) below = get_or_prefix known more n (omega (arith, below))

pub named_later : (known later : List Key) (u : Key) → Extends same_key known later → number_in known u < length known → named later u ≡ named known u
named_later known later u (by_more more is) there =
    let number : number_in later u ≡ number_in known u = ap (position_or_len (same_key u)) is ∙ place_prefix (same_key u) known more there in
    let at : get_or later (number_in known u) origin ≡ get_or known (number_in known u) origin = ap (λ l. get_or l (number_in known u) origin) is ∙ get_or_prefix known more (number_in known u) there in
    ap (name_at later u.first) number ∙ ap (λ (k : Key). record { sym = number_in known u; k = u.first -ℤ k.first }) at

-- ---- the loop

-- The uses that are known, with those that are left, are all uses; the names that were given, with those of what is
-- left, are all names.
pub record PairsSoFar (a b : List Expr) (i : ℕ) (known : List Key) (exprs : List Expr) : Type 0 where
  pub known_so_far : first_uses same_key (origin ∷ known) (drop i (uses_of a b)) ≡ known_in a b
  pub named_so_far : exprs ++ map (named (known_in a b)) (drop i (uses_of a b)) ≡ map (named (known_in a b)) (uses_of a b)

pub pairs_begin : (a b : List Expr) → PairsSoFar a b 0 [] []
pairs_begin a b = record { known_so_far = refl; named_so_far = refl }

pub pairs_step : (a b : List Expr) (i : ℕ) (d : Expr) (u : Key) (known later : List Key) (exprs : List Expr) (name : Expr) → i < length a
    → length a ≡ length b → u ≡ use_of (get_or a i d) (get_or b i d) → PairsSoFar a b i known exprs
    → origin ∷ later ≡ noted same_key (origin ∷ known) u → name ≡ named (origin ∷ later) u → PairsSoFar a b (i + 1) later (exprs ++ name ∷ [])
pairs_step a b i d u known later exprs name below same used so_far noted_is name_is =
    let us = uses_of a b in
    let rest : drop i us ≡ u ∷ drop (suc i) us = drop-uses_of a b i d below same ∙ ap (λ v. v ∷ drop (suc i) us) (sym used) in
    let known_is : first_uses same_key (origin ∷ later) (drop (suc i) us) ≡ known_in a b =
    ap (λ l. first_uses same_key l (drop (suc i) us)) noted_is ∙ ap (first_uses same_key (origin ∷ known)) (sym rest) ∙ so_far.known_so_far in
    let there : number_in (origin ∷ later) u < length (origin ∷ later) =
    subst (λ l. number_in l u < length l) (sym noted_is) (noted_there same_key (origin ∷ known) u (same_itself u)) in
    let extends : Extends same_key (origin ∷ later) (known_in a b) =
    subst (Extends same_key (origin ∷ later)) known_is (first_uses_extend same_key (origin ∷ later) (drop (suc i) us)) in
    let name_stays : name ≡ named (known_in a b) u = name_is ∙ sym (named_later (origin ∷ later) (known_in a b) u extends there) in
    record {
      known_so_far = rw add-one known_is;
      named_so_far = rw (add-one, append_assoc, name_stays) (ap (λ l. exprs ++ map (named (known_in a b)) l) (sym rest) ∙ so_far.named_so_far);
    }

pub pairs_end : (a b : List Expr) (i : ℕ) (known : List Key) (exprs : List Expr) → length a ≤ i → length a ≡ length b → PairsSoFar a b i known exprs
    → record { keys = known; exprs = exprs } ≡ paired a b
pairs_end a b i known exprs all same so_far =
    let us = uses_of a b in
    let none : drop i us ≡ [] = drop_all i us (omega (arith, length-uses_of a b same, all)) in
    let keys : known ≡ behind_first (known_in a b) =
    ap (λ l. behind_first (first_uses same_key (origin ∷ known) l)) (sym none) ∙ ap behind_first so_far.known_so_far in
    let names : exprs ≡ map (named (known_in a b)) us =
    sym (append-nil exprs) ∙ ap (λ l. exprs ++ map (named (known_in a b)) l) (sym none) ∙ so_far.named_so_far in
    λ at. record { keys = keys at; exprs = names at }
