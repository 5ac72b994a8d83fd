-- A named expression is worth what was named, on either side.
use Rattle.std.proofs.Common.{◌≡◌, ℕ, suc, ◌<◌, ◌≤◌, ℤ, ◌+ℤ◌, ◌-ℤ◌, Bool, true, false, if◌then◌else◌, List, [], ◌∷◌, length, get_or, map, refl, sym, ap, subst, ◌∙◌, arith, length-append}
use Rattle.std.proofs.lemmas.Int.{ints}
use Rattle.std.specs.List.{AllByRecursion, position_or_len}
use Rattle.std.proofs.lemmas.List.Sums.{passes_at_first}
use Rattle.domain_api.specs.declared.expr.Expr.{Expr}
use Rattle.symbolic_values.specs.declared.pairs.Key.{Key}
use Rattle.symbolic_values.specs.FirstUses.{noted, first_uses}
use Rattle.symbolic_values.specs.Pairing.{same_key, origin, named, number_in, uses_of, known_in, behind_first, paired}
use Rattle.symbolic_values.specs.Worth.{worth, worth_of_use, behind_uses}
use Rattle.symbolic_values.proofs.Keys.{HaveOneKey, same_itself, same_key_is}
use Rattle.symbolic_values.proofs.Noting.{Extends, by_more, place_prefix, noted_there, first_uses_extend}

less_and_more : (number first later : ℤ) → ((number +ℤ first) +ℤ (later -ℤ first)) ≡ (number +ℤ later)
less_and_more number first later = omega (arith, ints)

less_and_more_shifted : (number first shift later : ℤ) → ((number +ℤ (first +ℤ shift)) +ℤ (later -ℤ first)) ≡ (number +ℤ (later +ℤ shift))
less_and_more_shifted number first shift later = omega (arith, ints)

-- What another use of the same key is worth, from what the first one is.
pub worth_later : (is_first : Bool) (number : ℕ → ℤ) (u v : Key) → HaveOneKey u v → (worth_of_use is_first number v +ℤ (u.first -ℤ v.first)) ≡ worth_of_use is_first number u
worth_later true number u v one = less_and_more (number v.s) v.first u.first ∙ ap (λ s. number s +ℤ u.first) (sym one.first_symbol)
worth_later false number u v one =
    less_and_more_shifted (number v.t) v.first v.shift u.first
    ∙ ap (λ t. number t +ℤ (u.first +ℤ v.shift)) (sym one.second_symbol) ∙ ap (λ shift. number u.t +ℤ (u.first +ℤ shift)) (sym one.shifts)

-- A use that is known is worth, by its name and under the choice behind the uses, what its expression is on that side.
pub named_worth : (is_first : Bool) (number : ℕ → ℤ) (known : List Key) (u : Key) → number_in known u < length known
    → worth (behind_uses is_first number known) (named known u) ≡ worth_of_use is_first number u
named_worth is_first number known u there =
    worth_later is_first number u (get_or known (number_in known u) origin) (same_key_is u _ (passes_at_first (same_key u) known origin there))

-- ---- lists

-- Each of these uses is known.
abbrev pub AllKnown : List Key → List Key → Type 0
AllKnown known [] = Unit {0}
AllKnown known (u ∷ us) = (number_in known u < length known) × AllKnown known us

known_later : (known later : List Key) (u : Key) → Extends same_key known later → number_in known u < length known → number_in later u < length later
known_later known later u (by_more more is) there =
    subst (λ l. number_in l u < length l) (sym is) (omega (arith, place_prefix (same_key u) known more there, length-append known more))

pub all_known : (known us : List Key) → AllKnown (first_uses same_key known us) us
all_known known [] = tt
all_known known (u ∷ us) = (
  known_later (noted same_key known u) _ u (first_uses_extend same_key (noted same_key known u) us) (noted_there same_key known u (same_itself u)),
  all_known (noted same_key known u) us,
)

-- The origin stays the first.
pub origin_first : (known us : List Key) → first_uses same_key (origin ∷ known) us ≡ origin ∷ behind_first (first_uses same_key (origin ∷ known) us)
origin_first known us = by (first_uses_extend same_key (origin ∷ known) us)
  where
    by : Extends same_key (origin ∷ known) (first_uses same_key (origin ∷ known) us) → first_uses same_key (origin ∷ known) us ≡ origin ∷ behind_first (first_uses same_key (origin ∷ known) us)
    by (by_more more is) = is ∙ ap (λ l. origin ∷ behind_first l) (sym is)

all_named_worth : (is_first : Bool) (number : ℕ → ℤ) (known us : List Key) → AllKnown known us
    → map (worth (behind_uses is_first number known)) (map (named known) us) ≡ map (worth_of_use is_first number) us
all_named_worth is_first number known [] all = refl
all_named_worth is_first number known (u ∷ us) all =
    ap (λ z. z ∷ map (worth (behind_uses is_first number known)) (map (named known) us)) (named_worth is_first number known u all.0)
    ∙ ap (λ zs. worth_of_use is_first number u ∷ zs) (all_named_worth is_first number known us all.1)

second_worth : (number k l : ℤ) → (number +ℤ (k +ℤ (l -ℤ k))) ≡ (number +ℤ l)
second_worth number k l = omega (arith, ints)

-- What the uses of two lists are worth.
pub uses_worth : (is_first : Bool) (number : ℕ → ℤ) (a b : List Expr) → length a ≡ length b
    → map (worth_of_use is_first number) (uses_of a b) ≡ map (worth number) (if is_first then a else b)
uses_worth true number [] b same = refl
uses_worth true number (e ∷ a) [] same = absurd (omega (arith, same))
uses_worth true number (e ∷ a) (f ∷ b) same = ap (λ zs. worth number e ∷ zs) (uses_worth true number a b (omega (arith, same)))
uses_worth false number [] [] same = refl
uses_worth false number [] (f ∷ b) same = absurd (omega (arith, same))
uses_worth false number (e ∷ a) [] same = absurd (omega (arith, same))
uses_worth false number (e ∷ a) (f ∷ b) same =
    ap (λ z. z ∷ map (worth_of_use false number) (uses_of a b)) (second_worth (number f.sym) e.k f.k)
    ∙ ap (λ zs. worth number f ∷ zs) (uses_worth false number a b (omega (arith, same)))

-- Each new expression of two paired lists is worth, under the choice behind the keys, what the expression that it
-- stands for is worth on that side.
pub paired_worth : (is_first : Bool) (number : ℕ → ℤ) (a b : List Expr) → length a ≡ length b
    → map (worth (behind_uses is_first number (origin ∷ (paired a b).keys))) (paired a b).exprs ≡ map (worth number) (if is_first then a else b)
paired_worth is_first number a b same =
    ap (λ known. map (worth (behind_uses is_first number known)) (map (named (known_in a b)) (uses_of a b))) (sym (origin_first [] (uses_of a b)))
    ∙ all_named_worth is_first number (known_in a b) (uses_of a b) (all_known (origin ∷ []) (uses_of a b))
    ∙ uses_worth is_first number a b same

inside_last : (n m : ℕ) → n < suc m → n ≤ m
inside_last n m below = omega (arith, below)

all_inside : (m : ℕ) (exprs : List Expr) → AllByRecursion (λ (e : Expr). e.sym < suc m) exprs → AllByRecursion (λ (e : Expr). e.sym ≤ m) exprs
all_inside m [] all = tt
all_inside m (e ∷ exprs) all = (inside_last e.sym m all.0, all_inside m exprs all.1)

all_there : (known us : List Key) → AllKnown known us → AllByRecursion (λ (e : Expr). e.sym < length known) (map (named known) us)
all_there known [] all = tt
all_there known (u ∷ us) all = (all.0, all_there known us all.1)

-- Each symbol of a new expression is 0 or that of one of the keys.
pub paired_there : (a b : List Expr) → AllByRecursion (λ (e : Expr). e.sym ≤ length (paired a b).keys) (paired a b).exprs
paired_there a b =
    all_inside (length (paired a b).keys) (paired a b).exprs (subst (λ known. AllByRecursion (λ (e : Expr). e.sym < length known) (paired a b).exprs) (origin_first [] (uses_of a b))
    (all_there (known_in a b) (uses_of a b) (all_known (origin ∷ []) (uses_of a b))))

-- Symbol 0 stays the number 0.
pub zero_behind : (is_first : Bool) (number : ℕ → ℤ) (keys : List Key) → behind_uses is_first number (origin ∷ keys) 0 ≡ number 0
zero_behind true number keys = omega (arith, ints)
zero_behind false number keys = omega (arith, ints)
