-- New lengths of references, as paired expressions and as names of old ones.
use Rattle.std.proofs.Common.{◌≡◌, ℕ, zero, suc, ◌+◌, ◌<◌, ◌≤◌, ◌==◌, nat_lt, ℤ, pos, negsuc, ◌+ℤ◌, ◌-ℤ◌, ◌≤ℤ◌, int_lt, Bool, true, false, ◌&&◌, ◌||◌, List, [], ◌∷◌, ◌++◌, length, map, drop, get_or, Option, None, Some, refl, sym, ap, ◌∙◌, subst, arith, inl, inr, add-one}
use Rattle.std.specs.Prelude.{if◌then◌else◌}
use Rattle.std.specs.List.{AllByRecursion, position, position_or_len}
use Rattle.std.specs.Ordering.{int_eq}
use Rattle.std.proofs.lemmas.Bool.{and_parts, cases_lt, false≢true}
use Rattle.std.proofs.lemmas.Bool.Decides.{Decides-eqb, Decides-int_eq, nat_tests}
use Rattle.std.proofs.lemmas.Int.{ints}
use Rattle.std.proofs.lemmas.List.{get_or_past, length-map}
use Rattle.std.proofs.lemmas.List.FromFn.{get_or-map-range_with_len, length-map-range_with_len}
use Rattle.std.proofs.lemmas.List.Quantifiers.{position-Some}
use Rattle.domain_api.specs.declared.expr.Expr.{Expr}
use Rattle.array_segments.specs.SegmentLists.{Has, last_bound, zero_expr}
use Rattle.symbolic_values.specs.FirstUses.{first_uses, noted}
use Rattle.symbolic_values.specs.Names.{are_same_constant, as_expr, fitting, named_at, moved, paired_expr, paired_references, renamed}
use Rattle.symbolic_values.specs.NearUses.{IsNearUse}
use Rattle.symbolic_values.specs.OwnNames.{own_name, own_names}
use Rattle.symbolic_values.specs.Pairing.{IsNear, Pairing, behind_first, known_in, name_at, named, number_in, origin, paired, same_key, use_of, uses_of}
use Rattle.symbolic_values.specs.declared.pairs.Key.{Key}
use Rattle.symbolic_values.proofs.Noting.{all_at, all_noted}
use Rattle.symbolic_values.proofs.Origins.{named_origin}
use Rattle.symbolic_values.proofs.WorthLaws.{AllKnown, all_known, origin_first}
use Rattle.array_contents.specs.Contents.{AreFormed, Contents, of_null, segments_at}
use Rattle.array_contents.specs.Ends.{EachStands}
use Rattle.array_contents.proofs.MergedForms.{EachEndsAs, pair_there}

-- ---- the length of a reference

-- Null, and a reference that is not there, has the length 0.
abbrev pub length_of : List Expr → ℕ → Expr
length_of lengths zero = zero_expr
length_of lengths (suc i) = get_or lengths i zero_expr

null_end : Has zero_expr (last_bound of_null)
null_end = (0, omega arith, refl)

end_in : (symbols : ℕ) (lengths : List Expr) (contents : Contents) (i : ℕ) → AreFormed symbols lengths contents
    → Has (get_or lengths i zero_expr) (last_bound (get_or contents i of_null))
end_in symbols [] [] i formed = null_end
end_in symbols [] (segments ∷ contents) i formed = absurd formed
end_in symbols (e ∷ lengths) [] i formed = absurd formed
end_in symbols (e ∷ lengths) (segments ∷ contents) zero formed = formed.0.ends
end_in symbols (e ∷ lengths) (segments ∷ contents) (suc i) formed = end_in symbols lengths contents i formed.1

-- Each reference has an expression at its last bound.
abbrev pub EndAt : (ℕ → Expr) → Contents → Type 0
EndAt old contents = (r : ℕ) → Has (old r) (last_bound (segments_at contents r))

-- Its length is there.
pub end_at : (symbols : ℕ) (lengths : List Expr) (contents : Contents) → AreFormed symbols lengths contents
    → EndAt (length_of lengths) contents
end_at symbols lengths contents formed zero = null_end
end_at symbols lengths contents formed (suc i) = end_in symbols lengths contents i formed

-- ---- new expressions for those of two lists, or of one

-- Each of the last list stands for those of the first two at its place.
abbrev pub EachPaired : Pairing → List Expr → List Expr → List Expr → Type 0
EachPaired pairs [] [] [] = Unit {0}
EachPaired pairs (e ∷ es) (f ∷ fs) (g ∷ gs) = (paired_expr pairs e f ≡ Some g) × EachPaired pairs es fs gs
EachPaired pairs _ _ _ = ⊥

-- Each of the second list is the name of that of the first.
abbrev pub EachRenamed : List (Option Expr) → List Expr → List Expr → Type 0
EachRenamed names [] [] = Unit {0}
EachRenamed names (e ∷ es) (g ∷ gs) = (renamed names e ≡ Some g) × EachRenamed names es gs
EachRenamed names _ _ = ⊥

pub paired_behind : (pairs : Pairing) (xs ys es fs gs : List Expr) → length xs ≡ length ys
    → EachPaired pairs (xs ++ es) (ys ++ fs) gs
    → EachPaired pairs es fs (drop (length xs) gs)
paired_behind pairs [] [] es fs gs same each = each
paired_behind pairs [] (y ∷ ys) es fs gs same each = absurd (omega (arith, same))
paired_behind pairs (x ∷ xs) [] es fs gs same each = absurd (omega (arith, same))
paired_behind pairs (x ∷ xs) (y ∷ ys) es fs [] same each = absurd each
paired_behind pairs (x ∷ xs) (y ∷ ys) es fs (g ∷ gs) same each =
    paired_behind pairs xs ys es fs gs (omega (arith, same)) each.1

-- Where new lengths stand for those of both sides, the last bounds of both sides have them in common.
pub each_stands : (pairs : Pairing) (mine theirs : ℕ → Expr) (a b : Contents) (keys : List Key) (lengths : List Expr)
    → EndAt mine a → EndAt theirs b
    → EachPaired pairs (map (λ key. mine key.s) keys) (map (λ key. theirs key.t) keys) lengths
    → EachStands pairs a b keys lengths
each_stands pairs mine theirs a b [] lengths one other each = tt
each_stands pairs mine theirs a b (key ∷ keys) [] one other each = absurd each
each_stands pairs mine theirs a b (key ∷ keys) (e ∷ lengths) one other each = (
  record { one = mine key.s; other = theirs key.t; in_first = one key.s; in_second = other key.t; named = each.0 },
  each_stands pairs mine theirs a b keys lengths one other each.1,
)

-- Where new lengths are the names of the old ones, each last bound has one.
pub each_ends : (names : List (Option Expr)) (old : ℕ → Expr) (contents : Contents) (keys : List Key)
    (lengths : List Expr) → EndAt old contents
    → EachRenamed names (map (λ key. old key.s) keys) lengths → EachEndsAs names contents keys lengths
each_ends names old contents [] lengths ends each = tt
each_ends names old contents (key ∷ keys) [] ends each = absurd each
each_ends names old contents (key ∷ keys) (e ∷ lengths) ends each = (
  record { old = old key.s; in_bound = ends key.s; named = each.0 },
  each_ends names old contents keys lengths ends each.1,
)

-- ---- constants that are near fit

fits : (n : ℤ) (less more : Bool) → int_lt n (negsuc 9223372036854775807) ≡ less
    → int_lt (pos 9223372036854775807) n ≡ more → negsuc 8589934592 ≤ℤ n → n ≤ℤ pos 8589934592
    → (less || more) ≡ false
fits n true more low high above below = absurd (omega (arith, ints, low, above))
fits n false true low high above below = absurd (omega (arith, ints, high, below))
fits n false false low high above below = refl

fitting_near : (symbol : ℕ) (n : ℤ) → negsuc 8589934592 ≤ℤ n → n ≤ℤ pos 8589934592
    → fitting symbol n ≡ Some (record { sym = symbol; k = n })
fitting_near symbol n above below =
    ap (λ b. if b then None else Some (record { sym = symbol; k = n }))
    (fits n (int_lt n (negsuc 9223372036854775807)) (int_lt (pos 9223372036854775807) n) refl refl above below)

-- ---- the pairing of two lists

less_same : (m n : ℤ) (one other : Bool) → int_eq m n ≡ one → int_eq (n -ℤ m) (pos 0) ≡ other → one ≡ other
less_same m n true true first second = refl
less_same m n false false first second = refl
less_same m n true false first second =
    let same : m ≡ n = (Decides-int_eq m n).0 first in
    absurd (false≢true (sym second ∙ (Decides-int_eq (n -ℤ m) (pos 0)).1 (omega (arith, ints, same))))
less_same m n false true first second =
    let none : (n -ℤ m) ≡ pos 0 = (Decides-int_eq (n -ℤ m) (pos 0)).0 second in
    absurd (false≢true (sym first ∙ (Decides-int_eq m n).1 (omega (arith, ints, none))))

constant_is : (e f : Expr) → are_same_constant e f ≡ same_key (use_of e f) origin
constant_is e f =
    ap (λ b. e.sym == 0 && (f.sym == 0 && b))
    (less_same e.k f.k (int_eq e.k f.k) (int_eq (f.k -ℤ e.k) (pos 0)) refl refl)

constant_expr : (e f : Expr) → are_same_constant e f ≡ true → e ≡ record { sym = 0; k = e.k }
constant_expr e f is =
    let zero_is : e.sym ≡ 0 = (Decides-eqb e.sym 0).0 (and_parts (e.sym == 0) (f.sym == 0 && int_eq e.k f.k) is).0 in
    λ i. record { sym = zero_is i; k = e.k }

below_shown : (m n : ℕ) → m < n → nat_lt m n ≡ true
below_shown m n less = grind (arith, nat_tests, less)

-- The expression is one of 32-bit symbols and near constants.
pub record IsSmall (e : Expr) : Type 0 where
  pub symbol : e.sym ≤ 4294967295
  pub near : IsNear e

other_paired : (keys : List Key) (u : Key) (place : ℕ) → same_key u origin ≡ false
    → position_or_len (same_key u) keys ≡ place
    → number_in (origin ∷ keys) u < suc (length keys) → IsSmall (named (origin ∷ keys) u) → (exprs : List Expr)
    → named_at (record { keys = keys; exprs = exprs }) u.first (position (same_key u) keys) ≡ Some
    (named (origin ∷ keys) u)
other_paired keys u place is at there small exprs =
    let number : number_in (origin ∷ keys) u ≡ suc place = rw is (omega (arith, at)) in
    let named_is : named
    (origin ∷ keys) u ≡ record { sym = suc place; k = u.first -ℤ (get_or keys place origin).first } =
    ap (name_at (origin ∷ keys) u.first) number in
    let less : place < length keys = omega (arith, number, there) in
    let least = subst IsSmall named_is small in
    let few : place < 4294967295 = omega (arith, least.symbol) in
    ap (named_at (record { keys = keys; exprs = exprs }) u.first) (found at less)
    ∙ ap (λ b. if b then fitting (place + 1) (u.first -ℤ (get_or keys place origin).first) else None)
    (below_shown place 4294967295 few)
    ∙ fitting_near (place + 1) (u.first -ℤ (get_or keys place origin).first) (omega (arith, ints, least.near.least))
    (omega (arith, ints, least.near.greatest))
    ∙ ap (λ n. Some (record { sym = n; k = u.first -ℤ (get_or keys place origin).first })) (add-one place)
    ∙ ap (λ e. Some e) (sym named_is)
  where
    found : position_or_len (same_key u) keys ≡ place → place < length keys → position (same_key u) keys ≡ Some place
    found at less =
        ap (λ b. if b then Some (position_or_len (same_key u) keys) else None)
        (below_shown (position_or_len (same_key u) keys) (length keys) (subst (λ n. n < length keys) (sym at) less))
        ∙ ap (λ n. Some n) at

one_paired : (keys : List Key) (exprs : List Expr) (e f : Expr)
    → number_in (origin ∷ keys) (use_of e f) < suc (length keys) → IsSmall (named (origin ∷ keys) (use_of e f))
    → paired_expr (record { keys = keys; exprs = exprs }) e f ≡ Some (named (origin ∷ keys) (use_of e f))
one_paired keys exprs e f there small = by (are_same_constant e f) refl
  where
    by : (constant : Bool) → are_same_constant e f ≡ constant
        → (if constant then Some e else named_at (record { keys = keys; exprs = exprs }) e.k
        (position (same_key (use_of e f)) keys)) ≡ Some (named (origin ∷ keys) (use_of e f))
    by true is =
        ap (λ x. Some x) (constant_expr e f is ∙ sym (named_origin keys (use_of e f) (sym (constant_is e f) ∙ is)))
    by false is =
        other_paired keys (use_of e f) (position_or_len (same_key (use_of e f)) keys)
        (sym (constant_is e f) ∙ is) refl there small exprs

all_paired : (keys : List Key) (exprs : List Expr) (a b : List Expr) → length a ≡ length b
    → AllKnown (origin ∷ keys) (uses_of a b)
    → AllByRecursion IsSmall (map (named (origin ∷ keys)) (uses_of a b))
    → EachPaired (record { keys = keys; exprs = exprs }) a b (map (named (origin ∷ keys)) (uses_of a b))
all_paired keys exprs [] [] same there small = tt
all_paired keys exprs [] (f ∷ b) same there small = absurd (omega (arith, same))
all_paired keys exprs (e ∷ a) [] same there small = absurd (omega (arith, same))
all_paired keys exprs (e ∷ a) (f ∷ b) same there small =
    (one_paired keys exprs e f there.0 small.0, all_paired keys exprs a b (omega (arith, same)) there.1 small.1)

-- The new expressions of two lists stand for those at their places, where they are small.
pub paired_each : (a b : List Expr) → length a ≡ length b → AllByRecursion IsSmall (paired a b).exprs
    → EachPaired (paired a b) a b (paired a b).exprs
paired_each a b same small =
    subst (λ known. EachPaired (paired a b) a b (map (named known) (uses_of a b))) (sym first)
    (all_paired (paired a b).keys (paired a b).exprs a b same
    (subst (λ known. AllKnown known (uses_of a b)) first (all_known (origin ∷ []) (uses_of a b)))
    (subst (λ known. AllByRecursion IsSmall (map (named known) (uses_of a b))) first small))
  where
    first : known_in a b ≡ origin ∷ (paired a b).keys
    first = origin_first [] (uses_of a b)

-- ---- names of one state's symbols

name_of : (pairs : Pairing) (count s : ℕ) → s < count → get_or (own_names pairs count) s None ≡ own_name pairs s
name_of pairs count s below = get_or-map-range_with_len (own_name pairs) 0 count s s None below (zero_more s)
  where
    zero_more : (n : ℕ) → 0 + n ≡ n
    zero_more n = omega arith

-- Symbol 0 is its own name.
pub own_zero : (pairs : Pairing) (count : ℕ) → 0 < count → get_or (own_names pairs count) 0 None ≡ Some zero_expr
own_zero pairs count some = name_of pairs count 0 some

-- The symbol of each name is there.
pub own_there : (pairs : Pairing) (count s : ℕ) (name : Expr) → get_or (own_names pairs count) s None ≡ Some name
    → name.sym ≤ length pairs.keys
own_there pairs count s name at =
    elim (cases_lt s count) [
      | inl below ↦ pair_there pairs (as_expr s) (as_expr s) name (sym (name_of pairs count s below) ∙ at)
      | inr past ↦ none_is
          (sym (get_or_past (own_names pairs count) s None
          (omega (arith, past, length-map-range_with_len (own_name pairs) 0 count))) ∙ at)
    ]
  where
    none_is : None ≡ Some name → name.sym ≤ length pairs.keys
    none_is is = absurd cc

no_shift : (n m : ℤ) → (n -ℤ n) ≡ (m -ℤ m)
no_shift n m = omega (arith, ints)

moved_name : (pairs : Pairing) (k : ℤ) (place : Option ℕ) (g : Expr) → negsuc 4294967295 ≤ℤ k → k ≤ℤ pos 4294967296
    → AllByRecursion IsNearUse pairs.keys
    → ((n : ℕ) → place ≡ Some n → n < length pairs.keys) → named_at pairs k place ≡ Some g
    → moved (named_at pairs (pos 0) place) k ≡ Some g
moved_name pairs k None g above below keys there is = absurd cc
moved_name pairs k (Some n) g above below keys there is = by (nat_lt n 4294967295) is
  where
    by : (few : Bool) → (if few then fitting (n + 1) (k -ℤ (get_or pairs.keys n origin).first) else None) ≡ Some g
        → moved (if few then fitting (n + 1) (pos 0 -ℤ (get_or pairs.keys n origin).first) else None) k ≡ Some g
    by false made = absurd cc
    by true made =
        let first : IsNearUse (get_or pairs.keys n origin) = all_at IsNearUse pairs.keys n origin keys (there n refl) in
        let same : ((pos 0 -ℤ (get_or pairs.keys n origin).first) +ℤ k) ≡ (k -ℤ (get_or pairs.keys n origin).first) =
        omega (arith, ints) in
        ap (λ name. moved name k)
        (fitting_near (n + 1) (pos 0 -ℤ (get_or pairs.keys n origin).first)
        (omega (arith, ints, first.least, first.greatest)) (omega (arith, ints, first.least, first.greatest)))
        ∙ ap (λ z. fitting (n + 1) z) same ∙ made

-- What stands for an expression twice is its name.
pub own_renamed : (pairs : Pairing) (count : ℕ) (e g : Expr) → e.sym < count → IsNear e
    → AllByRecursion IsNearUse pairs.keys → paired_expr pairs e e ≡ Some g
    → renamed (own_names pairs count) e ≡ Some g
own_renamed pairs count e g below near keys is =
    ap (λ name. moved name e.k) (name_of pairs count e.sym below) ∙ by (e.sym == 0) is
  where
    one_place : position (same_key (use_of e e)) pairs.keys
        ≡ position (same_key (use_of (as_expr e.sym) (as_expr e.sym))) pairs.keys
    one_place =
        ap (λ z. position (λ u. e.sym == u.s && (e.sym == u.t && int_eq z u.shift)) pairs.keys) (no_shift e.k (pos 0))

    same : (pos 0 +ℤ e.k) ≡ e.k
    same = omega (arith, ints)

    by : (null : Bool)
        → (if null && (null && int_eq e.k e.k) then Some e else named_at pairs e.k
        (position (same_key (use_of e e)) pairs.keys)) ≡ Some g
        → moved
        (if null && (null && true) then Some (as_expr e.sym) else named_at pairs (pos 0)
        (position (same_key (use_of (as_expr e.sym) (as_expr e.sym))) pairs.keys)) e.k ≡ Some g
    by true made =
        ap (fitting e.sym) same ∙ fitting_near e.sym e.k (omega (arith, ints, near.least))
        (omega (arith, ints, near.greatest))
        ∙ sym (ap (λ b. if b then Some e else named_at pairs e.k (position (same_key (use_of e e)) pairs.keys))
        ((Decides-int_eq e.k e.k).1 refl)) ∙ made
    by false made =
        moved_name pairs e.k
        (position (same_key (use_of (as_expr e.sym) (as_expr e.sym))) pairs.keys) g near.least near.greatest keys
        (λ n at. (position-Some (same_key (use_of (as_expr e.sym) (as_expr e.sym))) pairs.keys n origin at).0)
        (ap (named_at pairs e.k) (sym one_place) ∙ made)

-- ---- lists of one state paired with themselves

first_all : (P : Key → Type 0) (known us : List Key) → AllByRecursion P known → AllByRecursion P us
    → AllByRecursion P (first_uses same_key known us)
first_all P known [] all rest = all
first_all P known (u ∷ us) all rest =
    first_all P (noted same_key known u) us (all_noted same_key P known u all rest.0) rest.1

behind_all : (P : Key → Type 0) (us : List Key) → AllByRecursion P us → AllByRecursion P (behind_first us)
behind_all P [] all = tt
behind_all P (u ∷ us) all = all.1

-- What is so of two equal constants and of each use is so of each key.
pub keys_all : (P : Key → Type 0) (a b : List Expr) → P origin → AllByRecursion P (uses_of a b)
    → AllByRecursion P (paired a b).keys
keys_all P a b own all = behind_all P (known_in a b) (first_all P (origin ∷ []) (uses_of a b) (own, tt) all)

-- The keys of near expressions have near constants.
pub near_keys : (a b : List Expr) → AllByRecursion IsNear a → AllByRecursion IsNearUse (paired a b).keys
near_keys a b near =
    keys_all IsNearUse a b (record { least = omega (arith, ints); greatest = omega (arith, ints) }) (uses a b near)
  where
    uses : (es fs : List Expr) → AllByRecursion IsNear es → AllByRecursion IsNearUse (uses_of es fs)
    uses [] fs all = tt
    uses (e ∷ es) [] all = tt
    uses (e ∷ es) (f ∷ fs) all = (record { least = all.0.least; greatest = all.0.greatest }, uses es fs all.1)

-- A list paired with itself has keys of one symbol each.
pub own_keys : (a : List Expr) → AllByRecursion (λ u. u.s ≡ u.t) (paired a a).keys
own_keys a = keys_all (λ u. u.s ≡ u.t) a a refl (uses a)
  where
    uses : (es : List Expr) → AllByRecursion (λ u. u.s ≡ u.t) (uses_of es es)
    uses [] = tt
    uses (e ∷ es) = (refl, uses es)

-- The keys of references that are there are of such.
pub reference_keys : (first second : ℕ) (rs qs : List ℕ) → AllByRecursion (λ r. r ≤ first) rs
    → AllByRecursion (λ q. q ≤ second) qs
    → AllByRecursion (λ u. (u.s ≤ first) × (u.t ≤ second)) (paired_references rs qs).keys
reference_keys first second rs qs one other =
    keys_all (λ u. (u.s ≤ first) × (u.t ≤ second)) (map as_expr rs) (map as_expr qs) (omega arith, omega arith)
    (uses rs qs one other)
  where
    uses : (xs ys : List ℕ) → AllByRecursion (λ r. r ≤ first) xs → AllByRecursion (λ q. q ≤ second) ys
        → AllByRecursion (λ u. (u.s ≤ first) × (u.t ≤ second)) (uses_of (map as_expr xs) (map as_expr ys))
    uses [] ys all also = tt
    uses (x ∷ xs) [] all also = tt
    uses (x ∷ xs) (y ∷ ys) all also = ((all.0, also.0), uses xs ys all.1 also.1)

-- Where keys are of one symbol each, both sides are the same.
pub same_sides : (old : ℕ → Expr) (keys : List Key) → AllByRecursion (λ u. u.s ≡ u.t) keys
    → map (λ key. old key.t) keys ≡ map (λ key. old key.s) keys
same_sides old [] all = refl
same_sides old (key ∷ keys) all =
    ap (λ r. old r ∷ map (λ key. old key.t) keys) (sym all.0) ∙ ap (λ rest. old key.s ∷ rest)
    (same_sides old keys all.1)

-- What stands for each of a list paired with itself is its name.
pub each_renamed : (pairs : Pairing) (count : ℕ) (es gs : List Expr) → AllByRecursion (λ e. e.sym < count) es
    → AllByRecursion IsNear es
    → AllByRecursion IsNearUse pairs.keys → EachPaired pairs es es gs → EachRenamed (own_names pairs count) es gs
each_renamed pairs count [] [] below near keys each = tt
each_renamed pairs count [] (g ∷ gs) below near keys each = absurd each
each_renamed pairs count (e ∷ es) [] below near keys each = absurd each
each_renamed pairs count (e ∷ es) (g ∷ gs) below near keys each =
    (own_renamed pairs count e g below.0 near.0 keys each.0, each_renamed pairs count es gs below.1 near.1 keys each.1)

-- ---- frames: numbers of variables, and behind them the lengths of references

both_long : (ns ms : List Expr) (mine theirs : ℕ → Expr) (keys : List Key) → length ns ≡ length ms
    → length (ns ++ map (λ key. mine key.s) keys) ≡ length (ms ++ map (λ key. theirs key.t) keys)
both_long [] [] mine theirs keys same =
    length-map keys (λ key. mine key.s) ∙ sym (length-map keys (λ key. theirs key.t))
both_long [] (m ∷ ms) mine theirs keys same = absurd (omega (arith, same))
both_long (n ∷ ns) [] mine theirs keys same = absurd (omega (arith, same))
both_long (n ∷ ns) (m ∷ ms) mine theirs keys same = ap suc (both_long ns ms mine theirs keys (omega (arith, same)))

-- The new lengths of two frames that are paired stand for those of both sides.
pub frames_stand : (ns ms : List Expr) (mine theirs : ℕ → Expr) (a b : Contents) (keys : List Key) (pairs : Pairing)
    → pairs ≡ paired (ns ++ map (λ key. mine key.s) keys) (ms ++ map (λ key. theirs key.t) keys) → length ns ≡ length ms
    → AllByRecursion IsSmall pairs.exprs → EndAt mine a → EndAt theirs b
    → EachStands pairs a b keys (drop (length ns) pairs.exprs)
frames_stand ns ms mine theirs a b keys pairs is same small one other =
    each_stands pairs mine theirs a b keys (drop (length ns) pairs.exprs) one other
    (paired_behind pairs ns ms (map (λ key. mine key.s) keys) (map (λ key. theirs key.t) keys) pairs.exprs same
    (subst (λ (p : Pairing). EachPaired p (ns ++ map (λ key. mine key.s) keys)
    (ms ++ map (λ key. theirs key.t) keys) p.exprs) (sym is)
    (paired_each (ns ++ map (λ key. mine key.s) keys) (ms ++ map (λ key. theirs key.t) keys)
    (both_long ns ms mine theirs keys same)
    (subst (λ (p : Pairing). AllByRecursion IsSmall p.exprs) is small))))

-- The new lengths of a frame that is paired with itself are names of its lengths.
pub frame_ends : (ns : List Expr) (old : ℕ → Expr) (contents : Contents) (keys : List Key) (count : ℕ) (pairs : Pairing)
    → pairs ≡ paired (ns ++ map (λ key. old key.s) keys) (ns ++ map (λ key. old key.t) keys)
    → AllByRecursion (λ u. u.s ≡ u.t) keys
    → AllByRecursion IsSmall pairs.exprs → AllByRecursion IsNear (ns ++ map (λ key. old key.s) keys)
    → AllByRecursion (λ e. e.sym < count) (map (λ key. old key.s) keys) → EndAt old contents
    → EachEndsAs (own_names pairs count) contents keys (drop (length ns) pairs.exprs)
frame_ends ns old contents keys count pairs is own small near below ends =
    each_ends (own_names pairs count) old contents keys (drop (length ns) pairs.exprs) ends
    (each_renamed pairs count (map (λ key. old key.s) keys) (drop (length ns) pairs.exprs) below
    (near_behind ns (map (λ key. old key.s) keys) near)
    (subst (λ (p : Pairing). AllByRecursion IsNearUse p.keys) (sym is)
    (near_keys (ns ++ map (λ key. old key.s) keys) (ns ++ map (λ key. old key.t) keys) near))
    (subst (λ es. EachPaired pairs (map (λ key. old key.s) keys) es (drop (length ns) pairs.exprs))
    (same_sides old keys own)
    (paired_behind pairs ns ns (map (λ key. old key.s) keys) (map (λ key. old key.t) keys) pairs.exprs refl
    (subst (λ (p : Pairing). EachPaired p (ns ++ map (λ key. old key.s) keys)
    (ns ++ map (λ key. old key.t) keys) p.exprs) (sym is)
    (paired_each (ns ++ map (λ key. old key.s) keys) (ns ++ map (λ key. old key.t) keys)
    (both_long ns ns old old keys refl)
    (subst (λ (p : Pairing). AllByRecursion IsSmall p.exprs) is small))))))
  where
    near_behind : (xs es : List Expr) → AllByRecursion IsNear (xs ++ es) → AllByRecursion IsNear es
    near_behind [] es all = all
    near_behind (x ∷ xs) es all = near_behind xs es all.1
