-- New references, one by one.
use Rattle.std.proofs.Common.{◌≡◌, ℕ, ◌+◌, ◌<◌, ◌≤◌, ◌&&◌, List, [], ◌∷◌, length, map, get_or, drop, Option, arith, subst, sym, ap, ◌∙◌}
use Rattle.std.proofs.lemmas.List.{drop_more, drop-drop, get_or-drop}
use Rattle.std.specs.List.{filter_map}
use Rattle.domain_api.specs.declared.expr.Expr.{Expr}
use Rattle.interval_domain.specs.Joins.{within}
use Rattle.symbolic_values.specs.Names.{renamed}
use Rattle.symbolic_values.specs.Pairing.{Pairing}
use Rattle.symbolic_values.specs.declared.pairs.Key.{Key}
use Rattle.array_segments.specs.Behind.{StandsForBoth}
use Rattle.array_segments.specs.Inclusion.{includes}
use Rattle.array_segments.specs.SegmentLists.{last_bound, zero_expr}
use Rattle.array_segments.proofs.NameSteps.{drop_past}
use Rattle.array_contents.proofs.EachSteps.{mapped_more}
use Rattle.array_contents.specs.Contents.{Contents, Segments, segments_at}
use Rattle.array_contents.specs.Ends.{EachIsNamed, EachStands}
use Rattle.array_contents.specs.Merging.{Making, included, merged, merged_one}
use Rattle.array_contents.specs.Storing.{Gaps}

-- ---- lists from a place on

first_left : {X : Type 0} (xs : List X) (place : ℕ) (d : X) → get_or (drop place xs) 0 d ≡ get_or xs place d
first_left xs place d = let e : place + 0 ≡ place = omega arith in get_or-drop place xs 0 d ∙ ap (λ n. get_or xs n d) e

later_left : {X : Type 0} (xs : List X) (place : ℕ) → drop 1 (drop place xs) ≡ drop (place + 1) xs
later_left xs place = drop-drop 1 place xs

left_from : {X : Type 0} (xs : List X) (place : ℕ) (x : X) → place < length xs → x ≡ get_or xs place x
    → drop place xs ≡ x ∷ drop (place + 1) xs
left_from xs place x below is = drop_more xs place x below ∙ ap (λ y. y ∷ drop (place + 1) xs) (sym is)

-- ---- two states

pub merged_more : (make : Making) (pairs : Pairing) (a b : Contents) (keys : List Key) (lengths : List Expr) (place : ℕ)
    (key : Key) (e : Expr) → place < length keys → key ≡ get_or keys place key → e ≡ get_or lengths place zero_expr
    → merged make pairs a b (drop place keys) (drop place lengths)
    ≡ merged_one make pairs a b key e ∷ merged make pairs a b (drop (place + 1) keys) (drop (place + 1) lengths)
merged_more make pairs a b keys lengths place key e below is also =
    ap (λ left. merged make pairs a b left (drop place lengths)) (left_from keys place key below is)
    ∙ (λ i. merged_one make pairs a b key ((first_left lengths place zero_expr ∙ sym also) i)
    ∷ merged make pairs a b (drop (place + 1) keys) (later_left lengths place i))

pub merged_end : (make : Making) (pairs : Pairing) (a b : Contents) (keys : List Key) (lengths : List Expr) (place : ℕ)
    → length keys ≤ place → merged make pairs a b (drop place keys) (drop place lengths) ≡ []
merged_end make pairs a b keys lengths place past =
    ap (λ left. merged make pairs a b left (drop place lengths)) (drop_past place keys past)

stands_parts : (pairs : Pairing) (a b : Contents) (keys : List Key) (lengths : List Expr) (place : ℕ) (key : Key)
    → place < length keys → key ≡ get_or keys place key → EachStands pairs a b (drop place keys) (drop place lengths)
    → EachStands pairs a b (key ∷ drop (place + 1) keys) (drop place lengths)
stands_parts pairs a b keys lengths place key below is all =
    subst (λ left. EachStands pairs a b left (drop place lengths)) (left_from keys place key below is) all

pub stands_at : (pairs : Pairing) (a b : Contents) (keys : List Key) (lengths : List Expr) (place : ℕ) (key : Key) (e : Expr)
    → EachStands pairs a b (drop place keys) (drop place lengths)
    → place < length keys → key ≡ get_or keys place key → e ≡ get_or lengths place zero_expr
    → StandsForBoth pairs (last_bound (segments_at a key.s)) (last_bound (segments_at b key.t)) e
stands_at pairs a b keys lengths place key e all below is also =
    subst (StandsForBoth pairs (last_bound (segments_at a key.s)) (last_bound (segments_at b key.t)))
    (first_left lengths place zero_expr ∙ sym also) (stands_parts pairs a b keys lengths place key below is all).0

pub stands_later : (pairs : Pairing) (a b : Contents) (keys : List Key) (lengths : List Expr) (place : ℕ) (key : Key)
    → EachStands pairs a b (drop place keys) (drop place lengths) → place < length keys → key ≡ get_or keys place key
    → EachStands pairs a b (drop (place + 1) keys) (drop (place + 1) lengths)
stands_later pairs a b keys lengths place key all below is =
    subst (EachStands pairs a b (drop (place + 1) keys)) (later_left lengths place)
    (stands_parts pairs a b keys lengths place key below is all).1

pub stands_of : (pairs : Pairing) (a b first second : Segments) (e : Expr) → first ≡ a → second ≡ b
    → StandsForBoth pairs (last_bound a) (last_bound b) e → StandsForBoth pairs (last_bound first) (last_bound second) e
stands_of pairs a b first second e is also stands =
    subst (λ lists. StandsForBoth pairs (last_bound lists) (last_bound second) e) (sym is)
    (subst (λ lists. StandsForBoth pairs (last_bound a) (last_bound lists) e) (sym also) stands)

-- ---- other names

pub named_at : (names : List (Option Expr)) (contents : Contents) (keys : List Key) (place : ℕ) (key : Key)
    → EachIsNamed names contents (drop place keys) → place < length keys → key ≡ get_or keys place key
    → 0 < length (filter_map (renamed names) (last_bound (segments_at contents key.s)))
named_at names contents keys place key all below is =
    (subst (EachIsNamed names contents) (left_from keys place key below is) all).0

pub named_later : (names : List (Option Expr)) (contents : Contents) (keys : List Key) (place : ℕ) (key : Key)
    → EachIsNamed names contents (drop place keys) → place < length keys → key ≡ get_or keys place key
    → EachIsNamed names contents (drop (place + 1) keys)
named_later names contents keys place key all below is =
    (subst (EachIsNamed names contents) (left_from keys place key below is) all).1

-- ---- inclusion

pub included_more : {X : Type 0} (gap : Gaps) (names : List (Option Expr)) (a : Contents) (bound : List ℕ) (view : X → Segments)
    (xs : List X) (place r : ℕ) (x : X) → place < length xs → x ≡ get_or xs place x → r ≡ get_or bound place 0
    → included gap names a (drop place bound) (map view (drop place xs))
    ≡ (includes within gap names (segments_at a r) (view x) && included gap names a (drop (place + 1) bound) (map view (drop (place + 1) xs)))
included_more gap names a bound view xs place r x below is also =
    ap (λ left. included gap names a (drop place bound) (map view left)) (left_from xs place x below is)
    ∙ (λ i. includes within gap names (segments_at a ((first_left bound place 0 ∙ sym also) i)) (view x)
    && included gap names a (later_left bound place i) (map view (drop (place + 1) xs)))

-- ---- in proofs of loops

pub ruleset merged_steps = (merged_more, merged_end, stands_later)

pub ruleset renamed_steps = (mapped_more, named_at, named_later)
