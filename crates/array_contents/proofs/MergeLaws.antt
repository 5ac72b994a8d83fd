-- Contents of two states as one, in other names, and included ones hold of what those held of that they are made of.
use Rattle.std.proofs.Common.{◌≡◌, ℕ, zero, suc, ◌<◌, ◌≤◌, ℤ, pos, Bool, true, false, List, [], ◌∷◌, length, drop, get_or, slice_get, Option, Some, refl, sym, ap, ◌∙◌, subst, arith}
use Rattle.std.specs.Prelude.{if◌then◌else◌}
use Rattle.std.specs.List as lists
use Rattle.std.specs.List.{AllByRecursion}
use Rattle.std.proofs.lemmas.Bool.{and_parts}
use Rattle.std.proofs.lemmas.Int.{ints}
use Rattle.domain_api.specs.declared.expr.Expr.{Expr}
use Rattle.array_segments.specs.Behind.{StandsForBoth, behind}
use Rattle.array_segments.specs.Inclusion.{includes}
use Rattle.array_segments.specs.Meaning.{AreNames, Holds, Obeys, worth}
use Rattle.array_segments.specs.SegmentLists.{HasForm, last_bound, zero_expr}
use Rattle.array_segments.proofs.ClauseLaws.{included_law, renamed_keeps}
use Rattle.array_segments.proofs.UnifyLaw.{unified_first, unified_second}
use Rattle.array_segments.proofs.WholeLaw.{whole_form, whole_law}
use Rattle.interval_domain.specs.Interval.{Contains, Interval, one}
use Rattle.interval_domain.specs.Joins.{full, hull, widened, within}
use Rattle.interval_domain.specs.Laws.JoinsContain.{hull_left, hull_right, widened_left, widened_right, within_contains}
use Rattle.array_segments.specs.Renaming.{renamed_lists}
use Rattle.symbolic_values.specs.Names.{renamed}
use Rattle.symbolic_values.specs.Pairing.{Pairing, origin}
use Rattle.symbolic_values.specs.declared.pairs.Key.{Key}
use Rattle.array_contents.specs.Contents.{AreFormed, AreHeld, Contents, Segments, of_null, segments_at}
use Rattle.array_contents.specs.Ends.{EachIsNamed, EachStands}
use Rattle.array_contents.specs.Merging.{Making, included, merged, merged_one, renamed_each}
use Rattle.array_contents.specs.Storing.{Gaps}

-- What is made of two ranges has what either has.
pub record KeepsBoth (make : Making) : Type 0 where
  pub left : (a b : Interval) (n : ℤ) → Contains a n → Contains (make a b) n
  pub right : (a b : Interval) (n : ℤ) → Contains b n → Contains (make a b) n

pub hull_keeps : KeepsBoth hull
hull_keeps = record { left = hull_left; right = hull_right }

pub widened_keeps : KeepsBoth widened
widened_keeps = record { left = widened_left; right = widened_right }

-- New references, each of which was one of a side.
abbrev pub AreOf : Bool → List Key → (ℕ → List ℤ) → (ℕ → List ℤ) → Type 0
AreOf is_first keys items new =
    (i : ℕ) (key : Key) → slice_get keys i ≡ Some key → new (suc i) ≡ items (if is_first then key.s else key.t)

-- ---- the segments of a reference

same_some : {X : Type 0} (x y : X) → Some x ≡ Some y → x ≡ y
same_some x y same = cc

pub null_form : HasForm of_null
null_form = whole_form zero_expr (one (pos 0)) true

pub null_holds : (number : ℕ → ℤ) (items : List ℤ) → number 0 ≡ pos 0 → items ≡ [] → Holds Contains number items of_null
null_holds number items zero_is none =
    subst (λ xs. Holds Contains number xs of_null) (sym none)
    (whole_law Contains number [] zero_expr (one (pos 0)) true zero_is (omega (arith, ints, zero_is))
    (λ unmarked. absurd cc)
    (λ k above below. absurd (omega (arith, ints, above, below))))

form_in : (contents : Contents) (i : ℕ) → AllByRecursion HasForm contents → HasForm (get_or contents i of_null)
form_in [] i all = null_form
form_in (segments ∷ contents) zero all = all.0
form_in (segments ∷ contents) (suc i) all = form_in contents i all.1

pub form_at : (contents : Contents) (r : ℕ) → AllByRecursion HasForm contents → HasForm (segments_at contents r)
form_at contents zero all = null_form
form_at contents (suc i) all = form_in contents i all

found : {X : Type 0} (xs : List X) (i : ℕ) (x : X) → i < length xs → slice_get xs i ≡ Some (get_or xs i x)
found [] i x there = absurd (omega (arith, there))
found (y ∷ xs) zero x there = refl
found (y ∷ xs) (suc i) x there = found xs i x (omega (arith, there))

pub holds_at : (number : ℕ → ℤ) (items : ℕ → List ℤ) (contents : Contents) (r : ℕ) → number 0 ≡ pos 0 → items 0 ≡ []
    → r ≤ length contents
    → AreHeld number items contents → Holds Contains number (items r) (segments_at contents r)
holds_at number items contents zero zero_is null there held = null_holds number (items 0) zero_is null
holds_at number items contents (suc i) zero_is null there held =
    held i (get_or contents i of_null) (found contents i of_null (omega (arith, there)))

-- ---- one reference and those behind it

pub held_none : (number : ℕ → ℤ) (items : ℕ → List ℤ) → AreHeld number items []
held_none number items i segments is = absurd cc

pub held_cons : (number : ℕ → ℤ) (items : ℕ → List ℤ) (segments : Segments) (contents : Contents)
    → Holds Contains number (items 1) segments
    → AreHeld number (λ r. items (suc r)) contents → AreHeld number items (segments ∷ contents)
held_cons number items segments contents first later zero other is =
    subst (Holds Contains number (items 1)) (same_some segments other is) first
held_cons number items segments contents first later (suc i) other is = later i other is

key_first : (key : Key) (keys : List Key) → lists.Contains (key ∷ keys) key
key_first key keys = (0, omega arith, refl)

key_later : (key other : Key) (keys : List Key) → lists.Contains keys key → lists.Contains (other ∷ keys) key
key_later key other keys has = (suc has.0, omega (arith, has.1), has.2)

-- What is so of each key is so of one that is among them.
pub each_has : (P : Key → Type 0) (keys : List Key) → AllByRecursion P keys → (key : Key) → lists.Contains keys key
    → P key
each_has P keys all key has = subst P has.2 (at keys has.0 all has.1)
  where
    at : (us : List Key) (k : ℕ) → AllByRecursion P us → k < length us → P (get_or us k key)
    at [] k each there = absurd (omega (arith, there))
    at (u ∷ us) zero each there = each.0
    at (u ∷ us) (suc k) each there = at us k each.1 (omega (arith, there))

got : (keys : List Key) (i : ℕ) (key : Key) → slice_get keys i ≡ Some key → get_or keys i origin ≡ key
got [] i key is = absurd cc
got (u ∷ keys) zero key is = same_some u key is
got (u ∷ keys) (suc i) key is = got keys i key is

-- The items of what each new reference was.
pub old_items : (is_first : Bool) (keys : List Key) (items : ℕ → List ℤ)
    → AreOf is_first keys items
    (λ r. items (if is_first then (get_or (origin ∷ keys) r origin).s else (get_or (origin ∷ keys) r origin).t))
old_items is_first keys items i key is = ap (λ u. items (if is_first then u.s else u.t)) (got keys i key is)

-- ---- both as one

one_merged : (is_first : Bool) (make : Making) (pairs : Pairing) (a b : Contents) (key : Key) (e : Expr)
    (number : ℕ → ℤ) (items : ℕ → List ℤ)
    → KeepsBoth make → AllByRecursion HasForm a → AllByRecursion HasForm b
    → StandsForBoth pairs (last_bound (segments_at a key.s)) (last_bound (segments_at b key.t)) e → number 0 ≡ pos 0
    → items 0 ≡ []
    → (if is_first then key.s else key.t) ≤ length (if is_first then a else b)
    → AreHeld number items (if is_first then a else b)
    → Holds Contains (behind is_first number pairs) (items (if is_first then key.s else key.t))
    (merged_one make pairs a b key e)
one_merged true make pairs a b key e number items keeps first second stands zero_is null there held =
    unified_first Contains number (items key.s) hull make full hull_left hull_right keeps.left keeps.right pairs e
    (segments_at a key.s) (segments_at b key.t)
    (form_at a key.s first) (form_at b key.t second) stands (holds_at number items a key.s zero_is null there held)
one_merged false make pairs a b key e number items keeps first second stands zero_is null there held =
    unified_second Contains number (items key.t) hull make full hull_left hull_right keeps.left keeps.right pairs e
    (segments_at a key.s) (segments_at b key.t)
    (form_at a key.s first) (form_at b key.t second) stands (holds_at number items b key.t zero_is null there held)

-- Where a side's contents hold, those of both do, under the choice behind the pairs.
pub merged_held : (is_first : Bool) (make : Making) (pairs : Pairing) (a b : Contents) (keys : List Key)
    (lengths : List Expr)
    (number : ℕ → ℤ) (items new : ℕ → List ℤ) → KeepsBoth make → AllByRecursion HasForm a → AllByRecursion HasForm b
    → EachStands pairs a b keys lengths → number 0 ≡ pos 0 → items 0 ≡ []
    → ((key : Key) → lists.Contains keys key →
    ((if is_first then key.s else key.t) ≤ length (if is_first then a else b)))
    → AreOf is_first keys items new
    → AreHeld number items (if is_first then a else b)
    → AreHeld (behind is_first number pairs) new (merged make pairs a b keys lengths)
merged_held is_first make pairs a b [] lengths number items new keeps first second stands zero_is null there of held =
    held_none (behind is_first number pairs) new
merged_held is_first make pairs a b (key ∷ keys) lengths number items new keeps first second stands zero_is null there
    of held =
    held_cons (behind is_first number pairs) new (merged_one make pairs a b key (get_or lengths 0 zero_expr))
    (merged make pairs a b keys (drop 1 lengths))
    (subst (λ xs. Holds Contains (behind is_first number pairs) xs
    (merged_one make pairs a b key (get_or lengths 0 zero_expr))) (sym (of 0 key refl))
    (one_merged is_first make pairs a b key
    (get_or lengths 0 zero_expr) number items keeps first second stands.0 zero_is null
    (there key (key_first key keys)) held))
    (merged_held is_first make pairs a b keys (drop 1 lengths) number items
    (λ r. new (suc r)) keeps first second stands.1 zero_is null
    (λ later has. there later (key_later later key keys has)) (λ i later is. of (suc i) later is) held)

-- ---- in other names

pub renamed_held : (names : List (Option Expr)) (contents : Contents) (keys : List Key) (before number : ℕ → ℤ)
    (items new : ℕ → List ℤ) → AllByRecursion HasForm contents → EachIsNamed names contents keys → before 0 ≡ pos 0
    → items 0 ≡ [] → ((key : Key) → lists.Contains keys key → key.s ≤ length contents) → AreNames names before number
    → AreOf true keys items new → AreHeld before items contents
    → AreHeld number new (renamed_each names contents keys)
renamed_held names contents [] before number items new formed ends zero_is null there are of held = held_none number new
renamed_held names contents (key ∷ keys) before number items new formed ends zero_is null there are of held =
    held_cons number new (renamed_lists hull (renamed names) (segments_at contents key.s))
    (renamed_each names contents keys)
    (subst (λ xs. Holds Contains number xs (renamed_lists hull (renamed names) (segments_at contents key.s)))
    (sym (of 0 key refl))
    (renamed_keeps Contains before number (items key.s) hull hull_left hull_right names (segments_at contents key.s)
    (form_at contents key.s formed) ends.0 are
    (holds_at before items contents key.s zero_is null (there key (key_first key keys)) held)))
    (renamed_held names contents keys before number items (λ r. new (suc r)) formed ends.1 zero_is null
    (λ later has. there later (key_later later key keys has)) are (λ i later is. of (suc i) later is) held)

-- ---- inclusion

next_of : (bound : List ℕ) (i : ℕ) → get_or bound (suc i) 0 ≡ get_or (drop 1 bound) i 0
next_of [] i = refl
next_of (r ∷ bound) i = refl

-- The contents of each are those of `included`: each of b's references is bound to one of a's.
pub included_held : (gap : Gaps) (names : List (Option Expr)) (a b : Contents) (bound : List ℕ) (symbols : ℕ)
    (lengths : List Expr)
    (number theirs : ℕ → ℤ)
    (items new : ℕ → List ℤ) → AllByRecursion HasForm a → AreFormed symbols lengths b → Obeys gap number
    → AreNames names theirs number → number 0 ≡ pos 0 → theirs 0 ≡ pos 0 → items 0 ≡ []
    → ((i : ℕ) → i < length b → get_or bound i 0 ≤ length a)
    → ((i : ℕ) → new (suc i) ≡ items (get_or bound i 0))
    → ((i : ℕ) (e : Expr) → slice_get lengths i ≡ Some e → worth theirs e ≡ pos (length (new (suc i))))
    → AreHeld number items a → included gap names a bound b ≡ true → AreHeld theirs new b
included_held gap names a [] bound symbols lengths number theirs items new first second obeys are zero_is also null
    there of ends held is = held_none theirs new
included_held gap names a (segments ∷ b) bound symbols [] number theirs items new first second obeys are zero_is also
    null there of ends held is = absurd second
included_held gap names a (segments ∷ b) bound symbols (e ∷ lengths) number theirs items new first second obeys are
    zero_is also null there of ends held is =
    let parts =
    and_parts (includes within gap names (segments_at a (get_or bound 0 0)) segments)
    (included gap names a (drop 1 bound) b) is in
    held_cons theirs new segments b
    (included_law Contains within within_contains gap number obeys theirs names are (new 1)
    (segments_at a (get_or bound 0 0)) segments e
    (form_at a (get_or bound 0 0) first) second.0.form also second.0.ends (ends 0 e refl)
    (subst (λ xs. Holds Contains number xs (segments_at a (get_or bound 0 0))) (sym (of 0))
    (holds_at number items a (get_or bound 0 0) zero_is null (there 0 (omega arith)) held)) parts.0)
    (included_held gap names a b (drop 1 bound) symbols lengths number theirs items
    (λ r. new (suc r)) first second.1 obeys are zero_is also null
    (λ i inside. subst (λ r. r ≤ length a) (next_of bound i) (there (suc i) (omega (arith, inside))))
    (λ i. of (suc i) ∙ ap items (next_of bound i)) (λ i other found_is. ends (suc i) other found_is) held parts.1)
