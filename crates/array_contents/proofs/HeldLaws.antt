-- Contents that hold, hold of more references, of choices that agree, and of items behind loads, stores and calls.
use Rattle.std.proofs.Common.{◌≡◌, ◌≢◌, ◌⊎◌, inl, inr, ℕ, zero, suc, ◌<◌, ◌≤◌, ℤ, pos, ◌+ℤ◌, Bool, true, false, List, [], ◌∷◌, ◌++◌, length, get_or, set, drop, slice_get, Option, None, Some, arith, refl, sym, subst, ap, ◌∙◌}
use Rattle.std.proofs.lemmas.Int.{ints}
use Rattle.std.proofs.lemmas.Option.{slice_get-get_or, slice_get_within}
use Rattle.std.specs.List.{AllByRecursion}
use Rattle.domain_api.specs.declared.expr.Expr.{Expr}
use Rattle.array_segments.specs.Loading.{start, stop}
use Rattle.array_segments.specs.Meaning.{AreWorth, Holds, IsIndex, Obeys, Spans, item, worth, zipped}
use Rattle.array_segments.specs.SegmentLists.{HasForm, whole}
use Rattle.array_segments.specs.Storing.{strongly_stored}
use Rattle.array_segments.proofs.ClauseLaws.{grown_law}
use Rattle.array_segments.proofs.Laws.{load_law, strong_law, weak_law_same}
use Rattle.array_segments.proofs.WholeLaw.{whole_law}
use Rattle.interval_domain.specs.Interval.{Contains, Interval}
use Rattle.interval_domain.specs.Joins.{full, hull}
use Rattle.interval_domain.specs.Laws.JoinsContain.{hull_left, hull_right}
use Rattle.array_contents.specs.Contents.{AreFormed, AreHeld, Contents, Segments, of_null}
use Rattle.array_contents.specs.Meaning.{AreIn, IsBehindCall, IsBehindStore, IsWritten}
use Rattle.array_contents.specs.Storing.{Gaps, forgotten, forgotten_one, loaded_at, stored, strongly_at, weakly_each, weakly_one}
use Rattle.array_contents.specs.declared.forgetting.Unknown.{Unknown}
use Rattle.array_contents.proofs.FormLaws.{formed_at, formed_length}
use Rattle.array_contents.proofs.NamedBounds.{AreNamed, each_rest, first_named}

-- ---- agreeing

module _ (symbols : ℕ) (number later : ℕ → ℤ) (agree : (s : ℕ) → s ≤ symbols → later s ≡ number s) where
  bound_agrees : (place : ℤ) (bound : List Expr) → AreNamed symbols bound → AreWorth number place bound
      → AreWorth later place bound
  bound_agrees place [] named are = tt
  bound_agrees place (e ∷ bound) named are =
      (ap (λ n. n +ℤ e.k) (agree e.sym named.0) ∙ are.0, bound_agrees place bound named.1 are.1)

  spans_agree : (items : List ℤ) (uppers : List (List Expr)) (contents : List Interval) (marks : List Bool)
      (low high : ℤ) → AllByRecursion (AreNamed symbols) uppers
      → Spans Contains number items low (zipped uppers contents marks) high
      → Spans Contains later items low (zipped uppers contents marks) high
  spans_agree items uppers [] marks low high named all = all
  spans_agree items uppers (content ∷ contents) marks low high named all = (
    all.0,
    record {
      ends = bound_agrees all.0 (get_or uppers 0 []) (first_named symbols uppers named) all.1.ends;
      order = all.1.order;
      rises = all.1.rises;
      covers = all.1.covers;
    },
    spans_agree items (drop 1 uppers) contents (drop 1 marks) all.0 high (each_rest (AreNamed symbols) uppers named)
        all.2,
  )

  one_agrees : (items : List ℤ) (one : Segments) → AllByRecursion (AreNamed symbols) one.bounds
      → Holds Contains number items one → Holds Contains later items one
  one_agrees items one named holds = record {
    from_zero = bound_agrees (pos 0) (get_or one.bounds 0 []) (first_named symbols one.bounds named) holds.from_zero;
    spans = spans_agree items (drop 1 one.bounds) one.contents one.marks (pos 0) (pos (length items))
        (each_rest (AreNamed symbols) one.bounds named) holds.spans;
  }

-- A choice that is the same for each symbol that is there, and the same items of each reference that is there.
pub held_agree : (symbols : ℕ) (lengths : List Expr) (contents : Contents) (number later : ℕ → ℤ)
    (items after : ℕ → List ℤ) → AreFormed symbols lengths contents
    → ((s : ℕ) → s ≤ symbols → later s ≡ number s) → ((r : ℕ) → r ≤ length lengths → after r ≡ items r)
    → AreHeld number items contents → AreHeld later after contents
held_agree symbols lengths contents number later items after formed agree same held i one is =
    let within = slice_get_within contents i one is in
    let count = formed_length symbols lengths contents formed in
    let named = (formed_at symbols lengths contents formed i one is).1.named in
    subst (λ all. Holds Contains later all one) (sym (same (suc i) (omega arith)))
    (one_agrees symbols number later agree (items (suc i)) one named (held i one is))

-- ---- one reference more

pushed_at : (contents : Contents) (last : Segments) (i : ℕ) (one : Segments)
    → slice_get (contents ++ last ∷ []) i ≡ Some one
    → (slice_get contents i ≡ Some one) ⊎ ((i ≡ length contents) × (last ≡ one))
pushed_at [] last zero one is = let same : last ≡ one = cc in inr (refl, same)
pushed_at [] last (suc i) one is = absurd (cc)
pushed_at (first ∷ contents) last zero one is = inl is
pushed_at (first ∷ contents) last (suc i) one is = elim (pushed_at contents last i one is) [
  | inl found ↦ inl found
  | inr there ↦ inr (ap suc there.0, there.1)
]

pub pushed_held : (number : ℕ → ℤ) (items : ℕ → List ℤ) (contents : Contents) (one : Segments)
    → AreHeld number items contents → Holds Contains number (items (suc (length contents))) one
    → AreHeld number items (contents ++ one ∷ [])
pushed_held number items contents one held holds i segments is = elim (pushed_at contents one i segments is) [
  | inl found ↦ held i segments found
  | inr there ↦ subst (Holds Contains number (items (suc i))) there.1
      (subst (λ n. Holds Contains number (items (suc n)) one) (sym there.0) holds)
]

pub whole_held : (number : ℕ → ℤ) (items : List ℤ) (e : Expr) (range : Interval) (may_be_empty : Bool)
    → number 0 ≡ pos 0 → worth number e ≡ pos (length items) → (may_be_empty ≡ false → 0 < length items)
    → AreIn range items → Holds Contains number items (whole e range may_be_empty)
whole_held number items e range may_be_empty origin ends some are =
    whole_law Contains number items e range may_be_empty origin ends some
    (λ index above below. are index (omega (arith, ints)))

-- ---- loads

-- The range that is loaded has the item.
pub loaded_has : (gap : Gaps) (number : ℕ → ℤ) (items : ℕ → List ℤ) (symbols : ℕ) (lengths : List Expr)
    (contents : Contents) (r : ℕ) (at : Expr) (index : ℕ) → Obeys gap number → AreFormed symbols lengths contents
    → items 0 ≡ [] → r ≤ length contents → AreHeld number items contents → IsIndex number at (items r) index
    → Contains (loaded_at gap contents r at) (item (items r) index)
loaded_has gap number items symbols lengths contents zero at index obeys formed none there held is =
    let count : length (items 0) ≡ 0 = ap length none in
    let below = is.below in
    absurd (omega arith)
loaded_has gap number items symbols lengths contents (suc i) at index obeys formed none there held is =
    let one : Segments = get_or contents i of_null in
    let found : slice_get contents i ≡ Some one = slice_get-get_or contents i of_null (omega arith) in
    load_law Contains hull full hull_left hull_right gap number obeys at (items (suc i)) index is.same is.below one
    (formed_at symbols lengths contents formed i one found).1.form (held i one found)

-- ---- stores

-- What a store to a reference leaves of the others, and makes of its own segments.
set_at : (contents : Contents) (place : ℕ) (new : Segments) (i : ℕ) (one : Segments)
    → slice_get (set contents place new) i ≡ Some one
    → ((i ≢ place) × (slice_get contents i ≡ Some one))
    ⊎ ((i ≡ place) × (slice_get contents i ≡ Some (get_or contents place of_null)) × (one ≡ new))
set_at [] place new i one is = absurd (cc)
set_at (first ∷ contents) zero new zero one is = let same : one ≡ new = cc in inr (refl, refl, same)
set_at (first ∷ contents) zero new (suc i) one is = inl ((λ same. absurd (omega arith)), is)
set_at (first ∷ contents) (suc place) new zero one is = inl ((λ same. absurd (omega arith)), is)
set_at (first ∷ contents) (suc place) new (suc i) one is = elim (set_at contents place new i one is) [
  | inl other ↦ inl ((λ same. other.0 (omega arith)), other.1)
  | inr own ↦ inr (ap suc own.0, own.1, own.2)
]

weakly_at : (gap : Gaps) (at : Expr) (value : Interval) (others : List Bool) (contents : Contents) (i : ℕ)
    (one : Segments) → slice_get (weakly_each gap at value others contents) i ≡ Some one
    → (old : Segments) × (slice_get contents i ≡ Some old) × (weakly_one gap at value (get_or others i false) old ≡ one)
weakly_at gap at value [] contents i one is = (one, is, refl)
weakly_at gap at value (may_be ∷ others) [] i one is = absurd (cc)
weakly_at gap at value (may_be ∷ others) (first ∷ contents) zero one is =
    let same : weakly_one gap at value may_be first ≡ one = cc in (first, refl, same)
weakly_at gap at value (may_be ∷ others) (first ∷ contents) (suc i) one is =
    weakly_at gap at value others contents i one is

module _ (gap : Gaps) (number : ℕ → ℤ) (obeys : Obeys gap number) (at : Expr) (value : Interval) where
  -- A weak store leaves true what holds of items that it did not change.
  unchanged_holds : (items : List ℤ) (one : Segments) (may_be : Bool) → Holds Contains number items one
      → Holds Contains number items (weakly_one gap at value may_be one)
  unchanged_holds items one false holds = holds
  unchanged_holds items one true holds =
      grown_law Contains number items hull hull_left one value (start gap one at) (stop gap one at) holds

  module _ (n : ℤ) (has : Contains value n) where
    other_holds : (before after : List ℤ) (one : Segments) (may_be : Bool) → HasForm one
        → IsBehindStore number at n may_be before after → Holds Contains number before one
        → Holds Contains number after (weakly_one gap at value may_be one)
    other_holds before after one false form behind holds =
        subst (λ all. Holds Contains number all one) (sym behind) holds
    other_holds before after one true form behind holds = elim behind [
      | inl same ↦ subst (λ all. Holds Contains number all (weakly_one gap at value true one)) (sym same)
          (unchanged_holds before one true holds)
      | inr written ↦ subst (λ all. Holds Contains number all (weakly_one gap at value true one)) (sym written.2)
          (weak_law_same Contains hull full hull_left hull_right gap number obeys at before written.0 written.1.same
          written.1.below one value n has form holds)
    ]

    own_holds : (before after : List ℤ) (one : Segments) → HasForm one → IsWritten number at n before after
        → Holds Contains number before one
        → Holds Contains number after (strongly_stored hull full gap one at value)
    own_holds before after one form written holds =
        subst (λ all. Holds Contains number all (strongly_stored hull full gap one at value)) (sym written.2)
        (strong_law Contains hull full hull_left hull_right gap number obeys at before written.0 written.1.same
        written.1.below one value n has form holds)

    module _ (before after : ℕ → List ℤ) (symbols : ℕ) (lengths : List Expr) (contents : Contents)
        (formed : AreFormed symbols lengths contents) (held : AreHeld number before contents) where
      -- Behind both stores the segments hold of the items behind them.
      behind_both : (r i : ℕ) (old : Segments) (may_be : Bool)
          → slice_get (strongly_at gap r at value contents) i ≡ Some old → IsWritten number at n (before r) (after r)
          → (suc i ≢ r → IsBehindStore number at n may_be (before (suc i)) (after (suc i)))
          → Holds Contains number (after (suc i)) (weakly_one gap at value may_be old)
      behind_both zero i old may_be is written others =
          other_holds (before (suc i)) (after (suc i)) old may_be
          (formed_at symbols lengths contents formed i old is).1.form
          (others (λ same. absurd (omega arith))) (held i old is)
      behind_both (suc place) i old may_be is written others =
          let first : Segments = get_or contents place of_null in
          elim (set_at contents place (strongly_stored hull full gap first at value) i old is) [
            | inl other ↦ other_holds (before (suc i)) (after (suc i)) old may_be
                (formed_at symbols lengths contents formed i old other.1).1.form
                (others (λ same. other.0 (omega arith))) (held i old other.1)
            | inr own ↦
                let wrote : IsWritten number at n (before (suc i)) (after (suc i)) =
                subst (λ k. IsWritten number at n (before (suc k)) (after (suc k))) (sym own.0) written in
                unchanged_holds (after (suc i)) old may_be
                (subst (Holds Contains number (after (suc i))) (sym own.2)
                (own_holds (before (suc i)) (after (suc i)) first
                (formed_at symbols lengths contents formed i first own.1).1.form wrote (held i first own.1)))
          ]

-- Behind a store contents hold of what the items have become, whichever references are one array.
pub stored_held : (gap : Gaps) (number : ℕ → ℤ) (before after : ℕ → List ℤ) (symbols : ℕ) (lengths : List Expr)
    (contents : Contents) (r : ℕ) (at : Expr) (value : Interval) (others : List Bool) (n : ℤ)
    → Obeys gap number → AreFormed symbols lengths contents → AreHeld number before contents
    → Contains value n → IsWritten number at n (before r) (after r)
    → ((i : ℕ) → suc i ≢ r → IsBehindStore number at n (get_or others i false) (before (suc i)) (after (suc i)))
    → AreHeld number after (stored gap r at value others contents)
stored_held gap number before after symbols lengths contents r at value others n obeys formed held has written behind
    i one is =
    let old = weakly_at gap at value others (strongly_at gap r at value contents) i one is in
    subst (Holds Contains number (after (suc i))) old.2
    (behind_both gap number obeys at value n has before after symbols lengths contents formed held r i old.0
    (get_or others i false) old.1 written (behind i))

-- ---- calls

forgotten_at : (arrays : List (Option Unknown)) (contents : Contents) (i : ℕ) (one : Segments)
    → slice_get (forgotten arrays contents) i ≡ Some one
    → (old : Segments) × (slice_get contents i ≡ Some old) × (forgotten_one (get_or arrays i None) old ≡ one)
forgotten_at [] contents i one is = (one, is, refl)
forgotten_at (array ∷ arrays) [] i one is = absurd (cc)
forgotten_at (array ∷ arrays) (first ∷ contents) zero one is =
    let same : forgotten_one array first ≡ one = cc in (first, refl, same)
forgotten_at (array ∷ arrays) (first ∷ contents) (suc i) one is = forgotten_at arrays contents i one is

forgotten_holds : (number : ℕ → ℤ) (before after : List ℤ) (one : Segments) (array : Option Unknown)
    → number 0 ≡ pos 0 → IsBehindCall number array before after → Holds Contains number before one
    → Holds Contains number after (forgotten_one array one)
forgotten_holds number before after one None origin behind holds =
    subst (λ all. Holds Contains number all one) (sym behind) holds
forgotten_holds number before after one (Some array) origin behind holds =
    whole_held number after array.length array.items true origin behind.0 (λ marked. absurd (cc)) behind.1

pub forgotten_held : (number : ℕ → ℤ) (before after : ℕ → List ℤ) (contents : Contents)
    (arrays : List (Option Unknown)) → number 0 ≡ pos 0
    → ((i : ℕ) → i < length contents
    → IsBehindCall number (get_or arrays i None) (before (suc i)) (after (suc i)))
    → AreHeld number before contents → AreHeld number after (forgotten arrays contents)
forgotten_held number before after contents arrays origin behind held i one is =
    let old = forgotten_at arrays contents i one is in
    let within = slice_get_within contents i old.0 old.1 in
    subst (Holds Contains number (after (suc i))) old.2
    (forgotten_holds number (before (suc i)) (after (suc i)) old.0 (get_or arrays i None) origin (behind i within)
    (held i old.0 old.1))
