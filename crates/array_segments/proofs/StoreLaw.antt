-- Segments behind a store hold of the items behind it.
use Rattle.std.proofs.Common.{◌≡◌, ◌≢◌, ℕ, zero, suc, ◌≤◌, ℤ, pos, ◌+ℤ◌, ◌≤ℤ◌, ◌<ℤ◌, Bool, true, false, ◌⊎◌, inl, inr, List, [], ◌∷◌, ◌++◌, length, map, get_or, take, drop, arith, refl, sym, subst, ap, ◌∙◌}
use Rattle.std.specs.Prelude.{if◌then◌else◌}
use Rattle.std.proofs.lemmas.Int.{ints}
use Rattle.std.proofs.lemmas.Bool.{cases_eq}
use Rattle.domain_api.specs.declared.expr.Expr.{Expr}
use Rattle.array_segments.specs.Meaning.{AreWorth, Covers, Segment, Spans, item, worth, zipped}
use Rattle.array_segments.specs.Storing.{around, changed_between, new_bounds, next_of}
use Rattle.array_segments.proofs.Spans.{Spans-append, rises, slice_by}

-- ---- lists of segments of which a part is replaced

pub zip_prefix : {C : Type 0} (place : ℕ) (uppers us : List (List Expr)) (contents cs : List C) (marks ms : List Bool) → place ≤ length contents → length uppers ≡ length contents → length marks ≡ length contents →
    zipped (take place uppers ++ us) (take place contents ++ cs) (take place marks ++ ms) ≡ take place (zipped uppers contents marks) ++ zipped us cs ms
zip_prefix zero uppers us contents cs marks ms within bounded marked = refl
zip_prefix (suc place) uppers us [] cs marks ms within bounded marked = absurd (omega arith)
zip_prefix (suc place) [] us (content ∷ contents) cs marks ms within bounded marked = absurd (omega arith)
zip_prefix (suc place) (upper ∷ uppers) us (content ∷ contents) cs [] ms within bounded marked = absurd (omega arith)
zip_prefix (suc place) (upper ∷ uppers) us (content ∷ contents) cs (mark ∷ marks) ms within bounded marked =
    ap (λ rest. record { content = content; may_be_empty = mark; upper = upper } ∷ rest) (zip_prefix place uppers us contents cs marks ms (omega arith) (omega arith) (omega arith))

pub zip_back : {C : Type 0} (place : ℕ) (uppers : List (List Expr)) (contents : List C) (marks : List Bool) → length uppers ≡ length contents → length marks ≡ length contents →
    zipped (drop place uppers) (drop place contents) (drop place marks) ≡ drop place (zipped uppers contents marks)
zip_back zero uppers contents marks bounded marked = refl
zip_back (suc place) uppers [] marks bounded marked = refl
zip_back (suc place) [] (content ∷ contents) marks bounded marked = absurd (omega arith)
zip_back (suc place) (upper ∷ uppers) (content ∷ contents) [] bounded marked = absurd (omega arith)
zip_back (suc place) (upper ∷ uppers) (content ∷ contents) (mark ∷ marks) bounded marked = zip_back place uppers contents marks (omega arith) (omega arith)

module _ {C : Type 0} (at : Expr) (outer value : C) (left_mark right_mark : Bool) (upper : List Expr) where
  -- The part before the index, and those from the index on.
  abbrev pub left_part : Bool → List (Segment C)
  left_part left = if left then record { content = outer; may_be_empty = left_mark; upper = at ∷ [] } ∷ [] else []

  abbrev pub right_part : Bool → List (Segment C)
  right_part right = record { content = value; may_be_empty = false; upper = if right then next_of at ∷ [] else upper }
      ∷ (if right then record { content = outer; may_be_empty = right_mark; upper = upper } ∷ [] else [])

  pub zip_around : (left right : Bool) (us : List (List Expr)) (cs : List C) (ms : List Bool) →
      zipped (new_bounds left right at ++ (upper ∷ us)) (around left right outer value outer ++ cs) (around left right left_mark false right_mark ++ ms)
      ≡ (left_part left ++ right_part right) ++ zipped us cs ms
  zip_around true true us cs ms = refl
  zip_around true false us cs ms = refl
  zip_around false true us cs ms = refl
  zip_around false false us cs ms = refl

-- A segment with another content.
abbrev pub with_content : {C : Type 0} → (C → C) → Segment C → Segment C
with_content change segment = record { content = change segment.content; may_be_empty = segment.may_be_empty; upper = segment.upper }

pub zip_changed : {C : Type 0} (change : C → C) (from to : ℕ) (uppers : List (List Expr)) (contents : List C) (marks : List Bool) →
    zipped uppers (changed_between change from to contents) marks ≡ changed_between (with_content change) from to (zipped uppers contents marks)
zip_changed change zero zero uppers contents marks = refl
zip_changed change zero (suc to) uppers [] marks = refl
zip_changed change zero (suc to) uppers (content ∷ contents) marks =
    ap (λ rest. record { content = change content; may_be_empty = get_or marks 0 false; upper = get_or uppers 0 [] } ∷ rest) (zip_changed change zero to (drop 1 uppers) contents (drop 1 marks))
zip_changed change (suc from) zero uppers contents marks = refl
zip_changed change (suc from) (suc to) uppers [] marks = refl
zip_changed change (suc from) (suc to) uppers (content ∷ contents) marks =
    ap (λ rest. record { content = content; may_be_empty = get_or marks 0 false; upper = get_or uppers 0 [] } ∷ rest) (zip_changed change from to (drop 1 uppers) contents (drop 1 marks))

pub changed_parts : {X : Type 0} (change : X → X) (from to : ℕ) (xs : List X) → from ≤ to → changed_between change from to xs ≡ take from xs ++ (map change (slice_by from to xs) ++ drop to xs)
changed_parts change zero zero xs order = refl
changed_parts change zero (suc to) [] order = refl
changed_parts change zero (suc to) (x ∷ xs) order = ap (λ rest. change x ∷ rest) (changed_parts change zero to xs (omega arith))
changed_parts change (suc from) zero xs order = absurd (omega arith)
changed_parts change (suc from) (suc to) [] order = refl
changed_parts change (suc from) (suc to) (x ∷ xs) order = ap (λ rest. x ∷ rest) (changed_parts change from to xs (omega arith))

-- ---- what holds of the items behind a change at one index

module _ {C : Type 0} (contains : C → ℤ → Type 0) (number : ℕ → ℤ) (before after : List ℤ) (index : ℕ) (others : (k : ℕ) → k ≢ index → item after k ≡ item before k) where
  pub stays_below : (xs : List (Segment C)) (low high : ℤ) → Spans contains number before low xs high → high ≤ℤ pos index → Spans contains number after low xs high
  stays_below [] low high all under = all
  stays_below (x ∷ xs) low high all under =
      let later : all.0 ≤ℤ high = rises contains number before xs all.0 high all.2 in (
        all.0,
        record {
          ends = all.1.ends;
          order = all.1.order;
          rises = all.1.rises;
          covers = λ k above below. let apart : k ≢ index = λ same. omega (arith, ints) in subst (contains x.content) (sym (others k apart)) (all.1.covers k above below);
        },
        stays_below xs all.0 high all.2 under,
      )

  pub stays_above : (xs : List (Segment C)) (low high : ℤ) → Spans contains number before low xs high → pos index <ℤ low → Spans contains number after low xs high
  stays_above [] low high all over = all
  stays_above (x ∷ xs) low high all over =
      let first : low ≤ℤ all.0 = all.1.order in (
        all.0,
        record {
          ends = all.1.ends;
          order = all.1.order;
          rises = all.1.rises;
          covers = λ k above below. let apart : k ≢ index = λ same. omega (arith, ints) in subst (contains x.content) (sym (others k apart)) (all.1.covers k above below);
        },
        stays_above xs all.0 high all.2 (omega (arith, ints)),
      )

  -- The outer parts lose nothing but the item at the index.
  pub stays_covered : (content : C) (low high : ℤ) → Covers contains before content low high → (high ≤ℤ pos index) ⊎ (pos index <ℤ low) → Covers contains after content low high
  stays_covered content low high covers (inl under) k above below = let apart : k ≢ index = λ same. omega (arith, ints) in subst (contains content) (sym (others k apart)) (covers k above below)
  stays_covered content low high covers (inr over) k above below = let apart : k ≢ index = λ same. omega (arith, ints) in subst (contains content) (sym (others k apart)) (covers k above below)

  module _ (hull : C → C → C) (keeps_left : (a b : C) (n : ℤ) → contains a n → contains (hull a b) n) (keeps_right : (a b : C) (n : ℤ) → contains b n → contains (hull a b) n)
      (value : C) (has : (contains value (item after index)) ⊎ (item after index ≡ item before index)) where
    weak_has : (content : C) (k : ℕ) → contains content (item before k) → contains (hull content value) (item after k)
    weak_has content k covered = elim (cases_eq k index) [
      | inl same ↦ elim has [
        | inl new ↦ subst (λ i. contains (hull content value) (item after i)) (sym same) (keeps_right content value (item after index) new)
        | inr old ↦ keeps_left content value (item after k)
            (subst (contains content) (ap (item before) same ∙ sym old ∙ ap (item after) (sym same)) covered)
      ]
      | inr apart ↦ keeps_left content value (item after k) (subst (contains content) (sym (others k apart)) covered)
    ]

    pub weak_spans : (xs : List (Segment C)) (low high : ℤ) → Spans contains number before low xs high →
        Spans contains number after low (map (with_content (λ content. hull content value)) xs) high
    weak_spans [] low high all = all
    weak_spans (x ∷ xs) low high all = (
      all.0,
      record { ends = all.1.ends; order = all.1.order; rises = all.1.rises; covers = λ k above below. weak_has x.content k (all.1.covers k above below) },
      weak_spans xs all.0 high all.2,
    )

  module _ (at : Expr) (is : worth number at ≡ pos index) (outer value : C) (new : contains value (item after index)) (left_mark right_mark : Bool) (upper : List Expr)
      (low high : ℤ) (order_low : low ≤ℤ pos index) (order_high : pos index <ℤ high) (ends : AreWorth number high upper) (covers : Covers contains before outer low high) where
    left_spans : (left : Bool) → (left ≡ false → low ≡ worth number at) → (left_mark ≡ false → low <ℤ worth number at) →
        Spans contains number after low (left_part at outer value left_mark right_mark upper left) (worth number at)
    left_spans false meets rises_left = meets refl
    left_spans true meets rises_left = (
      worth number at,
      record {
        ends = (refl, tt);
        order = omega (arith, ints);
        rises = rises_left;
        covers = stays_covered outer low (worth number at) (λ k above below. covers k above (omega (arith, ints))) (inl (omega (arith, ints)));
      },
      refl,
    )

    value_covers : (top : ℤ) → top ≤ℤ (worth number at +ℤ pos 1) → Covers contains after value (worth number at) top
    value_covers top within k above below = let same : index ≡ k = omega (arith, ints) in subst (λ i. contains value (item after i)) same new

    next_worth : worth number (next_of at) ≡ worth number at +ℤ pos 1
    next_worth = omega (arith, ints)

    right_spans : (right : Bool) → (right ≡ false → high ≡ worth number (next_of at)) → (right_mark ≡ false → worth number (next_of at) <ℤ high) →
        Spans contains number after (worth number at) (right_part at outer value left_mark right_mark upper right) high
    right_spans false meets rises_right =
        let e : high ≡ worth number at +ℤ pos 1 = meets refl ∙ next_worth in (
          high,
          record { ends = ends; order = omega (arith, ints); rises = λ unmarked. omega (arith, ints); covers = value_covers high (omega (arith, ints)) },
          refl,
        )
    right_spans true meets rises_right =
        let e = next_worth in (
          worth number (next_of at),
          record { ends = (refl, tt); order = omega (arith, ints); rises = λ unmarked. omega (arith, ints); covers = value_covers (worth number (next_of at)) (omega (arith, ints)) },
          (
            high,
            record {
              ends = ends;
              order = omega (arith, ints);
              rises = rises_right;
              covers = stays_covered outer (worth number (next_of at)) high (λ k above below. covers k (omega (arith, ints)) below) (inr (omega (arith, ints)));
            },
            refl,
          ),
        )

    pub around_spans : (left right : Bool) → (left ≡ false → low ≡ worth number at) → (left_mark ≡ false → low <ℤ worth number at) →
        (right ≡ false → high ≡ worth number (next_of at)) → (right_mark ≡ false → worth number (next_of at) <ℤ high) →
        Spans contains number after low (left_part at outer value left_mark right_mark upper left ++ right_part at outer value left_mark right_mark upper right) high
    around_spans left right meets_left rises_left meets_right rises_right =
        Spans-append contains number after (left_part at outer value left_mark right_mark upper left) (right_part at outer value left_mark right_mark upper right) low (worth number at) high
        (left_spans left meets_left rises_left) (right_spans right meets_right rises_right)
