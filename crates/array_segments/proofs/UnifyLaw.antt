-- Two sides as one: the form, and what one side held of, both as one hold of.
use Rattle.std.proofs.Common.{◌≡◌, ◌==◌, ℕ, suc, ◌+◌, ◌-◌, ◌<◌, ◌≤◌, ℤ, pos, ◌≤ℤ◌, ◌<ℤ◌, Bool, true, false, not, ◌&&◌, inl, inr, List, [], ◌∷◌, ◌++◌, length, map, get_or, take, drop, Option, None, Some, arith, refl, sym, subst, ap, ◌∙◌, if◌then◌else◌}
use Rattle.std.proofs.lemmas.List.{length-map}
use Rattle.std.proofs.lemmas.Int.{ints}
use Rattle.std.proofs.lemmas.Bool.{and_parts, false≢true, or_cases}
use Rattle.std.proofs.lemmas.Bool.Decides.{Decides-eqb}
use Rattle.std.specs.List.{AllByRecursion, list_any, reduce, slice_range}
use Rattle.domain_api.specs.declared.expr.Expr.{Expr}
use Rattle.symbolic_values.specs.Names.{paired_expr}
use Rattle.symbolic_values.specs.Pairing.{Pairing}
use Rattle.symbolic_values.proofs.PairedMeaning.{paired_expr_worth}
use Rattle.array_segments.specs.Behind.{StandsForBoth, behind}
use Rattle.array_segments.specs.CommonBounds.{common_bound, first_bound, later_places, lowest, must_at, origin_place, paired_exprs, put_all, row, rows}
use Rattle.array_segments.specs.Counted.{IsCounted}
use Rattle.array_segments.specs.Growing.{begun, with_more}
use Rattle.array_segments.specs.Meaning.{AreWorth, Covers, Holds, Lies, Segment, Spans, item, segments_of, worth, zipped}
use Rattle.array_segments.specs.SegmentLists.{Has, HasFew, HasForm, Lists, last_bound, zero_expr}
use Rattle.array_segments.specs.Unifying.{common_segment, common_segments, of_both, some_filled, unified}
use Rattle.array_segments.proofs.CommonLaw.{all_alike, lowest_are, lowest_has, lowest_short, paired_are, put_all_are}
use Rattle.array_segments.proofs.InclusionLaw.{member_worth}
use Rattle.array_segments.proofs.LimitLaw.{limited_form, limited_holds}
use Rattle.array_segments.proofs.RenamingLaw.{zipped_back}
use Rattle.array_segments.proofs.Spans.{contents_of, cut, cut_all, cut_between, fold_covers, map_slice_by, reached, rises, slice_by, slice_by_cases, upper_at, zipped_length}
use Rattle.array_segments.proofs.UnifyChain.{chained}

-- ---- some segments of a side

-- What a side has between two places, if it has segments there.
abbrev pub HasAll : {C : Type 0} → (C → ℤ → Type 0) → List ℤ → Option C → ℤ → ℤ → Type 0
HasAll contains items None low high = high ≤ℤ low
HasAll contains items (Some content) low high = Covers contains items content low high

not_true : (b : Bool) → not b ≡ true → b ≡ false
not_true true is = absurd (false≢true is)
not_true false is = refl

not_false : (b : Bool) → not b ≡ false → b ≡ true
not_false true is = refl
not_false false is = absurd (false≢true (sym is))

pub marks_of : {C : Type 0} (uppers : List (List Expr)) (contents : List C) (marks : List Bool) → length marks ≡ length contents →
    map (λ segment. segment.may_be_empty) (zipped uppers contents marks) ≡ marks
marks_of uppers [] [] same = refl
marks_of uppers [] (mark ∷ marks) same = absurd (omega arith)
marks_of uppers (content ∷ contents) [] same = absurd (omega arith)
marks_of uppers (content ∷ contents) (mark ∷ marks) same = ap (λ rest. mark ∷ rest) (marks_of (drop 1 uppers) contents marks (omega arith))

module _ {C : Type 0} (contains : C → ℤ → Type 0) (number : ℕ → ℤ) (items : List ℤ) where
  filled_rises : (xs : List (Segment C)) (low high : ℤ) → Spans contains number items low xs high → list_any not (map (λ segment. segment.may_be_empty) xs) ≡ true → low <ℤ high
  filled_rises [] low high all filled = absurd (false≢true filled)
  filled_rises (x ∷ xs) low high all filled = elim (or_cases (not x.may_be_empty) (list_any not (map (λ segment. segment.may_be_empty) xs)) filled) [
    | inl here ↦ let r : low <ℤ all.0 = all.1.rises (not_true x.may_be_empty here) in let o : all.0 ≤ℤ high = rises contains number items xs all.0 high all.2 in omega (arith, ints)
    | inr later ↦ let r : all.0 <ℤ high = filled_rises xs all.0 high all.2 later in let o : low ≤ℤ all.0 = all.1.order in omega (arith, ints)
  ]

  hull_has : (hull : C → C → C) (keeps_left : (a b : C) (n : ℤ) → contains a n → contains (hull a b) n) (keeps_right : (a b : C) (n : ℤ) → contains b n → contains (hull a b) n)
      (xs : List (Segment C)) (low high : ℤ) → Spans contains number items low xs high → HasAll contains items (reduce hull (map (λ segment. segment.content) xs)) low high
  hull_has hull keeps_left keeps_right [] low high all = omega (arith, ints)
  hull_has hull keeps_left keeps_right (x ∷ xs) low high all = fold_covers contains number items hull keeps_left keeps_right xs x.content low all.0 high all.1.covers all.2

  -- A bound is worth the place where the segments up to it end.
  place_worth : (bounds : List (List Expr)) (contents : List C) (marks : List Bool) → length bounds ≡ length contents + 1 → (low high : ℤ) → AreWorth number low (get_or bounds 0 []) →
      (all : Spans contains number items low (zipped (drop 1 bounds) contents marks) high) (k : ℕ) → k ≤ length contents →
      AreWorth number (cut contains number items k (zipped (drop 1 bounds) contents marks) low high all).0 (get_or bounds k [])
  place_worth [] contents marks bounded low high begins all k within = absurd (omega arith)
  place_worth (first ∷ uppers) contents marks bounded low high begins all k within =
      let there = cut contains number items k (zipped uppers contents marks) low high all in
      subst (AreWorth number there.0) (sym (upper_at first uppers contents marks k (omega arith) within))
      (reached contains number items first (take k (zipped uppers contents marks)) low there.0 begins there.1)

  cut_zero : (xs : List (Segment C)) (low high : ℤ) (all : Spans contains number items low xs high) → (cut contains number items 0 xs low high all).0 ≡ low
  unfolding cut
  cut_zero xs low high all = refl

-- ---- one side

module _ {C : Type 0} (contains : C → ℤ → Type 0) (number after : ℕ → ℤ) (items : List ℤ) (hull make : C → C → C) (full : C)
    (keeps_left : (a b : C) (n : ℤ) → contains a n → contains (hull a b) n) (keeps_right : (a b : C) (n : ℤ) → contains b n → contains (hull a b) n)
    (pairs : Pairing) (end : Expr) (a b s : Lists C) (n m : ℕ) (at : ℕ → ℕ → ℕ)
    (bounded : length s.bounds ≡ length s.contents + 1) (marked : length s.marks ≡ length s.contents) (holds : Holds contains number items s)
    (mono : (x y u v : ℕ) → x ≤ u → y ≤ v → at x y ≤ at u v) (inside : (x y : ℕ) → x ≤ n → y ≤ m → at x y ≤ length s.contents)
    (worths : (x y : ℕ) (h : ℤ) → AreWorth number h (get_or s.bounds (at x y) []) → AreWorth after h (common_bound pairs end a b x y))
    (has : (x y u v : ℕ) (low high : ℤ) → HasAll contains items (reduce hull (slice_range s.contents (at x y) (at u v))) low high →
    Covers contains items (of_both make full (reduce hull (slice_range a.contents x u)) (reduce hull (slice_range b.contents y v))) low high)
    (filled : (x y u v : ℕ) → not (some_filled a.marks x u && some_filled b.marks y v) ≡ false → some_filled s.marks (at x y) (at u v) ≡ true) where
  -- What the bound at a place of the side is worth.
  abbrev where_is : ℕ → ℤ
  where_is k = (cut contains number items k (segments_of s) (pos 0) (pos (length items)) holds.spans).0

  lies : (x y u v : ℕ) (upper : List Expr) → x ≤ u → y ≤ v → u ≤ n → v ≤ m → upper ≡ common_bound pairs end a b u v →
      Lies contains after items (where_is (at x y)) (common_segment hull make full pairs end a b (record { first = x; second = y }) u v upper) (where_is (at u v))
  lies x y u v upper first second in_first in_second is =
      let from = at x y in
      let to = at u v in
      let segments = segments_of s in
      let span = cut_between contains number items (at x y) (at u v) (segments_of s) (pos 0) (pos (length items)) holds.spans (mono x y u v first second) in
      record {
        ends = subst (AreWorth after (where_is (at u v))) (sym is)
            (worths u v (where_is (at u v)) (place_worth contains number items s.bounds s.contents s.marks bounded (pos 0) (pos (length items)) holds.from_zero holds.spans (at u v) (inside u v in_first in_second)));
        order = rises contains number items (slice_by (at x y) (at u v) (segments_of s)) (where_is (at x y)) (where_is (at u v)) span;
        rises = λ unmarked.
            filled_rises contains number items (slice_by (at x y) (at u v) (segments_of s)) (where_is (at x y)) (where_is (at u v)) span
            (subst (λ marks. list_any not marks ≡ true)
            (slice_by_cases (at x y) (at u v) s.marks ∙ ap (slice_by (at x y) (at u v)) (sym (marks_of (drop 1 s.bounds) s.contents s.marks marked))
            ∙ sym (map_slice_by (λ segment. segment.may_be_empty) (at x y) (at u v) (segments_of s)))
            (filled x y u v unmarked));
        covers = has x y u v (where_is (at x y)) (where_is (at u v))
            (subst (λ contents. HasAll contains items (reduce hull contents) (where_is (at x y)) (where_is (at u v)))
            (sym (slice_by_cases (at x y) (at u v) s.contents ∙ ap (slice_by (at x y) (at u v)) (sym (contents_of (drop 1 s.bounds) s.contents s.marks))
            ∙ sym (map_slice_by (λ segment. segment.content) (at x y) (at u v) (segments_of s))))
            (hull_has contains number items hull keeps_left keeps_right (slice_by (at x y) (at u v) (segments_of s)) (where_is (at x y)) (where_is (at u v)) span));
      }

  side_spans : (more : ℕ) → suc more ≡ n → 0 < length (common_bound pairs end a b n m) → at 0 0 ≡ 0 → length s.contents ≤ at n m →
      Spans contains after items (pos 0) (common_segments hull make full pairs end a b origin_place (row 0 1 m ++ rows 1 (suc more) (suc m))) (pos (length items))
  side_spans more is ends from_first to_last =
      let count = zipped_length (drop 1 s.bounds) s.contents s.marks in
      let begins : where_is (at 0 0) ≡ pos 0 = ap where_is from_first ∙ cut_zero contains number items (segments_of s) (pos 0) (pos (length items)) holds.spans in
      subst (λ low. Spans contains after items low (common_segments hull make full pairs end a b origin_place (row 0 1 m ++ rows 1 (suc more) (suc m))) (pos (length items))) begins
      (chained hull make full pairs end a b n m ends (λ last segments. Spans contains after items (where_is (at last.first last.second)) segments (pos (length items)))
      (cut_all contains number items (at n m) (segments_of s) (pos 0) (pos (length items)) holds.spans (omega arith))
      (λ last first second upper segments x y in_x in_y some same rest. (where_is (at first second), lies last.first last.second first second upper x y in_x in_y same, rest))
      more is)

-- ---- what both have has what either has

module _ {C : Type 0} (contains : C → ℤ → Type 0) (items : List ℤ) (make : C → C → C) (full : C)
    (keeps_left : (a b : C) (n : ℤ) → contains a n → contains (make a b) n) (keeps_right : (a b : C) (n : ℤ) → contains b n → contains (make a b) n) where
  first_has : (one other : Option C) (low high : ℤ) → HasAll contains items one low high → Covers contains items (of_both make full one other) low high
  first_has None other low high none = λ k above below. absurd (omega (arith, ints))
  first_has (Some x) None low high all = all
  first_has (Some x) (Some y) low high all = λ k above below. keeps_left x y (item items k) (all k above below)

  second_has : (one other : Option C) (low high : ℤ) → HasAll contains items other low high → Covers contains items (of_both make full one other) low high
  second_has one None low high none = λ k above below. absurd (omega (arith, ints))
  second_has None (Some y) low high all = all
  second_has (Some x) (Some y) low high all = λ k above below. keeps_right x y (item items k) (all k above below)

-- ---- bounds

if_some : (test : Bool) (end expr : Expr) → (if test then Some end else None) ≡ Some expr → (test ≡ true) × (end ≡ expr)
if_some true end expr is = (refl, cc)
if_some false end expr is = absurd (cc)

module _ {C : Type 0} (pairs : Pairing) (end : Expr) (a b : Lists C) where
  end_must : must_at a b end (length a.contents) (length b.contents) ≡ Some end
  end_must = by (length a.contents == length a.contents) (length b.contents == length b.contents) ((Decides-eqb (length a.contents) (length a.contents)).1 refl) ((Decides-eqb (length b.contents) (length b.contents)).1 refl)
    where
      by : (one other : Bool) → one ≡ true → other ≡ true → (if one && other then Some end else None) ≡ Some end
      by true true x y = refl
      by true false x y = absurd (false≢true y)
      by false other x y = absurd (false≢true x)

  -- The length is at the last place.
  pub end_there : Has end (common_bound pairs end a b (length a.contents) (length b.contents))
  end_there =
      subst (λ must. Has end (lowest must (put_all [] (paired_exprs pairs (get_or a.bounds (length a.contents) []) (get_or b.bounds (length b.contents) []))))) (sym end_must)
      (lowest_has end (put_all [] (paired_exprs pairs (get_or a.bounds (length a.contents) []) (get_or b.bounds (length b.contents) []))))

  pub end_some : 0 < length (common_bound pairs end a b (length a.contents) (length b.contents))
  end_some = let has = end_there in let under : has.0 < length (common_bound pairs end a b (length a.contents) (length b.contents)) = has.1 in omega arith

  module _ (number after : ℕ → ℤ) (stands : StandsForBoth pairs (last_bound a) (last_bound b) end) where
    first_worths : ((e f g : Expr) → paired_expr pairs e f ≡ Some g → worth after g ≡ worth number e) → (x y : ℕ) (h : ℤ) → AreWorth number h (get_or a.bounds x []) →
        AreWorth after h (common_bound pairs end a b x y)
    first_worths says x y h are =
        lowest_are (λ e. worth after e ≡ h) (must_at a b end x y) (put_all [] (paired_exprs pairs (get_or a.bounds x []) (get_or b.bounds y [])))
        (put_all_are (λ e. worth after e ≡ h) [] (paired_exprs pairs (get_or a.bounds x []) (get_or b.bounds y [])) tt
        (paired_are (λ e. worth after e ≡ h) pairs (λ e. worth number e ≡ h) (λ f. Unit {0}) (λ e f g is any named. says e f g named ∙ is)
        (get_or a.bounds x []) (get_or b.bounds y []) are (all_alike (get_or b.bounds y []))))
        (λ expr must.
        let test = if_some (x == length a.contents && y == length b.contents) end expr must in
        let both = and_parts (x == length a.contents) (y == length b.contents) test.0 in
        let last : x ≡ length a.contents = (Decides-eqb x (length a.contents)).0 both.0 in
        ap (worth after) (sym test.1) ∙ says stands.one stands.other end stands.named
        ∙ member_worth number h (last_bound a) stands.one stands.in_first.0 (subst (λ k. AreWorth number h (get_or a.bounds k [])) last are) stands.in_first.1 stands.in_first.2)

    second_worths : ((e f g : Expr) → paired_expr pairs e f ≡ Some g → worth after g ≡ worth number f) → (x y : ℕ) (h : ℤ) → AreWorth number h (get_or b.bounds y []) →
        AreWorth after h (common_bound pairs end a b x y)
    second_worths says x y h are =
        lowest_are (λ e. worth after e ≡ h) (must_at a b end x y) (put_all [] (paired_exprs pairs (get_or a.bounds x []) (get_or b.bounds y [])))
        (put_all_are (λ e. worth after e ≡ h) [] (paired_exprs pairs (get_or a.bounds x []) (get_or b.bounds y [])) tt
        (paired_are (λ e. worth after e ≡ h) pairs (λ e. Unit {0}) (λ f. worth number f ≡ h) (λ e f g any is named. says e f g named ∙ is)
        (get_or a.bounds x []) (get_or b.bounds y []) (all_alike (get_or a.bounds x [])) are))
        (λ expr must.
        let test = if_some (x == length a.contents && y == length b.contents) end expr must in
        let both = and_parts (x == length a.contents) (y == length b.contents) test.0 in
        let last : y ≡ length b.contents = (Decides-eqb y (length b.contents)).0 both.1 in
        ap (worth after) (sym test.1) ∙ says stands.one stands.other end stands.named
        ∙ member_worth number h (last_bound b) stands.other stands.in_second.0 (subst (λ k. AreWorth number h (get_or b.bounds k [])) last are) stands.in_second.1 stands.in_second.2)

  -- The expressions of the first bound are worth 0.
  zero_worths : (number after : ℕ → ℤ) (P Q : Expr → Type 0) → ((e f g : Expr) → P e → Q f → paired_expr pairs e f ≡ Some g → worth after g ≡ pos 0) → worth after zero_expr ≡ pos 0 →
      AllByRecursion P (get_or a.bounds 0 []) → AllByRecursion Q (get_or b.bounds 0 []) → AreWorth after (pos 0) (first_bound pairs a b)
  zero_worths number after P Q says zero_is first second =
      lowest_are (λ e. worth after e ≡ pos 0) (Some zero_expr) (put_all [] (paired_exprs pairs (get_or a.bounds 0 []) (get_or b.bounds 0 [])))
      (put_all_are (λ e. worth after e ≡ pos 0) [] (paired_exprs pairs (get_or a.bounds 0 []) (get_or b.bounds 0 [])) tt
      (paired_are (λ e. worth after e ≡ pos 0) pairs P Q says (get_or a.bounds 0 []) (get_or b.bounds 0 []) first second))
      (λ expr must. let same : zero_expr ≡ expr = cc in ap (worth after) (sym same) ∙ zero_is)

-- ---- the form

module _ {C : Type 0} (hull make : C → C → C) (full : C) (pairs : Pairing) (end : Expr) (a b : Lists C) (form_a : HasForm a) (form_b : HasForm b) where
  -- The number of rows behind the first.
  pub rows_more : suc (length a.contents - 1) ≡ length a.contents
  rows_more = let some = form_a.some in omega arith

  pub by_rows : (P : List (Segment C) → Type 0) →
      P (common_segments hull make full pairs end a b origin_place (row 0 1 (length b.contents) ++ rows 1 (suc (length a.contents - 1)) (suc (length b.contents)))) →
      P (common_segments hull make full pairs end a b origin_place (later_places a b))
  by_rows P is = subst (λ n. P (common_segments hull make full pairs end a b origin_place (row 0 1 (length b.contents) ++ rows 1 n (suc (length b.contents))))) rows_more is

  some_between : 1 ≤ length (common_segments hull make full pairs end a b origin_place (later_places a b))
  some_between =
      let some = form_a.some in
      by_rows (λ segments. 1 ≤ length segments)
      (chained hull make full pairs end a b (length a.contents) (length b.contents) (end_some pairs end a b) (λ last segments. last.first < length a.contents → 1 ≤ length segments)
      (λ under. absurd (omega arith)) (λ last first second upper segments x y in_x in_y there same rest. λ under. omega arith) (length a.contents - 1) rows_more (omega arith))

  few_between : AllByRecursion HasFew (map (λ segment. segment.upper) (common_segments hull make full pairs end a b origin_place (later_places a b)))
  few_between =
      by_rows (λ segments. AllByRecursion HasFew (map (λ segment. segment.upper) segments))
      (chained hull make full pairs end a b (length a.contents) (length b.contents) (end_some pairs end a b) (λ last segments. AllByRecursion HasFew (map (λ segment. segment.upper) segments))
      tt
      (λ last first second upper segments x y in_x in_y there same rest. (
        record {
          some = there;
          most = subst (λ bound. length bound ≤ 4) (sym same) (lowest_short (must_at a b end first second) (put_all [] (paired_exprs pairs (get_or a.bounds first []) (get_or b.bounds second []))));
        },
        rest,
      ))
      (length a.contents - 1) rows_more)

  pub unified_counted : IsCounted (with_more (begun (first_bound pairs a b)) (common_segments hull make full pairs end a b origin_place (later_places a b)))
  unified_counted =
      let segments : List (Segment C) = common_segments hull make full pairs end a b origin_place (later_places a b) in
      let some : 1 ≤ length (common_segments hull make full pairs end a b origin_place (later_places a b)) = some_between in
      let in_contents : length (map (λ segment. segment.content) segments) ≡ length segments = length-map segments (λ segment. segment.content) in
      let in_bounds : length (map (λ segment. segment.upper) segments) ≡ length segments = length-map segments (λ segment. segment.upper) in
      let in_marks : length (map (λ segment. segment.may_be_empty) segments) ≡ length segments = length-map segments (λ segment. segment.may_be_empty) in
      let zero_has = lowest_has zero_expr (put_all [] (paired_exprs pairs (get_or a.bounds 0 []) (get_or b.bounds 0 []))) in
      let under : zero_has.0 < length (first_bound pairs a b) = zero_has.1 in
      record {
        some = omega arith;
        bounded = omega arith;
        marked = omega arith;
        few = (record { some = omega arith; most = lowest_short (Some zero_expr) (put_all [] (paired_exprs pairs (get_or a.bounds 0 []) (get_or b.bounds 0 []))) }, few_between);
        from_zero = zero_has;
      }

  pub unified_form : HasForm (unified hull make full pairs end a b)
  unified_form = limited_form hull (with_more (begun (first_bound pairs a b)) (common_segments hull make full pairs end a b origin_place (later_places a b))) unified_counted

-- ---- the law

module _ {C : Type 0} (contains : C → ℤ → Type 0) (number : ℕ → ℤ) (items : List ℤ) (hull make : C → C → C) (full : C)
    (keeps_left : (a b : C) (n : ℤ) → contains a n → contains (hull a b) n) (keeps_right : (a b : C) (n : ℤ) → contains b n → contains (hull a b) n)
    (make_left : (a b : C) (n : ℤ) → contains a n → contains (make a b) n) (make_right : (a b : C) (n : ℤ) → contains b n → contains (make a b) n)
    (pairs : Pairing) (end : Expr) (a b : Lists C) (form_a : HasForm a) (form_b : HasForm b) (stands : StandsForBoth pairs (last_bound a) (last_bound b) end) where
  both_hold : (after : ℕ → ℤ) → AreWorth after (pos 0) (first_bound pairs a b) →
      Spans contains after items (pos 0) (common_segments hull make full pairs end a b origin_place (later_places a b)) (pos (length items)) →
      Holds contains after items (unified hull make full pairs end a b)
  both_hold after begins all =
      limited_holds contains after items hull keeps_left keeps_right (with_more (begun (first_bound pairs a b)) (common_segments hull make full pairs end a b origin_place (later_places a b)))
      (unified_counted hull make full pairs end a b form_a form_b)
      (record {
        from_zero = begins;
        spans = subst (λ segments. Spans contains after items (pos 0) segments (pos (length items))) (sym (zipped_back (common_segments hull make full pairs end a b origin_place (later_places a b)))) all;
      })

  -- What the first side held of, both as one hold of.
  pub unified_first : Holds contains number items a → Holds contains (behind true number pairs) items (unified hull make full pairs end a b)
  unified_first holds =
      let after = behind true number pairs in
      let zero_at = member_worth number (pos 0) (get_or a.bounds 0 []) zero_expr form_a.from_zero.0 holds.from_zero form_a.from_zero.1 form_a.from_zero.2 in
      both_hold (behind true number pairs)
      (zero_worths pairs end a b number (behind true number pairs) (λ e. worth number e ≡ pos 0) (λ f. Unit {0}) (λ e f g is any named. paired_expr_worth true number pairs e f g named ∙ is)
      (paired_expr_worth true number pairs zero_expr zero_expr zero_expr refl ∙ zero_at) holds.from_zero (all_alike (get_or b.bounds 0 [])))
      (by_rows hull make full pairs end a b form_a form_b (λ segments. Spans contains (behind true number pairs) items (pos 0) segments (pos (length items)))
      (side_spans contains number (behind true number pairs) items hull make full keeps_left keeps_right pairs end a b a (length a.contents) (length b.contents) (λ x y. x)
      form_a.bounded form_a.marked holds (λ x y u v first second. first) (λ x y first second. first)
      (λ x y h are. first_worths pairs end a b number (behind true number pairs) stands (λ e f g named. paired_expr_worth true number pairs e f g named) x y h are)
      (λ x y u v low high all. first_has contains items make full make_left make_right (reduce hull (slice_range a.contents x u)) (reduce hull (slice_range b.contents y v)) low high all)
      (λ x y u v unmarked. (and_parts (some_filled a.marks x u) (some_filled b.marks y v) (not_false (some_filled a.marks x u && some_filled b.marks y v) unmarked)).0)
      (length a.contents - 1) (rows_more hull make full pairs end a b form_a form_b) (end_some pairs end a b) refl (omega arith)))

  -- What the second side held of, both as one hold of.
  pub unified_second : Holds contains number items b → Holds contains (behind false number pairs) items (unified hull make full pairs end a b)
  unified_second holds =
      let zero_at = member_worth number (pos 0) (get_or b.bounds 0 []) zero_expr form_b.from_zero.0 holds.from_zero form_b.from_zero.1 form_b.from_zero.2 in
      both_hold (behind false number pairs)
      (zero_worths pairs end a b number (behind false number pairs) (λ e. Unit {0}) (λ f. worth number f ≡ pos 0) (λ e f g any is named. paired_expr_worth false number pairs e f g named ∙ is)
      (paired_expr_worth false number pairs zero_expr zero_expr zero_expr refl ∙ zero_at) (all_alike (get_or a.bounds 0 [])) holds.from_zero)
      (by_rows hull make full pairs end a b form_a form_b (λ segments. Spans contains (behind false number pairs) items (pos 0) segments (pos (length items)))
      (side_spans contains number (behind false number pairs) items hull make full keeps_left keeps_right pairs end a b b (length a.contents) (length b.contents) (λ x y. y)
      form_b.bounded form_b.marked holds (λ x y u v first second. second) (λ x y first second. second)
      (λ x y h are. second_worths pairs end a b number (behind false number pairs) stands (λ e f g named. paired_expr_worth false number pairs e f g named) x y h are)
      (λ x y u v low high all. second_has contains items make full make_left make_right (reduce hull (slice_range a.contents x u)) (reduce hull (slice_range b.contents y v)) low high all)
      (λ x y u v unmarked. (and_parts (some_filled a.marks x u) (some_filled b.marks y v) (not_false (some_filled a.marks x u && some_filled b.marks y v) unmarked)).1)
      (length a.contents - 1) (rows_more hull make full pairs end a b form_a form_b) (end_some pairs end a b) refl (omega arith)))
