-- Segments behind a strong store, and behind a weak one, hold of the items behind it.
use Rattle.std.proofs.Common.{◌≡◌, ◌≢◌, ℕ, zero, suc, ◌+◌, ◌<◌, ◌≤◌, ℤ, pos, ◌≤ℤ◌, ◌<ℤ◌, Bool, false, ◌⊎◌, List, [], ◌∷◌, ◌++◌, length, map, get_or, take, drop, arith, sym, subst, ap, ◌∙◌, add-one, drop-cons, Option}
use Rattle.std.proofs.lemmas.Bool.{not-false}
use Rattle.std.specs.List.{splice}
use Rattle.domain_api.specs.declared.expr.Expr.{Expr}
use Rattle.array_segments.specs.Comparing.{ends_behind, meets, starts_before}
use Rattle.array_segments.specs.Loading.{hull_between}
use Rattle.array_segments.specs.Meaning.{AreWorth, Holds, Obeys, Segment, Spans, item, worth, zipped}
use Rattle.array_segments.specs.SegmentLists.{Lists}
use Rattle.array_segments.specs.Storing.{added, around, has_left, has_right, left_mark, new_bounds, next_of, replaced, right_mark}
use Rattle.array_segments.proofs.LoadLaw.{AreSegments, bound_worth, from, from_low, outer_covers, place_of, to, to_above, to_high, to_within}
use Rattle.array_segments.proofs.Shown.{ends_behind_worth, meets_worth, starts_before_worth}
use Rattle.array_segments.proofs.Spans.{Spans-append, cut, cut_between, slice_by}
use Rattle.array_segments.proofs.StoreLaw.{around_spans, changed_parts, left_part, right_part, stays_above, stays_below, weak_spans, with_content, zip_around, zip_back, zip_changed, zip_prefix}

drop_bound : (to : ℕ) (first : List Expr) (uppers : List (List Expr)) → 0 < to → to ≤ length uppers → drop to (first ∷ uppers) ≡ get_or (first ∷ uppers) to [] ∷ drop to uppers
drop_bound zero first uppers some within = absurd (omega arith)
drop_bound (suc to) first uppers some within = drop-cons uppers to [] (omega arith)

module _ {C : Type 0} (first : List Expr) (uppers : List (List Expr)) (contents : List C) (marks : List Bool) (are : AreSegments uppers contents marks)
    (at : Expr) (outer value : C) (before_mark behind_mark left right : Bool) (low high : ℕ) (order : low < high) (within : high ≤ length contents) where
  upper : List Expr
  upper = get_or (first ∷ uppers) high []

  pub zip_replaced :
      zipped (drop 1 (splice (first ∷ uppers) (low + 1) high (new_bounds left right at))) (splice contents low high (around left right outer value outer)) (splice marks low high (around left right before_mark false behind_mark))
      ≡ take low (zipped uppers contents marks) ++ ((left_part at outer value before_mark behind_mark (get_or (first ∷ uppers) high []) left
      ++ right_part at outer value before_mark behind_mark (get_or (first ∷ uppers) high []) right) ++ drop high (zipped uppers contents marks))
  zip_replaced =
      let b = are.bounded in
      let cs : List C = around left right outer value outer ++ drop high contents in
      let ms : List Bool = around left right before_mark false behind_mark ++ drop high marks in
      let inner : List (List Expr) = new_bounds left right at in
      ap (λ n. zipped (drop 1 (take n (first ∷ uppers) ++ (inner ++ drop high (first ∷ uppers)))) (take low contents ++ cs) (take low marks ++ ms)) (add-one low)
      ∙ zip_prefix low uppers (inner ++ drop high (first ∷ uppers)) contents cs marks ms (omega arith) are.bounded are.marked
      ∙ ap (λ rest. take low (zipped uppers contents marks) ++ zipped (inner ++ rest) cs ms) (drop_bound high first uppers (omega arith) (omega arith))
      ∙ ap (λ rest. take low (zipped uppers contents marks) ++ rest)
      (zip_around at outer value before_mark behind_mark (get_or (first ∷ uppers) high []) left right (drop high uppers) (drop high contents) (drop high marks)
      ∙ ap (λ rest. (left_part at outer value before_mark behind_mark (get_or (first ∷ uppers) high []) left
      ++ right_part at outer value before_mark behind_mark (get_or (first ∷ uppers) high []) right) ++ rest) (zip_back high uppers contents marks are.bounded are.marked))

module _ {C : Type 0} (contains : C → ℤ → Type 0) (hull : C → C → C) (full : C) (keeps_left : (a b : C) (n : ℤ) → contains a n → contains (hull a b) n) (keeps_right : (a b : C) (n : ℤ) → contains b n → contains (hull a b) n)
    (gap : ℕ → ℕ → Option ℤ) (number : ℕ → ℤ) (obeys : Obeys gap number) (at : Expr) (value : C)
    (before after : List ℤ) (index : ℕ) (is : worth number at ≡ pos index) (below : index < length before)
    (others : (k : ℕ) → k ≢ index → item after k ≡ item before k) (same_length : length after ≡ length before)
    (first : List Expr) (uppers : List (List Expr)) (contents : List C) (marks : List Bool) (are : AreSegments uppers contents marks)
    (begins : AreWorth number (pos 0) first) (all : Spans contains number before (pos 0) (zipped uppers contents marks) (pos (length before))) where
  abbrev pub made : Lists C
  made = record { bounds = first ∷ uppers; contents = contents; marks = marks }

  abbrev low : ℕ
  low = from contains number before first uppers contents marks are begins all gap obeys at index is below

  abbrev high : ℕ
  high = to contains number before first uppers contents marks are begins all gap obeys at index is below

  abbrev place : ℕ → ℤ
  place = place_of contains number before first uppers contents marks are begins all

  order : low < high
  order = to_above contains number before first uppers contents marks are begins all gap obeys at index is below

  within : high ≤ length contents
  within = to_within contains number before first uppers contents marks are begins all gap obeys at index is below

  starts_low : place low ≤ℤ pos index
  starts_low = from_low contains number before first uppers contents marks are begins all gap obeys at index is below

  ends_high : pos index <ℤ place high
  ends_high = to_high contains number before first uppers contents marks are begins all gap obeys at index is below

  worth_at : (bound : ℕ) → bound ≤ length contents → AreWorth number (place bound) (get_or (first ∷ uppers) bound [])
  worth_at = bound_worth contains number before first uppers contents marks are begins all

  -- The segments outside stay.
  prefix : Spans contains number after (pos 0) (take low (zipped uppers contents marks)) (place low)
  prefix = stays_below contains number before after index others (take low (zipped uppers contents marks)) (pos 0) (place low)
      (cut contains number before low (zipped uppers contents marks) (pos 0) (pos (length before)) all).1 starts_low

  back : Spans contains number after (place high) (drop high (zipped uppers contents marks)) (pos (length after))
  back = subst (λ n. Spans contains number after (place high) (drop high (zipped uppers contents marks)) (pos n)) (sym same_length)
      (stays_above contains number before after index others (drop high (zipped uppers contents marks)) (place high) (pos (length before))
      (cut contains number before high (zipped uppers contents marks) (pos 0) (pos (length before)) all).2 ends_high)

  around_middle : (middle : List (Segment C)) → Spans contains number after (place low) middle (place high) →
      Spans contains number after (pos 0) (take low (zipped uppers contents marks) ++ (middle ++ drop high (zipped uppers contents marks))) (pos (length after))
  around_middle middle spans =
      Spans-append contains number after (take low (zipped uppers contents marks)) (middle ++ drop high (zipped uppers contents marks)) (pos 0) (place low) (pos (length after)) prefix
      (Spans-append contains number after middle (drop high (zipped uppers contents marks)) (place low) (place high) (pos (length after)) spans back)

  pub replaced_holds : contains value (item after index) → Holds contains number after (replaced hull full gap made at value low high)
  replaced_holds new =
      let outer : C = hull_between hull full contents low high in
      let lower : List Expr = get_or (first ∷ uppers) low [] in
      let upper : List Expr = get_or (first ∷ uppers) high [] in
      let left : Bool = has_left gap made at low in
      let right : Bool = has_right gap made at high in
      let before_mark : Bool = left_mark gap made at low in
      let behind_mark : Bool = right_mark gap made at high in
      let o = order in
      let w = within in
      record {
        from_zero = subst (λ n. AreWorth number (pos 0) (get_or (take n (first ∷ uppers) ++ (new_bounds left right at ++ drop high (first ∷ uppers))) 0 [])) (sym (add-one low)) begins;
        spans = subst (λ segments. Spans contains number after (pos 0) segments (pos (length after)))
            (sym (zip_replaced first uppers contents marks are at outer value before_mark behind_mark left right low high order within))
            (around_middle (left_part at outer value before_mark behind_mark upper left ++ right_part at outer value before_mark behind_mark upper right)
            (around_spans contains number before after index others at is outer value new before_mark behind_mark upper (place low) (place high) starts_low ends_high (worth_at high within)
            (outer_covers contains number before first uppers contents marks are begins all gap obeys at index is below hull full keeps_left keeps_right low high (omega arith))
            left right
            (λ shown. meets_worth gap number obeys at lower (place low) (not-false (meets gap at lower) shown) (worth_at low (omega arith)))
            (λ shown. starts_before_worth gap number obeys at lower (place low) (not-false (starts_before gap at lower) shown) (worth_at low (omega arith)))
            (λ shown. meets_worth gap number obeys (next_of at) upper (place high) (not-false (meets gap (next_of at) upper) shown) (worth_at high within))
            (λ shown. ends_behind_worth gap number obeys (next_of at) upper (place high) (not-false (ends_behind gap (next_of at) upper) shown) (worth_at high within))));
      }

  pub added_holds : (contains value (item after index)) ⊎ (item after index ≡ item before index) → Holds contains number after (added hull made value low high)
  added_holds has =
      let o = order in
      let raise : Segment C → Segment C = with_content (λ content. hull content value) in
      record {
        from_zero = begins;
        spans = subst (λ segments. Spans contains number after (pos 0) segments (pos (length after)))
            (sym (zip_changed (λ content. hull content value) low high uppers contents marks ∙ changed_parts raise low high (zipped uppers contents marks) (omega arith)))
            (around_middle (map raise (slice_by low high (zipped uppers contents marks)))
            (weak_spans contains number before after index others hull keeps_left keeps_right value has (slice_by low high (zipped uppers contents marks)) (place low) (place high)
            (cut_between contains number before low high (zipped uppers contents marks) (pos 0) (pos (length before)) all (omega arith))));
      }
