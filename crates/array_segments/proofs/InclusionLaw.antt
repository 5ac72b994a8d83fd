-- Where segments are shown to say at least as much as others, the others hold of what they hold of.
use Rattle.std.proofs.Common.{◌≡◌, ℕ, zero, suc, ◌+◌, ◌<◌, ◌≤◌, ℤ, pos, ◌≤ℤ◌, ◌<ℤ◌, Bool, true, ◌&&◌, ◌||◌, inl, inr, List, [], ◌∷◌, length, map, get_or, drop, Option, None, Some, arith, refl, sym, subst, ap, ◌∙◌, length-take}
use Rattle.std.proofs.lemmas.List.{get_or-take}
use Rattle.std.proofs.lemmas.Int.{ints, by_lt_z}
use Rattle.std.proofs.lemmas.Bool.{and_parts, cases_lt, false≢true, or_cases, true≢false}
use Rattle.std.specs.Option.{is_some}
use Rattle.std.specs.List.{AllByRecursion, list_all, list_any}
use Rattle.domain_api.specs.declared.expr.Expr.{Expr}
use Rattle.array_segments.specs.Comparing.{at_most}
use Rattle.array_segments.specs.Inclusion.{all_equal, all_shown, are_within, as_own, both_at_most, both_below, both_equal, equals_rest, first_behind, includes, is_shown, last_before, leads, leads_strictly, mapped, more_than}
use Rattle.array_segments.specs.Loading.{starts}
use Rattle.array_segments.specs.Meaning.{AreWorth, Covers, Holds, Obeys, Segment, Spans, item, worth, zipped}
use Rattle.array_segments.specs.SegmentLists.{HasFew, HasForm, Lists, zero_expr}
use Rattle.array_segments.proofs.LoadLaw.{AreSegments, bound_worth, last_bound, place_of}
use Rattle.array_segments.proofs.Shown.{at_most_worth, below_worth, first_place_is, last_place_is}
use Rattle.array_segments.proofs.Spans.{contents_of, cut, cut_between, last_upper, map_slice_by, rises, slice_by, slice_by_cases}

-- Contents that are all shown to be within another one.
within_covers : {C : Type 0} (contains : C → ℤ → Type 0) (number : ℕ → ℤ) (items : List ℤ) (within : C → C → Bool) (tells : (a b : C) (n : ℤ) → within a b ≡ true → contains a n → contains b n) (content : C)
    (xs : List (Segment C)) (low high : ℤ) → Spans contains number items low xs high → list_all (λ mine. within mine content) (map (λ segment. segment.content) xs) ≡ true → Covers contains items content low high
within_covers contains number items within tells content [] low high all are = λ k above under. absurd (omega (arith, ints))
within_covers contains number items within tells content (x ∷ xs) low high all are =
    let both = and_parts (within x.content content) (list_all (λ mine. within mine content) (map (λ segment. segment.content) xs)) are in
    λ k above under. by_lt_z (pos k) all.0
    (λ early. tells x.content content (item items k) both.0 (all.1.covers k above early))
    (λ late. within_covers contains number items within tells content xs all.0 high all.2 both.1 k late under)

-- An expression that may be there is worth a place.
abbrev pub IsWorth : (ℕ → ℤ) → ℤ → Option Expr → Type 0
IsWorth number place None = Unit {0}
IsWorth number place (Some expr) = worth number expr ≡ place

abbrev pub AllWorth : (ℕ → ℤ) → ℤ → (Expr → Option Expr) → List Expr → Type 0
AllWorth number place name exprs = AllByRecursion (λ expr. IsWorth number place (name expr)) exprs

own_worth : (number : ℕ → ℤ) (place : ℤ) (bound : List Expr) → AreWorth number place bound → AllWorth number place as_own bound
own_worth number place [] are = tt
own_worth number place (expr ∷ bound) are = (are.0, own_worth number place bound are.1)

module _ (gap : ℕ → ℕ → Option ℤ) (number : ℕ → ℤ) (obeys : Obeys gap number) where
  both_at_most_worth : (a b : Option Expr) (x y : ℤ) → both_at_most gap a b ≡ true → IsWorth number x a → IsWorth number y b → x ≤ℤ y
  both_at_most_worth None b x y shown first second = absurd (false≢true shown)
  both_at_most_worth (Some a) None x y shown first second = absurd (false≢true shown)
  both_at_most_worth (Some a) (Some b) x y shown first second = let h : worth number a ≤ℤ worth number b = at_most_worth gap number obeys a b shown in omega (arith, ints)

  both_below_worth : (a b : Option Expr) (x y : ℤ) → both_below gap a b ≡ true → IsWorth number x a → IsWorth number y b → x <ℤ y
  both_below_worth None b x y shown first second = absurd (false≢true shown)
  both_below_worth (Some a) None x y shown first second = absurd (false≢true shown)
  both_below_worth (Some a) (Some b) x y shown first second = let h : worth number a <ℤ worth number b = below_worth gap number obeys a b shown in omega (arith, ints)

  one_at_most : (a : Option Expr) (name : Expr → Option Expr) (second : List Expr) (x y : ℤ) → list_any (λ b. both_at_most gap a (name b)) second ≡ true → IsWorth number x a → AllWorth number y name second → x ≤ℤ y
  one_at_most a name [] x y shown first are = absurd (false≢true shown)
  one_at_most a name (b ∷ second) x y shown first are =
      elim (or_cases (both_at_most gap a (name b)) (list_any (λ b. both_at_most gap a (name b)) second) shown) [
        | inl here ↦ both_at_most_worth a (name b) x y here first are.0
        | inr later ↦ one_at_most a name second x y later first are.1
      ]

  pub leads_worth : (name other : Expr → Option Expr) (first second : List Expr) (x y : ℤ) → leads gap name other first second ≡ true → AllWorth number x name first → AllWorth number y other second → x ≤ℤ y
  leads_worth name other [] second x y shown are behind = absurd (false≢true shown)
  leads_worth name other (a ∷ first) second x y shown are behind =
      elim (or_cases (list_any (λ b. both_at_most gap (name a) (other b)) second) (leads gap name other first second) shown) [
        | inl here ↦ one_at_most (name a) other second x y here are.0 behind
        | inr later ↦ leads_worth name other first second x y later are.1 behind
      ]

  one_below : (a : Option Expr) (name : Expr → Option Expr) (second : List Expr) (x y : ℤ) → list_any (λ b. both_below gap a (name b)) second ≡ true → IsWorth number x a → AllWorth number y name second → x <ℤ y
  one_below a name [] x y shown first are = absurd (false≢true shown)
  one_below a name (b ∷ second) x y shown first are =
      elim (or_cases (both_below gap a (name b)) (list_any (λ b. both_below gap a (name b)) second) shown) [
        | inl here ↦ both_below_worth a (name b) x y here first are.0
        | inr later ↦ one_below a name second x y later first are.1
      ]

  pub leads_strictly_worth : (name other : Expr → Option Expr) (first second : List Expr) (x y : ℤ) → leads_strictly gap name other first second ≡ true → AllWorth number x name first → AllWorth number y other second → x <ℤ y
  leads_strictly_worth name other [] second x y shown are behind = absurd (false≢true shown)
  leads_strictly_worth name other (a ∷ first) second x y shown are behind =
      elim (or_cases (list_any (λ b. both_below gap (name a) (other b)) second) (leads_strictly gap name other first second) shown) [
        | inl here ↦ one_below (name a) other second x y here are.0 behind
        | inr later ↦ leads_strictly_worth name other first second x y later are.1 behind
      ]

  one_same : (first expr : Option Expr) (x : ℤ) → IsWorth number x first → is_some first ≡ true → both_equal gap first expr ≡ true → IsWorth number x expr
  one_same None expr x is some are = absurd (false≢true some)
  one_same (Some a) None x is some are = tt
  one_same (Some a) (Some b) x is some are =
      let both = and_parts (at_most gap a b) (at_most gap b a) are in
      let one : worth number a ≤ℤ worth number b = at_most_worth gap number obeys a b both.0 in
      let two : worth number b ≤ℤ worth number a = at_most_worth gap number obeys b a both.1 in
      omega (arith, ints)

  -- The expressions of a bound are all worth what its first one is.
  same_worth : (first : Option Expr) (name : Expr → Option Expr) (exprs : List Expr) (x : ℤ) → IsWorth number x first → is_some first ≡ true → list_all (λ other. both_equal gap first (name other)) exprs ≡ true →
      AllWorth number x name exprs
  same_worth first name [] x is some are = tt
  same_worth first name (expr ∷ exprs) x is some are =
      let both = and_parts (both_equal gap first (name expr)) (list_all (λ other. both_equal gap first (name other)) exprs) are in
      (one_same first (name expr) x is some both.0, same_worth first name exprs x is some both.1)

  module _ (other : ℕ → ℤ) (names : List (Option Expr)) (keeps : (symbol : ℕ) (name : Expr) → get_or names symbol None ≡ Some name → other symbol ≡ worth number name) where
    more_worth : (expr : Expr) (name : Option Expr) → get_or names expr.sym None ≡ name → IsWorth number (worth other expr) (more_than name expr.k)
    more_worth expr None is = tt
    more_worth expr (Some name) is = let e : other expr.sym ≡ worth number name = keeps expr.sym name is in omega (arith, ints)

    mapped_worth : (expr : Expr) → IsWorth number (worth other expr) (mapped names expr)
    mapped_worth expr = more_worth expr (get_or names expr.sym None) refl

    is_worth_back : (named : Option Expr) (x y : ℤ) → is_some named ≡ true → IsWorth number x named → IsWorth number y named → x ≡ y
    is_worth_back None x y some one two = absurd (false≢true some)
    is_worth_back (Some expr) x y some one two = sym one ∙ two

    rest_worth : (bound : List Expr) (x : ℤ) → all_equal gap names bound ≡ true → AllWorth number x (mapped names) bound → AreWorth other x bound
    rest_worth [] x equal are = tt
    rest_worth (expr ∷ bound) x equal are =
        let both = and_parts (equals_rest gap names expr bound) (all_equal gap names bound) equal in
        let one = and_parts (is_some (mapped names expr)) (list_all (λ o. both_equal gap (mapped names expr) (mapped names o)) bound) both.0 in
        (is_worth_back (mapped names expr) (worth other expr) x one.0 (mapped_worth expr) are.0, rest_worth bound x both.1 are.1)

    -- A bound whose expressions are shown to be equal is worth one place.
    pub equal_worth_all : (bound : List Expr) → HasFew bound → all_equal gap names bound ≡ true → (x : ℤ) × AllWorth number x (mapped names) bound × AreWorth other x bound
    equal_worth_all [] few equal = let s = few.some in absurd (omega arith)
    equal_worth_all (expr ∷ bound) few equal =
        let both = and_parts (equals_rest gap names expr bound) (all_equal gap names bound) equal in
        let one = and_parts (is_some (mapped names expr)) (list_all (λ o. both_equal gap (mapped names expr) (mapped names o)) bound) both.0 in
        let are : AllWorth number (worth other expr) (mapped names) (expr ∷ bound) =
        (mapped_worth expr, same_worth (mapped names expr) (mapped names) bound (worth other expr) (mapped_worth expr) one.0 one.1) in
        (worth other expr, are, rest_worth (expr ∷ bound) (worth other expr) equal are)

-- ---- the law

pub member_worth : (number : ℕ → ℤ) (place : ℤ) (bound : List Expr) (expr : Expr) (k : ℕ) → AreWorth number place bound → k < length bound → get_or bound k expr ≡ expr → worth number expr ≡ place
member_worth number place [] expr k are under at = absurd (omega arith)
member_worth number place (first ∷ bound) expr zero are under at = ap (worth number) (sym at) ∙ are.0
member_worth number place (first ∷ bound) expr (suc k) are under at = member_worth number place bound expr k are.1 (omega arith) at

-- A bound at the end of a segment has its form, and its expressions are shown to be equal.
pub record EndsEqual {C : Type 0} (gap : ℕ → ℕ → Option ℤ) (names : List (Option Expr)) (segment : Segment C) : Type 0 where
  pub few : HasFew segment.upper
  pub equal : all_equal gap names segment.upper ≡ true

ends_equal : {C : Type 0} (gap : ℕ → ℕ → Option ℤ) (names : List (Option Expr)) (uppers : List (List Expr)) (contents : List C) (marks : List Bool) → length uppers ≡ length contents →
    AllByRecursion HasFew uppers → list_all (λ bound. all_equal gap names bound) uppers ≡ true → AllByRecursion (EndsEqual gap names) (zipped uppers contents marks)
ends_equal gap names uppers [] marks same few equal = tt
ends_equal gap names [] (content ∷ contents) marks same few equal = absurd (omega arith)
ends_equal gap names (upper ∷ uppers) (content ∷ contents) marks same few equal =
    let both = and_parts (all_equal gap names upper) (list_all (λ bound. all_equal gap names bound) uppers) equal in
    (record { few = few.0; equal = both.0 }, ends_equal gap names uppers contents (drop 1 marks) (omega arith) few.1 both.1)

module _ {C : Type 0} (contains : C → ℤ → Type 0) (within : C → C → Bool) (tells : (a b : C) (n : ℤ) → within a b ≡ true → contains a n → contains b n)
    (gap : ℕ → ℕ → Option ℤ) (number : ℕ → ℤ) (obeys : Obeys gap number) (other : ℕ → ℤ) (names : List (Option Expr))
    (keeps : (symbol : ℕ) (name : Expr) → get_or names symbol None ≡ Some name → other symbol ≡ worth number name)
    (items : List ℤ) (first : List Expr) (uppers : List (List Expr)) (contents : List C) (marks : List Bool) (are : AreSegments uppers contents marks)
    (begins : AreWorth number (pos 0) first) (all : Spans contains number items (pos 0) (zipped uppers contents marks) (pos (length items))) where
  abbrev mine : Lists C
  mine = record { bounds = first ∷ uppers; contents = contents; marks = marks }

  abbrev place : ℕ → ℤ
  place = place_of contains number items first uppers contents marks are begins all

  worth_at : (bound : ℕ) → bound ≤ length contents → AllWorth number (place bound) as_own (get_or (first ∷ uppers) bound [])
  worth_at bound inside = own_worth number (place bound) (get_or (first ∷ uppers) bound []) (bound_worth contains number items first uppers contents marks are begins all bound inside)

  starts_count : length (starts mine) ≡ length contents
  starts_count = let b = are.bounded in let t = length-take (length contents) (first ∷ uppers) in t ∙ omega arith

  before_low : (low : List Expr) (x : ℤ) (k : ℕ) → AllWorth number x (mapped names) low → x ≤ℤ pos k → place (last_before gap names mine low) ≤ℤ pos k
  unfolding cut
  before_low low x k low_worth above =
      last_place_is (λ bound. leads gap as_own (mapped names) bound low) (λ bound. place bound ≤ℤ pos k) [] 0 0 (first ∷ uppers) (omega (arith, ints))
      (λ j under passes.
      let b = are.bounded in
      let h : place j ≤ℤ x = leads_worth gap number obeys as_own (mapped names) (get_or (first ∷ uppers) j []) low (place j) x passes (worth_at j (omega arith)) low_worth in
      let same : j ≡ 0 + j = omega arith in
      subst (λ bound. place bound ≤ℤ pos k) same (omega (arith, ints)))

  behind_high : (high : List Expr) (y : ℤ) → AllWorth number y (mapped names) high → y ≤ℤ pos (length items) → y ≤ℤ place (first_behind gap names mine high)
  behind_high high y high_worth fits =
      first_place_is (λ bound. leads gap (mapped names) as_own high bound) (λ bound. y ≤ℤ place bound) [] 0 (starts mine)
      (let e : length contents ≡ 0 + length (starts mine) = let c = starts_count in omega arith in
      let l = last_bound contains number items first uppers contents marks are begins all in
      subst (λ bound. y ≤ℤ place bound) e (omega (arith, ints)))
      (λ j under passes.
      let c = starts_count in
      let at : get_or (starts mine) j [] ≡ get_or (first ∷ uppers) j [] = get_or-take (length contents) (first ∷ uppers) j [] (omega arith) in
      let shown : leads gap (mapped names) as_own high (get_or (first ∷ uppers) j []) ≡ true = ap (λ bound. leads gap (mapped names) as_own high bound) (sym at) ∙ passes in
      let h : y ≤ℤ place j = leads_worth gap number obeys (mapped names) as_own high (get_or (first ∷ uppers) j []) y (place j) shown high_worth (worth_at j (omega arith)) in
      let same : j ≡ 0 + j = omega arith in
      subst (λ bound. y ≤ℤ place bound) same h)

  segment_covers : (content : C) (low high : List Expr) (x y : ℤ) → AllWorth number x (mapped names) low → AllWorth number y (mapped names) high → y ≤ℤ pos (length items) →
      are_within within gap names mine content low high ≡ true → Covers contains items content x y
  segment_covers content low high x y low_worth high_worth fits shown k above under =
      let from : ℕ = last_before gap names mine low in
      let to : ℕ = first_behind gap names mine high in
      let begin : place from ≤ℤ pos k = before_low low x k low_worth above in
      let end : y ≤ℤ place to = behind_high high y high_worth fits in
      elim (cases_lt to from) [
        | inl less ↦
            let back : place to ≤ℤ place from = rises contains number items (slice_by to from (zipped uppers contents marks)) (place to) (place from)
            (cut_between contains number items to from (zipped uppers contents marks) (pos 0) (pos (length items)) all (omega arith)) in
            absurd (omega (arith, ints))
        | inr order ↦
            within_covers contains number items within tells content (slice_by from to (zipped uppers contents marks)) (place from) (place to)
            (cut_between contains number items from to (zipped uppers contents marks) (pos 0) (pos (length items)) all order)
            (ap (list_all (λ own. within own content))
            (map_slice_by (λ segment. segment.content) from to (zipped uppers contents marks) ∙ ap (slice_by from to) (contents_of uppers contents marks) ∙ sym (slice_by_cases from to contents))
            ∙ shown)
            k begin (omega (arith, ints))
      ]

  shown_spans : (segments : List (Segment C)) (lower : List Expr) (x : ℤ) → AllWorth number x (mapped names) lower → AreWorth other x lower → AllByRecursion (EndsEqual gap names) segments →
      all_shown within gap names mine lower segments ≡ true → ((h : ℤ) → AreWorth other h (last_upper lower segments) → h ≡ pos (length items)) → Spans contains other items x segments (pos (length items))
  shown_spans [] lower x low_worth lower_worth equal shown ends = ends x lower_worth
  shown_spans (segment ∷ segments) lower x low_worth lower_worth equal shown ends =
      let upper = equal_worth_all gap number obeys other names keeps segment.upper equal.0.few equal.0.equal in
      let y : ℤ = upper.0 in
      let high : List Expr = segment.upper in
      let in_names : Expr → Option Expr = mapped names in
      let both = and_parts (is_shown within gap names mine lower segment) (all_shown within gap names mine high segments) shown in
      let one = and_parts (leads gap in_names in_names lower high && (segment.may_be_empty || leads_strictly gap in_names in_names lower high))
      (leads gap in_names in_names high lower || are_within within gap names mine segment.content lower high) both.0 in
      let two = and_parts (leads gap in_names in_names lower high) (segment.may_be_empty || leads_strictly gap in_names in_names lower high) one.0 in
      let rest : Spans contains other items y segments (pos (length items)) = shown_spans segments high y upper.1 upper.2 equal.1 both.1 ends in
      let fits : y ≤ℤ pos (length items) = rises contains other items segments y (pos (length items)) rest in (
        y,
        record {
          ends = upper.2;
          order = leads_worth gap number obeys in_names in_names lower high x y two.0 low_worth upper.1;
          rises = λ unmarked. elim (or_cases segment.may_be_empty (leads_strictly gap in_names in_names lower high) two.1) [
            | inl marked ↦ absurd (true≢false (sym marked ∙ unmarked))
            | inr strictly ↦ leads_strictly_worth gap number obeys in_names in_names lower high x y strictly low_worth upper.1
          ];
          covers = elim (or_cases (leads gap in_names in_names high lower) (are_within within gap names mine segment.content lower high) one.1) [
            | inl empty ↦ (let h : y ≤ℤ x = leads_worth gap number obeys in_names in_names high lower y x empty upper.1 low_worth in λ k above under. absurd (omega (arith, ints)))
            | inr inside ↦ segment_covers segment.content lower high x y low_worth upper.1 fits inside
          ];
        },
        rest,
      )

  pub included_lists : (bounds : List (List Expr)) (their : List C) (their_marks : List Bool) → HasForm (record { bounds = bounds; contents = their; marks = their_marks }) → other 0 ≡ pos 0 →
      ((h : ℤ) → AreWorth other h (last_upper (get_or bounds 0 []) (zipped (drop 1 bounds) their their_marks)) → h ≡ pos (length items)) →
      includes within gap names mine (record { bounds = bounds; contents = their; marks = their_marks }) ≡ true → Holds contains other items (record { bounds = bounds; contents = their; marks = their_marks })
  included_lists [] their their_marks form zero_is ends shown = let b = form.bounded in absurd (omega arith)
  included_lists (lower ∷ highers) their their_marks form zero_is ends shown =
      let b = form.bounded in
      let both = and_parts (list_all (λ bound. all_equal gap names bound) (lower ∷ highers)) (all_shown within gap names mine lower (zipped highers their their_marks)) shown in
      let equal = and_parts (all_equal gap names lower) (list_all (λ bound. all_equal gap names bound) highers) both.0 in
      let low = equal_worth_all gap number obeys other names keeps lower form.few.0 equal.0 in
      let zero_worth : worth other zero_expr ≡ low.0 = member_worth other low.0 lower zero_expr form.from_zero.0 low.2 form.from_zero.1 form.from_zero.2 in
      let at_zero : low.0 ≡ pos 0 = omega (arith, ints) in
      record {
        from_zero = subst (λ at. AreWorth other at lower) at_zero low.2;
        spans = subst (λ at. Spans contains other items at (zipped highers their their_marks) (pos (length items))) at_zero
            (shown_spans (zipped highers their their_marks) lower low.0 low.1 low.2 (ends_equal gap names highers their their_marks (omega arith) form.few.1 equal.1) both.1 ends);
      }
