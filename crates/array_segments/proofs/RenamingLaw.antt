-- Segments in other names hold of what they held of; and they have the form.
use Rattle.std.proofs.Common.{◌≡◌, ℕ, zero, suc, ◌<◌, ◌≤◌, ℤ, pos, ◌≤ℤ◌, ◌<ℤ◌, Bool, false, inl, inr, List, [], ◌∷◌, length, map, get_or, drop, Option, None, Some, arith, refl, sym, subst, ap, ◌∙◌}
use Rattle.std.proofs.lemmas.List.{length-map}
use Rattle.std.proofs.lemmas.Int.{ints, by_lt_z}
use Rattle.std.proofs.lemmas.Bool.{and_cases}
use Rattle.std.specs.List.{AllByRecursion, Contains, cons_option, filter_map}
use Rattle.domain_api.specs.declared.expr.Expr.{Expr}
use Rattle.array_segments.specs.declared.renaming.Part.{Part}
use Rattle.array_segments.specs.Meaning.{AreWorth, Covers, Holds, Segment, Spans, item, segments_of, worth, zipped}
use Rattle.array_segments.specs.Renaming.{joined, part_of, placed, renamed_from, renamed_lists}
use Rattle.array_segments.specs.SegmentLists.{HasFew, HasForm, Lists, zero_expr}
use Rattle.array_segments.proofs.Spans.{last_upper, zipped_length}

-- ---- segments and their lists

pub zipped_back : {C : Type 0} (segments : List (Segment C)) → zipped (map (λ segment. segment.upper) segments) (map (λ segment. segment.content) segments) (map (λ segment. segment.may_be_empty) segments) ≡ segments
zipped_back [] = refl
zipped_back (segment ∷ segments) = ap (λ rest. segment ∷ rest) (zipped_back segments)

-- ---- names that keep what is worth

module _ (number other : ℕ → ℤ) (name : Expr → Option Expr) (keeps : (expr new : Expr) → name expr ≡ Some new → worth other new ≡ worth number expr) where
  name_worth : (expr : Expr) (named : Option Expr) → name expr ≡ named → (place : ℤ) (rest : List Expr) → worth number expr ≡ place → AreWorth other place rest → AreWorth other place (cons_option named rest)
  name_worth expr None is place rest at are = are
  name_worth expr (Some new) is place rest at are = (keeps expr new is ∙ at, are)

  pub named_worth : (place : ℤ) (bound : List Expr) → AreWorth number place bound → AreWorth other place (filter_map name bound)
  named_worth place [] are = tt
  named_worth place (expr ∷ bound) are = name_worth expr (name expr) refl place (filter_map name bound) are.0 (named_worth place bound are.1)

-- What is held lies from one place to another, where the bound at its end has no name left.
abbrev pub HeldLies : {C : Type 0} → (C → ℤ → Type 0) → List ℤ → (Expr → Option Expr) → List Expr → ℤ → Option (Part C) → ℤ → Type 0
HeldLies contains items name before low None middle = low ≡ middle
HeldLies contains items name before low (Some part) middle =
    Covers contains items part.content low middle × (low ≤ℤ middle) × (part.mark ≡ false → low <ℤ middle) × (filter_map name before ≡ [])

module _ {C : Type 0} (contains : C → ℤ → Type 0) (number other : ℕ → ℤ) (items : List ℤ) (hull : C → C → C)
    (keeps_left : (a b : C) (n : ℤ) → contains a n → contains (hull a b) n) (keeps_right : (a b : C) (n : ℤ) → contains b n → contains (hull a b) n)
    (name : Expr → Option Expr) (keeps : (expr new : Expr) → name expr ≡ Some new → worth other new ≡ worth number expr) where
  joined_covers : (held : Option (Part C)) (part : Part C) (before : List Expr) (low middle high : ℤ) → HeldLies contains items name before low held middle → middle ≤ℤ high →
      Covers contains items part.content middle high → Covers contains items (joined hull held part).content low high
  joined_covers None part before low middle high lies order covers = λ k above below. covers k (omega (arith, ints)) below
  joined_covers (Some first) part before low middle high lies order covers = λ k above below. by_lt_z (pos k) middle
      (λ early. keeps_left first.content part.content (item items k) (lies.0 k above early))
      (λ late. keeps_right first.content part.content (item items k) (covers k late below))

  joined_order : (held : Option (Part C)) (before : List Expr) (low middle : ℤ) → HeldLies contains items name before low held middle → low ≤ℤ middle
  joined_order None before low middle lies = omega (arith, ints)
  joined_order (Some first) before low middle lies = lies.1

  joined_rises : (held : Option (Part C)) (part : Part C) (before : List Expr) (low middle high : ℤ) → HeldLies contains items name before low held middle → middle ≤ℤ high →
      (part.mark ≡ false → middle <ℤ high) → (joined hull held part).mark ≡ false → low <ℤ high
  joined_rises None part before low middle high lies order rises unmarked = let r = rises unmarked in omega (arith, ints)
  joined_rises (Some first) part before low middle high lies order rises unmarked =
      let o = lies.1 in
      elim (and_cases first.mark part.mark unmarked) [
        | inl early ↦ let r = lies.2 early in omega (arith, ints)
        | inr late ↦ let r = rises late in omega (arith, ints)
      ]

  -- A segment up to a bound that has names left, or the part held for the next one.
  placed_spans : (part : Part C) (bound : List Expr) (grown fresh : List (Segment C)) (low middle high : ℤ) → Covers contains items part.content low middle → low ≤ℤ middle →
      (part.mark ≡ false → low <ℤ middle) → AreWorth other middle bound → (bound ≡ [] → Spans contains other items low grown high) → Spans contains other items middle fresh high →
      Spans contains other items low (placed part bound grown fresh) high
  placed_spans part [] grown fresh low middle high covers order rises ends without behind = without refl
  placed_spans part (expr ∷ exprs) grown fresh low middle high covers order rises ends without behind =
      (middle, record { ends = ends; order = order; rises = rises; covers = covers }, behind)

  pub renamed_spans : (segments : List (Segment C)) (held : Option (Part C)) (before : List Expr) (low middle high : ℤ) → HeldLies contains items name before low held middle →
      Spans contains number items middle segments high → 0 < length (filter_map name (last_upper before segments)) →
      Spans contains other items low (renamed_from hull name held segments) high
  renamed_spans [] None before low middle high lies all ends = lies ∙ all
  renamed_spans [] (Some part) before low middle high lies all ends = let e : length (filter_map name before) ≡ 0 = ap length lies.3 in absurd (omega arith)
  renamed_spans (segment ∷ segments) held before low middle high lies all ends =
      let part : Part C = joined hull held (part_of segment) in
      let order : middle ≤ℤ all.0 = all.1.order in
      let begins : low ≤ℤ middle = joined_order held before low middle lies in
      let longer : low ≤ℤ all.0 = omega (arith, ints) in
      let covers : Covers contains items part.content low all.0 = joined_covers held (part_of segment) before low middle all.0 lies order all.1.covers in
      let rises : part.mark ≡ false → low <ℤ all.0 = joined_rises held (part_of segment) before low middle all.0 lies order all.1.rises in
      placed_spans part (filter_map name segment.upper) (renamed_from hull name (Some part) segments) (renamed_from hull name None segments) low all.0 high covers longer rises
      (named_worth number other name keeps all.0 segment.upper all.1.ends)
      (λ none. renamed_spans segments (Some part) segment.upper low all.0 high (covers, longer, rises, none) all.2 ends)
      (renamed_spans segments None segment.upper all.0 all.0 high refl all.2 ends)

  -- In names that keep what expressions are worth, and leave one at the last bound, the segments hold as before.
  pub renamed_law : (lists : Lists C) → Holds contains number items lists → 0 < length (filter_map name (last_upper (get_or lists.bounds 0 []) (segments_of lists))) →
      Holds contains other items (renamed_lists hull name lists)
  renamed_law lists holds ends =
      let new : List (Segment C) = renamed_from hull name None (segments_of lists) in
      record {
        from_zero = named_worth number other name keeps (pos 0) (get_or lists.bounds 0 []) holds.from_zero;
        spans = subst (λ segments. Spans contains other items (pos 0) segments (pos (length items))) (sym (zipped_back new))
            (renamed_spans (segments_of lists) None (get_or lists.bounds 0 []) (pos 0) (pos 0) (pos (length items)) refl holds.spans ends);
      }

-- ---- the form

module _ {C : Type 0} (hull : C → C → C) (name : Expr → Option Expr) where
  placed_count : (part : Part C) (bound : List Expr) (grown fresh : List (Segment C)) (n : ℕ) → length grown ≤ n → length fresh ≤ n → length (placed part bound grown fresh) ≤ suc n
  placed_count part [] grown fresh n some other = omega arith
  placed_count part (expr ∷ exprs) grown fresh n some other = omega arith

  pub renamed_count : (segments : List (Segment C)) (held : Option (Part C)) → length (renamed_from hull name held segments) ≤ length segments
  renamed_count [] held = omega arith
  renamed_count (segment ∷ segments) held =
      placed_count (joined hull held (part_of segment)) (filter_map name segment.upper) (renamed_from hull name (Some (joined hull held (part_of segment))) segments) (renamed_from hull name None segments)
      (length segments) (renamed_count segments (Some (joined hull held (part_of segment)))) (renamed_count segments None)

  placed_some : (part : Part C) (bound : List Expr) (grown fresh : List (Segment C)) → (bound ≡ [] → 1 ≤ length grown) → 1 ≤ length (placed part bound grown fresh)
  placed_some part [] grown fresh otherwise = otherwise refl
  placed_some part (expr ∷ exprs) grown fresh otherwise = omega arith

  pub renamed_some : (segments : List (Segment C)) (segment : Segment C) (held : Option (Part C)) → 0 < length (filter_map name (last_upper segment.upper segments)) → 1 ≤ length (renamed_from hull name held (segment ∷ segments))
  renamed_some [] segment held ends =
      placed_some (joined hull held (part_of segment)) (filter_map name segment.upper) [] [] (λ none. let e : length (filter_map name segment.upper) ≡ 0 = ap length none in absurd (omega arith))
  renamed_some (next ∷ segments) segment held ends =
      placed_some (joined hull held (part_of segment)) (filter_map name segment.upper) (renamed_from hull name (Some (joined hull held (part_of segment))) (next ∷ segments)) (renamed_from hull name None (next ∷ segments))
      (λ none. renamed_some segments next (Some (joined hull held (part_of segment))) ends)

  cons_count : (named : Option Expr) (rest : List Expr) → length (cons_option named rest) ≤ suc (length rest)
  cons_count None rest = omega arith
  cons_count (Some new) rest = omega arith

  named_count : (bound : List Expr) → length (filter_map name bound) ≤ length bound
  named_count [] = omega arith
  named_count (expr ∷ bound) = let one = cons_count (name expr) (filter_map name bound) in let rest = named_count bound in omega arith

  placed_few : (part : Part C) (bound : List Expr) (grown fresh : List (Segment C)) → length bound ≤ 4 → AllByRecursion HasFew (map (λ segment. segment.upper) grown) →
      AllByRecursion HasFew (map (λ segment. segment.upper) fresh) → AllByRecursion HasFew (map (λ segment. segment.upper) (placed part bound grown fresh))
  placed_few part [] grown fresh few some other = some
  placed_few part (expr ∷ exprs) grown fresh few some other = (record { some = omega arith; most = few }, other)

  pub renamed_few : (segments : List (Segment C)) (held : Option (Part C)) → AllByRecursion HasFew (map (λ segment. segment.upper) segments) → AllByRecursion HasFew (map (λ segment. segment.upper) (renamed_from hull name held segments))
  renamed_few [] held few = tt
  renamed_few (segment ∷ segments) held few =
      let m = few.0.most in
      let c = named_count segment.upper in
      placed_few (joined hull held (part_of segment)) (filter_map name segment.upper) (renamed_from hull name (Some (joined hull held (part_of segment))) segments) (renamed_from hull name None segments)
      (omega arith) (renamed_few segments (Some (joined hull held (part_of segment))) few.1) (renamed_few segments None few.1)

  has_here : (named : Option Expr) (new : Expr) (rest : List Expr) → named ≡ Some new → Contains (cons_option named rest) new
  has_here None new rest is = absurd (cc)
  has_here (Some first) new rest is = let same : first ≡ new = cc in (0, omega arith, same)

  has_cons : (named : Option Expr) (new : Expr) (rest : List Expr) → Contains rest new → Contains (cons_option named rest) new
  has_cons None new rest has = has
  has_cons (Some first) new rest has = let k : has.0 < length rest = has.1 in (suc has.0, omega arith, has.2)

  -- What stands at a bound and keeps a name stays.
  has_named : (bound : List Expr) (expr new : Expr) (k : ℕ) → name expr ≡ Some new → k < length bound → get_or bound k expr ≡ expr → Contains (filter_map name bound) new
  has_named [] expr new k is under at = absurd (omega arith)
  has_named (first ∷ bound) expr new zero is under at = has_here (name first) new (filter_map name bound) (ap name at ∙ is)
  has_named (first ∷ bound) expr new (suc k) is under at = has_cons (name first) new (filter_map name bound) (has_named bound expr new k is (omega arith) at)

  uppers_of : (uppers : List (List Expr)) (contents : List C) (marks : List Bool) → length uppers ≡ length contents → map (λ segment. segment.upper) (zipped uppers contents marks) ≡ uppers
  uppers_of [] [] marks same = refl
  uppers_of [] (content ∷ contents) marks same = absurd (omega arith)
  uppers_of (upper ∷ uppers) [] marks same = absurd (omega arith)
  uppers_of (upper ∷ uppers) (content ∷ contents) marks same = ap (λ rest. upper ∷ rest) (uppers_of uppers contents (drop 1 marks) (omega arith))

  form_lists : (bounds : List (List Expr)) (contents : List C) (marks : List Bool) → HasForm (record { bounds = bounds; contents = contents; marks = marks }) → name zero_expr ≡ Some zero_expr →
      0 < length (filter_map name (last_upper (get_or bounds 0 []) (zipped (drop 1 bounds) contents marks))) →
      HasForm (renamed_lists hull name (record { bounds = bounds; contents = contents; marks = marks }))
  form_lists [] contents marks form zero_stays ends = let b = form.bounded in absurd (omega arith)
  form_lists (first ∷ uppers) [] marks form zero_stays ends = let s = form.some in absurd (omega arith)
  form_lists (first ∷ uppers) (content ∷ contents) marks form zero_stays ends =
      let b = form.bounded in
      let m = form.most in
      let segments : List (Segment C) = zipped uppers (content ∷ contents) marks in
      let new : List (Segment C) = renamed_from hull name None segments in
      let some : 1 ≤ length new = renamed_some (zipped (drop 1 uppers) contents (drop 1 marks)) (record { content = content; may_be_empty = get_or marks 0 false; upper = get_or uppers 0 [] }) None ends in
      let count : length new ≤ length segments = renamed_count segments None in
      let all : length segments ≡ length (content ∷ contents) = zipped_length uppers (content ∷ contents) marks in
      let in_contents : length (map (λ segment. segment.content) new) ≡ length new = length-map new (λ segment. segment.content) in
      let in_bounds : length (map (λ segment. segment.upper) new) ≡ length new = length-map new (λ segment. segment.upper) in
      let in_marks : length (map (λ segment. segment.may_be_empty) new) ≡ length new = length-map new (λ segment. segment.may_be_empty) in
      let zero_there : Contains (filter_map name first) zero_expr = has_named first zero_expr zero_expr form.from_zero.0 zero_stays form.from_zero.1 form.from_zero.2 in
      let at_zero : zero_there.0 < length (filter_map name first) = zero_there.1 in
      let first_count = named_count first in
      let first_few = form.few.0.most in
      record {
        some = omega arith;
        most = omega arith;
        bounded = omega arith;
        marked = omega arith;
        few = (
          record { some = omega arith; most = omega arith },
          renamed_few segments None (subst (AllByRecursion HasFew) (sym (uppers_of uppers (content ∷ contents) marks (omega arith))) form.few.1),
        );
        from_zero = zero_there;
      }

  pub renamed_form : (lists : Lists C) → HasForm lists → name zero_expr ≡ Some zero_expr → 0 < length (filter_map name (last_upper (get_or lists.bounds 0 []) (segments_of lists))) → HasForm (renamed_lists hull name lists)
  renamed_form lists form zero_stays ends = form_lists lists.bounds lists.contents lists.marks form zero_stays ends
