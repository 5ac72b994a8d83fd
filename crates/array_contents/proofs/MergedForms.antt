-- Contents of two states as one, and in other names, are formed at the new lengths.
use Rattle.std.proofs.Common.{◌≡◌, ℕ, zero, suc, ◌+◌, ◌-◌, ◌<◌, ◌≤◌, ◌==◌, nat_lt, ℤ, pos, ◌+ℤ◌, ◌-ℤ◌, Bool, true, false, ◌&&◌, List, [], ◌∷◌, length, map, drop, get_or, Option, None, Some, refl, sym, ap, ◌∙◌, subst, arith}
use Rattle.std.specs.Prelude.{if◌then◌else◌}
use Rattle.std.specs.List.{AllByRecursion, cons_option, filter_map, position}
use Rattle.std.specs.Ordering.{int_eq}
use Rattle.std.proofs.lemmas.Bool.{and_parts}
use Rattle.std.proofs.lemmas.Bool.Decides.{Decides-eqb}
use Rattle.std.proofs.lemmas.List.Quantifiers.{position-Some}
use Rattle.domain_api.specs.declared.expr.Expr.{Expr}
use Rattle.array_segments.specs.Behind.{StandsForBoth}
use Rattle.array_segments.specs.CommonBounds.{common_bound, first_bound, later_places, must_at, origin_place, paired_exprs, put_all}
use Rattle.array_segments.specs.Growing.{begun, with_more}
use Rattle.array_segments.specs.Meaning.{Segment, segments_of}
use Rattle.array_segments.specs.Renaming.{joined, part_of, placed, renamed_from, renamed_lists}
use Rattle.array_segments.specs.SegmentLists.{Has, HasForm, Lists, last_bound, zero_expr}
use Rattle.array_segments.specs.Storing.{first_two, limited, merged_first, merged_times}
use Rattle.array_segments.specs.Unifying.{common_segments, unified}
use Rattle.array_segments.proofs.CommonLaw.{all_alike, lowest_are, paired_are, put_all_are}
use Rattle.array_segments.proofs.EndLaw.{last_renamed, unified_end}
use Rattle.array_segments.proofs.NameSteps.{last_bound_is}
use Rattle.array_segments.proofs.RenamingLaw.{renamed_form}
use Rattle.array_segments.proofs.UnifyChain.{chained}
use Rattle.array_segments.proofs.UnifyLaw.{by_rows, end_some, rows_more, unified_form}
use Rattle.interval_domain.specs.Joins.{full, hull}
use Rattle.symbolic_values.specs.Names.{are_same_constant, fitting, moved, named_at, paired_expr, renamed}
use Rattle.symbolic_values.specs.Pairing.{Pairing, origin, same_key, use_of}
use Rattle.symbolic_values.specs.declared.pairs.Key.{Key}
use Rattle.symbolic_values.proofs.MeaningLaws.{fitting_is}
use Rattle.array_contents.specs.Contents.{AreFormed, Contents, IsFormed, Segments, segments_at}
use Rattle.array_contents.specs.Ends.{EachIsNamed, EachStands}
use Rattle.array_contents.specs.Merging.{Making, merged, merged_one, renamed_each}
use Rattle.array_contents.proofs.MergeLaws.{form_at}
use Rattle.array_contents.proofs.NarrowContents.{AreNarrow, HasNarrow, KeepsNarrow, narrow_at, renamed_narrow, unified_narrow}

same_some : {X : Type 0} (x y : X) → Some x ≡ Some y → x ≡ y
same_some x y same = cc

-- The symbols of a bound are there, of so many.
abbrev pub AreThere : ℕ → List Expr → Type 0
AreThere symbols bound = AllByRecursion (λ (e : Expr). e.sym ≤ symbols) bound

-- ---- the limit

module _ {C : Type 0} (hull : C → C → C) (P : List Expr → Type 0) where
  first_all : (bounds : List (List Expr)) → AllByRecursion P bounds
      → AllByRecursion P (first_two (λ first second. first) bounds)
  first_all [] all = tt
  first_all (x ∷ []) all = all
  first_all (x ∷ y ∷ bounds) all = (all.0, all.1.1)

  times_all : (times : ℕ) (lists : Lists C) → AllByRecursion P lists.bounds
      → AllByRecursion P (merged_times hull times lists).bounds
  times_all zero lists all = all
  times_all (suc times) lists all = times_all times (merged_first hull lists) (first_all lists.bounds all)

  limited_all : (lists : Lists C) → AllByRecursion P lists.bounds → AllByRecursion P (limited hull lists).bounds
  limited_all lists all = times_all (length lists.contents - 12) lists all

-- ---- names of pairs

constant_there : (e f : Expr) → are_same_constant e f ≡ true → e.sym ≡ 0
constant_there e f is = (Decides-eqb e.sym 0).0 (and_parts (e.sym == 0) (f.sym == 0 && int_eq e.k f.k) is).0

key_there : (pairs : Pairing) (k : ℤ) (u : Key) (place : Option ℕ) (g : Expr) → position (same_key u) pairs.keys ≡ place
    → named_at pairs k place ≡ Some g
    → g.sym ≤ length pairs.keys
key_there pairs k u None g at is = absurd cc
key_there pairs k u (Some place) g at is = by (nat_lt place 4294967295) is
  where
    by : (few : Bool)
        → (if few then fitting (place + 1) (k -ℤ (get_or pairs.keys place origin).first) else None) ≡ Some g
        → g.sym ≤ length pairs.keys
    by true made =
        let g_is : record { sym = place + 1; k = k -ℤ (get_or pairs.keys place origin).first } ≡ g =
        fitting_is (place + 1) (k -ℤ (get_or pairs.keys place origin).first) g _ made in
        subst (λ (e : Expr). e.sym ≤ length pairs.keys) g_is
        (omega (arith, (position-Some (same_key u) pairs.keys place origin at).0))
    by false made = absurd cc

-- What stands for two expressions is 0 or the number of a key, and a constant.
pub pair_there : (pairs : Pairing) (e f g : Expr) → paired_expr pairs e f ≡ Some g → g.sym ≤ length pairs.keys
pair_there pairs e f g is = by (are_same_constant e f) refl is
  where
    by : (constant : Bool) → are_same_constant e f ≡ constant
        → (if constant then Some e else named_at pairs e.k (position (same_key (use_of e f)) pairs.keys)) ≡ Some g
        → g.sym ≤ length pairs.keys
    by true constant made =
        subst (λ (x : Expr). x.sym ≤ length pairs.keys) (same_some e g made)
        (subst (λ n. n ≤ length pairs.keys) (sym (constant_there e f constant)) (omega arith))
    by false constant made = key_there pairs e.k (use_of e f) (position (same_key (use_of e f)) pairs.keys) g refl made

-- ---- common bounds

must_there : (symbols : ℕ) (test : Bool) (end expr : Expr) → end.sym ≤ symbols
    → (if test then Some end else None) ≡ Some expr → expr.sym ≤ symbols
must_there symbols true end expr there is = subst (λ (e : Expr). e.sym ≤ symbols) (same_some end expr is) there
must_there symbols false end expr there is = absurd cc

module _ (pairs : Pairing) where
  paired_there : (first second : List Expr) → AreThere (length pairs.keys)
      (put_all [] (paired_exprs pairs first second))
  paired_there first second =
      put_all_are (λ (e : Expr). e.sym ≤ length pairs.keys) [] (paired_exprs pairs first second) tt
      (paired_are (λ (e : Expr). e.sym ≤ length pairs.keys) pairs (λ e. Unit {0}) (λ f. Unit {0})
      (λ e f g one other named. pair_there pairs e f g named)
      first second (all_alike first) (all_alike second))

  first_there : (a b : Segments) → AreThere (length pairs.keys) (first_bound pairs a b)
  first_there a b =
      lowest_are (λ (e : Expr). e.sym ≤ length pairs.keys) (Some zero_expr)
      (put_all [] (paired_exprs pairs (get_or a.bounds 0 []) (get_or b.bounds 0 [])))
      (paired_there (get_or a.bounds 0 []) (get_or b.bounds 0 []))
      (λ expr must. must_there (length pairs.keys) true zero_expr expr (omega arith) must)

  common_there : (end : Expr) (a b : Segments) → end.sym ≤ length pairs.keys → (x y : ℕ)
      → AreThere (length pairs.keys) (common_bound pairs end a b x y)
  common_there end a b there x y =
      lowest_are (λ (e : Expr). e.sym ≤ length pairs.keys) (must_at a b end x y)
      (put_all [] (paired_exprs pairs (get_or a.bounds x []) (get_or b.bounds y [])))
      (paired_there (get_or a.bounds x []) (get_or b.bounds y []))
      (λ expr must. must_there (length pairs.keys)
      (x == length a.contents && y == length b.contents) end expr there must)

  unified_there : (make : Making) (end : Expr) (a b : Segments) → HasForm a → HasForm b → end.sym ≤ length pairs.keys
      → AllByRecursion (AreThere (length pairs.keys)) (unified hull make full pairs end a b).bounds
  unified_there make end a b first second there =
      limited_all hull (AreThere (length pairs.keys))
      (with_more (begun (first_bound pairs a b))
      (common_segments hull make full pairs end a b origin_place (later_places a b))) (
        first_there a b,
        by_rows hull make full pairs end a b first second
            (λ segments. AllByRecursion (AreThere (length pairs.keys)) (map (λ segment. segment.upper) segments))
            (chained hull make full pairs end a b (length a.contents) (length b.contents) (end_some pairs end a b)
            (λ last segments. AllByRecursion (AreThere (length pairs.keys)) (map (λ segment. segment.upper) segments)) tt
            (λ last one other upper segments x y in_x in_y some same rest.
            (subst (AreThere (length pairs.keys)) (sym same) (common_there end a b there one other), rest))
            (length a.contents - 1) (rows_more hull make full pairs end a b first second)),
      )

one_formed : (make : Making) (pairs : Pairing) (a b : Contents) (key : Key) (e : Expr) → KeepsNarrow make
    → AllByRecursion HasForm a → AllByRecursion HasForm b → AreNarrow a → AreNarrow b
    → StandsForBoth pairs (last_bound (segments_at a key.s)) (last_bound (segments_at b key.t)) e
    → IsFormed (length pairs.keys) e (merged_one make pairs a b key e)
one_formed make pairs a b key e keeps first second narrow also stands =
    let one : HasForm (segments_at a key.s) = form_at a key.s first in
    let other : HasForm (segments_at b key.t) = form_at b key.t second in
    record {
      form = unified_form hull make full pairs e (segments_at a key.s) (segments_at b key.t) one other;
      ends = unified_end hull make full pairs e (segments_at a key.s) (segments_at b key.t) one other;
      named =
          unified_there pairs make e (segments_at a key.s) (segments_at b key.t) one other
          (pair_there pairs stands.one stands.other e stands.named);
      narrow =
          unified_narrow make pairs e (segments_at a key.s) (segments_at b key.t) keeps (narrow_at a key.s narrow)
          (narrow_at b key.t also);
    }

pub merged_formed : (make : Making) (pairs : Pairing) (a b : Contents) (keys : List Key) (lengths : List Expr)
    → KeepsNarrow make → AllByRecursion HasForm a → AllByRecursion HasForm b → AreNarrow a → AreNarrow b
    → EachStands pairs a b keys lengths → length lengths ≡ length keys
    → AreFormed (length pairs.keys) lengths (merged make pairs a b keys lengths)
merged_formed make pairs a b [] [] keeps first second narrow also stands same = tt
merged_formed make pairs a b [] (e ∷ lengths) keeps first second narrow also stands same = absurd (omega (arith, same))
merged_formed make pairs a b (key ∷ keys) [] keeps first second narrow also stands same = absurd (omega (arith, same))
merged_formed make pairs a b (key ∷ keys) (e ∷ lengths) keeps first second narrow also stands same = (
  one_formed make pairs a b key e keeps first second narrow also stands.0,
  merged_formed make pairs a b keys lengths keeps first second narrow also stands.1 (omega (arith, same)),
)

-- ---- other names

-- An expression of the bound has this name.
pub record EndsAs (names : List (Option Expr)) (bound : List Expr) (new : Expr) : Type 0 where
  pub old : Expr
  pub in_bound : Has old bound
  pub named : renamed names old ≡ Some new

-- The last bound of each has its new length as a name.
abbrev pub EachEndsAs : List (Option Expr) → Contents → List Key → List Expr → Type 0
EachEndsAs names contents [] lengths = Unit {0}
EachEndsAs names contents (key ∷ keys) lengths =
    EndsAs names (last_bound (segments_at contents key.s)) (get_or lengths 0 zero_expr)
    × EachEndsAs names contents keys (drop 1 lengths)

-- Of each of a type that has no name here.
abbrev Every : {X : Type 0} → (X → Type 0) → Type 0
Every {X = X} P = (x : X) → P x

moved_there : (symbols : ℕ) (name : Option Expr) (k : ℤ) (g : Expr) → ((x : Expr) → name ≡ Some x → x.sym ≤ symbols)
    → moved name k ≡ Some g → g.sym ≤ symbols
moved_there symbols None k g there is = absurd cc
moved_there symbols (Some x) k g there is =
    let g_is : record { sym = x.sym; k = x.k +ℤ k } ≡ g = fitting_is x.sym (x.k +ℤ k) g _ is in
    subst (λ (e : Expr). e.sym ≤ symbols) g_is (there x refl)

cons_has : (found : Option Expr) (new : Expr) (rest : List Expr) → Has new rest → Has new (cons_option found rest)
cons_has None new rest has = has
cons_has (Some first) new rest has = (suc has.0, omega (arith, has.1), has.2)

here_has : (found : Option Expr) (new : Expr) (rest : List Expr) → found ≡ Some new → Has new (cons_option found rest)
here_has None new rest is = absurd cc
here_has (Some first) new rest is = (0, omega arith, same_some first new is)

module _ (names : List (Option Expr)) where
  named_has : (bound : List Expr) (old new : Expr) (k : ℕ) → renamed names old ≡ Some new → k < length bound
      → get_or bound k old ≡ old → Has new (filter_map (renamed names) bound)
  named_has [] old new k is under at = absurd (omega (arith, under))
  named_has (e ∷ bound) old new zero is under at =
      here_has (renamed names e) new (filter_map (renamed names) bound) (ap (renamed names) at ∙ is)
  named_has (e ∷ bound) old new (suc k) is under at =
      cons_has (renamed names e) new (filter_map (renamed names) bound)
      (named_has bound old new k is (omega (arith, under)) at)

  end_named : (bound : List Expr) (new : Expr) → EndsAs names bound new → Has new (filter_map (renamed names) bound)
  end_named bound new ends = named_has bound ends.old new ends.in_bound.0 ends.named ends.in_bound.1 ends.in_bound.2

  some_named : (bound : List Expr) (new : Expr) → EndsAs names bound new → 0 < length (filter_map (renamed names) bound)
  some_named bound new ends = let has = end_named bound new ends in omega (arith, has.1)

  pub each_is_named : (contents : Contents) (keys : List Key) (lengths : List Expr)
      → EachEndsAs names contents keys lengths → EachIsNamed names contents keys
  each_is_named contents [] lengths ends = tt
  each_is_named contents (key ∷ keys) lengths ends = (
    some_named (last_bound (segments_at contents key.s)) (get_or lengths 0 zero_expr) ends.0,
    each_is_named contents keys (drop 1 lengths) ends.1,
  )

  zero_named : get_or names 0 None ≡ Some zero_expr → renamed names zero_expr ≡ Some zero_expr
  zero_named zero_is = ap (λ name. moved name (pos 0)) zero_is

  module _ (symbols : ℕ) (there : (s : ℕ) (name : Expr) → get_or names s None ≡ Some name → name.sym ≤ symbols) where
    name_there : (e g : Expr) → renamed names e ≡ Some g → g.sym ≤ symbols
    name_there e g is = moved_there symbols (get_or names e.sym None) e.k g (λ x at. there e.sym x at) is

    cons_there : (found : Option Expr) (rest : List Expr) → ((g : Expr) → found ≡ Some g → g.sym ≤ symbols)
        → AreThere symbols rest → AreThere symbols (cons_option found rest)
    cons_there None rest one all = all
    cons_there (Some g) rest one all = (one g refl, all)

    bound_there : (bound : List Expr) → AreThere symbols (filter_map (renamed names) bound)
    bound_there [] = tt
    bound_there (e ∷ bound) =
        cons_there (renamed names e) (filter_map (renamed names) bound) (λ g is. name_there e g is) (bound_there bound)

    placed_there : {C : Type 0} (bound : List Expr) (grown fresh : List (Segment C)) → AreThere symbols bound
        → AllByRecursion (AreThere symbols) (map (λ segment. segment.upper) grown)
        → AllByRecursion (AreThere symbols) (map (λ segment. segment.upper) fresh)
        → Every
        (λ part. AllByRecursion (AreThere symbols) (map (λ segment. segment.upper) (placed part bound grown fresh)))
    placed_there [] grown fresh own without behind part = without
    placed_there (e ∷ bound) grown fresh own without behind part = (own, behind)

    from_there : {C : Type 0} (hull : C → C → C) (segments : List (Segment C))
        → Every
        (λ held. AllByRecursion (AreThere symbols)
        (map (λ segment. segment.upper) (renamed_from hull (renamed names) held segments)))
    from_there hull [] held = tt
    from_there hull (segment ∷ segments) held =
        placed_there (filter_map (renamed names) segment.upper)
        (renamed_from hull (renamed names) (Some (joined hull held (part_of segment))) segments)
        (renamed_from hull (renamed names) None segments)
        (bound_there segment.upper) (from_there hull segments (Some (joined hull held (part_of segment))))
        (from_there hull segments None)
        (joined hull held (part_of segment))

    one_renamed : (segments : Segments) (e : Expr) → HasForm segments → HasNarrow segments
        → get_or names 0 None ≡ Some zero_expr
        → EndsAs names (last_bound segments) e
        → IsFormed symbols e (renamed_lists hull (renamed names) segments)
    one_renamed segments e form narrow zero_is ends =
        let some : 0 < length (filter_map (renamed names) (last_bound segments)) =
        some_named (last_bound segments) e ends in
        record {
          form =
              renamed_form hull (renamed names) segments form (zero_named zero_is)
              (subst (λ bound. 0 < length (filter_map (renamed names) bound)) (last_bound_is segments form) some);
          ends =
              subst (Has e) (sym (last_renamed hull (renamed names) segments form some))
              (end_named (last_bound segments) e ends);
          named = (bound_there (get_or segments.bounds 0 []), from_there hull (segments_of segments) None);
          narrow = renamed_narrow names segments narrow;
        }

    -- Where each name's symbol is there.
    pub renamed_formed : (contents : Contents) (keys : List Key) (lengths : List Expr) → AllByRecursion HasForm contents
        → AreNarrow contents → get_or names 0 None ≡ Some zero_expr
        → EachEndsAs names contents keys lengths → length lengths ≡ length keys
        → AreFormed symbols lengths (renamed_each names contents keys)
    renamed_formed contents [] [] formed narrow zero_is ends same = tt
    renamed_formed contents [] (e ∷ lengths) formed narrow zero_is ends same = absurd (omega (arith, same))
    renamed_formed contents (key ∷ keys) [] formed narrow zero_is ends same = absurd (omega (arith, same))
    renamed_formed contents (key ∷ keys) (e ∷ lengths) formed narrow zero_is ends same = (
      one_renamed (segments_at contents key.s) e (form_at contents key.s formed) (narrow_at contents key.s narrow)
          zero_is ends.0,
      renamed_formed contents keys lengths formed narrow zero_is ends.1 (omega (arith, same)),
    )
