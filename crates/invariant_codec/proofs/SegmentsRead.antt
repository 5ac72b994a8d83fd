-- Segments that are read one after another.
use Rattle.std.proofs.Common.{◌≡◌, ℕ, suc, ◌+◌, ◌-◌, ◌<◌, ◌≤◌, List, [], ◌∷◌, ◌++◌, length, None, Some, refl, sym}
use Rattle.std.proofs.Common.{ap, ◌∙◌, subst, arith}
use Rattle.std.specs.Prelude.{◌==◌}
use Rattle.std.proofs.lemmas.List.{map-append}
use Rattle.array_contents.specs.Contents.{Segments}
use Rattle.cc_base.specs.Tests.{first_of}
use Rattle.domain_api.specs.declared.expr.Expr.{Expr}
use Rattle.invariant_codec.specs.Parses.{Parse}
use Rattle.invariant_codec.specs.Segments.{Segment, each_segment, is_last, next_segment, segment, segments_in}
use Rattle.invariant_codec.specs.Segments.{segments_of, with_segment}
use Rattle.invariant_codec.specs.declared.fault.InvFault.{InvFault}
use Rattle.invariant_codec.proofs.Counted.{AreRead, all_read, none_read, read_next, read_fault}
use Rattle.invariant_codec.proofs.SegmentLaws.{joined_again}

-- The reader of the next of so many.
abbrev pub reads : List ℕ → ℕ → Expr → ℕ → List Segment → ℕ → Parse Segment
reads bytes symbols length_is count before = (next_segment symbols length_is count before).read bytes

-- So many are read into these lists, behind the first bound, and from this offset on the rest is left.
pub record AreJoined (bytes : List ℕ) (symbols : ℕ) (length_is : Expr) (count start : ℕ) (first : List Expr)
    (lists : Segments) (i at : ℕ) : Type 0 where
  pub read : AreRead (reads bytes symbols length_is count) count start (segments_in lists) (count - i) at
  pub lists_are : lists ≡ segments_of first (segments_in lists)
  pub size : length (segments_in lists) ≡ i

pub none_joined : (bytes : List ℕ) (symbols : ℕ) (length_is : Expr) (count start : ℕ) (first : List Expr)
    (lists : Segments) → lists ≡ segments_of first []
    → AreJoined bytes symbols length_is count start first lists 0 start
none_joined bytes symbols length_is count start first lists is =
    let whole : count - 0 ≡ count = omega arith in
    subst (λ (l : Segments). AreJoined bytes symbols length_is count start first l 0 start) (sym is) (record {
      read = subst (λ n. AreRead (reads bytes symbols length_is count) count start [] n start) (sym whole)
          (none_read (reads bytes symbols length_is count) count start);
      lists_are = refl;
      size = refl;
    })

-- The lists with one more are those of the segments with one more.
pub joined_with : (first : List Expr) (segments : List Segment) (s : Segment)
    → with_segment (segments_of first segments) s ≡ segments_of first (segments ++ s ∷ [])
joined_with first segments s =
    rw (
      map-append (λ (s : Segment). s.end) segments (s ∷ []),
      map-append (λ (s : Segment). s.content) segments
          (s ∷ []),
      map-append (λ (s : Segment). s.may_be_empty) segments (s ∷ []),
    ) refl

pub joined_next : (bytes : List ℕ) (symbols : ℕ) (length_is : Expr) (count start i at next : ℕ) (first : List Expr)
    (lists more : Segments) (s : Segment) → i < count
    → AreJoined bytes symbols length_is count start first lists i at → more ≡ with_segment lists s
    → first_of ((segment symbols length_is (i + 1 == count)).read bytes at).tests ≡ None
    → s ≡ ((segment symbols length_is (i + 1 == count)).read bytes at).value
    → next ≡ ((segment symbols length_is (i + 1 == count)).read bytes at).next
    → AreJoined bytes symbols length_is count start first more (i + 1) next
joined_next bytes symbols length_is count start i at next first lists more s below before is passed value after =
    let before_it = segments_in lists in
    let same : i + 1 ≡ suc (length before_it) = omega (arith, before.size) in
    let last : (i + 1 == count) ≡ is_last count before_it = ap (λ (n : ℕ). n == count) same in
    let whole : more ≡ segments_of first (before_it ++ s ∷ []) = is
    ∙ ap (λ (l : Segments). with_segment l s) before.lists_are ∙ joined_with first before_it s in
    let again : segments_in more ≡ before_it ++ s ∷ [] = ap segments_in whole ∙ joined_again (before_it ++ s ∷ []) in
    record {
      read = rw again (read_next (reads bytes symbols length_is count) count start i at next before_it s below
          before.read
          (subst (λ b. first_of ((segment symbols length_is b).read bytes at).tests ≡ None) last passed)
          (subst (λ b. s ≡ ((segment symbols length_is b).read bytes at).value) last value)
          (subst (λ b. next ≡ ((segment symbols length_is b).read bytes at).next) last after));
      lists_are = whole ∙ ap (segments_of first) (sym again);
      size = ap length again ∙ one_more before_it s ∙ ap (λ (n : ℕ). n + 1) before.size;
    }
  where
    one_more : (xs : List Segment) (s : Segment) → length (xs ++ s ∷ []) ≡ length xs + 1
    one_more [] s = refl
    one_more (x ∷ xs) s = omega (arith, one_more xs s)

pub joined_fault : (bytes : List ℕ) (symbols : ℕ) (length_is : Expr) (count start i at : ℕ) (first : List Expr)
    (lists : Segments) (fault : InvFault) → i < count
    → AreJoined bytes symbols length_is count start first lists i at
    → first_of ((segment symbols length_is (i + 1 == count)).read bytes at).tests ≡ Some fault
    → first_of ((each_segment symbols length_is count).read bytes start).tests ≡ Some fault
joined_fault bytes symbols length_is count start i at first lists fault below before failed =
    let same : i + 1 ≡ suc (length (segments_in lists)) = omega (arith, before.size) in
    let last : (i + 1 == count) ≡ is_last count (segments_in lists) = ap (λ (n : ℕ). n == count) same in
    read_fault (reads bytes symbols length_is count) count start i at (segments_in lists) fault below before.read
    (subst (λ b. first_of ((segment symbols length_is b).read bytes at).tests ≡ Some fault) last failed)

pub record AllJoined (parse : Parse (List Segment)) (first : List Expr) (lists : Segments) (at : ℕ) : Type 0 where
  pub tests : first_of parse.tests ≡ None
  pub value : lists ≡ segments_of first parse.value
  pub next : at ≡ parse.next

pub joined_all : (bytes : List ℕ) (symbols : ℕ) (length_is : Expr) (count start i at : ℕ) (first : List Expr)
    (lists : Segments) → count ≤ i
    → AreJoined bytes symbols length_is count start first lists i at
    → AllJoined ((each_segment symbols length_is count).read bytes start) first lists at
joined_all bytes symbols length_is count start i at first lists past before =
    let all = all_read (reads bytes symbols length_is count) count start i at (segments_in lists) past before.read in
    record { tests = all.tests; value = before.lists_are ∙ ap (segments_of first) all.value; next = all.next }

pub ruleset all_segments = (none_joined, joined_all)
