-- What is read by a format is spelled where it stands, and what is spelled is read again.
use Rattle.std.proofs.Common.{◌≡◌, ℕ, zero, suc, ◌≤◌, Bool, true, false, List, [], ◌∷◌, ◌++◌, length, drop}
use Rattle.std.proofs.Common.{None, refl, sym, subst, ap, ◌∙◌, append_assoc}
use Rattle.std.specs.List.{flat_map}
use Rattle.cc_base.specs.Tests.{first_of, must}
use Rattle.cc_base.proofs.TestLemmas.{first_of-append_none, first_of-none, first_of-nil, must_hold, none_before}
use Rattle.cc_base.proofs.TestLemmas.{none_behind, none_here}
use Rattle.invariant_codec.specs.Formats.{AllGood, Format, choice, each, in_order, comes_next, last_part, listed, only}
use Rattle.invariant_codec.specs.Formats.{part, tested}
use Rattle.invariant_codec.specs.Parses.{Parse, many}
use Rattle.invariant_codec.specs.declared.fault.InvFault.{InvFault}

-- This value was read, it is one that is spelled, and it is spelled so where it stands.
pub record Taken {X : Type 0} (bytes : List ℕ) (format : Format X) (at : ℕ) : Type 0 where
  pub there : drop at bytes ≡ format.spell (format.read bytes at).value ++ drop (format.read bytes at).next bytes
  pub spelled : format.IsSpelled (format.read bytes at).value

-- A value is read again, and this stands after it.
pub record Again {X : Type 0} (bytes : List ℕ) (parse : Parse X) (x : X) (rest : List ℕ) : Type 0 where
  pub passed : first_of parse.tests ≡ None
  pub value : parse.value ≡ x
  pub after : drop parse.next bytes ≡ rest
  pub inside : parse.next ≤ length bytes

-- Reading and spelling are inverse.
pub record IsExact {X : Type 0} (bytes : List ℕ) (format : Format X) : Type 0 where
  pub taken : (at : ℕ) → first_of (format.read bytes at).tests ≡ None → Taken bytes format at
  pub again : (at : ℕ) (x : X) (rest : List ℕ) → at ≤ length bytes → format.IsSpelled x
      → drop at bytes ≡ format.spell x ++ rest → Again bytes (format.read bytes at) x rest

pub holds : (test : Bool) (fault : InvFault) → must test fault ≡ None → test ≡ true
holds test fault none = (must_hold test fault).0 none

pub one_test : (test : Bool) (fault : InvFault) → test ≡ true → first_of (must test fault ∷ []) ≡ None
one_test test fault e = first_of-none _ [] ((must_hold test fault).1 e) ∙ first_of-nil

-- ---- one part

pub tested_exact : {X : Type 0} (bytes : List ℕ) (test : X → Bool) (format : Format X) → IsExact bytes format
    → IsExact bytes (tested test format)
tested_exact bytes test format exact = record {
  taken = λ at passed.
      let it = format.read bytes at in
      let taken = exact.taken at (none_before it.tests _ passed) in
      record {
        there = taken.there;
        spelled = (
          taken.spelled,
          holds _ _
              (none_here _ [] (none_behind it.tests _ passed)),
        );
      };
  again = λ at x rest before spelled there.
      let it = format.read bytes at in
      let again = exact.again at x rest before spelled.0 there in
      record {
        passed = first_of-append_none it.tests _ again.passed ∙ one_test _ _ (ap test again.value ∙ spelled.1);
        value = again.value;
        after = again.after;
        inside = again.inside;
      };
}

pub only_exact : {X : Type 0} (bytes : List ℕ) (value : X) → IsExact bytes (only value)
only_exact bytes value = record {
  taken = λ at passed. record { there = refl; spelled = refl };
  again = λ at x rest before spelled there. record
      { passed = first_of-nil; value = sym spelled; after = there; inside = before };
}

pub last_exact : {X Y : Type 0} (bytes : List ℕ) (part_of : Y → X) (make : X → Y) (last : Format X) → IsExact bytes last
    → ((x : X) → last.IsSpelled x → part_of (make x) ≡ x) → IsExact bytes (last_part part_of make last)
last_exact bytes part_of make last exact back = record {
  taken = λ at passed.
      let one = last.read bytes at in
      let taken = exact.taken at passed in
      let same = back one.value taken.spelled in
      record {
        there = taken.there ∙ ap (λ x. last.spell x ++ drop one.next bytes) (sym same);
        spelled = (subst (λ x. last.IsSpelled x) (sym same) taken.spelled, ap make (sym same));
      };
  again = λ at y rest before spelled there.
      let again = exact.again at (part_of y) rest before spelled.0 there in
      record {
        passed = again.passed;
        value = ap make again.value
            ∙ sym spelled.1;
        after = again.after;
        inside = again.inside;
      };
}

pub part_exact : {X Y : Type 0} (bytes : List ℕ) (part_of : Y → X) (first : Format X) (rest : X → Format Y)
    → IsExact bytes first
    → ((x : X) → IsExact bytes (rest x)) → ((x : X) (y : Y) → first.IsSpelled x → (rest x).IsSpelled y → part_of y ≡ x)
    → IsExact bytes (part part_of first rest)
part_exact bytes part_of first rest exact exacts same = record {
  taken = λ at passed.
      let one = first.read bytes at in
      let two = (rest one.value).read bytes one.next in
      let head = exact.taken at (none_before one.tests two.tests passed) in
      let tail = (exacts one.value).taken one.next (none_behind one.tests two.tests passed) in
      let e = same one.value two.value head.spelled tail.spelled in
      record {
        there = head.there ∙ ap (λ (t : List ℕ). first.spell one.value ++ t) tail.there
            ∙ sym (append_assoc (first.spell one.value) ((rest one.value).spell two.value) (drop two.next bytes))
            ∙ ap (λ x. (first.spell x ++ (rest x).spell two.value) ++ drop two.next bytes) (sym e);
        spelled = (
          subst (λ x. first.IsSpelled x) (sym e) head.spelled,
          subst (λ x. (rest x).IsSpelled two.value)
              (sym e) tail.spelled,
        );
      };
  again = λ at y after before spelled there.
      let x = part_of y in
      let one = first.read bytes at in
      let head = exact.again at x ((rest x).spell y ++ after) before spelled.0
      (there ∙ append_assoc (first.spell x) ((rest x).spell y) after) in
      let tail = (exacts x).again one.next y after head.inside spelled.1 head.after in
      let e : (rest one.value).read bytes one.next ≡ (rest x).read bytes one.next = ap
      (λ x. (rest x).read bytes one.next) head.value in
      record {
        passed = first_of-append_none one.tests _ head.passed ∙ ap (λ p. first_of p.tests) e ∙ tail.passed;
        value = ap (λ p. p.value) e ∙ tail.value;
        after = ap (λ p. drop p.next bytes) e ∙ tail.after;
        inside = subst (λ p. p.next ≤ length bytes) (sym e) tail.inside;
      };
}

pub choice_exact : {X : Type 0} (bytes : List ℕ) (is : Bool) (one other : Format X) → IsExact bytes one
    → IsExact bytes other → IsExact bytes (choice is one other)
choice_exact bytes true one other exact exact2 = exact
choice_exact bytes false one other exact exact2 = exact2

-- ---- lists

many_taken : {X : Type 0} (bytes : List ℕ) (item : List X → Format X) (spell : X → List ℕ)
    → ((before : List X) → IsExact bytes (item before))
    → ((before : List X) (x : X) → (item before).spell x ≡ spell x) → (count : ℕ) (before : List X) (at : ℕ)
    → first_of (many (λ before. (item before).read bytes) before count at).tests ≡ None
    → (drop at bytes ≡ flat_map spell (many (λ before. (item before).read bytes) before count at).value
    ++ drop (many (λ before. (item before).read bytes) before count at).next bytes)
    × ((length (many (λ before. (item before).read bytes) before count at).value ≡ count)
    × AllGood (λ before. (item before).IsSpelled) before
    (many (λ before. (item before).read bytes) before count at).value)
unfolding many
many_taken bytes item spell exacts same zero before at passed = (refl, (refl, tt))
many_taken bytes item spell exacts same (suc count) before at passed =
    let first = (item before).read bytes at in
    let others = many (λ before. (item before).read bytes) (before ++ first.value ∷ []) count first.next in
    let here = (exacts before).taken at (none_before first.tests others.tests passed) in
    let later = many_taken bytes item spell exacts same count (before ++ first.value ∷ []) first.next
    (none_behind first.tests others.tests passed) in (
      here.there ∙ ap (λ (t : List ℕ). t ++ drop first.next bytes) (same before first.value)
          ∙ ap (λ (t : List ℕ). spell first.value ++ t) later.0
          ∙ sym (append_assoc (spell first.value) (flat_map spell others.value) _),
      (ap suc later.1.0, (here.spelled, later.1.1)),
    )

many_again : {X : Type 0} (bytes : List ℕ) (item : List X → Format X) (spell : X → List ℕ)
    → ((before : List X) → IsExact bytes (item before))
    → ((before : List X) (x : X) → (item before).spell x ≡ spell x) → (before xs : List X) (at : ℕ) (rest : List ℕ)
    → at ≤ length bytes
    → AllGood (λ before. (item before).IsSpelled) before xs → drop at bytes ≡ flat_map spell xs ++ rest
    → Again bytes (many (λ before. (item before).read bytes) before (length xs) at) xs rest
unfolding many
many_again bytes item spell exacts same before [] at rest inside good there = record
    { passed = first_of-nil; value = refl; after = there; inside = inside }
many_again bytes item spell exacts same before (x ∷ xs) at rest inside good there =
    let first = (item before).read bytes at in
    let here = (exacts before).again at x (flat_map spell xs ++ rest) inside good.0
    (there ∙ append_assoc (spell x) (flat_map spell xs) rest
    ∙ ap (λ (t : List ℕ). t ++ (flat_map spell xs ++ rest)) (sym (same before x))) in
    let later = many_again bytes item spell exacts same
    (before ++ x ∷ []) xs first.next rest here.inside good.1 here.after in
    let others = many (λ before. (item before).read bytes) (before ++ first.value ∷ []) (length xs) first.next in
    let e : others ≡ many (λ before. (item before).read bytes) (before ++ x ∷ []) (length xs) first.next =
    ap (λ y. many (λ before. (item before).read bytes) (before ++ y ∷ []) (length xs) first.next) here.value in
    record {
      passed = first_of-append_none first.tests others.tests here.passed ∙ ap (λ parse. first_of parse.tests) e
          ∙ later.passed;
      value = ap (λ parse. first.value ∷ parse.value) e ∙ ap (λ ys. first.value ∷ ys) later.value
          ∙ ap (λ y. y ∷ xs) here.value;
      after = ap (λ parse. drop parse.next bytes) e ∙ later.after;
      inside = subst (λ parse. parse.next ≤ length bytes) (sym e) later.inside;
    }

pub listed_exact : {X : Type 0} (bytes : List ℕ) (item : List X → Format X) (spell : X → List ℕ) (count : ℕ)
    → ((before : List X) → IsExact bytes (item before))
    → ((before : List X) (x : X) → (item before).spell x ≡ spell x) → IsExact bytes (listed item spell count)
listed_exact bytes item spell count exacts same = record {
  taken = λ at passed.
      let taken = many_taken bytes item spell exacts same count [] at passed in
      record { there = taken.0; spelled = taken.1 };
  again = λ at xs rest inside spelled there.
      subst (λ n. Again bytes (many (λ before. (item before).read bytes) [] n at) xs rest) spelled.0
      (many_again bytes item spell exacts same [] xs at rest inside spelled.1 there);
}

pub each_exact : {X : Type 0} (bytes : List ℕ) (item : Format X) (count : ℕ) → IsExact bytes item
    → IsExact bytes (each item count)
each_exact bytes item count exact = listed_exact bytes (λ before. item) item.spell count (λ before. exact)
    (λ before x. refl)

pub order_exact : {X : Type 0} (bytes : List ℕ) (precedes : X → X → Bool) (item : Format X) (count : ℕ)
    → IsExact bytes item → IsExact bytes (in_order precedes item count)
order_exact bytes precedes item count exact =
    listed_exact bytes (λ before. tested (comes_next precedes before) item) item.spell count
    (λ before. tested_exact bytes (comes_next precedes before) item exact) (λ before x. refl)

-- ---- lists after their count

pub counted_exact : {X : Type 0} (bytes : List ℕ) (count : Format ℕ) (items : ℕ → Format (List X))
    → IsExact bytes count → ((n : ℕ) → IsExact bytes (items n))
    → ((n : ℕ) (xs : List X) → (items n).IsSpelled xs → length xs ≡ n) → IsExact bytes (part length count items)
counted_exact bytes count items exact exacts size = part_exact bytes length count items exact exacts
    (λ n xs _ spelled. size n xs spelled)
