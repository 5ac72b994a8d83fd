-- Numbers, expressions and ranges: what is read is spelled, and what is spelled is read.
use Rattle.std.proofs.Common.{◌≡◌, ℕ, zero, suc, ◌+◌, ◌%◌, ◌<◌, ◌≤◌, ℤ, Bool, true, false, List, [], ◌∷◌, ◌++◌}
use Rattle.std.proofs.Common.{length, drop, nat_le, slice_index, Option, None, Some, refl, sym, ap, ◌∙◌, arith}
use Rattle.std.specs.Prelude.{◌==◌, ◌&&◌, int_le, is_some}
use Rattle.std.specs.Int.{w32, w64, cast_signed, cast_unsigned}
use Rattle.std.proofs.lemmas.Bool.{leb-true, le-leb}
use Rattle.std.proofs.lemmas.Int.{of_z-to_z}
use Rattle.cc_base.specs.LittleEndian.{IsBytes, little_bytes}
use Rattle.cc_base.specs.Tests.{first_of}
use Rattle.cc_base.proofs.ByteLemmas.{IsBytes-drop, length-little_bytes, little_number-lt}
use Rattle.cc_base.proofs.TestLemmas.{none_here}
use Rattle.domain_api.specs.declared.expr.Expr.{Expr}
use Rattle.interval_domain.specs.Interval.{Interval, interval, is_inside}
use Rattle.invariant_codec.specs.Formats.{each, tested}
use Rattle.invariant_codec.specs.Numbers.{byte, expr, expr_of, flag, flag_number, hole, hole_or_zero, hole_where, int32}
use Rattle.invariant_codec.specs.Numbers.{int64, is_near, is_within, name, near_expr, number, proper_name, range}
use Rattle.invariant_codec.specs.Numbers.{ranges}
use Rattle.invariant_codec.specs.Parses.{field}
use Rattle.invariant_codec.proofs.FormatLaws.{IsExact, choice_exact, counted_exact, each_exact, holds, last_exact}
use Rattle.invariant_codec.proofs.FormatLaws.{one_test, only_exact, part_exact, tested_exact}
use Rattle.invariant_codec.proofs.Stands.{after, byte_read, byte_stands, lies, number_read, number_stands}

field_lies : (bytes : List ℕ) (at size : ℕ) → field bytes at size ≡ None → at + size ≤ length bytes
unfolding field
field_lies bytes at size none = leb-true _ _ (holds _ _ none)

field_inside : (bytes : List ℕ) (at size : ℕ) → at + size ≤ length bytes → first_of (field bytes at size ∷ []) ≡ None
unfolding field
field_inside bytes at size inside = one_test _ _ (le-leb _ _ inside)

-- A byte is its own spelling.
byte_alone : (n : ℕ) → n < 256 → little_bytes 1 n ≡ n ∷ []
byte_alone n small =
    let same : n % 256 ≡ n = omega (arith, small) in
    ap (λ (b : ℕ). b ∷ []) same

pub byte_exact : (bytes : List ℕ) → IsBytes bytes → IsExact bytes byte
unfolding byte
byte_exact bytes fits = record {
  taken = λ at passed.
      let n = slice_index bytes at in
      record {
        there = byte_stands bytes at n (field_lies bytes at 1 (none_here _ [] passed)) refl
            ∙ ap (λ (t : List ℕ). t ++ drop (at + 1) bytes) (sym (byte_alone n (fits at)));
        spelled = fits at;
      };
  again = λ at n rest before small there.
      let stands : drop at bytes ≡ n ∷ rest = there ∙ ap (λ (t : List ℕ). t ++ rest) (byte_alone n small) in
      let inside = lies bytes at (n ∷ []) rest stands (omega arith) in
      record {
        passed = field_inside bytes at 1 inside;
        value = byte_read bytes at n rest stands;
        after = after bytes at (at + 1) (n ∷ []) rest stands refl;
        inside = inside;
      };
}

pub number_exact : (bytes : List ℕ) (width : ℕ) → IsBytes bytes → 0 < width → IsExact bytes (number width)
unfolding number
number_exact bytes width fits some = record {
  taken = λ at passed. record {
    there = number_stands width bytes at _ fits (field_lies bytes at width (none_here _ [] passed)) refl;
    spelled = little_number-lt width (drop at bytes) (IsBytes-drop at bytes fits);
  };
  again = λ at n rest before small there.
      let size = length-little_bytes width n in
      let inside : at + width ≤ length bytes = omega
      (arith, lies bytes at (little_bytes width n) rest there (omega (arith, size, some)), size) in
      record {
        passed = field_inside bytes at width inside;
        value = number_read width bytes at n rest small there;
        after = after bytes at (at + width) (little_bytes width n) rest there (omega (arith, size));
        inside = inside;
      };
}

pub int32_exact : (bytes : List ℕ) → IsBytes bytes → IsExact bytes int32
unfolding int32 number
int32_exact bytes fits = last_exact bytes (cast_unsigned w32) (cast_signed w32) (number 4)
    (number_exact bytes 4 fits (omega arith)) (λ n small. of_z-to_z w32 n small)

pub int64_exact : (bytes : List ℕ) → IsBytes bytes → IsExact bytes int64
unfolding int64 number
int64_exact bytes fits = last_exact bytes (cast_unsigned w64) (cast_signed w64) (number 8)
    (number_exact bytes 8 fits (omega arith)) (λ n small. of_z-to_z w64 n small)

pub both_true : (a b : Bool) → (a && b) ≡ true → (a ≡ true) × (b ≡ true)
both_true true b e = (refl, e)
both_true false b e = absurd (cc)

-- A number that passed the test lies between the two.
pub within : (least most n : ℕ) → is_within least most n ≡ true → (least ≤ n) × (n ≤ most)
within least most n is = let both = both_true (nat_le least n) (nat_le n most) is in
    (leb-true _ _ both.0, leb-true _ _ both.1)

flag_back : (n : ℕ) → n ≤ 1 → flag_number (n == 1) ≡ n
flag_back zero small = refl
flag_back (suc zero) small = refl
flag_back (suc (suc n)) small = absurd (omega (arith, small))

pub flag_exact : (bytes : List ℕ) → IsBytes bytes → IsExact bytes flag
unfolding flag
flag_exact bytes fits =
    last_exact bytes flag_number (λ n. n == 1) (tested (is_within 0 1) byte)
    (tested_exact bytes (is_within 0 1) byte (byte_exact bytes fits))
    (λ n spelled. flag_back n (within 0 1 n spelled.1).1)

-- ---- names and expressions

pub name_exact : (bytes : List ℕ) (count : ℕ) → IsBytes bytes → IsExact bytes (name count)
unfolding name
name_exact bytes count fits = tested_exact bytes _ (number 2) (number_exact bytes 2 fits (omega arith))

pub proper_exact : (bytes : List ℕ) (count : ℕ) → IsBytes bytes → IsExact bytes (proper_name count)
unfolding proper_name
proper_exact bytes count fits = tested_exact bytes _ (number 2) (number_exact bytes 2 fits (omega arith))

pub expr_exact : (bytes : List ℕ) (symbols : ℕ) → IsBytes bytes → IsExact bytes (expr symbols)
unfolding expr
expr_exact bytes symbols fits =
    part_exact bytes (λ e. e.sym) (name symbols) _ (name_exact bytes symbols fits)
    (λ sym. last_exact bytes (λ e. e.k) (expr_of sym) int64 (int64_exact bytes fits) (λ k _. refl))
    (λ sym e _ spelled. ap (λ (e : Expr). e.sym) spelled.1)

pub near_exact : (bytes : List ℕ) (symbols : ℕ) → IsBytes bytes → IsExact bytes (near_expr symbols)
unfolding near_expr
near_exact bytes symbols fits =
    part_exact bytes (λ e. e.sym) (name symbols) _ (name_exact bytes symbols fits)
    (λ sym. last_exact bytes (λ e. e.k) (expr_of sym) (tested is_near int64)
    (tested_exact bytes is_near int64 (int64_exact bytes fits)) (λ k _. refl))
    (λ sym e _ spelled. ap (λ (e : Expr). e.sym) spelled.1)

-- ---- ranges

some_there : (lo hi : ℤ) (is : Bool) (h : Option ℤ) → (hole_where lo hi is).IsSpelled h → is_some h ≡ is
some_there lo hi true h spelled = ap is_some spelled.1
some_there lo hi false h spelled = ap is_some spelled

where_exact : (bytes : List ℕ) (lo hi : ℤ) (is : Bool) → IsBytes bytes → IsExact bytes (hole_where lo hi is)
where_exact bytes lo hi is fits =
    choice_exact bytes is _ _ (last_exact bytes hole_or_zero Some (tested (is_inside lo hi) int32)
    (tested_exact bytes (is_inside lo hi) int32 (int32_exact bytes fits)) (λ h _. refl)) (only_exact bytes None)

hole_exact : (bytes : List ℕ) (lo hi : ℤ) → IsBytes bytes → IsExact bytes (hole lo hi)
unfolding hole
hole_exact bytes lo hi fits = part_exact bytes is_some flag (hole_where lo hi) (flag_exact bytes fits)
    (λ is. where_exact bytes lo hi is fits) (λ is h _ spelled. some_there lo hi is h spelled)

pub range_exact : (bytes : List ℕ) → IsBytes bytes → IsExact bytes range
unfolding range
range_exact bytes fits =
    part_exact bytes (λ r. r.lo) int32 _ (int32_exact bytes fits) (λ lo.
    part_exact bytes (λ r. r.hi) (tested (int_le lo) int32) _
    (tested_exact bytes (int_le lo) int32 (int32_exact bytes fits)) (λ hi.
    last_exact bytes (λ r. r.hole) (interval lo hi) (hole lo hi) (hole_exact bytes lo hi fits) (λ h _. refl))
    (λ hi r _ spelled. ap (λ (r : Interval). r.hi) spelled.1))
    (λ lo r _ spelled. ap (λ (r : Interval). r.lo) spelled.1.1)

pub ranges_exact : (bytes : List ℕ) → IsBytes bytes → IsExact bytes ranges
unfolding ranges
ranges_exact bytes fits = counted_exact bytes (number 2) (each range) (number_exact bytes 2 fits (omega arith))
    (λ n. each_exact bytes range n (range_exact bytes fits)) (λ n xs spelled. spelled.0)
