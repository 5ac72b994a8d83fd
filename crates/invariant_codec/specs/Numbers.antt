-- Numbers of a fixed size, flags, expressions and ranges.
use Rattle.std.specs.Prelude.{ℕ, ◌+◌, ◌^◌, ◌<◌, ◌==◌, Bool, ◌&&◌, nat_le, ℤ, pos, negsuc, int_le, List, [], ◌∷◌}
use Rattle.std.specs.Prelude.{drop, length, slice_index, Option, Some, None, is_some, unwrap_or, if◌then◌else◌}
use Rattle.std.specs.Int.{w32, w64, cast_signed, cast_unsigned}
use Rattle.cc_base.specs.LittleEndian.{little_bytes, little_number}
use Rattle.domain_api.specs.declared.expr.Expr.{Expr}
use Rattle.interval_domain.specs.Interval.{Interval, interval, is_inside}
use Rattle.invariant_codec.specs.Formats.{Format, choice, each, last_part, only, part, tested}
use Rattle.invariant_codec.specs.Parses.{field}

-- ---- numbers

unfoldable pub byte : Format ℕ
byte = record {
  read = λ bytes at. record { tests = field bytes at 1 ∷ []; value = slice_index bytes at; next = at + 1 };
  spell = little_bytes 1;
  IsSpelled = λ n. n < 256;
}

-- A number of so many bytes, low byte first.
unfoldable pub number : ℕ → Format ℕ
number width = record {
  read = λ bytes at. record {
    tests = field bytes at width ∷ [];
    value = little_number width (drop at bytes);
    next = at + width;
  };
  spell = little_bytes width;
  IsSpelled = λ n. n < 256 ^ width;
}

unfoldable pub int32 : Format ℤ
int32 = last_part (cast_unsigned w32) (cast_signed w32) (number 4)

unfoldable pub int64 : Format ℤ
int64 = last_part (cast_unsigned w64) (cast_signed w64) (number 8)

-- A number from a least to a greatest one.
abbrev pub is_within : ℕ → ℕ → ℕ → Bool
is_within least most n = nat_le least n && nat_le n most

-- A byte that is 1 where something is so, and else 0.
abbrev pub flag_number : Bool → ℕ
flag_number is = if is then 1 else 0

unfoldable pub flag : Format Bool
flag = last_part flag_number (λ n. n == 1) (tested (is_within 0 1) byte)

-- ---- expressions

-- The number of a symbol or of a reference, which may be 0, where there are so many.
unfoldable pub name : ℕ → Format ℕ
name count = tested (λ n. nat_le n count) (number 2)

-- One from 1 on.
unfoldable pub proper_name : ℕ → Format ℕ
proper_name count = tested (is_within 1 count) (number 2)

abbrev pub expr_of : ℕ → ℤ → Expr
expr_of sym k = record { sym = sym; k = k }

-- An expression, where there are so many symbols.
unfoldable pub expr : ℕ → Format Expr
expr symbols = part (λ e. e.sym) (name symbols) (λ sym. last_part (λ e. e.k) (expr_of sym) int64)

abbrev pub is_near : ℤ → Bool
is_near k = int_le (negsuc 4294967295) k && int_le k (pos 4294967296)

-- One whose constant is one of -2^32 to 2^32, as that of a variable or a length is.
unfoldable pub near_expr : ℕ → Format Expr
near_expr symbols = part (λ e. e.sym) (name symbols) (λ sym. last_part (λ e. e.k) (expr_of sym) (tested is_near int64))

-- ---- ranges

abbrev pub hole_or_zero : Option ℤ → ℤ
hole_or_zero hole = unwrap_or hole (pos 0)

-- A number strictly between these two.
abbrev pub inner : ℤ → ℤ → Format ℤ
inner lo hi = tested (is_inside lo hi) int32

-- The hole of a range between these ends, where it has one.
abbrev pub hole_where : ℤ → ℤ → Bool → Format (Option ℤ)
hole_where lo hi is = choice is (last_part hole_or_zero Some (inner lo hi)) (only None)

unfoldable pub hole : ℤ → ℤ → Format (Option ℤ)
hole lo hi = part is_some flag (hole_where lo hi)

-- A range of numbers of 32 bits: its lowest, its highest and its hole.
unfoldable pub range : Format Interval
range =
    part (λ r. r.lo) int32 (λ lo.
    part (λ r. r.hi) (tested (int_le lo) int32) (λ hi.
    last_part (λ r. r.hole) (interval lo hi) (hole lo hi)))

-- The ranges of symbols, after their count.
unfoldable pub ranges : Format (List Interval)
ranges = part length (number 2) (each range)
