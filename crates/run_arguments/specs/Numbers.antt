-- Words that are numbers: each is the decimal text of its number.
use Rattle.std.specs.Prelude.{ℕ, Bool, ◌&&◌, List, ℤ, pos, negsuc, nat_le, int_le, Option, Some, None, if◌then◌else◌, decimal}
use Rattle.std.specs.Fmt.{signed_decimal}
use Rattle.std.specs.Str.{bytes_eq}
use Rattle.std.specs.Str.Parse.{digits_value, signed_digits_value}

-- The number whose decimal text a word is, where it is no more than the most.
unfoldable pub number_of_word : ℕ → List ℕ → Option ℕ
number_of_word most word =
    let n = digits_value 10 word in
    if nat_le n most && bytes_eq word (decimal n) then Some n else None

abbrev pub is_int32 : ℤ → Bool
is_int32 n = int_le (negsuc 2147483647) n && int_le n (pos 2147483647)

-- The int32 whose decimal text a word is, if there is one.
unfoldable pub int_of_word : List ℕ → Option ℤ
int_of_word word =
    let n = signed_digits_value 10 word in
    if is_int32 n && bytes_eq word (signed_decimal n) then Some n else None
