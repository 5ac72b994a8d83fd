-- Lists of bytes, and the bytes of a number, of any length.
use Rattle.std.proofs.Common.{Fits, w8, ◌≡◌, ℕ, zero, suc, ◌+◌, ◌*◌, ◌/◌, ◌%◌, ◌^◌, ◌<◌, ◌≤◌, List, [], ◌∷◌, ◌++◌, length, take, drop, slice_index, refl, sym, ap, ap₂, ◌∙◌, div-one, arith, get_or-drop}
use Rattle.std.proofs.Math.Nat.{div-div-eq-div-mul, pow-succ'}
use Rattle.std.proofs.lemmas.List.{length-take-le}
use Rattle.std.specs.Int.{byte_at, bytes_low_first}
use Rattle.byteorder.specs.Endian.{little_number, little_bytes}
use Rattle.byteorder.specs.Numbers.{little_from-cons, little_from-lt, little_from-take, length-bytes_low_first, little_number-reads_back}
use Rattle.cc_base.specs.LittleEndian.{IsBytes}

pub IsBytes-nil : IsBytes []
IsBytes-nil i = omega arith

pub IsBytes-cons : (a : ℕ) (xs : List ℕ) → a < 256 → IsBytes xs → IsBytes (a ∷ xs)
IsBytes-cons a xs h rest zero = h
IsBytes-cons a xs h rest (suc i) = rest i

pub IsBytes-tail : (a : ℕ) (xs : List ℕ) → IsBytes (a ∷ xs) → IsBytes xs
IsBytes-tail a xs h i = h (suc i)

-- What `c.type_inv` says of a slice or a `Vec` of bytes.
pub IsBytes-from_fits : (xs : List ℕ) → ((i : ℕ) → Fits w8 (slice_index xs i)) → IsBytes xs
IsBytes-from_fits xs h i = (h i).fits

pub IsBytes-drop : (n : ℕ) (xs : List ℕ) → IsBytes xs → IsBytes (drop n xs)
IsBytes-drop n xs h i = let e = get_or-drop n xs i 0 in let b = h (n + i) in omega (arith, e, b)

pub IsBytes-take : (n : ℕ) (xs : List ℕ) → IsBytes xs → IsBytes (take n xs)
IsBytes-take zero xs h i = omega arith
IsBytes-take (suc n) [] h i = omega arith
IsBytes-take (suc n) (x ∷ xs) h i = IsBytes-cons x (take n xs) (h 0) (IsBytes-take n xs (IsBytes-tail x xs h)) i

pub IsBytes-append : (xs ys : List ℕ) → IsBytes xs → IsBytes ys → IsBytes (xs ++ ys)
IsBytes-append [] ys h k = k
IsBytes-append (x ∷ xs) ys h k = IsBytes-cons x (xs ++ ys) (h 0) (IsBytes-append xs ys (IsBytes-tail x xs h) k)

pub IsBytes-left : (xs ys : List ℕ) → IsBytes (xs ++ ys) → IsBytes xs
IsBytes-left [] ys h = IsBytes-nil
IsBytes-left (x ∷ xs) ys h = IsBytes-cons x xs (h 0) (IsBytes-left xs ys (IsBytes-tail x (xs ++ ys) h))

pub IsBytes-right : (xs ys : List ℕ) → IsBytes (xs ++ ys) → IsBytes ys
IsBytes-right [] ys h = h
IsBytes-right (x ∷ xs) ys h = IsBytes-right xs ys (IsBytes-tail x (xs ++ ys) h)

byte_at-lt : (k x : ℕ) → byte_at k x < 256
byte_at-lt zero x = omega arith
byte_at-lt (suc k) x = omega arith

IsBytes-bytes_low_first : (j n x : ℕ) → IsBytes (bytes_low_first j n x)
IsBytes-bytes_low_first j zero x = IsBytes-nil
IsBytes-bytes_low_first j (suc n) x =
    IsBytes-cons (byte_at j x) (bytes_low_first (suc j) n x) (byte_at-lt j x) (IsBytes-bytes_low_first (suc j) n x)

-- The bytes of a number are bytes.
pub IsBytes-little_bytes : (n x : ℕ) → IsBytes (little_bytes n x)
IsBytes-little_bytes n x = IsBytes-bytes_low_first 0 n x

-- There are n of them.
pub length-little_bytes : (n x : ℕ) → length (little_bytes n x) ≡ n
length-little_bytes n x = length-bytes_low_first 0 n x

-- A byte of a number, by its index.
byte_at-pow : (k x : ℕ) → byte_at k x ≡ x / 256 ^ k % 256
byte_at-pow zero x = ap (λ (y : ℕ). y % 256) (sym (div-one x))
byte_at-pow (suc k) x = refl

-- The next byte of a number is the byte of what its lowest byte leaves.
byte_at-suc : (j x : ℕ) → byte_at (suc j) x ≡ byte_at j (x / 256)
byte_at-suc j x =
    ap (λ (p : ℕ). x / p % 256) (pow-succ' 256 j)
    ∙ ap (λ (q : ℕ). q % 256) (sym (div-div-eq-div-mul x 256 (256 ^ j)))
    ∙ sym (byte_at-pow j (x / 256))

bytes_low_first-suc : (j n x : ℕ) → bytes_low_first (suc j) n x ≡ bytes_low_first j n (x / 256)
bytes_low_first-suc j zero x = refl
bytes_low_first-suc j (suc n) x = ap₂ (λ (b : ℕ) (bs : List ℕ). b ∷ bs) (byte_at-suc j x) (bytes_low_first-suc (suc j) n x)

-- The bytes of a number: its lowest one, and those of what it leaves.
pub little_bytes-suc : (n a r : ℕ) → a < 256 → little_bytes (suc n) (a + 256 * r) ≡ a ∷ little_bytes n r
little_bytes-suc n a r h =
    let low : (a + 256 * r) % 256 ≡ a = omega arith in
    let high : (a + 256 * r) / 256 ≡ r = omega arith in
    ap₂ (λ (b : ℕ) (bs : List ℕ). b ∷ bs) low
    (bytes_low_first-suc 0 n (a + 256 * r) ∙ ap (λ (x : ℕ). bytes_low_first 0 n x) high)

-- The number in a byte and further ones.
pub little_number-cons : (n a : ℕ) (xs : List ℕ) → little_number (suc n) (a ∷ xs) ≡ a + 256 * little_number n xs
little_number-cons n a xs = ap (λ (r : ℕ). a + 256 * r) (little_from-cons 0 n a xs)

-- From a number to its bytes and back, whatever follows them.
pub number_back : (n x : ℕ) (rest : List ℕ) → x < 256 ^ n → little_number n (little_bytes n x ++ rest) ≡ x
number_back = little_number-reads_back

-- From bytes to their number and back.
pub bytes_back : (bytes : List ℕ) → IsBytes bytes → little_bytes (length bytes) (little_number (length bytes) bytes) ≡ bytes
bytes_back [] h = refl
bytes_back (a ∷ xs) h =
    ap (λ (x : ℕ). little_bytes (suc (length xs)) x) (little_number-cons (length xs) a xs)
    ∙ little_bytes-suc (length xs) a (little_number (length xs) xs) (h 0)
    ∙ ap (λ (bs : List ℕ). a ∷ bs) (bytes_back xs (IsBytes-tail a xs h))

-- The same for the first n bytes of a list.
pub bytes_back-take : (n : ℕ) (bytes : List ℕ) → n ≤ length bytes → IsBytes bytes
    → little_bytes n (little_number n bytes) ≡ take n bytes
bytes_back-take n bytes h isBytes =
    let len : length (take n bytes) ≡ n = length-take-le n bytes h in
    let whole = bytes_back (take n bytes) (IsBytes-take n bytes isBytes) in
    let prefix : little_number n (take n bytes) ≡ little_number n bytes = little_from-take 0 n n bytes (omega arith) in
    ap (λ (x : ℕ). little_bytes n x) (sym prefix)
    ∙ ap (λ (k : ℕ). little_bytes k (little_number k (take n bytes))) (sym len)
    ∙ whole

-- No number of n bytes reaches 256 ^ n.
pub little_number-lt : (n : ℕ) (bytes : List ℕ) → IsBytes bytes → little_number n bytes < 256 ^ n
little_number-lt n bytes h = little_from-lt 0 n bytes h
