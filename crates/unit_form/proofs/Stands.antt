-- What stands in a file from an offset on.
use Rattle.std.proofs.Common.{◌≡◌, ℕ, ◌+◌, ◌*◌, ◌^◌, ◌<◌, ◌≤◌, List, [], ◌∷◌, ◌++◌, length, take, drop, slice_index, refl, sym, ap, ◌∙◌, arith, length-append, length-drop, get_or-drop, drop-drop, drop_at}
use Rattle.std.proofs.lemmas.List.{take-append-drop, drop_more}
use Rattle.byteorder.specs.Endian.{little_number, little_bytes}
use Rattle.cc_base.specs.LittleEndian.{IsBytes}
use Rattle.cc_base.proofs.ByteLemmas.{IsBytes-drop, little_bytes-suc, number_back, bytes_back-take}

-- Behind a part that stands there the rest does.
pub behind : (bytes : List ℕ) (at next : ℕ) (part rest : List ℕ) → drop at bytes ≡ part ++ rest → next ≡ at + length part → drop next bytes ≡ rest
behind bytes at next part rest there e = rw e (sym (drop-drop (length part) at bytes) ∙ ap (drop (length part)) there ∙ drop_at part rest (length part) refl)

-- A part that stands there lies in the file.
pub lies : (bytes : List ℕ) (at : ℕ) (part rest : List ℕ) → drop at bytes ≡ part ++ rest → 0 < length part → at + length part ≤ length bytes
lies bytes at part rest there some = omega (arith, ap length there, length-append part rest, length-drop at bytes)

-- A byte that is read stands there, and one that stands there is read.

pub byte_stands : (bytes : List ℕ) (at b : ℕ) → at + 1 ≤ length bytes → slice_index bytes at ≡ b → drop at bytes ≡ b ∷ drop (at + 1) bytes
byte_stands bytes at b inside e =
    let below : at < length bytes = omega arith in
    rw (← e) (drop_more bytes at 0 below)

pub byte_read : (bytes : List ℕ) (at b : ℕ) (rest : List ℕ) → drop at bytes ≡ b ∷ rest → slice_index bytes at ≡ b
byte_read bytes at b rest there =
    let place : at ≡ at + 0 = omega arith in
    ap (λ (k : ℕ). slice_index bytes k) place ∙ sym (get_or-drop at bytes 0 0) ∙ ap (λ (t : List ℕ). slice_index t 0) there

-- One byte spells a number that is below 256.
pub byte_of : (b : ℕ) → b < 256 → little_bytes 1 b ≡ b ∷ []
byte_of b small =
    let same : b ≡ b + 256 * 0 = omega arith in
    ap (little_bytes 1) same ∙ little_bytes-suc 0 b 0 small

-- So are numbers.

pub number_stands : (width : ℕ) (bytes : List ℕ) (at n : ℕ) → IsBytes bytes → at + width ≤ length bytes → little_number width (drop at bytes) ≡ n
    → drop at bytes ≡ little_bytes width n ++ drop (at + width) bytes
number_stands width bytes at n fits inside e =
    let prefix : little_bytes width n ≡ take width (drop at bytes) =
    ap (little_bytes width) (sym e) ∙ bytes_back-take width (drop at bytes) (omega (arith, length-drop at bytes)) (IsBytes-drop at bytes fits) in
    sym (rw prefix (ap (λ (t : List ℕ). take width (drop at bytes) ++ t) (sym (drop-drop width at bytes)) ∙ take-append-drop width (drop at bytes)))

pub number_read : (width : ℕ) (bytes : List ℕ) (at n : ℕ) (rest : List ℕ) → n < 256 ^ width → drop at bytes ≡ little_bytes width n ++ rest
    → little_number width (drop at bytes) ≡ n
number_read width bytes at n rest below there = ap (little_number width) there ∙ number_back width n rest below
