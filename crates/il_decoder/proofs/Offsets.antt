-- The offsets of a switch, four bytes each.
use Rattle.std.proofs.Common.{◌≡◌, ℕ, zero, suc, ◌+◌, ◌*◌, ◌^◌, ◌<◌, ◌≤◌, List, [], ◌∷◌, ◌++◌, length, map, take, drop, append_assoc, refl, ap, sym, ◌∙◌, arith}
use Rattle.std.specs.List.{AllByRecursion}
use Rattle.std.proofs.lemmas.List.{length-append, length-drop, drop-drop, drop_at, take-append-drop}
use Rattle.byteorder.specs.Endian.{little_number, little_bytes}
use Rattle.cc_base.specs.LittleEndian.{IsBytes, u32_at}
use Rattle.cc_base.proofs.ByteLemmas.{IsBytes-drop, length-little_bytes, number_back, bytes_back-take, little_number-lt}
use Rattle.cil_model.specs.Opcodes.{target}
use Rattle.cil_model.specs.Spells.{offset_bytes}
use Rattle.il_decoder.specs.Decoding.{offsets_in}

-- ---- the targets that are read

targets_more : (next n : ℕ) (bytes : List ℕ)
    → map (target next) (offsets_in (suc n) bytes) ≡ map (target next) (offsets_in n bytes) ++ target next (little_number 4 (drop (4 * n) bytes)) ∷ []
targets_more next zero bytes = refl
targets_more next (suc n) bytes =
    let first = target next (little_number 4 bytes) in
    let there : drop (4 * n) (drop 4 bytes) ≡ drop (4 * suc n) bytes = drop-drop (4 * n) 4 bytes ∙ ap (λ (k : ℕ). drop k bytes) (omega arith) in
    ap (λ (ts : List ℕ). first ∷ ts) (targets_more next n (drop 4 bytes)
    ∙ ap (λ (t : List ℕ). map (target next) (offsets_in n (drop 4 bytes)) ++ target next (little_number 4 t) ∷ []) there)

-- One target more, read at its place.
pub target_by_target : (next n : ℕ) (bytes read : List ℕ) → read ≡ map (target next) (offsets_in n bytes)
    → map (target next) (offsets_in (n + 1) bytes) ≡ read ++ target next (u32_at bytes (4 * n)) ∷ []
unfolding u32_at
target_by_target next n bytes read so_far =
    let one : n + 1 ≡ suc n = omega arith in
    rw (so_far, one) (targets_more next n bytes)

-- ---- the offsets in bytes

pub length-offsets_in : (n : ℕ) (bytes : List ℕ) → length (offsets_in n bytes) ≡ n
length-offsets_in zero bytes = refl
length-offsets_in (suc n) bytes = ap suc (length-offsets_in n (drop 4 bytes))

pub offsets_in-small : (n : ℕ) (bytes : List ℕ) → IsBytes bytes → AllByRecursion (λ offset. offset < 2 ^ 32) (offsets_in n bytes)
offsets_in-small zero bytes fits = tt
offsets_in-small (suc n) bytes fits = (little_number-lt 4 bytes fits, offsets_in-small n (drop 4 bytes) (IsBytes-drop 4 bytes fits))

pub length-offset_bytes : (offsets : List ℕ) → length (offset_bytes offsets) ≡ 4 * length offsets
length-offset_bytes [] = refl
length-offset_bytes (offset ∷ offsets) =
    omega (arith, length-append (little_bytes 4 offset) (offset_bytes offsets), length-little_bytes 4 offset, length-offset_bytes offsets)

-- The bytes of the offsets that are in bytes are those bytes.
pub offsets_spelled : (n : ℕ) (bytes : List ℕ) → 4 * n ≤ length bytes → IsBytes bytes
    → offset_bytes (offsets_in n bytes) ++ drop (4 * n) bytes ≡ bytes
offsets_spelled zero bytes enough fits = refl
offsets_spelled (suc n) bytes enough fits =
    let first = little_bytes 4 (little_number 4 bytes) in
    let others = offset_bytes (offsets_in n (drop 4 bytes)) in
    let there : drop (4 * n) (drop 4 bytes) ≡ drop (4 * suc n) bytes = drop-drop (4 * n) 4 bytes ∙ ap (λ (k : ℕ). drop k bytes) (omega arith) in
    let rest : others ++ drop (4 * n) (drop 4 bytes) ≡ drop 4 bytes = offsets_spelled n (drop 4 bytes) (omega (arith, length-drop 4 bytes)) (IsBytes-drop 4 bytes fits) in
    let behind : others ++ drop (4 * suc n) bytes ≡ drop 4 bytes = ap (λ (t : List ℕ). others ++ t) (sym there) ∙ rest in
    let prefix : first ≡ take 4 bytes = bytes_back-take 4 bytes (omega arith) fits in
    append_assoc first others (drop (4 * suc n) bytes) ∙ ap (λ (t : List ℕ). first ++ t) behind ∙ ap (λ (t : List ℕ). t ++ drop 4 bytes) prefix
    ∙ take-append-drop 4 bytes

-- The offsets in the bytes of offsets are those offsets.
pub offsets_back : (offsets more : List ℕ) → AllByRecursion (λ offset. offset < 2 ^ 32) offsets
    → offsets_in (length offsets) (offset_bytes offsets ++ more) ≡ offsets
offsets_back [] more small = refl
offsets_back (offset ∷ offsets) more small =
    let bytes = little_bytes 4 offset in
    let rest = offset_bytes offsets ++ more in
    let split : (bytes ++ offset_bytes offsets) ++ more ≡ bytes ++ rest = append_assoc bytes (offset_bytes offsets) more in
    let first : little_number 4 (bytes ++ rest) ≡ offset = number_back 4 offset rest small.0 in
    let behind : drop 4 (bytes ++ rest) ≡ rest = drop_at bytes rest 4 (length-little_bytes 4 offset) in
    ap (λ (t : List ℕ). offsets_in (suc (length offsets)) t) split ∙ ap (λ (k : ℕ). k ∷ offsets_in (length offsets) (drop 4 (bytes ++ rest))) first
    ∙ ap (λ (t : List ℕ). offset ∷ offsets_in (length offsets) t) behind ∙ ap (λ (t : List ℕ). offset ∷ t) (offsets_back offsets more small.1)
