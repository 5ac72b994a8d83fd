-- Packed places: one among them, and one more.
use Rattle.std.proofs.Common.{◌≡◌, ℕ, zero, suc, ◌+◌, ◌*◌, ◌/◌, ◌%◌, ◌<◌, List, [], ◌∷◌, ◌++◌, length, map, set, get_or, Some, refl, sym, ap, ap₂, ◌∙◌, inl, inr, arith, get_or-set_same, get_or-set_other}
use Rattle.std.specs.List.{range_with_len, slice_get}
use Rattle.std.specs.Prelude.{take, unwrap_or}
use Rattle.std.proofs.lemmas.Bool.{cases_eq}
use Rattle.std.proofs.lemmas.List.{take_more, take_all}
use Rattle.std.proofs.lemmas.Option.{slice_get_past, slice_get_within, unwrap_or-slice_get}
use Rattle.std.proofs.lemmas.List.FromFn.{map-range_with_len_more, length-map-range_with_len}
use Rattle.cil_model.specs.declared.place.Place.{Place}
use Rattle.signature_blobs.specs.Places.{bits_at, place_of_bits, place_at, places_of}

-- A place of an index.
get-map : {X : Type 0} (f : ℕ → X) (a n i : ℕ) → i < n → slice_get (map f (range_with_len a n)) i ≡ Some (f (a + i))
get-map f a zero i lt = absurd (omega arith)
get-map f a (suc n) zero lt = ap (λ k. Some (f k)) (omega arith)
get-map f a (suc n) (suc i) lt = get-map f (a + 1) n i (omega arith) ∙ ap (λ k. Some (f k)) (omega arith)

pub places-get : (bytes : List ℕ) (len i : ℕ) → i < len → slice_get (places_of bytes len) i ≡ Some (place_at bytes i)
places-get bytes len i lt = get-map (place_at bytes) 0 len i lt ∙ ap (λ k. Some (place_at bytes k)) (omega arith)

same-map : {X : Type 0} (f g : ℕ → X) (a n : ℕ) → ((k : ℕ) → k < a + n → f k ≡ g k) → map f (range_with_len a n) ≡ map g (range_with_len a n)
same-map f g a zero same = refl
same-map f g a (suc n) same =
    ap₂ (λ x xs. x ∷ xs) (same a (omega arith)) (same-map f g (a + 1) n (λ k lt. same k (omega arith)))

-- A place after the last.
pub places-push : (bytes : List ℕ) (len byte bits : ℕ) (place : Place) → len / 4 < length bytes
    → bits_at byte (len % 4) ≡ bits → place_of_bits bits ≡ place
    → ((k : ℕ) → k < len % 4 → bits_at byte k ≡ bits_at (get_or bytes (len / 4) 0) k)
    → places_of (set bytes (len / 4) byte) (len + 1) ≡ places_of bytes len ++ place ∷ []
unfolding place_at
places-push bytes len byte bits place there written is below =
    let new = set bytes (len / 4) byte in
    let here : get_or new (len / 4) 0 ≡ byte = get_or-set_same bytes (len / 4) byte 0 there in
    let last : place_at new len ≡ place = ap (λ b. place_of_bits (bits_at b (len % 4))) here ∙ ap place_of_bits written ∙ is in
    let kept : (k : ℕ) → k < 0 + len → place_at new k ≡ place_at bytes k = (λ k lt.
    elim (cases_eq (k / 4) (len / 4)) [
      | inl same ↦
          let low : k % 4 < len % 4 = omega arith in
          rw (same, here, below (k % 4) low) refl
      | inr differs ↦ ap (λ b. place_of_bits (bits_at b (k % 4))) (get_or-set_other bytes (len / 4) (k / 4) byte 0 differs)
    ]) in
    map-range_with_len_more (place_at new) 0 len len (omega arith)
    ∙ ap₂ (λ xs x. xs ++ x ∷ []) (same-map (place_at new) (place_at bytes) 0 len kept) last

pub places-length : (bytes : List ℕ) (len : ℕ) → length (places_of bytes len) ≡ len
places-length bytes len = length-map-range_with_len (place_at bytes) 0 len

-- The bits below a slot, where a byte is cut there.
pub bits-two : (byte bits k : ℕ) → k < 2 → bits_at (byte % 16 + 16 * bits) k ≡ bits_at byte k
bits-two byte bits zero lt = omega arith
bits-two byte bits (suc zero) lt = omega arith
bits-two byte bits (suc (suc k)) lt = absurd (omega arith)

pub bits-three : (byte bits k : ℕ) → k < 3 → bits_at (byte % 64 + 64 * bits) k ≡ bits_at byte k
bits-three byte bits zero lt = omega arith
bits-three byte bits (suc zero) lt = omega arith
bits-three byte bits (suc (suc zero)) lt = omega arith
bits-three byte bits (suc (suc (suc k))) lt = absurd (omega arith)

-- One more item of a list, as a loop copies it.
pub take-get : {X : Type 0} (xs : List X) (i : ℕ) (x : X) → slice_get xs i ≡ Some x → take (i + 1) xs ≡ take i xs ++ x ∷ []
take-get xs i x e =
    take_more xs i x (slice_get_within xs i x e)
    ∙ ap (λ item. take i xs ++ item ∷ []) (sym (unwrap_or-slice_get xs i x) ∙ ap (λ item. unwrap_or item x) e)

pub ruleset packed = (slice_get_past, take-get, take_all, places-get, places-push, places-length, bits-two, bits-three)
