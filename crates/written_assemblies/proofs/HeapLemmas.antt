-- Items that were packed, each at the offset that is kept of it.
use Rattle.std.proofs.Common.{◌≡◌, ℕ, zero, suc, ◌+◌, ◌<◌, List, [], ◌∷◌, ◌++◌, length, get_or, sym, ap, ◌∙◌, append_assoc, arith, slice_index}
use Rattle.std.specs.List.{flat_map}
use Rattle.std.proofs.lemmas.List.{append-nil, length-append, get_or_at}
use Rattle.asm_writer.specs.Packing.{Packing, pushed, pushed_all, packed, filled}
use Rattle.asm_writer.specs.Padding.{padded}
use Rattle.written_assemblies.specs.Parts.{Stands}
use Rattle.written_assemblies.proofs.PartLemmas.{stands_first, stands_at, stands_whole, stands_within}

-- Where items begin, one after another.
abbrev starts : ℕ → List (List ℕ) → List ℕ
starts at [] = []
starts at (item ∷ items) = at ∷ starts (at + length item) items

pushed_bytes : (p : Packing) (items : List (List ℕ)) → (pushed_all p items).bytes ≡ p.bytes ++ flat_map (λ x. x) items
unfolding pushed_all
pushed_bytes p [] = sym (append-nil p.bytes)
pushed_bytes p (item ∷ items) = pushed_bytes (pushed p item) items ∙ append_assoc p.bytes item (flat_map (λ x. x) items)

pushed_offsets : (p : Packing) (items : List (List ℕ)) → (pushed_all p items).offsets ≡ p.offsets ++ starts (length p.bytes) items
unfolding pushed_all
pushed_offsets p [] = sym (append-nil p.offsets)
pushed_offsets p (item ∷ items) =
    pushed_offsets (pushed p item) items
    ∙ append_assoc p.offsets (length p.bytes ∷ []) (starts (length (p.bytes ++ item)) items)
    ∙ ap (λ (n : ℕ). p.offsets ++ length p.bytes ∷ starts n items) (length-append p.bytes item)

pushed_stands : (p : Packing) (items : List (List ℕ)) (i : ℕ) (item d : List ℕ) → i < length items → get_or items i d ≡ item
    → Stands item (pushed_all p items).bytes (slice_index (pushed_all p items).offsets (length p.offsets + i))
unfolding pushed_all
pushed_stands p [] i item d within is = absurd (omega (arith, within))
pushed_stands p (first ∷ items) zero item d within is =
    let offsets = pushed_offsets p (first ∷ items) in
    let here : slice_index (p.offsets ++ length p.bytes ∷ starts (length p.bytes + length first) items) (length p.offsets + 0) ≡ length p.bytes =
    get_or_at p.offsets (length p.bytes) (starts (length p.bytes + length first) items) 0 (length p.offsets + 0) (omega arith) in
    let at : slice_index (pushed_all p (first ∷ items)).offsets (length p.offsets + 0) ≡ length p.bytes = ap (λ (xs : List ℕ). slice_index xs (length p.offsets + 0)) offsets ∙ here in
    record {
      prefix = p.bytes;
      rest = flat_map (λ x. x) items;
      parts = pushed_bytes p (first ∷ items) ∙ ap (λ (x : List ℕ). p.bytes ++ (x ++ flat_map (λ y. y) items)) is;
      begins = sym at;
    }
pushed_stands p (first ∷ items) (suc i) item d within is =
    let rest = pushed_stands (pushed p first) items i item d (omega (arith, within)) is in
    let length_offsets = length-append p.offsets (length p.bytes ∷ []) in
    let same : length (p.offsets ++ length p.bytes ∷ []) + i ≡ length p.offsets + suc i = omega (arith, length_offsets) in
    stands_at _ _ _ _ (ap (slice_index (pushed_all (pushed p first) items).offsets) same) rest

pub item_stands : (items : List (List ℕ)) (i : ℕ) (item d : List ℕ) → i < length items → get_or items i d ≡ item
    → Stands item (packed items).bytes (slice_index (packed items).offsets i)
unfolding packed
item_stands items i item d within is =
    let same : 0 + i ≡ i = omega arith in
    stands_at _ _ _ _ (ap (slice_index (pushed_all (record { bytes = []; offsets = [] }) items).offsets) same) (pushed_stands (record { bytes = []; offsets = [] }) items i item d within is)

zero_more : (n : ℕ) → 0 + n ≡ n
zero_more n = omega arith

pub item_in_filled : (items : List (List ℕ)) (i : ℕ) (item d : List ℕ) → i < length items → get_or items i d ≡ item
    → Stands item (filled (packed items)).bytes (slice_index (filled (packed items)).offsets i)
unfolding padded
item_in_filled items i item d within is =
    stands_at _ _ _ _ (zero_more _) (stands_within _ _ _ _ _ (item_stands items i item d within is) (stands_first _ _ _ _ (stands_whole (filled (packed items)).bytes)))
