-- Items that are packed one after another.
use Rattle.std.proofs.Common.{◌≡◌, ℕ, List, [], ◌∷◌, ◌++◌}
use Rattle.std.proofs.lemmas.List.Sums.{fold-append}
use Rattle.asm_writer.specs.Packing.{Packing, pushed, pushed_all, packed}

-- What is packed first, and what is packed after it.
pub packed_first : (none some : Packing) (xs : List (List ℕ)) → none ≡ packed [] → some ≡ pushed_all none xs → some ≡ packed xs
unfolding packed pushed_all
packed_first none some xs p q = cc

pub packed_more : (some all : Packing) (xs ys : List (List ℕ)) → some ≡ packed xs → all ≡ pushed_all some ys → all ≡ packed (xs ++ ys)
unfolding packed pushed_all
packed_more some all xs ys p q =
    let both = fold-append pushed (record { bytes = []; offsets = [] }) xs ys in
    cc

-- One more item.
pub packed_one : (packing : Packing) (xs : List (List ℕ)) (x : List ℕ) → packing ≡ packed xs → pushed packing x ≡ packed (xs ++ x ∷ [])
unfolding packed pushed_all
packed_one packing xs x so_far =
    let one = fold-append pushed (record { bytes = []; offsets = [] }) xs (x ∷ []) in
    cc
