-- Places that are packed, two bits for each and four in a byte, the lowest bits first.
use Rattle.std.specs.Prelude.{ℕ, ◌/◌, ◌%◌, ◌^◌, List, map, slice_index, ◌==◌, if◌then◌else◌}
use Rattle.std.specs.List.{range_with_len}
use Rattle.cil_model.specs.declared.place.Place.{Place}
use Rattle.cil_model.specs.declared.place.Place.TheVariants.{Bool, Int, Bools, Ints}

-- What two bits of a byte say.
abbrev pub bits_at : ℕ → ℕ → ℕ
bits_at byte slot = byte / 4 ^ slot % 4

-- The place that two bits stand for.
abbrev pub place_of_bits : ℕ → Place
place_of_bits bits =
    if bits == 0 then Bool
    else if bits == 1 then Int
    else if bits == 2 then Bools
    else Ints

unfoldable pub place_at : List ℕ → ℕ → Place
place_at bytes i = place_of_bits (bits_at (slice_index bytes (i / 4)) (i % 4))

-- The first places, this many of them.
abbrev pub places_of : List ℕ → ℕ → List Place
places_of bytes len = map (place_at bytes) (range_with_len 0 len)
