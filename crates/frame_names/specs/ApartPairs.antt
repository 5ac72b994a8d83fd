-- Which new references of two frames that were named together are apart.
use Rattle.std.specs.Prelude.{ℕ, ◌-◌, Bool, true, false, ◌&&◌, List, [], length, if◌then◌else◌}
use Rattle.std.specs.List.{fold, range_with_len}
use Rattle.alias_facts.specs.NullnessOf.{must_differ}
use Rattle.alias_facts.specs.PairsOf.{Pair, contains, ordered, with_pair}
use Rattle.symbolic_values.specs.declared.pairs.Key.{Key}
use Rattle.frame_names.specs.Frames.{are_one_place, nullness_at, place_at}
use Rattle.frame_names.specs.PairedFrames.{old_at}
use Rattle.frame_names.specs.declared.reference.Reference.{Reference}

-- ---- what a state tells

-- Two references of a state cannot be the same array: they are kept apart, their types differ, or one is null.
abbrev pub cannot_be_same : List Reference → List Pair → ℕ → ℕ → Bool
cannot_be_same known pairs r q =
    must_differ (contains pairs (ordered r q)) (are_one_place (place_at known r) (place_at known q))
    (nullness_at known r) (nullness_at known q)

-- Two references of a state are kept apart.
abbrev pub are_kept : List Pair → ℕ → ℕ → Bool
are_kept pairs r q = contains pairs (ordered r q)

-- ---- the pairs of new references

-- One pair more, where the test tells so.
abbrev pub with_test : (ℕ → ℕ → Bool) → ℕ → List Pair → ℕ → List Pair
with_test test higher pairs lower = if test lower higher then with_pair (ordered lower higher) pairs else pairs

-- A reference with each one before it, where the test tells so.
abbrev pub with_row : (ℕ → ℕ → Bool) → List Pair → ℕ → List Pair
with_row test pairs higher = fold (with_test test higher) pairs (range_with_len 1 (higher - 1))

-- Each two references from 1 up to a number, where the test tells so.
abbrev pub pairs_by : (ℕ → ℕ → Bool) → ℕ → List Pair
pairs_by test count = fold (with_row test) [] (range_with_len 1 count)

-- Two new references cannot be the same array on either side.
abbrev pub are_apart_in_both : List Key → List Reference → List Pair → List Reference → List Pair
    → ℕ → ℕ → Bool
are_apart_in_both keys a a_pairs b b_pairs r q =
    cannot_be_same a a_pairs (old_at true keys r) (old_at true keys q)
    && cannot_be_same b b_pairs (old_at false keys r) (old_at false keys q)

abbrev pub joined_apart : List Key → List Reference → List Pair → List Reference → List Pair → List Pair
joined_apart keys a a_pairs b b_pairs = pairs_by (are_apart_in_both keys a a_pairs b b_pairs) (length keys)

-- Two new references were kept apart on the first side.
abbrev pub were_kept : List Key → List Pair → ℕ → ℕ → Bool
were_kept keys pairs r q = are_kept pairs (old_at true keys r) (old_at true keys q)

abbrev pub kept_apart : List Key → List Pair → List Pair
kept_apart keys pairs = pairs_by (were_kept keys pairs) (length keys)
