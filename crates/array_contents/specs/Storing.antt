-- Loads, stores and calls.
use Rattle.std.specs.Prelude.{ℕ, zero, suc, ℤ, Bool, true, List, [], ◌∷◌, get_or, set, Option, Some, None, if◌then◌else◌}
use Rattle.array_segments.specs.Loading.{loaded}
use Rattle.array_segments.specs.SegmentLists.{whole}
use Rattle.array_segments.specs.Storing as segments
use Rattle.domain_api.specs.declared.expr.Expr.{Expr}
use Rattle.interval_domain.specs.Interval.{Interval}
use Rattle.interval_domain.specs.Joins.{full, hull}
use Rattle.array_contents.specs.Contents.{Contents, Segments, of_null, segments_at}
use Rattle.array_contents.specs.declared.forgetting.Unknown.{Unknown}

-- The constant that may be added to one symbol without passing another.
abbrev pub Gaps : Type 0
Gaps = ℕ → ℕ → Option ℤ

-- The hull of the ranges of the segments that may have the item of a reference at an index.
abbrev pub loaded_at : Gaps → Contents → ℕ → Expr → Interval
loaded_at gap contents r at = loaded hull full gap (segments_at contents r) at

-- ---- stores

-- A reference is the array that is stored to.
abbrev pub strongly_at : Gaps → ℕ → Expr → Interval → Contents → Contents
strongly_at gap zero at value contents = contents
strongly_at gap (suc i) at value contents =
    set contents i (segments.strongly_stored hull full gap (get_or contents i of_null) at value)

-- One that may be it, or is another.
abbrev pub weakly_one : Gaps → Expr → Interval → Bool → Segments → Segments
weakly_one gap at value may_be one = if may_be then segments.weakly_stored hull gap one at value else one

abbrev pub weakly_each : Gaps → Expr → Interval → List Bool → Contents → Contents
weakly_each gap at value [] contents = contents
weakly_each gap at value (may_be ∷ others) [] = []
weakly_each gap at value (may_be ∷ others) (one ∷ contents) =
    weakly_one gap at value may_be one ∷ weakly_each gap at value others contents

-- A store to a reference, where these of the others, from reference 1 on, may be the same array.
abbrev pub stored : Gaps → ℕ → Expr → Interval → List Bool → Contents → Contents
stored gap r at value others contents = weakly_each gap at value others (strongly_at gap r at value contents)

-- ---- calls

-- An array may have been changed: of its items the range is known alone.
abbrev pub forgotten_one : Option Unknown → Segments → Segments
forgotten_one None one = one
forgotten_one (Some array) one = whole array.length array.items true

abbrev pub forgotten : List (Option Unknown) → Contents → Contents
forgotten [] contents = contents
forgotten (array ∷ arrays) [] = []
forgotten (array ∷ arrays) (one ∷ contents) = forgotten_one array one ∷ forgotten arrays contents
