-- What a sink was given.
use Rattle.std.specs.Prelude.{◌≡◌, ℕ, zero, suc, List, ◌++◌, Option, option_map}
use Rattle.cc_base.specs.Counts.{count_up}

-- What is told of a sink after these bytes were appended.
abbrev pub appended : Option (List ℕ) → List ℕ → Option (List ℕ)
appended told bytes = option_map (λ written. written ++ bytes) told

-- The first list is a prefix of the second.
abbrev pub IsPrefix : List ℕ → List ℕ → Type 0
IsPrefix prefix whole = (rest : List ℕ) × (whole ≡ prefix ++ rest)

-- A prefix of the bytes was appended.
abbrev pub AppendsPrefix : Option (List ℕ) → Option (List ℕ) → List ℕ → Type 0
AppendsPrefix old new bytes = (prefix : List ℕ) × IsPrefix prefix bytes × (new ≡ appended old prefix)

-- What is told of the count of puts after so many more.
abbrev pub counted : ℕ → Option ℕ → Option ℕ
counted zero told = told
counted (suc more) told = counted more (option_map count_up told)
