-- Whether stacks lack values, where there are some to take.
use Rattle.std.proofs.Common.{◌≡◌, ℕ, zero, suc, ◌-◌, true, false, List, [], ◌∷◌, refl, sym, sub-one, arith}
use Rattle.std.specs.List.{list_any}
use Rattle.clause_faults.specs.SharedStacks.{Stacks, arrivals_at, differs, lacks}
use Rattle.clause_faults.specs.declared.ways.arrivals.Arrival.{Arrival}
use Rattle.clause_faults.specs.declared.ways.arrivals.Arrival.TheVariants.{Empty, Over}
use Rattle.clause_faults.specs.declared.ways.arrivals.Seen.{Seen}

pub none_lack : (stacks : Stacks) (count : ℕ) (top : Arrival) → count ≡ 0 → lacks count stacks top ≡ false
none_lack stacks zero top none = refl
none_lack stacks (suc count) top none = absurd (omega arith)

pub lack_empty : (stacks : Stacks) (count : ℕ) → (count ≡ 0 → ⊥) → lacks count stacks Empty ≡ true
lack_empty stacks zero some = absurd (some refl)
lack_empty stacks (suc count) some = refl

pub lack_over : (stacks : Stacks) (count : ℕ) (value : Seen) (below : ℕ) → (count ≡ 0 → ⊥)
    → lacks count stacks (Over value below) ≡ list_any (λ top. lacks (count - 1) stacks top) (arrivals_at stacks below)
lack_over stacks zero value below some = absurd (some refl)
lack_over stacks (suc count) value below some = rw sub-one refl

pub differ_empty : (stacks : Stacks) (count : ℕ) → (count ≡ 0 → ⊥) → differs count stacks Empty ≡ true
differ_empty stacks zero some = absurd (some refl)
differ_empty stacks (suc count) some = refl

pub differ_empty_none : (stacks : Stacks) (count : ℕ) → count ≡ 0 → differs count stacks Empty ≡ false
differ_empty_none stacks count none = rw none refl

pub differ_over_none : (stacks : Stacks) (count : ℕ) (value : Seen) (below : ℕ) → count ≡ 0 → differs count stacks (Over value below) ≡ true
differ_over_none stacks count value below none = rw none refl

pub differ_over : (stacks : Stacks) (count : ℕ) (value : Seen) (below : ℕ) → (count ≡ 0 → ⊥)
    → differs count stacks (Over value below) ≡ list_any (λ top. differs (count - 1) stacks top) (arrivals_at stacks below)
differ_over stacks zero value below some = absurd (some refl)
differ_over stacks (suc count) value below some = rw sub-one refl

pub ruleset lacking = (none_lack, lack_empty, lack_over)

pub ruleset differing = (differ_empty, differ_empty_none, differ_over_none, differ_over)

pub none_of_all : (stacks : Stacks) (count : ℕ) (tops : List Arrival) → count ≡ 0 → false ≡ list_any (λ top. lacks count stacks top) tops
none_of_all stacks zero tops none = sym (by tops)
  where
    by : (tops : List Arrival) → list_any (λ top. lacks zero stacks top) tops ≡ false
    by [] = refl
    by (top ∷ tops) = by tops
none_of_all stacks (suc count) tops none = absurd (omega arith)
