-- How many edges are computed, where an edge is computed again only when the state of its source has changed.
use Rattle.std.specs.Prelude.{◌≡◌, ◌↔◌, ◌≤◌, ℕ, zero, suc, ◌+◌, Bool, true, false, not, if◌then◌else◌, List, [], ◌∷◌, ◌++◌, map, count_by, Option, Some, None}
use Rattle.std.specs.List.{find}
use Rattle.domain_api.specs.Meter.{after_tick}
use Rattle.widening_engine.specs.Rounds.{Flow, all_unknown, first_inductive, is_inductive, last_round, next, places, round, state_at, widened}

-- The test tells whether two states are equal.
abbrev pub IsEquality : {S : Type 0} → (S → S → Bool) → Type 0
IsEquality {S} equal = (a b : S) → (equal a b ≡ true) ↔ (a ≡ b)

-- ---- the rounds that are made

-- The number of the first round that is inductive, if one up to the last that may be is.
abbrev pub first_stop : {S : Type 0} → Flow S → Option ℕ
first_stop flow = find (λ number. is_inductive flow (round flow number)) (places (last_round flow + 1))

-- The states of the rounds up to this one; where no round is inductive, those of all rounds.
abbrev pub tried : {S : Type 0} → Flow S → Option ℕ → List (List S)
tried flow (Some number) = map (round flow) (places (number + 1))
tried flow None = map (round flow) (places (last_round flow + 1))

-- These are the states of the first inductive round, if one is found, and else those of the last round.
abbrev pub IsTried : {S : Type 0} → Flow S → Bool → List S → Type 0
IsTried flow true states = (number : ℕ) × ((first_stop flow ≡ Some number) × (states ≡ round flow number))
IsTried flow false states = (first_stop flow ≡ None) × (states ≡ round flow (last_round flow))

-- These, and then that nothing is known, where no round is inductive.
abbrev pub sought : {S : Type 0} → Flow S → Option ℕ → List (List S)
sought flow (Some number) = tried flow (Some number)
sought flow None = tried flow None ++ all_unknown flow ∷ []

-- The states that the analysis goes through, in turn: the last of those that are sought are carried on for two plain
-- rounds.
unfoldable pub rounds : {S : Type 0} → Flow S → List (List S)
rounds flow = sought flow (first_stop flow) ++ next flow (first_inductive flow) ∷ next flow (next flow (first_inductive flow)) ∷ []

-- The states a round later, if it widens at heads, and a plain round later.
abbrev pub after_round : {S : Type 0} → Flow S → Bool → List S → List S
after_round flow late states = if late then widened flow states (next flow states) else next flow states

-- ---- the edges that are computed

-- The edge begins in a block whose states are different.
abbrev pub begins_anew : {S : Type 0} → (S → S → Bool) → Flow S → List S → List S → ℕ → Bool
begins_anew equal flow old new edge = not (equal (state_at flow old (flow.source edge)) (state_at flow new (flow.source edge)))

-- How many edges do.
unfoldable pub changes : {S : Type 0} → (S → S → Bool) → Flow S → List S → List S → ℕ
changes equal flow old new = count_by (begins_anew equal flow old new) (places flow.edges)

-- How many do between each two neighbours.
abbrev pub changes_along : {S : Type 0} → (S → S → Bool) → Flow S → List (List S) → ℕ
changes_along equal flow [] = 0
changes_along equal flow (states ∷ []) = 0
changes_along equal flow (old ∷ new ∷ others) = changes equal flow old new + changes_along equal flow (new ∷ others)

-- Each edge is computed once, and then whenever the state of its source has changed from one round to the next.
unfoldable pub work : {S : Type 0} → (S → S → Bool) → Flow S → ℕ
work equal flow = flow.edges + changes_along equal flow (rounds flow)

-- ---- counting them

-- The count after so many more.
abbrev pub after_ticks : ℕ → ℕ → ℕ
after_ticks zero count = count
after_ticks (suc n) count = after_tick (after_ticks n count)

-- The test by which edges are computed again: whether states are equal, or, where every edge is computed in each round,
-- one by which no two are.
abbrev pub IsTestOf : {S : Type 0} → Bool → (S → S → Bool) → Type 0
IsTestOf false equal = IsEquality equal
IsTestOf {S} true equal = (a b : S) → equal a b ≡ false

-- By such a test: the count is that after so many more, or at most so many more.
abbrev pub HasCountedBy : {S : Type 0} → Bool → ((S → S → Bool) → ℕ) → ℕ → ℕ → Type 0
HasCountedBy {S} every more old new = (equal : S → S → Bool) → IsTestOf every equal → new ≡ after_ticks (more equal) old

abbrev pub HasCountedAtMostBy : {S : Type 0} → Bool → ((S → S → Bool) → ℕ) → ℕ → ℕ → Type 0
HasCountedAtMostBy {S} every more old new = (equal : S → S → Bool) → IsTestOf every equal → new ≤ old + more equal
