-- Rounds that are gone through, one after another, and how much work they were.
use Rattle.std.proofs.Common.{◌≡◌, ℕ, ◌+◌, ◌<◌, ◌≤◌, nat_le, Bool, true, false, List, [], ◌∷◌, Option, Some, None, refl, sym, ap, ◌∙◌, arith}
use Rattle.std.specs.List.{find}
use Rattle.widening_engine.specs.Kept.{IsKept, states_of}
use Rattle.widening_engine.specs.Rounds.{Flow, all_unknown, first_inductive, is_inductive, last_round, never_reached, next, places, round}
use Rattle.widening_engine.specs.Work.{HasCountedAtMostBy, HasCountedBy, IsTried, after_round, after_ticks, changes, changes_along, first_stop, sought, tried, work}
use Rattle.widening_engine.specs.declared.kept.Kept.{Kept}
use Rattle.widening_engine.proofs.Counting.{ticks_add, ticks_most}
use Rattle.widening_engine.proofs.Working.{changes_up_to, first_by_number, none_step, round_more, some_step, sought_most, sought_none, up_to_more, up_to_tried, work_is}

-- These are the states of the round of this number, no round before is inductive, and the count rose by the changes so
-- far.
pub record AreSought {S : Type 0} (flow : Flow S) (fits : ℕ → S → Type 0) (every : Bool) (first number : ℕ) (kept : Kept S) (count : ℕ) : Type 0 where
  pub is_kept : IsKept flow fits kept
  pub is : states_of kept.blocks.items ≡ round flow number
  pub before : find (λ n. is_inductive flow (round flow n)) (places number) ≡ None
  pub ticked : HasCountedBy every (λ equal. changes_up_to equal flow number) first count

module _ {S : Type 0} (flow : Flow S) (fits : ℕ → S → Type 0) (every : Bool) (first : ℕ) where
  pub sought_first : (kept : Kept S) → IsKept flow fits kept → states_of kept.blocks.items ≡ never_reached flow → AreSought flow fits every first 0 kept first
  unfolding round
  sought_first kept is_kept are = record {
    is_kept = is_kept;
    is = are;
    before = refl;
    ticked = λ equal tells. refl;
  }

  module _ (number : ℕ) (kept : Kept S) (count : ℕ) (so_far : AreSought flow fits every first number kept count) where
    -- The same states again.
    pub sought_same : (new : Kept S) → IsKept flow fits new → new.blocks.items ≡ kept.blocks.items → AreSought flow fits every first number new count
    sought_same new is_kept same = record {
      is_kept = is_kept;
      is = ap states_of same ∙ so_far.is;
      before = so_far.before;
      ticked = so_far.ticked;
    }

    -- One more round.
    pub sought_more : (new : Kept S) (later : ℕ) → is_inductive flow (states_of kept.blocks.items) ≡ false → IsKept flow fits new
        → states_of new.blocks.items ≡ after_round flow (nat_le 3 (number + 1)) (states_of kept.blocks.items)
        → HasCountedBy every (λ equal. changes equal flow (states_of kept.blocks.items) (after_round flow (nat_le 3 (number + 1)) (states_of kept.blocks.items))) count later
        → AreSought flow fits every first (number + 1) new later
    sought_more new later not is_kept are ticked = record {
      is_kept = is_kept;
      is = are ∙ ap (after_round flow (nat_le 3 (number + 1))) so_far.is ∙ round_more flow number;
      before = none_step (λ n. is_inductive flow (round flow n)) number so_far.before (ap (is_inductive flow) (sym so_far.is) ∙ not);
      ticked = λ equal tells.
          ticked equal tells
          ∙ (λ i. after_ticks (changes equal flow (so_far.is i) (after_round flow (nat_le 3 (number + 1)) (so_far.is i))) (so_far.ticked equal tells i))
          ∙ ap (λ (states : List S). after_ticks (changes equal flow (round flow number) states) (after_ticks (changes_up_to equal flow number) first)) (round_more flow number)
          ∙ sym (ticks_add (changes_up_to equal flow number) (changes equal flow (round flow number) (round flow (number + 1))) first)
          ∙ ap (λ (n : ℕ). after_ticks n first) (sym (up_to_more equal flow number));
    }

    -- So far the count is within that of all rounds that are tried.
    pub within : number ≤ last_round flow → HasCountedAtMostBy every (λ equal. changes_along equal flow (tried flow (first_stop flow))) first count
    within h equal tells =
        let ticked = so_far.ticked equal tells in
        omega (arith, ticked, ticks_most (changes_up_to equal flow number) first, up_to_tried equal flow number so_far.before h)

    -- And so it is in one more round, also where that is cut off.
    pub within_more : (later : ℕ) → number < last_round flow → is_inductive flow (states_of kept.blocks.items) ≡ false
        → HasCountedAtMostBy every (λ equal. changes equal flow (states_of kept.blocks.items) (after_round flow (nat_le 3 (number + 1)) (states_of kept.blocks.items))) count later
        → HasCountedAtMostBy every (λ equal. changes_along equal flow (tried flow (first_stop flow))) first later
    within_more later h not most equal tells =
        let ticked = so_far.ticked equal tells in
        let none = none_step (λ n. is_inductive flow (round flow n)) number so_far.before (ap (is_inductive flow) (sym so_far.is) ∙ not) in
        let more : changes equal flow (states_of kept.blocks.items) (after_round flow (nat_le 3 (number + 1)) (states_of kept.blocks.items)) ≡ changes equal flow (round flow number) (round flow (number + 1)) =
        (λ i. changes equal flow (so_far.is i) (after_round flow (nat_le 3 (number + 1)) (so_far.is i))) ∙ ap (changes equal flow (round flow number)) (round_more flow number) in
        let rise = most equal tells in
        omega (arith, rise, more, ticked, ticks_most (changes_up_to equal flow number) first, up_to_more equal flow number, up_to_tried equal flow (number + 1) none (omega (arith, h)))

    stop : number < last_round flow + 1 → is_inductive flow (states_of kept.blocks.items) ≡ true → first_stop flow ≡ Some number
    stop h passes = some_step (λ n. is_inductive flow (round flow n)) number (last_round flow + 1) h so_far.before (ap (is_inductive flow) (sym so_far.is) ∙ passes)

    pub tried_found : number < last_round flow + 1 → is_inductive flow (states_of kept.blocks.items) ≡ true → IsTried flow true (states_of kept.blocks.items)
    tried_found h passes = (number, (stop h passes, so_far.is))

    pub ticked_found : number < last_round flow + 1 → is_inductive flow (states_of kept.blocks.items) ≡ true
        → HasCountedBy every (λ equal. changes_along equal flow (tried flow (first_stop flow))) first count
    ticked_found h passes equal tells =
        so_far.ticked equal tells ∙ ap (λ (o : Option ℕ). after_ticks (changes_along equal flow (tried flow o)) first) (sym (stop h passes))

  -- After the last round.
  module _ (kept : Kept S) (count : ℕ) (so_far : AreSought flow fits every first (last_round flow) kept count) where
    never : is_inductive flow (states_of kept.blocks.items) ≡ false → first_stop flow ≡ None
    never not = none_step (λ n. is_inductive flow (round flow n)) (last_round flow) so_far.before (ap (is_inductive flow) (sym so_far.is) ∙ not)

    pub tried_last : (found : Bool) → found ≡ is_inductive flow (states_of kept.blocks.items) → IsTried flow found (states_of kept.blocks.items)
    tried_last true is = tried_found (last_round flow) kept count so_far (omega arith) (sym is)
    tried_last false is = (never (sym is), so_far.is)

    pub ticked_last : (found : Bool) → found ≡ is_inductive flow (states_of kept.blocks.items) → HasCountedBy every (λ equal. changes_along equal flow (tried flow (first_stop flow))) first count
    ticked_last true is = ticked_found (last_round flow) kept count so_far (omega arith) (sym is)
    ticked_last false is = λ equal tells. so_far.ticked equal tells ∙ ap (λ (o : Option ℕ). after_ticks (changes_along equal flow (tried flow o)) first) (sym (never (sym is)))

pub at_most : {S : Type 0} (every : Bool) (more : (S → S → Bool) → ℕ) (old new : ℕ) → HasCountedBy every more old new → HasCountedAtMostBy every more old new
at_most every more old new ticked equal tells = let e = ticked equal tells in omega (arith, e, ticks_most (more equal) old)

-- ---- what is found, or that nothing is known

module _ {S : Type 0} (flow : Flow S) (every : Bool) (first : ℕ) where
  pub found_states : (states : List S) → IsTried flow true states → states ≡ first_inductive flow
  found_states states (number, (stop, is)) = is ∙ sym (first_by_number flow (Some number) stop)

  pub found_ticked : (states : List S) (count : ℕ) → IsTried flow true states → HasCountedBy every (λ equal. changes_along equal flow (tried flow (first_stop flow))) first count
      → HasCountedBy every (λ equal. changes_along equal flow (sought flow (first_stop flow))) first count
  found_ticked states count (number, (stop, is)) ticked equal tells =
      ticked equal tells ∙ ap (λ (o : Option ℕ). after_ticks (changes_along equal flow (tried flow o)) first) stop
      ∙ sym (ap (λ (o : Option ℕ). after_ticks (changes_along equal flow (sought flow o)) first) stop)

  pub tried_most : (count : ℕ) → HasCountedAtMostBy every (λ equal. changes_along equal flow (tried flow (first_stop flow))) first count
      → HasCountedAtMostBy every (λ equal. changes_along equal flow (sought flow (first_stop flow))) first count
  tried_most count most equal tells = let h = most equal tells in omega (arith, h, sought_most equal flow)

  pub unknown_first : (states after : List S) → IsTried flow false states → after ≡ all_unknown flow → after ≡ first_inductive flow
  unknown_first states after last are = are ∙ sym (first_by_number flow None last.0)

  pub unknown_ticked : (states : List S) (count later : ℕ) → IsTried flow false states → HasCountedBy every (λ equal. changes_along equal flow (tried flow (first_stop flow))) first count
      → HasCountedBy every (λ equal. changes equal flow states (all_unknown flow)) count later → HasCountedBy every (λ equal. changes_along equal flow (sought flow (first_stop flow))) first later
  unknown_ticked states count later last ticked more equal tells =
      more equal tells ∙ (λ i. after_ticks (changes equal flow (last.1 i) (all_unknown flow)) (ticked equal tells i))
      ∙ sym (ticks_add (changes_along equal flow (tried flow (first_stop flow))) (changes equal flow (round flow (last_round flow)) (all_unknown flow)) first)
      ∙ ap (λ (n : ℕ). after_ticks n first) (sym (sought_none equal flow last.0))

  pub unknown_most : (states : List S) (count later : ℕ) → IsTried flow false states → HasCountedBy every (λ equal. changes_along equal flow (tried flow (first_stop flow))) first count
      → HasCountedAtMostBy every (λ equal. changes equal flow states (all_unknown flow)) count later → HasCountedAtMostBy every (λ equal. changes_along equal flow (sought flow (first_stop flow))) first later
  unknown_most states count later last ticked more equal tells =
      let rise = more equal tells in
      let so_far = ticked equal tells in
      let here : changes equal flow states (all_unknown flow) ≡ changes equal flow (round flow (last_round flow)) (all_unknown flow) = ap (λ (s : List S). changes equal flow s (all_unknown flow)) last.1 in
      omega (arith, rise, so_far, here, ticks_most (changes_along equal flow (tried flow (first_stop flow))) first, sought_none equal flow last.0)

-- ---- two rounds later

module _ {S : Type 0} (flow : Flow S) (every : Bool) (states : List S) (first : ℕ) where
  abbrev pub both : (S → S → Bool) → ℕ
  both equal = changes_along equal flow (states ∷ next flow states ∷ next flow (next flow states) ∷ [])

  pub once_most : (count : ℕ) → HasCountedAtMostBy every (λ equal. changes equal flow states (next flow states)) first count → HasCountedAtMostBy every both first count
  once_most count most equal tells = let h = most equal tells in omega (arith, h)

  pub twice_most : (after : List S) (count later : ℕ) → after ≡ next flow states → HasCountedBy every (λ equal. changes equal flow states (next flow states)) first count
      → HasCountedAtMostBy every (λ equal. changes equal flow after (next flow after)) count later → HasCountedAtMostBy every both first later
  twice_most after count later is once most equal tells =
      let h = most equal tells in
      let e = once equal tells in
      let here : changes equal flow after (next flow after) ≡ changes equal flow (next flow states) (next flow (next flow states)) = ap (λ (s : List S). changes equal flow s (next flow s)) is in
      omega (arith, h, e, here, ticks_most (changes equal flow states (next flow states)) first)

  pub twice : (after : List S) (count later : ℕ) → after ≡ next flow states → HasCountedBy every (λ equal. changes equal flow states (next flow states)) first count
      → HasCountedBy every (λ equal. changes equal flow after (next flow after)) count later → HasCountedBy every both first later
  twice after count later is once more equal tells =
      let a : ℕ = changes equal flow states (next flow states) in
      let b : ℕ = changes equal flow (next flow states) (next flow (next flow states)) in
      let all : a + b ≡ both equal = omega arith in
      more equal tells ∙ (λ i. after_ticks (changes equal flow (is i) (next flow (is i))) (once equal tells i))
      ∙ sym (ticks_add a b first) ∙ ap (λ (n : ℕ). after_ticks n first) all

-- ---- the whole

module _ {S : Type 0} (flow : Flow S) (every : Bool) (first : ℕ) where
  pub begun_most : (count : ℕ) → count ≤ first + flow.edges → HasCountedAtMostBy every (λ equal. work equal flow) first count
  begun_most count most equal tells = omega (arith, most, work_is equal flow)

  pub sought_within : (count later : ℕ) → count ≡ after_ticks flow.edges first → HasCountedAtMostBy every (λ equal. changes_along equal flow (sought flow (first_stop flow))) count later
      → HasCountedAtMostBy every (λ equal. work equal flow) first later
  sought_within count later begun most equal tells =
      let h = most equal tells in
      omega (arith, h, begun, ticks_most flow.edges first, work_is equal flow)

  module _ (states : List S) (count mid later : ℕ) (begun : count ≡ after_ticks flow.edges first) (are : states ≡ first_inductive flow)
      (ticked : HasCountedBy every (λ equal. changes_along equal flow (sought flow (first_stop flow))) count mid) where
    last_part : (equal : S → S → Bool) → changes_along equal flow (states ∷ next flow states ∷ next flow (next flow states) ∷ [])
        ≡ changes_along equal flow (first_inductive flow ∷ next flow (first_inductive flow) ∷ next flow (next flow (first_inductive flow)) ∷ [])
    last_part equal = ap (λ (s : List S). changes_along equal flow (s ∷ next flow s ∷ next flow (next flow s) ∷ [])) are

    pub whole_most : HasCountedAtMostBy every (λ equal. changes_along equal flow (states ∷ next flow states ∷ next flow (next flow states) ∷ [])) mid later
        → HasCountedAtMostBy every (λ equal. work equal flow) first later
    whole_most most equal tells =
        let h = most equal tells in
        let e = ticked equal tells in
        let last = last_part equal in
        omega (arith, h, e, last, begun, ticks_most flow.edges first, ticks_most (changes_along equal flow (sought flow (first_stop flow))) count, work_is equal flow)

    pub whole : HasCountedBy every (λ equal. changes_along equal flow (states ∷ next flow states ∷ next flow (next flow states) ∷ [])) mid later → HasCountedBy every (λ equal. work equal flow) first later
    whole more equal tells =
        let a : ℕ = changes_along equal flow (sought flow (first_stop flow)) in
        let b : ℕ = changes_along equal flow (first_inductive flow ∷ next flow (first_inductive flow) ∷ next flow (next flow (first_inductive flow)) ∷ []) in
        more equal tells ∙ (λ i. after_ticks (last_part equal i) (ticked equal tells i)) ∙ ap (λ (n : ℕ). after_ticks b (after_ticks a n)) begun
        ∙ ap (after_ticks b) (sym (ticks_add flow.edges a first)) ∙ sym (ticks_add (flow.edges + a) b first) ∙ ap (λ (n : ℕ). after_ticks n first) (sym (work_is equal flow))
