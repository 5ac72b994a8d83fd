-- Worked examples of the rounds, over states that are numbers.
use Rattle.std.proofs.Common.{◌≡◌, ℕ, ◌+◌, ◌*◌, ◌/◌, ◌==◌, min, max, nat_le, nat_lt, Bool, true, false, [], ◌∷◌, cond, get_or, refl}
use Rattle.widening_engine.specs.Rounds.{Flow, all_unknown, first_inductive, is_head, is_inductive, last_round, limit, merge, next, round, round_from, settled, widened}

-- ---- which states flow where

-- The edges 0 → 1, 1 → 0, 1 → 0 and 1 → 1 among three blocks, with a state of their own after each.
crossing : Flow ℕ
crossing = record {
  blocks = 3;
  edges = 4;
  source = λ edge. get_or (0 ∷ 1 ∷ 1 ∷ 1 ∷ []) edge 0;
  target = λ edge. get_or (1 ∷ 0 ∷ 0 ∷ 1 ∷ []) edge 0;
  entry = 1;
  nothing = 7;
  unknown = λ block. 100 + block;
  along = λ a edge. edge + 2;
  join = λ a b. a * 10 + b;
  widen = λ a b. 1000 * a + b;
  leq = nat_le;
}

-- The entry comes first, and then what is after the edges, in their order. Into the last block nothing flows.
in_order : next crossing (7 ∷ 7 ∷ 7 ∷ []) ≡ 134 ∷ 25 ∷ 7 ∷ []
unfolding next crossing
in_order = refl

alone : merge crossing (5 ∷ []) ≡ 5
unfolding crossing
alone = refl

-- An edge to its own block makes it a head, and so does one to a block before. The edge 0 → 1 does not.
heads : (is_head crossing 0 ≡ true) × (is_head crossing 1 ≡ true) × (is_head crossing 2 ≡ false)
unfolding crossing
heads = (refl, refl, refl)

-- Of each block something else is not known.
each_unknown : all_unknown crossing ≡ 100 ∷ 101 ∷ 102 ∷ []
unfolding crossing
each_unknown = refl

-- ---- a loop that settles

-- From the first block into a loop at the second, where a number grows up to a bound, and out of it.
counting : ℕ → Flow ℕ
counting bound = record {
  blocks = 3;
  edges = 3;
  source = λ edge. get_or (0 ∷ 1 ∷ 1 ∷ []) edge 0;
  target = λ edge. get_or (1 ∷ 1 ∷ 2 ∷ []) edge 0;
  entry = 5;
  nothing = 0;
  unknown = λ block. 200;
  along = λ a edge. cond (edge == 1) (cond (a == 0) 0 (min (a + 1) bound)) a;
  join = max;
  widen = λ a b. cond (nat_le b a) a 100;
  leq = nat_le;
}

-- The head is as it is joined in the second round, and widened from the third on. Other blocks are never widened.
rounds : (round (counting 100) 0 ≡ 0 ∷ 0 ∷ 0 ∷ []) × (round (counting 100) 1 ≡ 5 ∷ 0 ∷ 0 ∷ []) × (round (counting 100) 2 ≡ 5 ∷ 5 ∷ 0 ∷ [])
    × (round (counting 100) 3 ≡ 5 ∷ 100 ∷ 5 ∷ []) × (round (counting 100) 4 ≡ 5 ∷ 100 ∷ 100 ∷ [])
unfolding counting round round_from next widened
rounds = (refl, refl, refl, refl, refl)

first : first_inductive (counting 100) ≡ 5 ∷ 100 ∷ 100 ∷ []
unfolding counting first_inductive is_inductive round round_from next widened
first = refl

-- Two plain rounds later the number is bounded again, and that is inductive.
later : (first_inductive (counting 10) ≡ 5 ∷ 100 ∷ 100 ∷ []) × (limit (counting 10) ≡ 5 ∷ 10 ∷ 10 ∷ [])
unfolding counting limit settled first_inductive is_inductive round round_from next widened
later = (refl, refl)

-- ---- one block with an edge to itself

turning : (entry : ℕ) → (ℕ → ℕ) → (ℕ → ℕ → Bool) → Flow ℕ
turning entry along leq = record {
  blocks = 1;
  edges = 1;
  source = λ edge. 0;
  target = λ edge. 0;
  entry = entry;
  nothing = 0;
  unknown = λ block. 100;
  along = λ a edge. along a;
  join = max;
  widen = λ a b. b;
  leq = leq;
}

-- Two plain rounds later nothing is inductive any more: the answer is the first inductive round itself.
kept : limit (turning 7 (λ a. a + 1) (λ a b. b == 7)) ≡ 7 ∷ []
unfolding turning limit settled first_inductive is_inductive round round_from next widened
kept = refl

-- At first nothing is reached, and that may be inductive already.
at_once : first_inductive (turning 7 (λ a. a + 1) (λ a b. true)) ≡ 0 ∷ []
unfolding turning first_inductive is_inductive round round_from next widened
at_once = refl

-- What is after an edge has to be included in the state of its target, and not the other way round.
edge_tested : (is_inductive (turning 1 (λ a. a + 5) nat_le) (3 ∷ []) ≡ false) × (is_inductive (turning 1 (λ a. 2) nat_le) (3 ∷ []) ≡ true)
unfolding turning is_inductive
edge_tested = (refl, refl)

-- The entry is tested too: the edge is carried from the first round on, but nothing that begins at 9 is included in it.
entry_tested : is_inductive (turning 9 (λ a. 3) nat_le) (5 ∷ []) ≡ false
unfolding turning is_inductive
entry_tested = refl

-- No round is ever inductive: nothing is known, which may stand, or get better in two rounds.
unsettled : (limit (turning 1 (λ a. a) nat_lt) ≡ 100 ∷ []) × (limit (turning 1 (λ a. a / 2) nat_lt) ≡ 25 ∷ [])
unfolding turning limit settled first_inductive is_inductive round round_from next widened
unsettled = (refl, refl)

-- The last round that may be the answer is number 44 with one block.
in_time : (last_round (turning 1 (λ a. a + 1) nat_le) ≡ 44) × (first_inductive (turning 1 (λ a. a + 1) (λ a b. nat_le 44 b)) ≡ 44 ∷ [])
    × (first_inductive (turning 1 (λ a. a + 1) (λ a b. nat_le 45 b)) ≡ 100 ∷ [])
unfolding turning first_inductive is_inductive round round_from next widened
in_time = (refl, refl, refl)
