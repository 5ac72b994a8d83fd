-- The edges join blocks, and come in order.
use Rattle.std.proofs.Common.{◌≡◌, ℕ, zero, suc, ◌+◌, ◌<◌, ◌≤◌, ◌==◌, Bool, true, false, nat_le, List, [], ◌∷◌, ◌++◌, length, filter, slice_get, Option, Some, None, option_map, refl, sym, ap, subst, arith, inl, inr}
use Rattle.std.specs.List.{AllByRecursion, flat_map, list_any}
use Rattle.std.specs.Option.{option_to_list}
use Rattle.std.proofs.lemmas.Bool.{cond_both, eqb-true, false≢true}
use Rattle.std.proofs.lemmas.Bool.Decides.{nat_tests}
use Rattle.std.proofs.lemmas.Option.{none-some, same_Some}
use Rattle.cil_model.specs.Blocks.{ends_block}
use Rattle.cil_model.specs.Passes.{successors}
use Rattle.cil_model.specs.ShortCode.{IsOfShortCode, LieFrom}
use Rattle.cil_model.specs.declared.instruction.Instr.{Instr}
use Rattle.cil_model.proofs.Lists.{all_append}
use Rattle.cil_model.proofs.Options.{map_from}
use Rattle.flow_graph.specs.BlocksOf.{block_at, last_place, place_of}
use Rattle.flow_graph.specs.EdgesOf.{ComesBefore, JoinsBlocks, edge_to, edges_from, edges_out, edges_to}
use Rattle.flow_graph.specs.declared.graph.Edge.{Edge}
use Rattle.flow_graph.proofs.Items.{all_weaker}
use Rattle.flow_graph.proofs.Lying.{length-passing}
use Rattle.flow_graph.proofs.Successors.{next_alone}

-- ---- lists

module _ {X : Type 0} (p q : X → Bool) (sub : (x : X) → p x ≡ true → q x ≡ true) where
  -- What passes the wider test is no fewer, and stays so by as many with one more item.
  passing_one : (x : X) (xs : List X) (more : ℕ) → length (filter p xs) + more ≤ length (filter q xs)
      → length (filter p (x ∷ xs)) + more ≤ length (filter q (x ∷ xs))
  passing_one x xs more h =
      cond_both (p x) _ _ (λ (ys : List X). length ys + more ≤ length (filter q (x ∷ xs))) (λ e. rw (sub x e) (omega (arith, h)))
      (λ e. cond_both (q x) _ _ (λ (ys : List X). length (filter p xs) + more ≤ length ys) (λ f. omega (arith, h)) (λ f. h))

  pub passing_le : (xs : List X) → length (filter p xs) ≤ length (filter q xs)
  passing_le [] = omega arith
  passing_le (x ∷ xs) = omega (arith, passing_one x xs 0 (omega (arith, passing_le xs)))

-- ---- places

pub place_within : (xs : List ℕ) (x k : ℕ) → place_of xs x ≡ Some k → (k < length xs) × (slice_get xs k ≡ Some x)
place_within [] x k found = absurd (none-some k found)
place_within (y ∷ ys) x k found =
    cond_both (y == x) _ _ (λ (place : Option ℕ). place ≡ Some k → (k < length (y ∷ ys)) × (slice_get (y ∷ ys) k ≡ Some x))
    (λ e here. let first = same_Some 0 k here in rw (← first) (omega arith, ap Some (eqb-true y x e)))
    (λ e later. let (n, there, is) = map_from suc (place_of ys x) k later in let rest = place_within ys x n there in rw is (omega (arith, rest.0), rest.1)) found

pub has_place : (xs : List ℕ) (x : ℕ) → list_any (λ n. n == x) xs ≡ true → (k : ℕ) × (place_of xs x ≡ Some k)
has_place [] x has = absurd (false≢true has)
has_place (y ∷ ys) x has =
    cond_both (y == x) (Some 0) (option_map suc (place_of ys x)) (λ (place : Option ℕ). (k : ℕ) × (place ≡ Some k)) (λ e. (0, refl))
    (λ e. let (k, there) = has_place ys x (rw e at has) in (suc k, ap (option_map suc) there))

-- How many of these start at an offset or before.
abbrev pub Starts : List ℕ → ℕ → ℕ
Starts blocks at = length (filter (λ start. nat_le start at) blocks)

pub last_place_is : (n k : ℕ) → last_place n ≡ Some k → n ≡ suc k
last_place_is zero k e = absurd (none-some k e)
last_place_is (suc n) k e = ap suc (same_Some n k e)

widen : (a b : ℕ) → a ≤ b → (x : ℕ) → nat_le x a ≡ true → nat_le x b ≡ true
widen a b le x h = grind (arith, nat_tests)

starts_le : (blocks : List ℕ) (a b : ℕ) → a ≤ b → Starts blocks a ≤ Starts blocks b
starts_le blocks a b le = passing_le (λ x. nat_le x a) (λ x. nat_le x b) (widen a b le) blocks

starts_lt : (blocks : List ℕ) (a b k : ℕ) → a < b → place_of blocks b ≡ Some k → Starts blocks a < Starts blocks b
starts_lt [] a b k less found = absurd (none-some k found)
starts_lt (y ∷ ys) a b k less found =
    cond_both (y == b) _ _ (λ (place : Option ℕ). place ≡ Some k → Starts (y ∷ ys) a < Starts (y ∷ ys) b)
    (λ e here. let is = eqb-true y b e in
    let no : nat_le y a ≡ false = grind (arith, nat_tests) in let yes : nat_le y b ≡ true = grind (arith, nat_tests) in
    rw (no, yes) (omega (arith, starts_le ys a b (omega arith))))
    (λ e later. let (n, there, is) = map_from suc (place_of ys b) k later in
    omega (arith, passing_one (λ x. nat_le x a) (λ x. nat_le x b) (widen a b (omega arith)) y ys 1 (omega (arith, starts_lt ys a b n less there))))
    found

-- ---- what holds of each edge

module _ (blocks : List ℕ) (from : ℕ) where
  edge_all : (P : Edge → Type 0) (number : ℕ) (place : Option ℕ) → ((to : ℕ) → place ≡ Some to → P (record { from = from; to = to; number = number }))
      → AllByRecursion P (option_to_list (option_map (λ to. record { from = from; to = to; number = number }) place))
  edge_all P number None holds = tt
  edge_all P number (Some to) holds = (holds to refl, tt)

  -- The edge to each offset has the number of its place among them.
  pub edges_all : (P : Edge → Type 0) (number : ℕ) (ats : List ℕ)
      → ((n at to : ℕ) → slice_get ats n ≡ Some at → place_of blocks at ≡ Some to → P (record { from = from; to = to; number = number + n }))
      → AllByRecursion P (edges_to blocks from number ats)
  edges_all P number [] holds = tt
  edges_all P number (at ∷ ats) holds =
      all_append P (option_to_list (edge_to blocks from number at)) (edges_to blocks from (number + 1) ats)
      (edge_all P number (place_of blocks at)
      (λ to e. let same : number + 0 ≡ number = omega arith in subst (λ (k : ℕ). P (record { from = from; to = to; number = k })) same (holds 0 at to refl e)))
      (edges_all P (number + 1) ats
      (λ n x to there e. let same : number + suc n ≡ number + 1 + n = omega arith in
      subst (λ (k : ℕ). P (record { from = from; to = to; number = k })) same (holds (suc n) x to there e)))

edges_join : (blocks : List ℕ) (place : Option ℕ) (i : Instr) → ((from : ℕ) → place ≡ Some from → from < length blocks)
    → AllByRecursion (JoinsBlocks blocks) (edges_out blocks place i)
edges_join blocks None i within = tt
edges_join blocks (Some from) i within =
    edges_all blocks from (JoinsBlocks blocks) 0 (successors i.op (i.at + i.size))
    (λ n at to there e. record { from = within from refl; to = (place_within blocks at to e).0 })

pub all_join : (blocks : List ℕ) (is : List Instr) → AllByRecursion (JoinsBlocks blocks) (flat_map (edges_from blocks) is)
all_join blocks [] = tt
all_join blocks (i ∷ is) =
    all_append (JoinsBlocks blocks) (edges_from blocks i) (flat_map (edges_from blocks) is)
    (edges_join blocks (block_at blocks i.at) i
    (λ from e. omega (arith, last_place_is (Starts blocks i.at) from e, length-passing (λ start. nat_le start i.at) blocks))) (all_join blocks is)

-- ---- order

-- Each edge comes before all after it.
abbrev pub InOrder : List Edge → Type 0
InOrder [] = Unit {0}
InOrder (e ∷ es) = AllByRecursion (ComesBefore e) es × InOrder es

order_append : (xs ys : List Edge) → InOrder xs → InOrder ys → AllByRecursion (λ x. AllByRecursion (ComesBefore x) ys) xs → InOrder (xs ++ ys)
order_append [] ys first second between = second
order_append (x ∷ xs) ys first second between = (all_append (ComesBefore x) xs ys first.0 between.0, order_append xs ys first.1 second between.1)

module _ (blocks : List ℕ) (from : ℕ) where
  order_one : (number : ℕ) (place : Option ℕ) (es : List Edge) → AllByRecursion (λ e. (from ≡ e.from) × (number < e.number)) es → InOrder es
      → InOrder (option_to_list (option_map (λ to. record { from = from; to = to; number = number }) place) ++ es)
  order_one number None es later order = order
  order_one number (Some to) es later order = (all_weaker _ (ComesBefore (record { from = from; to = to; number = number })) (λ e h. inr h) es later, order)

  edges_order : (number : ℕ) (ats : List ℕ) → InOrder (edges_to blocks from number ats)
  edges_order number [] = tt
  edges_order number (at ∷ ats) =
      order_one number (place_of blocks at) (edges_to blocks from (number + 1) ats)
      (edges_all blocks from (λ e. (from ≡ e.from) × (number < e.number)) (number + 1) ats (λ n at to there e. (refl, omega arith))) (edges_order (number + 1) ats)

-- Behind an instruction that ends a block, where another stands, a block starts.
abbrev pub EndBefore : List ℕ → List Instr → Type 0
EndBefore blocks [] = Unit {0}
EndBefore blocks (i ∷ []) = Unit {0}
EndBefore blocks (i ∷ j ∷ is) = (ends_block i.op ≡ true → (k : ℕ) × (place_of blocks (i.at + i.size) ≡ Some k)) × EndBefore blocks (j ∷ is)

-- An instruction that ends no block, after which none starts, has no edges: the last of a block alone has some.
pub no_edges : (blocks : List ℕ) (place : Option ℕ) (i : Instr) → ends_block i.op ≡ false → place_of blocks (i.at + i.size) ≡ None → edges_out blocks place i ≡ []
no_edges blocks None i stays none = refl
no_edges blocks (Some from) i stays none = rw (next_alone i.op (i.at + i.size) stays, none) refl

-- Edges that leave blocks that are not before the one at an offset.
abbrev LeaveFrom : List ℕ → ℕ → List Edge → Type 0
LeaveFrom blocks at es = AllByRecursion (λ e. Starts blocks at ≤ suc e.from) es

module _ (blocks : List ℕ) (i j : Instr) (later : List Edge) (some : 0 < i.size) (order : InOrder later) (leave : LeaveFrom blocks (i.at + i.size) later) where
  -- Where a block starts after the instruction, or its edges are none.
  joined : (place next : Option ℕ) → last_place (Starts blocks i.at) ≡ place → place_of blocks (i.at + i.size) ≡ next
      → (ends_block i.op ≡ true → (k : ℕ) × (next ≡ Some k)) → InOrder (edges_out blocks place i ++ later)
  joined None next is found ends = order
  joined (Some from) (Some k) is found ends =
      let first = last_place_is (Starts blocks i.at) from is in
      let more = starts_lt blocks i.at (i.at + i.size) k (omega (arith, some)) found in
      order_append (edges_out blocks (Some from) i) later (edges_order blocks from 0 (successors i.op (i.at + i.size))) order
      (edges_all blocks from (λ x. AllByRecursion (ComesBefore x) later) 0 (successors i.op (i.at + i.size))
      (λ n at to there e. all_weaker _ (ComesBefore (record { from = from; to = to; number = 0 + n })) (λ x h. inl (omega (arith, h, first, more))) later leave))
  joined (Some from) None is found ends =
      cond_both (ends_block i.op) 0 0 (λ (n : ℕ). InOrder (edges_out blocks (Some from) i ++ later))
      (λ e. absurd (none-some (ends e).0 (ends e).1))
      (λ e. subst (λ (es : List Edge). InOrder (es ++ later)) (sym (no_edges blocks (Some from) i e found)) order)

edges_leave : (blocks : List ℕ) (i : Instr) (place : Option ℕ) → last_place (Starts blocks i.at) ≡ place
    → LeaveFrom blocks i.at (edges_out blocks place i)
edges_leave blocks i None is = tt
edges_leave blocks i (Some from) is =
    edges_all blocks from (λ e. Starts blocks i.at ≤ suc e.from) 0 (successors i.op (i.at + i.size))
    (λ n at to there e. omega (arith, last_place_is (Starts blocks i.at) from is))

all_leave : (blocks : List ℕ) (at : ℕ) (is : List Instr) → LieFrom at is → LeaveFrom blocks at (flat_map (edges_from blocks) is)
all_leave blocks at [] lie = tt
all_leave blocks at (i ∷ is) lie =
    let le = starts_le blocks at (at + i.size) (omega arith) in
    all_append (λ e. Starts blocks at ≤ suc e.from) (edges_from blocks i) (flat_map (edges_from blocks) is)
    (subst (λ (n : ℕ). LeaveFrom blocks n (edges_from blocks i)) lie.0 (edges_leave blocks i (block_at blocks i.at) refl))
    (all_weaker _ (λ e. Starts blocks at ≤ suc e.from) (λ e h. omega (arith, h, le)) (flat_map (edges_from blocks) is) (all_leave blocks (at + i.size) is lie.1))

pub all_in_order : (blocks : List ℕ) (at : ℕ) (is : List Instr) → LieFrom at is → AllByRecursion IsOfShortCode is → EndBefore blocks is
    → InOrder (flat_map (edges_from blocks) is)
all_in_order blocks at [] lie each ends = tt
all_in_order blocks at (i ∷ []) lie each ends = order_append (edges_from blocks i) [] (alone (block_at blocks i.at)) tt (nothing (edges_from blocks i))
  where
    alone : (place : Option ℕ) → InOrder (edges_out blocks place i)
    alone None = tt
    alone (Some from) = edges_order blocks from 0 (successors i.op (i.at + i.size))

    nothing : (es : List Edge) → AllByRecursion (λ x. AllByRecursion (ComesBefore x) []) es
    nothing [] = tt
    nothing (e ∷ es) = (tt, nothing es)
all_in_order blocks at (i ∷ j ∷ is) lie each ends =
    let later = flat_map (edges_from blocks) (j ∷ is) in
    let behind : LieFrom (i.at + i.size) (j ∷ is) = subst (λ (n : ℕ). LieFrom (n + i.size) (j ∷ is)) (sym lie.0) lie.1 in
    joined blocks i j later each.0.some (all_in_order blocks (at + i.size) (j ∷ is) lie.1 each.1 ends.1) (all_leave blocks (i.at + i.size) (j ∷ is) behind)
    (block_at blocks i.at) (place_of blocks (i.at + i.size)) refl refl ends.0
