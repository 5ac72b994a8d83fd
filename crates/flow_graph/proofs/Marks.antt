-- Numbers that are found in a list after it is sorted, and what passes by them.
use Rattle.std.proofs.Common.{◌≡◌, ℕ, ◌+◌, ◌<◌, ◌==◌, Bool, true, false, ◌&&◌, ◌||◌, List, [], ◌∷◌, ◌++◌, length, get_or, take, map, filter, refl, sym, ap, ◌∙◌, arith, inl, inr}
use Rattle.std.specs.List.{list_any, range_with_len}
use Rattle.std.specs.List.Sorted.{IsPermutation}
use Rattle.std.proofs.lemmas.Bool.{cases_Bool}
use Rattle.std.proofs.lemmas.Bool.Decides.{nat_tests}
use Rattle.std.proofs.lemmas.List.Elements.{filter_agree}
use Rattle.std.proofs.lemmas.List.Folds.{list_any-append, list_any_more}
use Rattle.std.proofs.lemmas.List.Sorted.{list_any-IsPermutation}
use Rattle.cil_model.specs.Blocks.{branch_targets, ends_block, starts_at}
use Rattle.cil_model.specs.declared.instruction.Instr.{Instr}
use Rattle.flow_graph.specs.BlocksOf.{starts_among}
use Rattle.flow_graph.specs.HeadsOf.{goes_back, heads_of}
use Rattle.flow_graph.specs.declared.graph.Edge.{Edge}

-- What passes a test and has this number.
pub list_any-numbers : {X : Type 0} (number : X → ℕ) (p : X → Bool) (n : ℕ) (xs : List X)
    → list_any (λ m. m == n) (map number (filter p xs)) ≡ list_any (λ x. number x == n && p x) xs
list_any-numbers number p n [] = refl
list_any-numbers number p n (x ∷ xs) =
    let rest = list_any-numbers number p n xs in
    elim (cases_Bool (p x)) [
      | inl e ↦ rw (e, rest, and_true (number x == n)) refl
      | inr e ↦ rw (e, rest, and_false (number x == n)) refl
    ]
  where
    and_true : (a : Bool) → (a && true) ≡ a
    and_true true = refl
    and_true false = refl

    and_false : (a : Bool) → (a && false) ≡ false
    and_false true = refl
    and_false false = refl

-- Numbers that were put in order and then seen.
ordered : (n : ℕ) (numbers sorted seen : List ℕ) → IsPermutation numbers sorted → seen ≡ sorted
    → list_any (λ m. m == n) seen ≡ list_any (λ m. m == n) numbers
ordered n numbers sorted seen same are = ap (list_any (λ m. m == n)) are ∙ sym (list_any-IsPermutation (λ m. m == n) numbers sorted same)

-- The places that are among the numbers to which edges go back, in any order.
pub heads_by_numbers : (count : ℕ) (edges : List Edge) (targets sorted seen : List ℕ) → targets ≡ map (λ edge. edge.to) (filter goes_back edges)
    → IsPermutation targets sorted → seen ≡ sorted
    → filter (λ place. list_any (λ n. n == place) seen) (range_with_len 0 count) ≡ heads_of count edges
heads_by_numbers count edges targets sorted seen are same in_order =
    filter_agree _ _ (λ place. ordered place targets sorted seen same in_order ∙ ap (list_any (λ n. n == place)) are
    ∙ list_any-numbers (λ (edge : Edge). edge.to) goes_back place edges) (range_with_len 0 count)

-- ---- where blocks start

-- The offset, or one at which one of the instructions makes a block start.
abbrev pub AreStarts : ℕ → List Instr → List ℕ → Type 0
AreStarts start is offsets = (at : ℕ) → list_any (λ n. n == at) offsets ≡ (at == start || list_any (starts_at at) is)

-- The offsets of the instructions that begin at one of those.
pub blocks_by_numbers : (start : ℕ) (body : List Instr) (offsets sorted seen : List ℕ) → AreStarts start body offsets
    → IsPermutation offsets sorted → seen ≡ sorted → map (λ i. i.at) (filter (λ i. list_any (λ n. n == i.at) seen) body) ≡ starts_among start body
blocks_by_numbers start body offsets sorted seen starts same in_order =
    let test : (i : Instr) → list_any (λ n. n == i.at) seen ≡ (i.at == start || list_any (starts_at i.at) body) =
    λ i. ordered i.at offsets sorted seen same in_order ∙ starts i.at in
    ap (map (λ (i : Instr). i.at)) (filter_agree _ _ test body)

pub starts_first : (start : ℕ) → AreStarts start [] (start ∷ [])
starts_first start at = ap (λ (b : Bool). b || false) (same_either_way start at)
  where
    same_either_way : (a b : ℕ) → (a == b) ≡ (b == a)
    same_either_way a b = grind (arith, nat_tests)

pub starts_next : (start : ℕ) (is : List Instr) (k : ℕ) (i : Instr) (offsets new : List ℕ) → AreStarts start (take k is) offsets → k < length is
    → i ≡ get_or is k i
    → ((at : ℕ) → list_any (λ n. n == at) new ≡ (list_any (λ n. n == at) offsets || starts_at at i)) → AreStarts start (take (k + 1) is) new
starts_next start is k i offsets new so_far inside read more at =
    let one : list_any (starts_at at) (take (k + 1) is) ≡ (list_any (starts_at at) (take k is) || starts_at at i) =
    list_any_more (starts_at at) is k i inside ∙ ap (λ (j : Instr). list_any (starts_at at) (take k is) || starts_at at j) (sym read) in
    more at ∙ ap (λ (b : Bool). b || starts_at at i) (so_far at) ∙ either (at == start) (list_any (starts_at at) (take k is)) (starts_at at i)
    ∙ ap (λ (b : Bool). at == start || b) (sym one)
  where
    either : (a b c : Bool) → ((a || b) || c) ≡ (a || (b || c))
    either true b c = refl
    either false b c = refl

module _ (i : Instr) (offsets : List ℕ) (at : ℕ) where
  abbrev IsAt : List ℕ → Bool
  IsAt ns = list_any (λ n. n == at) ns

  pub starts_with_next : ends_block i.op ≡ true
      → list_any (λ n. n == at) ((offsets ++ branch_targets i.op) ++ (i.at + i.size) ∷ []) ≡ (list_any (λ n. n == at) offsets || starts_at at i)
  starts_with_next ends =
      list_any-append (λ n. n == at) (offsets ++ branch_targets i.op) ((i.at + i.size) ∷ [])
      ∙ ap (λ (b : Bool). b || (i.at + i.size == at || false)) (list_any-append (λ n. n == at) offsets (branch_targets i.op))
      ∙ rw ends (parts (IsAt offsets) (IsAt (branch_targets i.op)) (i.at + i.size == at))
    where
      parts : (a b c : Bool) → ((a || b) || (c || false)) ≡ (a || (b || c))
      parts true b c = refl
      parts false true c = refl
      parts false false true = refl
      parts false false false = refl

  pub starts_at_targets : ends_block i.op ≡ false → list_any (λ n. n == at) (offsets ++ branch_targets i.op) ≡ (list_any (λ n. n == at) offsets || starts_at at i)
  starts_at_targets stays =
      list_any-append (λ n. n == at) offsets (branch_targets i.op) ∙ rw stays (ap (λ (b : Bool). IsAt offsets || b) (parts (IsAt (branch_targets i.op))))
    where
      parts : (a : Bool) → a ≡ (a || false)
      parts true = refl
      parts false = refl

pub ruleset starts_added = (starts_with_next, starts_at_targets)
