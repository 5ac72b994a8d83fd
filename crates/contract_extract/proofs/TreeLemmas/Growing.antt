-- How a tree grows over a condition, and where it passes its limits.
use Rattle.std.proofs.Common.{◌≡◌, ℕ, ◌+◌, ◌<◌, ◌≤◌, Bool, true, false, ◌⊎◌, max, nat_lt, List, [], ◌∷◌, Option, Some, None, IfSome, refl, sym, ap, subst, ◌∙◌, arith, inl, inr}
use Rattle.std.proofs.lemmas.Bool.{le-ltb, lt-ltb, ltb-true, or_cases, or_left, or_right}
use Rattle.std.proofs.lemmas.Option.{none-some, same_Some}
use Rattle.cil_model.specs.ClauseTrees.{Item, Tree, Message, closed_tree, condition}
use Rattle.cil_model.specs.Terms as terms
use Rattle.cil_model.specs.Terms.{Term, condition_depth, term_size}
use Rattle.contract_extract.specs.Growth.{AreFlat, Grows, IsGrown, IsLeft, Keeps, forked, is_full, onward, passes}
use Rattle.contract_extract.specs.declared.trees.conditions.Condition.{Condition}
use Rattle.contract_extract.specs.declared.trees.limits.Limits.{Limits}
use Rattle.contract_extract.specs.declared.trees.limits.Grown.{Grown}

-- ---- leaves

pub leaf_passes : (limits : Limits) (t : Term) → limits.nodes < term_size t → passes limits t ≡ true
leaf_passes limits t more = or_left (nat_lt limits.nodes (term_size t)) (nat_lt limits.conditions (condition_depth t)) (lt-ltb limits.nodes (term_size t) more)

-- What a closing call finds on a stack without conditions has none.
pub closed_flat : (message : Bool) (items : List Item) (t : Term) → AreFlat items → closed_tree message items ≡ Some t → condition_depth t ≡ 0
closed_flat false [] t flat e = absurd (none-some t e)
closed_flat false (Message ∷ items) t flat e = absurd (none-some t e)
closed_flat false (Tree a ∷ []) t flat e = ap condition_depth (sym (same_Some a t e)) ∙ flat.0
closed_flat false (Tree a ∷ b ∷ items) t flat e = absurd (none-some t e)
closed_flat true [] t flat e = absurd (none-some t e)
closed_flat true (top ∷ []) t flat e = absurd (none-some t e)
closed_flat true (top ∷ Message ∷ items) t flat e = absurd (none-some t e)
closed_flat true (top ∷ Tree a ∷ []) t flat e = ap condition_depth (sym (same_Some a t e)) ∙ flat.1.0
closed_flat true (top ∷ Tree a ∷ b ∷ items) t flat e = absurd (none-some t e)

-- ---- conditions

-- The limits of a tree that is more than another one over less room.
abbrev Passes : Limits → Option Term → Type 0
Passes limits tree = IfSome tree (λ t. passes limits t ≡ true)

-- A condition passes limits where the trees beside it do, in what is left.
more_conditions : (limits : Limits) (t : Term) → limits.conditions < condition_depth t → passes limits t ≡ true
more_conditions limits t more =
    or_right (nat_lt limits.nodes (term_size t)) (nat_lt limits.conditions (condition_depth t)) (lt-ltb limits.conditions (condition_depth t) more)

-- It does if it does with both trees there, in either order.
over_both : (limits : Limits) (turned : Bool) (a : Term) (target next : Option Term)
    → ((t n : Term) → target ≡ Some t → next ≡ Some n → (passes limits (terms.Cond a t n) ≡ true) × (passes limits (terms.Cond a n t) ≡ true))
    → Passes limits (condition turned a target next)
over_both limits false a None next each = tt
over_both limits false a (Some t) None each = tt
over_both limits false a (Some t) (Some n) each = (each t n refl refl).0
over_both limits true a None next each = tt
over_both limits true a (Some t) None each = tt
over_both limits true a (Some t) (Some n) each = (each t n refl refl).1

-- A condition for which no room is left.
pub full_passes : (test : Condition) (limits : Limits) (target next : Option Term) → is_full test limits ≡ true → Grows limits (forked test target next) None
full_passes test limits target next full = over_both limits test.turned test.tree target next (λ t n is_t is_n. (larger t n, larger n t))
  where
    larger : (a b : Term) → passes limits (terms.Cond test.tree a b) ≡ true
    larger a b = elim (or_cases (nat_lt limits.nodes (term_size test.tree + 1)) (nat_lt limits.conditions 1) full) [
      | inl e ↦ (let few = ltb-true limits.nodes (term_size test.tree + 1) e in leaf_passes limits (terms.Cond test.tree a b) (omega (arith, few)))
      | inr e ↦ (let few = ltb-true limits.conditions 1 e in more_conditions limits (terms.Cond test.tree a b) (omega (arith, few)))
    ]

-- A tree that passes one of two limits.
record Exceeds (limits : Limits) (nodes conditions : ℕ) : Type 0 where
  one : (limits.nodes < nodes) ⊎ (limits.conditions < conditions)

exceeds : (limits : Limits) (t : Term) → passes limits t ≡ true → Exceeds limits (term_size t) (condition_depth t)
exceeds limits t e = elim (or_cases (nat_lt limits.nodes (term_size t)) (nat_lt limits.conditions (condition_depth t)) e) [
  | inl f ↦ record { one = inl (ltb-true limits.nodes (term_size t) f) }
  | inr f ↦ record { one = inr (ltb-true limits.conditions (condition_depth t) f) }
]

passed : (limits : Limits) (t : Term) → Exceeds limits (term_size t) (condition_depth t) → passes limits t ≡ true
passed limits t e = elim e.one [
  | inl f ↦ leaf_passes limits t f
  | inr f ↦ more_conditions limits t f
]

of_some : (limits : Limits) (tree : Option Term) (t : Term) → tree ≡ Some t → Passes limits tree → passes limits t ≡ true
of_some limits tree t is e = subst (Passes limits) is e

-- The tree of the branch's target passes what is left.
pub target_passes : (test : Condition) (limits left : Limits) (target next : Option Term) → IsLeft test limits left → Grows left target None
    → Grows limits (forked test target next) None
target_passes test limits left target next rest none =
    over_both limits test.turned test.tree target next (λ t n is_t is_n.
    let e = exceeds left t (of_some left target t is_t none) in (larger t n e, turned t n e))
  where
    larger : (a b : Term) → Exceeds left (term_size a) (condition_depth a) → passes limits (terms.Cond test.tree a b) ≡ true
    larger a b e = passed limits (terms.Cond test.tree a b) (elim e.one [
      | inl f ↦ record { one = inl (omega (arith, f, rest.nodes)) }
      | inr f ↦ record { one = inr (omega (arith, f, rest.conditions)) }
    ])

    turned : (a b : Term) → Exceeds left (term_size a) (condition_depth a) → passes limits (terms.Cond test.tree b a) ≡ true
    turned a b e = passed limits (terms.Cond test.tree b a) (elim e.one [
      | inl f ↦ record { one = inl (omega (arith, f, rest.nodes)) }
      | inr f ↦ record { one = inr (omega (arith, f, rest.conditions)) }
    ])

-- What is left beside the tree of the target.
pub record IsAfter (left : Limits) (grown : Grown) (rest : Limits) : Type 0 where
  pub conditions : rest.conditions ≡ left.conditions
  pub nodes : rest.nodes ≡ grown.nodes_left

-- The tree of the next instruction passes what is left beside that.
pub next_passes : (test : Condition) (limits left : Limits) (target next : Option Term) (grown : Grown) (behind : Limits) → IsLeft test limits left → IsGrown left target grown
    → IsAfter left grown behind → Grows behind next None → Grows limits (forked test target next) None
next_passes test limits left target next grown behind rest first after none =
    over_both limits test.turned test.tree target next (λ t n is_t is_n.
    let same : grown.tree ≡ t = same_Some grown.tree t (subst (λ (o : Option Term). Keeps o (Some grown.tree)) is_t first.is) in
    let size : term_size grown.tree ≡ term_size t = ap term_size same in
    let e = exceeds behind n (of_some behind next n is_n none) in
    (larger t n size e, turned t n size e))
  where
    larger : (a b : Term) → term_size grown.tree ≡ term_size a → Exceeds behind (term_size b) (condition_depth b)
        → passes limits (terms.Cond test.tree a b) ≡ true
    larger a b size e = passed limits (terms.Cond test.tree a b) (elim e.one [
      | inl f ↦ record { one = inl (omega (arith, f, rest.nodes, first.nodes, after.nodes, size)) }
      | inr f ↦ record { one = inr (omega (arith, f, rest.conditions, after.conditions)) }
    ])

    turned : (a b : Term) → term_size grown.tree ≡ term_size a → Exceeds behind (term_size b) (condition_depth b)
        → passes limits (terms.Cond test.tree b a) ≡ true
    turned a b size e = passed limits (terms.Cond test.tree b a) (elim e.one [
      | inl f ↦ record { one = inl (omega (arith, f, rest.nodes, first.nodes, after.nodes, size)) }
      | inr f ↦ record { one = inr (omega (arith, f, rest.conditions, after.conditions)) }
    ])

-- Both are there.
pub both_grown : (test : Condition) (limits left : Limits) (target next : Option Term) (grown other : Grown) (behind : Limits) (tree : Term) → IsLeft test limits left
    → IsGrown left target grown → IsAfter left grown behind → IsGrown behind next other → condition_depth test.tree ≡ 0
    → forked test (Some grown.tree) (Some other.tree) ≡ Some tree
    → IsGrown limits (forked test target next) (record { tree = tree; nodes_left = other.nodes_left })
both_grown test limits left target next grown other behind tree rest first after second flat made =
    let sizes = by test.turned made in
    record {
      is = both_kept test.turned target next first.is second.is made;
      nodes = omega (arith, sizes.0, rest.nodes, first.nodes, after.nodes, second.nodes);
      conditions = omega (arith, sizes.1, flat, rest.conditions, first.conditions, after.conditions, second.conditions);
    }
  where
    both_kept : (turned : Bool) (target next : Option Term) → Keeps target (Some grown.tree) → Keeps next (Some other.tree)
        → condition turned test.tree (Some grown.tree) (Some other.tree) ≡ Some tree → Keeps (condition turned test.tree target next) (Some tree)
    both_kept true None next first second made = tt
    both_kept true (Some t) None first second made = tt
    both_kept true (Some t) (Some n) first second made = sym made ∙ ap (λ o. condition true test.tree o (Some other.tree)) first ∙ ap (condition true test.tree (Some t)) second
    both_kept false None next first second made = tt
    both_kept false (Some t) None first second made = tt
    both_kept false (Some t) (Some n) first second made = sym made ∙ ap (λ o. condition false test.tree o (Some other.tree)) first ∙ ap (condition false test.tree (Some t)) second

    by : (turned : Bool) → condition turned test.tree (Some grown.tree) (Some other.tree) ≡ Some tree
        → (term_size tree ≡ term_size test.tree + term_size grown.tree + term_size other.tree + 1)
        × (condition_depth tree ≡ max (condition_depth test.tree) (max (condition_depth grown.tree) (condition_depth other.tree)) + 1)
    by false e =
        let same : terms.Cond test.tree grown.tree other.tree ≡ tree = same_Some (terms.Cond test.tree grown.tree other.tree) tree e in
        (sym (ap term_size same), sym (ap condition_depth same))
    by true e =
        let same : terms.Cond test.tree other.tree grown.tree ≡ tree = same_Some (terms.Cond test.tree other.tree grown.tree) tree e in
        let size : term_size (terms.Cond test.tree other.tree grown.tree) ≡ term_size tree = ap term_size same in
        let depth : condition_depth (terms.Cond test.tree other.tree grown.tree) ≡ condition_depth tree = ap condition_depth same in
        (omega (arith, size), omega (arith, depth))

-- ---- branches

-- Behind a branch the way goes on later, or there is no tree.
pub onward_later : (from : ℕ → List Item → Option Term) (at later : ℕ) (items : List Item) → at < later → onward from at later items ≡ from later items
onward_later from at later items above = rw (lt-ltb at later above) refl

pub onward_none : (from : ℕ → List Item → Option Term) (at later : ℕ) (items : List Item) → later ≤ at → onward from at later items ≡ None
onward_none from at later items below = rw (le-ltb at later below) refl

pub no_target : (test : Condition) (limits : Limits) (next : Option Term) → Grows limits (forked test None next) None
no_target test limits next = over_both limits test.turned test.tree None next (λ t n is_t is_n. absurd (none-some t is_t))

-- ---- the tree of another place

pub keeps_on : (a b c : Option Term) → Keeps a b → Keeps b c → Keeps a c
keeps_on None b c first second = tt
keeps_on (Some t) b c first second = subst (λ (o : Option Term). Keeps o c) first second

pub keeps_same : (a b : Option Term) → a ≡ b → Keeps a b
keeps_same None b same = tt
keeps_same (Some t) b same = sym same

-- What grows there is what grows here.
pub keeps_grown : (limits : Limits) (a b : Option Term) (grown : Option Grown) → Keeps a b → Grows limits b grown → Grows limits a grown
keeps_grown limits None b None keeps grows = tt
keeps_grown limits None b (Some g) keeps grows = record { is = tt; nodes = grows.nodes; conditions = grows.conditions }
keeps_grown limits (Some t) b grown keeps grows = subst (λ (o : Option Term). Grows limits o grown) keeps grows
