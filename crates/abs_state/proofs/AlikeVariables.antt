-- What the loop over two lists of variables finds: whether each two are like each other.
use Rattle.std.proofs.Common.{◌≡◌, ◌≢◌, ◌↔◌, ℕ, suc, ◌+◌, ◌≤◌, ◌<◌, true, false, List, [], ◌∷◌, length, get_or, drop, drop-cons, add-one, refl, sym, ap, ◌∙◌, subst}
use Rattle.std.specs.Prelude.{IsTrue}
use Rattle.std.proofs.lemmas.List.{drop_all}
use Rattle.frame_names.specs.declared.var.Var.{Var}
use Rattle.merged_states.specs.Alike.{AreLike, IsLike}
use Rattle.state_facts.specs.StateFacts.{StateFacts}

-- Two lists of variables that are like each other have one length.
lengths_alike : (a b : StateFacts) (vs ws : List Var) → AreLike a b vs ws → length vs ≡ length ws
lengths_alike a b [] [] like = refl
lengths_alike a b [] (w ∷ ws) like = absurd like
lengths_alike a b (v ∷ vs) [] like = absurd like
lengths_alike a b (v ∷ vs) (w ∷ ws) like = ap suc (lengths_alike a b vs ws like.1)

pub lengths_differ : (a b : StateFacts) (vs ws : List Var) → length vs ≢ length ws → IsTrue false ↔ AreLike a b vs ws
lengths_differ a b vs ws other = (λ is. absurd cc, λ like. absurd (other (lengths_alike a b vs ws like)))

-- The lists from one place on begin with what stands there.
rests : (a b : StateFacts) (vs ws : List Var) (i : ℕ) (v w : Var) → i < length vs → i < length ws
    → AreLike a b (drop i vs) (drop i ws) ≡ (IsLike a b (get_or vs i v) (get_or ws i w) × AreLike a b (drop (i + 1) vs) (drop (i + 1) ws))
rests a b vs ws i v w inside within =
    let first : drop i vs ≡ get_or vs i v ∷ drop (suc i) vs = drop-cons vs i v inside in
    let second : drop i ws ≡ get_or ws i w ∷ drop (suc i) ws = drop-cons ws i w within in
    let next : i + 1 ≡ suc i = add-one i in
    rw (first, second, next) refl

pub like_on : (a b : StateFacts) (vs ws : List Var) (i : ℕ) (v w : Var) → i < length vs → i < length ws
    → IsLike a b (get_or vs i v) (get_or ws i w) → AreLike a b vs ws ↔ AreLike a b (drop i vs) (drop i ws)
    → AreLike a b vs ws ↔ AreLike a b (drop (i + 1) vs) (drop (i + 1) ws)
like_on a b vs ws i v w inside within like so_far =
    let split = rests a b vs ws i v w inside within in
    (λ all. (subst (λ t. t) split (so_far.0 all)).1, λ rest. so_far.1 (subst (λ t. t) (sym split) (like, rest)))

pub unlike_here : (a b : StateFacts) (vs ws : List Var) (i : ℕ) (v w : Var) → i < length vs → i < length ws
    → (IsLike a b (get_or vs i v) (get_or ws i w) → ⊥) → AreLike a b vs ws ↔ AreLike a b (drop i vs) (drop i ws)
    → IsTrue false ↔ AreLike a b vs ws
unlike_here a b vs ws i v w inside within unlike so_far =
    (λ is. absurd cc, λ all. absurd (unlike (subst (λ t. t) (rests a b vs ws i v w inside within) (so_far.0 all)).0))

pub like_all : (a b : StateFacts) (vs ws : List Var) (i : ℕ) → length vs ≤ i → length vs ≡ length ws
    → AreLike a b vs ws ↔ AreLike a b (drop i vs) (drop i ws) → IsTrue true ↔ AreLike a b vs ws
like_all a b vs ws i past same so_far =
    let first : drop i vs ≡ [] = drop_all i vs past in
    let second : drop i ws ≡ [] = drop_all i ws (subst (λ n. n ≤ i) same past) in
    (λ is. so_far.1 (subst (λ l. AreLike a b l (drop i ws)) (sym first) (subst (λ l. AreLike a b [] l) (sym second) tt)), λ all. refl)

pub ruleset likeness = (lengths_differ, like_on, unlike_here, like_all)
