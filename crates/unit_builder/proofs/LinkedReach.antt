-- What is reached in a graph whose nodes are listed: a walk that meets each once comes to its end.
use Rattle.std.proofs.Common.{◌≡◌, ◌↔◌, ℕ, zero, suc, ◌+◌, ◌<◌, ◌≤◌, Bool, true, false, cond, List, [], ◌∷◌, ◌++◌, length, get_or, Contains, Option, Some, None, is_some, IsSome, refl, sym, ap, subst, ◌∙◌, inl, inr, length-append, true≢false, arith}
use Rattle.std.specs.Prelude.{nat_eq}
use Rattle.std.proofs.lemmas.Bool.{cases_lt, eq-eqb}
use Rattle.std.proofs.lemmas.List.{get_or_append_left, length_push}
use Rattle.unit_builder.specs.Met.{all_met, met, met_by, place_in}
use Rattle.unit_builder.specs.Reach.{Reaches, reaches_in}
use Rattle.unit_builder.proofs.MetLemmas.{before_or_last, place-last, place-stays, place-tells}
use Rattle.unit_builder.proofs.ReachLemmas.{Contains-behind, equal_numbers, goes_on, reaches, stays_in, within_more}
use Rattle.unit_builder.proofs.ReachedWorlds.{first_alone}
use Rattle.unit_builder.proofs.VisitLemmas.{some_is}
use Rattle.unit_builder.proofs.WalkLemmas.{all-each, all-extends, all-stays, all-there, some_there}

-- ---- how many pass

-- How many of a list pass a test.
abbrev passed : (ℕ → Bool) → List ℕ → ℕ
passed test [] = 0
passed test (n ∷ ns) = cond (test n) (suc (passed test ns)) (passed test ns)

few_pass : (test : ℕ → Bool) (ns : List ℕ) → passed test ns ≤ length ns
few_pass test [] = omega arith
few_pass test (n ∷ ns) = by (test n) (few_pass test ns)
  where
    by : (b : Bool) → passed test ns ≤ length ns → cond b (suc (passed test ns)) (passed test ns) ≤ suc (length ns)
    by true rest = omega (arith, rest)
    by false rest = omega (arith, rest)

module _ (less more : ℕ → Bool) (weaker : (n : ℕ) → less n ≡ true → more n ≡ true) where
  no_fewer : (ns : List ℕ) → passed less ns ≤ passed more ns
  no_fewer [] = omega arith
  no_fewer (n ∷ ns) = by (less n) (more n) (weaker n) (no_fewer ns)
    where
      by : (a b : Bool) → (a ≡ true → b ≡ true) → passed less ns ≤ passed more ns → cond a (suc (passed less ns)) (passed less ns) ≤ cond b (suc (passed more ns)) (passed more ns)
      by true true so rest = omega (arith, rest)
      by true false so rest = absurd (true≢false (sym (so refl)))
      by false true so rest = omega (arith, rest)
      by false false so rest = rest

  one_more : (ns : List ℕ) (n place : ℕ) → place < length ns → get_or ns place n ≡ n → less n ≡ false → more n ≡ true → suc (passed less ns) ≤ passed more ns
  one_more [] n place lt is fails passes = absurd (omega (arith, lt))
  one_more (first ∷ ns) n zero lt is fails passes =
      let here : less first ≡ false = ap less is ∙ fails in
      let there : more first ≡ true = ap more is ∙ passes in
      rw (here, there) (let rest = no_fewer ns in omega (arith, rest))
  one_more (first ∷ ns) n (suc place) lt is fails passes = by (less first) (more first) (weaker first) (one_more ns n place (omega (arith, lt)) is fails passes)
    where
      by : (a b : Bool) → (a ≡ true → b ≡ true) → suc (passed less ns) ≤ passed more ns
          → suc (cond a (suc (passed less ns)) (passed less ns)) ≤ cond b (suc (passed more ns)) (passed more ns)
      by true true so rest = omega (arith, rest)
      by true false so rest = absurd (true≢false (sym (so refl)))
      by false true so rest = omega (arith, rest)
      by false false so rest = rest

-- ---- methods that are met

abbrev is_met : List ℕ → ℕ → Bool
is_met order key = is_some (place_in order key)

none_is_false : (found : Option ℕ) → found ≡ None → is_some found ≡ false
none_is_false None none = refl
none_is_false (Some n) none = absurd cc

stays_met : (order : List ℕ) (token key : ℕ) → is_met order key ≡ true → is_met (order ++ token ∷ []) key ≡ true
stays_met order token key is =
    let found = some_is (place_in order key) is in some_there (place_in (order ++ token ∷ []) key) found.0 (place-stays order (token ∷ []) key found.0 found.1)

module _ (keys : List ℕ) where
  -- No more were met than are listed.
  abbrev AreFew : List ℕ → Type 0
  AreFew order = length order ≤ passed (is_met order) keys

  one_met : (order : List ℕ) (token : ℕ) → AreFew order → Contains keys token → AreFew (met order token)
  one_met order token few listed = by (place_in order token) refl
    where
      by : (place : Option ℕ) → place_in order token ≡ place → AreFew (met_by order token place)
      by (Some place) is = few
      by None none =
          let grown = one_more (is_met order) (is_met (order ++ token ∷ [])) (stays_met order token) keys token listed.0 listed.1 listed.2
          (none_is_false (place_in order token) none) (some_there (place_in (order ++ token ∷ []) token) (length order) (place-last order token none)) in
          omega (arith, grown, few, length_push order token)

  all_few : (calls order : List ℕ) → AreFew order → ((token : ℕ) → Contains calls token → Contains keys token) → AreFew (all_met order calls)
  all_few [] order few listed = few
  all_few (token ∷ calls) order few listed =
      all_few calls (met order token) (one_met order token few (listed token (0, omega arith, refl))) (λ other has. listed other (Contains-behind token calls other has))

-- ---- the way

module _ (keys : List ℕ) (next : ℕ → List ℕ) (In : ℕ → Type 0) (listed : (key : ℕ) → In key → Contains keys key)
    (closed : (key called : ℕ) → Contains (next key) called → In called) (from : ℕ) where
  -- The nodes that were met on the way from one. Those after the first n of them were followed.
  record IsOnWay (order : List ℕ) (n : ℕ) : Type 0 where
    start : place_in order from ≡ Some 0
    there : (place : ℕ) → place < length order → In (get_or order place 0)
    near : (place : ℕ) → place < length order → reaches_in nat_eq next place from (get_or order place 0) ≡ true
    within : n ≤ length order
    followed : (place key : ℕ) → place < n → Contains (next (get_or order place 0)) key → IsSome (place_in order key)

  -- All that is reached is told by ways that are no longer than there are nodes.
  pub record IsReach : Type 0 where
    pub reached : (key : ℕ) → (reaches_in nat_eq next (length keys) from key ≡ true) ↔ Reaches next from key
    pub there : (key : ℕ) → reaches_in nat_eq next (length keys) from key ≡ true → In key

  module _ (order : List ℕ) (n : ℕ) (way : IsOnWay order n) (behind : n < length order) where
    abbrev calls : List ℕ
    calls = next (get_or order n 0)

    stays : (place : ℕ) → place < length order → get_or (all_met order calls) place 0 ≡ get_or order place 0
    stays place lt =
        let extends = all-extends order calls in
        ap (λ (ts : List ℕ). get_or ts place 0) extends.1 ∙ get_or_append_left order extends.0 0 place lt

    longer : length order ≤ length (all_met order calls)
    longer = let extends = all-extends order calls in omega (arith, ap length extends.1, length-append order extends.0)

    followed_more : (place key : ℕ) → place < suc n → Contains (next (get_or (all_met order calls) place 0)) key → IsSome (place_in (all_met order calls) key)
    followed_more place key lt called =
        let of_old = subst (λ (t : ℕ). Contains (next t) key) (stays place (omega (arith, lt, behind))) called in
        elim (before_or_last n place (omega (arith, lt))) [
          | inl before ↦ all-stays order calls key (way.followed place key before of_old)
          | inr last ↦
              let here : Contains calls key = subst (λ (p : ℕ). Contains (next (get_or order p 0)) key) (sym last) of_old in
              all-there calls order key here.0 here.1 here.2
        ]

    way_on : IsOnWay (all_met order calls) (suc n)
    way_on =
        let extends = all-extends order calls in record {
          start = ap (λ (ts : List ℕ). place_in ts from) extends.1 ∙ place-stays order extends.0 from 0 way.start;
          there = all-each (λ place key. In key) calls order way.there (λ key called place after. closed (get_or order n 0) key called);
          near = all-each (λ place key. reaches_in nat_eq next place from key ≡ true) calls order way.near
              (λ key called place after.
              within_more nat_eq equal_numbers next (suc n) place from key (omega (arith, after, behind))
              (goes_on nat_eq equal_numbers next n from (get_or order n 0) key (way.near n behind) called));
          within = omega (arith, longer, behind);
          followed = followed_more;
        }

  module _ (order : List ℕ) (n : ℕ) (way : IsOnWay order n) (all : length order ≤ n) (few : length order ≤ length keys) where
    met_if_reaching : (key : ℕ) → Reaches next from key → IsSome (place_in order key)
    met_if_reaching key reaching =
        stays_in nat_eq equal_numbers next (λ t. IsSome (place_in order t))
        (λ m to met called.
        let found = some_is (place_in order m) met in
        let at = place-tells order m found.0 found.1 in
        way.followed found.0 to (omega (arith, at.0, all)) (subst (λ (t : ℕ). Contains (next t) to) (sym at.1) called))
        from key (some_there (place_in order from) 0 way.start) reaching

    reached_if_met : (key : ℕ) → IsSome (place_in order key) → reaches_in nat_eq next (length keys) from key ≡ true
    reached_if_met key there =
        let found = some_is (place_in order key) there in
        let at = place-tells order key found.0 found.1 in
        within_more nat_eq equal_numbers next found.0 (length keys) from key (omega (arith, at.0, few))
        (subst (λ (t : ℕ). reaches_in nat_eq next found.0 from t ≡ true) at.1 (way.near found.0 at.0))

    reach : IsReach
    reach = record {
      reached = λ key. (reaches nat_eq equal_numbers next (length keys) from key, λ reaching. reached_if_met key (met_if_reaching key reaching));
      there = λ key reached.
          let found = some_is (place_in order key) (met_if_reaching key (reaches nat_eq equal_numbers next (length keys) from key reached)) in
          let at = place-tells order key found.0 found.1 in
          subst In at.1 (way.there found.0 at.0);
    }

  -- It goes on while nodes are met after which nothing was followed.
  goes_far : (left : ℕ) (order : List ℕ) (n : ℕ) → IsOnWay order n → AreFew keys order → length keys ≤ n + left → IsReach
  goes_far zero order n way few enough =
      let all = few_pass (is_met order) keys in reach order n way (omega (arith, few, all, enough)) (omega (arith, few, all))
  goes_far (suc left) order n way few enough =
      let all = few_pass (is_met order) keys in
      elim (cases_lt n (length order)) [
        | inl behind ↦
            goes_far left (all_met order (next (get_or order n 0))) (suc n) (way_on order n way behind)
            (all_few keys (next (get_or order n 0)) order few (λ key called. listed key (closed (get_or order n 0) key called)))
            (omega (arith, enough))
        | inr past ↦ reach order n way (omega (arith, past)) (omega (arith, few, all))
      ]

  pub reach_of : In from → IsReach
  reach_of there =
      let same : place_in (from ∷ []) from ≡ Some 0 = rw (eq-eqb from from refl) refl in
      goes_far (length keys) (from ∷ []) 0
      (record {
        start = same;
        there = first_alone (λ place key. In key) from there;
        near = first_alone (λ place key. reaches_in nat_eq next place from key ≡ true) from (eq-eqb from from refl);
        within = omega arith;
        followed = λ place key lt called. absurd (omega (arith, lt));
      })
      (one_met keys [] from (omega arith) (listed from there)) (omega arith)
