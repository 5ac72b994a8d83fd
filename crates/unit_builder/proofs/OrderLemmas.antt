-- The order of the methods of a world.
use Rattle.std.proofs.Common.{◌≡◌, ◌≢◌, ℕ, suc, ◌+◌, ◌<◌, ◌≤◌, ◌==◌, Bool, true, false, not, ◌&&◌, cond, List, [], ◌∷◌, ◌++◌, length, get_or, take, drop, filter, filter_map, Option, Some, None, option_map, is_some, is_none, Ok, Err, refl, sym, ap, ◌∙◌, subst, arith}
use Rattle.std.specs.List.{cons_option, find}
use Rattle.std.specs.Option.{option_to_list}
use Rattle.std.proofs.lemmas.Bool.{both_ways, eq-eqb, eqb-true, ne_eqb}
use Rattle.std.proofs.lemmas.List.{append-nil, drop_all, drop_more, get_or-map, get_or-take, get_or_default, length-map, length-take-le, map-append, map_more, take_all, take_more}
use Rattle.std.proofs.lemmas.List.Elements.{filter-append, filter_map-append}
use Rattle.std.proofs.lemmas.Option.{slice_get-get_or}
use Rattle.asm_image.specs.Rows.{methods_of}
use Rattle.asm_image.specs.declared.method_row.MethodRow.{MethodRow}
use Rattle.cc_base.specs.declared.token.Token.{Token}
use Rattle.unit_builder.specs.Met.{IsAmong, first_method, met, place_in}
use Rattle.unit_builder.specs.Walks.{IsWhole, Tells, is_reached, numbers, tokens_in, unit_at}
use Rattle.unit_builder.specs.WorldOf.{JudgesWorld, PutsNext, first_missing, is_missing, least_skipped, order_so_far, world_tokens}
use Rattle.unit_builder.specs.declared.reach.Visited.{Visited}
use Rattle.unit_builder.specs.declared.world.WorldRefusal.{WorldRefusal}
use Rattle.unit_builder.specs.declared.world.WorldRefusal.TheVariants.{NotAnalysed, NoMemory}
use Rattle.unit_builder.proofs.MetLemmas.{none_by, place-tells}
use Rattle.unit_builder.proofs.TokenLemmas.{token_at}

-- ---- places

pub place_within : (tokens : List ℕ) (token place count : ℕ) → Some place ≡ place_in tokens token → count ≡ length tokens → place < count
place_within tokens token place count is same = omega (arith, (place-tells tokens token place (sym is)).0)

one_found : {X : Type 0} (found : Option X) → cons_option found [] ≡ option_to_list found
one_found None = refl
one_found (Some x) = refl

-- What is found of one method more.
pub found-push : {X : Type 0} (find : ℕ → Option X) (listed : List Token) (index : ℕ) (d : Token) (found : Option X) (old new : List X) → index < length listed
    → old ≡ filter_map find (numbers (take index listed)) → found ≡ find (get_or listed index d).0 → new ≡ old ++ option_to_list found
    → new ≡ filter_map find (numbers (take (index + 1) listed))
found-push find listed index d found old new lt old_is found_is new_is =
    new_is
    ∙ ap (λ xs. xs ++ option_to_list found) old_is
    ∙ ap (λ xs. filter_map find (numbers (take index listed)) ++ xs) (ap option_to_list found_is ∙ sym (one_found (find (get_or listed index d).0)))
    ∙ sym (filter_map-append find (numbers (take index listed)) ((get_or listed index d).0 ∷ []))
    ∙ ap (filter_map find) (sym (map-append (λ t. t.0) (take index listed) (get_or listed index d ∷ [])))
    ∙ ap (λ ts. filter_map find (numbers ts)) (sym (take_more listed index d lt))

-- ---- one method

module _ (asm : List ℕ) (from : ℕ) (tokens : List ℕ) (visits : List (Option Visited)) (whole : IsWhole asm from tokens visits) (token : Token) (old : List ℕ) where
  reached_is : (place : Option ℕ) → place ≡ place_in tokens token.0 → is_reached asm from token.0 ≡ is_some place
  reached_is place is = sym (whole.met token.0) ∙ ap is_some (sym is)

  -- What was made of it.
  slot_tells : (place : ℕ) (slot : Option Visited) → Some place ≡ place_in tokens token.0 → slot ≡ get_or visits place slot → Tells asm token.0 slot
  slot_tells place slot is slot_is =
      let at = place-tells tokens token.0 place (sym is) in
      let told = whole.told place (omega (arith, at.0, whole.all)) in
      let same : get_or visits place None ≡ slot = get_or_default visits place None slot (omega (arith, at.0, whole.all)) ∙ sym slot_is in
      subst (λ t. Tells asm t slot) at.1 (subst (λ v. Tells asm (get_or tokens place 0) v) same told)

  missing_is : (slot : Option Visited) → Tells asm token.0 slot → is_none (unit_at asm token.0) ≡ is_none slot
  missing_is None none = ap is_none none
  missing_is (Some visited) told = ap is_none told.unit

  pub refuses : (place : ℕ) (slot : Option Visited) → Some place ≡ place_in tokens token.0 → slot ≡ get_or visits place slot → is_none slot ≡ true
      → PutsNext asm from token.0 old old (Err (NotAnalysed token))
  refuses place slot is slot_is none =
      let reached = reached_is (Some place) is in
      let missing = missing_is slot (slot_tells place slot is slot_is) ∙ none in
      (rw (reached, missing) refl, refl)

  pub puts-met : (place : ℕ) (slot : Option Visited) (new : List ℕ) → Some place ≡ place_in tokens token.0 → slot ≡ get_or visits place slot → is_none slot ≡ false
      → new ≡ met old token.0 → PutsNext asm from token.0 old new (Ok tt)
  puts-met place slot new is slot_is some new_is =
      let reached = reached_is (Some place) is in
      let missing = missing_is slot (slot_tells place slot is slot_is) ∙ some in
      (rw (reached, missing) refl, rw reached new_is)

-- ---- one method after another

find_next : (test : ℕ → Bool) (n : ℕ) (ns : List ℕ) → test n ≡ false → find test (n ∷ ns) ≡ find test ns
find_next test n ns fails = rw fails refl

find_here : (test : ℕ → Bool) (n : ℕ) (ns : List ℕ) → test n ≡ true → find test (n ∷ ns) ≡ Some n
find_here test n ns passes = rw passes refl

absent : (tokens : List ℕ) (token : ℕ) → ((place : ℕ) → place < length tokens → get_or tokens place 0 ≢ token) → place_in tokens token ≡ None
absent tokens token apart = none_by (place_in tokens token) (λ place is. let at = place-tells tokens token place is in apart place at.0 at.1)

absent_head : (b : Bool) (rest : Option ℕ) → cond b (Some 0) (option_map suc rest) ≡ None → (b ≡ false) × (rest ≡ None)
absent_head true rest none = absurd cc
absent_head false None none = (refl, refl)
absent_head false (Some place) none = absurd cc

absent_behind : (keep : Bool) (first token : ℕ) (tokens : List ℕ) → (first == token) ≡ false → place_in tokens token ≡ None → place_in (cond keep (first ∷ tokens) tokens) token ≡ None
absent_behind true first token tokens apart none = rw (apart, none) refl
absent_behind false first token tokens apart none = none

absent_filter : (test : ℕ → Bool) (tokens : List ℕ) (token : ℕ) → place_in tokens token ≡ None → place_in (filter test tokens) token ≡ None
absent_filter test [] token none = refl
absent_filter test (first ∷ tokens) token none =
    let parts = absent_head (first == token) (place_in tokens token) none in
    absent_behind (test first) first token (filter test tokens) parts.0 (absent_filter test tokens token parts.1)

met_again : (from : ℕ) (rest : List ℕ) → met (from ∷ rest) from ≡ from ∷ rest
met_again from rest = rw (eq-eqb from from refl) refl

order_by : (same reached : Bool) (from token : ℕ) (rest : List ℕ) → (same ≡ true → token ≡ from) → (same ≡ false → place_in (from ∷ rest) token ≡ None)
    → cond reached (met (from ∷ rest) token) (from ∷ rest) ≡ from ∷ (rest ++ cond (not same && reached) (token ∷ []) [])
order_by true true from token rest same apart = subst (λ t. met (from ∷ rest) t ≡ from ∷ (rest ++ [])) (sym (same refl)) (met_again from rest ∙ ap (λ ts. from ∷ ts) (sym (append-nil rest)))
order_by true false from token rest same apart = ap (λ ts. from ∷ ts) (sym (append-nil rest))
order_by false true from token rest same apart = rw (apart refl) refl
order_by false false from token rest same apart = ap (λ ts. from ∷ ts) (sym (append-nil rest))

order_next : (asm : List ℕ) (from token : ℕ) (before : List ℕ) → place_in before token ≡ None
    → cond (is_reached asm from token) (met (from ∷ filter (λ t. not (t == from) && is_reached asm from t) before) token) (from ∷ filter (λ t. not (t == from) && is_reached asm from t) before)
    ≡ from ∷ filter (λ t. not (t == from) && is_reached asm from t) (before ++ token ∷ [])
order_next asm from token before absent =
    let test : ℕ → Bool = λ t. not (t == from) && is_reached asm from t in
    order_by (token == from) (is_reached asm from token) from token (filter test before) (eqb-true token from)
    (λ other. rw (ne_eqb from token (λ same. both_ways (token == from) other (eq-eqb token from (sym same))), absent_filter test before token absent) refl)
    ∙ ap (λ ts. from ∷ ts) (sym (filter-append test before (token ∷ [])))

module _ (asm : List ℕ) (from index : ℕ) (lt : index < length (methods_of asm)) (method : MethodRow) (here : method ≡ get_or (methods_of asm) index method) where
  number_of : (place : ℕ) → place < length (methods_of asm) → (get_or (methods_of asm) place method).token.0 ≡ first_method + place
  number_of place there = token_at asm place (get_or (methods_of asm) place method) (slice_get-get_or (methods_of asm) place method there)

  number_is : method.token.0 ≡ first_method + index
  number_is = ap (λ m. m.token.0) here ∙ number_of index lt

  pub among_here : (count : ℕ) → count ≡ length (methods_of asm) → IsAmong count method.token.0
  among_here count is = record { from = omega (arith, number_is); below = omega (arith, number_is) }

  rest_is : drop index (methods_of asm) ≡ method ∷ drop (index + 1) (methods_of asm)
  rest_is = drop_more (methods_of asm) index method lt ∙ ap (λ m. m ∷ drop (index + 1) (methods_of asm)) (sym here)

  -- What was refused is the first that is missing.
  pub refused-judged : {X : Type 0} (P : X → Type 0) (refusal : WorldRefusal) (old new : List ℕ) → first_missing asm from (drop index (methods_of asm)) ≡ first_missing asm from (methods_of asm)
      → PutsNext asm from method.token.0 old new (Err refusal) → JudgesWorld (Err refusal) (least_skipped asm from) P
  unfolding least_skipped
  refused-judged P (NotAnalysed token) old new before put =
      sym before ∙ ap (first_missing asm from) rest_is ∙ find_here (is_missing asm from) method.token.0 (tokens_in (drop (index + 1) (methods_of asm))) put.0 ∙ ap Some (sym put.1)
  refused-judged P NoMemory old new before put = tt

  pub missing_later : first_missing asm from (drop index (methods_of asm)) ≡ first_missing asm from (methods_of asm)
      → is_missing asm from method.token.0 ≡ false → first_missing asm from (drop (index + 1) (methods_of asm)) ≡ first_missing asm from (methods_of asm)
  missing_later before there =
      sym (find_next (is_missing asm from) method.token.0 (tokens_in (drop (index + 1) (methods_of asm))) there) ∙ sym (ap (first_missing asm from) rest_is) ∙ before

  absent_before : place_in (tokens_in (take index (methods_of asm))) method.token.0 ≡ None
  absent_before = absent (tokens_in (take index (methods_of asm))) method.token.0 (λ place below same.
      let long : place < index = omega (arith, length-map (take index (methods_of asm)) (λ (m : MethodRow). m.token.0), length-take-le index (methods_of asm)) in
      let at : get_or (tokens_in (take index (methods_of asm))) place 0 ≡ first_method + place =
      get_or-map (λ (m : MethodRow). m.token.0) (take index (methods_of asm)) place method 0 (omega (arith, length-take-le index (methods_of asm)))
      ∙ ap (λ m. m.token.0) (get_or-take index (methods_of asm) place method long) ∙ number_of place (omega arith) in
      omega (arith, number_is))

  pub order_more : (old new : List ℕ) → old ≡ order_so_far asm from (take index (methods_of asm))
      → new ≡ cond (is_reached asm from method.token.0) (met old method.token.0) old
      → new ≡ order_so_far asm from (take (index + 1) (methods_of asm))
  order_more old new old_is new_is =
      new_is ∙ ap (λ ts. cond (is_reached asm from method.token.0) (met ts method.token.0) ts) old_is
      ∙ order_next asm from method.token.0 (tokens_in (take index (methods_of asm))) absent_before
      ∙ ap (λ ts. from ∷ filter (λ t. not (t == from) && is_reached asm from t) ts) (sym (tokens_more))
    where
      tokens_more : tokens_in (take (index + 1) (methods_of asm)) ≡ tokens_in (take index (methods_of asm)) ++ method.token.0 ∷ []
      tokens_more = map_more (λ (m : MethodRow). m.token.0) (methods_of asm) index method lt ∙ ap (λ (m : MethodRow). tokens_in (take index (methods_of asm)) ++ m.token.0 ∷ []) (sym here)

-- ---- the end

pub none_missing : (asm : List ℕ) (from index : ℕ) → length (methods_of asm) ≤ index
    → first_missing asm from (drop index (methods_of asm)) ≡ first_missing asm from (methods_of asm) → least_skipped asm from ≡ None
unfolding least_skipped
none_missing asm from index past before = sym before ∙ ap (first_missing asm from) (drop_all index (methods_of asm) past)

pub order_whole : (asm : List ℕ) (from index : ℕ) (order : List ℕ) → length (methods_of asm) ≤ index
    → order ≡ order_so_far asm from (take index (methods_of asm)) → order ≡ world_tokens asm from
unfolding world_tokens
order_whole asm from index order past is = is ∙ ap (order_so_far asm from) (take_all index (methods_of asm) past)
