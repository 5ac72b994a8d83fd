-- Tables of references and pairs tell no more than what they were made from.
use Rattle.std.proofs.Common.{◌≡◌, ℕ, ◌-◌, Bool, true, false, ◌&&◌, ◌==◌, true≢false, List, [], ◌∷◌, get_or, drop, length, Option, Some, if◌then◌else◌, refl, sym, ap, ◌∙◌, subst, map, None}
use Rattle.std.specs.Prelude.{IfSome}
use Rattle.std.specs.List.{AllByRecursion, fold, range_with_len, list_all}
use Rattle.std.proofs.lemmas.Bool.Decides.{Decides-eqb}
use Rattle.cil_model.specs.declared.place.Place.{Place}
use Rattle.cil_model.specs.Places.{place_number}
use Rattle.domain_api.specs.declared.expr.Expr.{Expr}
use Rattle.alias_facts.specs.Arrays.{AllDiffer, Differ}
use Rattle.alias_facts.specs.NullnessOf.{entailed}
use Rattle.alias_facts.specs.PairsOf.{Pair, contains, ordered, with_pair}
use Rattle.alias_facts.proofs.ApartLaws.{contained_differ, must_differ_sound, with_pair_differ}
use Rattle.alias_facts.proofs.NullnessLaws.{entailed_agrees, joined_left, joined_right}
use Rattle.symbolic_values.specs.declared.pairs.Key.{Key}
use Rattle.frame_names.specs.ApartPairs.{are_apart_in_both, cannot_be_same, joined_apart, kept_apart, pairs_by, were_kept, with_row, with_test}
use Rattle.frame_names.specs.Following.{all_apart, all_entailed}
use Rattle.frame_names.specs.Frames.{AreAlike, are_one_place, nullness_at, place_at, references_of}
use Rattle.symbolic_values.specs.Names.{as_expr}
use Rattle.symbolic_values.specs.Pairing.{known_in, origin, uses_of}
use Rattle.frame_names.specs.MergedReferences.{merged_references, one_place}
use Rattle.frame_names.specs.declared.var.Var.{Var}
use Rattle.frame_names.specs.declared.var.Var.TheVariants as vars
use Rattle.frame_names.proofs.UseLemmas.{all_behind, all_first}
use Rattle.frame_names.specs.PairedFrames.{FramePairing, behind, is_near, named_frame, old_at, paired_frames, pairing_by, pairs_of}
use Rattle.frame_names.specs.Tables.{AgreeBound, AgreeOnPlace, AreNulls, AreNullsOnBoth, AreOfOnePlace, ArePlaces, ArePlacesOnBoth, DifferAsKept, DifferBound, DifferOnBoth, arrays_by}
use Rattle.frame_names.specs.declared.merging.MergedReference.{MergedReference}
use Rattle.frame_names.specs.declared.reference.Reference.{Reference}

both_of : (a b : Bool) → (a && b) ≡ true → (a ≡ true) × (b ≡ true)
both_of true true is = (refl, refl)
both_of true false is = cc
both_of false b is = cc

itself : (n : ℕ) → (n == n) ≡ true
itself n = (Decides-eqb n n).1 refl

-- Two references that are one array are of one type.
of_one_place : (p q : Option Place) (place : Place) → p ≡ Some place → q ≡ Some place → are_one_place p q ≡ false → ⊥
of_one_place p q place first second differ =
    true≢false (sym (itself (place_number place)) ∙ sym (ap (λ x. are_one_place x q) first ∙ ap (are_one_place (Some place)) second) ∙ differ)

-- References that a state tells not to be the same array are not.
pub told_differ : (known : List Reference) (pairs : List Pair) (array : ℕ → Option ℕ) (place : ℕ → Place) (r q : ℕ) → AreNulls known array
    → ArePlaces known array place → AllDiffer array pairs → cannot_be_same known pairs r q ≡ true → Differ array r q
told_differ known pairs array place r q nulls places differ is =
    must_differ_sound array r q (contains pairs (ordered r q)) (are_one_place (place_at known r) (place_at known q)) (nullness_at known r) (nullness_at known q)
    (λ kept. contained_differ pairs array r q kept differ)
    (λ other. λ n first second. of_one_place (place_at known r) (place_at known q) (place n) (places r n first) (places q n second) other)
    (nulls r) (nulls q) is

-- ---- pairs of new references

module _ (array : ℕ → Option ℕ) (test : ℕ → ℕ → Bool) (sound : (r q : ℕ) → test r q ≡ true → Differ array r q) where
  test_differ : (higher lower : ℕ) (pairs : List Pair) (is : Bool) → test lower higher ≡ is → AllDiffer array pairs
      → AllDiffer array (if is then with_pair (ordered lower higher) pairs else pairs)
  test_differ higher lower pairs true is all = with_pair_differ pairs array lower higher all (sound lower higher is)
  test_differ higher lower pairs false is all = all

  row_differ : (higher : ℕ) (lowers : List ℕ) (pairs : List Pair) → AllDiffer array pairs → AllDiffer array (fold (with_test test higher) pairs lowers)
  row_differ higher [] pairs all = all
  row_differ higher (lower ∷ lowers) pairs all =
      row_differ higher lowers (with_test test higher pairs lower) (test_differ higher lower pairs (test lower higher) refl all)

  rows_differ : (highers : List ℕ) (pairs : List Pair) → AllDiffer array pairs → AllDiffer array (fold (with_row test) pairs highers)
  rows_differ [] pairs all = all
  rows_differ (higher ∷ highers) pairs all =
      rows_differ highers (with_row test pairs higher) (row_differ higher (range_with_len 1 (higher - 1)) pairs all)

  pairs_differ : (count : ℕ) → AllDiffer array (pairs_by test count)
  pairs_differ count = rows_differ (range_with_len 1 count) [] tt

both_differ : (keys : List Key) (a : List Reference) (a_pairs : List Pair) (b : List Reference) (b_pairs : List Pair)
    → DifferOnBoth keys a a_pairs b b_pairs (joined_apart keys a a_pairs b b_pairs)
both_differ keys a a_pairs b b_pairs true array place nulls places differ =
    pairs_differ (arrays_by true array keys) (are_apart_in_both keys a a_pairs b b_pairs)
    (λ r q is. told_differ a a_pairs array place (old_at true keys r) (old_at true keys q) nulls places differ (both_of _ _ is).0) (length keys)
both_differ keys a a_pairs b b_pairs false array place nulls places differ =
    pairs_differ (arrays_by false array keys) (are_apart_in_both keys a a_pairs b b_pairs)
    (λ r q is. told_differ b b_pairs array place (old_at false keys r) (old_at false keys q) nulls places differ (both_of _ _ is).1) (length keys)

-- As a clause says it.
pub joined_differ : (keys : List Key) (a : List Reference) (a_pairs : List Pair) (b : List Reference) (b_pairs pairs : List Pair)
    → pairs ≡ joined_apart keys a a_pairs b b_pairs → DifferOnBoth keys a a_pairs b b_pairs pairs
joined_differ keys a a_pairs b b_pairs pairs is = subst (DifferOnBoth keys a a_pairs b b_pairs) (sym is) (both_differ keys a a_pairs b b_pairs)

pub kept_differ : (keys : List Key) (kept pairs : List Pair) → pairs ≡ kept_apart keys kept → DifferAsKept keys kept pairs
kept_differ keys kept pairs is =
    subst (DifferAsKept keys kept) (sym is) (λ array differ. pairs_differ (arrays_by true array keys) (were_kept keys kept)
    (λ r q told. contained_differ kept array (old_at true keys r) (old_at true keys q) told differ) (length keys))

-- ---- merged references

both_nulls : (a b : List Reference) (keys : List Key) (lengths : List Expr) → AreNullsOnBoth a b (merged_references a b keys lengths)
both_nulls a b [] lengths is_first array nulls = tt
both_nulls a b (key ∷ keys) lengths true array nulls =
    (joined_left (nullness_at a key.s) (nullness_at b key.t) _ (nulls key.s), both_nulls a b keys (behind lengths) true array nulls)
both_nulls a b (key ∷ keys) lengths false array nulls =
    (joined_right (nullness_at a key.s) (nullness_at b key.t) _ (nulls key.t), both_nulls a b keys (behind lengths) false array nulls)

pub merged_nulls : (a b : List Reference) (keys : List Key) (lengths : List Expr) (merged : List MergedReference)
    → merged ≡ merged_references a b keys lengths → AreNullsOnBoth a b merged
merged_nulls a b keys lengths merged is = subst (AreNullsOnBoth a b) (sym is) (both_nulls a b keys lengths)

one_of_both : (a b : List Reference) (key : Key) (place : Place) (first : Option Place) → AgreeOnPlace a b key → place_at a key.s ≡ first
    → place_at b key.t ≡ Some place → one_place first (place_at b key.t) ≡ place
one_of_both a b key place None agree first second = ap (one_place None) second
one_of_both a b key place (Some p) agree first second = agree p place first second

both_places : (a b : List Reference) (keys : List Key) (lengths : List Expr) → ArePlacesOnBoth a b keys (merged_references a b keys lengths)
both_places a b [] lengths is_first array place agree places = tt
both_places a b (key ∷ keys) lengths true array place agree places = (
  λ n is. ap (λ first. one_place first (place_at b key.t)) (places key.s n is),
  both_places a b keys (behind lengths) true array place agree.1 places,
)
both_places a b (key ∷ keys) lengths false array place agree places = (
  λ n is. one_of_both a b key (place n) (place_at a key.s) agree.0 refl (places key.t n is),
  both_places a b keys (behind lengths) false array place agree.1 places,
)

pub merged_places : (a b : List Reference) (keys : List Key) (lengths : List Expr) (merged : List MergedReference)
    → merged ≡ merged_references a b keys lengths → ArePlacesOnBoth a b keys merged
merged_places a b keys lengths merged is = subst (ArePlacesOnBoth a b keys) (sym is) (both_places a b keys lengths)

-- ---- the keys of paired variables

module _ (known other : List Reference) where
  uses_agree : (a b : List Var) → AreAlike a b → AreOfOnePlace known other a b
      → AllByRecursion (AgreeOnPlace known other) (uses_of (map as_expr (references_of a)) (map as_expr (references_of b)))
  uses_agree [] [] alike places = tt
  uses_agree [] (y ∷ b) alike places = absurd alike
  uses_agree (x ∷ a) [] alike places = absurd alike
  uses_agree (vars.Number e ∷ a) (vars.Number f ∷ b) alike places = uses_agree a b alike.1 places
  uses_agree (vars.Reference r ∷ a) (vars.Reference q ∷ b) alike places = (places.0, uses_agree a b alike.1 places.1)
  uses_agree (vars.Text ∷ a) (vars.Text ∷ b) alike places = uses_agree a b alike.1 places
  uses_agree (vars.Address r e ∷ a) (vars.Address q f ∷ b) alike places = (places.0, uses_agree a b alike.1 places.1)
  uses_agree (x ∷ a) (y ∷ b) alike places = absurd (true≢false (sym alike.0))

  origin_agrees : AgreeOnPlace known other origin
  origin_agrees = λ p q first second. cc

  keys_agree : (a b : List Var) → AreAlike a b → AreOfOnePlace known other a b → AllByRecursion (AgreeOnPlace known other) (pairs_of a b).keys
  keys_agree a b alike places =
      all_behind (AgreeOnPlace known other) (known_in (map as_expr (references_of a)) (map as_expr (references_of b)))
      (all_first (AgreeOnPlace known other) (origin ∷ []) (uses_of (map as_expr (references_of a)) (map as_expr (references_of b))) (origin_agrees, tt)
      (uses_agree a b alike places))

  near_keys : (a b : List Var) (new : FramePairing) (found : Option FramePairing) (near : Bool) → found ≡ (if near then Some new else None)
      → AllByRecursion (AgreeOnPlace known other) new.references.keys
      → IfSome found (λ frames. AllByRecursion (AgreeOnPlace known other) frames.references.keys)
  near_keys a b new found true is all = subst (λ f. IfSome f (λ frames. AllByRecursion (AgreeOnPlace known other) frames.references.keys)) (sym is) all
  near_keys a b new found false is all = subst (λ f. IfSome f (λ frames. AllByRecursion (AgreeOnPlace known other) frames.references.keys)) (sym is) tt

  -- Where the references at each index are of one type, so are those of each key.
  pub frames_agree : (a b : List Var) (found : Option FramePairing) → AreAlike a b → AreOfOnePlace known other a b → found ≡ paired_frames a known b other
      → IfSome found (λ frames. AllByRecursion (AgreeOnPlace known other) frames.references.keys)
  frames_agree a b found alike places is =
      near_keys a b (named_frame a (pairs_of a b) (pairing_by (pairs_of a b) a known b other)) found
      (list_all is_near (pairing_by (pairs_of a b) a known b other).exprs) is (keys_agree a b alike places)

-- ---- a bound state

pub entailed_bound : (a b : List Reference) (bound : List ℕ) (array : ℕ → Option ℕ) → all_entailed a b bound ≡ true → AreNulls a array
    → AgreeBound array b bound
entailed_bound a [] bound array all nulls = tt
entailed_bound a (known ∷ b) bound array all nulls =
    let both = both_of (entailed (nullness_at a (get_or bound 0 0)) known.nullness) (all_entailed a b (drop 1 bound)) all in
    (entailed_agrees (nullness_at a (get_or bound 0 0)) known.nullness _ both.0 (nulls (get_or bound 0 0)), entailed_bound a b (drop 1 bound) array both.1 nulls)

pub apart_bound : (a : List Reference) (kept : List Pair) (bound : List ℕ) (pairs : List Pair) → all_apart a kept bound pairs ≡ true
    → DifferBound a kept bound pairs
apart_bound a kept bound [] all = λ array place nulls places differ. tt
apart_bound a kept bound (p ∷ pairs) all = λ array place nulls places differ.
    let both = both_of (cannot_be_same a kept (get_or bound p.0 0) (get_or bound p.1 0)) (all_apart a kept bound pairs) all in (
      told_differ a kept array place (get_or bound p.0 0) (get_or bound p.1 0) nulls places differ both.0,
      apart_bound a kept bound pairs both.1 array place nulls places differ,
    )
