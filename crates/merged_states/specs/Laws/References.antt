-- References of two frames that are named together: what is known of each new one is so, and pairs that are kept are.
use Rattle.std.proofs.Common.{◌≡◌, ℕ, zero, suc, ◌-◌, ◌==◌, ℤ, Bool, true, false, List, [], ◌∷◌, length, map, slice_get, get_or, Option, Some, None, refl, sym, ap, ◌∙◌, subst, true≢false}
use Rattle.std.specs.Prelude.{if◌then◌else◌}
use Rattle.std.specs.Option.{option_map_or}
use Rattle.std.specs.List.{AllByRecursion, fold, range_with_len}
use Rattle.std.proofs.lemmas.Bool.{and_parts, cond_both}
use Rattle.std.proofs.lemmas.Bool.Decides.{Decides-eqb}
use Rattle.domain_api.specs.declared.expr.Expr.{Expr}
use Rattle.alias_facts.specs.Arrays.{AllDiffer, Differ, is_no_array}
use Rattle.alias_facts.specs.NullnessOf.{Agrees, joined}
use Rattle.alias_facts.specs.PairsOf.{Pair, contains, ordered, with_pair}
use Rattle.alias_facts.proofs.ApartLaws.{contained_differ, must_differ_sound, with_pair_differ}
use Rattle.alias_facts.proofs.NullnessLaws.{joined_left, joined_right}
use Rattle.cil_model.specs.Places.{place_number}
use Rattle.cil_model.specs.Values.{Heap, has_array, same_place}
use Rattle.cil_model.specs.declared.machine.ArrayCell.{ArrayCell}
use Rattle.cil_model.specs.declared.place.Place.{Place}
use Rattle.frame_names.specs.ApartPairs.{are_apart_in_both, cannot_be_same, joined_apart, kept_apart, pairs_by, were_kept, with_row, with_test}
use Rattle.frame_names.specs.Frames.{are_one_place, length_at, nullness_at, place_at}
use Rattle.frame_names.specs.MergedReferences.{merged_reference, merged_references, one_place}
use Rattle.frame_names.specs.PairedFrames.{old_at, old_of}
use Rattle.frame_names.specs.declared.reference.Reference.{Reference}
use Rattle.symbolic_values.specs.Pairing.{origin}
use Rattle.symbolic_values.specs.Worth.{worth}
use Rattle.symbolic_values.specs.declared.pairs.Key.{Key}
use Rattle.state_facts.specs.Holds.{AreSo, FitsArray, IsSo}
use Rattle.merged_states.specs.Parts.{entry_of}
use Rattle.state_facts.specs.StateFacts as states
use Rattle.merged_states.specs.Laws.Frames.{IsEntry}

-- ---- one new reference

-- Where both old references have a type, it is one.
abbrev pub HaveOnePlace : List Reference → List Reference → Key → Type 0
HaveOnePlace a b u = (p q : Place) → place_at a u.s ≡ Some p → place_at b u.t ≡ Some q → place_number p ≡ place_number q

has_as : (heap : Heap) (p q : Place) (i : ℕ) → place_number p ≡ place_number q → has_array heap p i ≡ has_array heap q i
has_as heap p q i same =
    ap (λ n. option_map_or (λ (cell : ArrayCell). place_number cell.place == n) (slice_get heap i) false) same

pub fits_as : (heap : Heap) (p q : Place) (array : Option ℕ) → place_number p ≡ place_number q
    → FitsArray heap q array → FitsArray heap p array
fits_as heap p q None same fits = tt
fits_as heap p q (Some i) same fits = has_as heap p q i same ∙ fits

pub none_fits : (heap : Heap) (p : Place) (array : Option ℕ) → array ≡ None → FitsArray heap p array
none_fits heap p None is = tt
none_fits heap p (Some i) is = absurd cc

-- The old reference of a side, as the side's state has it.
abbrev pub OldEntry : Heap → (ℕ → ℤ) → Bool → List Reference → List Reference → Key → Option ℕ
    → Type 0
OldEntry heap number is_first a b u array = IsEntry heap number (if is_first then a else b) (old_of is_first u) array

new_fits : (heap : Heap) (number : ℕ → ℤ) (is_first : Bool) (a b : List Reference) (u : Key)
    (array : Option ℕ) (p q : Option Place)
    → place_at a u.s ≡ p → place_at b u.t ≡ q → HaveOnePlace a b u → OldEntry heap number is_first a b u array
    → FitsArray heap (one_place p q) array
new_fits heap number true a b u array (Some p) q first second same old = old.fits p first
new_fits heap number true a b u array None (Some q) first second same old = none_fits heap q array (old.absent first)
new_fits heap number true a b u array None None first second same old =
    none_fits heap (one_place None None) array (old.absent first)
new_fits heap number false a b u array (Some p) (Some q) first second same old =
    fits_as heap p q array (same p q first second) (old.fits q second)
new_fits heap number false a b u array (Some p) None first second same old = none_fits heap p array (old.absent second)
new_fits heap number false a b u array None (Some q) first second same old = old.fits q second
new_fits heap number false a b u array None None first second same old =
    none_fits heap (one_place None None) array (old.absent second)

new_agrees : (heap : Heap) (number : ℕ → ℤ) (is_first : Bool) (a b : List Reference) (u : Key)
    (array : Option ℕ)
    → OldEntry heap number is_first a b u array
    → Agrees (joined (nullness_at a u.s) (nullness_at b u.t)) (is_no_array array)
new_agrees heap number true a b u array old =
    joined_left (nullness_at a u.s) (nullness_at b u.t) (is_no_array array) old.agrees
new_agrees heap number false a b u array old =
    joined_right (nullness_at a u.s) (nullness_at b u.t) (is_no_array array) old.agrees

new_so : (heap : Heap) (number later : ℕ → ℤ) (is_first : Bool) (a b : List Reference) (u : Key)
    (length : Expr) (array : Option ℕ)
    → HaveOnePlace a b u → OldEntry heap number is_first a b u array
    → worth later length ≡ worth number (length_at (if is_first then a else b) (old_of is_first u))
    → IsSo heap later (entry_of (merged_reference a b u length)) array
new_so heap number later is_first a b u length array same old worths = record {
  fits = new_fits heap number is_first a b u array (place_at a u.s) (place_at b u.t) refl refl same old;
  agrees = new_agrees heap number is_first a b u array old;
  length_is = worths ∙ old.length_is;
}

-- ---- all of them

-- What is known of each new reference is so of what its key stands for.
abbrev pub AllSo : Heap → (ℕ → ℤ) → (Key → Option ℕ) → List Key → List Reference → Type 0
AllSo heap number array (u ∷ us) (r ∷ rs) = IsSo heap number r (array u) × AllSo heap number array us rs
AllSo heap number array [] [] = Unit {0}
AllSo heap number array _ _ = ⊥

cons_head : {X : Type 0} (x y : X) (xs ys : List X) → x ∷ xs ≡ y ∷ ys → x ≡ y
cons_head x y xs ys same = cc

cons_tail : {X : Type 0} (x y : X) (xs ys : List X) → x ∷ xs ≡ y ∷ ys → xs ≡ ys
cons_tail x y xs ys same = cc

pub all_so : (heap : Heap) (number later : ℕ → ℤ) (is_first : Bool) (a b : List Reference)
    (array : Key → Option ℕ) (us : List Key) (lengths : List Expr)
    → AllByRecursion (HaveOnePlace a b) us → AllByRecursion (λ u. OldEntry heap number is_first a b u (array u)) us
    → map (worth later) lengths ≡ map (λ u. worth number (length_at (if is_first then a else b) (old_of is_first u))) us
    → AllSo heap later array us (map entry_of (merged_references a b us lengths))
all_so heap number later is_first a b array [] lengths same old worths = tt
all_so heap number later is_first a b array (u ∷ us) [] same old worths = absurd cc
all_so heap number later is_first a b array (u ∷ us) (n ∷ lengths) same old worths = (
  new_so heap number later is_first a b u n (array u) same.0 old.0
      (cons_head (worth later n) (worth number (length_at (if is_first then a else b) (old_of is_first u)))
      (map (worth later) lengths)
      (map (λ u. worth number (length_at (if is_first then a else b) (old_of is_first u))) us) worths),
  all_so heap number later is_first a b array us lengths same.1 old.1
      (cons_tail (worth later n) (worth number (length_at (if is_first then a else b) (old_of is_first u)))
      (map (worth later) lengths)
      (map (λ u. worth number (length_at (if is_first then a else b) (old_of is_first u))) us) worths),
)

so_at : (heap : Heap) (number : ℕ → ℤ) (array : Key → Option ℕ) (us : List Key) (rs : List Reference)
    (place : ℕ) (known : Reference)
    → AllSo heap number array us rs → slice_get rs place ≡ Some known
    → IsSo heap number known (array (get_or us place origin))
so_at heap number array [] [] place known all at = absurd cc
so_at heap number array [] (r ∷ rs) place known all at = absurd all
so_at heap number array (u ∷ us) [] place known all at = absurd all
so_at heap number array (u ∷ us) (r ∷ rs) zero known all at =
    subst (λ k. IsSo heap number k (array u)) (same_some r known at) all.0
  where
    same_some : (x y : Reference) → Some x ≡ Some y → x ≡ y
    same_some x y same = cc
so_at heap number array (u ∷ us) (r ∷ rs) (suc place) known all at = so_at heap number array us rs place known all.1 at

pub are_so : (heap : Heap) (number : ℕ → ℤ) (array : ℕ → Option ℕ) (is_first : Bool) (us : List Key)
    (rs : List Reference)
    → AllSo heap number (λ u. array (old_of is_first u)) us rs
    → AreSo heap number (λ r. array (old_at is_first us r)) rs
unfolding states.reference_at
are_so heap number array is_first us rs all zero known at = absurd (none_is at)
  where
    none_is : None ≡ Some known → ⊥
    none_is is = cc
are_so heap number array is_first us rs all (suc place) known at =
    so_at heap number (λ u. array (old_of is_first u)) us rs place known all at

-- ---- pairs

kept_test : (array : ℕ → Option ℕ) (test : ℕ → ℕ → Bool) (lower higher : ℕ) (pairs : List Pair)
    → (test lower higher ≡ true → Differ array lower higher)
    → AllDiffer array pairs → AllDiffer array (with_test test higher pairs lower)
kept_test array test lower higher pairs differ all =
    cond_both (test lower higher) (with_pair (ordered lower higher) pairs) pairs (λ ps. AllDiffer array ps)
    (λ is. with_pair_differ pairs array lower higher all (differ is)) (λ is. all)

row_kept : (array : ℕ → Option ℕ) (test : ℕ → ℕ → Bool) (higher : ℕ) (lowers : List ℕ) (pairs : List Pair)
    → ((r q : ℕ) → test r q ≡ true → Differ array r q) → AllDiffer array pairs
    → AllDiffer array (fold (with_test test higher) pairs lowers)
row_kept array test higher [] pairs differ all = all
row_kept array test higher (lower ∷ lowers) pairs differ all =
    row_kept array test higher lowers (with_test test higher pairs lower) differ
    (kept_test array test lower higher pairs (differ lower higher) all)

rows_kept : (array : ℕ → Option ℕ) (test : ℕ → ℕ → Bool) (highers : List ℕ) (pairs : List Pair)
    → ((r q : ℕ) → test r q ≡ true → Differ array r q) → AllDiffer array pairs
    → AllDiffer array (fold (with_row test) pairs highers)
rows_kept array test [] pairs differ all = all
rows_kept array test (higher ∷ highers) pairs differ all =
    rows_kept array test highers (with_row test pairs higher) differ
    (row_kept array test higher (range_with_len 1 (higher - 1)) pairs differ all)

-- Pairs by a test that tells of what is not the same array.
pub pairs_kept : (array : ℕ → Option ℕ) (test : ℕ → ℕ → Bool) (count : ℕ)
    → ((r q : ℕ) → test r q ≡ true → Differ array r q)
    → AllDiffer array (pairs_by test count)
pairs_kept array test count differ = rows_kept array test (range_with_len 1 count) [] differ tt

-- Arrays of two types are not one.
places_differ : (heap : Heap) (p q : Place) (i : ℕ) → has_array heap p i ≡ true → has_array heap q i ≡ true
    → (place_number p == place_number q) ≡ true
places_differ heap p q i first second = by (slice_get heap i) first second
  where
    by : (cell : Option ArrayCell) → option_map_or (λ (c : ArrayCell). same_place c.place p) cell false ≡ true
        → option_map_or (λ (c : ArrayCell). same_place c.place q) cell false ≡ true
        → (place_number p == place_number q) ≡ true
    by None one two = absurd (true≢false (sym one))
    by (Some cell) one two =
        (Decides-eqb (place_number p) (place_number q)).1
        (sym ((Decides-eqb (place_number cell.place) (place_number p)).0 one)
        ∙ (Decides-eqb (place_number cell.place) (place_number q)).0 two)

apart_places : (heap : Heap) (number : ℕ → ℤ) (references : List Reference) (array : ℕ → Option ℕ)
    (r q : ℕ) (p t : Option Place)
    → place_at references r ≡ p → place_at references q ≡ t → IsEntry heap number references r (array r)
    → IsEntry heap number references q (array q)
    → are_one_place p t ≡ false → Differ array r q
apart_places heap number references array r q None t first second one two other =
    λ n at also. some_none n (sym at ∙ one.absent first)
  where
    some_none : (n : ℕ) → Some n ≡ None → ⊥
    some_none n is = cc
apart_places heap number references array r q (Some p) None first second one two other =
    λ n at also. some_none n (sym also ∙ two.absent second)
  where
    some_none : (n : ℕ) → Some n ≡ None → ⊥
    some_none n is = cc
apart_places heap number references array r q (Some p) (Some t) first second one two other = λ n at also.
    true≢false
    (sym
    (places_differ heap p t n (subst (FitsArray heap p) at (one.fits p first))
    (subst (FitsArray heap t) also (two.fits t second))) ∙ other)

-- What cannot be the same array in a state is not.
pub cannot_differ : (heap : Heap) (number : ℕ → ℤ) (references : List Reference) (array : ℕ → Option ℕ)
    (pairs : List Pair) (r q : ℕ)
    → ((x : ℕ) → IsEntry heap number references x (array x)) → AllDiffer array pairs
    → cannot_be_same references pairs r q ≡ true → Differ array r q
cannot_differ heap number references array pairs r q entries all is =
    must_differ_sound array r q (contains pairs (ordered r q))
    (are_one_place (place_at references r) (place_at references q)) (nullness_at references r)
    (nullness_at references q) (λ kept. contained_differ pairs array r q kept all)
    (λ other. apart_places heap number references array r q (place_at references r) (place_at references q) refl refl
    (entries r) (entries q) other)
    (entries r).agrees (entries q).agrees is

-- What cannot be the same array on either side is not on each.
pub joined_differ : (heap : Heap) (number : ℕ → ℤ) (is_first : Bool) (a b : List Reference)
    (a_pairs b_pairs : List Pair) (array : ℕ → Option ℕ) (keys : List Key)
    → ((x : ℕ) → IsEntry heap number (if is_first then a else b) x (array x))
    → AllDiffer array (if is_first then a_pairs else b_pairs)
    → AllDiffer (λ r. array (old_at is_first keys r)) (joined_apart keys a a_pairs b b_pairs)
joined_differ heap number is_first a b a_pairs b_pairs array keys entries all =
    pairs_kept (λ r. array (old_at is_first keys r)) (are_apart_in_both keys a a_pairs b b_pairs) (length keys)
    (λ r q is. by is_first entries all r q (parts r q is))
  where
    parts : (r q : ℕ) → are_apart_in_both keys a a_pairs b b_pairs r q ≡ true
        → (cannot_be_same a a_pairs (old_at true keys r) (old_at true keys q) ≡ true) ×
        (cannot_be_same b b_pairs (old_at false keys r) (old_at false keys q) ≡ true)
    parts r q is =
        and_parts (cannot_be_same a a_pairs (old_at true keys r) (old_at true keys q))
        (cannot_be_same b b_pairs (old_at false keys r) (old_at false keys q)) is

    by : (side : Bool) → ((x : ℕ) → IsEntry heap number (if side then a else b) x (array x))
        → AllDiffer array (if side then a_pairs else b_pairs) → (r q : ℕ)
        → (cannot_be_same a a_pairs (old_at true keys r) (old_at true keys q) ≡ true) ×
        (cannot_be_same b b_pairs (old_at false keys r) (old_at false keys q) ≡ true)
        → Differ array (old_at side keys r) (old_at side keys q)
    by true known pairs r q both =
        cannot_differ heap number a array a_pairs (old_at true keys r) (old_at true keys q) known pairs both.0
    by false known pairs r q both =
        cannot_differ heap number b array b_pairs (old_at false keys r) (old_at false keys q) known pairs both.1

-- Pairs that were kept stay.
pub kept_differ : (array : ℕ → Option ℕ) (pairs : List Pair) (keys : List Key) → AllDiffer array pairs
    → AllDiffer (λ r. array (old_at true keys r)) (kept_apart keys pairs)
kept_differ array pairs keys all =
    pairs_kept (λ r. array (old_at true keys r)) (were_kept keys pairs) (length keys)
    (λ r q is. contained_differ pairs array (old_at true keys r) (old_at true keys q) is all)
