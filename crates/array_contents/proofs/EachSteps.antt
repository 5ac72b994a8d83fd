-- Items of a list that are changed one by one, each by the item of another list at its place.
use Rattle.std.proofs.Common.{◌≡◌, ◌⊎◌, inl, inr, ℕ, zero, suc, min, ◌+◌, ◌≤◌, ◌<◌, true, List, [], ◌∷◌, ◌++◌, length, map, get_or, set, take, drop, Option, None, Some, refl, arith, ap, sym, ◌∙◌, append_assoc}
use Rattle.std.proofs.lemmas.List.{drop_more, drop-set-lt, get_or-map, length-map, map-append, map-set, take-append-drop, take_more_set}
use Rattle.array_segments.proofs.NameSteps.{drop_past}
use Rattle.array_segments.specs.SegmentLists.{whole}
use Rattle.std.specs.Option.{option_map}
use Rattle.interval_domain.specs.Interval.{Interval}
use Rattle.array_segments.specs.Segments.{lists_of}
use Rattle.array_segments.specs.declared.segments.Segs.{Segs}
use Rattle.array_contents.specs.Contents.{Contents, Segments}
use Rattle.array_contents.specs.Replacing.{replaced_each, replaced_one, unknown_lists}
use Rattle.array_contents.specs.Storing.{forgotten}
use Rattle.array_contents.specs.declared.forgetting.Unknown.{Unknown}

-- What an index gives that is there, whatever is given where it is not.
pub there_is : {X : Type 0} (xs : List X) (i : ℕ) (d e : X) → i < length xs → get_or xs i d ≡ get_or xs i e
there_is [] i d e below = absurd (omega arith)
there_is (x ∷ xs) zero d e below = refl
there_is (x ∷ xs) (suc i) d e below = there_is xs i d e (omega arith)

pub either_past : (a b place : ℕ) → min a b ≤ place → (b ≤ place) ⊎ (a ≤ place)
either_past zero b place past = inr (omega arith)
either_past (suc a) zero place past = inl (omega arith)
either_past (suc a) (suc b) zero past = absurd (omega arith)
either_past (suc a) (suc b) (suc place) past = elim (either_past a b place (omega arith)) [
  | inl few ↦ inl (omega arith)
  | inr few ↦ inr (omega arith)
]

module _ {X Y : Type 0} (step : X → Y → Y) (each : List X → List Y → List Y)
    (on_more : (x : X) (xs : List X) (y : Y) (ys : List Y) → each (x ∷ xs) (y ∷ ys) ≡ step x y ∷ each xs ys) where
  -- One more item changed.
  pub each_more : (xs : List X) (ys : List Y) (place : ℕ) (x : X) (y : Y) → place < length xs → place < length ys
      → x ≡ get_or xs place x → y ≡ get_or ys place y
      → take (place + 1) (set ys place (step x y)) ++ each (drop (place + 1) xs) (drop (place + 1) (set ys place (step x y)))
      ≡ take place ys ++ each (drop place xs) (drop place ys)
  each_more xs ys place x y below under is also =
      let later : place < place + 1 = omega arith in
      (λ i. take_more_set ys place (step x y) under i ++ each (drop (place + 1) xs) (drop-set-lt (place + 1) ys place (step x y) later i))
      ∙ append_assoc (take place ys) (step x y ∷ []) (each (drop (place + 1) xs) (drop (place + 1) ys))
      ∙ ap (λ rest. take place ys ++ rest) (sym (on_more x (drop (place + 1) xs) y (drop (place + 1) ys)))
      ∙ (λ i. take place ys ++ each (is i ∷ drop (place + 1) xs) (also i ∷ drop (place + 1) ys))
      ∙ (λ i. take place ys ++ each (sym (drop_more xs place x below) i) (sym (drop_more ys place y under) i))

module _ {X Y : Type 0} (each : List X → List Y → List Y) (on_none : (ys : List Y) → each [] ys ≡ ys)
    (on_empty : (xs : List X) → each xs [] ≡ []) where
  -- All are changed that have an item at their place.
  pub each_end : (xs : List X) (ys : List Y) (place : ℕ) → (length xs ≤ place) ⊎ (length ys ≤ place)
      → take place ys ++ each (drop place xs) (drop place ys) ≡ ys
  each_end xs ys place (inl past) =
      ap (λ rest. take place ys ++ each rest (drop place ys)) (drop_past place xs past)
      ∙ ap (λ rest. take place ys ++ rest) (on_none (drop place ys))
      ∙ take-append-drop place ys
  each_end xs ys place (inr past) =
      ap (λ rest. take place ys ++ each (drop place xs) rest) (drop_past place ys past)
      ∙ ap (λ rest. take place ys ++ rest) (on_empty (drop place xs))
      ∙ ap (λ rest. take place ys ++ rest) (sym (drop_past place ys past))
      ∙ take-append-drop place ys

-- ---- segments put in the place of others

replaced_empty : (fresh : List (Option Segments)) → replaced_each fresh [] ≡ []
replaced_empty [] = refl
replaced_empty (one ∷ fresh) = refl

-- What is known of references where those before a place have been replaced.
abbrev pub replaced_from : ℕ → List (Option Segments) → Contents → Contents
replaced_from place fresh contents = take place contents ++ replaced_each (drop place fresh) (drop place contents)

pub replaced_more : (fresh : List (Option (Segs Interval))) (segments : List (Segs Interval)) (place : ℕ)
    (some left d : Option (Segs Interval)) (one made e : Segs Interval) → place < length fresh → place < length segments
    → some ≡ get_or fresh place d → one ≡ get_or segments place e
    → lists_of made ≡ replaced_one (option_map lists_of some) (lists_of one)
    → replaced_from (place + 1) (map (option_map lists_of) (set fresh place left)) (map lists_of (set segments place made))
    ≡ replaced_from place (map (option_map lists_of) fresh) (map lists_of segments)
replaced_more fresh segments place some left d one made e below under is also replaced =
    let lists : Contents = map lists_of segments in
    let news : List (Option Segments) = map (option_map lists_of) fresh in
    let later : place < place + 1 = omega arith in
    let few : length news ≡ length fresh = length-map fresh (option_map lists_of) in
    let many : length lists ≡ length segments = length-map segments lists_of in
    (λ i. replaced_from (place + 1) (map-set (option_map lists_of) fresh place left i) (map-set lists_of segments place made i))
    ∙ (λ i. take (place + 1) (set lists place (replaced i))
    ++ replaced_each (drop-set-lt (place + 1) news place (option_map lists_of left) later i) (drop (place + 1) (set lists place (replaced i))))
    ∙ each_more replaced_one replaced_each (λ x xs y ys. refl) news lists place (option_map lists_of some) (lists_of one)
    (omega arith) (omega arith)
    (ap (option_map lists_of) (is ∙ there_is fresh place d some below) ∙ sym (get_or-map (option_map lists_of) fresh place some (option_map lists_of some) below))
    (ap lists_of (also ∙ there_is segments place e one under) ∙ sym (get_or-map lists_of segments place one (lists_of one) under))

pub replaced_end : (fresh : List (Option Segments)) (contents : Contents) (place : ℕ)
    → (length fresh ≤ place) ⊎ (length contents ≤ place) → replaced_from place fresh contents ≡ contents
replaced_end fresh contents place past = each_end replaced_each (λ ys. refl) replaced_empty fresh contents place past

pub forgotten_is : (arrays : List (Option Unknown)) (contents : Contents)
    → replaced_each (map unknown_lists arrays) contents ≡ forgotten arrays contents
forgotten_is [] contents = refl
forgotten_is (array ∷ arrays) [] = refl
forgotten_is (None ∷ arrays) (one ∷ contents) = ap (λ rest. one ∷ rest) (forgotten_is arrays contents)
forgotten_is (Some array ∷ arrays) (one ∷ contents) =
    ap (λ rest. whole array.length array.items true ∷ rest) (forgotten_is arrays contents)

-- ---- lists whose items are made one by one

pub mapped_more : {X Y Z : Type 0} (view : Z → Y) (make : X → Y) (made : List Z) (xs : List X) (place : ℕ) (x : X) (z : Z)
    → place < length xs → x ≡ get_or xs place x → view z ≡ make x
    → map view (made ++ z ∷ []) ++ map make (drop (place + 1) xs) ≡ map view made ++ map make (drop place xs)
mapped_more view make made xs place x z below is same =
    ap (λ prefix. prefix ++ map make (drop (place + 1) xs)) (map-append view made (z ∷ []) ∙ ap (λ y. map view made ++ y ∷ []) same)
    ∙ append_assoc (map view made) (make x ∷ []) (map make (drop (place + 1) xs))
    ∙ ap (λ y. map view made ++ (make y ∷ map make (drop (place + 1) xs))) is
    ∙ ap (λ rest. map view made ++ map make rest) (sym (drop_more xs place x below))
