-- One segment read, and one more made.
use Rattle.std.proofs.Common.{◌≡◌, ℕ, zero, suc, ◌+◌, ◌<◌, ◌≤◌, Bool, false, List, [], ◌∷◌, ◌++◌, length, map, get_or, take, drop, Option, None, Some, arith, refl, sym, ap, ◌∙◌, add-one, append_assoc}
use Rattle.std.proofs.lemmas.List.{append-nil, drop_more, get_or_read, map-append}
use Rattle.std.specs.Option.{option_to_list}
use Rattle.std.specs.List.{cons_option, filter_map}
use Rattle.domain_api.specs.declared.expr.Expr.{Expr}
use Rattle.array_segments.specs.declared.renaming.Part.{Part}
use Rattle.array_segments.specs.Growing.{with_more}
use Rattle.array_segments.specs.Meaning.{Segment, segments_of, zipped}
use Rattle.array_segments.specs.Renaming.{joined, part_of, placed, renamed_from}
use Rattle.array_segments.specs.SegmentLists.{HasForm, Lists, last_bound}
use Rattle.array_segments.proofs.Spans.{last_upper, upper_at, zipped_length}

read_rest : {X : Type 0} (xs : List X) (place : ℕ) (d : X) → get_or (drop 1 xs) place d ≡ get_or xs (suc place) d
read_rest [] place d = refl
read_rest (x ∷ xs) place d = refl

pub read_mapped : {X Y : Type 0} (view : X → Y) (xs : List X) (place : ℕ) (x : X) (d : Y) → place < length xs → x ≡ get_or xs place x → get_or (map view xs) place d ≡ view x
read_mapped view [] place x d below is = absurd (omega arith)
read_mapped view (y ∷ xs) zero x d below is = ap view (sym is)
read_mapped view (y ∷ xs) (suc place) x d below is = read_mapped view xs place x d (omega arith) is

zipped_read : {C : Type 0} (uppers : List (List Expr)) (contents : List C) (marks : List Bool) (place : ℕ) (content : C) (d : Segment C) → place < length contents →
    get_or (zipped uppers contents marks) place d ≡ record { content = get_or contents place content; may_be_empty = get_or marks place false; upper = get_or uppers place [] }
zipped_read uppers [] marks place content d below = absurd (omega arith)
zipped_read uppers (c ∷ contents) marks zero content d below = refl
zipped_read uppers (c ∷ contents) marks (suc place) content d below =
    zipped_read (drop 1 uppers) contents (drop 1 marks) place content d (omega arith)
    ∙ (λ i. record { content = get_or contents place content; may_be_empty = read_rest marks place false i; upper = read_rest uppers place [] i })

pub segment_at : {C X : Type 0} (view : X → List Expr) (bounds : List X) (contents : List C) (marks : List Bool) (place : ℕ) (content : C) (mark : Bool) (bound : X) → place < length contents →
    length (map view bounds) ≡ length contents + 1 → length marks ≡ length contents → length (map view bounds) ≡ length bounds →
    content ≡ get_or contents place content → mark ≡ get_or marks place mark → bound ≡ get_or bounds (place + 1) bound →
    drop place (zipped (drop 1 (map view bounds)) contents marks)
    ≡ record { content = content; may_be_empty = mark; upper = view bound } ∷ drop (place + 1) (zipped (drop 1 (map view bounds)) contents marks)
segment_at view bounds contents marks place content mark bound below bounded marked same is_content is_mark is_bound =
    let segment : Segment _ = record { content = content; may_be_empty = mark; upper = view bound } in
    let count = zipped_length (drop 1 (map view bounds)) contents marks in
    let next : bound ≡ get_or bounds (suc place) bound = is_bound ∙ ap (λ n. get_or bounds n bound) (add-one place) in
    drop_more (zipped (drop 1 (map view bounds)) contents marks) place segment (omega arith)
    ∙ (λ i. (zipped_read (drop 1 (map view bounds)) contents marks place content segment below
    ∙ (λ j. record {
      content = sym is_content j;
      may_be_empty = sym (get_or_read marks place mark (omega arith) is_mark false) j;
      upper = (read_rest (map view bounds) place [] ∙ read_mapped view bounds (suc place) bound [] (omega arith) next) j;
    })) i ∷ drop (place + 1) (zipped (drop 1 (map view bounds)) contents marks))

pub map_push : {X Y : Type 0} (view : X → Y) (xs : List X) (x : X) → map view (xs ++ x ∷ []) ≡ map view xs ++ view x ∷ []
map_push view xs x = map-append view xs (x ∷ [])

option_prefix : {X : Type 0} (o : Option X) (xs : List X) → option_to_list o ++ xs ≡ cons_option o xs
option_prefix None xs = refl
option_prefix (Some x) xs = refl

pub named_more : {X Y : Type 0} (name : X → Option Y) (made : List Y) (xs : List X) (place : ℕ) (x : X) → place < length xs → x ≡ get_or xs place x →
    (made ++ option_to_list (name x)) ++ filter_map name (drop (place + 1) xs) ≡ made ++ filter_map name (drop place xs)
named_more name made xs place x below is =
    append_assoc made (option_to_list (name x)) (filter_map name (drop (place + 1) xs))
    ∙ ap (λ rest. made ++ rest) (option_prefix (name x) (filter_map name (drop (place + 1) xs)))
    ∙ ap (λ rest. made ++ filter_map name rest) (ap (λ y. y ∷ drop (place + 1) xs) is ∙ sym (drop_more xs place x below))

-- ---- segments made

pub with_more_more : {C : Type 0} (lists : Lists C) (segment : Segment C) (rest : List (Segment C)) → with_more (with_more lists (segment ∷ [])) rest ≡ with_more lists (segment ∷ rest)
with_more_more lists segment rest = λ i. record {
  bounds = append_assoc lists.bounds (segment.upper ∷ []) (map (λ x. x.upper) rest) i;
  contents = append_assoc lists.contents (segment.content ∷ []) (map (λ x. x.content) rest) i;
  marks = append_assoc lists.marks (segment.may_be_empty ∷ []) (map (λ x. x.may_be_empty) rest) i;
}

pub with_none : {C : Type 0} (lists : Lists C) → with_more lists [] ≡ lists
with_none lists = λ i. record { bounds = append-nil lists.bounds i; contents = append-nil lists.contents i; marks = append-nil lists.marks i }

pub placed_none : {C : Type 0} (hull : C → C → C) (name : Expr → Option Expr) (lists : Lists C) (held : Option (Part C)) (segment : Segment C) (part : Part C) (rest : List (Segment C)) →
    part ≡ joined hull held (part_of segment) → length (filter_map name segment.upper) ≡ 0 →
    with_more lists (renamed_from hull name (Some part) rest) ≡ with_more lists (renamed_from hull name held (segment ∷ rest))
placed_none hull name lists held segment part rest is none = ap (with_more lists) (ap (λ p. renamed_from hull name (Some p) rest) is ∙ by (filter_map name segment.upper) none)
  where
    by : (bound : List Expr) → length bound ≡ 0 → renamed_from hull name (Some (joined hull held (part_of segment))) rest
        ≡ placed (joined hull held (part_of segment)) bound (renamed_from hull name (Some (joined hull held (part_of segment))) rest) (renamed_from hull name None rest)
    by [] zero_long = refl
    by (expr ∷ exprs) zero_long = absurd (omega arith)

pub placed_some : {C : Type 0} (hull : C → C → C) (name : Expr → Option Expr) (lists : Lists C) (held : Option (Part C)) (segment : Segment C) (part : Part C) (bound : List Expr) (rest : List (Segment C)) →
    part ≡ joined hull held (part_of segment) → bound ≡ filter_map name segment.upper → 0 < length bound →
    with_more (with_more lists (record { content = part.content; may_be_empty = part.mark; upper = bound } ∷ [])) (renamed_from hull name None rest)
    ≡ with_more lists (renamed_from hull name held (segment ∷ rest))
placed_some hull name lists held segment part bound rest is is_bound some =
    with_more_more lists (record { content = part.content; may_be_empty = part.mark; upper = bound }) (renamed_from hull name None rest)
    ∙ ap (with_more lists) (by bound some ∙ (λ i. placed (is i) (is_bound i) (renamed_from hull name (Some (joined hull held (part_of segment))) rest) (renamed_from hull name None rest)))
  where
    by : (bound : List Expr) → 0 < length bound → record { content = part.content; may_be_empty = part.mark; upper = bound } ∷ renamed_from hull name None rest
        ≡ placed part bound (renamed_from hull name (Some (joined hull held (part_of segment))) rest) (renamed_from hull name None rest)
    by [] long = absurd (omega arith)
    by (expr ∷ exprs) long = refl

-- ---- the whole

pub drop_past : {X : Type 0} (n : ℕ) (xs : List X) → length xs ≤ n → drop n xs ≡ []
drop_past zero [] whole = refl
drop_past zero (x ∷ xs) whole = absurd (omega arith)
drop_past (suc n) [] whole = refl
drop_past (suc n) (x ∷ xs) whole = drop_past n xs (omega arith)

take_past : {X : Type 0} (n : ℕ) (xs : List X) → length xs ≤ n → take n xs ≡ xs
take_past zero [] whole = refl
take_past zero (x ∷ xs) whole = absurd (omega arith)
take_past (suc n) [] whole = refl
take_past (suc n) (x ∷ xs) whole = ap (λ rest. x ∷ rest) (take_past n xs (omega arith))

pub renamed_done : {C : Type 0} (hull : C → C → C) (name : Expr → Option Expr) (lists : Lists C) (held : Option (Part C)) (segments : List (Segment C)) (place : ℕ) (all : Lists C) →
    length segments ≤ place → with_more lists (renamed_from hull name held (drop place segments)) ≡ all → lists ≡ all
renamed_done hull name lists held segments place all past is =
    sym (with_none lists) ∙ ap (λ rest. with_more lists (renamed_from hull name held rest)) (sym (drop_past place segments past)) ∙ is

last_is : {C : Type 0} (bounds : List (List Expr)) (contents : List C) (marks : List Bool) → HasForm (record { bounds = bounds; contents = contents; marks = marks }) →
    get_or bounds (length contents) [] ≡ last_upper (get_or bounds 0 []) (zipped (drop 1 bounds) contents marks)
last_is [] contents marks form = let b = form.bounded in absurd (omega arith)
last_is (first ∷ uppers) contents marks form =
    let b = form.bounded in
    let count = zipped_length uppers contents marks in
    upper_at first uppers contents marks (length contents) (omega arith) (omega arith) ∙ ap (last_upper first) (take_past (length contents) (zipped uppers contents marks) (omega arith))

pub last_bound_is : {C : Type 0} (lists : Lists C) → HasForm lists → last_bound lists ≡ last_upper (get_or lists.bounds 0 []) (segments_of lists)
last_bound_is lists form = last_is lists.bounds lists.contents lists.marks form
