-- Expressions put in order, and common bounds taken, one by one.
use Rattle.std.proofs.Common.{◌≡◌, ◌==◌, ℕ, zero, suc, ◌+◌, ◌-◌, ◌<◌, ◌≤◌, Bool, true, false, nat_lt, List, [], ◌∷◌, ◌++◌, length, get_or, drop, Option, None, Some, arith, refl, sym, ap, ◌∙◌, add-one, if◌then◌else◌}
use Rattle.std.proofs.lemmas.Bool.{false≢true, le-ltb, lt-ltb}
use Rattle.std.proofs.lemmas.List.{drop_more}
use Rattle.std.proofs.lemmas.List.Sums.{fold-append}
use Rattle.std.specs.List.{cons_option, filter_map, flat_map}
use Rattle.std.specs.Option.{option_to_list}
use Rattle.domain_api.specs.declared.expr.Expr.{Expr}
use Rattle.symbolic_values.specs.Pairing.{Pairing}
use Rattle.array_segments.specs.CommonBounds.{Place, common_bound, put, put_all, row, rows}
use Rattle.array_segments.specs.Growing.{with_more}
use Rattle.array_segments.specs.SegmentLists.{Lists}
use Rattle.array_segments.specs.Unifying.{common_segment, common_segments, placed_at}
use Rattle.array_segments.proofs.NameSteps.{with_more_more}

-- ---- expressions

option_put : (known : List Expr) (o : Option Expr) (rest : List Expr) → put_all (put_all known (option_to_list o)) rest ≡ put_all known (cons_option o rest)
option_put known None rest = refl
option_put known (Some expr) rest = refl

pub put_more : (name : Expr → Option Expr) (known : List Expr) (xs : List Expr) (place : ℕ) (x : Expr) → place < length xs → x ≡ get_or xs place x →
    put_all (put_all known (option_to_list (name x))) (filter_map name (drop (place + 1) xs)) ≡ put_all known (filter_map name (drop place xs))
put_more name known xs place x below is =
    option_put known (name x) (filter_map name (drop (place + 1) xs))
    ∙ ap (λ rest. put_all known (filter_map name rest)) (ap (λ y. y ∷ drop (place + 1) xs) is ∙ sym (drop_more xs place x below))

pub put_lists_more : (list : Expr → List Expr) (known : List Expr) (xs : List Expr) (place : ℕ) (x : Expr) → place < length xs → x ≡ get_or xs place x →
    put_all (put_all known (list x)) (flat_map list (drop (place + 1) xs)) ≡ put_all known (flat_map list (drop place xs))
put_lists_more list known xs place x below is =
    sym (fold-append (λ so_far expr. put expr so_far) known (list x) (flat_map list (drop (place + 1) xs)))
    ∙ ap (λ rest. put_all known (flat_map list rest)) (ap (λ y. y ∷ drop (place + 1) xs) is ∙ sym (drop_more xs place x below))

pub some_there : (n : ℕ) → false ≡ (n == 0) → 0 < n
some_there zero is = absurd (false≢true is)
some_there (suc n) is = omega arith

-- ---- places

pub row_more : (first second length_of : ℕ) (rest : List Place) → second < length_of →
    row first second (length_of - second) ++ rest ≡ record { first = first; second = second } ∷ (row first (second + 1) (length_of - (second + 1)) ++ rest)
row_more first second length_of rest under =
    let e : length_of - second ≡ suc (length_of - (second + 1)) = omega arith in
    ap (λ more. row first second more ++ rest) e ∙ ap (λ next. record { first = first; second = second } ∷ (row first next (length_of - (second + 1)) ++ rest)) (sym (add-one second))

pub row_done : (first second length_of : ℕ) (rest : List Place) → length_of ≤ second → row first second (length_of - second) ++ rest ≡ rest
row_done first second length_of rest past = let e : length_of - second ≡ 0 = omega arith in ap (λ more. row first second more ++ rest) e

pub rows_next : (first length_of width : ℕ) → first < length_of → rows first (length_of - first) width ≡ row first 0 width ++ rows (first + 1) (length_of - (first + 1)) width
rows_next first length_of width under =
    let e : length_of - first ≡ suc (length_of - (first + 1)) = omega arith in
    ap (λ more. rows first more width) e ∙ ap (λ next. row first 0 width ++ rows next (length_of - (first + 1)) width) (sym (add-one first))

module _ {C : Type 0} (hull make : C → C → C) (full : C) (pairs : Pairing) (end : Expr) (a b : Lists C) where
  -- A place that falls below the last one is passed over.
  fallen_one : (last place : Place) (places : List Place) (falls : Bool) → falls ≡ true →
      (if falls then common_segments hull make full pairs end a b last places
      else placed_at hull make full pairs end a b last place (common_bound pairs end a b place.first place.second) (common_segments hull make full pairs end a b last places) (common_segments hull make full pairs end a b place places))
      ≡ common_segments hull make full pairs end a b last places
  fallen_one last place places true is = refl
  fallen_one last place places false is = absurd (false≢true is)

  fallen : (last : Place) (first second gap more total : ℕ) (rest : List Place) → second + gap ≡ last.second → gap + more ≡ total →
      common_segments hull make full pairs end a b last (row first second total ++ rest) ≡ common_segments hull make full pairs end a b last (row first last.second more ++ rest)
  fallen last first second zero more total rest is all =
      let at : second ≡ last.second = omega arith in
      let same : total ≡ more = omega arith in
      ap (λ k. common_segments hull make full pairs end a b last (row first k total ++ rest)) at
      ∙ ap (λ k. common_segments hull make full pairs end a b last (row first last.second k ++ rest)) same
  fallen last first second (suc gap) more zero rest is all = absurd (omega arith)
  fallen last first second (suc gap) more (suc total) rest is all =
      fallen_one last (record { first = first; second = second }) (row first (suc second) total ++ rest) (nat_lt second last.second) (lt-ltb second last.second (omega arith))
      ∙ fallen last first (suc second) gap more total rest (omega arith) (omega arith)

  -- A row may begin at the last place.
  pub row_behind : (last : Place) (first width : ℕ) (rest : List Place) → last.second ≤ width →
      common_segments hull make full pairs end a b last (row first last.second (width - last.second) ++ rest) ≡ common_segments hull make full pairs end a b last (row first 0 width ++ rest)
  row_behind last first width rest within = sym (fallen last first 0 last.second (width - last.second) width rest (omega arith) (omega arith))

  risen : (last place : Place) (places : List Place) (falls : Bool) → falls ≡ false →
      (if falls then common_segments hull make full pairs end a b last places
      else placed_at hull make full pairs end a b last place (common_bound pairs end a b place.first place.second) (common_segments hull make full pairs end a b last places) (common_segments hull make full pairs end a b place places))
      ≡ placed_at hull make full pairs end a b last place (common_bound pairs end a b place.first place.second) (common_segments hull make full pairs end a b last places) (common_segments hull make full pairs end a b place places)
  risen last place places true is = absurd (false≢true (sym is))
  risen last place places false is = refl

  pub place_none : (lists : Lists C) (last place : Place) (bound : List Expr) (places : List Place) → last.second ≤ place.second → bound ≡ common_bound pairs end a b place.first place.second → length bound ≡ 0 →
      with_more lists (common_segments hull make full pairs end a b last places) ≡ with_more lists (common_segments hull make full pairs end a b last (place ∷ places))
  place_none lists last place [] places rises is none =
      ap (with_more lists)
      (ap (λ bound. placed_at hull make full pairs end a b last place bound (common_segments hull make full pairs end a b last places) (common_segments hull make full pairs end a b place places)) is
      ∙ sym (risen last place places (nat_lt place.second last.second) (le-ltb place.second last.second rises)))
  place_none lists last place (expr ∷ exprs) places rises is none = absurd (omega arith)

  pub place_some : (lists : Lists C) (last place : Place) (bound : List Expr) (places : List Place) → last.second ≤ place.second → bound ≡ common_bound pairs end a b place.first place.second → 0 < length bound →
      with_more (with_more lists (common_segment hull make full pairs end a b last place.first place.second bound ∷ [])) (common_segments hull make full pairs end a b place places)
      ≡ with_more lists (common_segments hull make full pairs end a b last (place ∷ places))
  place_some lists last place [] places rises is some = absurd (omega arith)
  place_some lists last place (expr ∷ exprs) places rises is some =
      with_more_more lists (common_segment hull make full pairs end a b last place.first place.second (expr ∷ exprs)) (common_segments hull make full pairs end a b place places)
      ∙ ap (with_more lists)
      (ap (λ bound. placed_at hull make full pairs end a b last place bound (common_segments hull make full pairs end a b last places) (common_segments hull make full pairs end a b place places)) is
      ∙ sym (risen last place places (nat_lt place.second last.second) (le-ltb place.second last.second rises)))
