-- The rows of methods from one on.
use Rattle.std.proofs.Common.{◌≡◌, ℕ, suc, ◌+◌, ◌-◌, ◌≤◌, ◌<◌, List, [], ◌∷◌, ◌++◌, length, drop, Some, None, refl, sym, ◌∙◌, arith, append_assoc}
use Rattle.std.proofs.lemmas.List.{append-nil}
use Rattle.std.specs.Prelude.{codes}
use Rattle.cc_base.specs.Escapes.{escaped}
use Rattle.asm_image.specs.Cells.{method_count, method_name, signature, owner}
use Rattle.asm_image.specs.Names.{owner_text, types_text, own_name, short_name, printed_name}
use Rattle.asm_image.specs.Rows.{method_row, rows_of, rows_from, first_name, first_described, described, named}
use Rattle.asm_image.specs.declared.method_row.Method.{Method}
use Rattle.asm_image.specs.declared.method_row.MethodRow.{MethodRow}

some-is : {X : Type 0} (x y : X) → Some x ≡ Some y → x ≡ y
some-is x y e = cc

pub rows_more : (md : List ℕ) (row : ℕ) → row ≤ method_count md → rows_from md row ≡ method_row md row ∷ rows_from md (row + 1)
unfolding rows_from
rows_more md row there =
    let more : method_count md + 1 - row ≡ suc (method_count md + 1 - (row + 1)) = omega arith in
    rw more refl

pub rows_end : (md : List ℕ) (row : ℕ) → method_count md < row → rows_from md row ≡ []
unfolding rows_from
rows_end md row past =
    let none : method_count md + 1 - row ≡ 0 = omega arith in
    rw none refl

pub rows_all : (md : List ℕ) → rows_from md 1 ≡ rows_of md
unfolding rows_from rows_of
rows_all md =
    let all : method_count md + 1 - 1 ≡ method_count md = omega arith in
    rw all refl

-- A printed name is that of the type and the method's own.
pub name_parts : (md : List ℕ) (row : ℕ) → printed_name md row ≡ owner_text md (owner md row) ++ own_name md row
unfolding printed_name short_name
name_parts md row =
    let text = owner_text md (owner md row) in
    let own = escaped (method_name md row) in
    append_assoc (text ++ codes "::") own (types_text (signature md row).types) ∙ append_assoc text (codes "::") (own ++ types_text (signature md row).types)

pub first_row_name : (md : List ℕ) (row : ℕ) → row ≤ method_count md → first_name (rows_from md row) ≡ owner_text md (owner md row) ++ own_name md row
unfolding method_row
first_row_name md row there = rw (rows_more md row there) (name_parts md row)

pub ruleset walk = (rows_more, rows_end, rows_all)

-- ---- rows that are collected

pub walk_next : (rows walk all : List MethodRow) (method : Method) (name : List ℕ) → rows ++ walk ≡ all → first_described walk ≡ Some method → name ≡ first_name walk
    → (rows ++ named method name ∷ []) ++ drop 1 walk ≡ all
walk_next rows [] all method name is there called = absurd cc
walk_next rows (row ∷ walk) all method name is there called =
    let same : method ≡ described row = some-is method (described row) (sym there) in
    let first : named method name ≡ row = rw (same, called) refl in
    rw first (append_assoc rows (row ∷ []) walk ∙ is)

pub walk_smaller : (walk : List MethodRow) (method : Method) → first_described walk ≡ Some method → length (drop 1 walk) < length walk
walk_smaller [] method there = absurd cc
walk_smaller (row ∷ walk) method there = omega arith

pub walk_done : (rows walk all : List MethodRow) → rows ++ walk ≡ all → first_described walk ≡ None → rows ≡ all
walk_done rows [] all is none = sym (append-nil rows) ∙ is
walk_done rows (row ∷ walk) all is none = absurd cc

pub ruleset collected = (walk_next, walk_smaller, walk_done)
