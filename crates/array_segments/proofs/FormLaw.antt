-- The test of the form tells the form.
use Rattle.std.proofs.Common.{◌≡◌, ◌==◌, ◌+◌, Bool, true, false, ◌&&◌, List, [], ◌∷◌, length, get_or, refl}
use Rattle.std.specs.Prelude.{nat_le}
use Rattle.std.proofs.lemmas.Bool.{and_parts, false≢true, le-leb, leb-true}
use Rattle.std.proofs.lemmas.Bool.Decides.{Decides-eqb}
use Rattle.std.specs.List.{AllByRecursion, list_all}
use Rattle.domain_api.specs.declared.expr.Expr.{Expr}
use Rattle.array_segments.specs.FormTest.{are_counted, begins_at_zero, has_few, is_formed}
use Rattle.array_segments.specs.SegmentLists.{HasFew, HasForm, Lists, zero_expr}
use Rattle.array_segments.proofs.CommonLaw.{any_has, has_any}

both : (a b : Bool) → a ≡ true → b ≡ true → (a && b) ≡ true
both true true x y = refl
both true false x y = absurd (false≢true y)
both false b x y = absurd (false≢true x)

few_is : (bound : List Expr) → has_few bound ≡ true → HasFew bound
few_is bound is = let parts = and_parts (nat_le 1 (length bound)) (nat_le (length bound) 4) is in record { some = leb-true 1 (length bound) parts.0; most = leb-true (length bound) 4 parts.1 }

all_few : (bounds : List (List Expr)) → list_all has_few bounds ≡ true → AllByRecursion HasFew bounds
all_few [] is = tt
all_few (bound ∷ bounds) is = let parts = and_parts (has_few bound) (list_all has_few bounds) is in (few_is bound parts.0, all_few bounds parts.1)

few_all : (bounds : List (List Expr)) → AllByRecursion HasFew bounds → list_all has_few bounds ≡ true
few_all [] all = refl
few_all (bound ∷ bounds) all =
    both (has_few bound) (list_all has_few bounds) (both (nat_le 1 (length bound)) (nat_le (length bound) 4) (le-leb 1 (length bound) all.0.some) (le-leb (length bound) 4 all.0.most)) (few_all bounds all.1)

pub formed_is : {C : Type 0} (lists : Lists C) → is_formed lists ≡ true → HasForm lists
formed_is lists is =
    let parts = and_parts (are_counted lists) (list_all has_few lists.bounds && begins_at_zero lists) is in
    let later = and_parts (list_all has_few lists.bounds) (begins_at_zero lists) parts.1 in
    let counts = and_parts (nat_le 1 (length lists.contents) && nat_le (length lists.contents) 12) (length lists.bounds == length lists.contents + 1 && length lists.marks == length lists.contents) parts.0 in
    let limits = and_parts (nat_le 1 (length lists.contents)) (nat_le (length lists.contents) 12) counts.0 in
    let same = and_parts (length lists.bounds == length lists.contents + 1) (length lists.marks == length lists.contents) counts.1 in
    record {
      some = leb-true 1 (length lists.contents) limits.0;
      most = leb-true (length lists.contents) 12 limits.1;
      bounded = (Decides-eqb (length lists.bounds) (length lists.contents + 1)).0 same.0;
      marked = (Decides-eqb (length lists.marks) (length lists.contents)).0 same.1;
      few = all_few lists.bounds later.0;
      from_zero = any_has zero_expr (get_or lists.bounds 0 []) later.1;
    }

pub is_formed_where : {C : Type 0} (lists : Lists C) → HasForm lists → is_formed lists ≡ true
is_formed_where lists form =
    both (are_counted lists) (list_all has_few lists.bounds && begins_at_zero lists)
    (both (nat_le 1 (length lists.contents) && nat_le (length lists.contents) 12) (length lists.bounds == length lists.contents + 1 && length lists.marks == length lists.contents)
    (both (nat_le 1 (length lists.contents)) (nat_le (length lists.contents) 12) (le-leb 1 (length lists.contents) form.some) (le-leb (length lists.contents) 12 form.most))
    (both (length lists.bounds == length lists.contents + 1) (length lists.marks == length lists.contents)
    ((Decides-eqb (length lists.bounds) (length lists.contents + 1)).1 form.bounded) ((Decides-eqb (length lists.marks) (length lists.contents)).1 form.marked)))
    (both (list_all has_few lists.bounds) (begins_at_zero lists) (few_all lists.bounds form.few) (has_any zero_expr (get_or lists.bounds 0 []) form.from_zero.0 form.from_zero.1 form.from_zero.2))
