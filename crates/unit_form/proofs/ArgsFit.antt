-- The arguments that the trees of a callee name can be written in a form in which their count can.
use Rattle.std.proofs.Common.{◌≡◌, ℕ, ◌<◌, Bool, true, false, List, [], ◌∷◌, ◌++◌, length, Option, Some, None, IsSome, refl, arith}
use Rattle.std.specs.Prelude.{slice_get}
use Rattle.std.specs.List.{AllByRecursion}
use Rattle.std.specs.Option.{option_and_then}
use Rattle.std.proofs.lemmas.Option.{slice_get_within}
use Rattle.cil_model.specs.Comparisons.{comparison_of}
use Rattle.cil_model.specs.Kinds.{kind_of}
use Rattle.cil_model.specs.TermCodes.{Root, ArgRoot, preorder}
use Rattle.cil_model.specs.Terms.{Term, Const, Arg, Null, Result, Len, Elem, Bin, Un, Old, Cond}
use Rattle.cil_model.specs.TreeKinds.{branch_kind, element_kind, kind_in, length_kind, operator_kind, unary_kind}
use Rattle.cil_model.specs.declared.instruction.CmpOp.{CmpOp}
use Rattle.cil_model.specs.declared.place.Kind.{Kind}
use Rattle.cil_model.specs.declared.place.Place.{Place}
use Rattle.unit_form.specs.Forms.{IsCount}
use Rattle.unit_form.specs.declared.form.UnitForm.{UnitForm}

-- The argument that a root names can be written in this form.
abbrev pub ArgFits : UnitForm → Root → Type 0
ArgFits form (ArgRoot n) = IsCount form n
ArgFits form root = Unit {0}

abbrev pub ArgsFit : UnitForm → Term → Type 0
ArgsFit form tree = AllByRecursion (ArgFits form) (preorder tree)

-- ---- the arguments of a tree with a kind

appended : (form : UnitForm) (xs ys : List Root) → AllByRecursion (ArgFits form) xs → AllByRecursion (ArgFits form) ys → AllByRecursion (ArgFits form) (xs ++ ys)
appended form [] ys a b = b
appended form (x ∷ xs) ys a b = (a.0, appended form xs ys a.1 b)

-- A tree below one that has a kind has a kind.
len_parts : (a : Option Kind) (kind : Kind) → length_kind a ≡ Some kind → IsSome a
len_parts (Some a) kind e = refl
len_parts None kind e = absurd (cc)

elem_parts : (place : Place) (a b : Option Kind) (kind : Kind) → element_kind place a b ≡ Some kind → IsSome a × IsSome b
elem_parts place (Some a) (Some b) kind e = (refl, refl)
elem_parts place None b kind e = absurd (cc)
elem_parts place (Some a) None kind e = absurd (cc)

bin_parts : (op : Option CmpOp) (a b : Option Kind) (kind : Kind) → operator_kind op a b ≡ Some kind → IsSome a × IsSome b
bin_parts None (Some a) (Some b) kind e = (refl, refl)
bin_parts (Some op) (Some a) (Some b) kind e = (refl, refl)
bin_parts None None b kind e = absurd (cc)
bin_parts None (Some a) None kind e = absurd (cc)
bin_parts (Some op) None b kind e = absurd (cc)
bin_parts (Some op) (Some a) None kind e = absurd (cc)

un_parts : (a : Option Kind) (kind : Kind) → unary_kind a ≡ Some kind → IsSome a
un_parts (Some a) kind e = refl
un_parts None kind e = absurd (cc)

cond_parts : (a b c : Option Kind) (kind : Kind) → branch_kind a b c ≡ Some kind → IsSome a × IsSome b × IsSome c
cond_parts (Some a) (Some b) (Some c) kind e = (refl, refl, refl)
cond_parts None b c kind e = absurd (cc)
cond_parts (Some a) None c kind e = absurd (cc)
cond_parts (Some a) (Some b) None kind e = absurd (cc)

with_kind : {P : Type 0} (found : Option Kind) → IsSome found → ((kind : Kind) → found ≡ Some kind → P) → P
with_kind (Some kind) some then = then kind refl
with_kind None some then = absurd (cc)

a_place : (args : List Place) (n : ℕ) (kind : Kind) → option_and_then kind_of (slice_get args n) ≡ Some kind → n < length args
a_place args n kind e = by_place (slice_get args n) refl e
  where
    by_place : (found : Option Place) → slice_get args n ≡ found → option_and_then kind_of found ≡ Some kind → n < length args
    by_place (Some place) f e = slice_get_within args n place f
    by_place None f e = absurd (cc)

pub args_fit : (form : UnitForm) (args : List Place) (result : Place) (few : IsCount form (length args)) (ensured : Bool) (tree : Term) (kind : Kind) → kind_in args result ensured tree ≡ Some kind → ArgsFit form tree
args_fit form args result few ensured (Const n) kind e = (tt, tt)
args_fit form args result few ensured (Arg n) kind e = (omega (arith, few, a_place args n kind e), tt)
args_fit form args result few ensured Null kind e = (tt, tt)
args_fit form args result few ensured Result kind e = (tt, tt)
args_fit form args result few ensured (Len a) kind e = (tt, with_kind _ (len_parts _ kind e) (λ k f. args_fit form args result few ensured a k f))
args_fit form args result few ensured (Elem place a b) kind e =
    let parts = elem_parts place _ _ kind e in
    (tt, appended form (preorder a) (preorder b) (with_kind _ parts.0 (λ k f. args_fit form args result few ensured a k f)) (with_kind _ parts.1 (λ k f. args_fit form args result few ensured b k f)))
args_fit form args result few ensured (Bin operator a b) kind e =
    let parts = bin_parts (comparison_of operator) _ _ kind e in
    (tt, appended form (preorder a) (preorder b) (with_kind _ parts.0 (λ k f. args_fit form args result few ensured a k f)) (with_kind _ parts.1 (λ k f. args_fit form args result few ensured b k f)))
args_fit form args result few ensured (Un operator a) kind e = (tt, with_kind _ (un_parts _ kind e) (λ k f. args_fit form args result few ensured a k f))
args_fit form args result few true (Old a) kind e = (tt, args_fit form args result few false a kind e)
args_fit form args result few false (Old a) kind e = absurd (cc)
args_fit form args result few ensured (Cond a b c) kind e =
    let parts = cond_parts _ _ _ kind e in (
      tt,
      appended form (preorder a) (preorder b ++ preorder c) (with_kind _ parts.0 (λ k f. args_fit form args result few ensured a k f))
          (appended form (preorder b) (preorder c) (with_kind _ parts.1 (λ k f. args_fit form args result few ensured b k f)) (with_kind _ parts.2 (λ k f. args_fit form args result few ensured c k f))),
    )
