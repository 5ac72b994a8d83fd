-- A tree that has a kind inside an old value, or in a Requires, has that kind in an Ensures.
use Rattle.std.proofs.Common.{◌≡◌, true, false, List, Option, Some, None, refl, ap, ◌∙◌}
use Rattle.std.proofs.lemmas.Option.{none-some}
use Rattle.cil_model.specs.Comparisons.{comparison_of}
use Rattle.cil_model.specs.Terms as terms
use Rattle.cil_model.specs.Terms.{Term}
use Rattle.cil_model.specs.TreeKinds.{branch_kind, element_kind, kind_in, length_kind, operator_kind, unary_kind}
use Rattle.cil_model.specs.declared.instruction.CmpOp.{CmpOp}
use Rattle.cil_model.specs.declared.place.Kind.{Kind}
use Rattle.cil_model.specs.declared.place.Place.{Place}

-- What is found is found again.
abbrev IsKept : Option Kind → Option Kind → Type 0
IsKept o p = (kind : Kind) → o ≡ Some kind → p ≡ Some kind

length_still : (o p : Option Kind) → IsKept o p → IsKept (length_kind o) (length_kind p)
length_still None p kept kind is = absurd (none-some kind is)
length_still (Some array) p kept kind is = ap length_kind (kept array refl) ∙ is

unary_still : (o p : Option Kind) → IsKept o p → IsKept (unary_kind o) (unary_kind p)
unary_still None p kept kind is = absurd (none-some kind is)
unary_still (Some a) p kept kind is = ap unary_kind (kept a refl) ∙ is

element_still : (place : Place) (o p q s : Option Kind) → IsKept o p → IsKept q s
    → IsKept (element_kind place o q) (element_kind place p s)
element_still place None p q s first second kind is = absurd (none-some kind is)
element_still place (Some a) p None s first second kind is = absurd (none-some kind is)
element_still place (Some a) p (Some b) s first second kind is =
    ap (λ o. element_kind place o s) (first a refl) ∙ ap (element_kind place (Some a)) (second b refl) ∙ is

operator_still : (cmp : Option CmpOp) (o p q s : Option Kind) → IsKept o p → IsKept q s
    → IsKept (operator_kind cmp o q) (operator_kind cmp p s)
operator_still None None p q s first second kind is = absurd (none-some kind is)
operator_still (Some cmp) None p q s first second kind is = absurd (none-some kind is)
operator_still None (Some a) p None s first second kind is = absurd (none-some kind is)
operator_still (Some cmp) (Some a) p None s first second kind is = absurd (none-some kind is)
operator_still cmp (Some a) p (Some b) s first second kind is =
    ap (λ o. operator_kind cmp o s) (first a refl) ∙ ap (operator_kind cmp (Some a)) (second b refl) ∙ is

branch_still : (c d o p q s : Option Kind) → IsKept c d → IsKept o p → IsKept q s
    → IsKept (branch_kind c o q) (branch_kind d p s)
branch_still None d o p q s test first second kind is = absurd (none-some kind is)
branch_still (Some c) d None p q s test first second kind is = absurd (none-some kind is)
branch_still (Some c) d (Some a) p None s test first second kind is = absurd (none-some kind is)
branch_still (Some c) d (Some a) p (Some b) s test first second kind is =
    ap (λ o. branch_kind o p s) (test c refl) ∙ ap (λ o. branch_kind (Some c) o s) (first a refl)
    ∙ ap (branch_kind (Some c) (Some a)) (second b refl) ∙ is

pub kind_everywhere : (args : List Place) (result : Place) (t : Term) (kind : Kind)
    → kind_in args result false t ≡ Some kind → kind_in args result true t ≡ Some kind
kind_everywhere args result (terms.Const n) kind is = is
kind_everywhere args result (terms.Arg n) kind is = is
kind_everywhere args result terms.Null kind is = is
kind_everywhere args result terms.Result kind is = absurd (none-some kind is)
kind_everywhere args result (terms.Len a) kind is =
    length_still (kind_in args result false a) (kind_in args result true a) (kind_everywhere args result a) kind is
kind_everywhere args result (terms.Elem place a b) kind is =
    element_still place (kind_in args result false a) (kind_in args result true a) (kind_in args result false b)
    (kind_in args result true b) (kind_everywhere args result a) (kind_everywhere args result b) kind is
kind_everywhere args result (terms.Bin op a b) kind is =
    operator_still (comparison_of op) (kind_in args result false a) (kind_in args result true a)
    (kind_in args result false b) (kind_in args result true b) (kind_everywhere args result a)
    (kind_everywhere args result b) kind is
kind_everywhere args result (terms.Un op a) kind is =
    unary_still (kind_in args result false a) (kind_in args result true a) (kind_everywhere args result a) kind is
kind_everywhere args result (terms.Old a) kind is = absurd (none-some kind is)
kind_everywhere args result (terms.Cond c a b) kind is =
    branch_still (kind_in args result false c) (kind_in args result true c) (kind_in args result false a)
    (kind_in args result true a) (kind_in args result false b) (kind_in args result true b)
    (kind_everywhere args result c) (kind_everywhere args result a) (kind_everywhere args result b) kind is
