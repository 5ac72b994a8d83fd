-- The spelling of a tree in the second form: that of its root, and then those of the trees below it.
use Rattle.std.proofs.Common.{◌≡◌, ℕ, List, ◌++◌, sym, ap, ◌∙◌, append_assoc}
use Rattle.std.specs.List.{flat_map}
use Rattle.std.proofs.lemmas.List.Concat.{flat_map-append}
use Rattle.cil_model.specs.TermCodes.{LenRoot, ElemRoot, BinRoot, UnRoot, OldRoot, CondRoot, preorder}
use Rattle.cil_model.specs.Terms.{Term, Len, Elem, Bin, Un, Old, Cond}
use Rattle.cil_model.specs.declared.instruction.BinOp.{BinOp}
use Rattle.cil_model.specs.declared.instruction.UnOp.{UnOp}
use Rattle.cil_model.specs.declared.place.Place.{Place}
use Rattle.unit_form.specs.TreeSpelling.{root_bytes, tree_bytes}
use Rattle.unit_form.specs.declared.form.UnitForm.TheVariants.{Second}

two : (a b : Term) → flat_map (root_bytes Second) (preorder a ++ preorder b) ≡ tree_bytes Second a ++ tree_bytes Second b
two a b = flat_map-append (root_bytes Second) (preorder a) (preorder b)

three : (a b c : Term) → flat_map (root_bytes Second) (preorder a ++ (preorder b ++ preorder c)) ≡ tree_bytes Second a ++ (tree_bytes Second b ++ tree_bytes Second c)
three a b c = flat_map-append (root_bytes Second) (preorder a) (preorder b ++ preorder c) ∙ ap (λ (t : List ℕ). tree_bytes Second a ++ t) (two b c)

-- What is written root by root, after what stands there.

pub written_len : (before one two : List ℕ) (a : Term) → one ≡ before ++ root_bytes Second LenRoot → two ≡ one ++ tree_bytes Second a → two ≡ before ++ tree_bytes Second (Len a)
written_len before one two a e f = f ∙ ap (λ (t : List ℕ). t ++ tree_bytes Second a) e ∙ append_assoc before (root_bytes Second LenRoot) (tree_bytes Second a)

pub written_un : (before one two : List ℕ) (operator : UnOp) (a : Term) → one ≡ before ++ root_bytes Second (UnRoot operator) → two ≡ one ++ tree_bytes Second a → two ≡ before ++ tree_bytes Second (Un operator a)
written_un before one two operator a e f = f ∙ ap (λ (t : List ℕ). t ++ tree_bytes Second a) e ∙ append_assoc before (root_bytes Second (UnRoot operator)) (tree_bytes Second a)

pub written_old : (before one two : List ℕ) (a : Term) → one ≡ before ++ root_bytes Second OldRoot → two ≡ one ++ tree_bytes Second a → two ≡ before ++ tree_bytes Second (Old a)
written_old before one two a e f = f ∙ ap (λ (t : List ℕ). t ++ tree_bytes Second a) e ∙ append_assoc before (root_bytes Second OldRoot) (tree_bytes Second a)

behind_two : (before root one two_ three_ : List ℕ) (a b : Term) → one ≡ before ++ root → two_ ≡ one ++ tree_bytes Second a → three_ ≡ two_ ++ tree_bytes Second b
    → three_ ≡ before ++ (root ++ flat_map (root_bytes Second) (preorder a ++ preorder b))
behind_two before root one two_ three_ a b e f g =
    g ∙ ap (λ (t : List ℕ). t ++ tree_bytes Second b) (f ∙ ap (λ (t : List ℕ). t ++ tree_bytes Second a) e) ∙ append_assoc (before ++ root) (tree_bytes Second a) (tree_bytes Second b)
    ∙ append_assoc before root (tree_bytes Second a ++ tree_bytes Second b) ∙ ap (λ (t : List ℕ). before ++ (root ++ t)) (sym (two a b))

pub written_elem : (before one two_ three_ : List ℕ) (place : Place) (a b : Term) → one ≡ before ++ root_bytes Second (ElemRoot place) → two_ ≡ one ++ tree_bytes Second a → three_ ≡ two_ ++ tree_bytes Second b
    → three_ ≡ before ++ tree_bytes Second (Elem place a b)
written_elem before one two_ three_ place a b e f g = behind_two before (root_bytes Second (ElemRoot place)) one two_ three_ a b e f g

pub written_bin : (before one two_ three_ : List ℕ) (operator : BinOp) (a b : Term) → one ≡ before ++ root_bytes Second (BinRoot operator) → two_ ≡ one ++ tree_bytes Second a → three_ ≡ two_ ++ tree_bytes Second b
    → three_ ≡ before ++ tree_bytes Second (Bin operator a b)
written_bin before one two_ three_ operator a b e f g = behind_two before (root_bytes Second (BinRoot operator)) one two_ three_ a b e f g

pub written_cond : (before one two_ three_ four_ : List ℕ) (a b c : Term) → one ≡ before ++ root_bytes Second CondRoot → two_ ≡ one ++ tree_bytes Second a → three_ ≡ two_ ++ tree_bytes Second b
    → four_ ≡ three_ ++ tree_bytes Second c → four_ ≡ before ++ tree_bytes Second (Cond a b c)
written_cond before one two_ three_ four_ a b c e f g h =
    h ∙ ap (λ (t : List ℕ). t ++ tree_bytes Second c) (behind_two before (root_bytes Second CondRoot) one two_ three_ a b e f g)
    ∙ append_assoc before (root_bytes Second CondRoot ++ flat_map (root_bytes Second) (preorder a ++ preorder b)) (tree_bytes Second c)
    ∙ ap (λ (t : List ℕ). before ++ (root_bytes Second CondRoot ++ t)) (ap (λ (t : List ℕ). t ++ tree_bytes Second c) (two a b) ∙ append_assoc (tree_bytes Second a) (tree_bytes Second b) (tree_bytes Second c) ∙ sym (three a b c))

pub ruleset writing = (written_len, written_un, written_old, written_elem, written_bin, written_cond)
