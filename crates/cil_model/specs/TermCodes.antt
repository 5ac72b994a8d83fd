-- A term is told by a list: the roots of it and of the terms below it.
use Rattle.std.specs.Prelude.{ℕ, ℤ, List, [], ◌∷◌, ◌++◌}
use Rattle.cil_model.specs.Terms.{Term, Const, Arg, Null, Result, Len, Elem, Bin, Un, Old, Cond}
use Rattle.cil_model.specs.declared.instruction.BinOp.{BinOp}
use Rattle.cil_model.specs.declared.instruction.UnOp.{UnOp}
use Rattle.cil_model.specs.declared.place.Place.{Place}

-- The root of a term, without the terms below it.
pub data Root : Type 0 where
  ConstRoot : ℤ → Root
  ArgRoot : ℕ → Root
  NullRoot : Root
  ResultRoot : Root
  LenRoot : Root
  ElemRoot : Place → Root
  BinRoot : BinOp → Root
  UnRoot : UnOp → Root
  OldRoot : Root
  CondRoot : Root

-- The roots of a term and of the terms below it, in preorder.
abbrev pub preorder : Term → List Root
preorder (Const n) = ConstRoot n ∷ []
preorder (Arg n) = ArgRoot n ∷ []
preorder Null = NullRoot ∷ []
preorder Result = ResultRoot ∷ []
preorder (Len a) = LenRoot ∷ preorder a
preorder (Elem place a b) = ElemRoot place ∷ (preorder a ++ preorder b)
preorder (Bin operator a b) = BinRoot operator ∷ (preorder a ++ preorder b)
preorder (Un operator a) = UnRoot operator ∷ preorder a
preorder (Old a) = OldRoot ∷ preorder a
preorder (Cond a b c) = CondRoot ∷ (preorder a ++ (preorder b ++ preorder c))

-- Some terms with a root put on the first of them.
abbrev pub rooted : Root → List Term → List Term
rooted (ConstRoot n) terms = Const n ∷ terms
rooted (ArgRoot n) terms = Arg n ∷ terms
rooted NullRoot terms = Null ∷ terms
rooted ResultRoot terms = Result ∷ terms
rooted LenRoot (a ∷ terms) = Len a ∷ terms
rooted (ElemRoot place) (a ∷ b ∷ terms) = Elem place a b ∷ terms
rooted (BinRoot operator) (a ∷ b ∷ terms) = Bin operator a b ∷ terms
rooted (UnRoot operator) (a ∷ terms) = Un operator a ∷ terms
rooted OldRoot (a ∷ terms) = Old a ∷ terms
rooted CondRoot (a ∷ b ∷ c ∷ terms) = Cond a b c ∷ terms
rooted root terms = terms

-- The terms whose roots stand in preorder, one term after another.
abbrev pub terms_of : List Root → List Term
terms_of [] = []
terms_of (root ∷ roots) = rooted root (terms_of roots)

-- The first of some terms, Null where there is none.
abbrev pub first_term : List Term → Term
first_term [] = Null
first_term (t ∷ ts) = t
