-- A term is told by its roots in preorder: it comes back from them.
use Rattle.std.specs.Prelude.{◌≡◌, List, [], ◌∷◌, ◌++◌, refl}
use Rattle.std.specs.Coded.{Coded, code_by}
use Rattle.std.proofs.Common.{ap, ◌∙◌, append_assoc, append-nil}
use Rattle.cil_model.specs.TermCodes.{Root, LenRoot, ElemRoot, BinRoot, UnRoot, OldRoot, CondRoot, preorder, rooted, terms_of, first_term}
use Rattle.cil_model.specs.Terms.{Term, Const, Arg, Null, Result, Len, Elem, Bin, Un, Old, Cond}

-- What stands in preorder comes back, whatever follows it.
pub terms_of-preorder : (t : Term) (rest : List Root) → terms_of (preorder t ++ rest) ≡ t ∷ terms_of rest
terms_of-preorder (Const n) rest = refl
terms_of-preorder (Arg n) rest = refl
terms_of-preorder Null rest = refl
terms_of-preorder Result rest = refl
terms_of-preorder (Len a) rest = ap (rooted LenRoot) (terms_of-preorder a rest)
terms_of-preorder (Elem place a b) rest = ap (rooted (ElemRoot place)) (ap terms_of (append_assoc (preorder a) (preorder b) rest) ∙ terms_of-preorder a (preorder b ++ rest) ∙ ap (λ ts. a ∷ ts) (terms_of-preorder b rest))
terms_of-preorder (Bin operator a b) rest = ap (rooted (BinRoot operator)) (ap terms_of (append_assoc (preorder a) (preorder b) rest) ∙ terms_of-preorder a (preorder b ++ rest) ∙ ap (λ ts. a ∷ ts) (terms_of-preorder b rest))
terms_of-preorder (Un operator a) rest = ap (rooted (UnRoot operator)) (terms_of-preorder a rest)
terms_of-preorder (Old a) rest = ap (rooted OldRoot) (terms_of-preorder a rest)
terms_of-preorder (Cond a b c) rest =
    ap (rooted CondRoot) (
    ap terms_of (append_assoc (preorder a) (preorder b ++ preorder c) rest)
    ∙ ap (λ roots. terms_of (preorder a ++ roots)) (append_assoc (preorder b) (preorder c) rest)
    ∙ terms_of-preorder a (preorder b ++ (preorder c ++ rest))
    ∙ ap (λ ts. a ∷ ts) (terms_of-preorder b (preorder c ++ rest) ∙ ap (λ ts. b ∷ ts) (terms_of-preorder c rest)))

pub first_back : (t : Term) → first_term (terms_of (preorder t)) ≡ t
first_back t = rw (← append-nil (preorder t)) (ap first_term (terms_of-preorder t []))

-- A term is told by its roots in preorder.
abbrev pub term_code : Coded (List Root) → Coded Term
term_code roots = code_by (List Root) roots preorder (λ roots. first_term (terms_of roots)) first_back
