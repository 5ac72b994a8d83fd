-- Trees by their roots.
use Rattle.cil_model.specs.Terms.{Term, Const, Arg, Null, Result, Len, Elem, Bin, Un, Old}

-- The root of this term over another one. Of a root over two or more it is that one.
abbrev pub over_one : Term → Term → Term
over_one (Len x) a = Len a
over_one (Un operator x) a = Un operator a
over_one (Old x) a = Old a
over_one _ a = a

-- The root of this term over two others. Of another root it is the first one.
abbrev pub over_two : Term → Term → Term → Term
over_two (Elem place x y) a b = Elem place a b
over_two (Bin operator x y) a b = Bin operator a b
over_two _ a b = a

-- The root of this term, if it stands over none. Else it is null.
abbrev pub alone : Term → Term
alone (Const n) = Const n
alone (Arg n) = Arg n
alone Result = Result
alone _ = Null
