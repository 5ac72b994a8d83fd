-- Roots in memory, and the roots that they are.
use Rattle.cil_model.specs.TermCodes.{Root, ConstRoot, ArgRoot, NullRoot, ResultRoot, LenRoot, ElemRoot, BinRoot, UnRoot, OldRoot, CondRoot}
use Rattle.unit_form.specs.declared.root.Root.{Root as RootInMemory}
use Rattle.unit_form.specs.declared.root.Root.TheVariants as roots

abbrev pub told : RootInMemory → Root
told (roots.Const n) = ConstRoot n
told (roots.Arg n) = ArgRoot n
told roots.Null = NullRoot
told roots.Result = ResultRoot
told roots.Len = LenRoot
told (roots.Elem place) = ElemRoot place
told (roots.Bin operator) = BinRoot operator
told (roots.Un operator) = UnRoot operator
told roots.Old = OldRoot
told roots.Cond = CondRoot
