use Rattle.std.proofs.Common.{ℤ, List, Option, get_or, drop, None}
use Rattle.pentagon_domain.specs.declared.ends.Ends.{Ends}
use Rattle.pentagon_domain.specs.Tight.{AddNothing, AreTold}
use Rattle.pentagon_domain.proofs.tight.add_nothing.Given as goal

-- Where the rest adds nothing, none of them does.
abbrev pub invariant-loop-next : goal.invariant-loop-next
invariant-loop-next l =
    (ends : List Ends) (row : List (Option ℤ)) → AreTold ends row l.s l.told
    → AddNothing ends (λ t. get_or row t None) l.s l.first.k (drop l.next-index l.nexts)
    → AddNothing ends (λ t. get_or row t None) l.s l.first.k l.nexts
