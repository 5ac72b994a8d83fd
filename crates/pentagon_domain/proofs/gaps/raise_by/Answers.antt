use Rattle.std.proofs.Common.{w64, FitsSigned, None, get_or, rules}
use Rattle.std.proofs.lemmas.Int.{to_z-of_z}
use Rattle.pentagon_domain.proofs.Reaches.{next_hit, next_miss}
use Rattle.pentagon_domain.proofs.gaps.raise_by.Goals as goal

pub returns-then-next-first : goal.returns-then-next-first
returns-then-next-first c = λ t inside.
    let first : FitsSigned w64 c.args.first.now.k = search rules in
    let next : FitsSigned w64 c.args.next.now.k = search rules in
    let raised = rw (to_z-of_z w64 c.args.first.now.k first, to_z-of_z w64 c.args.next.now.k next) at (c.raise.ensures t inside) in
    next_hit c.args.first.now c.args.next.now t (get_or c.args.gaps.now t None) (get_or c.raise.new.gaps t None) (search rules) raised

pub returns-else-next-first : goal.returns-else-next-first
returns-else-next-first c = λ t inside.
    next_miss c.args.first.now c.args.next.now t (get_or c.args.gaps.now t None) (search rules)
