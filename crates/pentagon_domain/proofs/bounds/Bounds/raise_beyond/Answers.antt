use Rattle.std.proofs.Common.{◌∙◌, sym, rules, w64, FitsSigned, None, get_or}
use Rattle.std.proofs.lemmas.Int.{to_z-of_z}
use Rattle.pentagon_domain.proofs.IdleSums.{idle_at}
use Rattle.pentagon_domain.proofs.Reaches.{beyond_is}
use Rattle.pentagon_domain.proofs.bounds.Bounds.raise_beyond.Goals as goal

pub returns-then-not-is_idle : goal.returns-then-not-is_idle
returns-then-not-is_idle c = λ t inside _.
    beyond_is c.args.self.now c.args.first.now t (get_or c.args.gaps.now t None) (get_or c.raise_next.new.gaps t None) c.raise_next.ensures.form
    (c.raise_next.ensures.value t inside)

pub returns-else-not-is_idle : goal.returns-else-not-is_idle
returns-else-not-is_idle c = λ t inside low.
    let first : FitsSigned w64 c.args.first.now.k = search rules in
    let most : FitsSigned w64 c.most.result = search rules in
    let is = rw (to_z-of_z w64 c.args.first.now.k first, to_z-of_z w64 c.most.result most) at (sym c.is_idle.ensures ∙ c.if-not-is_idle.false) in
    idle_at c.args.self.now c.args.first.now.t t c.args.first.now.k c.most.result c.args.low (get_or c.args.gaps.now t None) c.most.ensures.form c.most.ensures.value is low
