use Rattle.std.proofs.Common.{sym, ◌∙◌, rules, w64, FitsSigned}
use Rattle.std.proofs.lemmas.Int.{to_z-of_z}
use Rattle.pentagon_domain.proofs.IdleSums.{idle_at, itself_low}
use Rattle.pentagon_domain.proofs.bounds.Bounds.raised_behind.Goals as goal

pub returns-then-is_idle : goal.returns-then-is_idle
returns-then-is_idle c =
    let first : FitsSigned w64 c.args.first.now.k = search rules in
    let most : FitsSigned w64 c.most.result = search rules in
    let is = rw (to_z-of_z w64 c.args.first.now.k first, to_z-of_z w64 c.most.result most) at (sym c.is_idle.ensures ∙ c.if-is_idle.true) in
    idle_at c.args.self.now c.args.first.now.t c.args.t c.args.first.now.k c.most.result c.args.known c.args.known c.most.ensures.form c.most.ensures.value is
    (λ _. itself_low c.args.known)
