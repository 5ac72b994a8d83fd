use Rattle.std.proofs.Common.{◌≡◌, ◌++◌, ◌∷◌, [], rules}
use Rattle.pentagon_domain.proofs.TightTests.{told_pushed}
use Rattle.pentagon_domain.proofs.tight.told_from.Goals as goal

pub loop-t-preserved : goal.loop-t-preserved
loop-t-preserved c =
    let before = c.loop-t.told.items in
    let pushed : c.push.new.self.items ≡ before ++ c.told_at.result ∷ [] = search rules in
    record {
      told = rw pushed
          (told_pushed c.args.ends.now c.args.row.now before c.args.s c.loop-t.t c.told_at.result c.loop-t.invariant.many c.loop-t.invariant.told c.told_at.ensures);
      many = search rules;
    }
