use Rattle.std.proofs.Common.{◌≡◌, ◌+ℤ◌, [], ◌∷◌, ◌++◌, rules}
use Rattle.number_facts.specs.declared.relation.Relation.TheVariants as relations
use Rattle.number_facts.proofs.Uppers.{both_pushed}
use Rattle.number_facts.proofs.additions.note_beside.Goals as goal

pub returns : goal.returns
returns c =
    let least = relations.AtLeast c.args.e.sym (c.args.e.k +ℤ c.args.r.lo) in
    let greatest = relations.AtMost c.args.e.sym (c.args.e.k +ℤ c.args.r.hi) in
    let first : c.push.new.self.items ≡ c.args.known.now.items ++ relations.AtLeast c.args.e.sym (c.args.e.k +ℤ c.args.r.lo) ∷ [] = search rules in
    let second : c.push-2.new.self.items ≡ c.push.new.self.items ++ relations.AtMost c.args.e.sym (c.args.e.k +ℤ c.args.r.hi) ∷ [] = search rules in
    rw (second, first) (both_pushed c.args.known.now.items least greatest)
