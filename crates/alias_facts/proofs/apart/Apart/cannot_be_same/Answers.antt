use Rattle.std.proofs.Common.{◌≡◌, Bool, true, sym, ap, ◌∙◌}
use Rattle.alias_facts.specs.NullnessOf.{are_told_apart, must_differ}
use Rattle.alias_facts.specs.PairsOf.{contains, ordered}
use Rattle.alias_facts.proofs.ApartLaws.{contained_differ, kept_last, must_differ_sound, told_first}
use Rattle.alias_facts.proofs.apart.Apart.cannot_be_same.Goals as goal

pub returns-then-are_told_apart-clause-value : goal.returns-then-are_told_apart-clause-value
returns-then-are_told_apart-clause-value c =
    let kept = contains c.args.self.now (ordered c.args.r c.args.q) in
    c.if-are_told_apart.true ∙ told_first kept (are_told_apart c.args.same_place c.args.a c.args.b) (sym c.are_told_apart.ensures ∙ c.if-are_told_apart.true)

pub returns-then-are_told_apart-clause-sound : goal.returns-then-are_told_apart-clause-sound
returns-then-are_told_apart-clause-sound c = λ is array all places first second.
    let kept = contains c.args.self.now (ordered c.args.r c.args.q) in
    must_differ_sound array c.args.r c.args.q kept c.args.same_place c.args.a c.args.b
    (λ there. contained_differ c.args.self.now array c.args.r c.args.q there all) places first second
    (sym (returns-then-are_told_apart-clause-value c) ∙ is)

pub returns-else-are_told_apart-clause-value : goal.returns-else-are_told_apart-clause-value
returns-else-are_told_apart-clause-value c =
    let kept = contains c.args.self.now (ordered c.args.r c.args.q) in
    c.is_apart.ensures.kept ∙ kept_last kept (are_told_apart c.args.same_place c.args.a c.args.b) (sym c.are_told_apart.ensures ∙ c.if-are_told_apart.false)

pub returns-else-are_told_apart-clause-sound : goal.returns-else-are_told_apart-clause-sound
returns-else-are_told_apart-clause-sound c = λ is array all places first second.
    let kept = contains c.args.self.now (ordered c.args.r c.args.q) in
    must_differ_sound array c.args.r c.args.q kept c.args.same_place c.args.a c.args.b
    (λ there. contained_differ c.args.self.now array c.args.r c.args.q there all) places first second
    (sym (returns-else-are_told_apart-clause-value c) ∙ is)
