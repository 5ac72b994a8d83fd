use Rattle.std.proofs.Common.{◌≡◌, List, ℕ, Some, None, ap, sym, ◌∙◌}
use Rattle.invariant_reader.specs.BlockReaders.{line_prefix}
use Rattle.invariant_reader.specs.Prefixes.{behind}
use Rattle.invariant_reader.proofs.BlockReads.{end_missed, prefix_missed, reached_read, unreached_read}
use Rattle.invariant_reader.proofs.blocks.read_reached.Goals as goal

pub returns-in_default : goal.returns-in_default
returns-in_default c =
    let prefix = c.deref.ensures.value ∙ c.in_ok-prefix.ensures in
    prefix_missed c.args.at c.args.text.now
    (c.in_default.ensures ∙ ap (λ (prefix : List ℕ). behind prefix c.args.text.now) prefix)

pub returns-in-Some-behind : goal.returns-in-Some-behind
returns-in-Some-behind c =
    let prefix = c.deref.ensures.value ∙ c.in_ok-prefix.ensures in
    reached_read c.args.at c.args.text.now c.in-Some.left.now c.in-Some-behind.left.now
    (c.in-Some.ensures ∙ ap (λ (prefix : List ℕ). behind prefix c.args.text.now) prefix) c.in-Some-behind.ensures

pub returns-in_default-behind-2 : goal.returns-in_default-behind-2
returns-in_default-behind-2 c =
    let prefix = c.deref.ensures.value ∙ c.in_ok-prefix.ensures in
    end_missed c.args.at c.args.text.now c.in-Some.left.now
    (c.in-Some.ensures ∙ ap (λ (prefix : List ℕ). behind prefix c.args.text.now) prefix)
    c.in_default-behind.ensures c.in_default-behind-2.ensures

pub returns : goal.returns
returns c =
    let prefix = c.deref.ensures.value ∙ c.in_ok-prefix.ensures in
    unreached_read c.args.at c.args.text.now c.in-Some.left.now c.in-Some-behind-2.left.now
    (c.in-Some.ensures ∙ ap (λ (prefix : List ℕ). behind prefix c.args.text.now) prefix)
    c.in_default-behind.ensures c.in-Some-behind-2.ensures
