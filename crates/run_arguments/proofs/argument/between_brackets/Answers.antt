use Rattle.std.proofs.Common.{List, ℕ, Option, None, Some, Bor, ap, sym, ◌∙◌, lit<, option_map}
use Rattle.std.proofs.lemmas.Str.Pattern.{strip_prefix_char, strip_suffix_char}
use Rattle.run_arguments.proofs.WordLemmas.{brackets_unopened, closed_by}
use Rattle.run_arguments.proofs.argument.between_brackets.Goals as goal

pub returns-in_err-strip_prefix : goal.returns-in_err-strip_prefix
returns-in_err-strip_prefix c =
    ap (λ (r : Option (Bor (List ℕ))). option_map (λ (x : Bor (List ℕ)). x.now) r) c.from_residual.ensures
    ∙ sym (brackets_unopened c.args.word.now (strip_prefix_char 91 c.args.word.now None c.in_err-strip_prefix.ensures.cases (lit< tt)))

pub returns : goal.returns
returns c =
    let opened = strip_prefix_char 91 c.args.word.now (Some c.in_ok-strip_prefix.field-0) c.in_ok-strip_prefix.ensures.cases (lit< tt) in
    closed_by c.args.word.now c.in_ok-strip_prefix.field-0.now c.strip_suffix.result opened
    (strip_suffix_char 93 c.in_ok-strip_prefix.field-0.now c.strip_suffix.result c.strip_suffix.ensures.cases (lit< tt))
