use Rattle.std.proofs.Common.{ℕ, Global, Option, Vec, option_map, subst}
use Rattle.proof_files.specs.Steps.{IsHexOf}
use Rattle.proof_files.proofs.UnitLines.{feed_missing, hex_missing, line_read, word_none}
use Rattle.proof_files.proofs.unit_lines.read_unit_line.Goals as goal

pub returns-in_default : goal.returns-in_default
returns-in_default c = word_none c.args.text.now c.in_default.ensures

pub returns-in_default-cut_line : goal.returns-in_default-cut_line
returns-in_default-cut_line c = feed_missing c.args.text.now c.in-Some.behind.now c.in-Some.ensures
    c.in_default-cut_line.ensures

pub returns-in_default-2 : goal.returns-in_default-2
returns-in_default-2 c =
    hex_missing c.args.text.now c.in-Some.behind.now c.in-Some-cut_line.digits.now c.in-Some-cut_line.lines.now
    c.in-Some.ensures
    c.in-Some-cut_line.ensures
    (subst (λ (read : Option (Vec ℕ Global)). IsHexOf c.in-Some-cut_line.digits.now
    (option_map (λ bytes. bytes.items) read)) c.in_default-2.is
    c.in_ok-key.ensures)

pub returns : goal.returns
returns c =
    line_read c.args.text.now c.in-Some.behind.now c.in-Some-cut_line.digits.now c.in-Some-cut_line.lines.now
    c.in-Some-2.key.items c.in-Some.ensures
    c.in-Some-cut_line.ensures
    (subst (λ (read : Option (Vec ℕ Global)). IsHexOf c.in-Some-cut_line.digits.now
    (option_map (λ bytes. bytes.items) read)) c.in-Some-2.is
    c.in_ok-key.ensures)
