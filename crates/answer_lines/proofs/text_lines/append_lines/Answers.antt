use Rattle.std.proofs.Common.{rules, ◌≡◌, ℕ, Vec, Global, arith}
use Rattle.std.proofs.lemmas.Grind.{common_steps}
use Rattle.std.proofs.lemmas.List.Elements.{All-push}
use Rattle.answer_lines.specs.LineCounts.{line_count}
use Rattle.answer_lines.proofs.FirstLines.{left_ends}
use Rattle.answer_lines.proofs.text_lines.append_lines.Goals as goal

pub loop-rest-preserved : goal.loop-rest-preserved
loop-rest-preserved c = record {
  text = grind (arith, common_steps);
  whole = rw c.split_at.ensures.back (left_ends c.first_line.result c.loop-rest.rest.now c.loop-rest.invariant.whole);
  lines = rw c.in_ok-push.ensures.items
      (All-push (λ (line : Vec ℕ Global). line_count line.items ≡ 1) c.loop-rest.lines.items c.in_ok-from_slice.field-0 c.loop-rest.invariant.lines
      (rw (c.in_ok-from_slice.ensures.items, c.split_at.ensures.front) (c.first_line.ensures.line c.loop-rest.invariant.whole (search rules))));
}
