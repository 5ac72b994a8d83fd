-- Two texts that are written one after the other.
use Rattle.std.proofs.Common.{◌≡◌, ℕ, List, [], ◌++◌, Option, Result, Ok, Err, sym, ap, ◌∙◌, append-nil}
use Rattle.cc_base.specs.Counts.{Kept}
use Rattle.cc_base.specs.Sink.{appended, counted}
use Rattle.cc_base.proofs.CountLemmas.{Kept-trans}
use Rattle.cc_base.proofs.SinkLemmas.{appended-appended}
use Rattle.answer_lines.specs.LineCounts.{line_count}
use Rattle.answer_lines.specs.Writing.{Writes}
use Rattle.answer_lines.specs.declared.interrupt.Interrupt.{Interrupt}
use Rattle.answer_lines.proofs.LineLemmas.{counted-lines}
use Rattle.answer_lines.proofs.Writings.{change, writes_stop}

-- The second is written, or interrupted, after the first.
pub second_writes : {X : Type 0} (r : Result X Interrupt) (old mid new : Option (List ℕ)) (p0 p1 p2 : Option ℕ) (f0 f1 f2 : ℕ) (a b : List ℕ)
    → mid ≡ appended old a → p1 ≡ counted (line_count a) p0 → Kept f0 f1 → Writes r (change mid new p1 p2 f1 f2) b → Writes r (change old new p0 p2 f0 f2) (a ++ b)
second_writes (Ok x) old mid new p0 p1 p2 f0 f1 f2 a b first puts kept w = record {
  whole = w.whole ∙ ap (λ (told : Option (List ℕ)). appended told b) first ∙ appended-appended old a b;
  puts = w.puts ∙ ap (λ (told : Option ℕ). counted (line_count b) told) puts ∙ counted-lines a b p0;
  prefix = tt;
  cause = λ is. absurd cc;
  kept = Kept-trans f0 f1 f2 kept w.kept;
}
second_writes {X} (Err e) old mid new p0 p1 p2 f0 f1 f2 a b first puts kept w =
    writes_stop {X = X} {Y = X} e old mid new p0 p1 p2 f0 f1 f2 a b (a ++ b) first kept w ([], sym (append-nil (a ++ b)))
