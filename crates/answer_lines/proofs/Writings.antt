-- How texts that are written follow one another, and what answers they make.
use Rattle.std.proofs.Common.{◌≡◌, ℕ, suc, ◌+◌, ◌<◌, arith, List, [], ◌∷◌, ◌++◌, length, get_or, take, drop, Option, Result, Ok, Err, refl, sym, ap, ◌∙◌, append_assoc, take-append-drop, inl, inr}
use Rattle.std.specs.Prelude.{IfOk, IsErrOf}
use Rattle.std.specs.List.{flat_map}
use Rattle.std.proofs.Math.Seq.{drop-cons}
use Rattle.std.proofs.lemmas.Grind.{common_steps}
use Rattle.std.proofs.lemmas.List.Concat.{flat_map-append}
use Rattle.cc_base.specs.Counts.{Kept}
use Rattle.cc_base.specs.Sink.{appended, counted, IsPrefix}
use Rattle.cc_base.proofs.CountLemmas.{Kept-refl, Kept-trans, Kept-Rose}
use Rattle.cc_base.proofs.SinkLemmas.{appended-appended, appended-nil, AppendsPrefix-none, AppendsPrefix-after, AppendsPrefix-prefix}
use Rattle.answer_lines.specs.Answers.{Answer, error_answer, output_answer}
use Rattle.answer_lines.specs.LineCounts.{line_count}
use Rattle.answer_lines.specs.Outcome.{Gives}
use Rattle.answer_lines.specs.Writing.{Change, Writes}
use Rattle.answer_lines.specs.declared.interrupt.Interrupt.{Interrupt}
use Rattle.answer_lines.proofs.LineLemmas.{counted-lines}
use Rattle.answer_lines.specs.declared.interrupt.Interrupt.TheVariants as interrupts

-- A change of a sink, by its parts.
abbrev pub change : Option (List ℕ) → Option (List ℕ) → Option ℕ → Option ℕ → ℕ → ℕ → Change
change old new puts_before puts_after before after =
    record { old = old; new = new; puts_before = puts_before; puts_after = puts_after; faults_before = before; faults_after = after }

-- A call that was interrupted as another one gives the same error.
pub retold : {X Y : Type 0} (e f : Interrupt) → IsErrOf {T = X} (Err e) f → IsErrOf {T = Y} (Err e) f
retold interrupts.CannotWrite interrupts.CannotWrite h = refl
retold interrupts.NoMemory interrupts.NoMemory h = refl
retold interrupts.CannotWrite interrupts.NoMemory h = absurd cc
retold interrupts.NoMemory interrupts.CannotWrite h = absurd cc

-- A text that is interrupted after another one is a prefix of all that begins with both.
pub writes_stop : {X Y : Type 0} (e : Interrupt) (old mid new : Option (List ℕ)) (p0 p1 p2 : Option ℕ) (f0 f1 f2 : ℕ) (before text whole : List ℕ)
    → mid ≡ appended old before → Kept f0 f1 → Writes {X = X} (Err e) (change mid new p1 p2 f1 f2) text → IsPrefix (before ++ text) whole
    → Writes {X = Y} (Err e) (change old new p0 p2 f0 f2) whole
writes_stop {X} {Y} e old mid new p0 p1 p2 f0 f1 f2 before text whole so_far kept w inside = record {
  whole = tt;
  puts = tt;
  prefix = AppendsPrefix-prefix old new (before ++ text) whole (AppendsPrefix-after old mid new before text so_far w.prefix) inside;
  cause = λ is. Kept-Rose f0 f1 f2 kept (w.cause (retold {X = Y} {Y = X} e interrupts.CannotWrite is));
  kept = Kept-trans f0 f1 f2 kept w.kept;
}

-- The texts of the first items and of the next are a prefix of the texts of all.
texts_prefix : {X : Type 0} (text : X → List ℕ) (items : List X) (k : ℕ) (item : X) → k < length items → item ≡ get_or items k item
    → IsPrefix (flat_map text (take k items) ++ text item) (flat_map text items)
texts_prefix {X} text items k item lt at =
    let split : drop k items ≡ item ∷ drop (suc k) items = drop-cons items k item lt ∙ ap (λ (x : X). x ∷ drop (suc k) items) (sym at) in
    let whole : items ≡ take k items ++ (item ∷ drop (suc k) items) = sym (take-append-drop k items) ∙ ap (λ (r : List X). take k items ++ r) split in
    let texts : flat_map text items ≡ flat_map text (take k items) ++ (text item ++ flat_map text (drop (suc k) items)) =
    ap (flat_map text) whole ∙ flat_map-append text (take k items) (item ∷ drop (suc k) items) in
    (flat_map text (drop (suc k) items), texts ∙ sym (append_assoc (flat_map text (take k items)) (text item) (flat_map text (drop (suc k) items))))

-- The texts of the first items, and then of the next.
pub texts_more : {X : Type 0} (text : X → List ℕ) (items : List X) (k : ℕ) (item : X) → k < length items → item ≡ get_or items k item
    → flat_map text (take k items) ++ text item ≡ flat_map text (take (k + 1) items)
texts_more {X} text items k item lt at = grind (arith, common_steps, at)

-- The next is written and put after the first ones.
pub texts_next : {X : Type 0} (text : X → List ℕ) (items : List X) (k : ℕ) (item : X) (old mid new : Option (List ℕ)) → k < length items → item ≡ get_or items k item
    → mid ≡ appended old (flat_map text (take k items)) → new ≡ appended mid (text item) → new ≡ appended old (flat_map text (take (k + 1) items))
texts_next {X} text items k item old mid new lt at so_far next =
    next ∙ ap (λ (told : Option (List ℕ)). appended told (text item)) so_far ∙ appended-appended old (flat_map text (take k items)) (text item)
    ∙ ap (appended old) (texts_more text items k item lt at)

pub puts_next : {X : Type 0} (text : X → List ℕ) (items : List X) (k : ℕ) (item : X) (old mid new : Option ℕ) → k < length items → item ≡ get_or items k item
    → mid ≡ counted (line_count (flat_map text (take k items))) old → new ≡ counted (line_count (text item)) mid
    → new ≡ counted (line_count (flat_map text (take (k + 1) items))) old
puts_next {X} text items k item old mid new lt at so_far next =
    next ∙ ap (λ (told : Option ℕ). counted (line_count (text item)) told) so_far ∙ counted-lines (flat_map text (take k items)) (text item) old
    ∙ ap (λ (t : List ℕ). counted (line_count t) old) (texts_more text items k item lt at)

-- The texts of items, one after another, are interrupted at the next.
pub texts_stop : {X A : Type 0} (text : X → List ℕ) (items : List X) (k : ℕ) (item : X) (e : Interrupt) (old mid new : Option (List ℕ)) (p0 p1 p2 : Option ℕ) (f0 f1 f2 : ℕ)
    → k < length items → item ≡ get_or items k item → mid ≡ appended old (flat_map text (take k items)) → Kept f0 f1
    → Writes {X = A} (Err e) (change mid new p1 p2 f1 f2) (text item) → Writes {X = A} (Err e) (change old new p0 p2 f0 f2) (flat_map text items)
texts_stop {X} {A} text items k item e old mid new p0 p1 p2 f0 f1 f2 lt at so_far kept w =
    writes_stop {X = A} {Y = A} e old mid new p0 p1 p2 f0 f1 f2 (flat_map text (take k items)) (text item) (flat_map text items) so_far kept w (texts_prefix text items k item lt at)

-- A text that was written whole, whatever is answered then.
pub written_whole : {X Y : Type 0} (x : X) (y : Y) (sink : Change) (text whole : List ℕ) → text ≡ whole → Writes (Ok x) sink text → Writes (Ok y) sink whole
written_whole x y sink text whole same w = record { whole = rw (sym same) w.whole; puts = rw (sym same) w.puts; prefix = tt; cause = λ is. absurd cc; kept = w.kept }

-- ---- answers

-- A line on the sink of errors is the answer.
pub gives_error : (status : ℕ) (line : List ℕ) (r : Result ℕ Interrupt) (o : Option (List ℕ)) (p : Option ℕ) (f : ℕ) (err : Change)
    → IfOk r (λ given. given ≡ status) → Writes r err line → Gives (error_answer status line) r (change o o p p f f) err
unfolding line_count
gives_error status line (Ok given) o p f err is w = record {
  status = is;
  out_all = sym (appended-nil o);
  err_all = w.whole;
  out_puts = refl;
  err_puts = w.puts;
  out_prefix = tt;
  err_prefix = tt;
  cause = λ e. absurd cc;
  out_kept = Kept-refl f;
  err_kept = w.kept;
}
gives_error status line (Err e) o p f err is w = record {
  status = tt;
  out_all = tt;
  err_all = tt;
  out_puts = tt;
  err_puts = tt;
  out_prefix = AppendsPrefix-none o o [] refl;
  err_prefix = w.prefix;
  cause = λ e. inr (w.cause e);
  out_kept = Kept-refl f;
  err_kept = w.kept;
}

-- A text on the sink of output was interrupted.
pub gives_output_stop : {X : Type 0} (status : ℕ) (text : List ℕ) (i : Interrupt) (out : Change) (e : Option (List ℕ)) (p : Option ℕ) (g : ℕ)
    → Writes {X = X} (Err i) out text → Gives (output_answer status text) (Err i) out (change e e p p g g)
gives_output_stop {X} status text i out e p g w = record {
  status = tt;
  out_all = tt;
  err_all = tt;
  out_puts = tt;
  err_puts = tt;
  out_prefix = w.prefix;
  err_prefix = AppendsPrefix-none e e [] refl;
  cause = λ is. inl (w.cause (retold {X = ℕ} {Y = X} i interrupts.CannotWrite is));
  out_kept = w.kept;
  err_kept = Kept-refl g;
}

-- A text on the sink of output is the answer.
pub gives_output : (status : ℕ) (text : List ℕ) (r : Result ℕ Interrupt) (out : Change) (e : Option (List ℕ)) (p : Option ℕ) (g : ℕ)
    → IfOk r (λ given. given ≡ status) → Writes r out text → Gives (output_answer status text) r out (change e e p p g g)
unfolding line_count
gives_output status text (Ok given) out e p g is w = record {
  status = is;
  out_all = w.whole;
  err_all = sym (appended-nil e);
  out_puts = w.puts;
  err_puts = refl;
  out_prefix = tt;
  err_prefix = tt;
  cause = λ e. absurd cc;
  out_kept = w.kept;
  err_kept = Kept-refl g;
}
gives_output status text (Err i) out e p g is w = gives_output_stop {X = ℕ} status text i out e p g w

-- Memory ran out before anything was written.
pub gives_no_memory : (x : Answer) (out err : Change) → out.new ≡ out.old → err.new ≡ err.old → Kept out.faults_before out.faults_after → Kept err.faults_before err.faults_after
    → Gives x (Err interrupts.NoMemory) out err
gives_no_memory x out err out_same err_same out_kept err_kept = record {
  status = tt;
  out_all = tt;
  err_all = tt;
  out_puts = tt;
  err_puts = tt;
  out_prefix = AppendsPrefix-none out.old out.new x.out out_same;
  err_prefix = AppendsPrefix-none err.old err.new x.err err_same;
  cause = λ is. absurd cc;
  out_kept = out_kept;
  err_kept = err_kept;
}
