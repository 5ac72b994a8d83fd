-- What a call that writes a text leaves, where it may be interrupted.
use Rattle.std.specs.Prelude.{◌≡◌, ℕ, List, Option, Result, OnOk, OnErr, IsErrOf}
use Rattle.std.specs.List.{flat_map}
use Rattle.std.specs.declared.alloc.Global.{Global}
use Rattle.std.specs.declared.vec.Vec.{Vec}
use Rattle.cc_base.specs.Counts.{Rose, Kept}
use Rattle.cc_base.specs.Sink.{appended, counted, AppendsPrefix}
use Rattle.cc_base.specs.declared.files.ReplaceRefusal.{ReplaceRefusal}
use Rattle.cc_base.specs.declared.files.ReplaceRefusal.TheVariants as unreplaced
use Rattle.cc_base.specs.declared.sink.PutRefusal.{PutRefusal}
use Rattle.cc_base.specs.declared.sink.PutRefusal.TheVariants as refusals
use Rattle.answer_lines.specs.LineCounts.{line_count}
use Rattle.answer_lines.specs.declared.interrupt.Interrupt.{Interrupt}
use Rattle.answer_lines.specs.declared.interrupt.Interrupt.TheVariants as interrupts

-- How a refused put interrupts a call.
abbrev pub interrupt_of : PutRefusal → Interrupt
interrupt_of refusals.Failed = interrupts.CannotWrite
interrupt_of refusals.NoMemory = interrupts.NoMemory

-- How a file that was not replaced interrupts a call.
abbrev pub interrupt_by_replace : ReplaceRefusal → Interrupt
interrupt_by_replace unreplaced.Failed = interrupts.CannotWrite
interrupt_by_replace unreplaced.NoMemory = interrupts.NoMemory

-- A sink, before and after: what is told of it, how often bytes were put, and its count of faults.
pub record Change : Type 0 where
  pub old : Option (List ℕ)
  pub new : Option (List ℕ)
  pub puts_before : Option ℕ
  pub puts_after : Option ℕ
  pub faults_before : ℕ
  pub faults_after : ℕ

-- The change of a sink, of which `written` tells what it was given, `puts` how often that was, and `faults` how often
-- it refused.
abbrev pub change_of : {S : Type 0} → (S → Option (List ℕ)) → (S → Option ℕ) → (S → ℕ) → S → S → Change
change_of written puts faults before after = record {
  old = written before;
  new = written after;
  puts_before = puts before;
  puts_after = puts after;
  faults_before = faults before;
  faults_after = faults after;
}

-- The sink was put as often as the text has lines.
abbrev pub PutsLines : Change → List ℕ → Type 0
PutsLines sink text = sink.puts_after ≡ counted (line_count text) sink.puts_before

-- The call wrote the text, in as many puts as it has lines, or was interrupted after a prefix of it, by a fault of the
-- sink or for want of memory.
pub record Writes {X : Type 0} (result : Result X Interrupt) (sink : Change) (text : List ℕ) : Type 0 where
  pub whole : OnOk result (sink.new ≡ appended sink.old text)
  pub puts : OnOk result (PutsLines sink text)
  pub prefix : OnErr result (AppendsPrefix sink.old sink.new text)
  pub cause : IsErrOf result interrupts.CannotWrite → Rose sink.faults_before sink.faults_after
  pub kept : Kept sink.faults_before sink.faults_after

-- The bytes of some lines, one after another.
abbrev pub joined : List (Vec ℕ Global) → List ℕ
joined lines = flat_map (λ line. line.items) lines
