-- What a call of the program leaves, however it ends.
use Rattle.std.specs.Prelude.{◌≡◌, ◌≢◌, ◌⊎◌, ℕ, List, [], ◌++◌, Result, Ok, Err, Any, IfOk, OnErr, IsErrOf}
use Rattle.cc_base.specs.Counts.{Rose, Kept}
use Rattle.cc_base.specs.Sink.{appended, counted, AppendsPrefix, IsPrefix}
use Rattle.answer_lines.specs.Answers.{Answer, error_answer, unread_line, UNWRITTEN_LINE, NO_MEMORY_LINE}
use Rattle.answer_lines.specs.Writing.{Change, PutsLines}
use Rattle.answer_lines.specs.declared.interrupt.Interrupt.{Interrupt}
use Rattle.answer_lines.specs.declared.interrupt.Interrupt.TheVariants as interrupts

-- An answer after a line on the sink of errors.
abbrev pub after_line : List ℕ → Answer → Answer
after_line line answer = record { out = answer.out; err = line ++ answer.err; status = answer.status }

-- The whole text was written to the sink.
abbrev pub WritesAll : Change → List ℕ → Type 0
WritesAll sink text = sink.new ≡ appended sink.old text

-- The call gave the answer, or was interrupted after a prefix of what it writes, by a fault of a sink or
-- for want of memory.
pub record Gives (answer : Answer) (result : Result ℕ Interrupt) (out err : Change) : Type 0 where
  pub status : IfOk result (λ status. status ≡ answer.status)
  pub out_all : IfOk result (λ _. WritesAll out answer.out)
  pub err_all : IfOk result (λ _. WritesAll err answer.err)
  pub out_puts : IfOk result (λ _. PutsLines out answer.out)
  pub err_puts : IfOk result (λ _. PutsLines err answer.err)
  pub out_prefix : OnErr result (AppendsPrefix out.old out.new answer.out)
  pub err_prefix : OnErr result (AppendsPrefix err.old err.new answer.err)
  pub cause : IsErrOf result interrupts.CannotWrite → Rose out.faults_before out.faults_after ⊎ Rose err.faults_before err.faults_after
  pub out_kept : Kept out.faults_before out.faults_after
  pub err_kept : Kept err.faults_before err.faults_after

-- The answer where a device refused to give a file.
abbrev pub unread_answer : List ℕ → Answer
unread_answer name = error_answer 4 (unread_line name)

-- The call gave what is expected, or, only where a device refused a read in it, the answer that one of
-- these files was not read.
abbrev pub GivesOrUnread : Answer → List (List ℕ) → Type 0 → Result ℕ Interrupt → Change → Change → Type 0
GivesOrUnread expected names failed result out err =
    Gives expected result out err ⊎ (failed × Any (λ name. Gives (unread_answer name) result out err) names)

-- The whole answer was written, and then the call was interrupted by a fault of the files.
pub record IsUnreplaced (answer : Answer) (result : Result ℕ Interrupt) (out err : Change) : Type 0 where
  pub interrupted : result ≡ Err interrupts.CannotWrite
  pub out_all : WritesAll out answer.out
  pub err_all : WritesAll err answer.err
  pub out_kept : Kept out.faults_before out.faults_after
  pub err_kept : Kept err.faults_before err.faults_after

-- The call gave what is expected, or the answer that one of these files was not read, only where a device refused a
-- read in it, or was interrupted after all that is expected, only where one refused to replace a file.
abbrev pub GivesOrFails : Answer → List (List ℕ) → Type 0 → Type 0 → Result ℕ Interrupt → Change → Change → Type 0
GivesOrFails expected names unread unreplaced result out err =
    GivesOrUnread expected names unread result out err ⊎ (unreplaced × IsUnreplaced expected result out err)

-- The status of a call that ended so.
abbrev pub status_of : Result ℕ Interrupt → ℕ
status_of (Ok status) = status
status_of (Err interrupts.CannotWrite) = 6
status_of (Err interrupts.NoMemory) = 7

-- The line that is tried at last: none where the answer came.
abbrev pub last_line : Result ℕ Interrupt → List ℕ
last_line (Ok status) = []
last_line (Err interrupts.CannotWrite) = UNWRITTEN_LINE
last_line (Err interrupts.NoMemory) = NO_MEMORY_LINE

-- The sink of errors has a prefix of one text, and after it a prefix of the line that tells the status.
abbrev pub Interrupted : List ℕ → List ℕ → Change → Type 0
Interrupted line text err =
    (first second : List ℕ) × IsPrefix first text × IsPrefix second line × (err.new ≡ appended err.old (first ++ second))

-- What the program leaves: `expected` is the answer to its words, `names` has the names of their files, and
-- `failed` says that a device refused a read in this call.
pub record Leaves (expected : Answer) (names : List (List ℕ)) (failed : Type 0) (status : ℕ) (out err : Change) : Type 0 where
  -- Where nothing interrupts it, the answer is the expected one.
  pub answered : status ≢ 4 → status ≢ 6 → status ≢ 7
      → (status ≡ expected.status) × WritesAll out expected.out × WritesAll err expected.err
  -- Then each sink was put as often as its text has lines.
  pub lines : status ≢ 4 → status ≢ 6 → status ≢ 7 → PutsLines out expected.out × PutsLines err expected.err
  -- What was written is a prefix of what is expected, whatever happens.
  pub prefix : AppendsPrefix out.old out.new expected.out
  -- Status 4 comes with the line of one of the files alone, in one put, and nothing on the sink of output.
  pub unread : status ≡ 4 → failed × Any (λ name. WritesAll err (unread_line name)) names
  pub unread_out : status ≡ 4 → WritesAll out []
  pub unread_lines : status ≡ 4 → (out.puts_after ≡ out.puts_before) × (err.puts_after ≡ counted 1 err.puts_before)
  -- Statuses 6 and 7 come after a prefix of what would have been written, and with a prefix of their line.
  pub unwritten : status ≡ 6 → Interrupted UNWRITTEN_LINE expected.err err
      ⊎ (failed × Any (λ name. Interrupted UNWRITTEN_LINE (unread_line name) err) names)
  pub no_memory : status ≡ 7 → Interrupted NO_MEMORY_LINE expected.err err
      ⊎ (failed × Any (λ name. Interrupted NO_MEMORY_LINE (unread_line name) err) names)
