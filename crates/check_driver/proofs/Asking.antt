-- What a finder was asked for, from the answer of a call.
use Rattle.std.proofs.Common.{◌≡◌, ℕ, List, [], Result, Ok, Err, refl}
use Rattle.std.specs.Prelude.{IfOk}
use Rattle.answer_lines.specs.Outcome.{status_of}
use Rattle.answer_lines.specs.declared.interrupt.Interrupt.{Interrupt}
use Rattle.answer_lines.specs.declared.interrupt.Interrupt.TheVariants as interrupts
use Rattle.unit_verdicts.specs.Asked.{Asks}
use Rattle.unit_verdicts.proofs.Asking.{asks_none, prefix_none}
use Rattle.check_driver.specs.Asked.{AnswerAsks, LeavesAsked}

abbrev Keys : Type 0
Keys = List (List ℕ)

-- ---- answers to a command

pub answer_asks : (keys : Keys) (r : Result ℕ Interrupt) (old new : Keys) → Asks keys r old new → AnswerAsks keys r old new
answer_asks keys (Ok status) old new asks = record { prefix = asks.prefix; whole = λ other. asks.whole }
answer_asks keys (Err e) old new asks = record { prefix = asks.prefix; whole = tt }

-- Nothing is to be asked.
pub answer_asks_none : (r : Result ℕ Interrupt) (old : Keys) → AnswerAsks [] r old old
answer_asks_none r old = answer_asks [] r old old (asks_none r old old refl)

-- A file was not read.
pub unread_asks : (keys : Keys) (r : Result ℕ Interrupt) (old : Keys) → IfOk r (λ status. status ≡ 4) → AnswerAsks keys r old old
unread_asks keys (Ok status) old is = record { prefix = prefix_none keys old; whole = λ other. absurd (other is) }
unread_asks keys (Err e) old is = record { prefix = prefix_none keys old; whole = tt }

-- ---- the end of a call

pub leaves_asked : (keys : Keys) (r : Result ℕ Interrupt) (old new : Keys) → AnswerAsks keys r old new → LeavesAsked keys (status_of r) old new
leaves_asked keys (Ok status) old new asks = record { prefix = asks.prefix; whole = λ a b c. asks.whole a }
leaves_asked keys (Err interrupts.CannotWrite) old new asks = record { prefix = asks.prefix; whole = λ a b c. absurd (b refl) }
leaves_asked keys (Err interrupts.NoMemory) old new asks = record { prefix = asks.prefix; whole = λ a b c. absurd (c refl) }

-- Memory ran out before anything was asked.
pub unasked : (keys : Keys) (old : Keys) → AnswerAsks keys (Err interrupts.NoMemory) old old
unasked keys old = record { prefix = prefix_none keys old; whole = tt }
