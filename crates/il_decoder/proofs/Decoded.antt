-- The instruction at an IL offset, and what an answer about it says.
use Rattle.std.proofs.Common.{◌≡◌, ℕ, ◌+◌, ◌<◌, List, ◌++◌, length, drop, get_or, Result, Ok, Err, Fits, w8, refl, ap, subst, ◌∙◌, arith, ◌↔◌, ◌⊎◌, inl, inr}
use Rattle.std.specs.Prelude.{IfOk, IfErr, slice_index}
use Rattle.std.proofs.lemmas.List.{get_or-drop, length-append, length-drop}
use Rattle.cc_base.specs.LittleEndian.{IsBytes}
use Rattle.cc_base.proofs.ByteLemmas.{IsBytes-drop, IsBytes-from_fits}
use Rattle.cc_base.specs.declared.refusal.Refusal.{Refusal}
use Rattle.cc_base.specs.declared.refusal.Refusal.TheVariants.{Bad, NoMemory}
use Rattle.cil_model.specs.declared.instruction.Instr.{Instr}
use Rattle.cil_model.proofs.Forms.{spelling_some}
use Rattle.il_decoder.specs.declared.fault.IlFault.{IlFault}
use Rattle.il_decoder.specs.declared.fault.IlFault.TheVariants.{Short, Opcode}
use Rattle.il_decoder.specs.Decodes.{StandsIn, EndsInside, BeginsNone, opcode_at, Reaches, IsSwitch, TakesMemory, Gives}
use Rattle.il_decoder.specs.Decoding.{Operation, operation, placed, decoded}
use Rattle.il_decoder.proofs.Read.{Explains, operation_explained}
use Rattle.il_decoder.proofs.Found.{spelling_read, cut_is_short}

-- ---- what is decoded

-- What was decoded at an IL offset is this, and these are the faults there.
abbrev Tells : List ℕ → ℕ → Result Instr IlFault → Type 0
Tells code at (Ok i) = (i.at ≡ at) × StandsIn i code
Tells code at (Err (Short place)) = (place ≡ at) × EndsInside code at
Tells code at (Err (Opcode place number)) = (place ≡ at) × (number ≡ opcode_at code at)
Tells code at (Err _) = ⊥

-- The opcode at an IL offset is the one that begins what stands there.
opcode_there : (code : List ℕ) (at : ℕ) → opcode_at (drop at code) 0 ≡ opcode_at code at
opcode_there code at =
    let first : get_or (drop at code) 0 0 ≡ get_or code at 0 = get_or-drop at code 0 0 ∙ ap (λ (k : ℕ). get_or code k 0) (omega arith) in
    let second : get_or (drop at code) 1 0 ≡ get_or code (at + 1) 0 = get_or-drop at code 1 0 in
    rw (first, second) refl

placed_tells : (code : List ℕ) (at : ℕ) (r : Result Operation IlFault) → Explains at (drop at code) r → Tells code at (placed at r)
placed_tells code at (Ok (op, size)) h = (refl, h)
placed_tells code at (Err (Short place)) h = h
placed_tells code at (Err (Opcode place number)) (same, is) = (same, is ∙ opcode_there code at)
placed_tells code at (Err _) h = absurd h

pub decoded_tells : (code : List ℕ) (at : ℕ) → IsBytes code → Tells code at (decoded code at)
unfolding decoded
decoded_tells code at fits = placed_tells code at (operation at (drop at code)) (operation_explained at (drop at code) (IsBytes-drop at code fits))

-- An instruction that is found stands there.
pub decoded_found : (code : List ℕ) (at : ℕ) (i : Instr) → IsBytes code → decoded code at ≡ Ok i → (i.at ≡ at) × StandsIn i code
decoded_found code at i fits e = rw e at (decoded_tells code at fits)

-- An instruction that stands there is found.
pub decoded_only : (code : List ℕ) (at : ℕ) (i : Instr) → i.at ≡ at → StandsIn i code → decoded code at ≡ Ok i
unfolding decoded
decoded_only code at i e (bytes, rest, spells, there) =
    let read : decoded code i.at ≡ Ok i = ap (λ (t : List ℕ). placed i.at (operation i.at t)) there
    ∙ ap (placed i.at) (spelling_read i bytes rest spells) in
    subst (λ (a : ℕ). decoded code a ≡ Ok i) e read

-- An instruction that stands in code takes some of its bytes, and no more than there are.
pub stands_reaches : (i : Instr) (code : List ℕ) → StandsIn i code → Reaches i code
stands_reaches i code (bytes, rest, spells, there) =
    let some : 0 < length bytes = spelling_some i bytes spells in
    let whole : length (drop i.at code) ≡ length (bytes ++ rest) = ap length there in
    record { some = omega (arith, some, spells.size); inside = omega (arith, some, spells.size, whole, length-append bytes rest, length-drop i.at code) }

-- Code that ends inside an instruction at an IL offset is short there.
pub decoded_cut : (code : List ℕ) (at : ℕ) → EndsInside code at → decoded code at ≡ Err (Short at)
unfolding decoded
decoded_cut code at cut = ap (placed at) (cut_is_short at (drop at code) cut)

-- ---- the answer

-- What a refusal at an IL offset says.
abbrev IsRefusal : List ℕ → ℕ → Refusal IlFault → Type 0
IsRefusal code at refusal = (refusal ≡ Bad (Short at)) ⊎ ((refusal ≡ Bad (Opcode at (opcode_at code at))) ⊎ (refusal ≡ NoMemory))

-- Memory is wanted for a switch that stands at the IL offset, and for nothing else.
abbrev WantsMemory : List ℕ → ℕ → Type 0
WantsMemory code at = (i : Instr) × (i.at ≡ at) × StandsIn i code × IsSwitch i.op

module _ (code : List ℕ) (at : ℕ) where
  memory_in : (d : Result Instr IlFault) → Tells code at d → TakesMemory d → WantsMemory code at
  memory_in (Ok i) told takes = (i, told.0, told.1, takes)
  memory_in (Err fault) told takes = absurd takes

  none_in : (d : Result Instr IlFault) → Tells code at d → BeginsNone code at → d ≡ Err (Opcode at (opcode_at code at))
  none_in (Ok i) told none = absurd (none.not_whole i told.0 told.1)
  none_in (Err (Short place)) told none = absurd (none.not_cut told.1)
  none_in (Err (Opcode place number)) told none = rw (told.0, told.1) refl
  none_in (Err _) told none = absurd told

  -- What is decoded with a fault is returned.
  fault_given : (r : Result Instr (Refusal IlFault)) (fault : IlFault) → Gives r (decoded code at) → decoded code at ≡ Err fault → r ≡ Err (Bad fault)
  fault_given (Ok i) fault e is = absurd (cc)
  fault_given (Err (Bad other)) fault e is = cc
  fault_given (Err NoMemory) fault e is = absurd (rw is at e)

  -- What is returned with a fault was decoded so.
  fault_decoded : (r : Result Instr (Refusal IlFault)) (fault : IlFault) → Gives r (decoded code at) → r ≡ Err (Bad fault)
      → decoded code at ≡ Err fault
  fault_decoded (Ok i) fault e is = absurd (cc)
  fault_decoded (Err (Bad other)) fault e is = cc
  fault_decoded (Err NoMemory) fault e is = absurd (cc)

  begins_none : (number : ℕ) → decoded code at ≡ Err (Opcode at number) → BeginsNone code at
  begins_none number e =
      record {
        not_whole = λ i place there. let whole = decoded_only code at i place there in absurd (cc);
        not_cut = λ c. let cut = decoded_cut code at c in absurd (cc);
      }

  pub answer_only : (r : Result Instr (Refusal IlFault)) → Gives r (decoded code at) → (i : Instr) → i.at ≡ at → StandsIn i code
      → (r ≡ Ok i) ⊎ ((r ≡ Err NoMemory) × IsSwitch i.op)
  answer_only (Ok found) e i place there = let is = decoded_only code at i place there in inl (cc)
  answer_only (Err (Bad fault)) e i place there = let is = decoded_only code at i place there in absurd (cc)
  answer_only (Err NoMemory) e i place there = inr (refl, rw (decoded_only code at i place there) at e)

  module _ (fits : (i : ℕ) → Fits w8 (slice_index code i)) where
    told : Tells code at (decoded code at)
    told = decoded_tells code at (IsBytes-from_fits code fits)

    pub answer_found : (r : Result Instr (Refusal IlFault)) → Gives r (decoded code at) → IfOk r (λ i. (i.at ≡ at) × StandsIn i code)
    answer_found (Ok i) e = rw e at told
    answer_found (Err refusal) e = tt

    pub answer_reach : (r : Result Instr (Refusal IlFault)) → Gives r (decoded code at) → IfOk r (λ i. Reaches i code)
    answer_reach (Ok i) e = stands_reaches i code (rw e at told).1
    answer_reach (Err refusal) e = tt

    pub answer_short : (r : Result Instr (Refusal IlFault)) → Gives r (decoded code at) → (r ≡ Err (Bad (Short at))) ↔ EndsInside code at
    answer_short r e = (λ is. (rw (fault_decoded r (Short at) e is) at told).1, λ cut. fault_given r (Short at) e (decoded_cut code at cut))

    pub answer_opcode : (r : Result Instr (Refusal IlFault)) → Gives r (decoded code at)
        → (r ≡ Err (Bad (Opcode at (opcode_at code at)))) ↔ BeginsNone code at
    answer_opcode r e =
        let opcode = opcode_at code at in
        (λ is. begins_none opcode (fault_decoded r (Opcode at opcode) e is), λ none. fault_given r (Opcode at opcode) e (none_in (decoded code at) told none))

    pub answer_memory : (r : Result Instr (Refusal IlFault)) → Gives r (decoded code at) → r ≡ Err NoMemory → WantsMemory code at
    answer_memory (Ok i) e is = absurd (cc)
    answer_memory (Err (Bad fault)) e is = absurd (cc)
    answer_memory (Err NoMemory) e is = memory_in (decoded code at) told e

    pub answer_refused : (r : Result Instr (Refusal IlFault)) → Gives r (decoded code at) → IfErr r (IsRefusal code at)
    answer_refused (Ok i) e = tt
    answer_refused (Err (Bad (Short place))) e = inl (ap (λ (k : ℕ). Bad (Short k)) ((rw e at told).0))
    answer_refused (Err (Bad (Opcode place number))) e = let h = rw e at told in inr (inl (rw (h.0, h.1) refl))
    answer_refused (Err (Bad _)) e = absurd (rw e at told)
    answer_refused (Err NoMemory) e = inr (inr refl)

pub ruleset decoding = (answer_found, answer_reach, answer_opcode, answer_memory, answer_refused)
