-- Of two invariants whose texts are the same, neither differs from the other.
use Rattle.std.proofs.Common.{◌≡◌, ℕ, ◌<◌, Bool, true, false, List, [], ◌∷◌, ◌++◌, length, drop, get_or, Some, None}
use Rattle.std.proofs.Common.{refl, sym, ap, ap₂, ◌∙◌, arith, append_assoc, codes}
use Rattle.std.specs.List.{AllByRecursion}
use Rattle.std.proofs.lemmas.List.{append_cancel_left}
use Rattle.cil_model.specs.declared.unit.Unit.{Unit as MethodUnit}
use Rattle.il_decoder.specs.Labels.{label}
use Rattle.state_facts.specs.StateFacts.{State, StateFacts}
use Rattle.invariant_text.specs.InvariantText.{block_end, block_line, block_text, invariant_text}
use Rattle.invariant_text.specs.Shape.{AreOfBlocks, IsPrintableState}
use Rattle.invariant_text.specs.StateText.{state_lines}
use Rattle.invariant_text.proofs.LineReading.{line_kind}
use Rattle.invariant_text.proofs.StateReading.{state_read}

pub line_of_block : (at : ℕ) (reached : Bool) (r : List ℕ)
    → block_line at reached ++ r ≡ codes "  block " ++ (label at ++ (block_end reached ++ r))
unfolding block_line
line_of_block at reached r =
    append_assoc (codes "  block " ++ label at) (block_end reached) r
    ∙ append_assoc (codes "  block ") (label at) (block_end reached ++ r)

-- No line of a state begins as that of a block does.
block_later : (at : ℕ) (reached : Bool) (r : List ℕ) → 6 < line_kind (block_line at reached ++ r)
block_later at reached r = rw (line_of_block at reached r) (omega arith)

pub blocks_later : (unit : MethodUnit) (blocks : List ℕ) (states : List State)
    → 6 < line_kind (invariant_text unit blocks states)
blocks_later unit [] states = omega arith
blocks_later unit (at ∷ blocks) [] = omega arith
blocks_later unit (at ∷ blocks) (None ∷ states) = block_later at false (invariant_text unit blocks states)
blocks_later unit (at ∷ blocks) (Some known ∷ states) =
    let rest = invariant_text unit blocks states in
    rw (append_assoc (block_line at true) (state_lines unit known) rest)
    (block_later at true (state_lines unit known ++ rest))

-- A block where nothing is reached differs from any other.
pub unreached_other : (at : ℕ) (r q : List ℕ) → block_line at false ++ r ≡ block_line at true ++ q → ⊥
unreached_other at r q same =
    let behind = append_cancel_left (label at) (block_end false ++ r) (block_end true ++ q)
    (ap (drop 8) (sym (line_of_block at false r) ∙ same ∙ line_of_block at true q)) in
    omega (arith, ap (λ (text : List ℕ). get_or text 0 0) behind)

block_read : (unit : MethodUnit) (at : ℕ) (x y : State) (r q : List ℕ) → IsPrintableState x → IsPrintableState y
    → 6 < line_kind r → 6 < line_kind q
    → block_text unit at x ++ r ≡ block_text unit at y ++ q → (x ≡ y) × (r ≡ q)
block_read unit at None None r q first second r_later q_later same =
    (refl, append_cancel_left (block_line at false) r q same)
block_read unit at None (Some b) r q first second r_later q_later same =
    absurd (unreached_other at r (state_lines unit b ++ q)
    (same ∙ append_assoc (block_line at true) (state_lines unit b) q))
block_read unit at (Some a) None r q first second r_later q_later same =
    absurd (unreached_other at q (state_lines unit a ++ r)
    (sym same ∙ append_assoc (block_line at true) (state_lines unit a) r))
block_read unit at (Some a) (Some b) r q first second r_later q_later same =
    let lines = append_cancel_left (block_line at true) (state_lines unit a ++ r) (state_lines unit b ++ q)
    (sym (append_assoc (block_line at true) (state_lines unit a) r) ∙ same ∙ append_assoc (block_line at true)
    (state_lines unit b) q) in
    let read = state_read unit a b r q first second r_later q_later lines in
    (ap (λ (known : StateFacts). Some known) read.0, read.1)

blocks_read : (unit : MethodUnit) (blocks : List ℕ) (xs ys : List State) → length xs ≡ length blocks
    → length ys ≡ length blocks
    → AllByRecursion IsPrintableState xs → AllByRecursion IsPrintableState ys → invariant_text unit blocks xs
    ≡ invariant_text unit blocks ys → xs ≡ ys
blocks_read unit [] [] [] first_count second_count firsts seconds same = refl
blocks_read unit [] [] (y ∷ ys) first_count second_count firsts seconds same = absurd (omega (arith, second_count))
blocks_read unit [] (x ∷ xs) ys first_count second_count firsts seconds same = absurd (omega (arith, first_count))
blocks_read unit (at ∷ blocks) [] ys first_count second_count firsts seconds same = absurd (omega (arith, first_count))
blocks_read unit (at ∷ blocks) (x ∷ xs) [] first_count second_count firsts seconds same =
    absurd (omega (arith, second_count))
blocks_read unit (at ∷ blocks) (x ∷ xs) (y ∷ ys) first_count second_count firsts seconds same =
    let one = block_read unit at x y (invariant_text unit blocks xs) (invariant_text unit blocks ys) firsts.0 seconds.0
    (blocks_later unit blocks xs)
    (blocks_later unit blocks ys) same in
    let others = blocks_read unit blocks xs ys (omega (arith, first_count)) (omega (arith, second_count)) firsts.1
    seconds.1 one.1 in
    ap₂ (λ z zs. z ∷ zs) one.0 others

pub distinct : (unit : MethodUnit) (blocks : List ℕ) (first second : List State) → AreOfBlocks blocks first
    → AreOfBlocks blocks second
    → invariant_text unit blocks first ≡ invariant_text unit blocks second → first ≡ second
distinct unit blocks first second first_are second_are same =
    blocks_read unit blocks first second first_are.count second_are.count first_are.printable second_are.printable same
