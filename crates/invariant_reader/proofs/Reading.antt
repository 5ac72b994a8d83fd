-- A text is read exactly where it is that of states: of printable states, whose symbols and references 32 bits name
-- since the text is shorter than 4 GiB.
use Rattle.std.proofs.Common.{◌≡◌, ℕ, ◌+◌, ◌<◌, ◌≤◌, ◌^◌, true, false, List, [], ◌∷◌, ◌++◌, length, Option, Some, None}
use Rattle.std.proofs.Common.{sym, ap, ◌∙◌, arith, length-append}
use Rattle.std.specs.List.{AllByRecursion, zip}
use Rattle.std.proofs.lemmas.Slice.Zip.{length-zip}
use Rattle.cil_model.specs.declared.unit.Unit.{Unit as MethodUnit}
use Rattle.interval_domain.specs.Interval.{Interval}
use Rattle.state_facts.specs.StateFacts.{State, StateFacts}
use Rattle.invariant_text.specs.InvariantText.{block_line, block_text, invariant_text}
use Rattle.invariant_text.specs.Lines.{numbered}
use Rattle.invariant_text.specs.Shape.{IsPrintable, IsPrintableState}
use Rattle.invariant_text.specs.StateText.{state_lines}
use Rattle.invariant_text.specs.SymbolLines.{symbol_line}
use Rattle.invariant_text.specs.VariableLines.{variable_line}
use Rattle.invariant_text.proofs.LineReading.{Known, known_parts, symbol_parts}
use Rattle.invariant_text.proofs.Sections.{known_line}
use Rattle.invariant_text.proofs.SegmentForms.{segments_formed}
use Rattle.invariant_text.proofs.StateReading.{behind_ranges, behind_references, behind_variables, state_parts}
use Rattle.invariant_reader.specs.BlockReaders.{HasText}
use Rattle.invariant_reader.specs.Reading.{HasParts, IsReadAs, IsTextOf}
use Rattle.invariant_reader.specs.StateReaders.{IsReadable, IsReadableState, ReadsBlocks}
use Rattle.invariant_reader.proofs.Repeats.{none_some, read_of}

-- ---- each line has a byte at least

numbered_length : {X : Type 0} (line_of : ℕ → X → List ℕ) → ((n : ℕ) (x : X) → 1 ≤ length (line_of n x))
    → (n : ℕ) (xs : List X) → length xs ≤ length (numbered line_of n xs)
numbered_length line_of some n [] = omega arith
numbered_length line_of some n (x ∷ xs) =
    omega (
      arith,
      length-append (line_of n x) (numbered line_of (n + 1) xs),
      some n x,
      numbered_length line_of some (n + 1) xs,
    )

-- A text that goes on as this one does, behind a space, is not empty.
begun_length : (text rest : List ℕ) → text ++ [] ≡ 32 ∷ rest → 1 ≤ length text
begun_length [] rest same = absurd (omega (arith, ap length same))
begun_length (c ∷ text) rest same = omega arith

symbol_length : (n : ℕ) (range : Interval) → 1 ≤ length (symbol_line n range)
symbol_length n range = begun_length (symbol_line n range) _ (symbol_parts n range [])

known_length : (n : ℕ) (known : Known) → 1 ≤ length (known_line n known)
known_length n known = begun_length (known_line n known) _ (known_parts n known [])

-- ---- a state has no more symbols and references than its text has bytes

pub record IsWithin (known : StateFacts) (size : ℕ) : Type 0 where
  pub symbols : length known.facts.ranges ≤ size
  pub references : length known.references ≤ size

lines_within : (unit : MethodUnit) (known : StateFacts) → IsPrintable known → IsWithin known (length (state_lines unit known))
lines_within unit known is =
    let variables = numbered (variable_line unit) 0 known.variables in
    let ranges = numbered symbol_line 1 known.facts.ranges in
    let arrays = numbered known_line 1 (zip known.references known.contents) in
    let each = (segments_formed (length known.facts.ranges) known.references known.contents is.form.contents).each in
    let whole = ap length (state_parts unit known []) in
    let first = length-append (state_lines unit known) [] in
    let second = length-append variables (behind_variables known []) in
    let third = length-append ranges (behind_ranges known []) in
    let fourth = length-append arrays (behind_references known []) in
    record {
      symbols = omega (arith, numbered_length symbol_line symbol_length 1 known.facts.ranges, whole, first, second, third);
      references = omega (
        arith,
        numbered_length known_line known_length 1 (zip known.references known.contents),
        length-zip known.references known.contents,
        each,
        whole,
        first,
        second,
        third,
        fourth,
      );
    }

-- ---- all states are readable

state_readable : (unit : MethodUnit) (at : ℕ) (state : State) → IsPrintableState state → HasParts state
    → length (block_text unit at state) < 2 ^ 32 → IsReadableState state
state_readable unit at None is ordered short = tt
state_readable unit at (Some known) is ordered short =
    let within = lines_within unit known is in
    let size = length-append (block_line at true) (state_lines unit known) in
    record {
      readable = record {
        printable = is;
        symbols = omega (arith, within.symbols, size, short);
        references = omega (arith, within.references, size, short);
      };
      ordered = ordered;
    }

states_readable : (unit : MethodUnit) (blocks : List ℕ) (states : List State) → length states ≡ length blocks
    → AllByRecursion IsPrintableState states → AllByRecursion HasParts states
    → length (invariant_text unit blocks states) < 2 ^ 32 → AllByRecursion IsReadableState states
states_readable unit [] [] count is ordered short = tt
states_readable unit [] (state ∷ states) count is ordered short = absurd (omega (arith, count))
states_readable unit (at ∷ blocks) [] count is ordered short = tt
states_readable unit (at ∷ blocks) (state ∷ states) count is ordered short =
    let size = length-append (block_text unit at state) (invariant_text unit blocks states) in (
      state_readable unit at state is.0 ordered.0 (omega (arith, size, short)),
      states_readable unit blocks states (omega (arith, count)) is.1 ordered.1 (omega (arith, size, short)),
    )

text_of_read : (unit : MethodUnit) (blocks text : List ℕ) (read : Option (List State)) → length text < 2 ^ 32
    → ReadsBlocks blocks text read → (states : List State) → IsTextOf unit blocks states text → read ≡ Some states
text_of_read unit blocks text read short reads states is =
    reads unit states is.printable.count
    (states_readable unit blocks states is.printable.count is.printable.printable is.ordered
    (omega (arith, short, ap length is.same)))
    (sym is.same)

-- ---- what is answered

pub none_read : (unit : MethodUnit) (blocks text : List ℕ) (read : Option (List State)) → length text < 2 ^ 32
    → ReadsBlocks blocks text read → None ≡ read → IsReadAs unit blocks text None
none_read unit blocks text read short reads none states is =
    none_some (none ∙ text_of_read unit blocks text read short reads states is)

pub other_text : (unit : MethodUnit) (blocks text : List ℕ) (read : Option (List State)) (made : List State)
    → length text < 2 ^ 32 → ReadsBlocks blocks text read → Some made ≡ read → HasText unit blocks made text false
    → IsReadAs unit blocks text None
other_text unit blocks text read made short reads some other states is =
    let made_is = read_of (some ∙ text_of_read unit blocks text read short reads states is) in
    other (ap (invariant_text unit blocks) made_is ∙ is.same)
