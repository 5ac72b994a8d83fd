-- Blocks are read back.
use Rattle.std.proofs.Common.{◌≡◌, ℕ, ◌+◌, ◌<◌, ◌≤◌, ◌^◌, Bool, true, false, List, [], ◌∷◌, ◌++◌, length, Option, Some, None}
use Rattle.std.proofs.Common.{refl, sym, ap, ◌∙◌, subst, arith, append_assoc, codes, add-one, drop, drop-cons, get_or}
use Rattle.std.specs.List.{AllByRecursion}
use Rattle.std.proofs.lemmas.Bool.{true≢false}
use Rattle.std.proofs.lemmas.List.{append-nil}
use Rattle.abs_state.specs.StateParts.{StateParts, parts_of}
use Rattle.cil_model.specs.declared.unit.Unit.{Unit as MethodUnit}
use Rattle.il_decoder.specs.Labels.{label}
use Rattle.state_facts.specs.StateFacts.{State, StateFacts}
use Rattle.invariant_text.specs.InvariantText.{block_end, block_line, block_text, invariant_text}
use Rattle.invariant_text.specs.StateText.{state_lines}
use Rattle.invariant_text.proofs.BlockReading.{blocks_later, line_of_block}
use Rattle.invariant_reader.specs.BlockReaders.{ReadsReached, line_prefix}
use Rattle.invariant_reader.specs.Prefixes.{behind}
use Rattle.invariant_reader.specs.Reading.{HasParts}
use Rattle.invariant_reader.specs.ReadsBack.{ReadsBack}
use Rattle.invariant_reader.specs.StateReaders.{EndsState, IsReadableKnown, IsReadableState, ReadsBlock, ReadsBlocks}
use Rattle.invariant_reader.specs.StateReaders.{ReadsParts, ReadsState, StandsFor}
use Rattle.invariant_reader.proofs.PrefixLemmas.{behind_itself}
use Rattle.invariant_reader.proofs.Repeats.{none_some, pair, read_of}

-- ---- a block's line

prefix_back : (at : ℕ) (text : List ℕ) (reached : Bool) (r : List ℕ) → text ≡ block_line at reached ++ r
    → behind (line_prefix at) text ≡ Some (block_end reached ++ r)
prefix_back at text reached r same =
    ap (behind (line_prefix at)) (same ∙ line_of_block at reached r
    ∙ sym (append_assoc (codes "  block ") (label at) (block_end reached ++ r)))
    ∙ behind_itself (line_prefix at) (block_end reached ++ r)

pub prefix_missed : (at : ℕ) (text : List ℕ) → None ≡ behind (line_prefix at) text → ReadsReached at text None
prefix_missed at text none reached r same = absurd (none_some (none ∙ prefix_back at text reached r same))

-- The line's end tells whether the block is reached.
end_reached : (reached : Bool) (r rest : List ℕ) → Some rest ≡ behind (codes "\n") (block_end reached ++ r)
    → Some (pair true rest) ≡ Some (pair reached r)
end_reached true r rest some = ap (λ (t : List ℕ). Some (pair true t)) (read_of some)
end_reached false r rest some = absurd (none_some (sym some))

pub reached_read : (at : ℕ) (text left rest : List ℕ) → Some left ≡ behind (line_prefix at) text
    → Some rest ≡ behind (codes "\n") left → ReadsReached at text (Some (pair true rest))
reached_read at text left rest begun some reached r same =
    end_reached reached r rest (some ∙ ap (behind (codes "\n")) (read_of (begun ∙ prefix_back at text reached r same)))

end_unreached : (reached : Bool) (r : List ℕ) (read : Option (List ℕ)) → None ≡ behind (codes "\n") (block_end reached ++ r)
    → read ≡ behind (codes " unreachable\n") (block_end reached ++ r) → read ≡ Some r
end_unreached true r read none is = absurd (none_some none)
end_unreached false r read none is = is

false_end : (reached : Bool) (r : List ℕ) → None ≡ behind (codes "\n") (block_end reached ++ r) → false ≡ reached
false_end true r none = absurd (none_some none)
false_end false r none = refl

pub end_missed : (at : ℕ) (text left : List ℕ) → Some left ≡ behind (line_prefix at) text
    → None ≡ behind (codes "\n") left → None ≡ behind (codes " unreachable\n") left → ReadsReached at text None
end_missed at text left begun no_feed none reached r same =
    let left_is = read_of (begun ∙ prefix_back at text reached r same) in
    absurd (none_some (end_unreached reached r None (no_feed ∙ ap (behind (codes "\n")) left_is)
    (none ∙ ap (behind (codes " unreachable\n")) left_is)))

pub unreached_read : (at : ℕ) (text left rest : List ℕ) → Some left ≡ behind (line_prefix at) text
    → None ≡ behind (codes "\n") left → Some rest ≡ behind (codes " unreachable\n") left
    → ReadsReached at text (Some (pair false rest))
unreached_read at text left rest begun no_feed some reached r same =
    let left_is = read_of (begun ∙ prefix_back at text reached r same) in
    let none = no_feed ∙ ap (behind (codes "\n")) left_is in
    let rest_is : rest ≡ r =
    read_of (end_unreached reached r (Some rest) none (some ∙ ap (behind (codes " unreachable\n")) left_is)) in
    let mark = false_end reached r none in
    (λ i. Some (pair (mark i) (rest_is i)))

-- ---- a state

pub parts_missed : (text : List ℕ) (read : Option (StateParts × List ℕ)) → ReadsParts text read → None ≡ read
    → ReadsState text None
parts_missed text read reads none unit known rest is ends same =
    absurd (none_some (none ∙ reads unit known rest is.readable ends same))

pub state_missed : (text : List ℕ) (read : Option (StateParts × List ℕ)) (parts : StateParts) (next : List ℕ)
    (state : Option State) → ReadsParts text read → Some (pair parts next) ≡ read → StandsFor parts state → None ≡ state
    → ReadsState text None
state_missed text read parts next state reads some stands none unit known rest is ends same =
    let both = read_of (some ∙ reads unit known rest is.readable ends same) in
    absurd (none_some (none ∙ stands (Some known) is.ordered (ap (λ (p : StateParts × List ℕ). p.0) both)))

pub state_read : (text : List ℕ) (read : Option (StateParts × List ℕ)) (parts : StateParts) (next : List ℕ)
    (state : Option State) (made : State) → ReadsParts text read → Some (pair parts next) ≡ read → StandsFor parts state
    → Some made ≡ state → ReadsState text (Some (pair made next))
state_read text read parts next state made reads some stands is_made unit known rest is ends same =
    let both = read_of (some ∙ reads unit known rest is.readable ends same) in
    let state_is = read_of (is_made ∙ stands (Some known) is.ordered (ap (λ (p : StateParts × List ℕ). p.0) both)) in
    (λ i. Some (pair (state_is i) (both i).1))

-- ---- a block

-- Whether something is reached in a state.
abbrev is_reached : State → Bool
is_reached None = false
is_reached (Some known) = true

abbrev lines_in : MethodUnit → State → List ℕ
lines_in unit None = []
lines_in unit (Some known) = state_lines unit known

block_parts : (unit : MethodUnit) (at : ℕ) (state : State) (rest : List ℕ)
    → block_text unit at state ++ rest ≡ block_line at (is_reached state) ++ (lines_in unit state ++ rest)
block_parts unit at None rest = refl
block_parts unit at (Some known) rest = append_assoc (block_line at true) (state_lines unit known) rest

reached_of : (at : ℕ) (text : List ℕ) (read : Option (Bool × List ℕ)) → ReadsReached at text read
    → (unit : MethodUnit) (state : State) (rest : List ℕ) → text ≡ block_text unit at state ++ rest
    → read ≡ Some (is_reached state, lines_in unit state ++ rest)
reached_of at text read reads unit state rest same =
    reads (is_reached state) (lines_in unit state ++ rest) (same ∙ block_parts unit at state rest)

pub reached_missed : (at : ℕ) (text : List ℕ) (read : Option (Bool × List ℕ)) → ReadsReached at text read → None ≡ read
    → ReadsBlock at text None
reached_missed at text read reads none unit state rest is ends same =
    absurd (none_some (none ∙ reached_of at text read reads unit state rest same))

not_reached : (unit : MethodUnit) (state : State) (rest next : List ℕ)
    → pair false next ≡ pair (is_reached state) (lines_in unit state ++ rest) → Some (pair None next) ≡ Some (pair state rest)
not_reached unit None rest next both = ap (λ (p : Bool × List ℕ). Some (pair None p.1)) both
not_reached unit (Some known) rest next both =
    absurd (true≢false (sym (ap (λ (p : Bool × List ℕ). p.0) both)))

pub unreached_block : (at : ℕ) (text : List ℕ) (read : Option (Bool × List ℕ)) (next : List ℕ)
    → ReadsReached at text read → Some (pair false next) ≡ read → ReadsBlock at text (Some (pair None next))
unreached_block at text read next reads some unit state rest is ends same =
    not_reached unit state rest next (read_of (some ∙ reached_of at text read reads unit state rest same))

reached_state : (unit : MethodUnit) (state : State) (rest next : List ℕ) (read : Option (State × List ℕ))
    → IsReadableState state → EndsState rest → ReadsState next read
    → pair true next ≡ pair (is_reached state) (lines_in unit state ++ rest) → read ≡ Some (state, rest)
reached_state unit None rest next read is ends reads both = absurd (true≢false (ap (λ (p : Bool × List ℕ). p.0) both))
reached_state unit (Some known) rest next read is ends reads both =
    reads unit known rest is ends (ap (λ (p : Bool × List ℕ). p.1) both)

pub reached_block : (at : ℕ) (text : List ℕ) (read : Option (Bool × List ℕ)) (next : List ℕ)
    (state : Option (State × List ℕ)) → ReadsReached at text read → Some (pair true next) ≡ read → ReadsState next state
    → ReadsBlock at text state
reached_block at text read next made reads some states unit state rest is ends same =
    reached_state unit state rest next made is ends states
    (read_of (some ∙ reached_of at text read reads unit state rest same))

-- ---- blocks

-- What is left of blocks: with these states behind those that were read they are all states.
pub record AreLeft (unit : MethodUnit) (left_blocks : List ℕ) (states read : List State) (text : List ℕ) : Type 0 where
  pub left : List State
  pub count : length left ≡ length left_blocks
  pub each : AllByRecursion IsReadableState left
  pub all : read ++ left ≡ states
  pub text_is : text ≡ invariant_text unit left_blocks left

-- Whatever states the whole text is of.
pub record BlocksLeft (blocks : List ℕ) (whole : List ℕ) (left_blocks : List ℕ) (read : List State) (text : List ℕ)
    : Type 0 where
  pub under : (unit : MethodUnit) (states : List State) → length states ≡ length blocks
      → AllByRecursion IsReadableState states → whole ≡ invariant_text unit blocks states
      → AreLeft unit left_blocks states read text

pub all_left : (blocks whole : List ℕ) → BlocksLeft blocks whole blocks [] whole
all_left blocks whole = record {
  under = λ unit states count each same. record {
    left = states;
    count = count;
    each = each;
    all = refl;
    text_is = same;
  };
}

-- The next block is read.
record IsNextBlock (unit : MethodUnit) (at : ℕ) (left_blocks : List ℕ) (states read : List State)
    (next : Option (State × List ℕ)) : Type 0 where
  state : State
  rest : List ℕ
  next_is : next ≡ Some (state, rest)
  after : AreLeft unit left_blocks states (read ++ state ∷ []) rest

next_block : (unit : MethodUnit) (at : ℕ) (left_blocks : List ℕ) (states read : List State) (text : List ℕ)
    (next : Option (State × List ℕ)) → AreLeft unit (at ∷ left_blocks) states read text → ReadsBlock at text next
    → IsNextBlock unit at left_blocks states read next
next_block unit at left_blocks states read text next are reads = by are.left are.count are.each are.all are.text_is
  where
    by : (left : List State) → length left ≡ length (at ∷ left_blocks) → AllByRecursion IsReadableState left
        → read ++ left ≡ states → text ≡ invariant_text unit (at ∷ left_blocks) left
        → IsNextBlock unit at left_blocks states read next
    by [] count each all same = absurd (omega (arith, count))
    by (state ∷ left) count each all same = record {
      state = state;
      rest = invariant_text unit left_blocks left;
      next_is = reads unit state (invariant_text unit left_blocks left) each.0 (blocks_later unit left_blocks left) same;
      after = record {
        left = left;
        count = omega (arith, count);
        each = each.1;
        all = append_assoc read (state ∷ []) left ∙ all;
        text_is = refl;
      };
    }

pub block_missed : (blocks whole : List ℕ) (at : ℕ) (left_blocks : List ℕ) (read : List State) (text : List ℕ)
    (next : Option (State × List ℕ)) → BlocksLeft blocks whole (at ∷ left_blocks) read text → ReadsBlock at text next
    → None ≡ next → ReadsBlocks blocks whole None
block_missed blocks whole at left_blocks read text next are reads none unit states count each same =
    absurd (none_some (none ∙ IsNextBlock.next_is
    (next_block unit at left_blocks states read text next (are.under unit states count each same) reads)))

pub block_more : (blocks whole : List ℕ) (at : ℕ) (left_blocks : List ℕ) (read : List State) (text : List ℕ)
    (next : Option (State × List ℕ)) (state : State) (rest : List ℕ) → BlocksLeft blocks whole (at ∷ left_blocks) read text
    → ReadsBlock at text next → Some (pair state rest) ≡ next
    → BlocksLeft blocks whole left_blocks (read ++ state ∷ []) rest
block_more blocks whole at left_blocks read text next state rest are reads some = record {
  under = λ unit states count each same.
      let one = next_block unit at left_blocks states read text next (are.under unit states count each same) reads in
      let both = read_of (some ∙ IsNextBlock.next_is one) in
      subst (λ (p : State × List ℕ). AreLeft unit left_blocks states (read ++ p.0 ∷ []) p.1) (sym both)
      (IsNextBlock.after one);
}

none_left : (unit : MethodUnit) (states read : List State) (text : List ℕ) → AreLeft unit [] states read text → read ≡ states
none_left unit states read text are = by are.left are.count are.all
  where
    by : (left : List State) → length left ≡ 0 → read ++ left ≡ states → read ≡ states
    by [] count all = sym (append-nil read) ∙ all
    by (state ∷ left) count all = absurd (omega (arith, count))

pub blocks_read : (blocks whole : List ℕ) (read : List State) (text : List ℕ) → BlocksLeft blocks whole [] read text
    → ReadsBlocks blocks whole (Some read)
blocks_read blocks whole read text are unit states count each same =
    ap (λ (s : List State). Some s) (none_left unit states read text (are.under unit states count each same))

-- ---- by the index of the next block

next_of : (blocks : List ℕ) (i d : ℕ) → i < length blocks → drop i blocks ≡ get_or blocks i d ∷ drop (i + 1) blocks
next_of blocks i d there = rw add-one (drop-cons blocks i d there)

pub block_missed_at : (blocks whole : List ℕ) (i d : ℕ) (read : List State) (text : List ℕ)
    (next : Option (State × List ℕ)) → i < length blocks → BlocksLeft blocks whole (drop i blocks) read text
    → ReadsBlock (get_or blocks i d) text next → None ≡ next → ReadsBlocks blocks whole None
block_missed_at blocks whole i d read text next there are reads none =
    block_missed blocks whole (get_or blocks i d) (drop (i + 1) blocks) read text next
    (subst (λ (left : List ℕ). BlocksLeft blocks whole left read text) (next_of blocks i d there) are) reads none

pub block_more_at : (blocks whole : List ℕ) (i d : ℕ) (read : List State) (text : List ℕ)
    (next : Option (State × List ℕ)) (state : State) (rest : List ℕ) → i < length blocks
    → BlocksLeft blocks whole (drop i blocks) read text → ReadsBlock (get_or blocks i d) text next
    → Some (pair state rest) ≡ next → BlocksLeft blocks whole (drop (i + 1) blocks) (read ++ state ∷ []) rest
block_more_at blocks whole i d read text next state rest there are reads some =
    block_more blocks whole (get_or blocks i d) (drop (i + 1) blocks) read text next state rest
    (subst (λ (left : List ℕ). BlocksLeft blocks whole left read text) (next_of blocks i d there) are) reads some

pub all_more : {X : Type 0} (P : X → Type 0) (xs : List X) (x : X) → AllByRecursion P xs → P x
    → AllByRecursion P (xs ++ x ∷ [])
all_more P [] x all is = (is, tt)
all_more P (y ∷ xs) x all is = (all.0, all_more P xs x all.1 is)
