-- The text of an invariant is whole lines, and each begins with a space.
use Rattle.std.proofs.Common.{◌≡◌, ℕ, ◌+◌, ◌-◌, ◌==◌, Bool, true, false, List, [], ◌∷◌, ◌++◌, length, Some, None, if◌then◌else◌, refl, sym, subst, append_assoc, codes, arith}
use Rattle.std.specs.List.{AllByRecursion, flat_map}
use Rattle.std.proofs.lemmas.Bool.{and_parts, false≢true}
use Rattle.alias_facts.specs.PairsOf.{Pair}
use Rattle.array_contents.specs.Contents.{Contents, Segments}
use Rattle.cil_model.specs.Places.{place_text}
use Rattle.cil_model.specs.declared.unit.Unit.{Unit as MethodUnit}
use Rattle.frame_names.specs.declared.reference.Reference.{Reference}
use Rattle.frame_names.specs.declared.var.Var.{Var}
use Rattle.il_decoder.specs.Labels.{label}
use Rattle.interval_domain.specs.Interval.{Interval}
use Rattle.pentagon_domain.specs.declared.bound_row.BoundRow.{BoundRow}
use Rattle.state_facts.specs.StateFacts.{State, StateFacts}
use Rattle.symbolic_values.specs.declared.def.Def.{Def}
use Rattle.invariant_text.specs.InvariantText.{block_line, block_text, invariant_text}
use Rattle.invariant_text.specs.Lines.{line, numbered}
use Rattle.invariant_text.specs.NumberTexts.{expr_text, range_text, symbol_text}
use Rattle.invariant_text.specs.ReferenceLines.{apart_line, known_text, nullness_text, reference_line, reference_lines, segments_text}
use Rattle.invariant_text.specs.StateText.{state_lines}
use Rattle.invariant_text.specs.SymbolLines.{bound_line, def_text, definition_line, symbol_line}
use Rattle.invariant_text.specs.VariableLines.{reference_text, value_text, variable_line, variable_name}
use Rattle.invariant_text.proofs.PlainLines.{def_no_feed, expr_no_feed, name_no_feed, nullness_no_feed, range_no_feed, reference_no_feed, segments_no_feed, symbol_no_feed, value_no_feed}
use Rattle.invariant_text.proofs.PlainTexts.{NoFeed, has_no_feed, label_no_feed, no_feed_behind, no_feed_either, place_no_feed}

-- ---- lines

-- The text is lines, and each begins with a space.
pub data AreIndented : List ℕ → Type 0 where
  none : AreIndented []
  more : (text rest : List ℕ) → NoFeed text → AreIndented rest → AreIndented (32 ∷ (text ++ 10 ∷ rest))

indented_behind : (a b : List ℕ) → AreIndented a → AreIndented b → AreIndented (a ++ b)
indented_behind _ b none other = other
indented_behind _ b (more text rest plain are) other =
    subst AreIndented (sym (append_assoc (32 ∷ text) (10 ∷ rest) b)) (more text (rest ++ b) plain (indented_behind rest b are other))

indented_in : {X : Type 0} (f : X → List ℕ) (xs : List X) → ((x : X) → AreIndented (f x)) → AreIndented (flat_map f xs)
indented_in f [] each = none
indented_in f (x ∷ xs) each = indented_behind (f x) (flat_map f xs) (each x) (indented_in f xs each)

numbered_indented : {X : Type 0} (f : ℕ → X → List ℕ) (n : ℕ) (xs : List X) → ((n : ℕ) (x : X) → AreIndented (f n x)) → AreIndented (numbered f n xs)
numbered_indented f n [] each = none
numbered_indented f n (x ∷ xs) each =
    indented_behind (f n x) (numbered f (n + 1) xs) (each n x) (numbered_indented f (n + 1) xs each)

line_indented : (text : List ℕ) → NoFeed text → AreIndented (line text)
line_indented text plain = more (codes "   " ++ text) [] (no_feed_behind (codes "   ") text refl plain) none

-- ---- the lines of a state

variable_indented : (unit : MethodUnit) (i : ℕ) (value : Var) → AreIndented (variable_line unit i value)
unfolding variable_line
variable_indented unit i value =
    let name = variable_name (length unit.args) (length unit.locals) i in
    line_indented (name ++ codes " = " ++ value_text value)
    (no_feed_behind (name ++ codes " = ") (value_text value)
    (no_feed_behind name (codes " = ") (name_no_feed (length unit.args) (length unit.locals) i) refl) (value_no_feed value))

symbol_indented : (s : ℕ) (range : Interval) → AreIndented (symbol_line s range)
unfolding symbol_line
symbol_indented s range =
    line_indented (symbol_text s ++ codes " in " ++ range_text range)
    (no_feed_behind (symbol_text s ++ codes " in ") (range_text range)
    (no_feed_behind (symbol_text s) (codes " in ") (symbol_no_feed s) refl) (range_no_feed range))

reference_indented : (r : ℕ) (known : Reference) (segments : Segments) → AreIndented (reference_line r known segments)
unfolding reference_line known_text
reference_indented r known segments =
    let name = reference_text r ++ codes " " in
    let place = name ++ place_text known.place in
    let nullness = place ++ codes " " ++ nullness_text known.nullness in
    let length = nullness ++ codes " length " ++ expr_text known.length in
    line_indented (length ++ segments_text segments)
    (no_feed_behind length (segments_text segments)
    (no_feed_behind (nullness ++ codes " length ") (expr_text known.length)
    (no_feed_behind nullness (codes " length ")
    (no_feed_behind (place ++ codes " ") (nullness_text known.nullness)
    (no_feed_behind place (codes " ")
    (no_feed_behind name (place_text known.place) (no_feed_behind (reference_text r) (codes " ") (reference_no_feed r) refl)
    (place_no_feed known.place)) refl) (nullness_no_feed known.nullness)) refl) (expr_no_feed known.length))
    (segments_no_feed segments))

references_indented : (r : ℕ) (references : List Reference) (contents : Contents) → AreIndented (reference_lines r references contents)
references_indented r [] contents = none
references_indented r (known ∷ references) [] = none
references_indented r (known ∷ references) (segments ∷ contents) =
    indented_behind (reference_line r known segments) (reference_lines (r + 1) references contents)
    (reference_indented r known segments) (references_indented (r + 1) references contents)

bound_indented : (row : BoundRow) → AreIndented (bound_line row)
unfolding bound_line
bound_indented row =
    let left = expr_text (record { sym = row.s; k = row.k }) in
    line_indented (left ++ codes " <= " ++ symbol_text row.t)
    (no_feed_behind (left ++ codes " <= ") (symbol_text row.t) (no_feed_behind left (codes " <= ") (expr_no_feed _) refl)
    (symbol_no_feed row.t))

definition_indented : (d : ℕ × Def) → AreIndented (definition_line d)
unfolding definition_line
definition_indented d =
    line_indented (symbol_text d.0 ++ codes " = " ++ def_text d.1)
    (no_feed_behind (symbol_text d.0 ++ codes " = ") (def_text d.1)
    (no_feed_behind (symbol_text d.0) (codes " = ") (symbol_no_feed d.0) refl) (def_no_feed d.1))

apart_indented : (pair : Pair) → AreIndented (apart_line pair)
unfolding apart_line
apart_indented pair =
    line_indented (reference_text pair.0 ++ codes " apart " ++ reference_text pair.1)
    (no_feed_behind (reference_text pair.0 ++ codes " apart ") (reference_text pair.1)
    (no_feed_behind (reference_text pair.0) (codes " apart ") (reference_no_feed pair.0) refl) (reference_no_feed pair.1))

state_indented : (unit : MethodUnit) (known : StateFacts) → AreIndented (state_lines unit known)
unfolding state_lines
state_indented unit known =
    indented_behind _ _
    (indented_behind _ _
    (indented_behind _ _
    (indented_behind _ _
    (indented_behind _ _ (numbered_indented (variable_line unit) 0 known.variables (variable_indented unit))
    (numbered_indented symbol_line 1 known.facts.ranges symbol_indented))
    (references_indented 1 known.references known.contents)) (indented_in bound_line known.facts.bounds bound_indented))
    (indented_in definition_line known.facts.definitions definition_indented)) (indented_in apart_line known.apart apart_indented)

-- ---- blocks

block_indented : (at : ℕ) (reached : Bool) → AreIndented (block_line at reached)
unfolding block_line
block_indented at true =
    let text = codes " block " ++ label at in
    more text [] (no_feed_behind (codes " block ") (label at) refl (label_no_feed at)) none
block_indented at false =
    let text = codes " block " ++ label at in
    subst AreIndented (append_assoc (32 ∷ text) (codes " unreachable") (10 ∷ []))
    (more (text ++ codes " unreachable") []
    (no_feed_behind text (codes " unreachable") (no_feed_behind (codes " block ") (label at) refl (label_no_feed at)) refl) none)

pub indented : (unit : MethodUnit) (blocks : List ℕ) (states : List State) → AreIndented (invariant_text unit blocks states)
indented unit [] states = none
indented unit (at ∷ blocks) [] = none
indented unit (at ∷ blocks) (None ∷ states) =
    indented_behind (block_line at false) (invariant_text unit blocks states) (block_indented at false) (indented unit blocks states)
indented unit (at ∷ blocks) (Some known ∷ states) =
    indented_behind (block_line at true ++ state_lines unit known) (invariant_text unit blocks states)
    (indented_behind (block_line at true) (state_lines unit known) (block_indented at true) (state_indented unit known))
    (indented unit blocks states)
