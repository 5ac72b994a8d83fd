-- What becomes of the parts of states in new names: numbers, definitions and references.
use Rattle.std.specs.Prelude.{ℕ, suc, ◌+◌, nat_le, pos, Bool, true, ◌&&◌, List, [], ◌∷◌, length, map, Option, Some, None, if◌then◌else◌}
use Rattle.std.specs.Option.{option_and_then}
use Rattle.std.specs.List.{range_with_len}
use Rattle.std.specs.Ordering.{int_eq}
use Rattle.array_contents.specs.Contents.{Contents, Segments}
use Rattle.array_contents.specs.Merging as items
use Rattle.array_contents.specs.Merging.{Making}
use Rattle.array_segments.specs.SegmentLists.{whole}
use Rattle.domain_api.specs.declared.expr.Expr.{Expr}
use Rattle.frame_names.specs.PairedFrames.{FramePairing}
use Rattle.frame_names.specs.declared.merging.MergedReference.{MergedReference}
use Rattle.frame_names.specs.declared.reference.Reference.{Reference}
use Rattle.interval_domain.specs.Joins.{full}
use Rattle.merged_numbers.specs.Known.{Known}
use Rattle.number_facts.specs.Ends.{span_at}
use Rattle.number_facts.specs.Facts.{Facts}
use Rattle.number_spans.specs.declared.span.Span.{Span}
use Rattle.symbolic_values.specs.Names.{paired_def, renamed_above, symbol_of}
use Rattle.symbolic_values.specs.OwnNames.{own_names}
use Rattle.symbolic_values.specs.Pairing.{Pairing}
use Rattle.symbolic_values.specs.declared.def.Def.{Def}
use Rattle.symbolic_values.specs.declared.pairs.Key.{Key}
use Rattle.state_facts.specs.Assuming.{definition_at}

-- ---- numbers

-- The numbers that each symbol may be, from symbol 0 on.
abbrev pub spans_of : Facts → List Span
spans_of facts = map (span_at facts) (range_with_len 0 (length facts.ranges + 1))

abbrev pub numbers_known : Facts → Known
numbers_known facts = record { spans = spans_of facts; bounds = facts.bounds }

-- ---- definitions of new symbols, each of which stands for a key

abbrev pub with_definition : ℕ → Option Def → List (ℕ × Def) → List (ℕ × Def)
with_definition symbol None later = later
with_definition symbol (Some def) later = (symbol, def) ∷ later

-- The definitions of the symbols from one on, given what defines a key.
abbrev pub definitions_from : (Key → Option Def) → ℕ → List Key → List (ℕ × Def)
definitions_from def symbol [] = []
definitions_from def symbol (u ∷ us) = with_definition symbol (def u) (definitions_from def (suc symbol) us)

-- The symbol of the key is worth what its symbols in both states are.
abbrev pub is_of_symbols : Key → Bool
is_of_symbols u = int_eq u.first (pos 0) && int_eq u.shift (pos 0)

abbrev pub common_def : FramePairing → Option Def → Option Def → Option Def
common_def frames (Some a) (Some b) = paired_def frames.numbers frames.references a b
common_def frames _ _ = None

-- The definition of a key's symbol, where both states have the same one.
abbrev pub def_of_both : FramePairing → List (ℕ × Def) → List (ℕ × Def) → Key → Option Def
def_of_both frames a b u =
    if is_of_symbols u then common_def frames (definition_at a u.s) (definition_at b u.t) else None

-- The new reference of each reference below a count.
abbrev pub reference_names : Pairing → ℕ → List (Option ℕ)
reference_names pairs count = map symbol_of (own_names pairs count)

-- The definition of a key's symbol, in new names. The symbol is greater by the key's first constant than the old one.
abbrev pub own_def : List (Option Expr) → List (Option ℕ) → List (ℕ × Def) → Key → Option Def
own_def symbols references definitions u =
    option_and_then (renamed_above u.first symbols references) (definition_at definitions u.s)

-- The same, where there were so many symbols and references, with symbol 0 and reference 0.
abbrev pub def_of_one : FramePairing → ℕ → ℕ → List (ℕ × Def) → Key → Option Def
def_of_one frames symbols references definitions u =
    own_def (own_names frames.numbers symbols) (reference_names frames.references references) definitions u

-- ---- references

-- What the table has of a merged reference.
abbrev pub entry_of : MergedReference → Reference
entry_of r = record { place = r.place; nullness = r.nullness; length = r.length }

-- ---- items of new references

-- What both states know of the items of each, given how two ranges become one.
abbrev pub contents_of_both : Making → FramePairing → Contents → Contents → Contents
contents_of_both making frames a b = items.merged making frames.numbers a b frames.references.keys frames.lengths

-- What a state of so many symbols, with symbol 0, knows of the items of each, in new names.
abbrev pub contents_of_one : FramePairing → ℕ → Contents → Contents
contents_of_one frames symbols a = items.renamed_each (own_names frames.numbers symbols) a frames.references.keys

-- Each new symbol has a number of 32 bits.
abbrev pub are_numbered : FramePairing → Bool
are_numbered frames = nat_le (length frames.numbers.keys) 4294967295

-- An array of this length, of whose items nothing is known.
abbrev pub unknown_array : Expr → Segments
unknown_array length = whole length full true

-- What is known of items, where each symbol has a number of 32 bits. Else it is no more than the lengths of arrays.
abbrev pub if_numbered : FramePairing → Contents → Contents
if_numbered frames contents = if are_numbered frames then contents else map unknown_array frames.lengths
