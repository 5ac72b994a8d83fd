-- What a call leaves.
use Rattle.std.specs.Prelude.{ℕ, zero, suc, ◌+◌, pos, Bool, true, List, [], ◌∷◌, ◌++◌, false, length, map, take, drop, Option, Some, None, if◌then◌else◌}
use Rattle.std.specs.List.{list_all, range_with_len}
use Rattle.std.specs.Option.{option_map}
use Rattle.alias_facts.specs.PairsOf.{Pair, ordered, with_pair}
use Rattle.alias_facts.specs.declared.nullness.Nullness.TheVariants.{May}
use Rattle.array_contents.specs.Storing.{forgotten}
use Rattle.array_contents.specs.declared.forgetting.Unknown.{Unknown}
use Rattle.array_segments.specs.SegmentLists.{whole}
use Rattle.cil_model.specs.Arithmetic.{LEAST, GREATEST}
use Rattle.cil_model.specs.declared.place.Place.{Place}
use Rattle.cil_model.specs.declared.place.Place.TheVariants as places
use Rattle.frame_names.specs.declared.reference.Reference.{Reference}
use Rattle.interval_domain.specs.Interval.{Interval, between}
use Rattle.number_facts.specs.Fresh.{Made, fresh}
use Rattle.state_facts.specs.Moves.{greatest_item, least_item, with_items, with_number}
use Rattle.state_facts.specs.StateFacts.{StateFacts, are_apart, reference_at}
use Rattle.frame_names.specs.declared.var.Var.{Var}
use Rattle.frame_names.specs.declared.var.Var.TheVariants as vars

-- A reference is known not to be the array that is passed, if one is. A text or an address is never passed.
abbrev pub apart_from : StateFacts → ℕ → Var → Bool
apart_from known q (vars.Reference r) = are_apart known q r
apart_from known q (vars.Number e) = true
apart_from known q vars.Text = true
apart_from known q (vars.Address r e) = true

-- It is known to be none of the arrays that are passed.
abbrev pub apart_from_all : StateFacts → List Var → ℕ → Bool
apart_from_all known passed q = list_all (apart_from known q) passed

-- The pairs with a new reference made apart from each, from 1 up to a number, that passes a test.
abbrev pub apart_with : (ℕ → Bool) → ℕ → ℕ → List Pair → List Pair
apart_with test new zero pairs = pairs
apart_with test new (suc q) pairs =
    if test (suc q) then with_pair (ordered new (suc q)) (apart_with test new q pairs) else apart_with test new q pairs

-- All that an item of an array of this place may be.
abbrev pub items_of : Place → Interval
items_of place = between (least_item place) (greatest_item place)

-- Of an array that a call may have changed only its length and its place are known.
abbrev pub changed_unless : Bool → Option Reference → Option Unknown
changed_unless true r = None
changed_unless false None = None
changed_unless false (Some r) = Some (record { length = r.length; items = items_of r.place })

-- Each reference that may be one of the arrays that are passed may have been changed.
abbrev pub changed_at : StateFacts → List Var → ℕ → Option Unknown
changed_at known passed q = changed_unless (apart_from_all known passed q) (reference_at known.references q)

abbrev pub without_items : List Var → StateFacts → StateFacts
without_items passed known =
    with_items known
    (forgotten (map (changed_at known passed) (range_with_len 1 (length known.references))) known.contents)

-- An array that may be null is on top, with a length of its own and any items, where these pairs are apart.
abbrev pub returned : List Pair → Place → StateFacts → Made → StateFacts
returned apart place known made = record {
  variables = known.variables ++ vars.Reference (length known.references + 1) ∷ [];
  facts = made.facts;
  references = known.references
      ++ record { place = place; nullness = May; length = made.expr } ∷ [];
  apart = apart;
  contents = known.contents ++ whole made.expr (items_of place) true ∷ [];
}

unfoldable pub with_returned : List Pair → Place → StateFacts → Option StateFacts
with_returned apart place known =
    option_map (returned apart place known) (fresh known.facts (pos 0) (pos 2147483647) None [])

-- The variables that are passed.
abbrev pub passed : ℕ → ℕ → StateFacts → List Var
passed first args known = take args (drop first known.variables)

-- An array that a call gives is one that was passed, or a new one.
abbrev pub with_result_array : ℕ → ℕ → Place → StateFacts → Option StateFacts
with_result_array first args place known =
    with_returned
    (apart_with (apart_from_all known (passed first args known)) (length known.references + 1) (length known.references)
    known.apart)
    place known

-- What a call gives is on top, unless it gives nothing.
unfoldable pub with_result : ℕ → ℕ → Place → StateFacts → Option StateFacts
with_result first args places.Void known = Some known
with_result first args places.Bool known = with_number (pos 0) (pos 255) known
with_result first args places.Int known = with_number LEAST GREATEST known
with_result first args place known = with_result_array first args place known

-- What a call leaves: the arrays that are passed may have been changed, and what it gives is on top.
unfoldable pub with_call : ℕ → ℕ → Place → StateFacts → Option StateFacts
with_call first args place known = with_result first args place (without_items (passed first args known) known)
