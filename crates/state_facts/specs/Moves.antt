-- What moves do to what is known. None: nothing is reached then.
use Rattle.std.specs.Prelude.{ℕ, ◌+◌, ◌-◌, ◌==◌, ℤ, pos, Bool, not, ◌&&◌, ◌||◌, int_le, List, [], ◌∷◌, ◌++◌, length, map, take, set, Option, Some, None, if◌then◌else◌}
use Rattle.std.specs.Int.{int_max, int_min}
use Rattle.std.specs.List.{range_with_len}
use Rattle.std.specs.Option.{option_and_then, option_map}
use Rattle.alias_facts.specs.PairsOf.{with_all_before}
use Rattle.alias_facts.specs.declared.nullness.Nullness.TheVariants.{NotNull}
use Rattle.array_contents.specs.Contents.{Contents}
use Rattle.array_contents.specs.Storing as contents
use Rattle.array_segments.specs.SegmentLists.{whole}
use Rattle.cil_model.specs.Arithmetic.{LEAST, GREATEST}
use Rattle.cil_model.specs.declared.place.Place.{Place}
use Rattle.cil_model.specs.declared.place.Place.TheVariants as places
use Rattle.domain_api.specs.declared.expr.Expr.{Expr}
use Rattle.interval_domain.specs.Interval.{Interval, one}
use Rattle.number_facts.specs.Ends.{range_of}
use Rattle.number_facts.specs.Facts.{Facts, IsNamed}
use Rattle.number_facts.specs.Fresh.{Made, fresh}
use Rattle.number_facts.specs.Gaps.{gap, less}
use Rattle.number_spans.specs.Constants.{constant}
use Rattle.number_spans.specs.Stored.{range_without}
use Rattle.number_spans.specs.declared.span.Span.{Span}
use Rattle.state_facts.specs.StateFacts.{StateFacts, are_apart, reference_at}
use Rattle.frame_names.specs.declared.reference.Reference.{Reference}
use Rattle.frame_names.specs.declared.var.Var.{Var}
use Rattle.frame_names.specs.declared.var.Var.TheVariants as vars

-- ---- pushes and pops

-- One more variable, on top of the stack.
abbrev pub pushed : StateFacts → Var → StateFacts
pushed known v = record known { variables = known.variables ++ v ∷ [] }

-- The top is taken.
unfoldable pub popped : StateFacts → StateFacts
popped known = record known { variables = take (length known.variables - 1) known.variables }

-- A number that was made is on top.
abbrev pub on_top : StateFacts → Made → StateFacts
on_top known made = record known { variables = known.variables ++ vars.Number made.expr ∷ []; facts = made.facts }

-- A number from lo to hi is on top, of which no more is known.
unfoldable pub with_number : ℤ → ℤ → StateFacts → Option StateFacts
with_number lo hi known = option_map (on_top known) (fresh known.facts lo hi None [])

-- ---- puts

abbrev pub is_byte : Span → Bool
is_byte r = int_le (pos 0) r.lo && int_le r.hi (pos 255)

-- A number as it is put into a place: a bool takes a number that is one of bool, and of another nothing is known after.
unfoldable pub placed : Facts → Expr → Place → Option Made
placed facts e places.Bool =
    if is_byte (range_of facts e) then Some (record { expr = e; facts = facts })
    else fresh facts (pos 0) (pos 255) None []
placed facts e places.Void = Some (record { expr = e; facts = facts })
placed facts e places.Int = Some (record { expr = e; facts = facts })
placed facts e places.Bools = Some (record { expr = e; facts = facts })
placed facts e places.Ints = Some (record { expr = e; facts = facts })

-- A number that was made is what a variable has.
abbrev pub in_variable : StateFacts → ℕ → Made → StateFacts
in_variable known i made =
    record known { variables = set known.variables i (vars.Number made.expr); facts = made.facts }

unfoldable pub with_placed : ℕ → Expr → Place → StateFacts → Option StateFacts
with_placed i e place known = option_map (in_variable known i) (placed known.facts e place)

-- A variable has this.
abbrev pub with_set : ℕ → Var → StateFacts → Option StateFacts
with_set i v known = Some (record known { variables = set known.variables i v })

-- A value is put into the place of a variable. No place takes a text or an address.
unfoldable pub with_put : ℕ → Var → Place → StateFacts → Option StateFacts
with_put i (vars.Number e) place known = with_placed i e place known
with_put i (vars.Reference r) place known = with_set i (vars.Reference r) known
with_put i vars.Text place known = with_set i vars.Text known
with_put i (vars.Address r e) place known = with_set i (vars.Address r e) known

-- The symbol of a number is there. That of an address is not asked for, since none is computed with.
abbrev pub IsNamedNumber : StateFacts → Var → Type 0
IsNamedNumber known (vars.Number e) = IsNamed known.facts e
IsNamedNumber known (vars.Reference r) = Unit {0}
IsNamedNumber known vars.Text = Unit {0}
IsNamedNumber known (vars.Address r e) = Unit {0}

-- ---- arrays

-- The type of a reference. That of reference 0 does not matter.
abbrev pub place_of : Option Reference → Place
place_of None = places.Ints
place_of (Some r) = r.place

abbrev pub place_at : StateFacts → ℕ → Place
place_at known r = place_of (reference_at known.references r)

-- What an item of an array may be.
abbrev pub least_item : Place → ℤ
least_item places.Bools = pos 0
least_item _ = LEAST

abbrev pub greatest_item : Place → ℤ
greatest_item places.Bools = pos 255
greatest_item _ = GREATEST

-- A number of a range is on top.
unfoldable pub with_one_of : Interval → StateFacts → Option StateFacts
with_one_of r known = option_map (on_top known) (fresh known.facts r.lo r.hi r.hole [])

-- The item of an array at an index is on top.
unfoldable pub with_item : ℕ → Expr → StateFacts → Option StateFacts
with_item r at known = with_one_of (contents.loaded_at (gap known.facts) known.contents r at) known

abbrev pub item_place : Place → Place
item_place places.Bools = places.Bool
item_place _ = places.Int

abbrev pub beside : StateFacts → Made → StateFacts
beside known made = record known { facts = made.facts }

-- The int32 that a number may be. None where there is none.
unfoldable pub int32_in : Span → Option Interval
int32_in r = range_without (int_max r.lo LEAST) (int_min r.hi GREATEST) r.hole

-- Another reference may be the same array.
abbrev pub may_be : StateFacts → ℕ → ℕ → Bool
may_be known r q = not (q == r || are_apart known r q)

-- Those of the references from 1 on.
abbrev pub others : StateFacts → ℕ → List Bool
others known r = map (may_be known r) (range_with_len 1 (length known.references))

abbrev pub with_items : StateFacts → Contents → StateFacts
with_items known items = record known { contents = items }

-- A number that was made is stored at an index: into the array that the reference is, and perhaps into each that may be
-- the same one.
unfoldable pub with_written : ℕ → Expr → StateFacts → Made → Option StateFacts
with_written r at known made =
    option_map
    (λ range.
    with_items (beside known made) (contents.stored (gap made.facts) r at range (others known r) known.contents))
    (int32_in (range_of made.facts made.expr))

-- A number is stored into an array at an index, as it is put into an item's place.
unfoldable pub with_stored : ℕ → Expr → Expr → StateFacts → Option StateFacts
with_stored r at value known =
    option_and_then (with_written r at known) (placed known.facts value (item_place (place_at known r)))

-- A number may be 0.
abbrev pub may_be_zero : Facts → Expr → Bool
may_be_zero facts e = not (less facts (constant (pos 0)) e)

-- A new array is on top, whose items are 0. It is none of those that were there before.
unfoldable pub with_array : Place → Expr → StateFacts → StateFacts
with_array place length_is known = record {
  variables = known.variables ++ vars.Reference (length known.references + 1) ∷ [];
  facts = known.facts;
  references = known.references
      ++ record { place = place; nullness = NotNull; length = length_is } ∷ [];
  apart = with_all_before (length known.references + 1) known.apart;
  contents = known.contents ++ whole length_is (one (pos 0)) (may_be_zero known.facts length_is) ∷ [];
}
