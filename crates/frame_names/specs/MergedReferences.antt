-- What is known of each new reference of two frames that were named together.
use Rattle.std.specs.Prelude.{List, [], ◌∷◌, Option, Some, None}
use Rattle.alias_facts.specs.NullnessOf.{joined}
use Rattle.cil_model.specs.declared.place.Place.{Place}
use Rattle.cil_model.specs.declared.place.Place.TheVariants.{Void}
use Rattle.domain_api.specs.declared.expr.Expr.{Expr}
use Rattle.symbolic_values.specs.declared.pairs.Key.{Key}
use Rattle.frame_names.specs.Frames.{nullness_at, place_at}
use Rattle.frame_names.specs.PairedFrames.{first_expr, behind}
use Rattle.frame_names.specs.declared.merging.MergedReference.{MergedReference}
use Rattle.frame_names.specs.declared.reference.Reference.{Reference}

-- The type of one of the two, the first one's if it has one. Two nulls are no reference of the outcome.
abbrev pub one_place : Option Place → Option Place → Place
one_place (Some a) b = a
one_place None (Some b) = b
one_place None None = Void

abbrev pub merged_reference : List Reference → List Reference → Key → Expr → MergedReference
merged_reference a b key length = record {
  first = key.s;
  second = key.t;
  place = one_place (place_at a key.s) (place_at b key.t);
  nullness = joined (nullness_at a key.s) (nullness_at b key.t);
  length = length;
}

-- Each paired reference, with the next of the new lengths.
abbrev pub merged_references : List Reference → List Reference → List Key → List Expr → List MergedReference
merged_references a b [] lengths = []
merged_references a b (key ∷ keys) lengths =
    merged_reference a b key (first_expr lengths) ∷ merged_references a b keys (behind lengths)
