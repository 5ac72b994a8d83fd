use denote.Enum.Bare.{same_true, true_same}
use Rattle.std.proofs.lemmas.Slice.Eq.{slice_eq-Decides}
use Rattle.cil_model.specs.contracts.place.Place.{the_type}
use Rattle.method_unit.proofs.equality.same_places.Goals as goal

pub returns : goal.returns
returns c = record {
  same = slice_eq-Decides (λ x y. (same_true the_type tt x y, true_same the_type x y)) c.args.a.now c.args.b.now c.eq.result c.eq.ensures;
}
