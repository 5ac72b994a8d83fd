use Rattle.std.proofs.Common.{refl, ◌∙◌}
use Rattle.symbolic_values.specs.Identities.{identity_of, same_identity}
use Rattle.symbolic_values.specs.Pairing.{same_key, use_of}
use Rattle.symbolic_values.proofs.Tables.{position-table}
use Rattle.symbolic_values.proofs.pairs.place_in.Goals as goal

pub returns : goal.returns
returns c =
    c.get_index_of.ensures.index
    ∙ position-table same_key same_identity identity_of (λ u k. refl) (use_of c.args.e c.args.f) c.of_both.result c.args.keys.now c.args.table.now.keys
    c.of_both.ensures c.requires
