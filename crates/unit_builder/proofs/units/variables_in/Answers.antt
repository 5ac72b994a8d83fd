use Rattle.std.proofs.Common.{ℕ, List, subst, sym}
use Rattle.unit_builder.specs.Rows.{IsRowOf}
use Rattle.unit_builder.proofs.HeaderFacts.{variables_told}
use Rattle.unit_builder.proofs.units.variables_in.Goals as goal

pub read_variables-requires : goal.read_variables-requires
read_variables-requires c = record {
  row = subst (λ (asm : List ℕ). IsRowOf asm c.args.method.now) (sym c.assembly.ensures) c.requires.row;
  args = c.requires.args;
  few = c.requires.few;
}

pub returns : goal.returns
returns c = record { judged = variables_told _ _ c.args.method.now c.read_variables.result c.assembly.ensures c.read_variables.ensures.judged }
