use Rattle.std.proofs.Common.{◌≡◌, ◌↔◌, drop, length}
use Rattle.merged_states.specs.Alike.{AreLike}
use Rattle.abs_state.proofs.likeness.are_like.Given as goal

abbrev pub invariant-loop-index : goal.invariant-loop-index
invariant-loop-index l = record {
  same_length : length l.a.variables ≡ length l.b.variables;
  rest : AreLike l.a l.b l.a.variables l.b.variables ↔ AreLike l.a l.b (drop l.index l.a.variables) (drop l.index l.b.variables);
}
