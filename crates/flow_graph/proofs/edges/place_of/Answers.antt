use Rattle.std.proofs.Common.{Ok, Err}
use Rattle.flow_graph.proofs.Searches.{found_place, place_fits}
use Rattle.flow_graph.proofs.edges.place_of.Goals as goal

pub overflow_cast-result : goal.overflow_cast-result
overflow_cast-result c = place_fits c.args.blocks.now c.in-Ok.place c.requires c.type_inv.blocks c.in-Ok.ensures.bound

pub returns-in-Ok : goal.returns-in-Ok
returns-in-Ok c = found_place c.args.blocks.now c.args.at (Ok c.in-Ok.place) c.in-Ok.ensures.position c.requires

pub returns-in-Err : goal.returns-in-Err
returns-in-Err c = found_place c.args.blocks.now c.args.at (Err c.in-Err.field-0) c.in-Err.ensures.position c.requires
