use Rattle.answer_lines.proofs.LineLemmas.{cache_is_line}
use Rattle.answer_lines.proofs.puts.put_cache_line.Goals as goal

pub put_line-requires : goal.put_line-requires
put_line-requires g c = rw (c.deref.ensures.value, c.in_ok-line.ensures) (cache_is_line c.args.name.now c.args.fault.now c.requires)

pub returns : goal.returns
returns g c = rw (c.deref.ensures.value, c.in_ok-line.ensures) at c.put_line.ensures
