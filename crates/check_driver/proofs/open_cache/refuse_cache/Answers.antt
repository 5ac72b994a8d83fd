use Rattle.check_driver.proofs.open_cache.refuse_cache.Goals as goal

pub returns : goal.returns
returns g c = rw (c.deref.ensures.value, c.in_ok-text.ensures.text) at c.put_cache_line.ensures
