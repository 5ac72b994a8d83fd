-- What a sink in memory counts.
use Rattle.std.specs.Prelude.{ℕ, Result, Ok, Err}
use Rattle.cc_base.specs.Counts.{count_up}
use Rattle.cc_base.specs.declared.sink.PutRefusal.{PutRefusal}
use Rattle.cc_base.specs.declared.sink.PutRefusal.TheVariants.{Failed, NoMemory}

-- The count of puts that failed, after one more put.
abbrev pub put_faults_after : {X : Type 0} → Result X PutRefusal → ℕ → ℕ
put_faults_after (Ok x) faults = faults
put_faults_after (Err Failed) faults = count_up faults
put_faults_after (Err NoMemory) faults = faults
