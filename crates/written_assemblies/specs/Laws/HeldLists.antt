-- Lists as the code holds them.
use Rattle.std.specs.Prelude.{◌^◌, List, length, take}
use Rattle.std.specs.Ptr.{null_ptr}
use Rattle.std.specs.declared.alloc.Global.{Global}
use Rattle.std.specs.declared.vec.Vec.{Vec}
use Rattle.std.proofs.Common.{refl, arith, length-take}

-- A list as the code holds it, of at most 2^32 items. Where they lie in memory is of no account.
unfoldable pub held : {X : Type 0} → List X → Vec X Global
held xs =
    let items = take (2 ^ 32) xs in
    let few = length-take (2 ^ 32) xs in
    record {
      ptr = null_ptr;
      len = length items;
      cap = length items;
      alloc = record { memory = record { seal = tt } };
      items = items;
      ok = (refl, omega arith);
      small = omega (arith, few);
    }
