-- A table of the keys that are known.
use Rattle.std.specs.Prelude.{◌≡◌, List, map, Option, Some, None}
use Rattle.std.specs.List.{AllByRecursion}
use Rattle.std.specs.declared.hash.FoldHasher.{FoldHasher}
use Rattle.std.specs.declared.hash.BuildHasherDefault.{BuildHasherDefault}
use Rattle.indexmap.specs.IndexSet.{IndexSet}
use Rattle.symbolic_values.specs.declared.pairs.Key.{Key}
use Rattle.symbolic_values.specs.Identities.{identity_of}
use Rattle.symbolic_values.specs.NearUses.{IsNearUse}
use Rattle.symbolic_values.specs.declared.identity.Identity.{Identity}

-- Where there is a table, it has these keys in order.
abbrev pub IsTableOf : Option (IndexSet Identity (BuildHasherDefault FoldHasher)) → List Key → Type 0
IsTableOf None keys = Unit {0}
IsTableOf (Some table) keys = table.keys ≡ map identity_of keys

-- What is kept of keys: their first constants are near, and where there is a table, it has them in order.
pub record IsIndexed (keys : List Key)
    (table : Option (IndexSet Identity (BuildHasherDefault FoldHasher))) : Type 0 where
  pub near : AllByRecursion IsNearUse keys
  pub same : IsTableOf table keys
