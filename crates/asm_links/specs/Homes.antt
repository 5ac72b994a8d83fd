-- A table of methods by what tells them from others.
use Rattle.std.specs.Prelude.{◌≡◌, ◌≤◌, ◌^◌, ℕ, length, List, [], ◌∷◌, map, Option, Some, None, if◌then◌else◌}
use Rattle.std.specs.Map.{lookup}
use Rattle.asm_image.specs.Members.{MethodKey, key_of}
use Rattle.asm_links.specs.Keys.{same_key}
use Rattle.asm_links.specs.Targets.{Named, all_named, told_by}
use Rattle.asm_links.specs.declared.homes.Home.{Home}
use Rattle.asm_links.specs.declared.homes.Home.TheVariants.{One, Several}
use Rattle.asm_links.specs.declared.key.Key.{Key}
use Rattle.cc_base.specs.declared.token.Token.{Token}

-- Keys, each with where its methods stand.
abbrev pub Table : Type 0
Table = List (MethodKey × Home)

-- The entries of a map, with what their keys tell.
abbrev pub seen : List (Key × Home) → Table
seen entries = map (λ entry. (key_of entry.0.member, entry.1)) entries

-- What stands beside a key.
abbrev pub home_in : Table → MethodKey → Option Home
home_in table key = lookup (same_key key) table

-- What stands beside a key once one method more has it.
abbrev pub one_more : Option Home → ℕ × Token → Home
one_more None home = One home.0 home.1
one_more (Some before) home = Several

-- A table after a method is noted for a key. No other key changes.
abbrev pub Notes : Table → MethodKey → ℕ × Token → Table → Type 0
Notes old key home new = (other : MethodKey) → home_in new other ≡ (if same_key other key then Some (one_more (home_in old other) home) else home_in old other)

-- Where some methods stand: none, one, or more than one.
abbrev pub home_of : List Named → Option Home
home_of [] = None
home_of (one ∷ []) = Some (One one.1.0 one.1.1)
home_of (one ∷ other ∷ others) = Some Several

-- The table tells of each key where the methods stand that it tells.
abbrev pub TellsHomes : Table → List Named → Type 0
TellsHomes table methods = (key : MethodKey) → home_in table key ≡ home_of (told_by key methods)

-- The method, where there is one.
abbrev pub only_home : Option Home → Option (ℕ × Token)
only_home None = None
only_home (Some (One file token)) = Some (file, token)
only_home (Some Several) = None

-- The table tells of the methods of these files, of which there are no more than their numbers can count.
pub record AreLinked (table : Table) (files : List (List ℕ)) : Type 0 where
  pub told : TellsHomes table (all_named 0 files)
  pub few : length files ≤ 2 ^ 32
