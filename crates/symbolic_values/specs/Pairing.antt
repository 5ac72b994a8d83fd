-- Two lists of expressions, named together.
use Rattle.std.specs.Prelude.{ℕ, ℤ, pos, negsuc, ◌-ℤ◌, ◌≤ℤ◌, Bool, ◌&&◌, ◌==◌, List, [], ◌∷◌, get_or, map}
use Rattle.std.specs.List.{AllByRecursion, position_or_len}
use Rattle.std.specs.Ordering.{int_eq}
use Rattle.domain_api.specs.declared.expr.Expr.{Expr}
use Rattle.symbolic_values.specs.declared.pairs.Key.{Key}
use Rattle.symbolic_values.specs.FirstUses.{first_uses}

-- The keys in order of first use, but for that of two equal constants, and the new expression of each pair.
pub record Pairing : Type 0 where
  pub keys : List Key
  pub exprs : List Expr

-- The constant is one of -2^32 to 2^32, as that of each variable and of each length is.
pub record IsNear (e : Expr) : Type 0 where
  pub least : negsuc 4294967295 ≤ℤ e.k
  pub greatest : e.k ≤ℤ pos 4294967296

abbrev pub AreNear : List Expr → Type 0
AreNear exprs = AllByRecursion IsNear exprs

-- ---- keys

-- The key of two expressions, as if this were its first use.
abbrev pub use_of : Expr → Expr → Key
use_of e f = record { s = e.sym; t = f.sym; shift = f.k -ℤ e.k; first = e.k }

-- Both are uses of one key.
abbrev pub same_key : Key → Key → Bool
same_key a b = a.s == b.s && (a.t == b.t && int_eq a.shift b.shift)

-- The key of two equal constants. Its symbol is 0 and keeps no offset.
abbrev pub origin : Key
origin = record { s = 0; t = 0; shift = pos 0; first = pos 0 }

-- The uses of two lists, in order.
abbrev pub uses_of : List Expr → List Expr → List Key
uses_of (e ∷ es) (f ∷ fs) = use_of e f ∷ uses_of es fs
uses_of _ _ = []

-- ---- names, where these are the first uses and the first of all is the origin

-- The number of a use's key.
abbrev pub number_in : List Key → Key → ℕ
number_in known u = position_or_len (same_key u) known

-- The symbol of a number, less its offset at its first use, and a constant more.
abbrev pub name_at : List Key → ℤ → ℕ → Expr
name_at known k n = record { sym = n; k = k -ℤ (get_or known n origin).first }

-- The new expression of a use: the symbol of its key, less its first offset.
abbrev pub named : List Key → Key → Expr
named known u = name_at known u.first (number_in known u)

-- The first uses of two lists, that of two equal constants before all others.
abbrev pub known_in : List Expr → List Expr → List Key
known_in a b = first_uses same_key (origin ∷ []) (uses_of a b)

abbrev pub behind_first : List Key → List Key
behind_first [] = []
behind_first (u ∷ us) = us

-- The pairing of two lists: the keys of their uses, but for that of equal constants, and a name for each two
-- expressions.
abbrev pub paired : List Expr → List Expr → Pairing
paired a b = record { keys = behind_first (known_in a b); exprs = map (named (known_in a b)) (uses_of a b) }

-- The use of a symbol paired with itself.
abbrev pub symbol_use : Expr → Key
symbol_use e = record { s = e.sym; t = e.sym; shift = pos 0; first = pos 0 }

-- The symbols of a list, without 0, in the order of their first uses.
abbrev pub symbols_by_first_use : List Expr → List ℕ
symbols_by_first_use exprs = map (λ u. u.s) (behind_first (first_uses same_key (origin ∷ []) (map symbol_use exprs)))
