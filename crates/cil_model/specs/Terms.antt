-- The trees of clauses, as terms, and how large they are.
use Rattle.std.specs.Prelude.{ℕ, ◌+◌, max, ℤ}
use Rattle.cil_model.specs.declared.instruction.BinOp.{BinOp}
use Rattle.cil_model.specs.declared.instruction.UnOp.{UnOp}
use Rattle.cil_model.specs.declared.place.Place.{Place}

-- A clause's expression.
pub data Term : Type 0 where
  Const : ℤ → Term
  -- an argument's value at entry
  Arg : ℕ → Term
  Null : Term
  Result : Term
  Len : Term → Term
  -- of an array of this place, at this index
  Elem : Place → Term → Term → Term
  Bin : BinOp → Term → Term → Term
  Un : UnOp → Term → Term
  -- the value that the term had at entry
  Old : Term → Term
  -- the second term where the first is true, else the third
  Cond : Term → Term → Term → Term

-- How many nodes a term has.
abbrev pub term_size : Term → ℕ
term_size (Const n) = 1
term_size (Arg n) = 1
term_size Null = 1
term_size Result = 1
term_size (Len a) = term_size a + 1
term_size (Elem place a b) = term_size a + term_size b + 1
term_size (Bin operator a b) = term_size a + term_size b + 1
term_size (Un operator a) = term_size a + 1
term_size (Old a) = term_size a + 1
term_size (Cond a b c) = term_size a + term_size b + term_size c + 1

-- How many conditions stand on a way from the root to a leaf at most.
abbrev pub condition_depth : Term → ℕ
condition_depth (Len a) = condition_depth a
condition_depth (Elem place a b) = max (condition_depth a) (condition_depth b)
condition_depth (Bin operator a b) = max (condition_depth a) (condition_depth b)
condition_depth (Un operator a) = condition_depth a
condition_depth (Old a) = condition_depth a
condition_depth (Cond a b c) = max (condition_depth a) (max (condition_depth b) (condition_depth c)) + 1
condition_depth _ = 0

-- How many old values a term has.
abbrev pub old_count : Term → ℕ
old_count (Len a) = old_count a
old_count (Elem place a b) = old_count a + old_count b
old_count (Bin operator a b) = old_count a + old_count b
old_count (Un operator a) = old_count a
old_count (Old a) = old_count a + 1
old_count (Cond a b c) = old_count a + old_count b + old_count c
old_count _ = 0
