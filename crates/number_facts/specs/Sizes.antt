-- How large ends are before a constant is added.
use Rattle.std.specs.Prelude.{ℤ, pos, negsuc, ◌≤ℤ◌}
use Rattle.number_spans.specs.declared.span.Span.{Span}
use Rattle.number_facts.specs.declared.ends.CutEnds.{CutEnds}

-- At most 2^64, as sums and differences of two numbers of 64 bits are.
pub record IsSum (n : ℤ) : Type 0 where
  pub least : negsuc 18446744073709551615 ≤ℤ n
  pub greatest : n ≤ℤ pos 18446744073709551616

-- At most 2^63 + 2^31, as the ends of int32 are that a bound of 64 bits cuts.
pub record IsCut (n : ℤ) : Type 0 where
  pub least : negsuc 9223372039002259455 ≤ℤ n
  pub greatest : n ≤ℤ pos 9223372039002259456

-- So are both ends.
pub record AreSums (ends : CutEnds) : Type 0 where
  pub low : IsSum ends.lo
  pub high : IsSum ends.hi

pub record AreCut (ends : CutEnds) : Type 0 where
  pub low : IsCut ends.lo
  pub high : IsCut ends.hi

-- At most one more, behind a hole.
pub record IsNear (n : ℤ) : Type 0 where
  pub least : negsuc 9223372039002259456 ≤ℤ n
  pub greatest : n ≤ℤ pos 9223372039002259457

-- So are both ends.
pub record AreNear (r : Span) : Type 0 where
  pub low : IsNear r.lo
  pub high : IsNear r.hi

-- At most 2^66, as ends with a constant are.
pub record IsFar (n : ℤ) : Type 0 where
  pub least : negsuc 73786976294838206463 ≤ℤ n
  pub greatest : n ≤ℤ pos 73786976294838206464
