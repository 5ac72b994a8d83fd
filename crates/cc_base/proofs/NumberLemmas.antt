-- Little endian numbers at an offset, and their bytes.
use Rattle.std.proofs.Common.{ℕ, ◌^◌, ◌<◌, List, drop}
use Rattle.cc_base.specs.LittleEndian.{IsBytes, u16_at}
use Rattle.cc_base.proofs.ByteLemmas.{IsBytes-drop, little_number-lt}

pub u16_at-lt : (bytes : List ℕ) (at : ℕ) → IsBytes bytes → u16_at bytes at < 2 ^ 16
unfolding u16_at
u16_at-lt bytes at h = little_number-lt 2 (drop at bytes) (IsBytes-drop at bytes h)
