-- References with their segments that are read one after another.
use Rattle.std.proofs.Common.{◌≡◌, ℕ, ◌+◌, ◌-◌, ◌<◌, List, [], ◌∷◌, ◌++◌, None, refl, sym, ap}
use Rattle.std.proofs.Common.{◌∙◌}
use Rattle.std.proofs.lemmas.List.{map-append}
use Rattle.cc_base.specs.Tests.{first_of}
use Rattle.invariant_codec.specs.Parses.{Parse}
use Rattle.invariant_codec.specs.Segments.{Arrays, KnownArray, arrays_of, in_lists, with_array}
use Rattle.invariant_codec.proofs.Counted.{AreRead, read_next}
use Rattle.invariant_codec.proofs.SegmentLaws.{contents_again}

-- So many are read into these lists, and from this offset on the rest is left.
pub record AreListed (one : List KnownArray → ℕ
    → Parse KnownArray) (count start : ℕ) (arrays : Arrays) (rest at : ℕ) : Type 0 where
  pub read : AreRead one count start (arrays_of arrays) rest at
  pub lists_are : arrays ≡ in_lists (arrays_of arrays)

pub listed_with : (all : List KnownArray) (a : KnownArray) → with_array (in_lists all) a ≡ in_lists (all ++ a ∷ [])
listed_with all a = rw (
  map-append (λ (a : KnownArray). a.reference) all (a ∷ []),
  map-append
      (λ (a : KnownArray). a.segments) all (a ∷ []),
) refl

pub listed_next : (one : List KnownArray → ℕ
    → Parse KnownArray) (count start k at next : ℕ) (arrays more : Arrays) (a : KnownArray) → k < count
    → AreListed one count start arrays (count - k) at
    → more ≡ with_array arrays a → first_of (one (arrays_of arrays) at).tests ≡ None
    → a ≡ (one (arrays_of arrays) at).value → next ≡ (one (arrays_of arrays) at).next
    → AreListed one count start more (count - (k + 1)) next
listed_next one count start k at next arrays more a below before is passed value after =
    let all = arrays_of arrays in
    let whole : more ≡ in_lists (all ++ a ∷ []) = is ∙ ap (λ (l : Arrays). with_array l a) before.lists_are
    ∙ listed_with all a in
    let again : arrays_of more ≡ all ++ a ∷ [] = ap arrays_of whole ∙ contents_again (all ++ a ∷ []) in
    record {
      read = rw again (read_next one count start k at next all a below before.read passed value after);
      lists_are = whole ∙ ap in_lists (sym again);
    }
