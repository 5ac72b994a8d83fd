-- A blob is no longer than the metadata.
use Rattle.std.proofs.Common.{◌≡◌, ℕ, ◌+◌, ◌≤◌, List, length, take, drop, Option, Some, None, ap, subst, arith, length-drop, length-take}
use Rattle.std.specs.Prelude.{codes, IfSome, is_some, unwrap_or, option_map}
use Rattle.metadata_tables.specs.Heaps.{StandsAt, whole_length, item_of, blob_at}
use Rattle.metadata_tables.specs.Root.{stream, bytes_of, heap}

some-is : {X : Type 0} (x y : X) → Some x ≡ Some y → x ≡ y
some-is x y e = cc

mapped-within : {F : Type 0} (g : F → List ℕ) (prefix : Option F) (item : List ℕ) (n : ℕ) → Some item ≡ option_map g prefix → ((f : F) → length (g f) ≤ n) → length item ≤ n
mapped-within {F} g None item n e within = absurd cc
mapped-within {F} g (Some f) item n e within = let same = ap length (some-is item (g f) e) in omega (arith, same, within f)

stream-short : (md name : List ℕ) → length (bytes_of md (stream md name)) ≤ length md
stream-short md name =
    elim (stream md name) as (λ o. length (bytes_of md o) ≤ length md) [
      | None ↦ omega arith
      | Some s ↦ omega (arith, length-take s.size (drop s.at md), length-drop s.at md)
    ]

item-short : (bytes item : List ℕ) → Some item ≡ item_of bytes → length item ≤ length bytes
unfolding item_of
item-short bytes item e =
    mapped-within _ (whole_length bytes) item (length bytes) e
    (λ f. omega (arith, length-take f.number (drop f.width bytes), length-drop f.width bytes))

pub blob_short : (md item : List ℕ) (index : ℕ) → Some item ≡ blob_at md index → length item ≤ length md
unfolding blob_at heap
blob_short md item index e =
    let all = bytes_of md (stream md (codes "#Blob")) in
    omega (arith, item-short (drop index all) item e, length-drop index all, stream-short md (codes "#Blob"))

length-same : (md item : List ℕ) (at : ℕ) → StandsAt md at item → at ≤ length md → at + length item ≤ length md
length-same md item at stands within =
    let same : length item ≡ length (take (length item) (drop at md)) = ap length stands in
    omega (arith, same, length-take (length item) (drop at md), length-drop at md)

ends : (md item : List ℕ) (found : Option (List ℕ)) (place : Option ℕ) → Some item ≡ found → is_some place ≡ is_some found
    → IfSome place (λ at. IfSome found (λ bytes. StandsAt md at bytes)) → IfSome place (λ at. at ≤ length md) → unwrap_or place 0 + length item ≤ length md
ends md item None place e lent stands within = absurd cc
ends md item (Some found) None e lent stands within = absurd cc
ends md item (Some found) (Some at) e lent stands within =
    let same : found ≡ item = cc in
    length-same md item at (subst (StandsAt md at) same stands) within

-- A blob ends in the metadata.
pub blob_end : (md item : List ℕ) (index : ℕ) (place : Option ℕ) → Some item ≡ blob_at md index → is_some place ≡ is_some (blob_at md index)
    → IfSome place (λ at. IfSome (blob_at md index) (λ bytes. StandsAt md at bytes)) → IfSome place (λ at. at ≤ length md)
    → unwrap_or place 0 + length item ≤ length md
blob_end md item index place e lent stands within = ends md item (blob_at md index) place e lent stands within
