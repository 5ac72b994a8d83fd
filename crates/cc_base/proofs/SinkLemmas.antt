-- How bytes that are appended follow one another, and the prefixes of lists.
use Rattle.std.proofs.Common.{◌≡◌, ℕ, zero, suc, ◌+◌, List, [], ◌++◌, Option, Some, None, option_map, refl, ap, sym, ◌∙◌, append_assoc, append-nil, zero-add, arith}
use Rattle.cc_base.specs.Counts.{count_up}
use Rattle.cc_base.specs.Sink.{appended, counted, IsPrefix, AppendsPrefix}

-- Two appends are one of both lists.
pub appended-appended : (told : Option (List ℕ)) (xs ys : List ℕ) → appended (appended told xs) ys ≡ appended told (xs ++ ys)
appended-appended None xs ys = refl
appended-appended (Some w) xs ys = ap Some (append_assoc w xs ys)

-- An append of nothing changes nothing.
pub appended-nil : (told : Option (List ℕ)) → appended told [] ≡ told
appended-nil None = refl
appended-nil (Some w) = ap Some (append-nil w)

-- The empty list is a prefix of each list.
pub IsPrefix-nil : (w : List ℕ) → IsPrefix [] w
IsPrefix-nil w = (w, refl)

-- A list is a prefix of itself.
pub IsPrefix-refl : (w : List ℕ) → IsPrefix w w
IsPrefix-refl w = ([], sym (append-nil w))

pub IsPrefix-trans : (f g w : List ℕ) → IsPrefix f g → IsPrefix g w → IsPrefix f w
IsPrefix-trans f g w (r, e) (s, d) = (r ++ s, d ∙ ap (λ (x : List ℕ). x ++ s) e ∙ append_assoc f r s)

-- A prefix of a list is a prefix of it with more after.
pub IsPrefix-more : (f w z : List ℕ) → IsPrefix f w → IsPrefix f (w ++ z)
IsPrefix-more f w z (r, e) = (r ++ z, ap (λ (x : List ℕ). x ++ z) e ∙ append_assoc f r z)

-- The same list before a prefix and its whole.
pub IsPrefix-after : (a f w : List ℕ) → IsPrefix f w → IsPrefix (a ++ f) (a ++ w)
IsPrefix-after a f w (r, e) = (r, ap (λ (x : List ℕ). a ++ x) e ∙ sym (append_assoc a f r))

-- The whole of the bytes is a prefix of them.
pub AppendsPrefix-all : (old new : Option (List ℕ)) (bytes : List ℕ) → new ≡ appended old bytes → AppendsPrefix old new bytes
AppendsPrefix-all old new bytes e = (bytes, IsPrefix-refl bytes, e)

-- Nothing is a prefix of the bytes.
pub AppendsPrefix-none : (old new : Option (List ℕ)) (bytes : List ℕ) → new ≡ old → AppendsPrefix old new bytes
AppendsPrefix-none old new bytes e = ([], IsPrefix-nil bytes, e ∙ sym (appended-nil old))

-- A prefix of the bytes is a prefix of them with more after.
pub AppendsPrefix-more : (old new : Option (List ℕ)) (xs ys : List ℕ) → AppendsPrefix old new xs → AppendsPrefix old new (xs ++ ys)
AppendsPrefix-more old new xs ys (f, isPrefix, e) = (f, IsPrefix-more f xs ys isPrefix, e)

-- Bytes that are written whole, and then a prefix of further ones.
pub AppendsPrefix-after : (old mid new : Option (List ℕ)) (xs ys : List ℕ)
    → mid ≡ appended old xs → AppendsPrefix mid new ys → AppendsPrefix old new (xs ++ ys)
AppendsPrefix-after old mid new xs ys whole (f, isPrefix, e) = (
  xs ++ f,
  IsPrefix-after xs f ys isPrefix,
  e ∙ ap (λ (o : Option (List ℕ)). appended o f) whole ∙ appended-appended old xs f,
)

-- A prefix of a prefix.
pub AppendsPrefix-prefix : (old new : Option (List ℕ)) (bytes whole : List ℕ)
    → AppendsPrefix old new bytes → IsPrefix bytes whole → AppendsPrefix old new whole
AppendsPrefix-prefix old new bytes whole (f, isPrefix, e) inWhole =
    (f, IsPrefix-trans f bytes whole isPrefix inWhole, e)

-- Puts that are counted after others are counted with them.
pub counted-counted : (n m : ℕ) (told : Option ℕ) → counted m (counted n told) ≡ counted (n + m) told
counted-counted zero m told = ap (λ (k : ℕ). counted k told) (sym (zero-add m))
counted-counted (suc n) m told =
    let sum : suc (n + m) ≡ suc n + m = omega arith in
    counted-counted n m (option_map count_up told) ∙ ap (λ (k : ℕ). counted k told) sum

pub ruleset sinks = (appended-appended, appended-nil, counted-counted, AppendsPrefix-all, AppendsPrefix-none, AppendsPrefix-more, AppendsPrefix-after)
