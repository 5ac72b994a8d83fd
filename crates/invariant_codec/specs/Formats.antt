-- Formats of values: how one is read from an offset of a file on, how it is spelled, and which values are spelled.
--
-- A format is put together from those of its parts, so that reading and spelling are told by the same lines.
use Rattle.std.specs.Prelude.{◌≡◌, ℕ, ◌-◌, Bool, true, false, List, [], ◌∷◌, ◌++◌, length, slice_get, nat_le, Option}
use Rattle.std.specs.List.{flat_map}
use Rattle.std.specs.Option.{option_map_or}
use Rattle.cc_base.specs.Tests.{must}
use Rattle.invariant_codec.specs.Parses.{Parse, many}
use Rattle.invariant_codec.specs.declared.fault.InvFault.TheVariants.{Form}

pub record Format (X : Type 0) : Type 1 where
  pub read : List ℕ → ℕ → Parse X
  pub spell : X → List ℕ
  pub IsSpelled : X → Type 0

-- A value that has to pass a test. It is tested once it is read, and its fault stands at its first byte.
abbrev pub tested : {X : Type 0} → (X → Bool) → Format X → Format X
tested test format = record {
  read = λ bytes at.
      let it = format.read bytes at in
      record { tests = it.tests ++ (must (test it.value) (Form at) ∷ []); value = it.value; next = it.next };
  spell = format.spell;
  IsSpelled = λ x. format.IsSpelled x × (test x ≡ true);
}

-- A value whose first part is spelled so, and then the rest, whose format the first part tells.
abbrev pub part : {X Y : Type 0} → (Y → X) → Format X → (X → Format Y) → Format Y
part part_of first rest = record {
  read = λ bytes at.
      let one = first.read bytes at in
      let others = (rest one.value).read bytes one.next in
      record { tests = one.tests ++ others.tests; value = others.value; next = others.next };
  spell = λ y. first.spell (part_of y) ++ (rest (part_of y)).spell y;
  IsSpelled = λ y. first.IsSpelled (part_of y) × (rest (part_of y)).IsSpelled y;
}

-- A value that is made of its last part.
abbrev pub last_part : {X Y : Type 0} → (Y → X) → (X → Y) → Format X → Format Y
last_part part_of make last = record {
  read = λ bytes at.
      let one = last.read bytes at in
      record { tests = one.tests; value = make one.value; next = one.next };
  spell = λ y. last.spell (part_of y);
  IsSpelled = λ y. last.IsSpelled (part_of y) × (y ≡ make (part_of y));
}

-- This value, which takes no bytes.
abbrev pub only : {Y : Type 0} → Y → Format Y
only y = record {
  read = λ bytes at. record { tests = []; value = y; next = at };
  spell = λ x. [];
  IsSpelled = λ x. x ≡ y;
}

-- The one format where something is so, and else the other.
abbrev pub choice : {X : Type 0} → Bool → Format X → Format X → Format X
choice true one other = one
choice false one other = other

-- ---- lists

-- Each item is good after those before it.
abbrev pub AllGood : {X : Type 0} → (List X → X → Type 0) → List X → List X → Type 0
AllGood Good before [] = Unit {0}
AllGood Good before (x ∷ xs) = Good before x × AllGood Good (before ++ x ∷ []) xs

-- So many items, each spelled so, where those before it tell what it has to be.
abbrev pub listed : {X : Type 0} → (List X → Format X) → (X → List ℕ) → ℕ → Format (List X)
listed item spell count = record {
  read = λ bytes at. many (λ before. (item before).read bytes) [] count at;
  spell = flat_map spell;
  IsSpelled = λ xs. (length xs ≡ count) × AllGood (λ before. (item before).IsSpelled) [] xs;
}

-- So many items.
abbrev pub each : {X : Type 0} → Format X → ℕ → Format (List X)
each item count = listed (λ before. item) item.spell count

-- The last item of a list.
abbrev pub last_of : {X : Type 0} → List X → Option X
last_of xs = slice_get xs (length xs - 1)

-- The item comes after this one, if there is one.
abbrev pub comes_after : {X : Type 0} → (X → X → Bool) → Option X → X → Bool
comes_after precedes last x = option_map_or (λ it. precedes it x) last true

-- It comes after the last of those before it.
abbrev pub comes_next : {X : Type 0} → (X → X → Bool) → List X → X → Bool
comes_next precedes before x = comes_after precedes (last_of before) x

-- So many items in order, where an earlier one precedes a later one.
abbrev pub in_order : {X : Type 0} → (X → X → Bool) → Format X → ℕ → Format (List X)
in_order precedes item count = listed (λ before. tested (comes_next precedes before) item) item.spell count

-- ---- whole files

-- A value behind which the file ends.
abbrev pub to_end : {X : Type 0} → Format X → List ℕ → Parse X
to_end format bytes =
    let it = format.read bytes 0 in
    record {
      tests = it.tests ++ (must (nat_le (length bytes) it.next) (Form it.next) ∷ []);
      value = it.value;
      next = it.next;
    }
