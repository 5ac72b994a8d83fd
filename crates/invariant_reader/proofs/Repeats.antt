-- A loop that reads an item as long as the text goes on with one, and adds it to what it has.
use Rattle.std.proofs.Common.{◌≡◌, ℕ, zero, suc, ◌+◌, ◌<◌, ◌≤◌, Bool, true, false, List, [], ◌∷◌, ◌++◌, length, Option}
use Rattle.std.proofs.Common.{Some, None, refl, sym, ap, ◌∙◌, subst, arith, append_assoc, length-append}
use Rattle.std.proofs.lemmas.Bool.{true≢false}
use Rattle.std.proofs.lemmas.List.{append-nil}
use Rattle.invariant_text.specs.Lines.{numbered}
use Rattle.invariant_text.proofs.ListReading.{AllFrom}
use Rattle.invariant_reader.specs.ReadsBack.{ReadsBack}

-- The text of an item by its number, what is asked of the item, what is asked of the text behind it, whether a text
-- goes on with an item, and how one is added.
pub record Repeat (A X : Type 0) : Type 1 where
  pub text_of : ℕ → X → List ℕ
  pub Is : ℕ → X → Type 0
  pub Ends : List ℕ → Type 0
  pub begins : List ℕ → Bool
  pub add : A → X → A

pub record AreReadable {A X : Type 0} (g : Repeat A X) : Type 0 where
  pub begun : (n : ℕ) (x : X) (r : List ℕ) → g.Is n x → g.begins (g.text_of n x ++ r) ≡ true
  pub ends : (n : ℕ) (x : X) (r : List ℕ) → g.Is n x → g.Ends (g.text_of n x ++ r)
  pub none : g.begins [] ≡ false

abbrev pub add_all : {A X : Type 0} → (A → X → A) → A → List X → A
add_all add a [] = a
add_all add a (x ∷ xs) = add_all add (add a x) xs

-- What is left of the items: with them added to what there is so far it is the whole.
pub record IsUnderWay {A X : Type 0} (g : Repeat A X) (whole : A) (behind : List ℕ) (so_far : A) (text : List ℕ)
    : Type 0 where
  pub number : ℕ
  pub left : List X
  pub each : AllFrom g.Is number left
  pub sum : add_all g.add so_far left ≡ whole
  pub text_is : text ≡ numbered g.text_of number left ++ behind

-- What is asked of the text that follows the items.
pub record IsBehind {A X : Type 0} (g : Repeat A X) (behind : List ℕ) : Type 0 where
  pub ends : g.Ends behind
  pub other : g.begins behind ≡ false

-- Whatever items the text that the loop began with is of.
pub record AreUnderWay {A X : Type 0} (g : Repeat A X) (start : A) (first : ℕ) (begun : List ℕ) (so_far : A)
    (text : List ℕ) : Type 0 where
  pub under : (xs : List X) (behind : List ℕ) → AllFrom g.Is first xs → IsBehind g behind
      → begun ≡ numbered g.text_of first xs ++ behind → IsUnderWay g (add_all g.add start xs) behind so_far text

-- Where such an item follows, this is what is read of the text.
pub record ReadsNext {A X : Type 0} (g : Repeat A X) (text : List ℕ) (read : Option (X × List ℕ)) : Type 0 where
  pub reads : (n : ℕ) → ReadsBack (g.text_of n) (g.Is n) g.Ends text read

abbrev pub pair : {H : Type 0} → H → List ℕ → H × List ℕ
pair h text = (h, text)

-- Nothing is not something.
pub none_some : {Y : Type 0} {y : Y} → None ≡ Some y → ⊥
none_some {Y} {y} e = true≢false (ap is_none e)
  where
    is_none : Option Y → Bool
    is_none None = true
    is_none (Some y) = false

pub read_of : {Y : Type 0} {a b : Y} → Some a ≡ Some b → a ≡ b
read_of {Y} {a} {b} e = ap of e
  where
    of : Option Y → Y
    of None = a
    of (Some y) = y

pub starts : {A X : Type 0} (g : Repeat A X) (start : A) (first : ℕ) (text : List ℕ)
    → AreUnderWay g start first text start text
starts g start first text = record {
  under = λ xs behind all is same. record { number = first; left = xs; each = all; sum = refl; text_is = same };
}

rest_ends : {A X : Type 0} (g : Repeat A X) → AreReadable g → (n : ℕ) (xs : List X) (behind : List ℕ)
    → AllFrom g.Is n xs → g.Ends behind → g.Ends (numbered g.text_of n xs ++ behind)
rest_ends g laws n [] behind all ends = ends
rest_ends g laws n (x ∷ xs) behind all ends =
    subst g.Ends (sym (append_assoc (g.text_of n x) (numbered g.text_of (n + 1) xs) behind))
    (laws.ends n x (numbered g.text_of (n + 1) xs ++ behind) all.0)

-- An item's text is not empty.
item_length : {A X : Type 0} (g : Repeat A X) → AreReadable g → (n : ℕ) (x : X) → g.Is n x → 0 < length (g.text_of n x)
item_length g laws n x is =
    let whole = laws.begun n x [] is in
    by (g.text_of n x) whole
  where
    by : (text : List ℕ) → g.begins (text ++ []) ≡ true → 0 < length text
    by [] begun = absurd (true≢false (sym begun ∙ laws.none))
    by (c ∷ text) begun = omega arith

-- One item is read, and the others are left.
record IsStep {A X : Type 0} (g : Repeat A X) (whole : A) (behind : List ℕ) (so_far : A) (text : List ℕ)
    (read : Option (X × List ℕ)) : Type 0 where
  item : X
  rest : List ℕ
  read_is : read ≡ Some (item, rest)
  shorter : length rest < length text
  after : IsUnderWay g whole behind (g.add so_far item) rest

step : {A X : Type 0} (g : Repeat A X) → AreReadable g → (whole : A) (behind : List ℕ) (so_far : A) (text : List ℕ)
    (read : Option (X × List ℕ)) → IsUnderWay g whole behind so_far text → IsBehind g behind
    → g.begins text ≡ true → ReadsNext g text read → IsStep g whole behind so_far text read
step {A} {X} g laws whole behind so_far text read under is begun reads =
    by under.number under.left under.each under.sum under.text_is
  where
    by : (n : ℕ) (left : List X) → AllFrom g.Is n left → add_all g.add so_far left ≡ whole
        → text ≡ numbered g.text_of n left ++ behind → IsStep g whole behind so_far text read
    by n [] each sum text_is = absurd (true≢false (sym begun ∙ ap g.begins text_is ∙ is.other))
    by n (x ∷ xs) each sum text_is =
        let rest = numbered g.text_of (n + 1) xs ++ behind in
        let same : text ≡ g.text_of n x ++ rest =
        text_is ∙ append_assoc (g.text_of n x) (numbered g.text_of (n + 1) xs) behind in
        record {
          item = x;
          rest = rest;
          read_is = reads.reads n x rest each.0 (rest_ends g laws (n + 1) xs behind each.1 is.ends) same;
          shorter = omega (
            arith,
            ap length same,
            length-append (g.text_of n x) rest,
            item_length g laws n x each.0,
          );
          after = record { number = n + 1; left = xs; each = each.1; sum = sum; text_is = refl };
        }

-- The item that was read is the next one.
same_item : {A X : Type 0} (g : Repeat A X) (whole : A) (behind : List ℕ) (so_far : A) (text : List ℕ) (x : X)
    (r : List ℕ) → IsStep g whole behind so_far text (Some (x, r)) → IsUnderWay g whole behind (g.add so_far x) r
same_item {A} {X} g whole behind so_far text x r one =
    subst (λ (p : X × List ℕ). IsUnderWay g whole behind (g.add so_far p.0) p.1) (sym (read_of one.read_is)) one.after

pub goes_on : {A X : Type 0} {g : Repeat A X} {start : A} {first : ℕ} {begun : List ℕ} {so_far : A} {text : List ℕ}
    {read : Option (X × List ℕ)} → AreReadable g → AreUnderWay g start first begun so_far text → true ≡ g.begins text
    → ReadsNext g text read → (x : X) (r : List ℕ) → Some (pair x r) ≡ read → AreUnderWay g start first begun (g.add so_far x) r
goes_on {A} {X} {g} {start} {first} {begun} {so_far} {text} {read} laws ways is_one reads x r is_read = record {
  under = λ xs behind all is same.
      same_item g (add_all g.add start xs) behind so_far text x r
      (subst (IsStep g (add_all g.add start xs) behind so_far text) (sym is_read)
      (step g laws (add_all g.add start xs) behind so_far text read (ways.under xs behind all is same) is (sym is_one) reads));
}

-- Where the loop ends, all is there.
pub record IsWhole {A : Type 0} (whole so_far : A) (behind text : List ℕ) : Type 0 where
  pub all : so_far ≡ whole
  pub rest : text ≡ behind

ends_whole : {A X : Type 0} (g : Repeat A X) → AreReadable g → (start : A) (first : ℕ) (begun : List ℕ) (so_far : A)
    (text : List ℕ) → g.begins text ≡ false → AreUnderWay g start first begun so_far text
    → (xs : List X) (behind : List ℕ) → AllFrom g.Is first xs → IsBehind g behind
    → begun ≡ numbered g.text_of first xs ++ behind → IsWhole (add_all g.add start xs) so_far behind text
ends_whole {A} {X} g laws start first begun so_far text is_none ways xs behind all is same =
    let way = ways.under xs behind all is same in
    by way.number way.left way.each way.sum way.text_is
  where
    by : (n : ℕ) (left : List X) → AllFrom g.Is n left → add_all g.add so_far left ≡ add_all g.add start xs
        → text ≡ numbered g.text_of n left ++ behind → IsWhole (add_all g.add start xs) so_far behind text
    by n [] each sum text_is = record { all = sum; rest = text_is }
    by n (x ∷ left) each sum text_is =
        let rest = numbered g.text_of (n + 1) left ++ behind in
        absurd (true≢false (sym (laws.begun n x rest each.0)
        ∙ ap g.begins (sym (text_is ∙ append_assoc (g.text_of n x) (numbered g.text_of (n + 1) left) behind)) ∙ is_none))

-- ---- items in one list

abbrev pub with_one : {X : Type 0} → List X → X → List X
with_one xs x = xs ++ x ∷ []

pub all_added : {X : Type 0} (start xs : List X) → add_all with_one start xs ≡ start ++ xs
all_added start [] = sym (append-nil start)
all_added start (x ∷ xs) = all_added (start ++ x ∷ []) xs ∙ append_assoc start (x ∷ []) xs

-- ---- a loop behind what is read first

-- The whole is what is read first, and then the items.
pub record IsHeaded {A X H : Type 0} (g : Repeat A X) (start : H → A) (first : ℕ) (head : Option (H × List ℕ)) (whole : A)
    (behind : List ℕ) : Type 0 where
  pub item : H
  pub items : List X
  pub head_is : head ≡ Some (item, numbered g.text_of first items ++ behind)
  pub each : AllFrom g.Is first items
  pub is_behind : IsBehind g behind
  pub whole_is : add_all g.add (start item) items ≡ whole

-- Whatever whole the text is of.
pub record AreHeaded {A X H : Type 0} (g : Repeat A X) (start : H → A) (first : ℕ) (head : Option (H × List ℕ))
    (text_of : A → List ℕ) (Is : A → Type 0) (Ends : List ℕ → Type 0) (text : List ℕ) : Type 0 where
  pub headed : (whole : A) (behind : List ℕ) → Is whole → Ends behind → text ≡ text_of whole ++ behind
      → IsHeaded g start first head whole behind

-- What was read first, and what the loop began with.
pub record HasBegun {A H : Type 0} (start : H → A) (head : Option (H × List ℕ)) (h : H) (begun : List ℕ) (so_far : A)
    : Type 0 where
  pub head_is : Some (pair h begun) ≡ head
  pub start_is : so_far ≡ start h

pub head_missed : {A X H : Type 0} {g : Repeat A X} {start : H → A} {first : ℕ} {head : Option (H × List ℕ)}
    {text_of : A → List ℕ} {Is : A → Type 0} {Ends : List ℕ → Type 0} {text : List ℕ}
    → AreHeaded g start first head text_of Is Ends text → None ≡ head → ReadsBack text_of Is Ends text None
head_missed heads is whole behind are ends same =
    absurd (none_some (is ∙ IsHeaded.head_is (heads.headed whole behind are ends same)))

-- The items that the text is of begin where the loop began.
record AreThere {A X : Type 0} (g : Repeat A X) (start : A) (first : ℕ) (whole : A) (behind begun : List ℕ) : Type 0 where
  items : List X
  each : AllFrom g.Is first items
  is_behind : IsBehind g behind
  same : begun ≡ numbered g.text_of first items ++ behind
  whole_is : add_all g.add start items ≡ whole

are_there : {A X H : Type 0} (g : Repeat A X) (start : H → A) (first : ℕ) (head : Option (H × List ℕ))
    (whole : A) (behind : List ℕ) (h : H) (begun : List ℕ) (so_far : A) → HasBegun start head h begun so_far
    → IsHeaded g start first head whole behind → AreThere g so_far first whole behind begun
are_there {A} {X} {H} g start first head whole behind h begun so_far has it =
    let read = read_of (has.head_is ∙ it.head_is) in
    let start_is : so_far ≡ start it.item = has.start_is ∙ ap (λ (p : H × List ℕ). start p.0) read in
    record {
      items = it.items;
      each = it.each;
      is_behind = it.is_behind;
      same = ap (λ (p : H × List ℕ). p.1) read;
      whole_is = ap (λ (a : A). add_all g.add a it.items) start_is ∙ it.whole_is;
    }

-- No such text is refused, neither where no item is read nor where nothing is passed over.
pub item_missed : {A X H : Type 0} {g : Repeat A X} {start : H → A} {first : ℕ} {head : Option (H × List ℕ)}
    {text_of : A → List ℕ} {Is : A → Type 0} {Ends : List ℕ → Type 0} {text : List ℕ} {h : H} {begun : List ℕ} {a : A}
    {so_far : A} {rest : List ℕ} {read : Option (X × List ℕ)}
    → AreReadable g → AreHeaded g start first head text_of Is Ends text → HasBegun start head h begun a
    → AreUnderWay g a first begun so_far rest → true ≡ g.begins rest → ReadsNext g rest read → None ≡ read
    → ReadsBack text_of Is Ends text None
item_missed {A} {X} {H} {g} {start} {first} {head} {text_of} {Is} {Ends} {text} {h} {begun} {a} {so_far} {rest} {read} laws heads
    has ways is_one reads is_none whole behind are ends same =
    let it = are_there g start first head whole behind h begun a has (heads.headed whole behind are ends same) in
    absurd (none_some (is_none ∙ IsStep.read_is (step g laws (add_all g.add a it.items) behind so_far rest read
    (ways.under it.items behind it.each it.is_behind it.same) it.is_behind (sym is_one) reads)))

pub item_stuck : {A X H : Type 0} {g : Repeat A X} {start : H → A} {first : ℕ} {head : Option (H × List ℕ)}
    {text_of : A → List ℕ} {Is : A → Type 0} {Ends : List ℕ → Type 0} {text : List ℕ} {h : H} {begun : List ℕ} {a : A}
    {so_far : A} {rest : List ℕ} {read : Option (X × List ℕ)}
    → AreReadable g → AreHeaded g start first head text_of Is Ends text → HasBegun start head h begun a
    → AreUnderWay g a first begun so_far rest → true ≡ g.begins rest → ReadsNext g rest read
    → (x : X) (left : List ℕ) → Some (pair x left) ≡ read → length rest ≤ length left
    → ReadsBack text_of Is Ends text None
item_stuck {A} {X} {H} {g} {start} {first} {head} {text_of} {Is} {Ends} {text} {h} {begun} {a} {so_far} {rest} {read} laws heads
    has ways is_one reads x left is_read long whole behind are ends same =
    let it = are_there g start first head whole behind h begun a has (heads.headed whole behind are ends same) in
    let one = step g laws (add_all g.add a it.items) behind so_far rest read
    (ways.under it.items behind it.each it.is_behind it.same) it.is_behind (sym is_one) reads in
    let rests : left ≡ IsStep.rest one = ap (λ (p : X × List ℕ). p.1) (read_of (is_read ∙ IsStep.read_is one)) in
    absurd (omega (arith, long, IsStep.shorter one, ap length rests))

pub whole_read : {A X H : Type 0} {g : Repeat A X} {start : H → A} {first : ℕ} {head : Option (H × List ℕ)}
    {text_of : A → List ℕ} {Is : A → Type 0} {Ends : List ℕ → Type 0} {text : List ℕ} {h : H} {begun : List ℕ} {a : A}
    {so_far : A} {rest : List ℕ}
    → AreReadable g → AreHeaded g start first head text_of Is Ends text → HasBegun start head h begun a
    → AreUnderWay g a first begun so_far rest → false ≡ g.begins rest
    → ReadsBack text_of Is Ends text (Some (pair so_far rest))
whole_read {A} {X} {H} {g} {start} {first} {head} {text_of} {Is} {Ends} {text} {h} {begun} {a} {so_far} {rest} laws heads has ways
    is_none whole behind are ends same =
    let it = are_there g start first head whole behind h begun a has (heads.headed whole behind are ends same) in
    let all = ends_whole g laws a first begun so_far rest (sym is_none) ways it.items behind it.each it.is_behind it.same in
    let made : so_far ≡ whole = all.all ∙ it.whole_is in
    (λ i. Some (pair (made i) (all.rest i)))
