-- A word is an argument exactly where it is an argument's text.
use Rattle.std.proofs.Common.{◌≡◌, ◌≢◌, ◌⊎◌, inl, inr, ℕ, ◌-◌, ◌^◌, ◌<◌, Bool, true, false, ◌&&◌, List, [], ◌∷◌, ◌++◌, length, get_or, take, map, refl, sym, ap, ap₂, subst, ◌∙◌, arith, ℤ, pos, negsuc, Option, Some, None, Result, Ok, Err, IfOk, is_some, option_map, option_and_then, filter_map, codes, FitsSigned, w32, ◌==◌, if◌then◌else◌}
use Rattle.std.proofs.Math.Logic.{⊎_elim}
use Rattle.std.proofs.lemmas.Bool.{eqb-true}
use Rattle.std.proofs.lemmas.Fmt.{decimal_nonempty}
use Rattle.std.proofs.lemmas.Slice.Eq.{bytes_eq-Decides}
use Rattle.std.specs.Fmt.{decimal, signed_decimal}
use Rattle.std.specs.List.{AllByRecursion, list_all, join_with_byte}
use Rattle.std.specs.Option.{option_or}
use Rattle.std.specs.Str.{bytes_eq}
use Rattle.cil_model.specs.declared.place.Place.{Place}
use Rattle.cil_model.specs.declared.place.Place.TheVariants as places
use Rattle.cil_model.specs.declared.arg.Arg.{Arg}
use Rattle.cil_model.specs.declared.arg.Arg.TheVariants as args
use Rattle.run_arguments.specs.Numbers.{int_of_word, number_of_word}
use Rattle.run_arguments.specs.Arguments.{bool_of_word, is_int, is_bool, earlier_of_word, between_brackets, items_of, empty_of, list_of_items, list_of, null_of_word, argument_of, is_argument}
use Rattle.run_arguments.specs.Texts.{bool_text, list_text, text_of, IsInRange, IsReadFor}
use Rattle.run_arguments.proofs.NumberLemmas.{begins_otherwise, int_none, int_some, int_text, number_some, number_text}
use Rattle.run_arguments.proofs.WordLemmas.{brackets_at, last_apart}
use Rattle.run_arguments.proofs.ListLemmas.{joined_split, shown_again, read_again, each_read, split_joined, joined_some, ints_plain, bools_plain}

-- ---- the first of several forms

either : {T : Type 0} (o p : Option T) (x : T) → option_or o p ≡ Some x → (o ≡ Some x) ⊎ (p ≡ Some x)
either None p x e = inr e
either (Some y) p x e = inl e

record Made {T U : Type 0} (make : T → U) (o : Option T) (y : U) : Type 0 where
  pub from : T
  pub is : o ≡ Some from
  pub made : y ≡ make from

made_by : {T U : Type 0} (make : T → U) (o : Option T) (y : U) → option_map make o ≡ Some y → Made make o y
made_by make None y e = absurd (cc)
made_by make (Some x) y e = record { from = x; is = refl; made = cc }

record Chained {T U : Type 0} (next : T → Option U) (o : Option T) (y : U) : Type 0 where
  pub from : T
  pub is : o ≡ Some from
  pub gives : next from ≡ Some y

chained : {T U : Type 0} (next : T → Option U) (o : Option T) (y : U) → option_and_then next o ≡ Some y → Chained next o y
chained next None y e = absurd (cc)
chained next (Some x) y e = record { from = x; is = refl; gives = e }

-- ---- from a word to its argument: the word is the argument's text

-- The word is the text of the argument, whose numbers are in range.
record IsTextOf (word : List ℕ) (arg : Arg) : Type 0 where
  pub in_range : IsInRange arg
  pub text : word ≡ text_of arg

told : (word : List ℕ) (made arg : Arg) → arg ≡ made → IsInRange made → word ≡ text_of made → IsTextOf word arg
told word made arg e r t = subst (IsTextOf word) (sym e) (record { in_range = r; text = t })

bool_word-at : (word : List ℕ) (s t b : Bool) → bytes_eq word (codes "true") ≡ s → bytes_eq word (codes "false") ≡ t
    → (if s then Some true else if t then Some false else None) ≡ Some b → word ≡ bool_text b
bool_word-at word true t true p q e = (bytes_eq-Decides word (codes "true")).0 p
bool_word-at word true t false p q e = absurd (cc)
bool_word-at word false true true p q e = absurd (cc)
bool_word-at word false true false p q e = (bytes_eq-Decides word (codes "false")).0 q
bool_word-at word false false b p q e = absurd (cc)

bool_word : (word : List ℕ) (b : Bool) → bool_of_word word ≡ Some b → word ≡ bool_text b
bool_word word b e = bool_word-at word _ _ b refl refl e

earlier_word-at : (c : ℕ) (cs : List ℕ) (k : ℕ) (t : Bool) → (c == 64) ≡ t → (if t then number_of_word 4294967295 cs else None) ≡ Some k → (k < 2 ^ 32) × (c ∷ cs ≡ 64 ∷ decimal k)
earlier_word-at c cs k true p e =
    let known = number_text 4294967295 cs k e in
    (omega (arith, known.0), ap₂ (λ (x : ℕ) (xs : List ℕ). x ∷ xs) (eqb-true c 64 p) known.1)
earlier_word-at c cs k false p e = absurd (cc)

earlier_word : (word : List ℕ) (k : ℕ) → earlier_of_word word ≡ Some k → (k < 2 ^ 32) × (word ≡ 64 ∷ decimal k)
earlier_word [] k e = absurd (cc)
earlier_word (c ∷ cs) k e = earlier_word-at c cs k _ refl e

null_word-at : (word : List ℕ) (t : Bool) (arg : Arg) → bytes_eq word (codes "null") ≡ t → (if t then Some args.Null else None) ≡ Some arg → IsTextOf word arg
null_word-at word true arg p e = told word args.Null arg (cc) tt ((bytes_eq-Decides word (codes "null")).0 p)
null_word-at word false arg p e = absurd (cc)

-- What stands between brackets, where a word has them.
brackets_word-at : (c : ℕ) (cs inner : List ℕ) (s t : Bool) → (c == 91) ≡ s → (get_or cs (length cs - 1) 0 == 93) ≡ t
    → (if s && t then Some (take (length cs - 1) cs) else None) ≡ Some inner → c ∷ cs ≡ 91 ∷ (inner ++ 93 ∷ [])
brackets_word-at c cs inner true true p q e =
    let same : take (length cs - 1) cs ≡ inner = cc in
    ap₂ (λ (x : ℕ) (xs : List ℕ). x ∷ xs) (eqb-true c 91 p)
    (last_apart cs 93 (omega arith) (eqb-true _ 93 q) ∙ ap (λ (xs : List ℕ). xs ++ 93 ∷ []) same)
brackets_word-at c cs inner true false p q e = absurd (cc)
brackets_word-at c cs inner false t p q e = absurd (cc)

brackets_word : (word inner : List ℕ) → between_brackets word ≡ Some inner → word ≡ 91 ∷ (inner ++ 93 ∷ [])
brackets_word [] inner e = absurd (cc)
brackets_word (c ∷ cs) inner e = brackets_word-at c cs inner _ _ refl refl e

-- The list of items, by the tests that are asked of all of them.
abbrev list_by : Bool → Bool → List (List ℕ) → Option Arg
list_by ints bools items =
    if ints then Some (args.Ints (filter_map int_of_word items)) else if bools then Some (args.Bools (filter_map bool_of_word items)) else None

-- The text of a list is what stands between its brackets, in brackets.
list_word-at : (text : List ℕ) (s t : Bool) (arg : Arg) → list_all is_int (items_of text) ≡ s → list_all is_bool (items_of text) ≡ t
    → list_by s t (items_of text) ≡ Some arg
    → IsTextOf (91 ∷ (text ++ 93 ∷ [])) arg
list_word-at text true t arg p q e =
    let back = shown_again int_of_word signed_decimal (λ w n h. (int_text w n h).1) (items_of text) p in
    told _ (args.Ints (filter_map int_of_word (items_of text))) arg (cc)
    (each_read int_of_word signed_decimal (FitsSigned w32) (λ w n h. (int_text w n h).0) (items_of text))
    (ap (λ (xs : List ℕ). 91 ∷ (xs ++ 93 ∷ [])) (sym (joined_split text)) ∙ ap list_text (sym back))
list_word-at text false true arg p q e =
    let back = shown_again bool_of_word bool_text bool_word (items_of text) q in
    told _ (args.Bools (filter_map bool_of_word (items_of text))) arg (cc) tt
    (ap (λ (xs : List ℕ). 91 ∷ (xs ++ 93 ∷ [])) (sym (joined_split text)) ∙ ap list_text (sym back))
list_word-at text false false arg p q e = absurd (cc)

empty_word-at : (t : Bool) → IsTextOf (codes "[]") (if t then args.Bools [] else args.Ints [])
empty_word-at true = record { in_range = tt; text = refl }
empty_word-at false = record { in_range = tt; text = refl }

list_word : (place : Place) (text : List ℕ) (arg : Arg) → list_of place text ≡ Some arg → IsTextOf (91 ∷ (text ++ 93 ∷ [])) arg
list_word place [] arg e =
    let same : empty_of place ≡ arg = cc in
    subst (IsTextOf (codes "[]")) same (empty_word-at _)
list_word place (c ∷ cs) arg e = list_word-at (c ∷ cs) _ _ arg refl refl e

-- A word that is an argument is that argument's text.
word_is_text : (place : Place) (word : List ℕ) (arg : Arg) → argument_of place word ≡ Some arg → IsTextOf word arg
unfolding argument_of
word_is_text place word arg e =
    ⊎_elim (λ h. let k = made_by args.Int (int_of_word word) arg h in let known = int_text word k.from k.is in told word _ arg k.made known.0 known.1)
    (λ not_int. ⊎_elim (λ h. let k = made_by args.Bool (bool_of_word word) arg h in told word _ arg k.made tt (bool_word word k.from k.is))
    (λ not_bool. ⊎_elim
    (λ h. let k = made_by args.Same (earlier_of_word word) arg h in let known = earlier_word word k.from k.is in told word _ arg k.made known.0 known.1)
    (λ not_earlier. ⊎_elim (λ h. null_word-at word _ arg refl h)
    (λ h.
    let k = chained (list_of place) (between_brackets word) arg h in
    subst (λ (w : List ℕ). IsTextOf w arg) (sym (brackets_word word k.from k.is)) (list_word place k.from arg k.gives))
    (either _ _ arg not_earlier))
    (either _ _ arg not_bool))
    (either _ _ arg not_int))
    (either (option_map args.Int (int_of_word word)) _ arg e)

-- ---- from an argument's text to the argument

-- A text whose first byte is above the digits is no int32.
int_otherwise : (word : List ℕ) → 57 < get_or word 0 0 → int_of_word word ≡ None
int_otherwise word high = int_none word other
  where
    other : (n : ℤ) → FitsSigned w32 n → word ≡ signed_decimal n → ⊥
    other (pos m) fits e = begins_otherwise m (get_or word 0 0) (omega (arith, fits.sfits)) (λ h. omega arith) (ap (λ (xs : List ℕ). get_or xs 0 0) (sym e))
    other (negsuc m) fits e = let first : get_or word 0 0 ≡ 45 = ap (λ (xs : List ℕ). get_or xs 0 0) e in omega arith

bool_read : (b : Bool) → bool_of_word (bool_text b) ≡ Some b
bool_read true = refl
bool_read false = refl

bool_is_no_int : (b : Bool) → int_of_word (bool_text b) ≡ None
bool_is_no_int true = int_otherwise (codes "true") (omega arith)
bool_is_no_int false = int_otherwise (codes "false") (omega arith)

-- What a word is that is no int32.
abbrev behind_int : Place → List ℕ → Option Arg
behind_int place word =
    option_or (option_map args.Bool (bool_of_word word))
    (option_or (option_map args.Same (earlier_of_word word))
    (option_or (null_of_word word)
    (option_and_then (list_of place) (between_brackets word))))

no_int : (place : Place) (word : List ℕ) → int_of_word word ≡ None → argument_of place word ≡ behind_int place word
unfolding argument_of
no_int place word e = ap (λ (o : Option ℤ). option_or (option_map args.Int o) (behind_int place word)) e

bracketed : (place : Place) (inner : List ℕ) → argument_of place (91 ∷ (inner ++ 93 ∷ [])) ≡ list_of place inner
bracketed place inner =
    no_int place (91 ∷ (inner ++ 93 ∷ [])) (int_otherwise (91 ∷ (inner ++ 93 ∷ [])) (omega arith))
    ∙ ap (λ (o : Option (List ℕ)). option_and_then (list_of place) o) (brackets_at _ _ inner refl refl)

list_of_some : (place : Place) (text : List ℕ) → 0 < length text → list_of place text ≡ list_of_items (items_of text)
list_of_some place [] h = absurd (omega arith)
list_of_some place (c ∷ cs) h = refl

int_text_some : (n : ℤ) → FitsSigned w32 n → 0 < length (signed_decimal n)
int_text_some (pos m) fits = decimal_nonempty m (omega (arith, fits.sfits))
int_text_some (negsuc m) fits = omega arith

bool_text_some : (b : Bool) → 0 < length (bool_text b)
bool_text_some true = omega arith
bool_text_some false = omega arith

ints_read : (place : Place) (n : ℤ) (ns : List ℤ) → AllByRecursion (FitsSigned w32) (n ∷ ns)
    → list_of place (join_with_byte 44 (map signed_decimal (n ∷ ns))) ≡ Some (args.Ints (n ∷ ns))
ints_read place n ns fits =
    let texts : List (List ℕ) = map signed_decimal (n ∷ ns) in
    let again = read_again int_of_word signed_decimal (FitsSigned w32) (λ x p. int_some _ x p refl) (n ∷ ns) fits in
    list_of_some place _ (joined_some (signed_decimal n) (map signed_decimal ns) (int_text_some n fits.0))
    ∙ ap list_of_items (split_joined (signed_decimal n) (map signed_decimal ns) (ints_plain (n ∷ ns) fits))
    ∙ ap (λ (t : Bool). list_by t (list_all is_bool texts) texts) again.0
    ∙ ap (λ (xs : List ℤ). Some (args.Ints xs)) again.1

any_bools : (bs : List Bool) → AllByRecursion (λ (b : Bool). Unit {0}) bs
any_bools [] = tt
any_bools (b ∷ bs) = (tt, any_bools bs)

bools_read : (place : Place) (b : Bool) (bs : List Bool)
    → list_of place (join_with_byte 44 (map bool_text (b ∷ bs))) ≡ Some (args.Bools (b ∷ bs))
bools_read place b bs =
    let texts : List (List ℕ) = map bool_text (b ∷ bs) in
    let again = read_again bool_of_word bool_text (λ (x : Bool). Unit {0}) (λ x p. bool_read x) (b ∷ bs) (any_bools (b ∷ bs)) in
    list_of_some place _ (joined_some (bool_text b) (map bool_text bs) (bool_text_some b))
    ∙ ap list_of_items (split_joined (bool_text b) (map bool_text bs) (bools_plain (b ∷ bs)))
    ∙ ap (λ (o : Option ℤ). list_by (is_some o && list_all is_int (map bool_text bs)) (list_all is_bool texts) texts) (bool_is_no_int b)
    ∙ ap (λ (t : Bool). list_by false t texts) again.0
    ∙ ap (λ (xs : List Bool). Some (args.Bools xs)) again.1

-- It is no list without items.
abbrev HasItems : Arg → Type 0
HasItems (args.Ints []) = ⊥
HasItems (args.Bools []) = ⊥
HasItems _ = Unit {0}

-- Such an argument is what its text is as a word.
plain_is_word : (place : Place) (arg : Arg) → IsInRange arg → HasItems arg → argument_of place (text_of arg) ≡ Some arg
unfolding argument_of
plain_is_word place (args.Int n) r some =
    ap (λ (o : Option ℤ). option_or (option_map args.Int o) (behind_int place (signed_decimal n))) (int_some _ n r refl)
plain_is_word place (args.Bool true) r some = no_int place (codes "true") (bool_is_no_int true)
plain_is_word place (args.Bool false) r some = no_int place (codes "false") (bool_is_no_int false)
plain_is_word place args.Null r some = no_int place (codes "null") (int_otherwise (codes "null") (omega arith))
plain_is_word place (args.Same k) r some =
    no_int place (64 ∷ decimal k) (int_otherwise (64 ∷ decimal k) (omega arith))
    ∙ ap (λ (o : Option ℕ). option_or (option_map args.Same o) (option_and_then (list_of place) (between_brackets (64 ∷ decimal k))))
    (number_some 4294967295 (decimal k) k (omega arith) (omega arith) refl)
plain_is_word place (args.Ints []) r some = absurd some
plain_is_word place (args.Ints (n ∷ ns)) r some = bracketed place (join_with_byte 44 (map signed_decimal (n ∷ ns))) ∙ ints_read place n ns r
plain_is_word place (args.Bools []) r some = absurd some
plain_is_word place (args.Bools (b ∷ bs)) r some = bracketed place (join_with_byte 44 (map bool_text (b ∷ bs))) ∙ bools_read place b bs

-- The text of an argument is a word that is this argument, but that `[]` is the list without items of the type that is
-- asked.
pub text_is_word : (place : Place) (arg : Arg) → IsInRange arg
    → (argument_of place (text_of arg) ≡ Some arg) ⊎ ((text_of arg ≡ codes "[]") × (argument_of place (text_of arg) ≡ Some (empty_of place)))
text_is_word place (args.Ints []) r = inr (refl, bracketed place [])
text_is_word place (args.Bools []) r = inr (refl, bracketed place [])
text_is_word place (args.Int n) r = inl (plain_is_word place (args.Int n) r tt)
text_is_word place (args.Bool b) r = inl (plain_is_word place (args.Bool b) r tt)
text_is_word place args.Null r = inl (plain_is_word place args.Null r tt)
text_is_word place (args.Same k) r = inl (plain_is_word place (args.Same k) r tt)
text_is_word place (args.Ints (n ∷ ns)) r = inl (plain_is_word place (args.Ints (n ∷ ns)) r tt)
text_is_word place (args.Bools (b ∷ bs)) r = inl (plain_is_word place (args.Bools (b ∷ bs)) r tt)

empty_ints : (place : Place) → place ≢ places.Bools → empty_of place ≡ args.Ints []
empty_ints places.Void other = refl
empty_ints places.Int other = refl
empty_ints places.Bool other = refl
empty_ints places.Ints other = refl
empty_ints places.Bools other = absurd (other refl)

-- The text of an argument is a word that is this argument, where it is read for its type.
pub text_is_read : (place : Place) (arg : Arg) → IsInRange arg → IsReadFor place arg → argument_of place (text_of arg) ≡ Some arg
text_is_read place (args.Ints []) r for = bracketed place [] ∙ ap (λ (arg : Arg). Some arg) (empty_ints place for)
text_is_read place (args.Bools []) r for = bracketed place [] ∙ ap (λ (p : Place). Some (empty_of p)) for
text_is_read place (args.Int n) r for = plain_is_word place (args.Int n) r tt
text_is_read place (args.Bool b) r for = plain_is_word place (args.Bool b) r tt
text_is_read place args.Null r for = plain_is_word place args.Null r tt
text_is_read place (args.Same k) r for = plain_is_word place (args.Same k) r tt
text_is_read place (args.Ints (n ∷ ns)) r for = plain_is_word place (args.Ints (n ∷ ns)) r tt
text_is_read place (args.Bools (b ∷ bs)) r for = plain_is_word place (args.Bools (b ∷ bs)) r tt

-- A word in brackets is the list between them.
pub list_given : {E : Type 0} (place : Place) (word inner : List ℕ) (given : Result Arg E) → Some inner ≡ between_brackets word
    → IfOk given (λ arg. list_of place inner ≡ Some arg) → IfOk given (λ arg. argument_of place word ≡ Some arg)
list_given place word inner (Ok arg) e is = ap (argument_of place) (brackets_word word inner (sym e)) ∙ bracketed place inner ∙ is
list_given place word inner (Err x) e is = is

-- ---- what is promised of a word that was read

pub text_accepted : (word : List ℕ) (arg : Arg) → IsInRange arg → word ≡ text_of arg → is_argument word ≡ true
unfolding is_argument
text_accepted word arg r e =
    ap is_argument e ∙ ⊎_elim (λ h. ap is_some h) (λ h. ap is_some h.1) (text_is_word places.Ints arg r)

pub accepted_text : (word : List ℕ) → is_argument word ≡ true → (arg : Arg) × IsInRange arg × (word ≡ text_of arg)
unfolding is_argument
accepted_text word e = by (argument_of places.Ints word) refl e
  where
    by : (o : Option Arg) → argument_of places.Ints word ≡ o → is_some o ≡ true → (arg : Arg) × IsInRange arg × (word ≡ text_of arg)
    by None is some = absurd (cc)
    by (Some arg) is some = let known = word_is_text places.Ints word arg is in (arg, known.in_range, known.text)

pub text_given : {E : Type 0} (place : Place) (word : List ℕ) (given : Result Arg E) → IfOk given (λ arg. argument_of place word ≡ Some arg)
    → IfOk given (λ arg. word ≡ text_of arg)
text_given place word (Ok arg) e = (word_is_text place word arg e).text
text_given place word (Err x) e = e

pub range_given : {E : Type 0} (place : Place) (word : List ℕ) (given : Result Arg E) → IfOk given (λ arg. argument_of place word ≡ Some arg)
    → IfOk given IsInRange
range_given place word (Ok arg) e = (word_is_text place word arg e).in_range
range_given place word (Err x) e = e

pub only_given : {E : Type 0} (place : Place) (word : List ℕ) (given : Result Arg E) → IfOk given (λ arg. argument_of place word ≡ Some arg)
    → (arg : Arg) → IsInRange arg → word ≡ text_of arg → IfOk given (λ found. (found ≡ arg) ⊎ (word ≡ codes "[]"))
only_given place word (Ok found) e arg r is =
    ⊎_elim (λ h. inl (let same : Some found ≡ Some arg = sym e ∙ ap (argument_of place) is ∙ h in cc)) (λ h. inr (is ∙ h.0)) (text_is_word place arg r)
only_given place word (Err x) e arg r is = e
