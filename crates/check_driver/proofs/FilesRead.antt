-- What is met under the names of files, as these are read one after another.
use Rattle.std.proofs.Common.{◌≡◌, ℕ, suc, ◌+◌, ◌<◌, List, [], ◌∷◌, ◌++◌, length, get_or, take, drop, Vec, Global, Option, Some, None, Err, refl, sym, ap, subst, ◌∙◌, take-append-drop, inl, inr}
use Rattle.std.specs.Option.{ForSome}
use Rattle.std.proofs.Math.Seq.{drop-cons}
use Rattle.std.proofs.lemmas.List.{map-append, take_more, get_or_default}
use Rattle.cc_base.specs.Counts.{Rose, Kept}
use Rattle.cc_base.specs.Files.{Held, IsRead}
use Rattle.cc_base.proofs.CountLemmas.{Kept-Rose}
use Rattle.check_driver.specs.Met.{IsUnder, AreUnder, IsContent, AreContents, first_missing, Reads, ReadsOne}
use Rattle.command_words.specs.Words.{word_at, words_at}
use Rattle.check_driver.specs.declared.reading.Unread.{Unread}
use Rattle.check_driver.specs.declared.reading.Unread.TheVariants as unread

some_is : {X : Type 0} (x y : X) → Some x ≡ Some y → x ≡ y
some_is x y e = cc

-- ---- one file

-- Something is held under a name.
pub any_under : (told : Option Held) (name : List ℕ) → (under : Option (List ℕ)) × IsUnder told name under
any_under None name = (None, λ files e. absurd cc)
any_under (Some held) name = (held name, λ files e. ap (λ (h : Held). h name) (sym (some_is held files e)))

-- What was read is held.
pub read_under : (told : Option Held) (name bytes : List ℕ) → ForSome told (λ h. IsRead (h name) bytes)
    → (under : Option (List ℕ)) × IsUnder told name under × IsContent under bytes
read_under None name bytes h = (Some bytes, λ files e. absurd cc, inl refl)
read_under (Some held) name bytes h = (held name, λ files e. ap (λ (h : Held). h name) (sym (some_is held files e)), inr (h held refl))

-- ---- files in their order

-- Something is held under each name.
pub all_under : (told : Option Held) (names : List (List ℕ)) → (met : List (Option (List ℕ))) × AreUnder told names met
all_under told [] = ([], tt)
all_under told (name ∷ names) =
    let one = any_under told name in
    let others = all_under told names in
    (one.0 ∷ others.0, (one.1, others.1))

-- What is held under some names and under others is held under both.
AreUnder-append : (told : Option Held) (names others : List (List ℕ)) (met rest : List (Option (List ℕ)))
    → AreUnder told names met → AreUnder told others rest → AreUnder told (names ++ others) (met ++ rest)
AreUnder-append told [] others [] rest h r = r
AreUnder-append told (name ∷ names) others (under ∷ met) rest h r = (h.0, AreUnder-append told names others met rest h.1 r)
AreUnder-append told [] others (under ∷ met) rest h r = absurd h
AreUnder-append told (name ∷ names) others [] rest h r = absurd h

AreContents-push : (met : List (Option (List ℕ))) (read : List (Vec ℕ Global)) (under : Option (List ℕ)) (bytes : Vec ℕ Global)
    → AreContents met read → IsContent under bytes.items → AreContents (met ++ under ∷ []) (read ++ bytes ∷ [])
AreContents-push [] [] under bytes h is = (is, tt)
AreContents-push (first ∷ met) (b ∷ read) under bytes h is = (h.0, AreContents-push met read under bytes h.1 is)
AreContents-push [] (b ∷ read) under bytes h is = absurd h
AreContents-push (first ∷ met) [] under bytes h is = absurd h

-- Files that were read are not missing.
pub none_missing : (names : List (List ℕ)) (met : List (Option (List ℕ))) (read : List (Vec ℕ Global)) → AreContents met read → first_missing names met ≡ None
none_missing [] met read h = refl
none_missing (name ∷ names) [] read h = refl
none_missing (name ∷ names) (Some bytes ∷ met) (b ∷ read) h = none_missing names met read h.1
none_missing (name ∷ names) (None ∷ met) (b ∷ read) (inl is, h) = absurd cc
none_missing (name ∷ names) (None ∷ met) (b ∷ read) (inr is, h) = absurd cc
none_missing (name ∷ names) (Some bytes ∷ met) [] h = absurd h
none_missing (name ∷ names) (None ∷ met) [] h = absurd h

-- A name under which nothing is met, after files that were read, is the first that is missing.
missing_behind : (told : Option Held) (names : List (List ℕ)) (name : List ℕ) (others : List (List ℕ)) (met rest : List (Option (List ℕ))) (read : List (Vec ℕ Global))
    → AreUnder told names met → AreContents met read → first_missing (names ++ name ∷ others) (met ++ None ∷ rest) ≡ Some name
missing_behind told [] name others [] rest read h of = refl
missing_behind told (first ∷ names) name others (Some bytes ∷ met) rest (b ∷ read) h of = missing_behind told names name others met rest read h.1 of.1
missing_behind told (first ∷ names) name others (None ∷ met) rest (b ∷ read) h (inl is, of) = absurd cc
missing_behind told (first ∷ names) name others (None ∷ met) rest (b ∷ read) h (inr is, of) = absurd cc
missing_behind told (first ∷ names) name others (under ∷ met) rest [] h of = absurd of
missing_behind told [] name others (under ∷ met) rest read h of = absurd h
missing_behind told (first ∷ names) name others [] rest read h of = absurd h

-- As many were read as there are indexes.
pub contents_long : (told : Option Held) (words : List (List ℕ)) (indexes : List ℕ) (met : List (Option (List ℕ))) (read : List (Vec ℕ Global))
    → AreUnder told (words_at words indexes) met → AreContents met read → length read ≡ length indexes
contents_long told words [] [] [] h of = refl
contents_long told words (index ∷ indexes) (under ∷ met) (bytes ∷ read) h of = ap suc (contents_long told words indexes met read h.1 of.1)
contents_long told words [] [] (bytes ∷ read) h of = absurd of
contents_long told words [] (under ∷ met) read h of = absurd h
contents_long told words (index ∷ indexes) [] read h of = absurd h
contents_long told words (index ∷ indexes) (under ∷ met) [] h of = absurd of

-- ---- the walk over the indexes

-- The files of these indexes were read, and these were met.
abbrev pub ReadSoFar : Option Held → List (List ℕ) → List ℕ → List (Vec ℕ Global) → Type 0
ReadSoFar told words indexes read = (met : List (Option (List ℕ))) × AreUnder told (words_at words indexes) met × AreContents met read

-- What is met, and what the reads tell of it.
abbrev ReadsAll : Option Held → List (List ℕ) → List ℕ → Type 0 → Type 0 → Unread → Type 0
ReadsAll told words indexes missed failed e =
    (met : List (Option (List ℕ))) × AreUnder told (words_at words indexes) met × Reads words indexes met missed failed (Err e)

next_index : (indexes : List ℕ) (k index : ℕ) → k < length indexes → get_or indexes k 0 ≡ index → indexes ≡ take k indexes ++ index ∷ drop (suc k) indexes
next_index indexes k index lt is =
    sym (take-append-drop k indexes)
    ∙ ap (λ (rest : List ℕ). take k indexes ++ rest) (drop-cons indexes k 0 lt ∙ ap (λ (p : ℕ). p ∷ drop (suc k) indexes) is)

words_split : (words : List (List ℕ)) (indexes : List ℕ) (k index : ℕ) → k < length indexes → get_or indexes k 0 ≡ index
    → words_at words indexes ≡ words_at words (take k indexes) ++ (word_at words index ∷ words_at words (drop (suc k) indexes))
words_split words indexes k index lt is =
    ap (words_at words) (next_index indexes k index lt is) ∙ map-append (word_at words) (take k indexes) (index ∷ drop (suc k) indexes)

-- One more file was read.
pub read_more : (told now : Option Held) (words : List (List ℕ)) (indexes : List ℕ) (k index : ℕ) (read : List (Vec ℕ Global)) (under : Option (List ℕ)) (bytes : Vec ℕ Global)
    → now ≡ told → k < length indexes → get_or indexes k 0 ≡ index → ReadSoFar told words (take k indexes) read
    → IsUnder now (word_at words index) under → IsContent under bytes.items → ReadSoFar told words (take (k + 1) indexes) (read ++ bytes ∷ [])
read_more told now words indexes k index read under bytes same lt is so_far held of =
    let more : take (k + 1) indexes ≡ take k indexes ++ index ∷ [] = take_more indexes k 0 lt ∙ ap (λ (p : ℕ). take k indexes ++ p ∷ []) is in
    let names : words_at words (take (k + 1) indexes) ≡ words_at words (take k indexes) ++ word_at words index ∷ [] =
    ap (words_at words) more ∙ map-append (word_at words) (take k indexes) (index ∷ []) in
    let here : IsUnder told (word_at words index) under = subst (λ (t : Option Held). IsUnder t (word_at words index) under) same held in (
      so_far.0 ++ under ∷ [],
      subst (λ (ns : List (List ℕ)). AreUnder told ns (so_far.0 ++ under ∷ [])) (sym names) (AreUnder-append told _ _ so_far.0 (under ∷ []) so_far.1 (here, tt)),
      AreContents-push so_far.0 read under bytes so_far.2 of,
    )

-- The next file is missing.
read_missing : (told : Option Held) (words : List (List ℕ)) (indexes : List ℕ) (k index : ℕ) (read : List (Vec ℕ Global)) (missed failed : Type 0)
    → k < length indexes → get_or indexes k 0 ≡ index → ReadSoFar told words (take k indexes) read → IsUnder told (word_at words index) None → missed
    → ReadsAll told words indexes missed failed (unread.Missing index)
read_missing told words indexes k index read missed failed lt is so_far held m =
    let names = words_split words indexes k index lt is in
    let rest = all_under told (words_at words (drop (suc k) indexes)) in
    let met = so_far.0 ++ None ∷ rest.0 in
    let first = subst (λ (ns : List (List ℕ)). first_missing ns met ≡ Some (word_at words index)) (sym names) (missing_behind told _ _ _ so_far.0 rest.0 read so_far.1 so_far.2) in (
      met,
      subst (λ (ns : List (List ℕ)). AreUnder told ns met) (sym names) (AreUnder-append told _ _ so_far.0 (None ∷ rest.0) so_far.1 (held, rest.1)),
      (m, (k, lt, get_or_default indexes k index 0 lt ∙ is), first),
    )

-- The next file was not read.
pub read_stop : (told now : Option Held) (words : List (List ℕ)) (indexes : List ℕ) (k index : ℕ) (read : List (Vec ℕ Global)) (under : Option (List ℕ)) (m0 m1 m2 f0 f1 f2 : ℕ) (e : Unread)
    → now ≡ told → k < length indexes → get_or indexes k 0 ≡ index → ReadSoFar told words (take k indexes) read → Kept m0 m1 → Kept f0 f1
    → IsUnder now (word_at words index) under → ReadsOne index under (Rose m1 m2) (Rose f1 f2) (Err e)
    → ReadsAll told words indexes (Rose m0 m2) (Rose f0 f2) e
read_stop told now words indexes k index read under m0 m1 m2 f0 f1 f2 (unread.Missing at) same lt is so_far km kf held (m, at_is, none) =
    let here : IsUnder told (word_at words index) None = subst (λ (t : Option Held). IsUnder t (word_at words index) None) same (subst (IsUnder now (word_at words index)) none held) in
    subst (λ (p : ℕ). ReadsAll told words indexes (Rose m0 m2) (Rose f0 f2) (unread.Missing p)) (sym at_is)
    (read_missing told words indexes k index read (Rose m0 m2) (Rose f0 f2) lt is so_far here (Kept-Rose m0 m1 m2 km m))
read_stop told now words indexes k index read under m0 m1 m2 f0 f1 f2 (unread.Failed at) same lt is so_far km kf held (f, at_is) =
    let any = all_under told (words_at words indexes) in
    (any.0, any.1, (Kept-Rose f0 f1 f2 kf f, (k, lt, get_or_default indexes k at 0 lt ∙ is ∙ sym at_is)))
read_stop told now words indexes k index read under m0 m1 m2 f0 f1 f2 unread.NoMemory same lt is so_far km kf held none =
    let any = all_under told (words_at words indexes) in (any.0, any.1, tt)
