-- Files that are left one after another, and what they make of a file of another name.
use Rattle.std.proofs.Common.{◌≡◌, ◌≢◌, ◌⊎◌, ℕ, List, [], ◌∷◌, ◌++◌, Option, Some, None, Result, Ok, Err, refl, sym, ap, subst, ◌∙◌, append-nil, append_assoc, inl, inr}
use Rattle.std.specs.Prelude.{IfSome, OnErr}
use Rattle.std.specs.List.{AllByRecursion}
use Rattle.cc_base.specs.Files.{Held, ToldReplaced}
use Rattle.check_driver.specs.FilesLeft.{AreLeft, PrefixIsLeft, LeftFile, named_file}
use Rattle.check_driver.specs.HonestCaches.{HonestWhereHonest, KeepsHonest}
use Rattle.result_cache.specs.Entries.{Entry}
use Rattle.unit_verdicts.specs.CacheFile.{AreHonest, IsHonestFile}

-- ---- one after another

-- None was left yet.
pub none_left : (left : List LeftFile) (old new : Option Held) → new ≡ old → PrefixIsLeft left old new
none_left left old new same = ([], (left, refl), same)

pub all_left : (left : List LeftFile) (old new : Option Held) → AreLeft left old new → PrefixIsLeft left old new
all_left left old new is = (left, ([], sym (append-nil left)), is)

pub left_then : (a b : List LeftFile) (old mid new : Option Held) → AreLeft a old mid → AreLeft b mid new → AreLeft (a ++ b) old new
left_then [] b old mid new first later = subst (λ (m : Option Held). AreLeft b m new) first later
left_then (one ∷ a) b old mid new (next, put, others) later = (next, put, left_then a b next mid new others later)

pub prefix_first : (a b : List LeftFile) (old new : Option Held) → PrefixIsLeft a old new → PrefixIsLeft (a ++ b) old new
prefix_first a b old new (prefix, (rest, is), left) = (prefix, (rest ++ b, ap (λ (l : List LeftFile). l ++ b) is ∙ append_assoc prefix rest b), left)

pub prefix_then : (a b : List LeftFile) (old mid new : Option Held) → AreLeft a old mid → PrefixIsLeft b mid new → PrefixIsLeft (a ++ b) old new
prefix_then a b old mid new first (prefix, (rest, is), left) =
    (a ++ prefix, (rest, ap (λ (l : List LeftFile). a ++ l) is ∙ sym (append_assoc a prefix rest)), left_then a prefix old mid new first left)

-- So where what left the others was stopped.
pub prefix_where : {X E : Type 0} (r : Result X E) (a b : List LeftFile) (old mid new : Option Held) → AreLeft a old mid → OnErr r (PrefixIsLeft b mid new) → OnErr r (PrefixIsLeft (a ++ b) old new)
prefix_where (Ok x) a b old mid new first prefix = tt
prefix_where (Err e) a b old mid new first prefix = prefix_then a b old mid new first prefix

-- ---- one file

pub one_left : (name bytes : List ℕ) (old new : Option Held) → ToldReplaced old new name bytes → AreLeft (named_file (Some name) bytes) old new
one_left name bytes old new put = (new, put, refl)

pub one_or_none : (name bytes : List ℕ) (old new : Option Held) → (new ≡ old) ⊎ ToldReplaced old new name bytes → PrefixIsLeft (named_file (Some name) bytes) old new
one_or_none name bytes old new (inl same) = none_left (named_file (Some name) bytes) old new same
one_or_none name bytes old new (inr put) = all_left (named_file (Some name) bytes) old new (one_left name bytes old new put)

-- ---- other names

-- None of these files has this name.
abbrev pub AreOthers : List ℕ → List LeftFile → Type 0
AreOthers name left = AllByRecursion (λ file. name ≢ file.name) left

-- The files are still told.
pub still_told : (left : List LeftFile) (held : Held) (new : Option Held) → AreLeft left (Some held) new → (after : Held) × (new ≡ Some after)
still_told [] held new same = (held, same)
still_told (one ∷ left) held new (None, put, later) = absurd put
still_told (one ∷ left) held new (Some mid, put, later) = still_told left mid new later

some_is : {X : Type 0} (x y : X) → Some x ≡ Some y → x ≡ y
some_is x y e = cc

-- Under another name they have what they had.
pub others_kept : (name : List ℕ) (left : List LeftFile) (held after : Held) (new : Option Held) → AreOthers name left → AreLeft left (Some held) new → new ≡ Some after
    → after name ≡ held name
others_kept name [] held after new others same now = ap (λ (h : Held). h name) (some_is after held (sym now ∙ same))
others_kept name (one ∷ left) held after new others (None, put, later) now = absurd put
others_kept name (one ∷ left) held after new others (Some mid, put, later) now =
    others_kept name left mid after new others.1 later now ∙ put.others name others.0

-- So they have where a prefix of these was left.
first_others : (name : List ℕ) (prefix rest : List LeftFile) → AreOthers name (prefix ++ rest) → AreOthers name prefix
first_others name [] rest others = tt
first_others name (one ∷ prefix) rest others = (others.0, first_others name prefix rest others.1)

pub prefix_kept : (name : List ℕ) (left : List LeftFile) (held after : Held) (new : Option Held) → AreOthers name left → PrefixIsLeft left (Some held) new → new ≡ Some after
    → after name ≡ held name
prefix_kept name left held after new others (prefix, (rest, is), its) now =
    others_kept name prefix held after new (first_others name prefix rest (subst (AreOthers name) is others)) its now

-- A file of another name, if it has one.
pub named_other : (name : List ℕ) (own : Option (List ℕ)) (bytes : List ℕ) → own ≢ Some name → AreOthers name (named_file own bytes)
named_other name None bytes other = tt
named_other name (Some own) bytes other = (λ same. other (ap (λ (n : List ℕ). Some n) (sym same)), tt)

-- ---- honest caches

told_left : (left : List LeftFile) (old new : Option Held) (held : Held) → old ≡ Some held → AreLeft left old new → AreLeft left (Some held) new
told_left left old new held told is = subst (λ (t : Option Held). AreLeft left t new) told is

prefix_keeps_honest : (name : List ℕ) (left : List LeftFile) (old new : Option Held) → AreOthers name left → PrefixIsLeft left old new → KeepsHonest name old new
prefix_keeps_honest name left old new others is = λ held after told now.
    inl (prefix_kept name left held after new others (subst (λ (t : Option Held). PrefixIsLeft left t new) told is) now)

then_keeps_honest : (name : List ℕ) (left : List LeftFile) (old mid new : Option Held) → AreOthers name left → AreLeft left old mid → KeepsHonest name mid new
    → KeepsHonest name old new
then_keeps_honest name left old mid new others is keeps = λ held after told now.
    let here = told_left left old mid held told is in
    let (middle, mid_is) = still_told left held mid here in
    elim (keeps middle after mid_is now) [
      | inl same ↦ inl (same ∙ others_kept name left held middle mid others here mid_is)
      | inr honest ↦ inr honest
    ]

-- The proof file was not left, or only that.
pub honest_at_proof : (cache proof : Option (List ℕ)) (bytes : List ℕ) (entries : List Entry) (old new : Option Held) → PrefixIsLeft (named_file proof bytes) old new
    → HonestWhereHonest cache proof entries old new
honest_at_proof None proof bytes entries old new left = tt
honest_at_proof (Some name) proof bytes entries old new left = λ honest differs.
    prefix_keeps_honest name (named_file proof bytes) old new (named_other name proof bytes differs) left

pub honest_at_cache : (cache proof : Option (List ℕ)) (bytes : List ℕ) (entries : List Entry) (old mid new : Option Held) → AreLeft (named_file proof bytes) old mid
    → IfSome cache (λ name. AreHonest entries → KeepsHonest name mid new) → HonestWhereHonest cache proof entries old new
honest_at_cache None proof bytes entries old mid new left keeps = tt
honest_at_cache (Some name) proof bytes entries old mid new left keeps = λ honest differs.
    then_keeps_honest name (named_file proof bytes) old mid new (named_other name proof bytes differs) left (keeps honest)

-- A cache that was replaced by an honest one, or not.
pub keeps_where : (name bytes : List ℕ) (old new : Option Held) → IsHonestFile bytes → (new ≡ old) ⊎ ToldReplaced old new name bytes → KeepsHonest name old new
keeps_where name bytes old new honest (inl same) = λ held after told now.
    inl (ap (λ (h : Held). h name) (some_is after held (sym now ∙ same ∙ told)))
keeps_where name bytes old new honest (inr put) = λ held after told now.
    let here = subst (λ (t : Option Held). ToldReplaced t new name bytes) told put in
    let both = subst (λ (n : Option Held). ToldReplaced (Some held) n name bytes) now here in
    inr (bytes, both.replaced, honest)

pub keeps_same : (name : List ℕ) (old new : Option Held) → new ≡ old → KeepsHonest name old new
keeps_same name old new same = λ held after told now. inl (ap (λ (h : Held). h name) (some_is after held (sym now ∙ same ∙ told)))

pub ruleset left = (none_left, one_left, one_or_none, left_then, prefix_first, prefix_then, honest_at_proof, honest_at_cache, keeps_where, keeps_same)
