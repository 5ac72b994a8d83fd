-- What files in memory hold, by the index of the first file of a name.
use Rattle.std.proofs.Common.{◌≡◌, ◌≢◌, ℕ, zero, suc, ◌<◌, Bool, true, false, cond, ltb, List, [], ◌∷◌, ◌++◌, length, get_or, set, Option, Some, None, option_map, min, take, position, string_bytes, refl, sym, ap, ◌∙◌, inl, inr, arith, lt-ltb, length-set, get_or-set_same, get_or-set_other}
use Rattle.std.proofs.lemmas.Bool.{cases_lt, cases_Bool}
use Rattle.std.proofs.lemmas.List.Quantifiers.{position-Some}
use Rattle.std.proofs.lemmas.List.Sums.{fails_before_first}
use Rattle.std.proofs.lemmas.Slice.Eq.{bytes_eq-Decides}
use Rattle.std.proofs.lemmas.List.{take_min}
use Rattle.std.proofs.Math.Nat.{min_comm}
use Rattle.std.specs.Option.{ForSome}
use Rattle.std.specs.List.{position_or_len}
use Rattle.cc_base.specs.declared.map_files.NamedFile.{NamedFile}
use Rattle.cc_base.specs.Files.{Held, IsRead, READ_LIMIT, Replaces}
use Rattle.cc_base.specs.MapFiles.{is_named, held_in}

-- A file of the name has that name, and a file with it is of the name.
is_named-true : (name : List ℕ) (file : NamedFile) → is_named name file ≡ true → string_bytes file.name ≡ name
is_named-true name file h = (bytes_eq-Decides (string_bytes file.name) name).0 h

pub is_named-from : (name : List ℕ) (file : NamedFile) → string_bytes file.name ≡ name → is_named name file ≡ true
is_named-from name file e = (bytes_eq-Decides (string_bytes file.name) name).1 e

-- It is of no other name.
is_named-other : (name other : List ℕ) (file : NamedFile) → is_named name file ≡ true → other ≢ name → is_named other file ≡ false
is_named-other name other file h ne =
    elim (cases_Bool (is_named other file)) [
      | inl same ↦ absurd (ne (sym (is_named-true other file same) ∙ is_named-true name file h))
      | inr differs ↦ differs
    ]

-- At the first file of the name.
held-here : (name : List ℕ) (file : NamedFile) (files : List NamedFile) → is_named name file ≡ true
    → held_in (file ∷ files) name ≡ Some file.bytes.items
held-here name file files h = ap (λ (b : Bool). cond b (Some file.bytes.items) (held_in files name)) h

-- A file of another name tells nothing.
held-later : (name : List ℕ) (file : NamedFile) (files : List NamedFile) → is_named name file ≡ false
    → held_in (file ∷ files) name ≡ held_in files name
held-later name file files h = ap (λ (b : Bool). cond b (Some file.bytes.items) (held_in files name)) h

-- Where no file is of the name, nothing is held.
held-none : (name : List ℕ) (files : List NamedFile) (d : NamedFile)
    → ((k : ℕ) → k < length files → is_named name (get_or files k d) ≡ false) → held_in files name ≡ None
held-none name [] d h = refl
held-none name (file ∷ files) d h =
    held-later name file files (h 0 (omega arith)) ∙ held-none name files d (λ k lt. h (suc k) (omega arith))

-- What is held under a name is what its first file holds.
held-first : (name : List ℕ) (files : List NamedFile) (i : ℕ) (d : NamedFile) → i < length files
    → is_named name (get_or files i d) ≡ true → ((k : ℕ) → k < i → is_named name (get_or files k d) ≡ false)
    → held_in files name ≡ Some (get_or files i d).bytes.items
held-first name [] i d lt here before = absurd (omega arith)
held-first name (file ∷ files) zero d lt here before = held-here name file files here
held-first name (file ∷ files) (suc i) d lt here before =
    held-later name file files (before 0 (omega arith))
    ∙ held-first name files i d (omega arith) here (λ k below. before (suc k) (omega arith))

-- Another file in place of one leaves what names of neither hold.
held-set_other : (name : List ℕ) (files : List NamedFile) (i : ℕ) (new d : NamedFile)
    → is_named name (get_or files i d) ≡ false → is_named name new ≡ false
    → held_in (set files i new) name ≡ held_in files name
held-set_other name [] i new d was is = refl
held-set_other name (file ∷ files) zero new d was is =
    held-later name new files is ∙ sym (held-later name file files was)
held-set_other name (file ∷ files) (suc i) new d was is =
    ap (λ (rest : Option (List ℕ)). cond (is_named name file) (Some file.bytes.items) rest)
    (held-set_other name files i new d was is)

-- A further file of the name, where there was none.
held-push : (name : List ℕ) (files : List NamedFile) (new d : NamedFile)
    → ((k : ℕ) → k < length files → is_named name (get_or files k d) ≡ false) → is_named name new ≡ true
    → held_in (files ++ new ∷ []) name ≡ Some new.bytes.items
held-push name [] new d before is = held-here name new [] is
held-push name (file ∷ files) new d before is =
    held-later name file (files ++ new ∷ []) (before 0 (omega arith))
    ∙ held-push name files new d (λ k lt. before (suc k) (omega arith)) is

-- A further file leaves what other names hold.
held-push_other : (name : List ℕ) (files : List NamedFile) (new : NamedFile) → is_named name new ≡ false
    → held_in (files ++ new ∷ []) name ≡ held_in files name
held-push_other name [] new is = held-later name new [] is
held-push_other name (file ∷ files) new is =
    ap (λ (rest : Option (List ℕ)). cond (is_named name file) (Some file.bytes.items) rest)
    (held-push_other name files new is)

-- Where no element is found that passes, none does.
none_pass : (p : NamedFile → Bool) (files : List NamedFile) (d : NamedFile) → position p files ≡ None
    → (k : ℕ) → k < length files → p (get_or files k d) ≡ false
none_pass p files d none k lt =
    elim (cases_lt (position_or_len p files) (length files)) [
      | inl below ↦
          let b : ltb (position_or_len p files) (length files) ≡ true = lt-ltb _ _ below in
          let some : position p files ≡ Some (position_or_len p files) =
          ap (λ (t : Bool). cond t (Some (position_or_len p files)) None) b in
          cc
      | inr past ↦ fails_before_first p files k d (omega arith)
    ]

-- Where no file is found, nothing is held.
pub held-missing : (name : List ℕ) (files shown : List NamedFile) → shown ≡ files
    → None ≡ position (is_named name) shown → held_in files name ≡ None
held-missing name files [] e none = ap (λ (fs : List NamedFile). held_in fs name) (sym e)
held-missing name files (file ∷ rest) e none =
    ap (λ (fs : List NamedFile). held_in fs name) (sym e)
    ∙ held-none name (file ∷ rest) file (none_pass (is_named name) (file ∷ rest) file (sym none))

-- Where a file is found, its bytes are held.
pub held-found : (name : List ℕ) (files shown : List NamedFile) (i : ℕ) (d : NamedFile) → shown ≡ files
    → Some i ≡ position (is_named name) shown → held_in files name ≡ Some (get_or files i d).bytes.items
held-found name files shown i d e found =
    let at : position (is_named name) files ≡ Some i = ap (position (is_named name)) (sym e) ∙ sym found in
    let first = position-Some (is_named name) files i d at in
    held-first name files i d first.0 first.1 first.2

-- New bytes in the first file of a name.
pub Replaces-set : (name : List ℕ) (files shown : List NamedFile) (i : ℕ) (was new : NamedFile) → shown ≡ files
    → Some i ≡ position (is_named name) shown → was ≡ get_or files i was → new.name ≡ was.name
    → Replaces (held_in files) (held_in (set files i new)) name new.bytes.items
Replaces-set name files shown i was new e found read same =
    let at : position (is_named name) files ≡ Some i = ap (position (is_named name)) (sym e) ∙ sym found in
    let first = position-Some (is_named name) files i was at in
    let lt : i < length files = first.0 in
    let here : is_named name (get_or files i was) ≡ true = first.1 in
    let before : (k : ℕ) → k < i → is_named name (get_or files k was) ≡ false = first.2 in
    let wasNamed : is_named name was ≡ true = ap (is_named name) read ∙ here in
    let named : is_named name new ≡ true =
    is_named-from name new (ap string_bytes same ∙ is_named-true name was wasNamed) in
    let written : get_or (set files i new) i was ≡ new = get_or-set_same files i new was lt in
    let ltNew : i < length (set files i new) = omega (arith, length-set files i new) in
    record {
      replaced =
          held-first name (set files i new) i was ltNew (ap (is_named name) written ∙ named)
          (λ k below. let ne : k ≢ i = omega arith in
          ap (is_named name) (get_or-set_other files i k new was ne) ∙ before k below)
          ∙ ap (λ (file : NamedFile). Some file.bytes.items) written;
      others = λ other ne.
          held-set_other other files i new was (is_named-other name other (get_or files i was) here ne)
          (is_named-other name other new named ne);
    }

-- A new file, where there was none of the name.
pub Replaces-push : (name : List ℕ) (files shown : List NamedFile) (new : NamedFile) → shown ≡ files
    → None ≡ position (is_named name) shown → string_bytes new.name ≡ name
    → Replaces (held_in files) (held_in (files ++ new ∷ [])) name new.bytes.items
Replaces-push name files shown new e none isName =
    let at : position (is_named name) files ≡ None = ap (position (is_named name)) (sym e) ∙ sym none in
    let named : is_named name new ≡ true = is_named-from name new isName in
    record {
      replaced = held-push name files new new (none_pass (is_named name) files new at) named;
      others = λ other ne. held-push_other other files new (is_named-other name other new named ne);
    }

-- The same files and bytes, by other terms.
pub Replaces-along : (old : Held) (name : List ℕ) (after files : List NamedFile) (bytes told : List ℕ)
    → after ≡ files → told ≡ bytes → Replaces old (held_in files) name told → Replaces old (held_in after) name bytes
Replaces-along old name after files bytes told e d r = record {
  replaced = ap (λ (fs : List NamedFile). held_in fs name) e ∙ r.replaced ∙ ap Some d;
  others = λ other ne. ap (λ (fs : List NamedFile). held_in fs other) e ∙ r.others other ne;
}

-- A prefix of a list, cut where the list or the limit ends.
pub take_cut : (bytes copy : List ℕ) (limit end : ℕ) → end ≡ min (length bytes) limit → copy ≡ take end bytes → copy ≡ take limit bytes
take_cut bytes copy limit end cut is =
    is ∙ ap (λ (n : ℕ). take n bytes) (cut ∙ min_comm (length bytes) limit) ∙ take_min limit bytes

-- What is told of the files is what they hold.
told-at : (files : List NamedFile) (name : List ℕ) (h : Held) → Some (held_in files) ≡ Some h → h name ≡ held_in files name
told-at files name h e = let same : h ≡ held_in files = cc in ap (λ (g : Held). g name) same

-- A copy of the first bytes of what is held is a read of it.
pub ForSome-read : (name : List ℕ) (files : List NamedFile) (bytes copy : List ℕ) → Some bytes ≡ held_in files name
    → copy ≡ take READ_LIMIT bytes → ForSome (Some (held_in files)) (λ h. IsRead (h name) copy)
ForSome-read name files bytes copy held is h told =
    ap (λ (o : Option (List ℕ)). option_map (λ (xs : List ℕ). take READ_LIMIT xs) o) (told-at files name h told ∙ sym held) ∙ ap Some (sym is)
