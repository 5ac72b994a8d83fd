-- The entries for which a file has room.
use Rattle.std.proofs.Common.{◌≡◌, ℕ, zero, suc, ◌+◌, ◌*◌, ◌-◌, ◌<◌, ◌≤◌, Bool, true, false, List, [], ◌∷◌, ◌++◌, length, take, drop, cond, slice_get, Some, None, Result, Ok, Err, refl, sym, subst, ap, ◌∙◌, arith, append_assoc, append-nil, length-append}
use Rattle.std.specs.Prelude.{nat_le, IfOk}
use Rattle.std.specs.List.{flat_map}
use Rattle.std.proofs.lemmas.Bool.{leb-true}
use Rattle.std.proofs.lemmas.List.Concat.{flat_map-cons, flat_map-append}
use Rattle.byteorder.specs.Endian.{little_bytes}
use Rattle.cc_base.proofs.ByteLemmas.{length-little_bytes}
use Rattle.result_cache.specs.declared.cache_form.CacheForm.TheVariants.{Second}
use Rattle.result_cache.proofs.EntryLemmas.{take_next}
use Rattle.result_cache.specs.Entries.{AreEntries, AreEntriesBehind, Entry}
use Rattle.result_cache.specs.Spelling.{entry_bytes, entry_size, file_bytes, IsCacheFile, kept, kept_within, sized_bytes}

drop_here : (entries : List Entry) (place : ℕ) (e : Entry) → slice_get entries place ≡ Some e
    → drop place entries ≡ e ∷ drop (suc place) entries
drop_here [] place e is = absurd cc
drop_here (first ∷ es) zero e is =
    let its : first ≡ e = cc in
    ap (λ (it : Entry). it ∷ es) its
drop_here (first ∷ es) (suc place) e is = drop_here es place e is

-- The entries up to a place have room, and this is left for those behind.
pub record HaveRoom (entries : List Entry) (place left : ℕ) : Type 0 where
  pub same : kept entries ≡ take place entries ++ kept_within left (drop place entries)
  pub size : 8 * place + left ≤ 67108856
  pub within : place ≤ length entries

pub room_none : (entries : List Entry) → HaveRoom entries 0 67108856
unfolding kept
room_none entries = record { same = refl; size = omega arith; within = omega arith }

place_within : (entries : List Entry) (place : ℕ) (e : Entry) → slice_get entries place ≡ Some e → place + 1 ≤ length entries
place_within [] place e is = absurd cc
place_within (first ∷ es) zero e is = omega arith
place_within (first ∷ es) (suc place) e is = omega (arith, place_within es place e is)

kept_more : (left : ℕ) (e : Entry) (es : List Entry) → nat_le (entry_size e) left ≡ true
    → kept_within left (e ∷ es) ≡ e ∷ kept_within (left - entry_size e) es
kept_more left e es room = rw room refl

kept_no_more : (left : ℕ) (e : Entry) (es : List Entry) → nat_le (entry_size e) left ≡ false → kept_within left (e ∷ es) ≡ []
kept_no_more left e es room = rw room refl

pub room_next : (entries : List Entry) (place left rest : ℕ) (e : Entry) → HaveRoom entries place left
    → slice_get entries place ≡ Some e → Some rest ≡ cond (nat_le (entry_size e) left) (Some (left - entry_size e)) None
    → HaveRoom entries (place + 1) rest
room_next entries place left rest e before is room = by (nat_le (entry_size e) left) refl room
  where
    one : place + 1 ≡ suc place
    one = omega arith

    by : (b : Bool) → nat_le (entry_size e) left ≡ b → Some rest ≡ cond b (Some (left - entry_size e)) None → HaveRoom entries (place + 1) rest
    by true fits found =
        let its : rest ≡ left - entry_size e = cc in
        let size : entry_size e ≤ left = leb-true _ _ fits in
        let split : kept entries ≡ take place entries ++ (e ∷ kept_within rest (drop (suc place) entries)) =
        before.same ∙ ap (λ (es : List Entry). take place entries ++ kept_within left es) (drop_here entries place e is)
        ∙ ap (λ (es : List Entry). take place entries ++ es) (kept_more left e (drop (suc place) entries) fits ∙ ap (λ (n : ℕ). e ∷ kept_within n (drop (suc place) entries)) (sym its)) in
        record {
          same = rw one (split ∙ sym (append_assoc (take place entries) (e ∷ []) (kept_within rest (drop (suc place) entries)))
              ∙ ap (λ (es : List Entry). es ++ kept_within rest (drop (suc place) entries)) (sym (take_next entries place e is)));
          size = omega (arith, before.size, its, size);
          within = place_within entries place e is;
        }
    by false fits found = absurd cc

-- Where there is none for the entry at a place, those up to it are kept.
pub room_ends : (entries : List Entry) (place left : ℕ) (e : Entry) → HaveRoom entries place left
    → slice_get entries place ≡ Some e → cond (nat_le (entry_size e) left) (Some (left - entry_size e)) None ≡ None
    → kept entries ≡ take place entries
room_ends entries place left e before is room = by (nat_le (entry_size e) left) refl room
  where
    by : (b : Bool) → nat_le (entry_size e) left ≡ b → cond b (Some (left - entry_size e)) None ≡ None → kept entries ≡ take place entries
    by true fits found = absurd cc
    by false fits found =
        before.same ∙ ap (λ (es : List Entry). take place entries ++ kept_within left es) (drop_here entries place e is)
        ∙ ap (λ (es : List Entry). take place entries ++ es) (kept_no_more left e (drop (suc place) entries) fits)
        ∙ append-nil (take place entries)

drop_none : (entries : List Entry) (place : ℕ) → length entries ≤ place → drop place entries ≡ []
drop_none [] zero long = refl
drop_none [] (suc place) long = refl
drop_none (e ∷ es) zero long = absurd (omega arith)
drop_none (e ∷ es) (suc place) long = drop_none es place (omega (arith, long))

pub room_for_all : (entries : List Entry) (place left : ℕ) → length entries ≤ place → HaveRoom entries place left
    → kept entries ≡ take place entries
room_for_all entries place left long before =
    before.same ∙ ap (λ (es : List Entry). take place entries ++ kept_within left es) (drop_none entries place long)
    ∙ append-nil (take place entries)

none_past : (entries : List Entry) (place : ℕ) → slice_get entries place ≡ None → length entries ≤ place
none_past [] place none = omega arith
none_past (e ∷ es) zero none = absurd cc
none_past (e ∷ es) (suc place) none = omega (arith, none_past es place none)

pub room_past : (entries : List Entry) (place left : ℕ) → slice_get entries place ≡ None → HaveRoom entries place left
    → kept entries ≡ take place entries
room_past entries place left none before = room_for_all entries place left (none_past entries place none) before

-- ---- what is written

pub put_past : (entries : List Entry) (place count : ℕ) → slice_get entries place ≡ None → place < count → count ≤ length entries
    → {X : Type 0} → X
put_past entries place count none below within = absurd (omega (arith, none_past entries place none))

put_next : (entries : List Entry) (place : ℕ) (e : Entry) → slice_get entries place ≡ Some e
    → flat_map entry_bytes (take (place + 1) entries) ≡ flat_map entry_bytes (take place entries) ++ (sized_bytes e.0 ++ sized_bytes e.1)
unfolding entry_bytes
put_next entries place e is =
    let one : place + 1 ≡ suc place = omega arith in
    rw one (ap (flat_map entry_bytes) (take_next entries place e is)
    ∙ flat_map-append entry_bytes (take place entries) (e ∷ [])
    ∙ ap (λ (t : List ℕ). flat_map entry_bytes (take place entries) ++ t) (flat_map-cons entry_bytes e [] ∙ append-nil (entry_bytes e)))

-- What was written, and then the entry at this place.
pub put_more : (entries : List Entry) (place : ℕ) (e : Entry) (before out one two : List ℕ) → slice_get entries place ≡ Some e
    → out ≡ before ++ flat_map entry_bytes (take place entries) → one ≡ out ++ sized_bytes e.0 → two ≡ one ++ sized_bytes e.1
    → two ≡ before ++ flat_map entry_bytes (take (place + 1) entries)
put_more entries place e before out one two is written first second =
    second ∙ ap (λ (t : List ℕ). t ++ sized_bytes e.1) first ∙ append_assoc out (sized_bytes e.0) (sized_bytes e.1)
    ∙ ap (λ (t : List ℕ). t ++ (sized_bytes e.0 ++ sized_bytes e.1)) written
    ∙ append_assoc before (flat_map entry_bytes (take place entries)) (sized_bytes e.0 ++ sized_bytes e.1)
    ∙ ap (λ (t : List ℕ). before ++ t) (sym (put_next entries place e is))

-- ---- the file

pub entry_length : (e : Entry) → length (entry_bytes e) ≡ entry_size e
unfolding entry_bytes
entry_length e =
    omega (
      arith,
      length-append (sized_bytes e.0) (sized_bytes e.1),
      length-append (little_bytes 4 (length e.0)) e.0,
      length-append (little_bytes 4 (length e.1)) e.1,
      length-little_bytes 4 (length e.0),
      length-little_bytes 4 (length e.1),
    )

kept_length : (left : ℕ) (entries : List Entry) → length (flat_map entry_bytes (kept_within left entries)) ≤ left
kept_length left [] = omega arith
kept_length left (e ∷ es) = by (nat_le (entry_size e) left) refl (kept_length (left - entry_size e) es)
  where
    by : (b : Bool) → nat_le (entry_size e) left ≡ b → length (flat_map entry_bytes (kept_within (left - entry_size e) es)) ≤ left - entry_size e
        → length (flat_map entry_bytes (cond b (e ∷ kept_within (left - entry_size e) es) [])) ≤ left
    by true fits later =
        let others = kept_within (left - entry_size e) es in
        omega (arith, later, leb-true _ _ fits, entry_length e, ap length (flat_map-cons entry_bytes e others), length-append (entry_bytes e) (flat_map entry_bytes others))
    by false fits later = omega arith

kept_are : (keys : List (List ℕ)) (left : ℕ) (entries : List Entry) → AreEntriesBehind keys entries → AreEntriesBehind keys (kept_within left entries)
kept_are keys left [] are = tt
kept_are keys left (e ∷ es) are = by (nat_le (entry_size e) left) (kept_are (keys ++ e.0 ∷ []) (left - entry_size e) es are.2)
  where
    by : (b : Bool) → AreEntriesBehind (keys ++ e.0 ∷ []) (kept_within (left - entry_size e) es)
        → AreEntriesBehind keys (cond b (e ∷ kept_within (left - entry_size e) es) [])
    by true later = (are.0, are.1, later)
    by false later = tt

is_file : (entries : List Entry) → AreEntries entries → IsCacheFile Second (kept entries) (file_bytes Second (kept entries))
unfolding kept file_bytes
is_file entries are = record {
  are = kept_are [] 67108856 entries are;
  size = omega (
    arith,
    kept_length 67108856 entries,
    length-append (little_bytes 4 (length (kept_within 67108856 entries))) (flat_map entry_bytes (kept_within 67108856 entries)),
    length-little_bytes 4 (length (kept_within 67108856 entries)),
  );
  same = refl;
}

pub file_kept : {X F : Type 0} (items : X → List ℕ) (answer : Result X F) (entries : List Entry) → AreEntries entries
    → IfOk answer (λ bytes. items bytes ≡ file_bytes Second (kept entries))
    → IfOk answer (λ bytes. IsCacheFile Second (kept entries) (items bytes))
file_kept items (Ok bytes) entries are is = subst (IsCacheFile Second (kept entries)) (sym is) (is_file entries are)
file_kept items (Err e) entries are is = tt
