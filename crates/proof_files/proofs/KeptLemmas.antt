-- The entries for which a proof file has room.
use Rattle.std.proofs.Common.{◌≡◌, ℕ, zero, suc, ◌+◌, ◌*◌, ◌-◌, ◌<◌, ◌≤◌, Bool, true, false, List, [], ◌∷◌, ◌++◌}
use Rattle.std.proofs.Common.{length, cond, get_or, Result, Ok, Err, refl, sym, subst, ap, ap₂, ◌∙◌, arith, append-nil}
use Rattle.std.proofs.Common.{length-append, codes}
use Rattle.std.specs.Prelude.{nat_le, OnOk}
use Rattle.std.specs.List.{AllByRecursion, flat_map}
use Rattle.std.proofs.lemmas.Bool.{le-leb, le-ltb, leb-false, leb-true, lt-leb, lt-ltb, ltb-false, ltb-true}
use Rattle.std.proofs.lemmas.List.Concat.{flat_map-cons}
use Rattle.cc_base.specs.Digits.{hex}
use Rattle.cc_base.proofs.DigitLemmas.{length-hex}
use Rattle.proof_files.specs.Held.{IsMadeOf, WrittenProof, entries_told, told}
use Rattle.proof_files.specs.Proofs.{AreEntries, AreEntriesBehind, Entry, FIRST_LINE, IsEntry, IsProofOf, entry_text}
use Rattle.proof_files.specs.Proofs.{prefix_text, hex_text, kept, kept_within, key_of, proof_bytes, proof_text}
use Rattle.proof_files.specs.Proofs.{unit_line}
use Rattle.proof_files.specs.Steps.{IsPut, parts_text}
use Rattle.proof_files.specs.declared.proof_entry.ProofEntry.{ProofEntry}
use Rattle.unit_form.specs.Spelling.{unit_bytes}
use Rattle.proof_files.proofs.EntryLemmas.{states_text}
use Rattle.proof_files.proofs.UnderWay.{text_more}

-- ---- one entry more

-- Where some entry is not kept, one more is not.
cut_stays : (left : ℕ) (es : List Entry) (e : Entry) → length (kept_within left es) < length es
    → kept_within left (es ++ e ∷ []) ≡ kept_within left es
cut_stays left [] e less = absurd (omega (arith, less))
cut_stays left (x ∷ es) e less = by (nat_le (length (entry_text x)) left) less
    (cut_stays (left - length (entry_text x)) es e)
  where
    by : (room : Bool)
        → length (cond room (x ∷ kept_within (left - length (entry_text x)) es) []) < suc (length es)
        → (length (kept_within (left - length (entry_text x)) es) < length es
        → kept_within (left - length (entry_text x)) (es ++ e ∷ []) ≡ kept_within (left - length (entry_text x)) es)
        → cond room (x ∷ kept_within (left - length (entry_text x)) (es ++ e ∷ [])) []
        ≡ cond room (x ∷ kept_within (left - length (entry_text x)) es) []
    by true less later = ap (λ (its : List Entry). x ∷ its) (later (omega (arith, less)))
    by false less later = refl

record AreAllKept (left : ℕ) (es : List Entry) : Type 0 where
  same : kept_within left es ≡ es
  size : length (flat_map entry_text es) ≤ left

all_kept : (left : ℕ) (es : List Entry) → length es ≤ length (kept_within left es) → AreAllKept left es
all_kept left [] enough = record { same = refl; size = omega arith }
all_kept left (x ∷ es) enough =
    by (nat_le (length (entry_text x)) left) refl enough (λ others. all_kept (left - length (entry_text x)) es others)
  where
    by : (room : Bool) → nat_le (length (entry_text x)) left ≡ room
        → suc (length es) ≤ length (cond room (x ∷ kept_within (left - length (entry_text x)) es) [])
        → (length es ≤ length (kept_within (left - length (entry_text x)) es)
        → AreAllKept (left - length (entry_text x)) es)
        → AreAllKept left (x ∷ es)
    by true fits enough others =
        let later = others (omega (arith, enough)) in
        record {
          same = ap (λ (b : Bool). cond b (x ∷ kept_within (left - length (entry_text x)) es) []) fits
              ∙ ap (λ (its : List Entry). x ∷ its) later.same;
          size = omega (
            arith,
            later.size,
            leb-true _ _ fits,
            ap length (flat_map-cons entry_text x es),
            length-append (entry_text x) (flat_map entry_text es),
          );
        }
    by false fits enough others = absurd (omega (arith, enough))

-- Where all are kept, one more is where there is room left for it.
kept_more : (left : ℕ) (es : List Entry) (e : Entry) → length es ≤ length (kept_within left es)
    → kept_within left (es ++ e ∷ []) ≡ es ++ kept_within (left - length (flat_map entry_text es)) (e ∷ [])
kept_more left [] e enough =
    let all : left - 0 ≡ left = omega arith in
    ap (λ (n : ℕ). kept_within n (e ∷ [])) (sym all)
kept_more left (x ∷ es) e enough =
    by (nat_le (length (entry_text x)) left) refl enough
    (λ others. kept_more (left - length (entry_text x)) es e others)
  where
    by : (room : Bool) → nat_le (length (entry_text x)) left ≡ room
        → suc (length es) ≤ length (cond room (x ∷ kept_within (left - length (entry_text x)) es) [])
        → (length es ≤ length (kept_within (left - length (entry_text x)) es)
        → kept_within (left - length (entry_text x)) (es ++ e ∷ [])
        ≡ es ++ kept_within (left - length (entry_text x) - length (flat_map entry_text es)) (e ∷ []))
        → kept_within left (x ∷ (es ++ e ∷ []))
        ≡ x ∷ (es ++ kept_within (left - length (flat_map entry_text (x ∷ es))) (e ∷ []))
    by true fits enough others =
        let later = others (omega (arith, enough)) in
        let rest : left - length (entry_text x) - length (flat_map entry_text es)
        ≡ left - length (flat_map entry_text (x ∷ es)) =
        omega (
          arith,
          ap length (flat_map-cons entry_text x es),
          length-append (entry_text x)
              (flat_map entry_text es),
        ) in
        ap (λ (b : Bool). cond b (x ∷ kept_within (left - length (entry_text x)) (es ++ e ∷ [])) []) fits
        ∙ ap (λ (its : List Entry). x ∷ its) later
        ∙ ap (λ (n : ℕ). x ∷ (es ++ kept_within n (e ∷ []))) rest
    by false fits enough others = absurd (omega (arith, enough))

-- ---- the text that is being made

pub made_none : IsMadeOf [] (record { text = FIRST_LINE; full = false })
unfolding kept proof_bytes proof_text
made_none = record { text = refl; full = refl }

pub made_full : (entries : List Entry) (e : Entry) (written : WrittenProof) → IsMadeOf entries written
    → written.full ≡ true
    → IsMadeOf (entries ++ e ∷ []) written
unfolding kept proof_bytes
made_full entries e written made full =
    let less : length (kept entries) < length entries =
    ltb-true (length (kept entries)) (length entries) (sym made.full ∙ full) in
    let same : kept (entries ++ e ∷ []) ≡ kept entries = cut_stays 67108848 entries e less in
    record {
      text = made.text ∙ ap proof_text (sym same);
      full =
          full ∙ sym (lt-ltb (length (kept (entries ++ e ∷ []))) (length (entries ++ e ∷ []))
          (omega (arith, less, ap length same, length-append entries (e ∷ []))));
    }

-- What is made where there is room, and where there is none.
made_more : (entries : List Entry) (e : Entry) (written : WrittenProof) → IsMadeOf entries written
    → written.full ≡ false
    → length written.text + length (entry_text e) ≤ 67108864
    → IsMadeOf (entries ++ e ∷ []) (record { text = written.text ++ entry_text e; full = false })
unfolding kept proof_bytes proof_text
made_more entries e written made unfilled room =
    let enough : length entries ≤ length (kept entries) =
    ltb-false (length (kept entries)) (length entries) (sym made.full ∙ unfilled) in
    let all = all_kept 67108848 entries enough in
    let left = 67108848 - length (flat_map entry_text entries) in
    let before : written.text ≡ proof_text entries = made.text ∙ ap proof_text all.same in
    let fits : nat_le (length (entry_text e)) left ≡ true =
    le-leb (length (entry_text e)) left
    (omega (arith, room, ap length before, length-append FIRST_LINE (flat_map entry_text entries))) in
    let same : kept (entries ++ e ∷ []) ≡ entries ++ e ∷ [] =
    kept_more 67108848 entries e enough ∙ ap (λ (b : Bool). entries ++ cond b (e ∷ []) []) fits in
    record {
      text = ap (λ (t : List ℕ). t ++ entry_text e) before ∙ sym (text_more entries e) ∙ ap proof_text (sym same);
      full = sym
          (le-ltb (length (kept (entries ++ e ∷ []))) (length (entries ++ e ∷ [])) (omega (arith, ap length same)));
    }

made_no_more : (entries : List Entry) (e : Entry) (written : WrittenProof) → IsMadeOf entries written
    → written.full ≡ false
    → 67108864 < length written.text + length (entry_text e)
    → IsMadeOf (entries ++ e ∷ []) (record { text = written.text; full = true })
unfolding kept proof_bytes proof_text
made_no_more entries e written made unfilled past =
    let enough : length entries ≤ length (kept entries) =
    ltb-false (length (kept entries)) (length entries) (sym made.full ∙ unfilled) in
    let all = all_kept 67108848 entries enough in
    let left = 67108848 - length (flat_map entry_text entries) in
    let before : written.text ≡ proof_text entries = made.text ∙ ap proof_text all.same in
    let none : nat_le (length (entry_text e)) left ≡ false =
    lt-leb (length (entry_text e)) left
    (omega (arith, past, all.size, ap length before, length-append FIRST_LINE (flat_map entry_text entries))) in
    let same : kept (entries ++ e ∷ []) ≡ entries =
    kept_more 67108848 entries e enough ∙ ap (λ (b : Bool). entries ++ cond b (e ∷ []) []) none ∙ append-nil entries in
    record {
      text = before ∙ ap proof_text (sym same);
      full = sym
          (lt-ltb (length (kept (entries ++ e ∷ []))) (length (entries ++ e ∷ []))
          (omega (arith, ap length same, length-append entries (e ∷ []))));
    }

pub made_put : (entries : List Entry) (e : Entry) (before after : WrittenProof) (key lines : List ℕ)
    → IsMadeOf entries before
    → before.full ≡ false → IsPut before after key lines → key ≡ unit_bytes e.unit → lines ≡ states_text e.unit e.states
    → IsMadeOf (entries ++ e ∷ []) after
unfolding parts_text prefix_text unit_line
made_put entries e before after key lines made unfilled put key_is lines_is =
    by (nat_le (length before.text + length (entry_text e)) 67108864) refl
    (subst (λ (t : List ℕ). after ≡ cond (nat_le (length before.text + length t) 67108864)
    (record { text = before.text ++ t; full = false })
    (record { text = before.text; full = true })) text put)
  where
    text : parts_text key lines ≡ entry_text e
    text = ap₂ (λ (k l : List ℕ). parts_text k l) key_is lines_is

    by : (room : Bool) → nat_le (length before.text + length (entry_text e)) 67108864 ≡ room
        → after ≡ cond room (record { text = before.text ++ entry_text e; full = false })
        (record { text = before.text; full = true })
        → IsMadeOf (entries ++ e ∷ []) after
    by true room is = subst (IsMadeOf (entries ++ e ∷ [])) (sym is)
        (made_more entries e before made unfilled (leb-true _ _ room))
    by false room is = subst (IsMadeOf (entries ++ e ∷ [])) (sym is)
        (made_no_more entries e before made unfilled (leb-false _ _ room))

-- ---- what is put

hex_size : (bytes : List ℕ) → length (hex_text bytes) ≡ 2 * length bytes
hex_size [] = refl
hex_size (b ∷ bytes) =
    omega (
      arith,
      ap length (flat_map-cons (hex 2) b bytes),
      length-append (hex 2 b) (hex_text bytes),
      length-hex 2 b,
      hex_size bytes,
    )

pub parts_size : (key lines : List ℕ) → length (parts_text key lines) ≡ 10 + 2 * length key + length lines
unfolding parts_text
parts_size key lines =
    omega (
      arith,
      length-append (codes "unit " ++ hex_text key ++ codes "\n" ++ lines) (codes "end\n"),
      length-append (codes "unit " ++ hex_text key ++ codes "\n") lines,
      length-append (codes "unit " ++ hex_text key) (codes "\n"),
      length-append (codes "unit ") (hex_text key),
      hex_size key,
    )

pub put_fits : (text key lines : List ℕ) (room : ℕ) → room ≡ 67108864 - length text
    → nat_le (10 + 2 * length key + length lines) room ≡ true
    → IsPut (record { text = text; full = false }) (record { text = text ++ parts_text key lines; full = false }) key
    lines
put_fits text key lines room is fits =
    ap (λ (b : Bool). cond b (record { text = text ++ parts_text key lines; full = false })
    (record { text = text; full = true }))
    (sym (le-leb (length text + length (parts_text key lines)) 67108864
    (omega (arith, is, leb-true _ _ fits, parts_size key lines))))

pub put_not : (text key lines : List ℕ) (room : ℕ) → room ≡ 67108864 - length text
    → nat_le (10 + 2 * length key + length lines) room ≡ false
    → IsPut (record { text = text; full = false }) (record { text = text; full = true }) key lines
put_not text key lines room is none =
    ap (λ (b : Bool). cond b (record { text = text ++ parts_text key lines; full = false })
    (record { text = text; full = true }))
    (sym (lt-leb (length text + length (parts_text key lines)) 67108864
    (omega (arith, is, leb-false _ _ none, parts_size key lines))))

-- ---- the file

kept_size : (left : ℕ) (es : List Entry) → length (flat_map entry_text (kept_within left es)) ≤ left
kept_size left [] = omega arith
kept_size left (e ∷ es) = by (nat_le (length (entry_text e)) left) refl (kept_size (left - length (entry_text e)) es)
  where
    by : (b : Bool) → nat_le (length (entry_text e)) left ≡ b
        → length (flat_map entry_text (kept_within (left - length (entry_text e)) es)) ≤ left - length (entry_text e)
        → length (flat_map entry_text (cond b (e ∷ kept_within (left - length (entry_text e)) es) [])) ≤ left
    by true fits later =
        let others = kept_within (left - length (entry_text e)) es in
        omega (
          arith,
          later,
          leb-true _ _ fits,
          ap length (flat_map-cons entry_text e others),
          length-append (entry_text e) (flat_map entry_text others),
        )
    by false fits later = omega arith

kept_are : (keys : List (List ℕ)) (left : ℕ) (es : List Entry) → AreEntriesBehind keys es
    → AreEntriesBehind keys (kept_within left es)
kept_are keys left [] are = tt
kept_are keys left (e ∷ es) are =
    by (nat_le (length (entry_text e)) left) (kept_are (keys ++ key_of e ∷ []) (left - length (entry_text e)) es are.1)
  where
    by : (b : Bool) → AreEntriesBehind (keys ++ key_of e ∷ []) (kept_within (left - length (entry_text e)) es)
        → AreEntriesBehind keys (cond b (e ∷ kept_within (left - length (entry_text e)) es) [])
    by true later = (are.0, later)
    by false later = tt

pub made_file : (entries : List Entry) (bytes : List ℕ) → bytes ≡ proof_bytes entries → AreEntries entries
    → IsProofOf (kept entries) bytes
unfolding kept proof_bytes proof_text
made_file entries bytes is are = record {
  are = kept_are [] 67108848 entries are;
  size = omega (
    arith,
    ap length is,
    kept_size 67108848 entries,
    length-append FIRST_LINE (flat_map entry_text (kept_within 67108848 entries)),
  );
  same = sym is;
}

-- ---- answers

pub made_begun : (text : List ℕ) → text ≡ FIRST_LINE → IsMadeOf [] (record { text = text; full = false })
made_begun text is = subst (λ (t : List ℕ). IsMadeOf [] (record { text = t; full = false })) (sym is) made_none

pub put_answer : {X F : Type 0} (answer : Result X F) (before : WrittenProof) (text out key lines : List ℕ)
    (full : Bool) (room : ℕ)
    → record { text = text; full = full } ≡ before → before.full ≡ false
    → OnOk answer (out ≡ text ++ parts_text key lines)
    → room ≡ 67108864 - length text → nat_le (10 + 2 * length key + length lines) room ≡ true
    → OnOk answer (IsPut before (record { text = out; full = full }) key lines)
put_answer (Err e) before text out key lines full room view unfilled put is fits = tt
put_answer (Ok x) before text out key lines full room view unfilled put is fits =
    let none : full ≡ false = ap (λ (w : WrittenProof). w.full) view ∙ unfilled in
    subst (λ (w : WrittenProof). IsPut w (record { text = out; full = full }) key lines) view
    (subst (λ (b : Bool). IsPut (record { text = text; full = b }) (record { text = out; full = b }) key lines)
    (sym none)
    (subst (λ (t : List ℕ). IsPut (record { text = text; full = false }) (record { text = t; full = false }) key lines)
    (sym put)
    (put_fits text key lines room is fits)))

pub put_none : (before : WrittenProof) (text key lines : List ℕ) (full : Bool) (room : ℕ)
    → record { text = text; full = full } ≡ before → before.full ≡ false
    → room ≡ 67108864 - length text → nat_le (10 + 2 * length key + length lines) room ≡ false
    → IsPut before (record { text = text; full = true }) key lines
put_none before text key lines full room view unfilled is fits =
    let none : full ≡ false = ap (λ (w : WrittenProof). w.full) view ∙ unfilled in
    subst (λ (w : WrittenProof). IsPut w (record { text = text; full = true }) key lines) view
    (subst (λ (b : Bool). IsPut (record { text = text; full = b }) (record { text = text; full = true }) key lines)
    (sym none)
    (put_not text key lines room is fits))

pub made_answer : {X F : Type 0} (answer : Result X F) (entries : List Entry) (e : Entry) (before after : WrittenProof)
    (key lines : List ℕ)
    → IsMadeOf entries before → before.full ≡ false → OnOk answer (IsPut before after key lines)
    → key ≡ unit_bytes e.unit
    → lines ≡ states_text e.unit e.states → OnOk answer (IsMadeOf (entries ++ e ∷ []) after)
made_answer (Err error) entries e before after key lines made unfilled put key_is lines_is = tt
made_answer (Ok x) entries e before after key lines made unfilled put key_is lines_is =
    made_put entries e before after key lines made unfilled put key_is lines_is

-- ---- entries that are held

pub are_each : (keys : List (List ℕ)) (es : List Entry) → AreEntriesBehind keys es → AllByRecursion IsEntry es
are_each keys [] are = tt
are_each keys (e ∷ es) are = (are.0.entry, are_each (keys ++ key_of e ∷ []) es are.1)

pub each_at : (held : List ProofEntry) (place : ℕ) (e : ProofEntry) → AllByRecursion IsEntry (entries_told held)
    → place < length held
    → e ≡ get_or held place e → IsEntry (told e)
each_at [] place e each within is = absurd (omega (arith, within))
each_at (first ∷ held) zero e each within is = subst (λ (it : ProofEntry). IsEntry (told it)) (sym is) each.0
each_at (first ∷ held) (suc place) e each within is = each_at held place e each.1 (omega (arith, within)) is
