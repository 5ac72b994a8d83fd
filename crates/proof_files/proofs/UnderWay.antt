-- The loop over the entries of a proof file.
use Rattle.std.proofs.Common.{◌≡◌, ◌≢◌, ℕ, ◌+◌, ◌-◌, ◌<◌, ◌≤◌, true, false, List, [], ◌∷◌, ◌++◌, length, take, drop}
use Rattle.std.proofs.Common.{Some, None, refl, sym, ap, ◌∙◌, subst, inl, inr, append_assoc, append-nil, arith}
use Rattle.std.proofs.Common.{length-append, length-drop, length-take}
use Rattle.std.specs.List.{flat_map}
use Rattle.std.proofs.lemmas.List.{append_cancel_right, drop-drop, drop_all, drop_at, map-append, take_all}
use Rattle.std.proofs.lemmas.List.Concat.{flat_map-append, flat_map-cons}
use Rattle.proof_files.specs.Held.{entries_held, keys_held}
use Rattle.proof_files.specs.Lines.{END_LINE, IsCut}
use Rattle.proof_files.specs.Proofs.{AreEntries, AreEntriesBehind, Entry, FIRST_LINE, IsNewEntry, IsProofOf, entry_text}
use Rattle.proof_files.specs.Proofs.{prefix_text, key_of, keys_of, proof_text}
use Rattle.proof_files.specs.Reading.{IsFaultOf}
use Rattle.proof_files.specs.Steps.{BeginsProof, IsCutAt, Takes}
use Rattle.proof_files.specs.declared.known_entries.KnownEntries.{KnownEntries}
use Rattle.proof_files.specs.declared.proof_fault.ProofFault.TheVariants.{Form}

-- The bytes up to an offset are the text of the entries that are held.
pub record IsUnderWay (bytes : List ℕ) (known : KnownEntries) (at : ℕ) : Type 0 where
  pub are : AreEntries (entries_held known)
  pub keys : keys_held known ≡ keys_of (entries_held known)
  pub same : proof_text (entries_held known) ++ drop at bytes ≡ bytes
  pub place : at ≡ length (proof_text (entries_held known))
  pub within : at ≤ length bytes

pub way_starts : (bytes : List ℕ) (known : KnownEntries) → entries_held known ≡ [] → keys_held known ≡ []
    → BeginsProof bytes
    → IsUnderWay bytes known 16
unfolding proof_text
way_starts bytes known none no_keys begins =
    let behind : drop 16 bytes ≡ begins.0 = ap (drop 16) (sym begins.1) in
    record {
      are = subst AreEntries (sym none) tt;
      keys = no_keys ∙ ap keys_of (sym none);
      same =
          ap (λ (es : List Entry). proof_text es ++ drop 16 bytes) none ∙ ap (λ (t : List ℕ). FIRST_LINE ++ t) behind
          ∙ begins.1;
      place = ap (λ (es : List Entry). length (proof_text es)) (sym none);
      within = omega (arith, ap length begins.1);
    }

one_more : (keys : List (List ℕ)) (es : List Entry) (e : Entry) → AreEntriesBehind keys es
    → IsNewEntry (keys ++ keys_of es) e
    → AreEntriesBehind keys (es ++ e ∷ [])
one_more keys [] e are new = (subst (λ (ks : List (List ℕ)). IsNewEntry ks e) (append-nil keys) new, tt)
one_more keys (first ∷ es) e are new = (
  are.0,
  one_more (keys ++ key_of first ∷ []) es e are.1
      (subst (λ (ks : List (List ℕ)). IsNewEntry ks e) (sym (append_assoc keys (key_of first ∷ []) (keys_of es))) new),
)

pub text_more : (es : List Entry) (e : Entry) → proof_text (es ++ e ∷ []) ≡ proof_text es ++ entry_text e
unfolding proof_text
text_more es e =
    ap (λ (t : List ℕ). FIRST_LINE ++ t)
    (flat_map-append entry_text es (e ∷ [])
    ∙ ap (λ (t : List ℕ). flat_map entry_text es ++ t) (flat_map-cons entry_text e [] ∙ append-nil (entry_text e)))
    ∙ sym (append_assoc FIRST_LINE (flat_map entry_text es) (entry_text e))

-- What is left behind an offset.
pub rest_is : (bytes : List ℕ) (at : ℕ) → take (length bytes - at) (drop at bytes) ≡ drop at bytes
rest_is bytes at = take_all (length bytes - at) (drop at bytes) (omega (arith, length-drop at bytes))

cut_length : (text : List ℕ) (end : ℕ) (rest : List ℕ) → IsCut text (take end text) rest
    → (length (take end text) ≡ end) × (end + 4 + length rest ≡ length text)
cut_length text end rest cut =
    let all = ap length cut.same in
    let first = length-append (take end text ++ END_LINE) rest in
    let second = length-append (take end text) END_LINE in
    let prefix = length-take end text in
    (omega (arith, all, first, second, prefix), omega (arith, all, first, second, prefix))

cut_behind : (text : List ℕ) (end : ℕ) (rest : List ℕ) → IsCut text (take end text) rest → drop (end + 4) text ≡ rest
cut_behind text end rest cut =
    let long = cut_length text end rest cut in
    ap (drop (end + 4)) (sym cut.same)
    ∙ drop_at (take end text ++ END_LINE) rest (end + 4) (omega (arith, long.0, length-append (take end text) END_LINE))

pub way_on : (bytes : List ℕ) (before after : KnownEntries) (at end : ℕ) → IsUnderWay bytes before at
    → at < length bytes
    → IsCutAt (drop at bytes) (Some end) → Takes before after (take end (drop at bytes)) true
    → IsUnderWay bytes after (at + (end + 4))
way_on bytes before after at end way below (rest, cut) taken =
    let es = entries_held before in
    let long = cut_length (drop at bytes) end rest cut in
    let entry : entry_text taken.e ≡ take end (drop at bytes) ++ END_LINE = ap (λ (t : List ℕ). t ++ END_LINE)
    taken.text in
    let behind : drop (at + (end + 4)) bytes ≡ rest = sym (drop-drop (end + 4) at bytes)
    ∙ cut_behind (drop at bytes) end rest cut in
    let text : proof_text (entries_held after) ≡ proof_text es ++ entry_text taken.e =
    ap proof_text taken.entries ∙ text_more es taken.e in
    record {
      are = subst AreEntries (sym taken.entries)
          (one_more [] es taken.e way.are (subst (λ (ks : List (List ℕ)). IsNewEntry ks taken.e) way.keys taken.new));
      keys = taken.keys ∙ ap (λ (ks : List (List ℕ)). ks ++ key_of taken.e ∷ []) way.keys
          ∙ sym (map-append key_of es (taken.e ∷ []))
          ∙ ap keys_of (sym taken.entries);
      same =
          ap (λ (t : List ℕ). t ++ drop (at + (end + 4)) bytes) text
          ∙ append_assoc (proof_text es) (entry_text taken.e) (drop (at + (end + 4)) bytes)
          ∙ ap (λ (t : List ℕ). proof_text es ++ (entry_text taken.e ++ t)) behind
          ∙ ap (λ (t : List ℕ). proof_text es ++ (t ++ rest)) entry
          ∙ ap (λ (t : List ℕ). proof_text es ++ t) cut.same ∙ way.same;
      place = omega (
        arith,
        way.place,
        ap length text,
        length-append (proof_text es) (entry_text taken.e),
        ap length entry,
        length-append (take end (drop at bytes)) END_LINE,
        long.0,
      );
      within = omega (arith, long.1, length-drop at bytes, below);
    }

pub way_ends : (bytes : List ℕ) (known : KnownEntries) (at : ℕ) → length bytes ≤ 67108864 → IsUnderWay bytes known at
    → length bytes ≤ at
    → IsProofOf (entries_held known) bytes
way_ends bytes known at size way past = record {
  are = way.are;
  size = size;
  same =
      sym (append-nil (proof_text (entries_held known)))
      ∙ ap (λ (t : List ℕ). proof_text (entries_held known) ++ t) (sym (drop_all at bytes past)) ∙ way.same;
}

some_left : (bytes : List ℕ) (at : ℕ) → at < length bytes → drop at bytes ≢ []
some_left bytes at below none = omega (arith, below, ap length none, length-drop at bytes)

pub way_unended : (bytes : List ℕ) (known : KnownEntries) (at : ℕ) → length bytes ≤ 67108864 → IsUnderWay bytes known at
    → at < length bytes
    → IsCutAt (drop at bytes) None → IsFaultOf bytes (Form (length bytes))
way_unended bytes known at size way below uncut = (
  size,
  record {
    entries = entries_held known;
    are = way.are;
    rest = drop at bytes;
    same = way.same;
    fault = inr (record { some = some_left bytes at below; uncut = uncut }, refl);
  },
)

pub way_bad : (bytes : List ℕ) (known after : KnownEntries) (at end : ℕ) → length bytes ≤ 67108864
    → IsUnderWay bytes known at
    → IsCutAt (drop at bytes) (Some end) → Takes known after (take end (drop at bytes)) false
    → IsFaultOf bytes (Form at)
way_bad bytes known after at end size way (rest, cut) none = (
  size,
  record {
    entries = entries_held known;
    are = way.are;
    rest = drop at bytes;
    same = way.same;
    fault = inl (
      record {
        prefix = take end (drop at bytes);
        rest = rest;
        cut = cut;
        none = λ e new same. none e (subst (λ (ks : List (List ℕ)). IsNewEntry ks e) (sym way.keys) new)
            (prefix_alike (prefix_text e) (take end (drop at bytes)) same);
      },
      way.place,
    );
  },
)
  where
    prefix_alike : (a b : List ℕ) → a ++ END_LINE ≡ b ++ END_LINE → a ≡ b
    prefix_alike a b same = append_cancel_right a b END_LINE same
