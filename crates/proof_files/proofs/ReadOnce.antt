-- Of one byte string no two things are read.
use Rattle.std.proofs.Common.{◌≡◌, ◌⊎◌, ℕ, ◌<◌, ◌≤◌, List, [], ◌∷◌, ◌++◌, length, refl, sym, ap, ap₂, ◌∙◌, subst}
use Rattle.std.proofs.Common.{append_assoc, append-nil, inl, inr, arith, length-append}
use Rattle.std.specs.List.{flat_map}
use Rattle.std.proofs.lemmas.List.{append_cancel_left}
use Rattle.std.proofs.lemmas.List.Concat.{flat_map-cons}
use Rattle.proof_files.specs.Lines.{END_LINE, IsCut}
use Rattle.proof_files.specs.Proofs.{AreEntries, AreEntriesBehind, Entry, FIRST_LINE, IsNewEntry, IsProofOf, entry_text}
use Rattle.proof_files.specs.Proofs.{prefix_text, key_of, keys_of, proof_text}
use Rattle.proof_files.specs.Reading.{BreaksAt, IsBadEntry, IsFaultOf, IsProofRead, IsUnended, ProofRead, Refused}
use Rattle.proof_files.specs.Reading.{Whole}
use Rattle.proof_files.specs.declared.proof_fault.ProofFault.TheVariants.{Form, Large, Version}
use Rattle.proof_files.proofs.EntryLemmas.{entry_cut, entry_once}
use Rattle.proof_files.proofs.LineLemmas.{cut_never, cut_once}

-- Nothing is left, or a bad entry, or text without a line `end`.
abbrev pub Stops : List (List ℕ) → List ℕ → Type 0
Stops keys rest = (rest ≡ []) ⊎ (IsBadEntry keys rest ⊎ IsUnended rest)

prefix_of_none : (prefix more : List ℕ) → prefix ++ END_LINE ++ more ≡ [] → ⊥
prefix_of_none [] more same = absurd cc
prefix_of_none (b ∷ prefix) more same = absurd cc

-- No new entry comes where reading stops.
pub no_entry : (keys : List (List ℕ)) (rest : List ℕ) (e : Entry) (more : List ℕ) → Stops keys rest → IsNewEntry keys e
    → entry_text e ++ more ≡ rest → ⊥
no_entry keys rest e more (inl nothing) new same = prefix_of_none (prefix_text e) more (same ∙ nothing)
no_entry keys rest e more (inr (inl bad)) new same =
    let cut = subst (λ (t : List ℕ). IsCut t (prefix_text e) more) same (entry_cut e more) in
    let both = cut_once rest (prefix_text e) more bad.prefix bad.rest cut bad.cut in
    bad.none e new (ap (λ (t : List ℕ). t ++ END_LINE) both.0)
no_entry keys rest e more (inr (inr unended)) new same =
    cut_never rest (prefix_text e) more (subst (λ (t : List ℕ). IsCut t (prefix_text e) more) same (entry_cut e more))
    unended.uncut

-- The first entry, and what comes behind it.
pub entries_first : (e : Entry) (es : List Entry) (rest : List ℕ)
    → flat_map entry_text (e ∷ es) ++ rest ≡ entry_text e ++ (flat_map entry_text es ++ rest)
entries_first e es rest =
    ap (λ (t : List ℕ). t ++ rest) (flat_map-cons entry_text e es)
    ∙ append_assoc (entry_text e) (flat_map entry_text es) rest

record AreOnce (entries others : List Entry) (rest more : List ℕ) : Type 0 where
  same : entries ≡ others
  rests : rest ≡ more

prefix_same : (e f : Entry) (r s : List ℕ) → entry_text e ++ r ≡ entry_text f ++ s
    → (prefix_text e ≡ prefix_text f) × (r ≡ s)
prefix_same e f r s same =
    cut_once (entry_text f ++ s) (prefix_text e) r (prefix_text f) s
    (subst (λ (t : List ℕ). IsCut t (prefix_text e) r) same (entry_cut e r)) (entry_cut f s)

behind_key : (keys : List (List ℕ)) (e : Entry) (es : List Entry) (rest : List ℕ)
    → Stops (keys ++ keys_of (e ∷ es)) rest
    → Stops ((keys ++ key_of e ∷ []) ++ keys_of es) rest
behind_key keys e es rest stops =
    subst (λ (ks : List (List ℕ)). Stops ks rest) (sym (append_assoc keys (key_of e ∷ []) (keys_of es))) stops

entries_once : (keys : List (List ℕ)) (es fs : List Entry) (rest more : List ℕ) → AreEntriesBehind keys es
    → AreEntriesBehind keys fs
    → Stops (keys ++ keys_of es) rest → Stops (keys ++ keys_of fs) more
    → flat_map entry_text es ++ rest ≡ flat_map entry_text fs ++ more → AreOnce es fs rest more
entries_once keys [] [] rest more es_are fs_are stops ends same = record { same = refl; rests = same }
entries_once keys [] (f ∷ fs) rest more es_are fs_are stops ends same =
    absurd (no_entry keys rest f (flat_map entry_text fs ++ more)
    (subst (λ (ks : List (List ℕ)). Stops ks rest) (append-nil keys) stops) fs_are.0
    (sym (same ∙ entries_first f fs more)))
entries_once keys (e ∷ es) [] rest more es_are fs_are stops ends same =
    absurd (no_entry keys more e (flat_map entry_text es ++ rest)
    (subst (λ (ks : List (List ℕ)). Stops ks more) (append-nil keys) ends) es_are.0 (sym (entries_first e es rest)
    ∙ same))
entries_once keys (e ∷ es) (f ∷ fs) rest more es_are fs_are stops ends same =
    let both = prefix_same e f (flat_map entry_text es ++ rest) (flat_map entry_text fs ++ more)
    (sym (entries_first e es rest) ∙ same ∙ entries_first f fs more) in
    let one : e ≡ f = entry_once e f es_are.0.entry fs_are.0.entry both.0 in
    let later = entries_once (keys ++ key_of e ∷ []) es fs rest more es_are.1
    (subst (λ (it : Entry). AreEntriesBehind (keys ++ key_of it ∷ []) fs) (sym one) fs_are.1)
    (behind_key keys e es rest stops)
    (subst (λ (it : Entry). Stops ((keys ++ key_of it ∷ []) ++ keys_of fs) more) (sym one)
    (behind_key keys f fs more ends)) both.1 in
    record { same = ap₂ (λ (it : Entry) (its : List Entry). it ∷ its) one later.same; rests = later.rests }

text_behind : (es fs : List Entry) (rest more : List ℕ) → proof_text es ++ rest ≡ proof_text fs ++ more
    → flat_map entry_text es ++ rest ≡ flat_map entry_text fs ++ more
unfolding proof_text
text_behind es fs rest more same =
    append_cancel_left FIRST_LINE _ _
    (sym (append_assoc FIRST_LINE (flat_map entry_text es) rest) ∙ same
    ∙ append_assoc FIRST_LINE (flat_map entry_text fs) more)

parts_once : (es fs : List Entry) (rest more : List ℕ) → AreEntries es → AreEntries fs → Stops (keys_of es) rest
    → Stops (keys_of fs) more → proof_text es ++ rest ≡ proof_text fs ++ more → AreOnce es fs rest more
parts_once es fs rest more es_are fs_are stops ends same =
    entries_once [] es fs rest more es_are fs_are stops ends (text_behind es fs rest more same)

-- ---- two readings

begins : (es : List Entry) (rest bytes : List ℕ) → proof_text es ++ rest ≡ bytes
    → ((rest : List ℕ) → FIRST_LINE ++ rest ≡ bytes → ⊥) → ⊥
unfolding proof_text
begins es rest bytes same other =
    other (flat_map entry_text es ++ rest) (sym (append_assoc FIRST_LINE (flat_map entry_text es) rest) ∙ same)

whole_is : (es : List Entry) (bytes : List ℕ) → IsProofOf es bytes → proof_text es ++ [] ≡ bytes
whole_is es bytes is = append-nil (proof_text es) ∙ is.same

stops_there : (bytes : List ℕ) (at : ℕ) (breaks : BreaksAt bytes at) → Stops (keys_of breaks.entries) breaks.rest
stops_there bytes at breaks = by breaks.fault
  where
    by : (IsBadEntry (keys_of breaks.entries) breaks.rest × (at ≡ length (proof_text breaks.entries)))
        ⊎ (IsUnended breaks.rest × (at ≡ length bytes)) → Stops (keys_of breaks.entries) breaks.rest
    by (inl bad) = inr (inl bad.0)
    by (inr unended) = inr (inr unended.0)

bad_is_some : (keys : List (List ℕ)) (rest : List ℕ) → IsBadEntry keys rest → rest ≡ [] → ⊥
bad_is_some keys rest bad nothing = prefix_of_none bad.prefix bad.rest (bad.cut.same ∙ nothing)

whole_breaks : (es : List Entry) (bytes : List ℕ) (at : ℕ) → IsProofOf es bytes → BreaksAt bytes at → ⊥
whole_breaks es bytes at is breaks =
    let both = parts_once es breaks.entries [] breaks.rest is.are breaks.are (inl refl) (stops_there bytes at breaks)
    (whole_is es bytes is ∙ sym breaks.same) in
    by both.rests breaks.fault
  where
    by : [] ≡ breaks.rest
        → (IsBadEntry (keys_of breaks.entries) breaks.rest × (at ≡ length (proof_text breaks.entries)))
        ⊎ (IsUnended breaks.rest × (at ≡ length bytes)) → ⊥
    by nothing (inl bad) = bad_is_some (keys_of breaks.entries) breaks.rest bad.0 (sym nothing)
    by nothing (inr unended) = unended.0.some (sym nothing)

breaks_once : (bytes : List ℕ) (at other : ℕ) → BreaksAt bytes at → BreaksAt bytes other → at ≡ other
breaks_once bytes at other one two =
    let both = parts_once one.entries two.entries one.rest two.rest one.are two.are (stops_there bytes at one)
    (stops_there bytes other two) (one.same ∙ sym two.same) in
    by both.same both.rests one.fault two.fault
  where
    by : one.entries ≡ two.entries → one.rest ≡ two.rest
        → (IsBadEntry (keys_of one.entries) one.rest × (at ≡ length (proof_text one.entries)))
        ⊎ (IsUnended one.rest × (at ≡ length bytes))
        → (IsBadEntry (keys_of two.entries) two.rest × (other ≡ length (proof_text two.entries)))
        ⊎ (IsUnended two.rest × (other ≡ length bytes)) → at ≡ other
    by same rests (inl bad) (inl worse) = bad.1 ∙ ap (λ (es : List Entry). length (proof_text es)) same ∙ sym worse.1
    by same rests (inl bad) (inr unended) =
        absurd (cut_never two.rest bad.0.prefix bad.0.rest
        (subst (λ (t : List ℕ). IsCut t bad.0.prefix bad.0.rest) rests bad.0.cut)
        unended.0.uncut)
    by same rests (inr unended) (inl bad) =
        absurd (cut_never one.rest bad.0.prefix bad.0.rest
        (subst (λ (t : List ℕ). IsCut t bad.0.prefix bad.0.rest) (sym rests) bad.0.cut)
        unended.0.uncut)
    by same rests (inr unended) (inr also) = unended.1 ∙ sym also.1

pub whole_once : (es fs : List Entry) (bytes : List ℕ) → IsProofOf es bytes → IsProofOf fs bytes → es ≡ fs
whole_once es fs bytes one two =
    (parts_once es fs [] [] one.are two.are (inl refl) (inl refl) (whole_is es bytes one
    ∙ sym (whole_is fs bytes two))).same

not_both : (bytes : List ℕ) → 67108864 < length bytes → length bytes ≤ 67108864 → ⊥
not_both bytes more less = omega (arith, more, less)

pub one_read : (bytes : List ℕ) (a b : ProofRead) → IsProofRead bytes a → IsProofRead bytes b → a ≡ b
one_read bytes (Whole es) (Whole fs) one two = ap Whole (whole_once es fs bytes one two)
one_read bytes (Whole es) (Refused Large) one two = absurd (not_both bytes two one.size)
one_read bytes (Whole es) (Refused Version) one two = absurd (begins es [] bytes (whole_is es bytes one) two.1)
one_read bytes (Whole es) (Refused (Form at)) one two = absurd (whole_breaks es bytes at one two.1)
one_read bytes (Refused Large) (Whole es) one two = absurd (not_both bytes one two.size)
one_read bytes (Refused Version) (Whole es) one two = absurd (begins es [] bytes (whole_is es bytes two) one.1)
one_read bytes (Refused (Form at)) (Whole es) one two = absurd (whole_breaks es bytes at two one.1)
one_read bytes (Refused Large) (Refused Large) one two = refl
one_read bytes (Refused Large) (Refused Version) one two = absurd (not_both bytes one two.0)
one_read bytes (Refused Large) (Refused (Form at)) one two = absurd (not_both bytes one two.0)
one_read bytes (Refused Version) (Refused Large) one two = absurd (not_both bytes two one.0)
one_read bytes (Refused Version) (Refused Version) one two = refl
one_read bytes (Refused Version) (Refused (Form at)) one two = absurd
    (begins two.1.entries two.1.rest bytes two.1.same one.1)
one_read bytes (Refused (Form at)) (Refused Large) one two = absurd (not_both bytes two one.0)
one_read bytes (Refused (Form at)) (Refused Version) one two = absurd
    (begins one.1.entries one.1.rest bytes one.1.same two.1)
one_read bytes (Refused (Form at)) (Refused (Form other)) one two =
    ap (λ (n : ℕ). Refused (Form n)) (breaks_once bytes at other one.1 two.1)

-- ---- where a fault is

pub fault_within : (bytes : List ℕ) (at : ℕ) → IsFaultOf bytes (Form at) → at ≤ length bytes
fault_within bytes at is = by is.1.fault
  where
    by : (IsBadEntry (keys_of is.1.entries) is.1.rest × (at ≡ length (proof_text is.1.entries)))
        ⊎ (IsUnended is.1.rest × (at ≡ length bytes)) → at ≤ length bytes
    by (inl bad) = omega (arith, bad.1, ap length is.1.same, length-append (proof_text is.1.entries) is.1.rest)
    by (inr unended) = omega (arith, unended.1)
