-- What the steps of reading and writing a proof file give.
use Rattle.std.specs.Prelude.{◌≡◌, ℕ, ◌<◌, Bool, true, false, List, [], ◌∷◌, ◌++◌, ◌+◌, length, nat_le, take}
use Rattle.std.specs.Prelude.{if◌then◌else◌, Option, Some, None, codes}
use Rattle.cc_base.specs.Digits.{hex, hex_digit}
use Rattle.cc_base.specs.LittleEndian.{IsBytes}
use Rattle.cil_model.specs.declared.unit.Unit.{Unit as MethodUnit}
use Rattle.invariant_reader.specs.Reading.{IsTextOf}
use Rattle.invariant_text.specs.InvariantText.{invariant_text}
use Rattle.method_unit.specs.Units.{IsUnit}
use Rattle.state_facts.specs.StateFacts.{State}
use Rattle.transfer_rules.specs.Inductive.{HasShape}
use Rattle.unit_flow.specs.declared.unit_flow.UnitFlow.{UnitFlow}
use Rattle.unit_form.specs.Spelling.{unit_bytes}
use Rattle.proof_files.specs.Held.{WrittenProof, entries_held, keys_held}
use Rattle.proof_files.specs.Lines.{IsCut, IsUncut, NoFeed}
use Rattle.proof_files.specs.Proofs.{Entry, FIRST_LINE, IsEntry, IsNewEntry, MAX_PROOF_BYTES, blocks_of, prefix_text}
use Rattle.proof_files.specs.Proofs.{hex_text, key_of}
use Rattle.proof_files.specs.declared.known_entries.KnownEntries.{KnownEntries}

-- ---- hexadecimal

-- The number below 16 that has this digit.
abbrev pub IsDigitOf : ℕ → Option ℕ → Type 0
IsDigitOf digit (Some n) = (n < 16) × (hex_digit n ≡ digit)
IsDigitOf digit None = (n : ℕ) → n < 16 → hex_digit n ≡ digit → ⊥

-- The byte that has these two digits.
abbrev pub IsByteOf : ℕ → ℕ → Option ℕ → Type 0
IsByteOf high low (Some byte) = (byte < 256) × (hex 2 byte ≡ high ∷ low ∷ [])
IsByteOf high low None = (byte : ℕ) → byte < 256 → hex 2 byte ≡ high ∷ low ∷ [] → ⊥

-- The bytes that have this text.
abbrev pub IsHexOf : List ℕ → Option (List ℕ) → Type 0
IsHexOf text (Some bytes) = IsBytes bytes × (hex_text bytes ≡ text)
IsHexOf text None = (bytes : List ℕ) → IsBytes bytes → hex_text bytes ≡ text → ⊥

-- ---- lines

-- Where the first line `end` begins.
abbrev pub IsCutAt : List ℕ → Option ℕ → Type 0
IsCutAt text (Some end) = (rest : List ℕ) × IsCut text (take end text) rest
IsCutAt text None = IsUncut text

abbrev pub IsBehindWord : List ℕ → Option (List ℕ) → Type 0
IsBehindWord text (Some rest) = codes "unit " ++ rest ≡ text
IsBehindWord text None = (rest : List ℕ) → codes "unit " ++ rest ≡ text → ⊥

-- The first line, and what is behind its line feed.
abbrev pub IsLineOf : List ℕ → Option (List ℕ × List ℕ) → Type 0
IsLineOf text (Some (line, rest)) = NoFeed line × (line ++ codes "\n" ++ rest ≡ text)
IsLineOf text None = NoFeed text

-- The line of a unit of these bytes, and what comes behind it.
unfoldable pub line_text : List ℕ → List ℕ → List ℕ
line_text key rest = codes "unit " ++ hex_text key ++ codes "\n" ++ rest

abbrev pub IsUnitLineOf : List ℕ → Option (List ℕ × List ℕ) → Type 0
IsUnitLineOf text (Some (key, rest)) = IsBytes key × (line_text key rest ≡ text)
IsUnitLineOf text None = (key rest : List ℕ) → IsBytes key → line_text key rest ≡ text → ⊥

-- The text of an entry, where these are the bytes of the unit and the lines of the invariant.
unfoldable pub parts_text : List ℕ → List ℕ → List ℕ
parts_text key lines = codes "unit " ++ hex_text key ++ codes "\n" ++ lines ++ codes "end\n"

-- Such an entry was added behind the text where there was room for it, and else it is noted that there was none.
abbrev pub IsPut : WrittenProof → WrittenProof → List ℕ → List ℕ → Type 0
IsPut before after key lines =
    after ≡ (if nat_le (length before.text + length (parts_text key lines)) MAX_PROOF_BYTES
    then record { text = before.text ++ parts_text key lines; full = false }
    else record { text = before.text; full = true })

-- ---- an entry

-- The unit of these bytes.
abbrev pub IsUnitOf : List ℕ → Option MethodUnit → Type 0
IsUnitOf key (Some unit) = IsUnit unit × (unit_bytes unit ≡ key)
IsUnitOf key None = (unit : MethodUnit) → IsUnit unit → unit_bytes unit ≡ key → ⊥

-- The states of the unit's shape that have this text.
abbrev pub AreStatesOf : UnitFlow → List ℕ → Option (List State) → Type 0
AreStatesOf code text (Some states) = HasShape code states × IsTextOf code.unit code.graph.blocks states text
AreStatesOf code text None =
    (states : List State) → HasShape code states → IsTextOf code.unit code.graph.blocks states text → ⊥

-- The entry of the unit of these bytes, with the states that have this text.
pub record HasParts (key text : List ℕ) (e : Entry) : Type 0 where
  pub entry : IsEntry e
  pub unit : key_of e ≡ key
  pub lines : invariant_text e.unit (blocks_of e.unit) e.states ≡ text

abbrev pub IsEntryOf : List ℕ → List ℕ → Option Entry → Type 0
IsEntryOf key text (Some e) = HasParts key text e
IsEntryOf key text None = (e : Entry) → HasParts key text e → ⊥

-- ---- all entries

-- The text before the line `end` is that of an entry of another unit than those of the entries that are held, and this
-- entry is held behind these.
pub record TakesEntry (before after : KnownEntries) (prefix : List ℕ) : Type 0 where
  pub e : Entry
  pub new : IsNewEntry (keys_held before) e
  pub text : prefix_text e ≡ prefix
  pub entries : entries_held after ≡ entries_held before ++ e ∷ []
  pub keys : keys_held after ≡ keys_held before ++ key_of e ∷ []

abbrev pub Takes : KnownEntries → KnownEntries → List ℕ → Bool → Type 0
Takes before after prefix true = TakesEntry before after prefix
Takes before after prefix false = (e : Entry) → IsNewEntry (keys_held before) e → prefix_text e ≡ prefix → ⊥

-- The bytes begin with the first line of a proof file.
abbrev pub BeginsProof : List ℕ → Type 0
BeginsProof bytes = (rest : List ℕ) × (FIRST_LINE ++ rest ≡ bytes)

abbrev pub IsBehindFirst : List ℕ → Option (List ℕ) → Type 0
IsBehindFirst bytes (Some rest) = FIRST_LINE ++ rest ≡ bytes
IsBehindFirst bytes None = (rest : List ℕ) → FIRST_LINE ++ rest ≡ bytes → ⊥
