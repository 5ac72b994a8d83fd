use Rattle.std.proofs.Common.{ℕ, Bor, Global, List, Option, Vec, None, Some, option_map, ap, arith, length, sym, subst}
use Rattle.std.proofs.Common.{◌∙◌}
use Rattle.proof_files.specs.Held.{keys_held, told}
use Rattle.proof_files.specs.Proofs.{is_among}
use Rattle.proof_files.specs.Steps.{IsEntryOf, IsUnitLineOf}
use Rattle.proof_files.specs.declared.proof_entry.ProofEntry.{ProofEntry}
use Rattle.proof_files.proofs.EntryReading.{entry_taken, key_short, known_none, line_none, parts_none}
use Rattle.proof_files.proofs.known_entries.KnownEntries.read_next.Goals as goal

abbrev Line : Type 0
Line = Vec ℕ Global × Bor (List ℕ)

abbrev IsLine : List ℕ → Option Line → Type 0
IsLine prefix read = IsUnitLineOf prefix (option_map (λ (cut : Line). (cut.0.items, cut.1.now)) read)

pub returns-in_default : goal.returns-in_default
returns-in_default c =
    line_none (keys_held c.args.self.now) c.args.prefix.now
    (subst (IsLine c.args.prefix.now) c.in_default.is c.in_ok-key.ensures)

pub returns-then-has : goal.returns-then-has
returns-then-has c =
    known_none (keys_held c.args.self.now) c.args.prefix.now c.in-Some.key.items c.in-Some.lines.now
    (subst (IsLine c.args.prefix.now) c.in-Some.is c.in_ok-key.ensures)
    (ap (is_among (keys_held c.args.self.now)) (sym c.deref.ensures.value) ∙ sym c.has.ensures ∙ c.if-has.true)

pub read_entry-requires : goal.read_entry-requires
read_entry-requires c = record {
  short = omega (
    arith,
    ap length c.deref-2.ensures.value,
    c.requires.short,
    key_short c.args.prefix.now c.in-Some.key.items c.in-Some.lines.now
        (subst (IsLine c.args.prefix.now) c.in-Some.is c.in_ok-key.ensures),
  );
}

pub returns-in_default-2 : goal.returns-in_default-2
returns-in_default-2 c =
    parts_none (keys_held c.args.self.now) c.args.prefix.now c.in-Some.key.items c.in-Some.lines.now
    (subst (IsLine c.args.prefix.now) c.in-Some.is c.in_ok-key.ensures)
    (subst (λ (key : List ℕ). IsEntryOf key c.in-Some.lines.now None) c.deref-2.ensures.value
    (subst (λ (read : Option ProofEntry). IsEntryOf c.deref-2.result.now c.in-Some.lines.now (option_map told read))
    c.in_default-2.is
    c.in_ok-entry.ensures))

pub returns : goal.returns
returns c =
    entry_taken c.args.self.now c.add.new.self c.args.prefix.now c.in-Some.key.items c.in-Some.lines.now
    (told c.in-Some-2.entry)
    (subst (IsLine c.args.prefix.now) c.in-Some.is c.in_ok-key.ensures)
    (ap (is_among (keys_held c.args.self.now)) (sym c.deref.ensures.value) ∙ sym c.has.ensures ∙ c.if-has.false)
    (subst (λ (key : List ℕ). IsEntryOf key c.in-Some.lines.now (Some (told c.in-Some-2.entry))) c.deref-2.ensures.value
    (subst (λ (read : Option ProofEntry). IsEntryOf c.deref-2.result.now c.in-Some.lines.now (option_map told read))
    c.in-Some-2.is
    c.in_ok-entry.ensures))
    c.in_ok-add.ensures.entries c.in_ok-add.ensures.keys
