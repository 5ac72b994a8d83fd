use Rattle.std.proofs.Common.{◌≡◌, ◌++◌, List, [], ◌∷◌, false, sym, ap, subst, ◌∙◌}
use Rattle.proof_files.specs.Held.{told}
use Rattle.proof_files.specs.Proofs.{Entry, is_among, keys_of}
use Rattle.unit_form.specs.Spelling.{unit_bytes}
use Rattle.unit_verdicts.proofs.Stating.{keyed_more, stated_more}
use Rattle.unit_verdicts.proofs.proved_units.ProvedUnits.add.Goals as goal

pub invariant_of-self-2 : goal.invariant_of-self-2
invariant_of-self-2 c =
    let absent = subst (λ (entries : List Entry). is_among (keys_of entries) (unit_bytes c.args.entry.unit) ≡ false) (sym c.self.view_is) c.requires.new in
    keyed_more c.self.inside.invariants.entries c.insert.new.self.entries c.in_ok-key.key c.args.entry.inv c.args.entry.unit c.self.invariant
    c.requires.unit c.in_ok-key.ensures absent c.in_ok-insert.ensures.entries

pub returns : goal.returns
returns c =
    let absent = subst (λ (entries : List Entry). is_among (keys_of entries) (unit_bytes c.args.entry.unit) ≡ false) (sym c.self.view_is) c.requires.new in
    stated_more c.self.inside.invariants.entries c.insert.new.self.entries c.in_ok-key.key c.args.entry.inv c.args.entry.unit c.self.invariant
    c.requires.unit c.in_ok-key.ensures absent c.in_ok-insert.ensures.entries
    ∙ ap (λ (entries : List Entry). entries ++ told c.args.entry ∷ []) c.self.view_is
