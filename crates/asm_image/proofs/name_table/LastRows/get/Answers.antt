use Rattle.std.proofs.Common.{sym, ap, ◌∙◌, Option, ℕ}
use Rattle.std.specs.Prelude.{unwrap_or}
use Rattle.std.specs.Str.{bytes_eq}
use Rattle.asm_image.proofs.NameTableLemmas.{lookup-seen}
use Rattle.asm_image.proofs.name_table.LastRows.get.Goals as goal

pub returns : goal.returns
returns c =
    rw (← c.self.view_is)
    (c.unwrap_or.ensures ∙ ap (λ (found : Option ℕ). unwrap_or found 0) (c.copied.ensures ∙ c.get.ensures.value ∙ sym (lookup-seen (λ key. key.items) (bytes_eq c.args.name.now) c.self.inside.rows.entries)))
