use Rattle.std.proofs.Common.{◌≡◌, ◌-◌, ◌+◌, refl, length, eqb, true, false, ap, sym, ◌∙◌, arith}
use Rattle.std.specs.Str.{bytes_eq}
use Rattle.std.proofs.lemmas.Bool.Decides.{nat_tests}
use Rattle.asm_image.specs.Names.{short_name}
use Rattle.asm_image.specs.Rows.{method_token}
use Rattle.pe_reader.specs.Addresses.{metadata}
use Rattle.asm_image.specs.Cells.{method_count}
use Rattle.asm_image.specs.Find.{last_named}
use Rattle.asm_image.proofs.FindLemmas.{short_none, short_found, before_is, last_has, last_within, row_at, rows_count, token_of_row}
use Rattle.asm_image.proofs.assembly.Assembly.find_short.Goals as goal

pub returns-then-row-eq0 : goal.returns-then-row-eq0
returns-then-row-eq0 c =
    let md = metadata c.self.inside.file in
    let last : c.last_of-row.result ≡ last_named md c.args.name.now (method_count md) = c.last_of-row.ensures ∙ c.self.invariant.names_kept.lasts c.args.name.now in
    rw (← c.self.view_is) (short_none md c.args.name.now (method_count md) (sym last ∙ c.if-row-eq0.true))

pub before-requires-clause-last : goal.before-requires-clause-last
before-requires-clause-last c =
    let md = metadata c.self.inside.file in
    let last : c.last_of-row.result ≡ last_named md c.args.name.now (method_count md) = c.last_of-row.ensures ∙ c.self.invariant.names_kept.lasts c.args.name.now in
    omega (arith, last, last_within md c.args.name.now (method_count md), c.self.invariant.names_kept.long)

pub index-requires : goal.index-requires
index-requires c =
    let md = metadata c.self.inside.file in
    let last : c.last_of-row.result ≡ last_named md c.args.name.now (method_count md) = c.last_of-row.ensures ∙ c.self.invariant.names_kept.lasts c.args.name.now in
    omega (arith, last, last_within md c.args.name.now (method_count md), rows_count md, ap length c.self.invariant.methods_kept)

pub returns-then-before-eq0 : goal.returns-then-before-eq0
returns-then-before-eq0 c =
    let md = metadata c.self.inside.file in
    let name = c.args.name.now in
    let row = c.last_of-row.result in
    let last : row ≡ last_named md name (method_count md) = c.last_of-row.ensures ∙ c.self.invariant.names_kept.lasts name in
    let within = last_within md name (method_count md) in
    let has : bytes_eq name (short_name md row) ≡ true = rw last (last_has md name (method_count md) (omega (arith, last))) in
    let before : c.before-2.result ≡ last_named md name (row - 1) =
    c.before-2.ensures ∙ before_is c.self.inside.names.last c.self.inside.names.earlier.items md name row c.self.invariant.names_kept (omega arith) (omega (arith, last, within)) has in
    let there : row - 1 + 1 ≡ row = omega arith in
    let method = row_at md c.self.inside.methods.items (row - 1) c.index.result.now c.self.invariant.methods_kept (omega (arith, last, within)) c.index.ensures in
    let token : c.index.result.now.token ≡ method_token row = ap (λ m. m.token) method ∙ token_of_row md (row - 1 + 1) ∙ ap method_token there in
    let none : eqb c.before-2.result 0 ≡ true = rw c.if-before-eq0.true refl in
    rw (← c.self.view_is, token) (rw none at (short_found md name row c.before-2.result (method_count md) last (omega arith) before))

pub returns-else-before-eq0 : goal.returns-else-before-eq0
returns-else-before-eq0 c =
    let md = metadata c.self.inside.file in
    let name = c.args.name.now in
    let row = c.last_of-row.result in
    let last : row ≡ last_named md name (method_count md) = c.last_of-row.ensures ∙ c.self.invariant.names_kept.lasts name in
    let within = last_within md name (method_count md) in
    let has : bytes_eq name (short_name md row) ≡ true = rw last (last_has md name (method_count md) (omega (arith, last))) in
    let before : c.before-2.result ≡ last_named md name (row - 1) =
    c.before-2.ensures ∙ before_is c.self.inside.names.last c.self.inside.names.earlier.items md name row c.self.invariant.names_kept (omega arith) (omega (arith, last, within)) has in
    let other : eqb c.before-2.result 0 ≡ false = grind (arith, nat_tests) in
    rw (← c.self.view_is) (rw other at (short_found md name row c.before-2.result (method_count md) last (omega arith) before))
