use Rattle.std.proofs.Common.{◌≡◌, ◌-◌, ◌+◌, ◌≤◌, length, ap, refl, sym, ◌∙◌, arith, Some, cond, true, false}
use Rattle.std.specs.Str.{bytes_eq}
use Rattle.std.proofs.lemmas.Slice.Eq.{bytes_eq-Decides}
use Rattle.pe_reader.specs.Addresses.{metadata}
use Rattle.asm_image.specs.Cells.{method_count}
use Rattle.asm_image.specs.Find.{last_named, one_more}
use Rattle.asm_image.specs.Names.{short_name, printed_name}
use Rattle.asm_image.specs.Rows.{method_token}
use Rattle.asm_image.proofs.FindLemmas.{whole_start, prefix_start, whole_next, prefix_next, before_is, last_within, row_at, rows_count, token_of_row, name_of_row}
use Rattle.asm_image.proofs.assembly.Assembly.find_whole.Goals as goal
use Rattle.asm_image.proofs.assembly.Assembly.find_whole.Goals.{then-eq, else-eq}

pub loop-row-init : goal.loop-row-init
loop-row-init c =
    let md = metadata c.self.inside.file in
    let short = c.short_name-short.result.now in
    let last : c.last_of-row.result ≡ last_named md short (method_count md) = c.last_of-row.ensures ∙ c.self.invariant.names_kept.lasts short in
    rw (← c.self.view_is) (record {
      within = omega (arith, last, last_within md short (method_count md));
      has = prefix_start md c.args.name.now short (method_count md) c.last_of-row.result c.short_name-short.ensures last;
      rest = whole_start md c.args.name.now short (method_count md) c.last_of-row.result c.short_name-short.ensures last;
    })

pub index-method-requires : goal.index-method-requires
index-method-requires c =
    let within = rw (← c.self.view_is) at c.loop-row.invariant.within in
    omega (arith, within, rows_count (metadata c.self.inside.file), ap length c.self.invariant.methods_kept)

pub loop-row-smaller : goal.loop-row-smaller
loop-row-smaller c =
    let md = metadata c.self.inside.file in
    let row = c.loop-row.row in
    let within = rw (← c.self.view_is) at c.loop-row.invariant.within in
    let before : c.before-row.result ≡ last_named md (short_name md row) (row - 1) =
    c.before-row.ensures ∙ before_is c.self.inside.names.last c.self.inside.names.earlier.items md (short_name md row) row c.self.invariant.names_kept (omega arith) within ((bytes_eq-Decides (short_name md row) (short_name md row)).1 refl) in
    omega (arith, before, last_within md (short_name md row) (row - 1))

pub loop-row-preserved : goal.loop-row-preserved
loop-row-preserved c =
    let md = metadata c.self.inside.file in
    let row = c.loop-row.row in
    let name = c.args.name.now in
    let some : 1 ≤ row = omega arith in
    let within = rw (← c.self.view_is) at c.loop-row.invariant.within in
    let has = rw (← c.self.view_is) at c.loop-row.invariant.has some in
    let before : c.before-row.result ≡ last_named md (short_name md row) (row - 1) =
    c.before-row.ensures ∙ before_is c.self.inside.names.last c.self.inside.names.earlier.items md (short_name md row) row c.self.invariant.names_kept some within ((bytes_eq-Decides (short_name md row) (short_name md row)).1 refl) in
    let there : row - 1 + 1 ≡ row = omega arith in
    let method = row_at md c.self.inside.methods.items (row - 1) c.index-method.result.now c.self.invariant.methods_kept (omega (arith, within)) c.index-method.ensures in
    let token : c.index-method.result.now.token ≡ method_token row = ap (λ m. m.token) method ∙ token_of_row md (row - 1 + 1) ∙ ap method_token there in
    let named : c.as_slice.result.now ≡ printed_name md row = c.as_slice.ensures ∙ ap (λ m. m.name) method ∙ name_of_row md (row - 1 + 1) ∙ ap (printed_name md) there in
    let more : c.if-eq.found ≡ cond (bytes_eq name (printed_name md row)) (Some (one_more c.loop-row.found (method_token row))) c.loop-row.found =
    elim c.if-eq.branch [
      | then-eq w ↦
          let test : bytes_eq name (printed_name md row) ≡ true = rw (← named) (sym c.eq.ensures ∙ w.if-eq.true) in
          rw (test, w.found-is, w.one_more.ensures, token) refl
      | else-eq w ↦
          let test : bytes_eq name (printed_name md row) ≡ false = rw (← named) (sym c.eq.ensures ∙ w.if-eq.false) in
          rw (test, w.found-is) refl
    ] in
    rw (← c.self.view_is) (record {
      within = omega (arith, before, last_within md (short_name md row) (row - 1), within);
      has = prefix_next md name row c.before-row.result has before;
      rest = whole_next md name row c.before-row.result c.loop-row.found c.if-eq.found _ has some before more (rw (← c.self.view_is) at c.loop-row.invariant.rest);
    })
