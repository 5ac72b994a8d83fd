use Rattle.std.proofs.Common.{sym, ◌∙◌, arith}
use Rattle.std.proofs.lemmas.Option.{none-some, slice_get-get_or}
use Rattle.cil_model.specs.declared.place.Place.TheVariants as places
use Rattle.asm_image.proofs.NameLemmas.{parameters_more}
use Rattle.asm_image.proofs.names.append_places.Goals as goal

pub loop-index-preserved : goal.loop-index-preserved
loop-index-preserved c =
    parameters_more c.args.line.now.items c.loop-index.line.items _ c.args.places.now c.loop-index.index c.in-Some.place
    c.loop-index.invariant (sym c.in-Some.ensures.place) c.in_ok-append_place.ensures

pub returns-in_default : goal.returns-in_default
returns-in_default c =
    let there = slice_get-get_or c.args.places.now c.loop-index.index places.Void (omega arith) in
    absurd (none-some _ (sym c.in_default.is ∙ c.get.ensures.place ∙ there))
