use Rattle.std.proofs.Common.{◌≡◌, ◌++◌, ◌∷◌, [], ap, ◌∙◌, sym, rules, true}
use Rattle.clause_eval.specs.GivenArrays.{is_array, items_of, place_of}
use Rattle.cil_eval.proofs.StartLemmas.{all_put, one_put, rest_fits, rest_short}
use Rattle.cil_eval.proofs.given.+put_arrays.Goals as goal

pub put_arrays-requires-2 : goal.put_arrays-requires-2
put_arrays-requires-2 t c =
    let all = c.args.args.now in
    let first = c.first-item.result in
    let array : is_array first ≡ true = sym c.if-not-is_array.ensures in
    let new : c.put.new.self ≡ record { heap = c.args.memory.now.heap ++ record { place = place_of first; items = items_of first } ∷ []; limit = c.args.memory.now.limit } =
    c.put.ensures ∙ one_put all first c.args.memory.now c.in-len1-up.len_at_least c.first-item.is array c.requires.room in (
      search rules,
      (
        rest_short all first c.in-len1-up.len_at_least c.first-item.is c.requires.short,
        rw new (rest_fits all first c.args.memory.now c.in-len1-up.len_at_least c.first-item.is array c.requires.room),
      ),
    )

pub returns : goal.returns
returns t c =
    let all = c.args.args.now in
    let first = c.first-item.result in
    let array : is_array first ≡ true = sym c.if-not-is_array.ensures in
    let new : c.put.new.self ≡ record { heap = c.args.memory.now.heap ++ record { place = place_of first; items = items_of first } ∷ []; limit = c.args.memory.now.limit } =
    c.put.ensures ∙ one_put all first c.args.memory.now c.in-len1-up.len_at_least c.first-item.is array c.requires.room in
    rw (c.put_arrays-2.ensures, new)
    (ap (λ heap. record { heap = heap; limit = c.args.memory.now.limit }) (all_put all first c.args.memory.now c.in-len1-up.len_at_least c.first-item.is array c.requires.room))
