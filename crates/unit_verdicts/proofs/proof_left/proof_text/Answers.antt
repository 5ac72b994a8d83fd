use Rattle.std.proofs.Common.{◌≡◌, ℕ, suc, ◌+◌, List, [], ◌∷◌, ◌++◌, take, sym, subst, arith}
use Rattle.proof_files.specs.Held.{IsMadeOf}
use Rattle.proof_files.specs.Proofs.{Entry}
use Rattle.result_cache.specs.Entries.{Entry as CacheEntry}
use Rattle.result_cache.proofs.EntryLemmas.{standing_is, take_next}
use Rattle.unit_verdicts.specs.ProofLeft.{spelled_entries}
use Rattle.unit_verdicts.proofs.Spelled.{entries_next, spelled_next}
use Rattle.unit_verdicts.proofs.proof_left.proof_text.Goals as goal

pub add_unit-requires : goal.add_unit-requires
add_unit-requires g c =
    standing_is [] (g.E.Entries.entries c.args.entries.now) c.loop-place.place (c.in-Some.key.now, c.in-Some.invariant.now) c.requires
    (sym c.in-Some.ensures)

pub loop-place-preserved : goal.loop-place-preserved
loop-place-preserved g c =
    let all = g.E.Entries.entries c.args.entries.now in
    let place = c.loop-place.place in
    let e : CacheEntry = (c.in-Some.key.now, c.in-Some.invariant.now) in
    let one : suc place ≡ place + 1 = omega arith in
    let next : take (place + 1) all ≡ take place all ++ e ∷ [] =
    subst (λ (count : ℕ). take count all ≡ take place all ++ e ∷ []) one (take_next all place e (sym c.in-Some.ensures)) in
    let more = spelled_next (take place all) (take (place + 1) all) e next in (
      subst (λ (entries : List Entry). IsMadeOf entries c.add_unit.new.text) (sym more)
          (c.in_ok-add_unit.ensures.made (spelled_entries (take place all)) c.loop-place.invariant.0),
      entries_next (take place all) (take (place + 1) all) e next c.loop-place.invariant.1 c.in_ok-add_unit.ensures.entry,
    )
