use Rattle.std.proofs.Common.{◌≡◌, ◌∙◌, sym, ap, subst, false, List, ◌++◌, ◌∷◌, []}
use Rattle.result_cache.specs.Entries.{Entry, is_among, keys_of}
use Rattle.result_cache.proofs.PackedLaws.{on_err, pushed, pushed_entries, rows_behind, same_entries}
use Rattle.result_cache.proofs.packed.Packed.push.Goals as goal

pub invariant_of-self-in_err-row : goal.invariant_of-self-in_err-row
invariant_of-self-in_err-row c =
    rows_behind c.self.inside.bytes.items c.append.new.bytes.items c.make_room.new.rows.items c.make_room.new.heads.items
    c.in_err-row.ensures.err (rw (← c.deref.ensures.value) c.make_room.ensures.rows)

pub returns-in_err-row-clause-err : goal.returns-in_err-row-clause-err
returns-in_err-row-clause-err c =
    on_err c.from_residual-in_err-row.result
    (same_entries c.self.inside.bytes.items c.append.new.bytes.items c.make_room.new.rows.items c.make_room.new.heads.items
    c.in_err-row.ensures.err (rw (← c.deref.ensures.value) c.make_room.ensures.rows) ∙ rw (← c.deref.ensures.value) c.make_room.ensures.entries ∙ c.self.view_is)

pub invariant_of-self-2 : goal.invariant_of-self-2
invariant_of-self-2 c =
    pushed c.self.inside.bytes.items c.append.new.bytes.items c.make_room.new.rows.items c.add_row.new.rows.items
    c.make_room.new.heads.items c.add_row.new.heads.items c.args.key.now c.args.value.now c.args.hash c.in_ok-row.row
    (record {
      after_is = c.in_ok-row.ensures.bytes;
      hash_is = c.requires.hash;
      row_is = c.in_ok-row.ensures.row;
      others_is = c.add_row.ensures.heads;
      all_is = c.add_row.ensures.rows;
    }) (rw (← c.deref.ensures.value) c.make_room.ensures.rows) c.in_ok-make_room.ensures.bucket c.in_ok-make_room.ensures.number
    (subst (λ (entries : List Entry). is_among (keys_of entries) c.args.key.now ≡ false)
    (sym (rw (← c.deref.ensures.value) c.make_room.ensures.entries ∙ c.self.view_is)) c.requires.new)

pub returns-clause-ok : goal.returns-clause-ok
returns-clause-ok c =
    pushed_entries c.self.inside.bytes.items c.append.new.bytes.items c.make_room.new.rows.items c.add_row.new.rows.items
    c.make_room.new.heads.items c.add_row.new.heads.items c.args.key.now c.args.value.now c.args.hash c.in_ok-row.row
    (record {
      after_is = c.in_ok-row.ensures.bytes;
      hash_is = c.requires.hash;
      row_is = c.in_ok-row.ensures.row;
      others_is = c.add_row.ensures.heads;
      all_is = c.add_row.ensures.rows;
    }) (rw (← c.deref.ensures.value) c.make_room.ensures.rows)
    ∙ ap (λ (entries : List Entry). entries ++ (c.args.key.now, c.args.value.now) ∷ [])
    (rw (← c.deref.ensures.value) c.make_room.ensures.entries ∙ c.self.view_is)
