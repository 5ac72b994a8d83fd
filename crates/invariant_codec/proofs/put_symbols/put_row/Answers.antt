use Rattle.std.proofs.Common.{◌≡◌, ◌++◌, rules, subst, to_z, of_z, w64}
use Rattle.std.specs.Prelude.{OnOk}
use Rattle.invariant_codec.specs.Spelling.{int64_bytes, names_bytes, row_bytes}
use Rattle.invariant_codec.proofs.PutSteps.{put_after}
use Rattle.invariant_codec.proofs.put_symbols.put_row.Goals as goal

pub returns : goal.returns
unfolding row_bytes
returns c =
    let same : to_z w64 (of_z w64 c.args.row.k) ≡ c.args.row.k = search rules in
    subst (λ k. OnOk c.put_i64.result (c.put_i64.new.out.items ≡ c.args.out.now.items
    ++ (names_bytes c.args.row.s c.args.row.t ++ int64_bytes k))) same
    (put_after c.put_i64.result c.args.out.now.items _ _ (names_bytes c.args.row.s c.args.row.t)
    (int64_bytes (to_z w64 (of_z w64 c.args.row.k))) c.in_ok-put_names.ensures c.put_i64.ensures)
