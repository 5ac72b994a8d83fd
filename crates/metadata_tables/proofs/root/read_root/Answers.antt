use Rattle.std.proofs.Common.{◌≢◌, sym, ◌∙◌, arith}
use Rattle.cc_base.specs.LittleEndian.{u32_at}
use Rattle.metadata_tables.specs.Root.{signature}
use Rattle.metadata_tables.proofs.RootLemmas.{root-good, root-other, root-short, version-is, headers_at-is}
use Rattle.metadata_tables.proofs.root.read_root.Goals as goal
use Rattle.metadata_tables.proofs.root.read_root.Goals.{then-md-lt16-via-then-md-lt16, then-md-lt16-via-else-md-lt16+then-u32_at-ne-SIGNATURE}

pub returns-then-md-lt16-clause-judged : goal.returns-then-md-lt16-clause-judged
returns-then-md-lt16-clause-judged c =
    elim c.then-md-lt16.branch [
      | then-md-lt16-via-then-md-lt16 w ↦ root-short c.args.md.now (omega arith)
      | then-md-lt16-via-else-md-lt16+then-u32_at-ne-SIGNATURE w ↦
          let other : u32_at c.args.md.now 0 ≢ signature = λ same. w.if-u32_at-ne-SIGNATURE.true (w.u32_at.ensures ∙ same) in
          root-other c.args.md.now (omega arith) other
    ]

pub returns-then-md-first-clause-judged : goal.returns-then-md-first-clause-judged
returns-then-md-first-clause-judged c = root-short c.args.md.now (omega (arith, version-is c.args.md.now, c.u32_at-2.ensures))

pub returns-clause-judged : goal.returns-clause-judged
returns-clause-judged c =
    (root-good c.args.md.now (omega (arith, version-is c.args.md.now, c.u32_at-2.ensures)) (sym c.u32_at.ensures ∙ c.if-u32_at-ne-SIGNATURE.false), tt)

pub returns-clause-place : goal.returns-clause-place
returns-clause-place c = omega (arith, headers_at-is c.args.md.now, version-is c.args.md.now, c.u32_at-2.ensures)
