use Rattle.std.proofs.Common.{◌≡◌, Some, None, arith}
use Rattle.metadata_tables.specs.Root.{name_of}
use Rattle.metadata_tables.proofs.RootLemmas.{name_of-is, next_header-is, header-short, header-endless, header-long, header-outside, header-good}
use Rattle.metadata_tables.proofs.root.read_header.Goals as goal
use Rattle.metadata_tables.proofs.root.read_header.Goals.{then-md-next-via-then-md-next, then-md-next-via-else-md-next+then-md-from}

pub returns-then-md-at-lt8-clause-judged : goal.returns-then-md-at-lt8-clause-judged
returns-then-md-at-lt8-clause-judged c = header-short c.args.md.now c.args.at (omega arith) (omega arith)

pub returns-in_default-clause-judged : goal.returns-in_default-clause-judged
returns-in_default-clause-judged c =
    header-endless c.args.md.now c.args.at (omega arith) (name_of-is c.args.md.now c.args.at None c.in_default.ensures)

pub returns-then-md-next-clause-judged : goal.returns-then-md-next-clause-judged
returns-then-md-next-clause-judged c =
    let md = c.args.md.now in
    let named : name_of md c.args.at ≡ Some c.in-Some.name.now = name_of-is md c.args.at (Some c.in-Some.name.now) c.in-Some.ensures in
    elim c.then-md-next.branch [
      | then-md-next-via-then-md-next w ↦ header-long md c.args.at c.in-Some.name.now (omega arith) named (omega arith)
      | then-md-next-via-else-md-next+then-md-from w ↦ header-outside md c.args.at c.in-Some.name.now (omega arith) named (omega arith) (omega (arith, c.u32_at.ensures, c.u32_at-2.ensures))
    ]

pub returns-clause-judged : goal.returns-clause-judged
returns-clause-judged c =
    let md = c.args.md.now in
    let named : name_of md c.args.at ≡ Some c.in-Some.name.now = name_of-is md c.args.at (Some c.in-Some.name.now) c.in-Some.ensures in
    (header-good md c.args.at c.in-Some.name.now (omega arith) named (omega arith) (omega (arith, c.u32_at.ensures, c.u32_at-2.ensures)), tt)

pub returns-clause-name : goal.returns-clause-name
returns-clause-name c = name_of-is c.args.md.now c.args.at (Some c.in-Some.name.now) c.in-Some.ensures

pub returns-clause-next : goal.returns-clause-next
returns-clause-next c =
    let md = c.args.md.now in
    let named : name_of md c.args.at ≡ Some c.in-Some.name.now = name_of-is md c.args.at (Some c.in-Some.name.now) c.in-Some.ensures in
    next_header-is md c.args.at c.in-Some.name.now named
