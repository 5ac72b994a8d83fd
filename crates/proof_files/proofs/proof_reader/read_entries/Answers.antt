use Rattle.std.proofs.Common.{ℕ, ◌-◌, Bool, List, Some, drop, false, length, true, subst, take}
use Rattle.proof_files.specs.Steps.{IsCutAt, Takes}
use Rattle.proof_files.proofs.UnderWay.{rest_is, way_bad, way_on, way_starts}
use Rattle.proof_files.proofs.proof_reader.read_entries.Goals as goal

pub loop-at-init : goal.loop-at-init
loop-at-init c = way_starts c.args.bytes.now c.none-known.result c.none-known.ensures.entries c.none-known.ensures.keys
    c.requires.begins

pub returns-then-not-branch-clause-err : goal.returns-then-not-branch-clause-err
returns-then-not-branch-clause-err c =
    let whole = rest_is c.args.bytes.now c.loop-at.at in
    let bad =
    way_bad c.args.bytes.now c.loop-at.known c.read_next.new.self c.loop-at.at c.in-Some.end c.requires.size
    c.loop-at.invariant
    (subst (λ (t : List ℕ). IsCutAt t (Some c.in-Some.end)) whole c.in-Some.ensures)
    (subst (λ (t : List ℕ). Takes c.loop-at.known c.read_next.new.self (take c.in-Some.end t) false) whole
    (subst (λ (read : Bool). Takes c.loop-at.known c.read_next.new.self
    (take c.in-Some.end (take (length c.args.bytes.now - c.loop-at.at) (drop c.loop-at.at c.args.bytes.now))) read)
    c.if-not-branch.true c.in_ok-read_next.ensures)) in
    rw c.into-then-not-branch.ensures bad

pub loop-at-preserved : goal.loop-at-preserved
loop-at-preserved c =
    let whole = rest_is c.args.bytes.now c.loop-at.at in
    way_on c.args.bytes.now c.loop-at.known c.read_next.new.self c.loop-at.at c.in-Some.end c.loop-at.invariant
    c.loop-at-test.true
    (subst (λ (t : List ℕ). IsCutAt t (Some c.in-Some.end)) whole c.in-Some.ensures)
    (subst (λ (t : List ℕ). Takes c.loop-at.known c.read_next.new.self (take c.in-Some.end t) true) whole
    (subst (λ (read : Bool). Takes c.loop-at.known c.read_next.new.self
    (take c.in-Some.end (take (length c.args.bytes.now - c.loop-at.at) (drop c.loop-at.at c.args.bytes.now))) read)
    c.if-not-branch.false c.in_ok-read_next.ensures))
