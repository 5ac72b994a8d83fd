use Rattle.std.proofs.Common.{List, ℕ, Vec, Global, Bor, Option, option_map, ap, sym, refl}
use Rattle.domain_api.specs.declared.expr.Expr.{Expr}
use Rattle.invariant_reader.proofs.Repeats.{pair}
use Rattle.invariant_reader.proofs.SegmentReads.{bound_read, bound_unbegun, bound_unended, exprs_missed}
use Rattle.invariant_reader.proofs.segments.read_bound.Goals as goal

abbrev told : Option (Vec Expr Global × Bor (List ℕ)) → Option (List Expr × List ℕ)
told read = option_map (λ it. pair it.0.items it.1.now) read

pub returns-in_default : goal.returns-in_default
returns-in_default c = bound_unbegun c.args.text.now c.in_default.ensures

pub returns-in_default-2 : goal.returns-in_default-2
returns-in_default-2 c =
    exprs_missed c.args.text.now c.in-Some.left.now (told c.in_ok-read.field-0) c.in-Some.ensures c.in_ok-read.ensures
    (sym (ap told c.in_default-2.is))

pub returns-in_default-behind : goal.returns-in_default-behind
returns-in_default-behind c =
    bound_unended c.args.text.now c.in-Some.left.now (told c.in_ok-read.field-0) c.in-Some-2.read.0.items
    c.in-Some-2.read.1.now c.in-Some.ensures c.in_ok-read.ensures (sym (ap told c.in-Some-2.is)) c.in_default-behind.ensures

pub returns : goal.returns
returns c =
    bound_read c.args.text.now c.in-Some.left.now (told c.in_ok-read.field-0) c.in-Some-2.read.0.items
    c.in-Some-2.read.1.now c.in-Some-behind.left.now c.in-Some.ensures c.in_ok-read.ensures (sym (ap told c.in-Some-2.is))
    c.in-Some-behind.ensures
