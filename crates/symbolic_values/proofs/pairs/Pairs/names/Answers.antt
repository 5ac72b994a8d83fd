use Rattle.std.proofs.Common.{rules, ◌≡◌, ℕ, suc, ◌-◌, ◌++◌, ◌∷◌, true, length, set, take, drop, Some, pos, refl, sym, ap, subst, ◌∙◌, arith}
use Rattle.std.proofs.lemmas.List.{length-set}
use Rattle.symbolic_values.specs.Names.{as_expr}
use Rattle.symbolic_values.specs.OwnNames.{with_own}
use Rattle.symbolic_values.specs.Pairing.{origin}
use Rattle.symbolic_values.specs.Worth.{NamesAgree, behind_uses}
use Rattle.symbolic_values.proofs.OwnNameLaws.{NamesFrom, long_own, names_end, names_more, own_names_agree, written}
use Rattle.symbolic_values.proofs.pairs.Pairs.names.Goals as goal

pub loop-left-preserved : goal.loop-left-preserved
loop-left-preserved c =
    let pairs = c.args.self.now in
    let names = c.loop-left.names.items in
    let place = c.loop-left.left - 1 in
    let size : c.loop-left.names.len ≡ length names = search rules in
    let is : c.write_own.new.names ≡ with_own pairs place names = c.write_own.ensures ∙ ap (with_own pairs place) c.as_mut_slice.ensures.value in
    let next : suc place ≡ c.loop-left.left = omega (arith, c.loop-left-test.true) in
    let so_far : NamesFrom pairs c.args.count (suc place) names = subst (λ n. NamesFrom pairs c.args.count n names) (sym next) c.loop-left.invariant in
    subst (NamesFrom pairs c.args.count place) (sym (written c.write_own.new.names names c.loop-left.names.len size (ap length is ∙ long_own pairs place names) ∙ is))
    (names_more pairs c.args.count place names (omega (arith, next, c.loop-left.invariant.within)) so_far)

pub returns : goal.returns
returns c =
    let pairs = c.args.self.now in
    let names = c.loop-left.names.items in
    let size : c.loop-left.names.len ≡ length names = search rules in
    let is : c.write.new.names ≡ set names 0 (Some (as_expr 0)) = c.write.ensures ∙ ap (λ l. set l 0 (Some (as_expr 0))) c.as_mut_slice-2.ensures.value in
    let end : c.loop-left.left ≡ 0 = omega (arith, c.loop-left-test.false) in
    let value = written c.write.new.names names c.loop-left.names.len size (ap length is ∙ length-set names 0 (Some (as_expr 0))) ∙ is
    ∙ names_end pairs c.args.count c.loop-left.left names end c.loop-left.invariant in
    record {
      value = value;
      agree = λ number. subst (λ names. NamesAgree names number (behind_uses true number (origin ∷ pairs.keys))) (sym value)
          (own_names_agree pairs c.args.count number);
    }
