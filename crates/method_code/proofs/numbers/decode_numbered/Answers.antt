use Rattle.std.proofs.Common.{ℕ, List, ◌≡◌, ◌<◌, ◌+◌, ◌^◌, length, map, sym, ap, ◌∙◌, subst}
use Rattle.method_code.specs.Called.{callees_of}
use Rattle.method_code.specs.Numbering.{numbered_instr}
use Rattle.method_code.proofs.NumberedCode.{instrs_decoded}
use Rattle.method_code.proofs.FirstUses.{few_callees}
use Rattle.method_code.proofs.numbers.decode_numbered.Goals as goal

pub number_code-requires : goal.number_code-requires
number_code-requires g c =
    record {
      few = subst (λ (callees : List ℕ). length callees + 100 < 2 ^ 32) (sym (c.in_ok-callees.ensures ∙ ap (callees_of (g.T.Tokens.meaning c.args.tokens.now)) c.deref.ensures.value))
          (few_callees (g.T.Tokens.meaning c.args.tokens.now) c.in_ok-instrs.instrs.items c.args.code.now c.in_ok-instrs.ensures.found c.requires.short);
    }

pub returns-clause-decoded : goal.returns-clause-decoded
returns-clause-decoded g c =
    let meaning = g.T.Tokens.meaning c.args.tokens.now in
    let raw = c.in_ok-instrs.instrs.items in
    let callees : c.in_ok-callees.callees ≡ callees_of meaning raw = c.in_ok-callees.ensures ∙ ap (callees_of meaning) c.deref.ensures.value in
    instrs_decoded meaning c.args.code.now raw c.number_code.new.instrs.items (g.met.T.Tokens.small c.args.tokens.now) c.requires.short c.in_ok-instrs.ensures.judged.1 c.in_ok-instrs.ensures.found
    (c.number_code.ensures ∙ ap (λ (keys : List ℕ). map (numbered_instr meaning keys) raw) callees)
