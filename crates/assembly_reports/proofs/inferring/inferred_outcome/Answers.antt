use Rattle.std.proofs.Common.{◌≡◌, ℕ, ◌-◌, List, [], length, map, get_or, sym, ap, ◌∙◌}
use Rattle.std.proofs.lemmas.List.{length-map}
use Rattle.asm_image.specs.Rows.{methods_of}
use Rattle.cc_base.specs.Tokens.{row_of}
use Rattle.cil_model.specs.declared.clause.Clause.{Clause}
use Rattle.cil_model.specs.declared.unit.Unit.{Unit as MethodUnit}
use Rattle.safe_worlds.specs.Strengthened.{strengthened}
use Rattle.unit_builder.specs.Bodies.{callee_keys}
use Rattle.unit_builder.specs.Outcomes.{outcome_of}
use Rattle.unit_builder.specs.Scopes.{scope_of}
use Rattle.unit_builder.specs.declared.entry.Outcome.TheVariants.{Analysed}
use Rattle.assembly_reports.proofs.FindAll.{there}
use Rattle.assembly_reports.proofs.InferredEntries.{called_long, row_inferred, row_skipped}
use Rattle.assembly_reports.proofs.inferring.inferred_outcome.Goals as goal

-- The lists of rows that keys name, where the keys are known by then.
lists_told : (inferred lists now : List (List Clause)) (keys told called : List ℕ) → now ≡ lists → lists ≡ map (λ key. get_or inferred (row_of key - 1) []) told → told ≡ keys → keys ≡ called
    → now ≡ map (λ key. get_or inferred (row_of key - 1) []) called
lists_told inferred lists now keys told called shown made from is = shown ∙ made ∙ ap (map (λ key. get_or inferred (row_of key - 1) [])) (from ∙ is)

pub strengthen-requires : goal.strengthen-requires
unfolding outcome_of
strengthen-requires c =
    let asm = c.args.assembly.now in
    let inferred = c.args.inferred.now in
    let (method, at, _) = there (methods_of asm) c.args.index c.requires.there in
    let unit = c.in-Analysed.unit in
    let analysed : outcome_of asm method ≡ Analysed unit = sym ((rw c.requires.alone at c.in_ok-reason.ensures.value) method at) ∙ c.in-Analysed.is in
    let keys = (rw (c.in_ok-reason.ensures.same ∙ c.requires.alone) at c.in_ok-keys-in-Analysed.ensures.value) method unit at analysed in
    let lists = lists_told inferred c.in_ok-lists-in-Analysed.lists.items c.deref-in-Analysed.result.now c.in_ok-keys-in-Analysed.keys.items c.deref.result.now
    (callee_keys (scope_of asm) method) c.deref-in-Analysed.ensures.value c.in_ok-lists-in-Analysed.ensures c.deref.ensures.value keys in
    record {
      lists = ap length lists ∙ length-map (callee_keys (scope_of asm) method) (λ key. get_or inferred (row_of key - 1) [])
          ∙ called_long asm method unit analysed ∙ sym (ap (λ (u : MethodUnit). length u.callees) c.into_parts-unit.ensures.unit);
    }

pub returns-in-Skipped-clause-value : goal.returns-in-Skipped-clause-value
unfolding outcome_of
returns-in-Skipped-clause-value c = λ pick method lists at.
    row_skipped pick c.args.assembly.now method c.in-Skipped.reason
    (sym ((rw c.requires.alone at c.in_ok-reason.ensures.value) method at) ∙ c.in-Skipped.is)

pub returns-in_ok-new-in-Analysed-clause-value : goal.returns-in_ok-new-in-Analysed-clause-value
unfolding outcome_of
returns-in_ok-new-in-Analysed-clause-value c = λ pick method all_are at.
    let asm = c.args.assembly.now in
    let inferred = c.args.inferred.now in
    let unit = c.in-Analysed.unit in
    let analysed : outcome_of asm method ≡ Analysed unit = sym ((rw c.requires.alone at c.in_ok-reason.ensures.value) method at) ∙ c.in-Analysed.is in
    let keys = (rw (c.in_ok-reason.ensures.same ∙ c.requires.alone) at c.in_ok-keys-in-Analysed.ensures.value) method unit at analysed in
    let lists = lists_told inferred c.in_ok-lists-in-Analysed.lists.items c.deref-in-Analysed.result.now c.in_ok-keys-in-Analysed.keys.items c.deref.result.now
    (callee_keys (scope_of asm) method) c.deref-in-Analysed.ensures.value c.in_ok-lists-in-Analysed.ensures c.deref.ensures.value keys in
    let own = c.as_slice.result.now in
    let own_is : own ≡ get_or inferred c.args.index own = rw c.as_slice.ensures c.index-inferred-index.is in
    let made : c.of.result ≡ strengthened unit own c.deref-in-Analysed.result.now =
    c.of.ensures ∙ c.in_ok-new-in-Analysed.ensures.value ∙ ap (λ (u : MethodUnit). strengthened u own c.deref-in-Analysed.result.now) c.into_parts-unit.ensures.unit in
    ap Analysed made ∙ row_inferred pick asm c.args.index method unit at analysed c.requires.accepted inferred own c.deref-in-Analysed.result.now all_are own_is lists
