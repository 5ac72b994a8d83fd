use Rattle.std.proofs.Common.{rules, ◌≡◌, subst}
use Rattle.std.specs.Prelude.{IfOk}
use Rattle.cil_model.specs.Terms as terms
use Rattle.frame_names.specs.declared.var.Var.TheVariants as vars
use Rattle.number_spans.specs.Constants.{constant}
use Rattle.state_obligations.specs.Judged.{Judged}
use Rattle.clause_trees.specs.TreeValues.{Finds}
use Rattle.clause_trees.proofs.ValueLemmas.{arg_is, binary_found, condition_found, const_is, element_found, length_found, null_is, old_is, result_is, unary_found}
use Rattle.clause_trees.proofs.reader.Reader.+reading.Goals as goal

pub value-returns-in-Const : goal.value-returns-in-Const
value-returns-in-Const t c =
    let is : c.args.tree.now ≡ terms.Const c.in-Const.n = search rules in
    let has : c.number.result ≡ vars.Number (constant c.in-Const.n) = search rules in
    subst (λ (j : Judged). IfOk c.given.result (λ entailed. Finds entailed c.given.new.state j))
    (const_is c.args.self.env c.args.self.time c.args.tree.now c.in-Const.n c.number.result c.args.state.now is has) c.given.ensures

pub value-returns-in-Arg : goal.value-returns-in-Arg
value-returns-in-Arg t c =
    let is : c.args.tree.now ≡ terms.Arg c.in-Arg.n = search rules in
    subst (λ (j : Judged). IfOk c.argument.result (λ entailed. Finds entailed c.argument.new.state j))
    (arg_is c.args.self.env c.args.self.time c.args.tree.now c.in-Arg.n c.args.state.now is) c.argument.ensures

pub value-returns-in-Null : goal.value-returns-in-Null
value-returns-in-Null t c =
    let is : c.args.tree.now ≡ terms.Null = search rules in
    subst (λ (j : Judged). IfOk c.given-in-Null.result (λ entailed. Finds entailed c.given-in-Null.new.state j))
    (null_is c.args.self.env c.args.self.time c.args.tree.now c.args.state.now is) c.given-in-Null.ensures

pub value-returns-in-Result : goal.value-returns-in-Result
value-returns-in-Result t c =
    let is : c.args.tree.now ≡ terms.Result = search rules in
    subst (λ (j : Judged). IfOk c.variable_if.result (λ entailed. Finds entailed c.variable_if.new.state j))
    (result_is c.args.self.env c.args.self.time c.args.tree.now c.args.state.now is) c.variable_if.ensures

pub value-returns-in-Old : goal.value-returns-in-Old
value-returns-in-Old t c =
    let is : c.args.tree.now ≡ terms.Old c.deref-in-Old.result.now = search rules in
    subst (λ (j : Judged). IfOk c.value-in-Old.result (λ entailed. Finds entailed c.value-in-Old.new.state j))
    (old_is c.args.self.env c.at_entry.result.env c.args.self.time c.at_entry.result.time c.args.tree.now c.deref-in-Old.result.now c.args.state.now is
    c.at_entry.ensures.env c.at_entry.ensures.time)
    c.value-in-Old.ensures

pub value-returns-in_ok-length-in-Len : goal.value-returns-in_ok-length-in-Len
value-returns-in_ok-length-in-Len t c =
    let is : c.args.tree.now ≡ terms.Len c.deref.result.now = search rules in
    length_found c.args.self.env c.args.self.time c.args.tree.now c.deref.result.now c.args.state.now c.value.new.state c.length.new.state
    c.in_ok-value-in-Len.field-0 c.in_ok-length-in-Len.field-0 is c.in_ok-value-in-Len.ensures c.in_ok-length-in-Len.ensures

pub value-returns-in_ok-element-in-Elem : goal.value-returns-in_ok-element-in-Elem
value-returns-in_ok-element-in-Elem t c =
    let is : c.args.tree.now ≡ terms.Elem c.in-Elem.place c.deref-in-Elem.result.now c.deref-in-Elem-2.result.now = search rules in
    element_found c.args.self.env c.args.self.time c.args.tree.now c.in-Elem.place c.deref-in-Elem.result.now c.deref-in-Elem-2.result.now c.args.state.now
    c.values.new.state c.element.new.state c.in_ok-values-in-Elem.field-0 c.in_ok-element-in-Elem.field-0 is c.in_ok-values-in-Elem.ensures
    c.in_ok-element-in-Elem.ensures

pub value-returns-in_ok-binary-in-Bin : goal.value-returns-in_ok-binary-in-Bin
value-returns-in_ok-binary-in-Bin t c =
    let is : c.args.tree.now ≡ terms.Bin c.in-Bin.op c.deref-in-Bin.result.now c.deref-in-Bin-2.result.now = search rules in
    binary_found c.args.self.env c.args.self.time c.args.tree.now c.in-Bin.op c.deref-in-Bin.result.now c.deref-in-Bin-2.result.now c.args.state.now
    c.values-in-Bin.new.state c.binary.new.state c.in_ok-values-in-Bin.field-0 c.in_ok-binary-in-Bin.field-0 is c.in_ok-values-in-Bin.ensures
    c.in_ok-binary-in-Bin.ensures

pub value-returns-in_ok-unary-in-Un : goal.value-returns-in_ok-unary-in-Un
value-returns-in_ok-unary-in-Un t c =
    let is : c.args.tree.now ≡ terms.Un c.in-Un.op c.deref-in-Un.result.now = search rules in
    unary_found c.args.self.env c.args.self.time c.args.tree.now c.in-Un.op c.deref-in-Un.result.now c.args.state.now c.value-in-Un.new.state
    c.unary.new.state c.in_ok-value-in-Un.field-0 c.in_ok-unary-in-Un.field-0 is c.in_ok-value-in-Un.ensures c.in_ok-unary-in-Un.ensures

pub value-returns-in_ok-condition-in-Cond : goal.value-returns-in_ok-condition-in-Cond
value-returns-in_ok-condition-in-Cond t c =
    let is : c.args.tree.now ≡ terms.Cond c.deref-in-Cond.result.now c.deref-in-Cond-2.result.now c.deref-in-Cond-3.result.now = search rules in
    condition_found c.args.self.env c.args.self.time c.args.tree.now c.deref-in-Cond.result.now c.deref-in-Cond-2.result.now c.deref-in-Cond-3.result.now c.args.state.now
    c.value-in-Cond.new.state c.condition.new.state c.in_ok-value-in-Cond.field-0 c.in_ok-condition-in-Cond.field-0 is c.in_ok-value-in-Cond.ensures
    c.in_ok-condition-in-Cond.ensures
