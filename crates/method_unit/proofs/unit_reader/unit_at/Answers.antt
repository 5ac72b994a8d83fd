use Rattle.std.proofs.Common.{List, refl, sym, subst, ◌∙◌}
use Rattle.cil_model.specs.Code.{CodeOf}
use Rattle.cil_model.specs.declared.instruction.Instr.{Instr}
use Rattle.unit_form.specs.FieldsRead.{fields_told}
use Rattle.method_unit.proofs.Made.{kinds_in, made, made_as}
use Rattle.method_unit.proofs.unit_reader.unit_at.Goals as goal

pub returns : goal.returns
returns c =
    record {
      judged =
          made_as (fields_told c.args.fields) _ _ c.of.ensures
          (made (fields_told c.args.fields) c.deref.result.now _ _ _ _ _
          (λ i. record { result = c.args.fields.result; args = c.from_vec.ensures i; locals = c.from_vec-2.ensures i; max_stack = c.args.fields.max_stack; callees = c.from_vec-3.ensures i })
          c.deref-2.ensures.value c.deref-3.ensures.value c.in_ok-instrs.ensures.judged.0 (c.deref.ensures.value ∙ c.in_ok-instrs.ensures.judged.1)
          (subst (λ (is : List Instr). CodeOf is c.args.fields.code.now) (sym c.deref.ensures.value) c.in_ok-instrs.ensures.found.spelled)
          (record {
            passed = c.in_ok-tested.ensures.judged.0;
            contracts = c.in_ok-tested.ensures.judged.1;
            kinds = (_, c.in_ok-tested.ensures.kinds);
            limits = c.in_ok-tested.ensures.limits;
            numbers = λ stacks decoded kinds. c.in_ok-tested.ensures.numbers stacks decoded kinds;
            body = λ stacks decoded kinds. c.in_ok-tested.ensures.body stacks decoded kinds;
          })
          (record {
            name = c.from_vec-4.ensures ∙ c.in_ok-from_slice.ensures.items;
            result = refl;
            args = c.from_vec.ensures;
            locals = c.from_vec-2.ensures;
            max_stack = refl;
            callees = c.from_vec-3.ensures;
            code = c.from_vec-5.ensures ∙ c.in_ok-from_slice-2.ensures.items;
            instrs = c.from_vec-6.ensures ∙ sym c.deref.ensures.value;
            clauses = c.in_ok-with_added.ensures;
          }));
    }

pub of-requires : goal.of-requires
of-requires c =
    kinds_in _ _ _ _ _
    (λ i. record { result = c.args.fields.result; args = c.from_vec.result; locals = c.from_vec-2.result; max_stack = c.args.fields.max_stack; callees = c.from_vec-3.result })
    (c.from_vec-6.ensures ∙ sym c.deref.ensures.value) c.in_ok-tested.ensures.kinds
