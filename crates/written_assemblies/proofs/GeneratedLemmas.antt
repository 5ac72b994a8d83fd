-- What is generated can be read back.
use Rattle.std.proofs.Common.{◌≡◌, ◌≢◌, ℕ, zero, suc, ◌+◌, ◌%◌, ◌^◌, ◌<◌, ◌≤◌, List, [], ◌∷◌, ◌++◌, map, false, refl, sym, ap, subst, arith}
use Rattle.std.specs.Prelude.{◌==◌}
use Rattle.std.specs.Fmt.{decimal}
use Rattle.std.specs.List.{AllByRecursion}
use Rattle.std.proofs.lemmas.Fmt.{decimal_by_steps}
use Rattle.cil_model.specs.declared.place.Place.TheVariants.{Void, Int, Ints}
use Rattle.signature_blobs.specs.Spelling.{AreValues}
use Rattle.asm_writer.specs.declared.plan.AsmPlan.{AsmPlan}
use Rattle.asm_writer.specs.declared.plan.MethodPlan.{MethodPlan}
use Rattle.asm_writer.specs.declared.template.Template.{Template}
use Rattle.asm_writer.specs.declared.template.Template.TheVariants as templates
use Rattle.asm_writer.specs.Generator.{next, method_at, methods_from, generated}
use Rattle.asm_writer.specs.Plans.{Method, Plan, method_value, value}
use Rattle.asm_writer.specs.Templates.{template_of, args_of, locals_of}
use Rattle.written_assemblies.specs.Readable.{IsReadable, IsReadableMethod}
use Rattle.written_assemblies.specs.Texts.{HasNoZero}

-- ---- names

no_zero-append : (xs ys : List ℕ) → HasNoZero xs → HasNoZero ys → HasNoZero (xs ++ ys)
no_zero-append [] ys a b = b
no_zero-append (x ∷ xs) ys a b = (a.0, no_zero-append xs ys a.1 b)

above : (n : ℕ) → (48 + n == 0) ≡ false
above n = grind arith

decimal_no_zero : (n : ℕ) → n < 2 ^ 64 → HasNoZero (decimal n)
decimal_no_zero n few =
    decimal_by_steps (λ k ds. HasNoZero ds) (λ k small. (above k, tt)) (λ k ds large before. no_zero-append ds ((48 + k % 10) ∷ []) before (above (k % 10), tt)) n few

-- ---- types

int_value : Int ≢ Void
int_value same = cc

ints_value : Ints ≢ Void
ints_value same = cc

args_values : (template : Template) → AreValues (args_of template)
args_values templates.Constant = (int_value, tt)
args_values templates.Div = (int_value, (int_value, tt))
args_values templates.ArraySum = (ints_value, tt)
args_values templates.Fill = (ints_value, (int_value, tt))
args_values templates.Sum = (int_value, tt)
args_values templates.Bad = tt

locals_values : (template : Template) → AreValues (locals_of template)
locals_values templates.Constant = tt
locals_values templates.Div = tt
locals_values templates.ArraySum = (int_value, (int_value, tt))
locals_values templates.Fill = (int_value, tt)
locals_values templates.Sum = tt
locals_values templates.Bad = tt

-- ---- methods

abbrev IsSayable : Method → Type 0
IsSayable m = HasNoZero m.name × AreValues m.args × AreValues m.locals

one_sayable : (index x : ℕ) → index < 2 ^ 64 → IsSayable (method_at index x)
unfolding method_at
one_sayable index x few = ((refl, decimal_no_zero index few), args_values (template_of index), locals_values (template_of index))

each_sayable : (index x count : ℕ) → index + count ≤ 2 ^ 64 → AllByRecursion IsSayable (methods_from index x count)
unfolding methods_from
each_sayable index x zero few = tt
each_sayable index x (suc count) few = (one_sayable index (next x) (omega (arith, few)), each_sayable (index + 1) (next x) count (omega (arith, few)))

readable_methods : (ms : List MethodPlan) → AllByRecursion IsSayable (map method_value ms) → AllByRecursion IsReadableMethod ms
readable_methods [] all = tt
readable_methods (m ∷ ms) all = (record { name = all.0.0; args = all.0.1; locals = all.0.2 }, readable_methods ms all.1)

pub generated_readable : (plan : AsmPlan) (seed count : ℕ) → count < 2 ^ 32 → value plan ≡ generated seed count → IsReadable plan
generated_readable plan seed count few is = record {
  namespace = subst HasNoZero (sym (ap (λ (p : Plan). p.namespace) is)) (refl, (refl, (refl, tt)));
  class = subst HasNoZero (sym (ap (λ (p : Plan). p.class) is)) (refl, tt);
  methods = readable_methods plan.methods.items (subst (AllByRecursion IsSayable) (sym (ap (λ (p : Plan). p.methods) is)) (each_sayable 0 seed count (omega (arith, few))));
}
