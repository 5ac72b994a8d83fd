-- What is generated, as the code holds it, has the value that it is made of.
use Rattle.std.proofs.Common.{◌≡◌, ℕ, ◌≤◌, ◌^◌, List, [], ◌∷◌, map, length, refl, sym, ap, ◌∙◌, arith}
use Rattle.std.specs.List.{AllByRecursion}
use Rattle.std.proofs.lemmas.List.{length-map, take_all}
use Rattle.asm_writer.specs.declared.plan.AsmPlan.{AsmPlan}
use Rattle.asm_writer.specs.Assembly.{assembly_bytes}
use Rattle.asm_writer.specs.Generator.{generated, methods_from}
use Rattle.written_assemblies.specs.GeneratedFiles.{generated_file, held_method, held_plan}
use Rattle.written_assemblies.specs.Laws.HeldLists.{held}
use Rattle.asm_writer.specs.Plans.{Method, method_value, value}
use Rattle.written_assemblies.proofs.AlikeFiles.{file_alike}
use Rattle.written_assemblies.proofs.SmallFiles.{IsSmall, generated_small, so_many}

held_items : {X : Type 0} (xs : List X) → length xs ≤ 2 ^ 32 → (held xs).items ≡ xs
unfolding held
held_items xs few = take_all (2 ^ 32) xs few

method_held : (m : Method) → IsSmall m → method_value (held_method m) ≡ m
unfolding held_method
method_held m small =
    let name = held_items m.name (omega (arith, small.name)) in
    let args = held_items m.args (omega (arith, small.args)) in
    let locals = held_items m.locals (omega (arith, small.locals)) in
    let code = held_items m.code (omega (arith, small.code)) in
    rw (name, args, locals, code) refl

methods_held : (ms : List Method) → AllByRecursion IsSmall ms → map method_value (map held_method ms) ≡ ms
methods_held [] all = refl
methods_held (m ∷ ms) all = rw (method_held m all.0, methods_held ms all.1) refl

plan_held : (seed count : ℕ) → count ≤ 10000 → value (held_plan (generated seed count)) ≡ generated seed count
unfolding held_plan
plan_held seed count few =
    let ms = methods_from 0 seed count in
    let namespace = held_items (generated seed count).namespace (omega arith) in
    let class = held_items (generated seed count).class (omega arith) in
    let many : length (map held_method ms) ≡ count = length-map ms held_method ∙ so_many 0 seed count in
    let methods = ap (map method_value) (held_items (map held_method ms) (omega (arith, many, few))) ∙ methods_held ms (generated_small seed count few) in
    rw (namespace, class, methods) refl

-- Every plan of that value has the file.
pub generated_is : (plan : AsmPlan) (seed count : ℕ) → count ≤ 10000 → value plan ≡ generated seed count
    → assembly_bytes plan ≡ generated_file seed count
unfolding generated_file
generated_is plan seed count few is = file_alike plan (held_plan (generated seed count)) (is ∙ sym (plan_held seed count few))
