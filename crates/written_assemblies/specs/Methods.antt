-- The methods that are read of the file of a plan.
use Rattle.std.specs.Prelude.{ℕ, ◌+◌, List, [], ◌∷◌, ◌++◌, false, not, codes, slice_index}
use Rattle.cc_base.specs.Escapes.{escaped}
use Rattle.cil_model.specs.Places.{parameters_text}
use Rattle.signature_blobs.specs.declared.method.SigTypes.TheVariants.{Known}
use Rattle.asm_image.specs.Names.{qualified}
use Rattle.asm_image.specs.Rows.{method_token}
use Rattle.asm_image.specs.declared.method_row.MethodRow.{MethodRow}
use Rattle.asm_writer.specs.declared.plan.AsmPlan.{AsmPlan}
use Rattle.asm_writer.specs.declared.plan.MethodPlan.{MethodPlan}
use Rattle.asm_writer.specs.Bodies.{bodies}
use Rattle.asm_writer.specs.Each.{each_from}
use Rattle.asm_writer.specs.Headers.{bodies_rva}
use Rattle.asm_writer.specs.Rows.{method_flags}

-- The printed name of a method: its class, its name and the types of its arguments.
unfoldable pub written_name : AsmPlan → MethodPlan → List ℕ
written_name plan m =
    qualified plan.namespace.items plan.class.items ++ codes "::" ++ escaped m.name.items
    ++ (codes "(" ++ parameters_text m.args.items ++ codes ")")

-- Where the body of the method of this index stands in memory.
unfoldable pub body_rva : AsmPlan → ℕ → ℕ
body_rva plan index = bodies_rva + slice_index (bodies plan.methods.items).offsets index

-- The method of this index: its row, its name, whether it is static, its types, and where its body stands.
unfoldable pub written_method : AsmPlan → ℕ → MethodPlan → MethodRow
written_method plan index m = record {
  token = method_token (index + 1);
  name = written_name plan m;
  flags = method_flags m.is_static;
  impl_flags = 0;
  rva = body_rva plan index;
  sig = record { has_this = not m.is_static; generic = false; types = Known (record { result = m.result; args = m.args.items }) };
}

-- All of them, in the order of the plan.
unfoldable pub written_methods : AsmPlan → List MethodRow
written_methods plan = each_from 0 (λ index m. written_method plan index m ∷ []) plan.methods.items
