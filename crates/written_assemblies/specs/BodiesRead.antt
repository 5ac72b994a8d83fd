-- The bodies that are read of the file of a plan.
use Rattle.std.specs.Prelude.{◌≡◌, ℕ, ◌<◌, List, length, get_or, Some, true, false}
use Rattle.pe_reader.specs.Addresses.{metadata}
use Rattle.signature_blobs.specs.declared.local.LocalSig.TheVariants.{Known}
use Rattle.asm_image.specs.Tokens.{locals_of}
use Rattle.il_decoder.specs.Body.{header_at, body_code}
use Rattle.asm_writer.specs.declared.plan.AsmPlan.{AsmPlan}
use Rattle.asm_writer.specs.declared.plan.MethodPlan.{MethodPlan}
use Rattle.asm_writer.specs.Bodies.{locals_row, locals_token}
use Rattle.written_assemblies.specs.Methods.{body_rva}

-- The method of this index.
abbrev pub IsMethodAt : AsmPlan → ℕ → MethodPlan → Type 0
IsMethodAt plan index m = (index < length plan.methods.items) × (get_or plan.methods.items index m ≡ m)

-- The token of its locals, as its body has it.
abbrev pub token_for : AsmPlan → ℕ → MethodPlan → ℕ
token_for plan index m = locals_token (locals_row plan.methods.items index) m

-- Its body stands in the file, with its header and its code, and the token there names its locals.
pub record ReadsBody (plan : AsmPlan) (file : List ℕ) (index : ℕ) (m : MethodPlan) : Type 0 where
  pub header : header_at file (body_rva plan index) ≡ Some (record {
    len = 12;
    code_len = length m.code.items;
    max_stack = m.max_stack;
    init_locals = true;
    more_sections = false;
    local_token = token_for plan index m;
  })
  pub code : body_code file (body_rva plan index) ≡ Some m.code.items
  pub locals : locals_of (metadata file) (token_for plan index m) ≡ Some (Known m.locals.items)
