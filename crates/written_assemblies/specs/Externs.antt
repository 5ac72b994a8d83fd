-- The methods of other assemblies that are read of a file.
use Rattle.std.specs.Prelude.{◌≡◌, ℕ, ◌+◌, ◌<◌, List, length, get_or, false}
use Rattle.cc_base.specs.Tokens.{token_of}
use Rattle.metadata_tables.specs.Numbers.{member_ref}
use Rattle.signature_blobs.specs.declared.method.SigTypes.TheVariants.{Known}
use Rattle.asm_image.specs.Members.{MethodKey}
use Rattle.asm_writer.specs.declared.plan.Extern.{Extern}

-- The extern of this index.
abbrev pub IsExternAt : List Extern → ℕ → Extern → Type 0
IsExternAt externs index e = (index < length externs) × (get_or externs index e ≡ e)

-- The token that calls it: a row of MemberRef, after those of the contract calls.
abbrev pub extern_token : ℕ → ℕ
extern_token index = token_of member_ref (index + 12)

-- The method that it is: a static one, with these names and these types.
abbrev pub extern_key : Extern → MethodKey
extern_key e = record {
  assembly = e.assembly.items;
  namespace = e.namespace.items;
  class = e.class.items;
  name = e.name.items;
  sig = record { has_this = false; generic = false; types = Known (record { result = e.result; args = e.args.items }) };
}
