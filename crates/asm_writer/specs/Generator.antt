-- The assembly that is generated from a seed.
use Rattle.std.specs.Prelude.{ℕ, zero, suc, ◌+◌, ◌*◌, ◌/◌, ◌%◌, ◌^◌, List, [], ◌∷◌, ◌++◌, true, false, codes}
use Rattle.std.specs.Fmt.{decimal}
use Rattle.asm_writer.specs.Plans.{Method, Plan}
use Rattle.asm_writer.specs.Templates.{template_of, result_of, args_of, locals_of, code_of}

-- The number after x.
unfoldable pub next : ℕ → ℕ
next x = (x * 6364136223846793005 + 1442695040888963407) % 2 ^ 64

-- The constant that a number gives.
unfoldable pub constant_of : ℕ → ℕ
constant_of x = x / 2 ^ 33 % 1000

-- The token of the method of this index: a row of MethodDef.
abbrev pub token_at : ℕ → ℕ
token_at index = 0x0600_0001 + index

-- The method of this index, with the constant of this number.
unfoldable pub method_at : ℕ → ℕ → Method
method_at index x =
    let template = template_of index in
    record {
      name = codes "m" ++ decimal index;
      is_static = true;
      result = result_of template;
      args = args_of template;
      locals = locals_of template;
      max_stack = 8;
      code = code_of template (constant_of x) (token_at index);
    }

-- So many methods from this index on, where x is the number before theirs.
unfoldable pub methods_from : ℕ → ℕ → ℕ → List Method
methods_from index x zero = []
methods_from index x (suc count) = method_at index (next x) ∷ methods_from (index + 1) (next x) count

-- The assembly of the seed.
abbrev pub generated : ℕ → ℕ → Plan
generated seed count = record {
  namespace = codes "Gen";
  class = codes "W";
  wide = false;
  methods = methods_from 0 seed count;
}
