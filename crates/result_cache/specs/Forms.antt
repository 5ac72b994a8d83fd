-- The two forms of cache files.
use Rattle.std.specs.Prelude.{ℕ, Bool, ◌||◌, ◌==◌, List, codes, slice_index, if◌then◌else◌}
use Rattle.result_cache.specs.declared.cache_form.CacheForm.{CacheForm}
use Rattle.result_cache.specs.declared.cache_form.CacheForm.TheVariants.{First, Second}

-- The four bytes that a file of this form begins with.
abbrev pub magic : CacheForm → List ℕ
magic First = codes "CCK1"
magic Second = codes "CCK2"

-- The last of them is the number of a form, as a digit.
abbrev pub is_form_number : ℕ → Bool
is_form_number number = number == 0x31 || number == 0x32

abbrev pub form_numbered : ℕ → CacheForm
form_numbered number = if number == 0x31 then First else Second

-- The form of a file.
unfoldable pub form_of : List ℕ → CacheForm
form_of bytes = form_numbered (slice_index bytes 3)
