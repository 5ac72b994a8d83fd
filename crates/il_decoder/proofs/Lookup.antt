-- Bytes that are not found at an address are not found in a longer piece.
use Rattle.std.proofs.Common.{◌≡◌, ℕ, ◌≤◌, List, Option, Some, None, refl, arith, ◌∙◌, sym}
use Rattle.std.proofs.lemmas.Bool.Decides.{nat_tests}
use Rattle.pe_reader.specs.Addresses.{bytes_at, rest_at, first_bytes}
use Rattle.pe_reader.proofs.Rest.{any_length}

fewer_none : (rest : Option (List ℕ)) (len more : ℕ) → len ≤ more → first_bytes len rest ≡ None → first_bytes more rest ≡ None
fewer_none None len more le none = refl
fewer_none (Some found) len more le none = grind (arith, nat_tests)

pub longer_none : (image : List ℕ) (rva len more : ℕ) → len ≤ more → bytes_at image rva len ≡ None → bytes_at image rva more ≡ None
longer_none image rva len more le none =
    any_length image rva more ∙ fewer_none (rest_at image rva) len more le (sym (any_length image rva len) ∙ none)
