-- A compressed number is read where one of its spellings stands, and only there.
use Rattle.std.proofs.Common.{◌≡◌, ℕ, ◌+◌, List, ◌++◌, length, drop, Result, Ok, Err, refl, sym, ap, ap₂, subst, ◌∙◌}
use Rattle.std.specs.Prelude.{IfOk}
use Rattle.std.proofs.lemmas.List.{drop_at, drop-drop}
use Rattle.cc_base.specs.LittleEndian.{IsBytes}
use Rattle.cc_base.specs.Compressed.{compressed, SpellsNumber}
use Rattle.cc_base.specs.declared.compressed.Compressed.{Compressed}
use Rattle.cc_base.specs.declared.compressed.CompressedFault.{CompressedFault}
use Rattle.cc_base.specs.declared.compressed.CompressedFault.TheVariants.{Cut, Form}
use Rattle.cc_base.proofs.ByteLemmas.{IsBytes-drop}
use Rattle.cc_base.proofs.CompressedLemmas.{compressed_spelled, compressed_only}
use Rattle.signature_blobs.specs.declared.fault.SigFault.{SigFault}
use Rattle.signature_blobs.specs.Numbers.{placed, compressed_at}
use Rattle.signature_blobs.specs.Spelling.{Stands, SomeStand}

-- the spelling that stands between two offsets, with its number
abbrev Found : List ℕ → ℕ → ℕ × ℕ → Type 0
Found blob at found = SomeStand (SpellsNumber found.0) blob at found.1

placed_found : (blob : List ℕ) (at : ℕ) (read : Result Compressed CompressedFault) (number : ℕ × ℕ) → IsBytes blob → compressed (drop at blob) ≡ read
    → placed blob at read ≡ Ok number → Found blob at number
placed_found blob at (Err Cut) number fits is e = absurd cc
placed_found blob at (Err Form) number fits is e = absurd cc
placed_found blob at (Ok found) number fits is e =
    let s = compressed_spelled (drop at blob) found (IsBytes-drop at blob fits) is in
    let same : (found.number, at + found.width) ≡ number = cc in
    let after : drop (at + found.width) blob ≡ s.rest =
    sym (drop-drop found.width at blob) ∙ ap₂ (λ (n : ℕ) (xs : List ℕ). drop n xs) s.wide s.parts ∙ drop_at s.spelling s.rest (length s.spelling) refl in
    subst (Found blob at) same (record {
      bytes = s.spelling;
      holds = s.spells;
      stand = record {
        ends = ap (λ (n : ℕ). at + n) s.wide;
        parts = s.parts ∙ ap (λ (rest : List ℕ). s.spelling ++ rest) (sym after);
      };
    })

pub number_read : (blob bytes : List ℕ) (at n after : ℕ) → SpellsNumber n bytes → Stands bytes blob at after → compressed_at blob at ≡ Ok (n, after)
unfolding compressed_at
number_read blob bytes at n after spells stands =
    ap (placed blob at) (ap compressed stands.parts ∙ compressed_only n bytes (drop after blob) spells)
    ∙ ap (λ (k : ℕ). Ok (n, k)) (sym stands.ends)

-- what a call answered
pub number_found : (blob : List ℕ) (at : ℕ) (result : Result (ℕ × ℕ) SigFault) → IsBytes blob → result ≡ compressed_at blob at
    → IfOk result (λ number. SomeStand (SpellsNumber number.0) blob at number.1)
unfolding compressed_at
number_found blob at (Ok number) fits e = placed_found blob at (compressed (drop at blob)) number fits refl (sym e)
number_found blob at (Err fault) fits e = tt
