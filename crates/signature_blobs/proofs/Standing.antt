-- Bytes that stand in a blob.
use Rattle.std.proofs.Common.{◌≡◌, ℕ, suc, ◌+◌, ◌<◌, List, [], ◌∷◌, ◌++◌, length, drop, slice_index, refl, sym, ap, ◌∙◌, append_assoc, arith, length-append, length-drop}
use Rattle.std.proofs.lemmas.List.{drop_at, drop_more, drop-drop}
use Rattle.signature_blobs.specs.Spelling.{Stands, StandFrom, Begins}

pub nothing_stands : (blob : List ℕ) (at : ℕ) → Stands [] blob at at
nothing_stands blob at = record { ends = omega arith; parts = refl }

pub byte_stands : (blob : List ℕ) (at b : ℕ) → at < length blob → slice_index blob at ≡ b → Stands (b ∷ []) blob at (at + 1)
byte_stands blob at b lt e = record { ends = refl; parts = drop_more blob at 0 lt ∙ ap (λ (x : ℕ). x ∷ drop (at + 1) blob) e }

pub join_stands : (x y blob : List ℕ) (at mid after : ℕ) → Stands x blob at mid → Stands y blob mid after → Stands (x ++ y) blob at after
join_stands x y blob at mid after p q = record {
  ends = omega (arith, length-append x y, p.ends, q.ends);
  parts = p.parts ∙ ap (λ (t : List ℕ). x ++ t) q.parts ∙ sym (append_assoc x y (drop after blob));
}

pub pair_stands : (a b : ℕ) (blob : List ℕ) (at : ℕ) → Stands (a ∷ []) blob at (at + 1) → Stands (b ∷ []) blob (at + 1) (at + 1 + 1) → Stands (a ∷ b ∷ []) blob at (at + 2)
pair_stands a b blob at p q =
    let both = join_stands (a ∷ []) (b ∷ []) blob at (at + 1) (at + 1 + 1) p q in
    record { ends = refl; parts = both.parts ∙ ap (λ (k : ℕ). a ∷ b ∷ drop k blob) (omega arith) }

-- what is after the prefix of what stands there
pub prefix_stands : (x y blob : List ℕ) (at after : ℕ) → Stands (x ++ y) blob at after → Stands x blob at (at + length x)
prefix_stands x y blob at after p =
    let split : drop at blob ≡ x ++ (y ++ drop after blob) = p.parts ∙ append_assoc x y (drop after blob) in
    let behind : drop (at + length x) blob ≡ y ++ drop after blob = sym (drop-drop (length x) at blob) ∙ ap (λ (t : List ℕ). drop (length x) t) split ∙ drop_at x (y ++ drop after blob) (length x) refl in
    record { ends = refl; parts = rw behind split }

pub back_stands : (x y blob : List ℕ) (at after : ℕ) → Stands (x ++ y) blob at after → Stands y blob (at + length x) after
back_stands x y blob at after p =
    let split : drop at blob ≡ x ++ (y ++ drop after blob) = p.parts ∙ append_assoc x y (drop after blob) in
    record {
      ends = omega (arith, length-append x y, p.ends);
      parts = sym (drop-drop (length x) at blob) ∙ ap (λ (t : List ℕ). drop (length x) t) split ∙ drop_at x (y ++ drop after blob) (length x) refl;
    }

pub first_stands : (b : ℕ) (bytes blob : List ℕ) (at after : ℕ) → Stands (b ∷ bytes) blob at after → (at < length blob) × (slice_index blob at ≡ b)
first_stands b bytes blob at after p =
    let len : length (drop at blob) ≡ suc (length (bytes ++ drop after blob)) = ap (λ (t : List ℕ). length t) p.parts in
    let lt : at < length blob = omega (arith, len, length-drop at blob) in
    (lt, sym (ap (λ (t : List ℕ). slice_index t 0) (drop_more blob at 0 lt)) ∙ ap (λ (t : List ℕ). slice_index t 0) p.parts)

-- What a blob begins with stands at its start, and the other way round.

pub whole_stands : (blob prefix rest : List ℕ) → blob ≡ prefix ++ rest → Stands prefix blob 0 (length prefix)
whole_stands blob prefix rest e = record {
  ends = omega arith;
  parts = rw e (ap (λ (t : List ℕ). prefix ++ t) (sym (drop_at prefix rest (length prefix) refl)));
}

pub begins : (P Q : List ℕ → Type 0) (blob : List ℕ) (first : ℕ) → 0 < length blob → slice_index blob 0 ≡ first
    → StandFrom P blob 1 → ((bytes : List ℕ) → P bytes → Q (first ∷ bytes)) → Begins Q blob
begins P Q blob first lt is behind whole =
    let bytes = behind.some.bytes in
    let all = join_stands (first ∷ []) bytes blob 0 1 behind.after (byte_stands blob 0 first lt is) behind.some.stand in
    record { prefix = first ∷ bytes; rest = drop behind.after blob; holds = whole bytes behind.some.holds; parts = all.parts }
