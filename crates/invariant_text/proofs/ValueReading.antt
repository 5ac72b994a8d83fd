-- Of two texts of what a variable has, each with the end of its line, both have the same where the texts are the same.
use Rattle.std.proofs.Common.{◌≡◌, ℕ, ◌<◌, ◌^◌, ◌==◌, List, ◌∷◌, ◌++◌, drop, get_or, refl, sym, ap, ap₂, ◌∙◌, arith}
use Rattle.std.proofs.Common.{append_assoc, codes}
use Rattle.std.proofs.lemmas.Bool.{true≢false}
use Rattle.domain_api.specs.declared.expr.Expr.{Expr}
use Rattle.frame_names.specs.declared.var.Var.{Var}
use Rattle.frame_names.specs.declared.var.Var.TheVariants as vars
use Rattle.invariant_text.specs.NumberTexts.{expr_text}
use Rattle.invariant_text.specs.VariableLines.{address_text, reference_text, value_text}
use Rattle.invariant_text.proofs.DefReading.{begins_reference, expr_no_reference, reference_begins, reference_read}
use Rattle.invariant_text.proofs.ExprReading.{IsSmall, expr_no_letter, expr_read}

-- The numbers of what a variable has are of 64 bits.
abbrev pub IsSmallVar : Var → Type 0
IsSmallVar (vars.Number e) = IsSmall e
IsSmallVar (vars.Reference r) = r < 2 ^ 64
IsSmallVar vars.Text = Unit {0}
IsSmallVar (vars.Address r e) = (r < 2 ^ 64) × IsSmall e

number_no_text : (e : Expr) (r q : List ℕ) → IsSmall e → expr_text e ++ r ≡ 116 ∷ q → ⊥
number_no_text e r q small same =
    true≢false (sym (ap (λ (text : List ℕ). get_or text 0 0 == 116) same) ∙ expr_no_letter 116 e r (omega arith)
    (λ is. omega (arith, is)) small)

reference_no_text : (n : ℕ) (r q : List ℕ) → reference_text n ++ r ≡ 116 ∷ q → ⊥
reference_no_text n r q same = true≢false (sym (reference_begins n r) ∙ ap begins_reference same)

number_no_reference : (e : Expr) (n : ℕ) (r q : List ℕ) → IsSmall e → expr_text e ++ r ≡ reference_text n ++ q → ⊥
number_no_reference e n r q small same =
    true≢false (sym (reference_begins n q) ∙ ap begins_reference (sym same) ∙ expr_no_reference e r small)

-- ---- addresses

-- The index of an address, and what is behind it.
abbrev pub index_text : Expr → List ℕ → List ℕ
index_text e r = 91 ∷ (expr_text e ++ 93 ∷ r)

-- It stands behind the reference.
pub address_parts : (n : ℕ) (e : Expr) (r : List ℕ) → address_text n e ++ r ≡ reference_text n ++ index_text e r
unfolding address_text
address_parts n e r =
    append_assoc (reference_text n ++ codes "[" ++ expr_text e) (codes "]") r
    ∙ append_assoc (reference_text n ++ codes "[") (expr_text e) (93 ∷ r)
    ∙ append_assoc (reference_text n) (codes "[") (expr_text e ++ 93 ∷ r)

number_no_address : (e : Expr) (n : ℕ) (f : Expr) (r q : List ℕ) → IsSmall e → expr_text e ++ r ≡ address_text n f ++ q
    → ⊥
number_no_address e n f r q small same = number_no_reference e n r (index_text f q) small (same ∙ address_parts n f q)

address_no_text : (n : ℕ) (e : Expr) (r q : List ℕ) → address_text n e ++ r ≡ 116 ∷ q → ⊥
address_no_text n e r q same = reference_no_text n (index_text e r) q (sym (address_parts n e r) ∙ same)

-- Behind a reference that is alone the line ends.
reference_no_address : (m n : ℕ) (e : Expr) (r q : List ℕ) → m < 2 ^ 64 → n < 2 ^ 64
    → reference_text m ++ 10 ∷ r ≡ address_text n e ++ q → ⊥
reference_no_address m n e r q m_fits n_fits same =
    let read = reference_read m n (10 ∷ r) (index_text e q) m_fits n_fits refl refl (same ∙ address_parts n e q) in
    omega (arith, ap (λ (text : List ℕ). get_or text 0 0) read.1)

address_read : (m n : ℕ) (e f : Expr) (r q : List ℕ) → (m < 2 ^ 64) × IsSmall e → (n < 2 ^ 64) × IsSmall f
    → address_text m e ++ r ≡ address_text n f ++ q → (vars.Address m e ≡ vars.Address n f) × (r ≡ q)
address_read m n e f r q first second same =
    let references = reference_read m n (index_text e r) (index_text f q) first.0 second.0 refl refl
    (sym (address_parts m e r) ∙ same ∙ address_parts n f q) in
    let indexes = expr_read e f (93 ∷ r) (93 ∷ q) first.1 second.1 (record { no_digit = refl; not_added = refl })
    (record { no_digit = refl; not_added = refl }) (ap (drop 1) references.1) in
    (ap₂ (λ (x : ℕ) (i : Expr). vars.Address x i) references.0 indexes.0, ap (drop 1) indexes.1)

-- ---- values

pub value_read : (v w : Var) (r q : List ℕ) → IsSmallVar v → IsSmallVar w
    → value_text v ++ 10 ∷ r ≡ value_text w ++ 10 ∷ q
    → (v ≡ w) × (r ≡ q)
value_read (vars.Number a) (vars.Number b) r q first second same =
    let read = expr_read a b (10 ∷ r) (10 ∷ q) first second (record { no_digit = refl; not_added = refl })
    (record { no_digit = refl; not_added = refl }) same in
    (ap (λ (e : Expr). vars.Number e) read.0, ap (drop 1) read.1)
value_read (vars.Number a) (vars.Reference n) r q first second same =
    absurd (number_no_reference a n (10 ∷ r) (10 ∷ q) first same)
value_read (vars.Number a) vars.Text r q first second same = absurd (number_no_text a (10 ∷ r) _ first same)
value_read (vars.Number a) (vars.Address n f) r q first second same =
    absurd (number_no_address a n f (10 ∷ r) (10 ∷ q) first same)
value_read (vars.Reference m) (vars.Number b) r q first second same =
    absurd (number_no_reference b m (10 ∷ q) (10 ∷ r) second (sym same))
value_read (vars.Reference m) (vars.Reference n) r q first second same =
    let read = reference_read m n (10 ∷ r) (10 ∷ q) first second refl refl same in
    (ap (λ (x : ℕ). vars.Reference x) read.0, ap (drop 1) read.1)
value_read (vars.Reference m) vars.Text r q first second same = absurd (reference_no_text m (10 ∷ r) _ same)
value_read (vars.Reference m) (vars.Address n f) r q first second same =
    absurd (reference_no_address m n f r (10 ∷ q) first second.0 same)
value_read vars.Text (vars.Number b) r q first second same = absurd (number_no_text b (10 ∷ q) _ second (sym same))
value_read vars.Text (vars.Reference n) r q first second same = absurd (reference_no_text n (10 ∷ q) _ (sym same))
value_read vars.Text vars.Text r q first second same = (refl, ap (drop 5) same)
value_read vars.Text (vars.Address n f) r q first second same =
    absurd (address_no_text n f (10 ∷ q) _ (sym same))
value_read (vars.Address m e) (vars.Number b) r q first second same =
    absurd (number_no_address b m e (10 ∷ q) (10 ∷ r) second (sym same))
value_read (vars.Address m e) (vars.Reference n) r q first second same =
    absurd (reference_no_address n m e q (10 ∷ r) second first.0 (sym same))
value_read (vars.Address m e) vars.Text r q first second same = absurd (address_no_text m e (10 ∷ r) _ same)
value_read (vars.Address m e) (vars.Address n f) r q first second same =
    let read = address_read m n e f (10 ∷ r) (10 ∷ q) first second same in
    (read.0, ap (drop 1) read.1)
