-- The names that units have: printed names without the types of the parameters.
use Rattle.std.proofs.Common.{◌≡◌, ℕ, zero, suc, ◌+◌, ◌-◌, ◌/◌, ◌%◌, ◌<◌, ◌≤◌, ◌==◌, ◌&&◌, not, nat_le, nat_lt, List, [], ◌∷◌, ◌++◌, length, take, refl, sym, subst, ◌∙◌, arith, length-append}
use Rattle.std.specs.Prelude.{codes}
use Rattle.std.specs.List.{AllByRecursion}
use Rattle.std.proofs.Math.Seq.{take-append_seam}
use Rattle.std.proofs.lemmas.Bool.{and_parts, cond_both, leb-true, ltb-true, ltb-false}
use Rattle.std.proofs.lemmas.List.Concat.{flat_map-cons}
use Rattle.asm_image.specs.Cells.{method_name, namespace, owner, type_name}
use Rattle.asm_image.specs.Names.{owner_text, printed_name, qualified, short_name, types_text}
use Rattle.asm_image.specs.Rows.{method_row}
use Rattle.asm_image.specs.declared.method_row.MethodRow.{MethodRow}
use Rattle.cc_base.specs.Digits.{hex, hex_digit}
use Rattle.cc_base.specs.Escapes.{escaped, escaped_byte, is_plain}
use Rattle.cil_model.specs.Limits.{MAX_NAME_BYTES}
use Rattle.cil_model.specs.WellFormed.{IsUnitName}
use Rattle.pe_reader.specs.Addresses.{metadata}
use Rattle.signature_blobs.specs.declared.method.SigTypes.{SigTypes}
use Rattle.unit_builder.specs.Callees.{unit_name}
use Rattle.unit_builder.specs.Rows.{IsRowOf}

-- ---- where the types begin

-- A row's printed name is a name and the types of its parameters.
pub record IsNamed (asm : List ℕ) (method : MethodRow) : Type 0 where
  pub prefix : List ℕ
  pub prefix_is : (number : ℕ) × (prefix ≡ short_name (metadata asm) number)
  pub whole : method.name ≡ prefix ++ types_text method.sig.types

row_parts : (asm : List ℕ) (number : ℕ) → IsNamed asm (method_row (metadata asm) number)
unfolding method_row printed_name
row_parts asm number = record { prefix = short_name (metadata asm) number; prefix_is = (number, refl); whole = refl }

pub row_named : (asm : List ℕ) (method : MethodRow) → IsRowOf asm method → IsNamed asm method
row_named asm method row = subst (IsNamed asm) (sym row.row_is) (row_parts asm row.number)

prefix_cut : (prefix types : List ℕ) → take (length (prefix ++ types) - length types) (prefix ++ types) ≡ prefix
prefix_cut prefix types =
    let long : length (prefix ++ types) - length types ≡ length prefix = let both = length-append prefix types in omega (arith, both) in
    rw long (take-append_seam prefix types)

pub name_is : (asm : List ℕ) (method : MethodRow) (named : IsNamed asm method) → unit_name method ≡ named.prefix
unfolding unit_name
name_is asm method named =
    subst (λ (name : List ℕ). take (length name - length (types_text method.sig.types)) name ≡ named.prefix) (sym named.whole) (prefix_cut named.prefix (types_text method.sig.types))

-- What is cut so that each name is its prefix is the name of the unit.
pub name_cut : (method : MethodRow) (cut : List ℕ) → ((asm : List ℕ) × IsRowOf asm method)
    → ((prefix : List ℕ) (types : SigTypes) → method.name ≡ prefix ++ types_text types → cut ≡ prefix) → cut ≡ unit_name method
name_cut method cut (asm, row) cuts =
    let named = row_named asm method row in
    cuts named.prefix method.sig.types named.whole ∙ sym (name_is asm method named)

-- ---- graphic characters

abbrev IsGraphic : ℕ → Type 0
IsGraphic b = (0x21 ≤ b) × (b ≤ 0x7e)

AreGraphic : List ℕ → Type 0
AreGraphic text = AllByRecursion IsGraphic text

both : (a b : List ℕ) → AreGraphic a → AreGraphic b → AreGraphic (a ++ b)
unfolding AreGraphic
both [] b first second = second
both (byte ∷ a) b first second = (first.0, both a b first.1 second)

digit_graphic : (n : ℕ) → n < 16 → IsGraphic (hex_digit n)
digit_graphic n less =
    cond_both (nat_lt n 10) (48 + n) (87 + n) IsGraphic (λ e. let low = ltb-true n 10 e in (omega arith, omega (arith, low))) (λ e. let high = ltb-false n 10 e in (omega (arith, high), omega (arith, less)))

hex_graphic : (digits n : ℕ) → AreGraphic (hex digits n)
unfolding hex AreGraphic
hex_graphic zero n = tt
hex_graphic (suc digits) n = both (hex digits (n / 16)) (hex_digit (n % 16) ∷ []) (hex_graphic digits (n / 16)) (digit_graphic (n % 16) (omega arith), tt)

byte_graphic : (byte : ℕ) → AreGraphic (escaped_byte byte)
unfolding AreGraphic
byte_graphic byte =
    cond_both (is_plain byte) _ _ AreGraphic
    (λ e.
    let ends = and_parts (nat_le 0x21 byte && nat_le byte 0x7e) (not (byte == 0x5c)) e in
    let low = and_parts (nat_le 0x21 byte) (nat_le byte 0x7e) ends.0 in
    ((leb-true 0x21 byte low.0, leb-true byte 0x7e low.1), tt))
    (λ e. ((omega arith, omega arith), hex_graphic 2 byte))

escaped_graphic : (name : List ℕ) → AreGraphic (escaped name)
unfolding AreGraphic
escaped_graphic [] = tt
escaped_graphic (byte ∷ name) = subst AreGraphic (sym (flat_map-cons escaped_byte byte name)) (both (escaped_byte byte) (escaped name) (byte_graphic byte) (escaped_graphic name))

qualified_graphic : (space name : List ℕ) → AreGraphic (qualified space name)
unfolding AreGraphic
qualified_graphic [] name = escaped_graphic name
qualified_graphic (byte ∷ bytes) name = both (escaped (byte ∷ bytes) ++ codes ".") (escaped name) (both (escaped (byte ∷ bytes)) (codes ".") (escaped_graphic (byte ∷ bytes)) ((omega arith, omega arith), tt)) (escaped_graphic name)

owner_graphic : (md : List ℕ) (owner : ℕ) → AreGraphic (owner_text md owner)
unfolding AreGraphic
owner_graphic md zero = tt
owner_graphic md (suc k) = qualified_graphic (namespace md (suc k)) (type_name md (suc k))

short_graphic : (md : List ℕ) (number : ℕ) → AreGraphic (short_name md number)
unfolding AreGraphic short_name
short_graphic md number =
    both (owner_text md (owner md number) ++ codes "::") (escaped (method_name md number))
    (both (owner_text md (owner md number)) (codes "::") (owner_graphic md (owner md number)) ((omega arith, omega arith), ((omega arith, omega arith), tt)))
    (escaped_graphic (method_name md number))

-- The name of a unit has graphic characters of ASCII alone.
pub name_fits : (asm : List ℕ) (method : MethodRow) → IsRowOf asm method → length (unit_name method) ≤ MAX_NAME_BYTES → IsUnitName (unit_name method)
unfolding AreGraphic
name_fits asm method row short =
    let named = row_named asm method row in
    record {
      graphic = subst AreGraphic (sym (name_is asm method named ∙ named.prefix_is.1)) (short_graphic (metadata asm) named.prefix_is.0);
      short = short;
    }
