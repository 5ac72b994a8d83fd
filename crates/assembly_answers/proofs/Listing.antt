-- The lines of a walk over methods, put one after another.
use Rattle.std.proofs.Common.{◌≡◌, ◌<◌, ℕ, List, [], ◌∷◌, ◌++◌, length, drop, Option, Some, None, Err, refl, sym, ap, ◌∙◌, arith, append_assoc}
use Rattle.std.specs.List.{flat_map}
use Rattle.std.proofs.lemmas.List.{append-nil}
use Rattle.std.proofs.lemmas.List.Concat.{flat_map-cons}
use Rattle.std.proofs.lemmas.Option.{same_Some}
use Rattle.asm_image.specs.Rows.{first_name, first_token}
use Rattle.asm_image.specs.declared.method_row.MethodRow.{MethodRow}
use Rattle.cc_base.specs.Counts.{Kept}
use Rattle.cc_base.specs.Sink.{appended, counted}
use Rattle.cc_base.specs.declared.token.Token.{Token}
use Rattle.cc_base.proofs.SinkLemmas.{appended-appended, appended-nil}
use Rattle.assembly_answers.specs.ListText.{AreNamedPlainly, line_of, method_line}
use Rattle.answer_lines.specs.LineCounts.{line_count}
use Rattle.answer_lines.specs.Writing.{Writes}
use Rattle.answer_lines.specs.declared.interrupt.Interrupt.{Interrupt}
use Rattle.answer_lines.proofs.LineLemmas.{counted-lines}
use Rattle.answer_lines.proofs.Writings.{change, writes_stop}

-- The lines of the methods of a walk.
abbrev pub lines : List MethodRow → List ℕ
lines walk = flat_map method_line walk

-- Of the lines of a walk a prefix was written, each put at once, and after it come those of the rest.
pub record AtRest (old mid : Option (List ℕ)) (p0 p1 : Option ℕ) (rest walk : List MethodRow) : Type 0 where
  pub prefix : List ℕ
  pub so_far : mid ≡ appended old prefix
  pub puts : p1 ≡ counted (line_count prefix) p0
  pub all : prefix ++ lines rest ≡ lines walk
  pub named : AreNamedPlainly rest

line_first : (walk : List MethodRow) (token : Token) → first_token walk ≡ Some token → lines walk ≡ line_of token (first_name walk) ++ lines (drop 1 walk)
line_first [] token at = absurd cc
line_first (row ∷ rows) token at = rw (← same_Some row.token token at) (flat_map-cons method_line row rows)

-- ---- names without a line feed

pub first_plain : (walk : List MethodRow) → AreNamedPlainly walk → line_count (first_name walk) ≡ 0
unfolding line_count
first_plain [] named = refl
first_plain (row ∷ rows) named = named.0

left_plain : (walk : List MethodRow) → AreNamedPlainly walk → AreNamedPlainly (drop 1 walk)
left_plain [] named = tt
left_plain (row ∷ rows) named = named.1

-- ---- the walk

pub rest_begins : (old : Option (List ℕ)) (p : Option ℕ) (walk : List MethodRow) → AreNamedPlainly walk → AtRest old old p p walk walk
unfolding line_count
rest_begins old p walk named = record { prefix = []; so_far = sym (appended-nil old); puts = refl; all = refl; named = named }

pub rest_next : (old mid new : Option (List ℕ)) (p0 p1 p2 : Option ℕ) (rest walk : List MethodRow) (token : Token) → AtRest old mid p0 p1 rest walk → first_token rest ≡ Some token
    → new ≡ appended mid (line_of token (first_name rest)) → p2 ≡ counted (line_count (line_of token (first_name rest))) p1 → AtRest old new p0 p2 (drop 1 rest) walk
rest_next old mid new p0 p1 p2 rest walk token at there written put =
    let line = line_of token (first_name rest) in
    record {
      prefix = at.prefix ++ line;
      so_far = written ∙ ap (λ told. appended told line) at.so_far ∙ appended-appended old at.prefix line;
      puts = put ∙ ap (λ (told : Option ℕ). counted (line_count line) told) at.puts ∙ counted-lines at.prefix line p0;
      all = append_assoc at.prefix line (lines (drop 1 rest)) ∙ ap (λ text. at.prefix ++ text) (sym (line_first rest token there)) ∙ at.all;
      named = left_plain rest at.named;
    }

pub rest_stops : {X Y : Type 0} (e : Interrupt) (old mid new : Option (List ℕ)) (p0 p1 p2 : Option ℕ) (f0 f1 f2 : ℕ) (rest walk : List MethodRow) (token : Token)
    → AtRest old mid p0 p1 rest walk → first_token rest ≡ Some token → Kept f0 f1
    → Writes {X = X} (Err e) (change mid new p1 p2 f1 f2) (line_of token (first_name rest)) → Writes {X = Y} (Err e) (change old new p0 p2 f0 f2) (lines walk)
rest_stops {X} {Y} e old mid new p0 p1 p2 f0 f1 f2 rest walk token at there kept w =
    let line = line_of token (first_name rest) in
    let whole : lines walk ≡ at.prefix ++ line ++ lines (drop 1 rest) =
    sym at.all ∙ ap (λ text. at.prefix ++ text) (line_first rest token there) ∙ sym (append_assoc at.prefix line (lines (drop 1 rest))) in
    writes_stop {X = X} {Y = Y} e old mid new p0 p1 p2 f0 f1 f2 at.prefix line (lines walk) at.so_far kept w (lines (drop 1 rest), whole)

-- Nothing is left, so all lines are written.
all_lines : (old mid : Option (List ℕ)) (p0 p1 : Option ℕ) (rest walk : List MethodRow) (at : AtRest old mid p0 p1 rest walk) → first_token rest ≡ None → at.prefix ≡ lines walk
all_lines old mid p0 p1 [] walk at none = sym (append-nil at.prefix) ∙ at.all
all_lines old mid p0 p1 (row ∷ rows) walk at none = absurd cc

pub rest_ends : (old mid : Option (List ℕ)) (p0 p1 : Option ℕ) (rest walk : List MethodRow) → AtRest old mid p0 p1 rest walk → first_token rest ≡ None → mid ≡ appended old (lines walk)
rest_ends old mid p0 p1 rest walk at none = at.so_far ∙ ap (appended old) (all_lines old mid p0 p1 rest walk at none)

pub rest_puts : (old mid : Option (List ℕ)) (p0 p1 : Option ℕ) (rest walk : List MethodRow) → AtRest old mid p0 p1 rest walk → first_token rest ≡ None → p1 ≡ counted (line_count (lines walk)) p0
rest_puts old mid p0 p1 rest walk at none = at.puts ∙ ap (λ (text : List ℕ). counted (line_count text) p0) (all_lines old mid p0 p1 rest walk at none)

pub rest_smaller : (rest : List MethodRow) (token : Token) → first_token rest ≡ Some token → length (drop 1 rest) < length rest
rest_smaller [] token there = absurd cc
rest_smaller (row ∷ rows) token there = omega arith

pub ruleset listing = (first_plain, rest_begins, rest_next, rest_ends, rest_puts, rest_smaller)
