use Rattle.std.proofs.Common.{rules, ◌≡◌, ℕ, ◌+◌, Some, String, Global, option_map, position, string_bytes, ap, ◌∙◌}
use Rattle.command_words.specs.Words.{is_proof}
use Rattle.command_words.proofs.WordBytes.{position_of_words}
use Rattle.command_words.proofs.check_words.proof_place.Goals as goal

pub returns-in_err-place-clause-value : goal.returns-in_err-place-clause-value
returns-in_err-place-clause-value c =
    let words = c.args.words.now in
    let none : c.from_residual.result ≡ option_map (λ (place : ℕ). place + 1) (position (λ (word : String Global). is_proof (string_bytes word)) words) = search rules in
    none ∙ ap (option_map (λ (place : ℕ). place + 1)) (position_of_words is_proof words)

pub returns-clause-value : goal.returns-clause-value
returns-clause-value c =
    let words = c.args.words.now in
    let some : Some (c.in_ok-place.place + 1) ≡ option_map (λ (place : ℕ). place + 1) (position (λ (word : String Global). is_proof (string_bytes word)) words) = search rules in
    some ∙ ap (option_map (λ (place : ℕ). place + 1)) (position_of_words is_proof words)
