-- A walk, as the code takes it.
use Rattle.std.proofs.Common.{◌≡◌, ℕ, ◌<◌, List, [], ◌∷◌, ◌++◌, length, get_or, Contains, Option, IsSome, refl, sym, ap, ◌∙◌, subst, arith}
use Rattle.std.specs.List.{AllByRecursion}
use Rattle.std.proofs.lemmas.List.{get_or-map, length-map}
use Rattle.asm_image.specs.Bodies.{method_of}
use Rattle.asm_image.specs.Rows.{methods_of}
use Rattle.cc_base.specs.declared.token.Token.{Token}
use Rattle.unit_builder.specs.Met.{IsAmong, all_met}
use Rattle.unit_builder.specs.Meanings.{as_token}
use Rattle.unit_builder.specs.Walks.{IsWalk, Tells, calls_in, numbers}
use Rattle.unit_builder.specs.declared.reach.Visited.{Visited}
use Rattle.unit_builder.proofs.ReachLemmas.{Contains-behind}
use Rattle.unit_builder.proofs.TokenLemmas.{named-among}
use Rattle.unit_builder.proofs.WalkLemmas.{calls-there, step, told-calls}

pub among_count : (asm : List ℕ) (token : Token) (count : ℕ) → count ≡ length (methods_of asm) → IsSome (method_of asm token) → IsAmong count token.0
among_count asm token count is there = subst (λ n. IsAmong n token.0) (sym is) (named-among asm token there)

-- The next token is the one after those that were visited.
next_is : (listed : List Token) (tokens : List ℕ) (n : ℕ) → numbers listed ≡ tokens → n < length tokens → (get_or listed n (record { 0 = 0 })).0 ≡ get_or tokens n 0
next_is listed tokens n are lt =
    sym (get_or-map (λ t. t.0) listed n (record { 0 = 0 }) 0 (omega (arith, ap length are, length-map listed (λ t. t.0)))) ∙ ap (λ ts. get_or ts n 0) are

each_among : (count : ℕ) (calls : List Token) → ((token : ℕ) → Contains (numbers calls) token → IsAmong count token) → AllByRecursion (λ token. IsAmong count token.0) calls
each_among count [] each = tt
each_among count (call ∷ calls) each =
    (each call.0 (0, omega arith, refl), each_among count calls (λ token there. each token (Contains-behind call.0 (numbers calls) token there)))

module _ (asm : List ℕ) (from : ℕ) (tokens : List ℕ) (visits : List (Option Visited)) (walk : IsWalk asm from tokens visits)
    (listed : List Token) (are : numbers listed ≡ tokens) (n : ℕ) (n_is : n ≡ length visits) (next : n < length tokens) where
  pub next_there : IsSome (method_of asm (get_or listed n (record { 0 = 0 })))
  next_there = subst (λ t. IsSome (method_of asm (as_token t))) (sym (next_is listed tokens n are next)) (walk.there n next)

  pub calls_among : (visited : Option Visited) (count : ℕ) (calls : List Token) → count ≡ length (methods_of asm) → Tells asm (get_or listed n (record { 0 = 0 })).0 visited
      → calls ≡ calls_in visited → AllByRecursion (λ token. IsAmong count token.0) calls
  calls_among visited count calls many told calls_are =
      let token = (get_or listed n (record { 0 = 0 })).0 in
      each_among count calls
      (λ called there.
      among_count asm (as_token called) count many
      (calls-there asm token called
      (subst (λ cs. Contains cs called) (told-calls asm token visited told) (subst (λ cs. Contains (numbers cs) called) calls_are there))))

  pub walk_more : (visited : Option Visited) (calls : List Token) (after : List ℕ) (behind : List (Option Visited)) → Tells asm (get_or listed n (record { 0 = 0 })).0 visited
      → calls ≡ calls_in visited → after ≡ all_met tokens (numbers calls) → behind ≡ visits ++ visited ∷ [] → IsWalk asm from after behind
  walk_more visited calls after behind told calls_are after_is behind_is =
      let at : (get_or listed n (record { 0 = 0 })).0 ≡ get_or tokens (length visits) 0 = next_is listed tokens n are next ∙ ap (λ k. get_or tokens k 0) n_is in
      let stepped = step asm from tokens visits walk (omega arith) visited (subst (λ t. Tells asm t visited) at told) in
      rw (after_is, behind_is, calls_are) stepped
