-- What a finder was asked for, from the parts of a call.
use Rattle.std.proofs.Common.{◌≡◌, ℕ, List, [], ◌++◌, Result, Ok, Err, refl, sym, ap, ◌∙◌, append_assoc, append-nil}
use Rattle.unit_verdicts.specs.Asked.{Asks, AsksPrefix}

abbrev Keys : Type 0
Keys = List (List ℕ)

-- ---- prefixes

pub prefix_none : (keys old : Keys) → AsksPrefix keys old old
prefix_none keys old = ([], (keys, refl), sym (append-nil old))

pub prefix_all : (keys old new : Keys) → new ≡ old ++ keys → AsksPrefix keys old new
prefix_all keys old new is = (keys, ([], sym (append-nil keys)), is)

-- A prefix is a prefix of more.
pub prefix_more : (keys more old new : Keys) → AsksPrefix keys old new → AsksPrefix (keys ++ more) old new
prefix_more keys more old new (prefix, (rest, whole), is) =
    (prefix, (rest ++ more, ap (λ (l : Keys). l ++ more) whole ∙ append_assoc prefix rest more), is)

-- What was asked before, and a prefix of what comes next.
pub prefix_behind : (before keys old mid new : Keys) → mid ≡ old ++ before → AsksPrefix keys mid new
    → AsksPrefix (before ++ keys) old new
prefix_behind before keys old mid new first (prefix, (rest, whole), is) =
    (before ++ prefix, (rest, ap (λ (l : Keys). before ++ l) whole ∙ sym (append_assoc before prefix rest)), is ∙ ap (λ (l : Keys). l ++ prefix) first ∙ append_assoc old before prefix)

-- ---- answers

-- Nothing is to be asked, and nothing was.
pub asks_none : {X E : Type 0} (r : Result X E) (old new : Keys) → new ≡ old → Asks [] r old new
asks_none (Ok x) old new same = record { prefix = ([], ([], refl), same ∙ sym (append-nil old)); whole = same ∙ sym (append-nil old) }
asks_none (Err e) old new same = record { prefix = ([], ([], refl), same ∙ sym (append-nil old)); whole = tt }

-- A call that was interrupted before it asked.
pub asks_nothing : {X E : Type 0} (keys : Keys) (r : Result X E) (e : E) (old new : Keys) → r ≡ Err e → new ≡ old
    → Asks keys r old new
asks_nothing keys (Err e) other old new is same = record { prefix = ([], (keys, refl), same ∙ sym (append-nil old)); whole = tt }
asks_nothing keys (Ok x) other old new is same = absurd cc

-- All was asked, whatever comes of the rest of the call.
pub asks_all : {Y F : Type 0} (keys : Keys) (r : Result Y F) (old new : Keys) → new ≡ old ++ keys → Asks keys r old new
asks_all keys (Ok y) old new is = record { prefix = prefix_all keys old new is; whole = is }
asks_all keys (Err f) old new is = record { prefix = prefix_all keys old new is; whole = tt }

-- A call that was interrupted after this prefix.
pub asks_prefix : {X E : Type 0} (keys : Keys) (r : Result X E) (e : E) (old new : Keys) → r ≡ Err e
    → AsksPrefix keys old new → Asks keys r old new
asks_prefix keys (Err e) other old new is prefix = record { prefix = prefix; whole = tt }
asks_prefix keys (Ok x) other old new is prefix = absurd cc
