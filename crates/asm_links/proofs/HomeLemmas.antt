-- The table of methods by what tells them from others.
use Rattle.std.proofs.Common.{◌≡◌, ℕ, zero, suc, ◌+◌, ◌<◌, ◌≤◌, Bool, true, false, cond, List, [], ◌∷◌, ◌++◌, length, map, get_or, take, Option, Some, None, refl, sym, ap, subst, ◌∙◌, arith, append_assoc, true≢false}
use Rattle.std.specs.Map.{lookup}
use Rattle.std.proofs.lemmas.List.{append-nil, get_or_default, map_more, take_all, take_more}
use Rattle.std.proofs.lemmas.List.Elements.{filter-append}
use Rattle.indexmap.specs.IndexMap.{insert_entry}
use Rattle.asm_image.specs.Calls.{callee_of}
use Rattle.asm_image.specs.Members.{MethodKey, assembly_name, key_of, member_of}
use Rattle.asm_image.specs.Rows.{methods_of}
use Rattle.asm_image.specs.declared.method_row.MethodRow.{MethodRow}
use Rattle.asm_links.specs.Homes.{Notes, Table, TellsHomes, home_in, home_of, one_more, only_home, seen}
use Rattle.asm_links.specs.Keys.{same_key}
use Rattle.asm_links.specs.Laws.SameKeys.{same_key-Decides}
use Rattle.asm_links.specs.Targets.{Named, all_named, key_with, named, named_in, named_with, only, target, target_by, told_by}
use Rattle.asm_links.specs.declared.homes.Home.{Home}
use Rattle.asm_links.specs.declared.homes.Home.TheVariants.{One, Several}
use Rattle.asm_links.specs.declared.key.Key.{Key}
use Rattle.cc_base.specs.declared.token.Token.{Token}
use Rattle.pe_reader.specs.Addresses.{metadata}

-- ---- a map's entries as a table

abbrev pub same_as : MethodKey → Key → Bool
same_as key k = same_key key (key_of k.member)

abbrev pub keys_eq : Key → Key → Bool
keys_eq a b = same_key (key_of a.member) (key_of b.member)

lookup_seen : (key : MethodKey) (entries : List (Key × Home)) → home_in (seen entries) key ≡ lookup (same_as key) entries
lookup_seen key [] = refl
lookup_seen key (entry ∷ entries) = ap (cond (same_as key entry.0) (Some entry.1)) (lookup_seen key entries)

-- What is found beside a key is what the table has beside it.
pub found_home : (entries : List (Key × Home)) (table : Table) (key : MethodKey) (home : Option Home) → seen entries ≡ table
    → home ≡ lookup (same_as key) entries → home ≡ home_in table key
found_home entries table key home view is = is ∙ sym (lookup_seen key entries) ∙ ap (λ (t : Table). home_in t key) view

-- ---- one method more

twice : {A : Type 0} (b : Bool) (x y z : A) → cond b x z ≡ cond b x (cond b y z)
twice true x y z = refl
twice false x y z = refl

exchanged : {A : Type 0} (a b : Bool) (x y z : A) → (a ≡ true → b ≡ true → ⊥) → cond a x (cond b y z) ≡ cond b y (cond a x z)
exchanged true true x y z apart = absurd (apart refl refl)
exchanged true false x y z apart = refl
exchanged false true x y z apart = refl
exchanged false false x y z apart = refl

-- A key is the same as one of two that differ at most.
differ_apart : (key here there : MethodKey) → same_key here there ≡ false → same_key key there ≡ true → same_key key here ≡ true → ⊥
differ_apart key here there differ e f =
    let same : here ≡ there = sym ((same_key-Decides key here).0 f) ∙ (same_key-Decides key there).0 e in
    true≢false (sym ((same_key-Decides here there).1 same) ∙ differ)

module _ (other : MethodKey) (key : Key) (value : Home) where
  abbrev at : List (Key × Home) → Option Home
  at entries = lookup (same_as other) entries

  insert_here : (entry : Key × Home) (entries : List (Key × Home)) → keys_eq key entry.0 ≡ true
      → at ((entry.0, value) ∷ entries) ≡ cond (same_key other (key_of key.member)) (Some value) (at (entry ∷ entries))
  insert_here entry entries e =
      let same : key_of key.member ≡ key_of entry.0.member = (same_key-Decides (key_of key.member) (key_of entry.0.member)).0 e in
      twice (same_as other entry.0) (Some value) (Some entry.1) (at entries)
      ∙ ap (λ (k : MethodKey). cond (same_key other k) (Some value) (at (entry ∷ entries))) (sym same)

  insert_behind : (entry : Key × Home) (entries later : List (Key × Home)) → keys_eq key entry.0 ≡ false
      → at later ≡ cond (same_key other (key_of key.member)) (Some value) (at entries)
      → at (entry ∷ later) ≡ cond (same_key other (key_of key.member)) (Some value) (at (entry ∷ entries))
  insert_behind entry entries later e is =
      ap (cond (same_as other entry.0) (Some entry.1)) is
      ∙ exchanged (same_as other entry.0) (same_key other (key_of key.member)) (Some entry.1) (Some value) (at entries)
      (differ_apart other (key_of key.member) (key_of entry.0.member) e)

  insert_one : (entry : Key × Home) (entries later : List (Key × Home)) (b : Bool) → keys_eq key entry.0 ≡ b
      → at later ≡ cond (same_key other (key_of key.member)) (Some value) (at entries)
      → at (cond b ((entry.0, value) ∷ entries) (entry ∷ later)) ≡ cond (same_key other (key_of key.member)) (Some value) (at (entry ∷ entries))
  insert_one entry entries later true e is = insert_here entry entries e
  insert_one entry entries later false e is = insert_behind entry entries later e is

  lookup_insert : (entries : List (Key × Home))
      → at (insert_entry keys_eq entries key value) ≡ cond (same_key other (key_of key.member)) (Some value) (at entries)
  lookup_insert [] = refl
  lookup_insert (entry ∷ entries) =
      insert_one entry entries (insert_entry keys_eq entries key value) (keys_eq key entry.0) refl (lookup_insert entries)

-- What is noted for a key.
pub noted : (old new : List (Key × Home)) (table after : Table) (key : Key) (home : ℕ × Token) (value : Home) (before : Option Home) → seen old ≡ table → seen new ≡ after
    → before ≡ lookup (same_as (key_of key.member)) old → value ≡ one_more before home → new ≡ insert_entry keys_eq old key value
    → Notes table (key_of key.member) home after
noted old new table after key home value before view view_after before_is value_is is other =
    ap (λ (t : Table). home_in t other) (sym view_after) ∙ lookup_seen other new ∙ ap (lookup (same_as other)) is ∙ lookup_insert other key value old
    ∙ by (same_key other (key_of key.member)) refl
  where
    old_is : lookup (same_as other) old ≡ home_in table other
    old_is = sym (lookup_seen other old) ∙ ap (λ (t : Table). home_in t other) view

    by : (b : Bool) → same_key other (key_of key.member) ≡ b
        → cond b (Some value) (lookup (same_as other) old) ≡ cond b (Some (one_more (home_in table other) home)) (home_in table other)
    by true e =
        let same : other ≡ key_of key.member = (same_key-Decides other (key_of key.member)).0 e in
        ap Some (value_is ∙ ap (λ h. one_more h home) (before_is ∙ ap (λ k. lookup (same_as k) old) (sym same) ∙ old_is))
    by false e = old_is

-- ---- what a table tells

home_more : (methods : List Named) (method : Named) → home_of (methods ++ method ∷ []) ≡ Some (one_more (home_of methods) method.1)
home_more [] method = refl
home_more (one ∷ []) method = refl
home_more (one ∷ other ∷ others) method = refl

pub more_told : (old new : Table) (methods : List Named) (key : MethodKey) (home : ℕ × Token) → TellsHomes old methods → Notes old key home new
    → TellsHomes new (methods ++ (key, home) ∷ [])
more_told old new methods key home told notes other =
    notes other ∙ by (same_key other key) ∙ ap home_of (sym (filter-append (λ (m : Named). same_key other m.0) methods ((key, home) ∷ [])))
  where
    by : (b : Bool) → cond b (Some (one_more (home_in old other) home)) (home_in old other) ≡ home_of (told_by other methods ++ cond b ((key, home) ∷ []) [])
    by true = ap (λ h. Some (one_more h home)) (told other) ∙ sym (home_more (told_by other methods) (key, home))
    by false = told other ∙ ap home_of (sym (append-nil (told_by other methods)))

-- The one method that the table tells.
only_told : (methods : List Named) → only_home (home_of methods) ≡ only methods
only_told [] = refl
only_told (one ∷ []) = refl
only_told (one ∷ other ∷ others) = refl

pub only_is : (table : Table) (methods : List Named) (key : MethodKey) → TellsHomes table methods → only_home (home_in table key) ≡ only (told_by key methods)
only_is table methods key told = ap only_home (told key) ∙ only_told (told_by key methods)

-- ---- the methods of a file

pub none_named : (file : ℕ) (asm : List ℕ) (before : List Named) (table : Table) → assembly_name (metadata asm) ≡ None → TellsHomes table before
    → TellsHomes table (before ++ named_in file asm)
unfolding named_in
none_named file asm before table none told =
    subst (TellsHomes table) (sym (ap (λ (name : Option (List ℕ)). before ++ named_with file asm name) none ∙ append-nil before)) told

pub none_yet : (before : List Named) (table : Table) → TellsHomes table before → TellsHomes table (before ++ [])
none_yet before table told = subst (TellsHomes table) (sym (append-nil before)) told

pub next_told : (file : ℕ) (asm name : List ℕ) (methods : List MethodRow) (index : ℕ) (method : MethodRow) (key : MethodKey) (before : List Named) (old new : Table)
    → index < length methods → method ≡ get_or methods index method → key ≡ key_with asm name method
    → TellsHomes old (before ++ map (named file asm name) (take index methods)) → Notes old key (file, method.token) new
    → TellsHomes new (before ++ map (named file asm name) (take (index + 1) methods))
next_told file asm name methods index method key before old new lt is key_is told notes =
    let one : Named = named file asm name method in
    let longer : map (named file asm name) (take (index + 1) methods) ≡ map (named file asm name) (take index methods) ++ one ∷ [] =
    map_more (named file asm name) methods index method lt ∙ ap (λ (m : MethodRow). map (named file asm name) (take index methods) ++ named file asm name m ∷ []) (sym is) in
    subst (TellsHomes new) (append_assoc before (map (named file asm name) (take index methods)) (one ∷ []) ∙ ap (λ (ms : List Named). before ++ ms) (sym longer))
    (more_told old new (before ++ map (named file asm name) (take index methods)) (key_with asm name method) (file, method.token) told
    (subst (λ (k : MethodKey). Notes old k (file, method.token) new) key_is notes))

pub all_told : (file : ℕ) (asm name : List ℕ) (methods : List MethodRow) (index : ℕ) (before : List Named) (table : Table) → methods ≡ methods_of asm → length methods ≤ index
    → assembly_name (metadata asm) ≡ Some name → TellsHomes table (before ++ map (named file asm name) (take index methods)) → TellsHomes table (before ++ named_in file asm)
unfolding named_in
all_told file asm name methods index before table are past is told =
    let whole : map (named file asm name) (take index methods) ≡ named_with file asm (assembly_name (metadata asm)) =
    ap (map (named file asm name)) (take_all index methods past ∙ are) ∙ sym (ap (named_with file asm) is) in
    subst (λ (ms : List Named). TellsHomes table (before ++ ms)) whole told

-- ---- all files

pub named_more : (first : ℕ) (files : List (List ℕ)) (asm : List ℕ) → all_named first (files ++ asm ∷ []) ≡ all_named first files ++ named_in (first + length files) asm
named_more first [] asm =
    let same : first ≡ first + 0 = omega arith in append-nil (named_in first asm) ∙ ap (λ (n : ℕ). named_in n asm) same
named_more first (other ∷ files) asm =
    let there : suc first + length files ≡ first + suc (length files) = omega arith in
    ap (λ (ms : List Named). named_in first other ++ ms) (named_more (suc first) files asm ∙ ap (λ (n : ℕ). all_named (suc first) files ++ named_in n asm) there)
    ∙ sym (append_assoc (named_in first other) (all_named (suc first) files) (named_in (first + suc (length files)) asm))

pub next_file : (files : List (List ℕ)) (index file : ℕ) (asm : List ℕ) (old new : Table) → index < length files → asm ≡ get_or files index asm → file ≡ index
    → TellsHomes old (all_named 0 (take index files))
    → ((before : List Named) → TellsHomes old before → TellsHomes new (before ++ named_in file asm))
    → TellsHomes new (all_named 0 (take (index + 1) files))
next_file files index file asm old new lt is same told noted =
    let long : length (take index files) ≡ index = length_prefix files index lt in
    let number : 0 + length (take index files) ≡ file = omega (arith, long, same) in
    let longer : all_named 0 (take (index + 1) files) ≡ all_named 0 (take index files) ++ named_in file asm =
    ap (all_named 0) (take_more files index asm lt ∙ ap (λ (a : List ℕ). take index files ++ a ∷ []) (sym is))
    ∙ named_more 0 (take index files) asm ∙ ap (λ (n : ℕ). all_named 0 (take index files) ++ named_in n asm) number in
    subst (TellsHomes new) (sym longer) (noted (all_named 0 (take index files)) told)
  where
    length_prefix : {X : Type 0} (xs : List X) (n : ℕ) → n < length xs → length (take n xs) ≡ n
    length_prefix [] n lt = absurd (omega (arith, lt))
    length_prefix (x ∷ xs) zero lt = refl
    length_prefix (x ∷ xs) (suc n) lt = ap suc (length_prefix xs n (omega (arith, lt)))

pub last_file : (files : List (List ℕ)) (index : ℕ) (table : Table) → length files ≤ index → TellsHomes table (all_named 0 (take index files)) → TellsHomes table (all_named 0 files)
last_file files index table past told = subst (λ (fs : List (List ℕ)). TellsHomes table (all_named 0 fs)) (take_all index files past) told

-- ---- what a token means

pub target_is : (files : List (List ℕ)) (file token : ℕ) (asm : List ℕ) → file < length files → asm ≡ get_or files file asm
    → target_by files file (callee_of (metadata asm) token) (member_of (metadata asm) token) ≡ target files file token
unfolding target
target_is files file token asm lt is =
    let same : asm ≡ get_or files file [] = is ∙ sym (get_or_default files file [] asm lt) in
    ap (λ (a : List ℕ). target_by files file (callee_of (metadata a) token) (member_of (metadata a) token)) same

pub none_told : TellsHomes [] []
none_told key = refl
