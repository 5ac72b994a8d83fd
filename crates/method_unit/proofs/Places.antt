-- What a fault of the code names stands in the file.
use Rattle.std.proofs.Common.{◌≡◌, ℕ, ◌+◌, ◌<◌, ◌≤◌, ◌^◌, nat_le, List, [], ◌∷◌, map, length, filter, option_map, None, Fits, w32, sym, subst, ap, arith}
use Rattle.std.specs.List.{All, AllByRecursion, list_any}
use Rattle.std.specs.Prelude.{◌==◌, ◌||◌, Bool}
use Rattle.std.proofs.lemmas.List.{length-map}
use Rattle.std.proofs.lemmas.Option.{slice_get_past}
use Rattle.cil_model.specs.Blocks.{start_of_body, starts_at}
use Rattle.cil_model.specs.Code.{CodeOf}
use Rattle.cil_model.specs.Limits.{MAX_BLOCKS, MAX_CODE_BYTES}
use Rattle.cil_model.proofs.ShortCodes.{code_is_short}
use Rattle.il_decoder.specs.Decoding.{instructions_of}
use Rattle.il_decoder.proofs.FaultPlaces.{code_instr_places}
use Rattle.stack_typer.proofs.CodeLies.{code_lies}
use Rattle.cil_model.specs.declared.instruction.Instr.{Instr}
use Rattle.flow_graph.specs.BlocksOf.{block_starts}
use Rattle.method_unit.specs.Units.{AreDecodedOf, AreWithin}
use Rattle.flow_graph.proofs.Lying.{all_by_index, all_passing, length-passing}
use Rattle.method_unit.specs.UnitFile.{block_test, form_at, start_test}

pub place_fits : (base most at : ℕ) → at ≤ most → base + most < 2 ^ 32 → Fits w32 (base + at)
place_fits base most at le small = omega (arith, le, small)

offsets_within : (base most : ℕ) (is : List Instr) → base + most < 2 ^ 32 → AllByRecursion (λ i. i.at ≤ most) is → AllByRecursion (λ at. base + at < 2 ^ 32) (map (λ i. i.at) is)
offsets_within base most [] small all = tt
offsets_within base most (i ∷ is) small all = (omega (arith, small, all.0), offsets_within base most is small all.1)

-- Blocks start at instructions.
pub blocks_within : (base : ℕ) (is : List Instr) (start : ℕ) (starts : List ℕ) → base + MAX_CODE_BYTES < 2 ^ 32 → AreWithin is → starts ≡ block_starts is start
    → All (λ at. base + at < 2 ^ 32) starts
blocks_within base is start starts small all are =
    subst (All (λ at. base + at < 2 ^ 32)) (sym are)
    (all_by_index (λ at. base + at < 2 ^ 32) _ (offsets_within base MAX_CODE_BYTES _ small
    (all_passing (λ i. i.at ≤ MAX_CODE_BYTES) _ _ (all_passing (λ i. i.at ≤ MAX_CODE_BYTES) (λ i. nat_le start i.at) is all))))

-- There are no more blocks than instructions.
length-starts : (is : List Instr) (start : ℕ) → length (block_starts is start) ≤ length is
length-starts is start =
    let body = filter (λ i. nat_le start i.at) is in
    let starts : Instr → Bool = λ i. i.at == start || list_any (starts_at i.at) body in
    omega (
      arith,
      length-map (filter starts body) (λ i. i.at),
      length-passing starts body,
      length-passing (λ i. nat_le start i.at) is,
    )

-- Few instructions make few blocks.
pub few_blocks : (base : ℕ) (is : List Instr) → length is ≤ MAX_BLOCKS → block_test base is ≡ None
unfolding start_test
few_blocks base is few =
    let starts = block_starts is (start_of_body is) in
    ap (option_map (form_at base)) (slice_get_past starts MAX_BLOCKS (omega (arith, few, length-starts is (start_of_body is))))

each_below : (least most : ℕ) (is : List Instr) → least ≤ most → AllByRecursion (λ i. i.at ≤ least) is → AllByRecursion (λ i. i.at ≤ most) is
each_below least most [] le all = tt
each_below least most (i ∷ is) le all = (omega (arith, le, all.0), each_below least most is le all.1)

each_inside : (base most : ℕ) (is : List Instr) → base + most < 2 ^ 32 → AllByRecursion (λ i. i.at ≤ most) is → AllByRecursion (λ i. base + i.at < 2 ^ 32) is
each_inside base most [] small all = tt
each_inside base most (i ∷ is) small all = (omega (arith, small, all.0), each_inside base most is small all.1)

-- Instructions of code lie in it one after another.
pub decoded_of : (base : ℕ) (code : List ℕ) (is : List Instr) → length code ≤ 65536 → base + 65536 < 2 ^ 32 → is ≡ instructions_of code → CodeOf is code → AreDecodedOf base code is
decoded_of base code is short small are of_code =
    let places = subst (AllByRecursion (λ i. i.at ≤ length code)) (sym are) (code_instr_places code) in
    let within = each_below (length code) 65536 is short places in
    record {
      spelled = of_code;
      short = code_is_short is code of_code (omega (arith, short));
      laid = code_lies is code of_code;
      within = within;
      inside = all_by_index _ is (each_inside base 65536 is small within);
    }
