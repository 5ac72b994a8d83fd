-- The method that calls itself is well formed, so that the definition of well formed units holds of one at least.
use Rattle.std.proofs.Common.{◌≡◌, ◌≢◌, ℕ, ◌<◌, ◌≤◌, true, [], ◌∷◌, drop, refl, arith, inl, inr}
use Rattle.std.specs.List.{AllByRecursion}
use Rattle.cil_model.specs.Blocks.{branch_targets}
use Rattle.cil_model.specs.Bodies.{HasBody, is_executed}
use Rattle.cil_model.specs.Code.{CodeFrom, CodeOf}
use Rattle.cil_model.specs.Opcodes.{short_form, long_form, variable_form, constant_form, branch_form, test_of, operator_of, object_form}
use Rattle.cil_model.specs.Spells.{Spells, SpellsForm}
use Rattle.cil_model.specs.UnitCalls.{unit_call}
use Rattle.cil_model.specs.WellFormed.{IsCallee, IsUnitName, IsWellFormed, IsWithinLimits}
use Rattle.cil_model.specs.declared.instruction.Instr.{Instr}
use Rattle.cil_model.specs.declared.place.Place.TheVariants as places
use Rattle.cil_model.proofs.SumKinds.{stacks, sum_has_kinds}
use Rattle.cil_model.proofs.SumUnit.{sum, sum_info}
use Rattle.cil_model.proofs.WrittenClauses.{as_written}

-- An opcode of one byte without an operand, and with one of one byte or of four.
alone : (b : ℕ) (i : Instr) → b < 256 → i.size ≡ 1 → SpellsForm (short_form b) (b ∷ []) i (b ∷ []) → Spells i (b ∷ [])
alone b i small size form = record { size = size; row = inl (b, small, form) }

code_from : CodeFrom 0 sum.instrs sum.code
unfolding short_form long_form variable_form constant_form branch_form test_of operator_of object_form
code_from = (
  refl,
  (
    0x02 ∷ [],
    _,
    alone 0x02 _ (omega arith) refl (0, omega arith, refl, refl),
    refl,
    (
      refl,
      (
        0x16 ∷ [],
        _,
        alone 0x16 _ (omega arith) refl (0, omega arith, refl, refl),
        refl,
        (
          refl,
          (
            0xfe ∷ 0x04 ∷ [],
            _,
            record { size = refl; row = inr (inl (0x04, omega arith, (0, omega arith, refl, refl))) },
            refl,
            (
              refl,
              (
                0x16 ∷ [],
                _,
                alone 0x16 _ (omega arith) refl (0, omega arith, refl, refl),
                refl,
                (
                  refl,
                  (
                    0xfe ∷ 0x01 ∷ [],
                    _,
                    record { size = refl; row = inr (inl (0x01, omega arith, (0, omega arith, refl, refl))) },
                    refl,
                    (
                      refl,
                      (
                        0x28 ∷ 1 ∷ 0 ∷ 0 ∷ 0 ∷ [],
                        _,
                        record { size = refl; row = inl (0x28, omega arith, (1, omega arith, refl, refl)) },
                        refl,
                        (
                          refl,
                          (
                            0x02 ∷ [],
                            _,
                            alone 0x02 _ (omega arith) refl (0, omega arith, refl, refl),
                            refl,
                            (
                              refl,
                              (
                                0x2d ∷ 2 ∷ [],
                                _,
                                record { size = refl; row = inl (0x2d, omega arith, (2, omega arith, refl, refl)) },
                                refl,
                                (
                                  refl,
                                  (
                                    0x16 ∷ [],
                                    _,
                                    alone 0x16 _ (omega arith) refl (0, omega arith, refl, refl),
                                    refl,
                                    (
                                      refl,
                                      (
                                        0x2a ∷ [],
                                        _,
                                        alone 0x2a _ (omega arith) refl (0, omega arith, refl, refl),
                                        refl,
                                        (
                                          refl,
                                          (
                                            0x02 ∷ [],
                                            _,
                                            alone 0x02 _ (omega arith) refl (0, omega arith, refl, refl),
                                            refl,
                                            (
                                              refl,
                                              (
                                                0x02 ∷ [],
                                                _,
                                                alone 0x02 _ (omega arith) refl (0, omega arith, refl, refl),
                                                refl,
                                                (
                                                  refl,
                                                  (
                                                    0x17 ∷ [],
                                                    _,
                                                    alone 0x17 _ (omega arith) refl (0, omega arith, refl, refl),
                                                    refl,
                                                    (
                                                      refl,
                                                      (
                                                        0x59 ∷ [],
                                                        _,
                                                        alone 0x59 _ (omega arith) refl (0, omega arith, refl, refl),
                                                        refl,
                                                        (
                                                          refl,
                                                          (
                                                            0x28 ∷ 0x64 ∷ 0 ∷ 0 ∷ 0 ∷ [],
                                                            _,
                                                            record { size = refl; row = inl (0x28, omega arith, (100, omega arith, refl, refl)) },
                                                            refl,
                                                            (
                                                              refl,
                                                              (
                                                                0x58 ∷ [],
                                                                _,
                                                                alone 0x58 _ (omega arith) refl (0, omega arith, refl, refl),
                                                                refl,
                                                                (refl, (0x2a ∷ [], _, alone 0x2a _ (omega arith) refl (0, omega arith, refl, refl), refl, refl)),
                                                              ),
                                                            ),
                                                          ),
                                                        ),
                                                      ),
                                                    ),
                                                  ),
                                                ),
                                              ),
                                            ),
                                          ),
                                        ),
                                      ),
                                    ),
                                  ),
                                ),
                              ),
                            ),
                          ),
                        ),
                      ),
                    ),
                  ),
                ),
              ),
            ),
          ),
        ),
      ),
    ),
  ),
)

code_is : CodeOf sum.instrs sum.code
code_is = record { spelled = code_from; targets = (tt, (tt, (tt, (tt, (tt, (tt, (tt, ((refl, tt), (tt, (tt, (tt, (tt, (tt, (tt, (tt, (tt, (tt, tt))))))))))))))))) }

int_is_no_void : places.Int ≢ places.Void
int_is_no_void e = absurd cc

name_is : IsUnitName sum.name
name_is = record { graphic = search (arith); short = omega arith }

within : IsWithinLimits sum
unfolding unit_call
within = record {
  code = omega arith;
  instructions = omega arith;
  blocks = omega arith;
  variables = omega arith;
  clauses = record { count = omega arith; nodes = (omega arith, tt); conditions = (omega arith, tt); old_values = omega arith };
}

callee_is : IsCallee sum_info
callee_is = record {
  args = (int_is_no_void, tt);
  few_args = omega arith;
  name = name_is;
  clauses = within.clauses;
  ints = search (arith);
  numbers = (refl, tt);
}

executed_behind : AllByRecursion (λ i. 12 ≤ i.at → is_executed i.op ≡ true) (drop 6 sum.instrs)
unfolding unit_call
executed_behind = (λ h. refl, (λ h. refl, (λ h. refl, (λ h. refl, (λ h. refl, (λ h. refl, (λ h. refl, (λ h. refl, (λ h. refl, (λ h. refl, (λ h. refl, tt)))))))))))

inside_behind : AllByRecursion (λ i. 12 ≤ i.at → AllByRecursion (λ at. 12 ≤ at) (branch_targets i.op)) (drop 8 sum.instrs)
inside_behind = (λ h. tt, (λ h. tt, (λ h. tt, (λ h. tt, (λ h. tt, (λ h. tt, (λ h. tt, (λ h. tt, (λ h. tt, tt)))))))))

-- The call of Requires stands before the body.
sum_has_body : HasBody sum.instrs stacks 12
unfolding unit_call
sum_has_body = record {
  empty = refl;
  executed = (λ h. refl, (λ h. refl, (λ h. refl, (λ h. refl, (λ h. refl, (λ h. absurd (omega (arith, h)), executed_behind))))));
  inside = (λ h. tt, (λ h. tt, (λ h. tt, (λ h. tt, (λ h. tt, (λ h. tt, (λ h. tt, (λ h. (omega arith, tt), inside_behind))))))));
}

-- The method is well formed.
pub sum_is_well_formed : IsWellFormed sum
unfolding unit_call
sum_is_well_formed = record {
  name = name_is;
  code = code_is;
  body = refl;
  args = (int_is_no_void, tt);
  locals = tt;
  named = search (arith);
  clauses = as_written sum.instrs sum.clauses refl;
  order = inr (refl, refl);
  callees = (callee_is, tt);
  numbers = (refl, tt);
  runs = record { stacks = stacks; kinds = sum_has_kinds; body = sum_has_body };
  limits = within;
}
