-- The digits that are left to write, before those that stand already, are all the digits.
use Rattle.std.proofs.Common.{◌≡◌, ◌++◌, length, drop}
use Rattle.cc_base.specs.Digits.{hex}
use Rattle.cc_base.proofs.digits.hex_text.Given as goal

abbrev pub invariant-loop-index : goal.invariant-loop-index
invariant-loop-index l = record {
  room : length l.text ≡ 8;
  written : hex l.index l.rest ++ drop l.index l.text ≡ hex l.digits l.n ++ drop l.digits l.initial.text;
}
