use Rattle.proof_files.proofs.CutScan.{IsScanned}
use Rattle.proof_files.proofs.cuts.find_end.Given as goal

abbrev pub invariant-loop-place : goal.invariant-loop-place
invariant-loop-place l = IsScanned l.text l.start l.place
