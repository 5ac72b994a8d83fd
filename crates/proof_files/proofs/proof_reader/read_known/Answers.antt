use Rattle.proof_files.proofs.proof_reader.read_known.Goals as goal

pub read_entries-requires-clause-begins : goal.read_entries-requires-clause-begins
read_entries-requires-clause-begins c = (c.in-Some._behind.now, c.in-Some.ensures)
