-- Counts of methods and of their obligations.
use Rattle.std.specs.Prelude.{ℕ, ◌+◌, ◌<◌}
use Rattle.answer_lines.specs.declared.lines.Counts.{Counts}

abbrev pub no_counts : Counts
no_counts = record { methods = 0; proved = 0; unproved = 0; skipped = 0; obligations = 0; proved_obligations = 0 }

abbrev pub counts_plus : Counts → Counts → Counts
counts_plus a b = record {
  methods = a.methods + b.methods;
  proved = a.proved + b.proved;
  unproved = a.unproved + b.unproved;
  skipped = a.skipped + b.skipped;
  obligations = a.obligations + b.obligations;
  proved_obligations = a.proved_obligations + b.proved_obligations;
}

pub record AreBelow (limit : ℕ) (n : Counts) : Type 0 where
  pub methods : n.methods < limit
  pub proved : n.proved < limit
  pub unproved : n.unproved < limit
  pub skipped : n.skipped < limit
  pub obligations : n.obligations < limit
  pub proved_obligations : n.proved_obligations < limit
