-- What tells keys apart.
use Rattle.std.specs.Prelude.{Bool, ◌&&◌, ◌==◌}
use Rattle.std.specs.Ordering.{int_eq}
use Rattle.symbolic_values.specs.declared.pairs.Key.{Key}
use Rattle.symbolic_values.specs.declared.identity.Identity.{Identity}

-- The symbols and the shift of a key.
abbrev pub identity_of : Key → Identity
identity_of u = record { s = u.s; t = u.t; shift = u.shift }

abbrev pub same_identity : Identity → Identity → Bool
same_identity a b = a.s == b.s && (a.t == b.t && int_eq a.shift b.shift)
