-- The limits of what is checked.
use Rattle.std.specs.Prelude.{ℕ}

-- The most bytes of a file.
abbrev pub MAX_FILE_BYTES : ℕ
MAX_FILE_BYTES = 67_108_864

-- The most bytes of a method's code.
abbrev pub MAX_CODE_BYTES : ℕ
MAX_CODE_BYTES = 65_536

-- The most instructions of a method.
abbrev pub MAX_INSTRUCTIONS : ℕ
MAX_INSTRUCTIONS = 4_096

-- The most arguments, locals and stack slots of a method together.
abbrev pub MAX_VARIABLES : ℕ
MAX_VARIABLES = 256

-- The most blocks of a method's body.
abbrev pub MAX_BLOCKS : ℕ
MAX_BLOCKS = 512

-- The most bytes of a method's name in its unit, without the types of its parameters.
abbrev pub MAX_NAME_BYTES : ℕ
MAX_NAME_BYTES = 65_535

-- The most clauses of a method.
abbrev pub MAX_CLAUSES : ℕ
MAX_CLAUSES = 16

-- The most nodes of a clause's tree.
abbrev pub MAX_NODES : ℕ
MAX_NODES = 4_096

-- The most conditions on a way from the root of a clause's tree to a leaf.
abbrev pub MAX_CONDITIONS : ℕ
MAX_CONDITIONS = 10

-- The most old values in all clauses of a method together.
abbrev pub MAX_OLD_VALUES : ℕ
MAX_OLD_VALUES = 64
