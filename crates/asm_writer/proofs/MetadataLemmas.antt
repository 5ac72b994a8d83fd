-- How many bytes the root has.
use Rattle.std.proofs.Common.{◌≡◌, ℕ, List, ◌++◌, length, refl}
use Rattle.asm_writer.specs.declared.layout.Layout.{Layout}
use Rattle.asm_writer.specs.declared.plan.MethodPlan.{MethodPlan}
use Rattle.asm_writer.specs.Metadata.{padded_text, root_prefix, root, root_size, joined, streams, metadata}
use Rattle.asm_writer.specs.Names.{zero_ended}
use Rattle.asm_writer.specs.Numbers.{numbers_bytes}
use Rattle.asm_writer.specs.Padding.{padded, round_up}
use Rattle.asm_writer.specs.Stream.{tables_stream}

pub length_root : (size : ℕ) (tables : List ℕ) (l : Layout) → length (root size (streams tables l)) ≡ 108
unfolding root root_prefix joined numbers_bytes padded_text padded round_up zero_ended
length_root size tables l = refl

pub metadata_parts : (l : Layout) (ms : List MethodPlan) → metadata l ms ≡ root_prefix 5 ++ (joined 108 (streams (tables_stream l ms) l)).headers ++ (joined 108 (streams (tables_stream l ms) l)).bytes
unfolding metadata root_size root
metadata_parts l ms = rw (length_root 0 (tables_stream l ms) l) refl
