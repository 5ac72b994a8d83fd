use Rattle.proof_files.proofs.HexReading.{byte_read, high_none, low_none}
use Rattle.proof_files.proofs.hex_text.byte_value.Goals as goal

pub returns-in_default : goal.returns-in_default
returns-in_default c = high_none c.args.high c.args.low c.in_default.ensures

pub returns-in_default-digit_value : goal.returns-in_default-digit_value
returns-in_default-digit_value c = low_none c.args.high c.args.low c.in_default-digit_value.ensures

pub returns : goal.returns
returns c =
    byte_read c.args.high c.args.low c.in-Some.first c.in-Some-digit_value.second c.in-Some.ensures.0
    c.in-Some-digit_value.ensures.0
    c.in-Some.ensures.1 c.in-Some-digit_value.ensures.1
