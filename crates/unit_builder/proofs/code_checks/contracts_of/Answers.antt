use Rattle.unit_builder.proofs.CodeFacts.{read_faulty, read_told}
use Rattle.unit_builder.proofs.code_checks.contracts_of.Goals as goal

pub returns-in-Ok : goal.returns-in-Ok
returns-in-Ok c shape judged = read_told _ c.args.contracts.now _ c.in-Ok.contracts judged c.in-Ok.is

pub returns-in-Err : goal.returns-in-Err
returns-in-Err c shape judged = read_faulty _ c.args.contracts.now _ c.in-Err.fault judged c.in-Err.is
