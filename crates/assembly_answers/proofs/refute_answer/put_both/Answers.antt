use Rattle.assembly_answers.proofs.BothTexts.{second_writes}
use Rattle.assembly_answers.proofs.refute_answer.put_both.Goals as goal

pub returns : goal.returns
returns g c =
    let first = c.in_ok-put_line.ensures in
    second_writes c.put_line-2.result _ _ _ _ _ _ _ _ _ c.args.first.now c.args.second.now first.whole first.puts first.kept c.put_line-2.ensures
