use Rattle.assembly_answers.proofs.PlainTexts.{methods_plain}
use Rattle.assembly_answers.proofs.list_answer.put_list.Goals as goal

pub put_methods-requires : goal.put_methods-requires
put_methods-requires g c = rw c.methods.ensures (methods_plain c.args.file.now)
