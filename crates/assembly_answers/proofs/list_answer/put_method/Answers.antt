use Rattle.asm_image.specs.Rows.{first_name}
use Rattle.assembly_answers.proofs.PlainTexts.{listed_is_line}
use Rattle.assembly_answers.proofs.list_answer.put_method.Goals as goal

pub put_line-requires : goal.put_line-requires
put_line-requires g c =
    rw (c.deref.ensures.value, c.in_ok-append_line.ensures.ok, c.clear.ensures.items)
    (listed_is_line c.args.token (first_name c.args.walk.now) c.requires)
