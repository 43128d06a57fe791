use Rattle.answer_laws.proofs.Formats.{same_texts}
use Rattle.answer_laws.proofs.laws.formats_write_the_same.Goals as goal

pub returns : goal.returns
returns c = same_texts c.formats_have_one_answer.ensures c.a_status_tells_the_answer.ensures.written
