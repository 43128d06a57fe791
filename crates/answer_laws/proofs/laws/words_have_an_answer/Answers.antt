use Rattle.answer_laws.proofs.Some.{some_answer}
use Rattle.answer_laws.proofs.laws.words_have_an_answer.Goals as goal

pub returns : goal.returns
returns c =
    some_answer c.one_reading.ensures c.words_have_a_reading.ensures c.sources_have_a_reading.ensures c.vectors_have_a_reading.ensures c.texts_have_quadrilaterals.ensures.ucd c.texts_have_quadrilaterals.ensures.msh c.a_mesh_has_a_set_up.ensures
    c.systems_have_a_list_of_texts.ensures c.a_mesh_can_be_refined.ensures c.systems_have_a_product.ensures c.forests_have_marks.ensures
