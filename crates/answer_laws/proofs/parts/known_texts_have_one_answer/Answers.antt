use Rattle.answer_laws.proofs.One.{one_known}
use Rattle.answer_laws.proofs.parts.known_texts_have_one_answer.Goals as goal

pub returns : goal.returns
returns c =
    one_known c.one_reading.ensures c.sources_have_one_reading.ensures c.vectors_have_one_reading.ensures c.a_mesh_has_one_system.ensures c.systems_have_one_list_of_texts.ensures
    c.refined_meshes_are_one.ensures.forest c.refined_meshes_are_one.ensures.finer c.refined_meshes_are_one.ensures.system c.systems_have_one_product.ensures c.forests_have_one_list_of_marks.ensures
