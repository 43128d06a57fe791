use Rattle.constrained_mesh.proofs.MemoryLaws.{never}
use Rattle.constrained_mesh.proofs.laws.answers_are_never_for_memory.Goals as goal

pub returns : goal.returns
returns c = never
