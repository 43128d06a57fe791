-- The faults of the texts as endings of a run: a refusal, or want of memory.
use Rattle.std.specs.Prelude.{ℕ}
use Rattle.ucd_read.specs.declared.fault.UcdKind.{UcdKind}
use Rattle.ucd_read.specs.declared.fault.UcdKind.TheVariants as ucd
use Rattle.msh_read.specs.declared.fault.MshKind.{MshKind}
use Rattle.msh_read.specs.declared.fault.MshKind.TheVariants as msh
use Rattle.problem_read.specs.declared.fault.ProblemKind.{ProblemKind}
use Rattle.problem_read.specs.declared.fault.ProblemKind.TheVariants as problem
use Rattle.matrix_market.specs.declared.fault.MarketKind.{MarketKind}
use Rattle.matrix_market.specs.declared.fault.MarketKind.TheVariants as market
use Rattle.diagnostics.specs.declared.kinds.VectorTextKind.TheVariants as vector_texts
use Rattle.diagnostics.specs.declared.kinds.VectorFault.TheVariants.{Text}
use Rattle.diagnostics.specs.declared.kinds.MeshTextKind.TheVariants as mesh_texts
use Rattle.diagnostics.specs.declared.kinds.ProblemTextKind.TheVariants as problem_texts
use Rattle.diagnostics.specs.declared.kinds.LimitKind.TheVariants.{MeshCount, ProblemCount}
use Rattle.diagnostics.specs.declared.refusal.Refusal.TheVariants.{MeshText, ProblemText, Limit, Vector}
use Rattle.diagnostics.specs.declared.ending.Ending.{Ending}
use Rattle.diagnostics.specs.declared.ending.Ending.TheVariants.{Refused, NoMemory}

abbrev pub of_ucd : UcdKind → ℕ → Ending
of_ucd ucd.Header line = Refused (MeshText mesh_texts.Header line)
of_ucd ucd.NodeLine line = Refused (MeshText mesh_texts.NodeLine line)
of_ucd ucd.CellLine line = Refused (MeshText mesh_texts.CellLine line)
of_ucd ucd.Number line = Refused (MeshText mesh_texts.Number line)
of_ucd ucd.DuplicateId line = Refused (MeshText mesh_texts.DuplicateId line)
of_ucd ucd.UnknownNode line = Refused (MeshText mesh_texts.UnknownNode line)
of_ucd ucd.UnsupportedType line = Refused (MeshText mesh_texts.UnsupportedType line)
of_ucd ucd.TooFew line = Refused (MeshText mesh_texts.TooFew line)
of_ucd ucd.Limit line = Refused (Limit (MeshCount line))
of_ucd ucd.NoMemory line = NoMemory

abbrev pub of_msh : MshKind → ℕ → Ending
of_msh msh.Format line = Refused (MeshText mesh_texts.Format line)
of_msh msh.NodeLine line = Refused (MeshText mesh_texts.NodeLine line)
of_msh msh.ElementLine line = Refused (MeshText mesh_texts.ElementLine line)
of_msh msh.Number line = Refused (MeshText mesh_texts.Number line)
of_msh msh.DuplicateId line = Refused (MeshText mesh_texts.DuplicateId line)
of_msh msh.UnknownNode line = Refused (MeshText mesh_texts.UnknownNode line)
of_msh msh.UnsupportedType line = Refused (MeshText mesh_texts.UnsupportedType line)
of_msh msh.TooFew line = Refused (MeshText mesh_texts.TooFew line)
of_msh msh.Section line = Refused (MeshText mesh_texts.Section line)
of_msh msh.Limit line = Refused (Limit (MeshCount line))
of_msh msh.NoMemory line = NoMemory

abbrev pub of_problem_text : ProblemKind → ℕ → Ending
of_problem_text problem.Word line = Refused (ProblemText problem_texts.Word line)
of_problem_text problem.Number line = Refused (ProblemText problem_texts.Number line)
of_problem_text problem.Repeated line = Refused (ProblemText problem_texts.Repeated line)
of_problem_text problem.Limit line = Refused (Limit (ProblemCount line))
of_problem_text problem.NoMemory line = NoMemory

abbrev pub of_vector_text : MarketKind → ℕ → Ending
of_vector_text market.Banner line = Refused (Vector (Text vector_texts.Banner line))
of_vector_text market.Size line = Refused (Vector (Text vector_texts.Size line))
of_vector_text market.Entry line = Refused (Vector (Text vector_texts.Entry line))
of_vector_text market.TooFew line = Refused (Vector (Text vector_texts.TooFew line))
of_vector_text market.NoMemory line = NoMemory
