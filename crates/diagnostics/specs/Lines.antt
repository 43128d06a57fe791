-- The statuses of endings, and their lines for the diagnostics.
use Rattle.std.specs.Prelude.{◌≡◌, ◌⊎◌, ℕ, List, [], ◌∷◌, codes, decimal}
use Rattle.std.specs.List.{concat}
use Rattle.std.specs.declared.option.Option.{Option}
use Rattle.fem_text.specs.declared.counts.Counts.{Counts}
use Rattle.fem_text.specs.Counts.{AllWell, EndsInFault}
use Rattle.fem_text.specs.Outside.{appended, TookPrefix}
use Rattle.diagnostics.specs.declared.kinds.MeshTextKind.{MeshTextKind}
use Rattle.diagnostics.specs.declared.kinds.MeshTextKind.TheVariants as mesh_texts
use Rattle.diagnostics.specs.declared.kinds.ProblemTextKind.{ProblemTextKind}
use Rattle.diagnostics.specs.declared.kinds.ProblemTextKind.TheVariants as problem_texts
use Rattle.diagnostics.specs.declared.kinds.VectorTextKind.{VectorTextKind}
use Rattle.diagnostics.specs.declared.kinds.VectorTextKind.TheVariants as vector_texts
use Rattle.diagnostics.specs.declared.kinds.VectorFault.{VectorFault}
use Rattle.diagnostics.specs.declared.kinds.VectorFault.TheVariants as vectors
use Rattle.diagnostics.specs.declared.kinds.MeshKind.{MeshKind}
use Rattle.diagnostics.specs.declared.kinds.MeshKind.TheVariants as meshes
use Rattle.diagnostics.specs.declared.kinds.ConstraintKind.{ConstraintKind}
use Rattle.diagnostics.specs.declared.kinds.ConstraintKind.TheVariants as constraints
use Rattle.diagnostics.specs.declared.kinds.LocalKind.{LocalKind}
use Rattle.diagnostics.specs.declared.kinds.LocalKind.TheVariants as locals
use Rattle.diagnostics.specs.declared.kinds.LimitKind.{LimitKind}
use Rattle.diagnostics.specs.declared.kinds.LimitKind.TheVariants.{MeshSize, MeshCount, ProblemSize, ProblemCount, VectorSize, Level, Cells, Entries}
use Rattle.diagnostics.specs.declared.refusal.Refusal.{Refusal}
use Rattle.diagnostics.specs.declared.refusal.Refusal.TheVariants.{Words, MeshText, ProblemText, Mesh, Constraint, Local, Sum, Limit, Vector, Product, Absent}
use Rattle.diagnostics.specs.declared.ending.Role.{Role}
use Rattle.diagnostics.specs.declared.ending.Role.TheVariants as roles
use Rattle.diagnostics.specs.declared.ending.Output.{Output}
use Rattle.diagnostics.specs.declared.ending.Output.TheVariants as outputs
use Rattle.diagnostics.specs.declared.ending.Ending.{Ending}
use Rattle.diagnostics.specs.declared.ending.Ending.TheVariants.{Refused, ReadFault, WriteFault, NoMemory}

abbrev pub status_of : Refusal → ℕ
status_of Words = 2
status_of (MeshText kind line) = 3
status_of (ProblemText kind line) = 4
status_of (Mesh kind place) = 5
status_of (Constraint kind place) = 6
status_of (Local cell kind) = 7
status_of (Sum cell row) = 8
status_of (Limit kind) = 9
status_of (Vector fault) = 14
status_of (Product cell) = 15
status_of (Absent role) = 17

abbrev pub ending_status : Ending → ℕ
ending_status (Refused refusal) = status_of refusal
ending_status (ReadFault role) = 10
ending_status (WriteFault output) = 11
ending_status NoMemory = 12

abbrev pub mesh_text_word : MeshTextKind → List ℕ
mesh_text_word mesh_texts.Header = codes "Header"
mesh_text_word mesh_texts.Format = codes "Format"
mesh_text_word mesh_texts.Section = codes "Section"
mesh_text_word mesh_texts.NodeLine = codes "NodeLine"
mesh_text_word mesh_texts.CellLine = codes "CellLine"
mesh_text_word mesh_texts.ElementLine = codes "ElementLine"
mesh_text_word mesh_texts.Number = codes "Number"
mesh_text_word mesh_texts.DuplicateId = codes "DuplicateId"
mesh_text_word mesh_texts.UnknownNode = codes "UnknownNode"
mesh_text_word mesh_texts.UnsupportedType = codes "UnsupportedType"
mesh_text_word mesh_texts.TooFew = codes "TooFew"

abbrev pub problem_text_word : ProblemTextKind → List ℕ
problem_text_word problem_texts.Word = codes "Word"
problem_text_word problem_texts.Number = codes "Number"
problem_text_word problem_texts.Repeated = codes "Repeated"

abbrev pub vector_text_word : VectorTextKind → List ℕ
vector_text_word vector_texts.Banner = codes "Banner"
vector_text_word vector_texts.Size = codes "Size"
vector_text_word vector_texts.Entry = codes "Entry"
vector_text_word vector_texts.TooFew = codes "TooFew"

abbrev pub mesh_word : MeshKind → List ℕ
mesh_word meshes.RepeatedCorner = codes "RepeatedCorner"
mesh_word meshes.ZeroArea = codes "ZeroArea"
mesh_word meshes.NotConvex = codes "NotConvex"
mesh_word meshes.EdgeShared = codes "EdgeShared"
mesh_word meshes.LineOffEdge = codes "LineOffEdge"
mesh_word meshes.BoundaryTwice = codes "BoundaryTwice"
mesh_word meshes.NoSuchCell = codes "NoSuchCell"
mesh_word meshes.Flat = codes "Flat"

abbrev pub constraint_word : ConstraintKind → List ℕ
constraint_word constraints.UnknownNode = codes "UnknownNode"
constraint_word constraints.Twice = codes "Twice"
constraint_word constraints.Cycle = codes "Cycle"
constraint_word constraints.Weight = codes "Weight"
constraint_word constraints.Terms = codes "Terms"

abbrev pub local_word : LocalKind → List ℕ
local_word locals.Distorted = codes "Distorted"
local_word locals.Size = codes "Size"

abbrev pub role_word : Role → List ℕ
role_word roles.Mesh = codes "mesh"
role_word roles.Problem = codes "problem"
role_word roles.Vector = codes "vector"

abbrev pub output_word : Output → List ℕ
output_word outputs.Matrix = codes "matrix"
output_word outputs.RightSide = codes "rhs"

-- a line that ends with a word
abbrev pub word_line : List ℕ → List ℕ → List ℕ
word_line front word = concat (codes "assemble: " ∷ front ∷ word ∷ codes "\n" ∷ [])

-- a line with a number and then a word
abbrev pub named_line : List ℕ → ℕ → List ℕ → List ℕ
named_line front number word = concat (codes "assemble: " ∷ front ∷ decimal number ∷ codes " " ∷ word ∷ codes "\n" ∷ [])

-- a line with a word and then a number
abbrev pub fault_line : List ℕ → List ℕ → ℕ → List ℕ
fault_line front word number = concat (codes "assemble: " ∷ front ∷ word ∷ codes " " ∷ decimal number ∷ codes "\n" ∷ [])

abbrev pub sum_line : ℕ → ℕ → List ℕ
sum_line cell row = concat (codes "assemble: 8 Sum cell " ∷ decimal cell ∷ codes " row " ∷ decimal row ∷ codes "\n" ∷ [])

abbrev pub limit_line : LimitKind → List ℕ
limit_line MeshSize = word_line (codes "9 Limit ") (codes "MeshSize")
limit_line (MeshCount line) = fault_line (codes "9 Limit MeshCount ") (codes "line") line
limit_line ProblemSize = word_line (codes "9 Limit ") (codes "ProblemSize")
limit_line (ProblemCount line) = fault_line (codes "9 Limit ProblemCount ") (codes "line") line
limit_line VectorSize = word_line (codes "9 Limit ") (codes "VectorSize")
limit_line Level = word_line (codes "9 Limit ") (codes "Level")
limit_line Cells = word_line (codes "9 Limit ") (codes "Cells")
limit_line Entries = word_line (codes "9 Limit ") (codes "Entries")

abbrev pub vector_line : VectorFault → List ℕ
vector_line (vectors.Text kind line) = named_line (codes "14 VectorText line ") line (vector_text_word kind)
vector_line (vectors.Length length) = fault_line (codes "14 VectorText ") (codes "Length") length
vector_line (vectors.Value place) = fault_line (codes "14 VectorText ") (codes "Value") place

-- the line of a refusal
abbrev pub refusal_line : Refusal → List ℕ
refusal_line Words = word_line (codes "2 ") (codes "Words")
refusal_line (MeshText kind line) = named_line (codes "3 MeshText line ") line (mesh_text_word kind)
refusal_line (ProblemText kind line) = named_line (codes "4 ProblemText line ") line (problem_text_word kind)
refusal_line (Mesh kind place) = fault_line (codes "5 Mesh ") (mesh_word kind) place
refusal_line (Constraint kind place) = fault_line (codes "6 Constraint ") (constraint_word kind) place
refusal_line (Local cell kind) = named_line (codes "7 Local cell ") cell (local_word kind)
refusal_line (Sum cell row) = sum_line cell row
refusal_line (Limit kind) = limit_line kind
refusal_line (Vector fault) = vector_line fault
refusal_line (Product cell) = fault_line (codes "15 Product ") (codes "cell") cell
refusal_line (Absent role) = word_line (codes "17 Absent ") (role_word role)

-- the line of an ending
abbrev pub ending_line : Ending → List ℕ
ending_line (Refused refusal) = refusal_line refusal
ending_line (ReadFault role) = word_line (codes "10 ReadFault ") (role_word role)
ending_line (WriteFault output) = word_line (codes "11 WriteFault ") (output_word output)
ending_line NoMemory = word_line (codes "12 ") (codes "NoMemory")

-- a sink took this line; or a put to it failed, which was the last one, and it took a prefix
abbrev pub TookLine : Option (List ℕ) → Option (List ℕ) → Counts → Counts → List ℕ → Type 0
TookLine before now counts counts_now line = (AllWell counts counts_now × (now ≡ appended before line)) ⊎ (EndsInFault counts counts_now × TookPrefix before now line)
