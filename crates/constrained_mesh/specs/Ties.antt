-- The lines of a problem's constraints: node ids become dofs, and each line is added or refused before the next.
use Rattle.std.specs.Prelude.{ℕ, not, List, [], ◌∷◌, is_some, slice_set, Some, Ok}
use Rattle.std.specs.declared.option.Option.{Option}
use Rattle.std.specs.declared.result.Result.{Result}
use Rattle.fem_text.specs.Words.{◌>>=◌, or_fault, unless}
use Rattle.affine_constraints.specs.declared.term.Term.{Term}
use Rattle.affine_constraints.specs.Lines.{lines_in}
use Rattle.problem_read.specs.declared.ties.TieTerm.{TieTerm}
use Rattle.problem_read.specs.Entries.{Tie}
use Rattle.constrained_mesh.specs.declared.fault.ConstraintFault.{ConstraintFault}
use Rattle.constrained_mesh.specs.declared.fault.ConstraintFault.TheVariants.{UnknownNode, Twice}
use Rattle.constrained_mesh.specs.MeshLines.{Table}

-- the dof of the node with an id, where there is one
abbrev pub DofOf : Type 0
DofOf = ℕ → Option ℕ

-- the dof of a node, or that its id is unknown
unfoldable pub dof_named : DofOf → ℕ → Result ℕ ConstraintFault
dof_named dof_of id = or_fault (UnknownNode id) (dof_of id)

-- a term, with the dof of its node
unfoldable pub term_named : DofOf → TieTerm → Result Term ConstraintFault
term_named dof_of term = do
  dof ← dof_named dof_of term.node
  Ok (record { dof = dof; weight = term.weight })

-- all terms, or the fault of the first that has one
unfoldable pub terms_named : DofOf → List TieTerm → Result (List Term) ConstraintFault
terms_named dof_of [] = Ok []
terms_named dof_of (term ∷ terms) = do
  first ← term_named dof_of term
  rest ← terms_named dof_of terms
  Ok (first ∷ rest)

-- the table with the line of a constraint: the ids are looked up first, the left one and then those on the right
unfoldable pub with_tie : DofOf → Table → Tie → Result Table ConstraintFault
with_tie dof_of table tie = do
  dof ← dof_named dof_of tie.node
  terms ← terms_named dof_of tie.terms
  free ← unless (Twice dof) (not (is_some (lines_in table dof)))
  Ok (slice_set table dof (Some (record { terms = terms; constant = tie.constant })))

-- the table with the lines of these constraints, one after another, or the first fault
unfoldable pub with_ties : DofOf → Table → List Tie → Result Table ConstraintFault
with_ties dof_of table [] = Ok table
with_ties dof_of table (tie ∷ ties) = do
  next ← with_tie dof_of table tie
  with_ties dof_of next ties
