-- The nodes of a mesh text, and the dofs of those that are corners of active cells.
use Rattle.std.specs.Prelude.{◌≡◌, ℕ, ◌<◌, List}
use Rattle.std.specs.declared.option.Option.{Option}
use Rattle.std.specs.declared.option.Option.TheVariants.{Some, None}
use Rattle.corner_names.specs.Names.{node}
use Rattle.fem_fixed.specs.Lists.{rank_among}
use Rattle.hanging_refine.specs.Refined.{RefinedMesh}
use Rattle.dof_numbers.specs.Dofs.{Numbering, same_name, name_list, node_dof}
use Rattle.node_ids.specs.NodeIds.{place_of}

-- node ids, by position, and the refined mesh with the degree of its dofs
pub record Nodes : Type 0 where
  pub ids : List ℕ
  pub degree : ℕ
  pub forest : RefinedMesh

-- the dof of the node at a position: none where no active cell has it as a corner
abbrev pub dof_at : ℕ → RefinedMesh → Option ℕ → Option ℕ
dof_at degree forest None = None
dof_at degree forest (Some place) = rank_among same_name (name_list degree forest) (node place)

-- the dof of the node with an id
unfoldable pub dof_of_id : Nodes → ℕ → Option ℕ
dof_of_id nodes id = dof_at nodes.degree nodes.forest (place_of nodes.ids id)

-- the same, as a table of dofs has it
abbrev pub dof_in : Numbering → Option ℕ → Option ℕ
dof_in dofs None = None
dof_in dofs (Some place) = node_dof dofs place

unfoldable pub dof_told : List ℕ → Numbering → ℕ → Option ℕ
dof_told ids dofs id = dof_in dofs (place_of ids id)

-- the dofs of nodes are below the number of dofs
abbrev pub AreDofsWithin : (ℕ → Option ℕ) → ℕ → Type 0
AreDofsWithin dof_of size = (id dof : ℕ) → dof_of id ≡ Some dof → dof < size
