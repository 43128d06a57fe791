-- The dofs of nodes, as the table of dofs has them and by the names of corners.
use Rattle.std.proofs.Common.{◌≡◌, ◌∙◌, sym, refl, ℕ, ◌<◌, ◌≤◌, ◌^◌, inl, inr, true, List, length, arith}
use Rattle.std.specs.Prelude.{Some, None}
use Rattle.std.specs.declared.option.Option.{Option}
use Rattle.std.proofs.Math.Path.{fun_ext}
use Rattle.std.proofs.lemmas.Bool.{cases_Bool}
use Rattle.std.proofs.lemmas.List.Quantifiers.{position-Some}
use Rattle.corner_names.specs.Names.{Name, node}
use Rattle.fem_fixed.specs.Lists.{contains, rank_of, rank_among}
use Rattle.fem_fixed.proofs.Occurrences.{numbered, among_some, among_none}
use Rattle.hanging_refine.specs.Refined.{RefinedMesh}
use Rattle.dof_numbers.specs.Dofs.{Numbering, IsNumberingOf, same_name, name_list}
use Rattle.dof_numbers.proofs.Names.{names_equal}
use Rattle.node_ids.specs.NodeIds.{place_of}
use Rattle.constrained_mesh.specs.Nodes.{Nodes, dof_at, dof_of_id, dof_in, dof_told, AreDofsWithin}

abbrev pub nodes_of : List ℕ → ℕ → RefinedMesh → Nodes
nodes_of ids degree forest = record { ids = ids; degree = degree; forest = forest }

told_by : (ids : List ℕ) (forest : RefinedMesh) (dofs : Numbering) → IsNumberingOf forest dofs → length ids ≤ 2 ^ 20 → (id : ℕ) (place : Option ℕ) → place_of ids id ≡ place → dof_in dofs place ≡ dof_at dofs.degree forest place
told_by ids forest dofs is few id None at = refl
told_by ids forest dofs is few id (Some place) at = is.nodes place (let w = (position-Some _ ids place 0 at).0 in omega arith)

-- the two are one
pub told_is : (ids : List ℕ) (forest : RefinedMesh) (dofs : Numbering) → IsNumberingOf forest dofs → length ids ≤ 2 ^ 20 → dof_told ids dofs ≡ dof_of_id (nodes_of ids dofs.degree forest)
unfolding dof_told dof_of_id
told_is ids forest dofs is few = fun_ext (λ id. told_by ids forest dofs is few id (place_of ids id) refl)

below : (names : List Name) (x : Name) (dof size : ℕ) → ((y : Name) → contains same_name names y ≡ true → rank_of same_name names y < size) → rank_among same_name names x ≡ Some dof → dof < size
below names x dof size w e = elim (cases_Bool (contains same_name names x)) [
  | inl h ↦ (let b = w x h in let s = same_some (rank_of same_name names x) dof (sym (among_some same_name names x h) ∙ e) in omega arith)
  | inr h ↦ absurd (no_some (rank_among same_name names x) dof (among_none same_name names x h) e)
]
  where
    same_some : (x y : ℕ) → Some x ≡ Some y → x ≡ y
    same_some x y e = cc

    no_some : (x : Option ℕ) (y : ℕ) → x ≡ None → x ≡ Some y → ⊥
    no_some x y n h = cc

pub told_within : (ids : List ℕ) (forest : RefinedMesh) (dofs : Numbering) → IsNumberingOf forest dofs → length ids ≤ 2 ^ 20 → AreDofsWithin (dof_told ids dofs) dofs.size
unfolding dof_told
told_within ids forest dofs is few id dof e = by (place_of ids id) refl e
  where
    by : (place : Option ℕ) → place_of ids id ≡ place → dof_in dofs place ≡ Some dof → dof < dofs.size
    by None at e = absurd cc
    by (Some place) at e =
        let t = told_by ids forest dofs is few id (Some place) at in
        let s = is.size in
        let b = below (name_list dofs.degree forest) (node place) dof _ (numbered names_equal (name_list dofs.degree forest)).below (sym t ∙ e) in omega arith
