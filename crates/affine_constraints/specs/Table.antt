-- A table of lines whose terms lie in one list.
use Rattle.std.specs.Prelude.{ℕ, ◌-◌, ◌≤◌, List, length, map, take, drop, slice_index_or, option_map, None, IfSome}
use Rattle.std.specs.declared.option.Option.{Option}
use Rattle.affine_constraints.specs.declared.term.Term.{Term}
use Rattle.affine_constraints.specs.declared.table.Place.{Place}
use Rattle.affine_constraints.specs.Lines.{AffineLine}

-- the line at a place of the list of terms
abbrev pub line_at : List Term → Place → AffineLine
line_at terms p = record { terms = take (p.end - p.start) (drop p.start terms); constant = p.constant }

-- the lines at these places
abbrev pub table_of : List (Option Place) → List Term → List (Option AffineLine)
table_of places terms = map (option_map (line_at terms)) places

abbrev pub place_in : List (Option Place) → ℕ → Option Place
place_in places dof = slice_index_or places dof None

-- a place in a list of this length
pub record IsPlace (size : ℕ) (p : Place) : Type 0 where
  pub rising : p.start ≤ p.end
  pub within : p.end ≤ size

abbrev pub ArePlaces : List (Option Place) → List Term → Type 0
ArePlaces places terms = (dof : ℕ) → IfSome (place_in places dof) (IsPlace (length terms))
