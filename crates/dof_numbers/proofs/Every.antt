-- Each dof below the size is that of a place of a cell.
use Rattle.std.proofs.Common.{◌≡◌, ◌∙◌, sym, ap, ℕ, ◌+◌, ◌<◌, ◌≤◌, ◌⊎◌, List, [], ◌∷◌, ◌++◌, true, length, arith, append_assoc, append-nil, subst, inl, inr, ⊎_elim}
use Rattle.std.specs.Prelude.{if◌then◌else◌}
use Rattle.std.proofs.lemmas.Bool.{cases_Bool}
use Rattle.fem_fixed.specs.Lists.{contains, different, rank_of}
use Rattle.fem_fixed.proofs.Occurrences.{contains_last, contains_more, different-append, rank_stays, rank_next}
use Rattle.corner_names.specs.Names.{Name}
use Rattle.hanging_refine.specs.Refined.{RefinedMesh, active_cells}
use Rattle.dof_numbers.specs.Dofs.{same_name, names_each, name_list, name_dof, middle_name, centre_name, Numbering, IsNumberingOf, HasPlace}
use Rattle.dof_numbers.proofs.Names.{names_equal}
use Rattle.dof_numbers.proofs.Listed.{CellOf, a_vertex, a_middle, a_centre, cell_of_name, len_is}

-- a name with this dof
record Ranked (names : List Name) (dof : ℕ) : Type 0 where
  name : Name
  there : contains same_name names name ≡ true
  is : rank_of same_name names name ≡ dof

AreAll : List Name → Type 0
AreAll names = (dof : ℕ) → dof < different same_name names → Ranked names dof

below_next : (d n : ℕ) → d < n + 1 → (d < n) ⊎ (d ≡ n)
below_next d n h = grind arith

kept : (seen : List Name) (z : Name) (dof : ℕ) → Ranked seen dof → Ranked (seen ++ z ∷ []) dof
kept seen z dof r = record {
  name = r.name;
  there = contains_more same_name seen (z ∷ []) r.name r.there;
  is = rank_stays same_name seen (z ∷ []) r.name r.there ∙ r.is;
}

one_more : (seen : List Name) (z : Name) → AreAll seen → AreAll (seen ++ z ∷ [])
unfolding AreAll
one_more seen z all dof h = elim (cases_Bool (contains same_name seen z)) [
  | inl e ↦ (let count : different same_name (seen ++ z ∷ []) ≡ different same_name seen + 0 =
      different-append names_equal seen z ∙ ap (λ b. different same_name seen + (if b then 0 else 1)) e in
      kept seen z dof (all dof (omega arith)))
  | inr e ↦ (let count : different same_name (seen ++ z ∷ []) ≡ different same_name seen + 1 =
      different-append names_equal seen z ∙ ap (λ b. different same_name seen + (if b then 0 else 1)) e in
      elim (below_next dof (different same_name seen) (omega arith)) [
        | inl l ↦ kept seen z dof (all dof l)
        | inr l ↦ record { name = z; there = contains_last names_equal seen z; is = rank_next names_equal seen z e ∙ sym l }
      ])
]

more : (names seen : List Name) → AreAll seen → AreAll (seen ++ names)
more [] seen all = subst AreAll (sym (append-nil seen)) all
more (z ∷ names) seen all =
    let e : (seen ++ z ∷ []) ++ names ≡ seen ++ z ∷ names = append_assoc seen (z ∷ []) names in
    subst AreAll e (more names (seen ++ z ∷ []) (one_more seen z all))

none : AreAll []
unfolding AreAll
none dof h = absurd (omega arith)

every : (names : List Name) → AreAll names
every names = more names [] none

-- a cell has at least four names, and nine with degree 2
pub four_each : (degree : ℕ) → (degree ≡ 1) ⊎ (degree ≡ 2) → 4 ≤ names_each degree
four_each degree d =
    ⊎_elim (λ (e : degree ≡ 1). (let t : names_each degree ≡ 4 = ap names_each e in omega arith))
    (λ (e : degree ≡ 2). (let t : names_each degree ≡ 9 = ap names_each e in omega arith)) d

placed : (degree : ℕ) (forest : RefinedMesh) (x : Name) → contains same_name (name_list degree forest) x ≡ true → CellOf degree forest.mesh (active_cells forest) x
unfolding name_list
placed degree forest x h = cell_of_name degree forest.mesh (active_cells forest) x h

pub every_dof : (forest : RefinedMesh) (dofs : Numbering) → IsNumberingOf forest dofs → (dof : ℕ) → dof < dofs.size → HasPlace forest dofs dof
unfolding AreAll
every_dof forest dofs is dof h =
    let degree = dofs.degree in
    let size = is.size in
    let r = every (name_list degree forest) dof (omega arith) in
    let p = placed degree forest r.name r.there in
    let len = len_is forest in
    let within : p.cell < length forest.cells = (let w = p.within in omega arith) in
    let four = four_each degree is.degree in
    elim p.is [
      | a_vertex v b e ↦ record { cell = p.cell; place = v; within = within; is_place = omega arith; is = is.cells p.cell v within b ∙ ap (name_dof degree forest) e ∙ r.is }
      | a_middle f two b e ↦ (let nine : names_each degree ≡ 9 = ap names_each two in
          record { cell = p.cell; place = 4 + f; within = within; is_place = omega arith; is = is.middles p.cell f two within b ∙ ap (λ d. name_dof d forest (middle_name forest p.cell f)) (sym two) ∙ ap (name_dof degree forest) e ∙ r.is })
      | a_centre two e ↦ (let nine : names_each degree ≡ 9 = ap names_each two in
          record { cell = p.cell; place = 8; within = within; is_place = omega arith; is = is.centres p.cell two within ∙ ap (λ d. name_dof d forest (centre_name forest p.cell)) (sym two) ∙ ap (name_dof degree forest) e ∙ r.is })
    ]
