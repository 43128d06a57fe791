-- The dofs of cells are within the values of a function.
use Rattle.std.proofs.Common.{◌≡◌, ◌∙◌, refl, sym, ap, subst, ℕ, ◌<◌, ℤ, List, [], ◌∷◌, ◌++◌, length, slice_index, slice_index_or, arith}
use Rattle.std.specs.Prelude.{All}
use Rattle.std.proofs.lemmas.List.{get_or_default}
use Rattle.std.proofs.lemmas.List.Elements.{All-append}
use Rattle.hanging_refine.specs.Refined.{RefinedMesh}
use Rattle.dof_numbers.specs.Dofs.{Numbering, names_each}
use Rattle.dof_numbers.proofs.Rows.{dofs_of_corners}
use Rattle.jump_refine.specs.Jumps.{IsFunctionOn, dofs_of}

-- a cell has four dofs
pub four_dofs : (forest : RefinedMesh) (dofs : Numbering) (values : List ℤ) → IsFunctionOn forest dofs values → (c : ℕ) → c < length forest.cells → length (dofs_of dofs c) ≡ 4
four_dofs forest dofs values is c h =
    let n = is.numbered.count in
    is.numbered.each c [] (omega (arith, h, n)) ∙ ap names_each is.degree

four_within : (forest : RefinedMesh) (dofs : Numbering) (values : List ℤ) → IsFunctionOn forest dofs values → (c : ℕ) → c < length forest.cells → All (λ dof. dof < length values) (dofs_of dofs c)
four_within forest dofs values is c h k d l =
    let four : length (dofs_of dofs c) ≡ 4 = four_dofs forest dofs values is c h in
    let each : names_each dofs.degree ≡ 4 = ap names_each is.degree in
    let low : k < names_each dofs.degree = omega (arith, l, four, each) in
    let below = (dofs_of_corners forest dofs is.numbered).below c k h low in
    let same : slice_index_or (dofs_of dofs c) k d ≡ slice_index (dofs_of dofs c) k = get_or_default (dofs_of dofs c) k d 0 l in
    let count = is.count in
    omega (arith, below, same, count)

pub both_within : (forest : RefinedMesh) (dofs : Numbering) (values : List ℤ) (list : List ℕ) → IsFunctionOn forest dofs values → (c d : ℕ) → c < length forest.cells → d < length forest.cells → list ≡ dofs_of dofs c ++ dofs_of dofs d →
    All (λ dof. dof < length values) list
both_within forest dofs values list is c d hc hd e =
    let P : List ℕ → Type 0 = λ ds. All (λ dof. dof < length values) ds in
    subst P (sym e) (All-append (λ dof. dof < length values) (dofs_of dofs c) (dofs_of dofs d) (four_within forest dofs values is c hc) (four_within forest dofs values is d hd))

-- a list of four by its elements
four_listed : (xs : List ℕ) → length xs ≡ 4 → xs ≡ slice_index xs 0 ∷ slice_index xs 1 ∷ slice_index xs 2 ∷ slice_index xs 3 ∷ []
four_listed [] h = absurd (omega arith)
four_listed (a ∷ []) h = absurd (omega arith)
four_listed (a ∷ b ∷ []) h = absurd (omega arith)
four_listed (a ∷ b ∷ c ∷ []) h = absurd (omega arith)
four_listed (a ∷ b ∷ c ∷ d ∷ []) h = refl
four_listed (a ∷ b ∷ c ∷ d ∷ e ∷ xs) h = absurd (omega arith)

-- two such lists, one behind the other
pub four_and_four : (xs ys : List ℕ) → length xs ≡ 4 → length ys ≡ 4 →
    slice_index xs 0 ∷ slice_index xs 1 ∷ slice_index xs 2 ∷ slice_index xs 3 ∷ slice_index ys 0 ∷ slice_index ys 1 ∷ slice_index ys 2 ∷ slice_index ys 3 ∷ [] ≡ xs ++ ys
four_and_four xs ys h k =
    ap (λ zs. zs ++ (slice_index ys 0 ∷ slice_index ys 1 ∷ slice_index ys 2 ∷ slice_index ys 3 ∷ [])) (sym (four_listed xs h)) ∙ ap (λ zs. xs ++ zs) (sym (four_listed ys k))
