-- The pattern holds what visits couple.
use Rattle.std.proofs.Common.{◌≡◌, ◌∙◌, sym, ap, ap₂, refl, subst, ℕ, zero, suc, ◌+◌, ◌<◌, ◌≤◌, inl, inr, Bool, true, false, ◌==◌, ◌&&◌, ◌||◌, List, [], ◌∷◌, ◌++◌, length, map, arith, slice_index_or, IsTrue}
use Rattle.std.specs.Prelude.{filter}
use Rattle.std.specs.List.{All, flat_map, range_with_len, list_any}
use Rattle.std.proofs.lemmas.Bool.{cases_Bool, cases_eq, eq-eqb, eqb-true, or_left, or_right, and_from}
use Rattle.std.proofs.lemmas.List.Elements.{All-head, All-tail}
use Rattle.std.proofs.lemmas.List.Folds.{list_any-append, list_any_at}
use Rattle.std.proofs.lemmas.List.FromFn.{length-map-range_with_len, get_or-map-range_with_len, get_or-range_with_len, length-range_with_len}
use Rattle.affine_constraints.specs.declared.term.Term.{Term}
use Rattle.affine_constraints.specs.Lines.{Lines, lines_in}
use Rattle.block_sums.specs.Masters.{masters, Couples, Holds}
use Rattle.cell_blocks.specs.Blocks.{visit_dofs}
use Rattle.mesh_visits.specs.declared.visit.Visit.{Visit}
use Rattle.serial_sum.specs.Columns.{columns_at, has_column}
use Rattle.sparsity.specs.Coupled.{CoupledDofs, has, share_list, is_coupled, row_of, rows_of}
use Rattle.sparsity.proofs.Listing.{rows_count}
use Rattle.mesh_loop.specs.Setup.{MeshProblem, cells_of, cell_visits, masters_of, visit_masters, coupled_by, coupled_dofs, pattern_of, HoldsVisit}
use Rattle.mesh_loop.specs.Parts.{IsVisitBelow}

-- a test that some element passes
pub any_flat : {A B : Type 0} (p : B → Bool) (f : A → List B) (xs : List A) (i : ℕ) (d : A) → i < length xs → list_any p (f (slice_index_or xs i d)) ≡ true → list_any p (flat_map f xs) ≡ true
any_flat p f [] i d h t = absurd (omega (arith, h))
any_flat p f (x ∷ xs) zero d h t = list_any-append p (f x) (flat_map f xs) ∙ or_left (list_any p (f x)) (list_any p (flat_map f xs)) t
any_flat p f (x ∷ xs) (suc i) d h t = list_any-append p (f x) (flat_map f xs) ∙ or_right (list_any p (f x)) (list_any p (flat_map f xs)) (any_flat p f xs i d (omega (arith, h)) t)

any_map : {A B : Type 0} (p : B → Bool) (f : A → B) (xs : List A) → list_any p (map f xs) ≡ list_any (λ x. p (f x)) xs
any_map p f [] = refl
any_map p f (x ∷ xs) = ap (λ b. p (f x) || b) (any_map p f xs)

-- a number of a list
pub has_below : (n : ℕ) (xs : List ℕ) (d : ℕ) → All (λ x. x < n) xs → has xs d ≡ true → d < n
unfolding has
has_below n [] d h t = cc
has_below n (x ∷ xs) d h t = elim (cases_Bool (x == d)) [
  | inl same ↦ (let P : ℕ → Type 0 = λ m. m < n in subst P (eqb-true x d same) (All-head P x xs h))
  | inr apart ↦ has_below n xs d (All-tail (λ m. m < n) x xs h) (rw apart at t)
]

kept_behind : (p : ℕ → Bool) (x d : ℕ) (xs : List ℕ) → has (filter p xs) d ≡ true → has (filter p (x ∷ xs)) d ≡ true
unfolding has
kept_behind p x d xs h = elim (cases_Bool (p x)) [
  | inl here ↦ rw here (or_right (x == d) (list_any (λ y. y == d) (filter p xs)) h)
  | inr gone ↦ rw gone h
]

pub has_kept : (p : ℕ → Bool) (xs : List ℕ) (d : ℕ) → has xs d ≡ true → p d ≡ true → has (filter p xs) d ≡ true
unfolding has
has_kept p [] d t passes = t
has_kept p (x ∷ xs) d t passes = elim (cases_Bool (x == d)) [
  | inl same ↦ (let here : p x ≡ true = ap p (eqb-true x d same) ∙ passes in rw here (or_left (x == d) (list_any (λ y. y == d) (filter p xs)) same))
  | inr apart ↦ kept_behind p x d xs (has_kept p xs d (rw apart at t) passes)
]

pub has_range : (n d : ℕ) → d < n → has (range_with_len 0 n) d ≡ true
unfolding has
has_range n d h = list_any_at (λ x. x == d) (range_with_len 0 n) d 0 (omega (arith, h, length-range_with_len 0 n)) (eq-eqb (slice_index_or (range_with_len 0 n) d 0) d (omega (arith, get_or-range_with_len 0 n d 0 h)))

-- two dofs that couple
row_here : (c : CoupledDofs) (i : ℕ) → i < c.size → columns_at (rows_of c) i ≡ row_of c.size c.lists i
unfolding rows_of
row_here c i h = get_or-map-range_with_len (row_of c.size c.lists) 0 c.size i i [] h (omega arith)

row_has : (c : CoupledDofs) (i j : ℕ) → j < c.size → is_coupled c.lists i j ≡ true → has (row_of c.size c.lists i) j ≡ true
unfolding row_of
row_has c i j h t = has_kept (is_coupled c.lists i) (range_with_len 0 c.size) j (has_range c.size j h) t

has_is_column : (xs : List ℕ) (j : ℕ) → has xs j ≡ true → has_column xs j ≡ true
unfolding has
has_is_column xs j h = h

couples_in : (c : CoupledDofs) (i j : ℕ) → i < c.size → j < c.size → is_coupled c.lists i j ≡ true → Couples (rows_of c) i j
couples_in c i j low high t = record {
  within = (let count = rows_count c in omega (arith, low, count));
  held = (let P : List ℕ → Type 0 = λ cs. has_column cs j ≡ true in subst P (sym (row_here c i low)) (has_is_column (row_of c.size c.lists i) j (row_has c i j high t)));
}

shared_couple : (lists : List (List ℕ)) (i j : ℕ) → share_list lists i j ≡ true → is_coupled lists i j ≡ true
unfolding is_coupled
shared_couple lists i j t = or_right (i == j) (share_list lists i j) t

same_couple : (lists : List (List ℕ)) (i : ℕ) → is_coupled lists i i ≡ true
unfolding is_coupled
same_couple lists i = or_left (i == i) (share_list lists i i) (eq-eqb i i refl)

-- masters of a dof are among those of all dofs
pub has_master : (lines : Lines) (dofs : List ℕ) (i d : ℕ) (k : ℕ) (m : Term) → i < length dofs → k < length (masters lines (slice_index_or dofs i d)) →
    has (masters_of lines dofs) (slice_index_or (masters lines (slice_index_or dofs i d)) k m).dof ≡ true
unfolding has masters_of
has_master lines dofs i d k m hi hk =
    let dof : ℕ = (slice_index_or (masters lines (slice_index_or dofs i d)) k m).dof in
    any_map (λ x. x == dof) (λ (term : Term). term.dof) (flat_map (masters lines) dofs)
    ∙ any_flat (λ (term : Term). term.dof == dof) (masters lines) dofs i d hi (list_any_at (λ (term : Term). term.dof == dof) (masters lines (slice_index_or dofs i d)) k m hk (eq-eqb dof dof refl))

visit_shares : (s : MeshProblem) (cell k : ℕ) (v : Visit) → cell < length s.given.forest.cells → k < length (cell_visits s cell) → (i j : ℕ) → has (visit_masters s cell (slice_index_or (cell_visits s cell) k v)) i ≡ true →
    has (visit_masters s cell (slice_index_or (cell_visits s cell) k v)) j ≡ true → share_list (coupled_dofs s).lists i j ≡ true
unfolding coupled_dofs coupled_by
visit_shares s cell k v within hk i j a b =
    let test : List ℕ → Bool = λ list. has list i && has list j in
    let n : ℕ = length s.given.forest.cells in
    let here : list_any test (coupled_by s cell) ≡ true =
    any_map test (visit_masters s cell) (cell_visits s cell) ∙ list_any_at (λ w. test (visit_masters s cell w)) (cell_visits s cell) k v hk (and_from _ _ a b) in
    let P : ℕ → Type 0 = λ c. list_any test (coupled_by s c) ≡ true in
    let at : cell ≡ slice_index_or (range_with_len 0 n) cell 0 = omega (arith, get_or-range_with_len 0 n cell 0 within) in
    any_flat test (coupled_by s) (cells_of s) cell 0 (omega (arith, within, length-range_with_len 0 n)) (subst P at here)

pub size_is : (s : MeshProblem) → (coupled_dofs s).size ≡ s.given.dofs.size
unfolding coupled_dofs
size_is s = refl

couples_here : (s : MeshProblem) (i j : ℕ) → i < s.given.dofs.size → j < s.given.dofs.size → is_coupled (coupled_dofs s).lists i j ≡ true → Couples (pattern_of s) i j
unfolding pattern_of
couples_here s i j low high t =
    let size = size_is s in
    couples_in (coupled_dofs s) i j (omega (arith, low, size)) (omega (arith, high, size)) t

holds_visit : (s : MeshProblem) (cell k : ℕ) (v : Visit) → cell < length s.given.forest.cells → k < length (cell_visits s cell) → IsVisitBelow s cell (slice_index_or (cell_visits s cell) k v) →
    HoldsVisit s cell (slice_index_or (cell_visits s cell) k v)
holds_visit s cell k v within hk below =
    let visit : Visit = slice_index_or (cell_visits s cell) k v in
    let dofs : List ℕ = visit_dofs s.given cell visit in
    let lines : Lines = lines_in s.closed in
    let size : ℕ = s.given.dofs.size in
    record {
      masters = λ i d hi. λ j e hj. λ a m ha. λ b p hb.
          let one = has_master lines dofs i d a m hi ha in
          let two = has_master lines dofs j e b p hj hb in
          couples_here s _ _ (has_below size (masters_of lines dofs) _ below.masters one) (has_below size (masters_of lines dofs) _ below.masters two) (shared_couple (coupled_dofs s).lists _ _ (visit_shares s cell k v within hk _ _ one two));
      own = λ i d hi. couples_here s _ _ (below.dofs i d hi) (below.dofs i d hi) (same_couple (coupled_dofs s).lists (slice_index_or dofs i d));
    }

pub all_hold : (s : MeshProblem) (cell : ℕ) → cell < length s.given.forest.cells → All (IsVisitBelow s cell) (cell_visits s cell) → All (HoldsVisit s cell) (cell_visits s cell)
all_hold s cell within below = λ k v hk. holds_visit s cell k v within hk (below k v hk)
