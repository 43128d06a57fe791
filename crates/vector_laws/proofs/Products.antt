-- One system has one product with a vector, and each system has one.
use Rattle.std.proofs.Common.{◌≡◌, ◌∙◌, ◌⊎◌, inl, inr, sym, ap, ap₂, refl, subst, ℕ, zero, suc, ℤ, ◌<◌, ◌≤◌, ◌^◌, ⊎_elim, List, [], ◌∷◌, length, map, slice_index, arith}
use mathlib.Core.Path.{fun_ext}
use Rattle.std.specs.Prelude.{All, Some, None, Ok, Err}
use Rattle.std.specs.declared.option.Option.{Option}
use Rattle.std.specs.declared.result.Result.{Result}
use Rattle.std.specs.List.{flat_map, range_with_len}
use Rattle.std.proofs.lemmas.Bool.{cases_lt}
use Rattle.std.proofs.lemmas.List.Elements.{All-nil, All-cons, All-get_or}
use Rattle.affine_constraints.specs.Lines.{AffineLine, lines_in}
use Rattle.fixed_q1.specs.declared.fault.LocalFault.{LocalFault}
use Rattle.cell_blocks.specs.LocalBlocks.{LocalBlock}
use Rattle.cell_blocks.specs.Blocks.{cell_blocks}
use Rattle.cell_blocks.specs.Visited.{blocks_in}
use Rattle.conflict_coloring.specs.Coloring.{Coloring, IsColoring}
use Rattle.conflict_coloring.specs.Laws.{HaveOneColoring, HaveAColoring}
use Rattle.matrix_market.specs.Texts.{vector_text}
use Rattle.matrix_free.specs.declared.fault.ApplyFault.{ApplyFault}
use Rattle.matrix_free.specs.declared.fault.ApplyFault.TheVariants as products
use Rattle.matrix_free.specs.declared.fault.CellFault.{CellFault}
use Rattle.matrix_free.specs.declared.fault.CellFault.TheVariants as faults
use Rattle.matrix_free.specs.Product.{Share, local_rows, row_shares, sum_at, rows_or_fault, cell_rows, cell_shares, product}
use Rattle.matrix_free.specs.Faults.{fault_in, fault_of, HaveNoFault, FailsAt, FaultIs, apply_fault}
use Rattle.mesh_loop.specs.Setup.{MeshProblem, cells_of, written_rows}
use Rattle.run_words.specs.Choice.{Output}
use Rattle.run_outputs.specs.Targets.{Target, first_target}
use Rattle.diagnostics.specs.declared.refusal.Refusal.{Refusal}
use Rattle.diagnostics.specs.declared.refusal.Refusal.TheVariants as refusals
use Rattle.diagnostics.specs.declared.ending.Ending.{Ending}
use Rattle.diagnostics.specs.declared.ending.Ending.TheVariants.{Refused, NoMemory}
use Rattle.diagnostics.specs.Stages.{Then, Says}
use Rattle.system_texts.specs.Endings.{of_local}
use Rattle.system_texts.specs.Sums.{IsColoringOf}
use Rattle.system_laws.specs.Same.{IsSameSystem}
use Rattle.system_laws.proofs.Outcomes.{Agree, one_after, HasAnOutcome, some_after}
use Rattle.vector_texts.specs.Endings.{of_product}
use Rattle.vector_texts.specs.Fitting.{FittedTo}
use Rattle.vector_texts.specs.Product.{ProductOf, ProductText, ProductTexts}
use Rattle.vector_laws.specs.Laws.{HaveOneProduct, HaveAProduct}
use Rattle.vector_laws.proofs.Fitted.{one_fitted, some_fitted}

-- Systems that are the same have the same faults and the same product.
module _ (s t : MeshProblem) (same : IsSameSystem s t) (x : List ℤ) where
  same_rows : cell_rows s x ≡ cell_rows t x
  unfolding cell_rows
  same_rows = fun_ext (λ cell. ap₂ (λ (closed : List (Option AffineLine)) (blocks : Result (List LocalBlock) LocalFault). rows_or_fault (lines_in closed) x blocks) same.lines (same.blocks cell))

  same_faults : fault_of s x ≡ fault_of t x
  unfolding fault_of
  same_faults = ap (λ rows. λ (cell : ℕ). fault_in (rows cell)) same_rows

  same_shares : cell_shares s x ≡ cell_shares t x
  unfolding cell_shares
  same_shares = fun_ext (λ cell. ap₂ (λ (closed : List (Option AffineLine)) (blocks : Result (List LocalBlock) LocalFault).
      flat_map (row_shares (lines_in closed) x) (flat_map (local_rows (lines_in closed) x) (blocks_in blocks))) same.lines (same.blocks cell))

  same_product : product s x ≡ product t x
  unfolding product
  same_product =
      ap₂ (λ (shares : ℕ → List Share) (cells : List ℕ). map (sum_at (flat_map shares cells)) (range_with_len 0 s.given.dofs.size)) same_shares same.cells
      ∙ ap (λ n. map (sum_at (flat_map (cell_shares t x) (cells_of t))) (range_with_len 0 n)) same.dofs

  same_none : (order : List ℕ) → HaveNoFault s x order → HaveNoFault t x order
  same_none order h = subst (λ (fault : ℕ → Option CellFault). All (λ cell. fault cell ≡ None) order) same_faults h

-- how a product fails, by the cell and its fault
record Fails (fault_at : ℕ → Option CellFault) (order : List ℕ) (cell : ℕ) (fault : CellFault) : Type 0 where
  pub place : ℕ
  pub within : place < length order
  pub is : slice_index order place ≡ cell
  pub fails : fault_at cell ≡ Some fault
  pub first : (k : ℕ) → k < place → fault_at (slice_index order k) ≡ None

fails_so : (s : MeshProblem) (x : List ℤ) (order : List ℕ) (cell : ℕ) (fault : CellFault) → FailsAt s x order cell fault → Fails (fault_of s x) order cell fault
fails_so s x order cell fault h = record { place = h.place; within = h.within; is = h.is; fails = h.fails; first = h.first }

module _ (fault_at : ℕ → Option CellFault) (order : List ℕ) where
  not_earlier : (c d : ℕ) (f g : CellFault) (a : Fails fault_at order c f) (b : Fails fault_at order d g) → a.place < b.place → ⊥
  not_earlier c d f g a b h =
      let e : fault_at c ≡ None = subst (λ cell. fault_at cell ≡ None) a.is (b.first a.place h) in
      let e2 = sym a.fails ∙ e in cc

  one_place : (c d : ℕ) (f g : CellFault) (a : Fails fault_at order c f) (b : Fails fault_at order d g) → a.place ≡ b.place
  one_place c d f g a b =
      ⊎_elim (λ (h : a.place < b.place). absurd (not_earlier c d f g a b h))
      (λ (h : b.place ≤ a.place). ⊎_elim (λ (k : b.place < a.place). absurd (not_earlier d c g f b a k)) (λ (k : a.place ≤ b.place). omega (arith, h, k)) (cases_lt b.place a.place))
      (cases_lt a.place b.place)

  one_cell : (c d : ℕ) (f g : CellFault) → Fails fault_at order c f → Fails fault_at order d g → c ≡ d
  one_cell c d f g a b = sym a.is ∙ ap (slice_index order) (one_place c d f g a b) ∙ b.is

  one_fault : (c d : ℕ) (f g : CellFault) → Fails fault_at order c f → Fails fault_at order d g → f ≡ g
  one_fault c d f g a b =
      let e = one_cell c d f g a b in
      let p : Some f ≡ Some g = sym a.fails ∙ ap fault_at e ∙ b.fails in cc

  never_both : (c : ℕ) (f : CellFault) → Fails fault_at order c f → All (λ cell. fault_at cell ≡ None) order → ⊥
  never_both c f a none =
      let e : fault_at c ≡ None = subst (λ cell. fault_at cell ≡ None) a.is (All-get_or (λ cell. fault_at cell ≡ None) order a.place 0 a.within none) in
      let e2 = sym a.fails ∙ e in cc

-- some cell is the first with a fault, or none has one
abbrev FirstOrNone : (ℕ → Option CellFault) → List ℕ → Type 0
FirstOrNone fault_at order = ((cell : ℕ) × (fault : CellFault) × Fails fault_at order cell fault) ⊎ All (λ cell. fault_at cell ≡ None) order

behind : (fault_at : ℕ → Option CellFault) (c : ℕ) (order : List ℕ) → fault_at c ≡ None → (cell : ℕ) (fault : CellFault) → Fails fault_at order cell fault → Fails fault_at (c ∷ order) cell fault
behind fault_at c order none cell fault h = record {
  place = suc h.place;
  within = (let w = h.within in omega (arith, w));
  is = h.is;
  fails = h.fails;
  first = before;
}
  where
    before : (k : ℕ) → k < suc h.place → fault_at (slice_index (c ∷ order) k) ≡ None
    before zero w = none
    before (suc k) w = h.first k (omega (arith, w))

first_or_none : (fault_at : ℕ → Option CellFault) (order : List ℕ) → FirstOrNone fault_at order
first_or_none fault_at [] = inr (All-nil (λ cell. fault_at cell ≡ None))
first_or_none fault_at (c ∷ order) =
    (elim (fault_at c) as (λ o. fault_at c ≡ o → FirstOrNone fault_at (c ∷ order)) [
      | None ↦ λ none. ⊎_elim
          (λ (found : (cell : ℕ) × (fault : CellFault) × Fails fault_at order cell fault). inl (found.0, found.1, behind fault_at c order none found.0 found.1 found.2))
          (λ (all : All (λ cell. fault_at cell ≡ None) order). inr (All-cons (λ cell. fault_at cell ≡ None) c order none all))
          (first_or_none fault_at order)
      | Some fault ↦ λ is. inl (c, fault, record { place = 0; within = omega arith; is = refl; fails = is; first = λ k h. absurd (omega (arith, h)) })
    ]) refl

not_refused : {P : Type 0} (r : Refusal) → ◌≡◌ {A = Ending} NoMemory (Refused r) → P
not_refused r h = cc

-- a fault that has a refusal is that of a cell
record OfCell (s : MeshProblem) (x : List ℤ) (order : List ℕ) (r : Refusal) : Type 0 where
  pub cell : ℕ
  pub fault : CellFault
  pub fails : FailsAt s x order cell fault
  pub told : of_product (apply_fault cell fault) ≡ Refused r

of_cell : (s : MeshProblem) (x : List ℤ) (order : List ℕ) (fault : ApplyFault) (r : Refusal) → FaultIs s x order fault → of_product fault ≡ Refused r → OfCell s x order r
of_cell s x order (products.Local cell fault) r h e = record { cell = cell; fault = faults.Local fault; fails = h; told = e }
of_cell s x order (products.Size cell) r h e = record { cell = cell; fault = faults.Size; fails = h; told = e }
of_cell s x order products.NoMemory r h e = not_refused r e

same_told : (e f : Ending) (r q : Refusal) → e ≡ f → e ≡ Refused r → f ≡ Refused q → r ≡ q
same_told e f r q s h k = (let t : Refused r ≡ Refused q = sym h ∙ s ∙ k in cc)

-- the fault of a cell that has one is told
refusal_for : (s : MeshProblem) (x : List ℤ) (order : List ℕ) (cell : ℕ) (fault : CellFault) → FailsAt s x order cell fault → (r : Refusal) × Says of_product (FaultIs s x order) r
refusal_for s x order cell (faults.Local fault) h = (refusals.Local cell (of_local fault), (products.Local cell fault, h, refl))
refusal_for s x order cell faults.Size h = (refusals.Product cell, (products.Size cell, h, refl))

fails_at : (s : MeshProblem) (x : List ℤ) (order : List ℕ) (cell : ℕ) (fault : CellFault) → Fails (fault_of s x) order cell fault → FailsAt s x order cell fault
fails_at s x order cell fault h = record { place = h.place; within = h.within; is = h.is; fails = h.fails; first = h.first }

-- Colourings are one, as their law says.
module _ (one_coloring : HaveOneColoring) where
  same_coloring : (s t : MeshProblem) → IsSameSystem s t → (c d : Coloring) → IsColoringOf s c → IsColoringOf t d → c ≡ d
  same_coloring s t same c d h k =
      let rows : map (written_rows s) (cells_of s) ≡ map (written_rows t) (cells_of t) =
      ap (λ (by : ℕ → List ℕ). map by (cells_of s)) (fun_ext same.rows) ∙ ap (map (written_rows t)) same.cells in
      one_coloring (map (written_rows t) (cells_of t)) c d (subst (λ list. IsColoring list c) rows h) k

  fails_there : (s t : MeshProblem) → IsSameSystem s t → (x : List ℤ) (c d : Coloring) → c ≡ d → (cell : ℕ) (fault : CellFault) → FailsAt s x c.order cell fault → Fails (fault_of t x) d.order cell fault
  fails_there s t same x c d is cell fault h =
      subst (λ (coloring : Coloring). Fails (fault_of t x) coloring.order cell fault) is
      (subst (λ (fault_at : ℕ → Option CellFault). Fails fault_at c.order cell fault) (same_faults s t same x) (fails_so s x c.order cell fault h))

  none_there : (s t : MeshProblem) → IsSameSystem s t → (x : List ℤ) (c d : Coloring) → c ≡ d → HaveNoFault s x c.order → HaveNoFault t x d.order
  none_there s t same x c d is h = subst (λ (coloring : Coloring). HaveNoFault t x coloring.order) is (same_none s t same x c.order h)

  one_of : (s t : MeshProblem) → IsSameSystem s t → (x : List ℤ) → Agree (ProductOf s x) (ProductOf t x)
  one_of s t same x (Ok a) (Ok b) h k = ap Ok (h.3 ∙ same_product s t same x ∙ sym k.3)
  one_of s t same x (Ok a) (Err q) h k =
      let f = of_cell t x k.0.order k.2.0 q k.2.1 k.2.2 in
      absurd (never_both (fault_of t x) k.0.order f.cell f.fault (fails_so t x k.0.order f.cell f.fault f.fails) (none_there s t same x h.0 k.0 (same_coloring s t same h.0 k.0 h.1 k.1) h.2))
  one_of s t same x (Err r) (Ok b) h k =
      let f = of_cell s x h.0.order h.2.0 r h.2.1 h.2.2 in
      absurd (never_both (fault_of t x) k.0.order f.cell f.fault (fails_there s t same x h.0 k.0 (same_coloring s t same h.0 k.0 h.1 k.1) f.cell f.fault f.fails) k.2)
  one_of s t same x (Err r) (Err q) h k =
      let f = of_cell s x h.0.order h.2.0 r h.2.1 h.2.2 in
      let g = of_cell t x k.0.order k.2.0 q k.2.1 k.2.2 in
      let here = fails_there s t same x h.0 k.0 (same_coloring s t same h.0 k.0 h.1 k.1) f.cell f.fault f.fails in
      let there = fails_so t x k.0.order g.cell g.fault g.fails in
      let cells = one_cell (fault_of t x) k.0.order f.cell g.cell f.fault g.fault here there in
      let kinds = one_fault (fault_of t x) k.0.order f.cell g.cell f.fault g.fault here there in
      ap Err (same_told (of_product (apply_fault f.cell f.fault)) (of_product (apply_fault g.cell g.fault)) r q (ap₂ (λ cell fault. of_product (apply_fault cell fault)) cells kinds) f.told g.told)

  one_text : (output : Output) (list : List ℤ) → Agree (ProductText output list) (ProductText output list)
  one_text output list a b h k = h ∙ sym k

  pub one_product : HaveOneProduct
  one_product output values s t same =
      one_after (FittedTo s.given.dofs.size (2 ^ 20) values) (FittedTo t.given.dofs.size (2 ^ 20) values) (λ x. Then (ProductOf s x) (ProductText output)) (λ x. Then (ProductOf t x) (ProductText output))
      (subst (λ n. Agree (FittedTo s.given.dofs.size (2 ^ 20) values) (FittedTo n (2 ^ 20) values)) same.dofs (one_fitted s.given.dofs.size (2 ^ 20) values))
      (λ x fits. one_after (ProductOf s x) (ProductOf t x) (ProductText output) (ProductText output) (one_of s t same x) (λ list is. one_text output list))

-- Each list of cells has a colouring, as its law says.
module _ (some_coloring : HaveAColoring) where
  some_of : (s : MeshProblem) (x : List ℤ) → HasAnOutcome (ProductOf s x)
  some_of s x =
      let coloring = some_coloring (map (written_rows s) (cells_of s)) in
      ⊎_elim
      (λ (found : (cell : ℕ) × (fault : CellFault) × Fails (fault_of s x) coloring.0.order cell fault).
      let told = refusal_for s x coloring.0.order found.0 found.1 (fails_at s x coloring.0.order found.0 found.1 found.2) in
      let r : HasAnOutcome (ProductOf s x) = (Err told.0, (coloring.0, coloring.1, told.1)) in r)
      (λ (none : All (λ cell. fault_of s x cell ≡ None) coloring.0.order).
      let r : HasAnOutcome (ProductOf s x) = (Ok (product s x), (coloring.0, coloring.1, none, refl)) in r)
      (first_or_none (fault_of s x) coloring.0.order)

  pub some_product : HaveAProduct
  some_product output values s =
      some_after (FittedTo s.given.dofs.size (2 ^ 20) values) (λ x. Then (ProductOf s x) (ProductText output)) (some_fitted s.given.dofs.size (2 ^ 20) values)
      (λ x fits. some_after (ProductOf s x) (ProductText output) (some_of s x) (λ list is. (Ok (first_target output (vector_text list) ∷ []), refl)))
