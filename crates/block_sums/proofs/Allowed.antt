-- Contributions of a block that may be added.
use Rattle.std.proofs.Common.{◌≡◌, ◌∙◌, sym, refl, subst, ℕ, ◌<◌, ◌≤◌, ◌^◌, ℤ, pos, Bool, true, false, List, [], ◌∷◌, length, map, arith, Some, None, IfSome, slice_index_or, cond}
use Rattle.std.specs.Prelude.{unsigned_abs}
use Rattle.std.specs.List.{All, flat_map, range_with_len}
use Rattle.std.specs.declared.option.Option.{Option}
use Rattle.std.proofs.lemmas.List.Elements.{All-nil, All-cons, All-head, All-tail, All-append, All-map}
use Rattle.std.proofs.lemmas.List.FromFn.{get_or-range_with_len, length-range_with_len}
use Rattle.affine_constraints.specs.declared.term.Term.{Term}
use Rattle.affine_constraints.specs.Lines.{AffineLine, Lines, lines_in}
use Rattle.affine_constraints.specs.Closing.{AreClosedForms, IsClosedForm}
use Rattle.cell_blocks.specs.LocalBlocks.{LocalBlock, IsBlock}
use Rattle.cell_blocks.proofs.Entries.{entry_small, load_small}
use Rattle.serial_sum.specs.Rows.{IsFor}
use Rattle.serial_sum.specs.declared.part.Contribution.{Contribution}
use Rattle.serial_sum.specs.declared.part.Target.TheVariants.{Column, RightSide}
use Rattle.block_sums.specs.Masters.{masters, constant_of, Couples, Holds, IsMasterFor}
use Rattle.block_sums.specs.Contributions.{to, is_zero, column_terms, constant_terms, master_terms, row_terms, own_by, own_terms, contributions, dof_at, entry_at, load_at, numbers}
use Rattle.block_sums.specs.Shares.{load_share, entry_share, constant_share}
use Rattle.block_sums.specs.SmallLines.{IsWeight, IsSmallLine, AreSmallLines}
use Rattle.block_sums.proofs.Sizes.{load_share_small, entry_share_small, constant_share_small, masters_small, constant_small}
use Rattle.block_sums.proofs.Values.{master_for}

pub all_flat : {X Y : Type 0} (P : Y → Type 0) (f : X → List Y) (xs : List X) → All (λ x. All P (f x)) xs → All P (flat_map f xs)
all_flat P f [] h = All-nil P
all_flat P f (x ∷ xs) h = All-append P (f x) (flat_map f xs) (All-head (λ y. All P (f y)) x xs h) (all_flat P f xs (All-tail (λ y. All P (f y)) x xs h))

pub all_range : {Y : Type 0} (P : Y → Type 0) (f : ℕ → List Y) (n : ℕ) → ((j : ℕ) → j < n → All P (f j)) → All P (flat_map f (range_with_len 0 n))
all_range P f n h =
    all_flat P f (range_with_len 0 n) (λ k d inside.
    let within : k < n = omega (arith, inside, length-range_with_len 0 n) in
    let at : slice_index_or (range_with_len 0 n) k d ≡ k = get_or-range_with_len 0 n k d within ∙ (omega arith) in
    let Q : ℕ → Type 0 = λ j. All P (f j) in
    subst Q (sym at) (h k within))

unless_zero : (pattern : List (List ℕ)) (zero : Bool) (c : Contribution) → IsFor pattern c → All (IsFor pattern) (cond zero [] (c ∷ []))
unless_zero pattern true c h = All-nil (IsFor pattern)
unless_zero pattern false c h = All-cons (IsFor pattern) c [] h (All-nil (IsFor pattern))

column_for : (pattern : List (List ℕ)) (lines : Lines) (master : Term) (entry : ℤ) (dof : ℕ) → AreSmallLines lines → IsWeight master → unsigned_abs entry ≤ 2 ^ 72 →
    master.dof < length pattern → All (λ (p : Term). Couples pattern master.dof p.dof) (masters lines dof) → All (IsFor pattern) (column_terms lines master entry dof)
column_for pattern lines master entry dof small weight size row others =
    All-append (IsFor pattern) (map (λ (other : Term). to master.dof (Column other.dof) (entry_share master.weight entry other.weight)) (masters lines dof))
    (constant_terms master.dof master.weight entry (constant_of lines dof))
    (All-map (IsFor pattern) (λ (other : Term). to master.dof (Column other.dof) (entry_share master.weight entry other.weight)) (masters lines dof) (λ k d inside. record {
      within = row;
      held = (others k d inside).held;
      term = entry_share_small master.weight entry _ weight size (masters_small lines dof small k d inside);
    }))
    (unless_zero pattern (is_zero (constant_of lines dof)) (to master.dof RightSide (constant_share master.weight entry (constant_of lines dof))) (record {
      within = row;
      held = refl;
      term = constant_share_small master.weight entry (constant_of lines dof) weight size (constant_small lines dof small);
    }))

wide : (w : ℤ) → unsigned_abs w ≤ 2 ^ 20 → unsigned_abs w ≤ 2 ^ 31
wide w h = omega (arith, h)

master_allowed : (pattern : List (List ℕ)) (lines : Lines) (block : LocalBlock) (i : ℕ) (master : Term) → AreSmallLines lines → IsBlock block → i < length block.dofs → IsWeight master →
    IsMasterFor pattern lines block.dofs master → All (IsFor pattern) (master_terms lines block i master)
unfolding master_terms
master_allowed pattern lines block i master small is inside weight for_it =
    All-cons (IsFor pattern) (to master.dof RightSide (load_share master.weight (load_at block i)))
    (flat_map (λ j. column_terms lines master (entry_at block i j) (dof_at block j)) (numbers block)) (record {
      within = for_it.row;
      held = refl;
      term = load_share_small master.weight (load_at block i) (wide master.weight weight) (load_small block i (pos 0) block.form.load is inside refl);
    })
    (all_range (IsFor pattern) (λ j. column_terms lines master (entry_at block i j) (dof_at block j)) (length block.dofs) (λ j within.
    column_for pattern lines master (entry_at block i j) (dof_at block j) small weight
    (entry_small block i j (pos 0) (slice_index_or block.form.matrix i []) is inside within refl) for_it.row (for_it.others j 0 within)))

own_allowed : (pattern : List (List ℕ)) (line : Option AffineLine) (dof size : ℕ) → IfSome line IsSmallLine → size ≤ 2 ^ 72 → Couples pattern dof dof → All (IsFor pattern) (own_by line dof size)
own_allowed pattern None dof size small few own = All-nil (IsFor pattern)
own_allowed pattern (Some line) dof size small few own =
    All-cons (IsFor pattern) (to dof (Column dof) (pos size)) (to dof RightSide (load_share line.constant (pos size)) ∷ [])
    (record { within = own.within; held = own.held; term = omega (arith, few) })
    (All-cons (IsFor pattern) (to dof RightSide (load_share line.constant (pos size))) []
    (record { within = own.within; held = refl; term = load_share_small line.constant (pos size) small.constant few }) (All-nil (IsFor pattern)))

row_allowed : (pattern : List (List ℕ)) (lines : Lines) (block : LocalBlock) (i : ℕ) → AreSmallLines lines → IsBlock block → Holds pattern lines block.dofs → i < length block.dofs →
    All (IsFor pattern) (row_terms lines block i)
unfolding row_terms
row_allowed pattern lines block i small is holds inside =
    All-append (IsFor pattern) (flat_map (master_terms lines block i) (masters lines (dof_at block i))) (own_by (lines (dof_at block i)) (dof_at block i) (unsigned_abs (entry_at block i i)))
    (all_flat (IsFor pattern) (master_terms lines block i) (masters lines (dof_at block i)) (λ k d within.
    master_allowed pattern lines block i (slice_index_or (masters lines (dof_at block i)) k d) small is inside (masters_small lines (dof_at block i) small k d within)
    (master_for pattern lines block.dofs i k d holds inside within)))
    (own_allowed pattern (lines (dof_at block i)) (dof_at block i) (unsigned_abs (entry_at block i i)) (small (dof_at block i))
    (entry_small block i i (pos 0) (slice_index_or block.form.matrix i []) is inside inside refl) (holds.own i 0 inside))

pub block_allowed : (pattern : List (List ℕ)) (lines : Lines) (block : LocalBlock) → AreSmallLines lines → IsBlock block → Holds pattern lines block.dofs → All (IsFor pattern) (contributions lines block)
unfolding contributions
block_allowed pattern lines block small is holds =
    all_range (IsFor pattern) (row_terms lines block) (length block.dofs) (λ i inside. row_allowed pattern lines block i small is holds inside)

one_small : (table : List (Option AffineLine)) (line : Option AffineLine) → IfSome line (IsClosedForm table) → IfSome line IsSmallLine
one_small table None form = tt
one_small table (Some line) form = record { weights = λ k d inside. (form.within.terms k d inside).weight; constant = form.within.constant }

pub closed_small : (table : List (Option AffineLine)) → AreClosedForms table → AreSmallLines (lines_in table)
closed_small table forms dof = one_small table (lines_in table dof) (forms dof)

-- the contributions of one master go to its row
unless_zero_row : (m : ℕ) (zero : Bool) (c : Contribution) → c.row ≡ m → All (λ (c : Contribution). c.row ≡ m) (cond zero [] (c ∷ []))
unless_zero_row m true c h = All-nil (λ (c : Contribution). c.row ≡ m)
unless_zero_row m false c h = All-cons (λ (c : Contribution). c.row ≡ m) c [] h (All-nil (λ (c : Contribution). c.row ≡ m))

column_rows : (lines : Lines) (master : Term) (entry : ℤ) (dof : ℕ) → All (λ (c : Contribution). c.row ≡ master.dof) (column_terms lines master entry dof)
column_rows lines master entry dof =
    All-append (λ (c : Contribution). c.row ≡ master.dof) (map (λ (other : Term). to master.dof (Column other.dof) (entry_share master.weight entry other.weight)) (masters lines dof))
    (constant_terms master.dof master.weight entry (constant_of lines dof))
    (All-map (λ (c : Contribution). c.row ≡ master.dof) (λ (other : Term). to master.dof (Column other.dof) (entry_share master.weight entry other.weight)) (masters lines dof) (λ k d inside. refl))
    (unless_zero_row master.dof (is_zero (constant_of lines dof)) (to master.dof RightSide (constant_share master.weight entry (constant_of lines dof))) refl)

pub master_rows : (lines : Lines) (block : LocalBlock) (i : ℕ) (master : Term) → All (λ (c : Contribution). c.row ≡ master.dof) (master_terms lines block i master)
unfolding master_terms
master_rows lines block i master =
    All-cons (λ (c : Contribution). c.row ≡ master.dof) (to master.dof RightSide (load_share master.weight (load_at block i)))
    (flat_map (λ j. column_terms lines master (entry_at block i j) (dof_at block j)) (numbers block)) refl
    (all_range (λ (c : Contribution). c.row ≡ master.dof) (λ j. column_terms lines master (entry_at block i j) (dof_at block j)) (length block.dofs) (λ j within.
    column_rows lines master (entry_at block i j) (dof_at block j)))

pub own_rows : (dof size : ℕ) (constant : ℤ) → All (λ (c : Contribution). c.row ≡ dof) (own_terms dof size constant)
own_rows dof size constant =
    All-cons (λ (c : Contribution). c.row ≡ dof) (to dof (Column dof) (pos size)) (to dof RightSide (load_share constant (pos size)) ∷ []) refl
    (All-cons (λ (c : Contribution). c.row ≡ dof) (to dof RightSide (load_share constant (pos size))) [] refl (All-nil (λ (c : Contribution). c.row ≡ dof)))
