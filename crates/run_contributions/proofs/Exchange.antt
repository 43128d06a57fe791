-- A block with its two halves exchanged makes the same contributions, in some order.
use Rattle.std.proofs.Common.{◌≡◌, ◌∙◌, sym, ap, refl, ℕ, zero, suc, ◌+◌, ◌<◌, inl, inr, Bool, List, [], ◌∷◌, ◌++◌, length, get_or, arith}
use Rattle.std.specs.Prelude.{unsigned_abs, Ok, Err}
use Rattle.std.specs.declared.result.Result.{Result}
use Rattle.std.specs.List.{flat_map, range_with_len}
use Rattle.std.proofs.lemmas.List.Concat.{flat_map-append}
use Rattle.affine_constraints.specs.declared.term.Term.{Term}
use Rattle.affine_constraints.specs.Lines.{Lines}
use Rattle.fixed_q1.specs.declared.fault.LocalFault.{LocalFault}
use Rattle.fixed_q1.specs.LocalForm.{LocalForm}
use Rattle.cell_blocks.specs.LocalBlocks.{LocalBlock, IsBlock}
use Rattle.cell_blocks.specs.Blocks.{with_dofs}
use Rattle.block_sums.specs.Contributions.{contributions, row_terms, master_terms, column_terms, dof_at, load_at, entry_at, own_by, to}
use Rattle.block_sums.specs.Masters.{masters}
use Rattle.block_sums.specs.Shares.{load_share}
use Rattle.serial_sum.specs.declared.part.Contribution.{Contribution}
use Rattle.serial_sum.specs.declared.part.Target.TheVariants.{RightSide}
use Rattle.run_contributions.specs.RunContributions.{of_block}
use Rattle.run_contributions.proofs.Counting.{counted, counted-append}
use Rattle.run_contributions.proofs.Swapped.{swapped, swapped_matrix, AreAcross, across_below, swapped-append, swapped_at, swapped_count, swapped_entry}

-- sums over both halves
range-append : (a m n : ℕ) → range_with_len a (m + n) ≡ range_with_len a m ++ range_with_len (a + m) n
range-append a zero n =
    let start : a ≡ a + 0 = omega arith in
    let count : 0 + n ≡ n = omega arith in
    λ k. range_with_len (start k) (count k)
range-append a (suc m) n =
    let count : suc m + n ≡ suc (m + n) = omega arith in
    let start : a + 1 + m ≡ a + suc m = omega arith in
    ap (range_with_len a) count ∙ ap (λ (list : List ℕ). a ∷ list) (range-append (a + 1) m n ∙ ap (λ s. range_with_len (a + 1) m ++ range_with_len s n) start)

in_halves : (test : Contribution → Bool) (f : ℕ → List Contribution) (n : ℕ) →
    counted test (flat_map f (range_with_len 0 (n + n))) ≡ counted test (flat_map f (range_with_len 0 n)) + counted test (flat_map f (range_with_len n n))
in_halves test f n =
    let start : 0 + n ≡ n = omega arith in
    ap (λ list. counted test (flat_map f list)) (range-append 0 n n ∙ ap (λ s. range_with_len 0 n ++ range_with_len s n) start)
    ∙ ap (counted test) (flat_map-append f (range_with_len 0 n) (range_with_len n n)) ∙ counted-append test (flat_map f (range_with_len 0 n)) (flat_map f (range_with_len n n))

shifted : (test : Contribution → Bool) (f g : ℕ → List Contribution) (s t n : ℕ) → ((j : ℕ) → j < n → counted test (f (s + j)) ≡ counted test (g (t + j))) →
    counted test (flat_map f (range_with_len s n)) ≡ counted test (flat_map g (range_with_len t n))
shifted test f g s t zero h = refl
shifted test f g s t (suc n) h =
    let here : counted test (f s) ≡ counted test (g t) =
    (let p : s ≡ s + 0 = omega arith in let q : t + 0 ≡ t = omega arith in ap (λ k. counted test (f k)) p ∙ h 0 (omega arith) ∙ ap (λ k. counted test (g k)) q) in
    let rest = shifted test f g (s + 1) (t + 1) n (λ j less. (let p : s + 1 + j ≡ s + suc j = omega arith in let q : t + suc j ≡ t + 1 + j = omega arith in ap (λ k. counted test (f k)) p ∙ h (suc j) (omega (arith, less)) ∙ ap (λ k. counted test (g k)) q)) in
    let a = counted-append test (f s) (flat_map f (range_with_len (s + 1) n)) in
    let b = counted-append test (g t) (flat_map g (range_with_len (t + 1) n)) in
    omega (arith, here, rest, a, b)

across_same : (test : Contribution → Bool) (f g : ℕ → List Contribution) (n : ℕ) → ((i k : ℕ) → AreAcross n i k → counted test (f i) ≡ counted test (g k)) →
    counted test (flat_map f (range_with_len 0 (n + n))) ≡ counted test (flat_map g (range_with_len 0 (n + n)))
across_same test f g n h =
    let a = in_halves test f n in
    let b = in_halves test g n in
    let c = shifted test f g 0 n n (λ j less. h (0 + j) (n + j) (inl (omega (arith, less), omega arith))) in
    let d = shifted test f g n 0 n (λ j less. h (n + j) (0 + j) (inr (omega (arith, less), omega arith))) in
    omega (arith, a, b, c, d)

-- the form with the halves of its rows, of its columns and of its load exchanged
abbrev pub exchanged_form : ℕ → LocalForm → LocalForm
exchanged_form n form = record { matrix = swapped_matrix n form.matrix; load = swapped n form.load }

abbrev pub exchanged : ℕ → Result LocalForm LocalFault → Result LocalForm LocalFault
exchanged n (Ok form) = Ok (exchanged_form n form)
exchanged n (Err fault) = Err fault

abbrev exchanged_block : ℕ → LocalBlock → LocalBlock
exchanged_block n block = record { dofs = swapped n block.dofs; form = exchanged_form n block.form }

-- row i of a block and row k of another have the same numbers, the columns exchanged
record SameRow (n : ℕ) (p q : LocalBlock) (i k : ℕ) : Type 0 where
  pub dof : dof_at p i ≡ dof_at q k
  pub load : load_at p i ≡ load_at q k
  pub own : entry_at p i i ≡ entry_at q k k
  pub columns : (j l : ℕ) → AreAcross n j l → entry_at p i j ≡ entry_at q k l
  pub dofs : (j l : ℕ) → AreAcross n j l → dof_at p j ≡ dof_at q l

row_of : (n : ℕ) (p : LocalBlock) (i k : ℕ) → IsBlock p → length p.dofs ≡ n + n → AreAcross n i k → SameRow n p (exchanged_block n p) i k
row_of n p i k is count h =
    let rows : length p.form.matrix ≡ n + n = is.rows ∙ count in
    let below : i < length p.form.matrix = (let b = (across_below n i k h).0 in omega (arith, b, rows)) in
    let row : length (get_or p.form.matrix i []) ≡ n + n = is.columns i [] below ∙ count in
    record {
      dof = sym (swapped_at n i k p.dofs 0 count h);
      load = sym (swapped_at n i k p.form.load _ (is.load ∙ count) h);
      own = sym (swapped_entry n i k i k p.form.matrix rows row h h);
      columns = λ j l v. sym (swapped_entry n i k j l p.form.matrix rows row h v);
      dofs = λ j l v. sym (swapped_at n j l p.dofs 0 count v);
    }

-- the contributions of a column, of a row on one master, and of a row
column_same : (test : Contribution → Bool) (lines : Lines) (n : ℕ) (p q : LocalBlock) (i k : ℕ) (m : Term) → SameRow n p q i k → (j l : ℕ) → AreAcross n j l →
    counted test (column_terms lines m (entry_at p i j) (dof_at p j)) ≡ counted test (column_terms lines m (entry_at q k l) (dof_at q l))
column_same test lines n p q i k m s j l v =
    ap (λ e. counted test (column_terms lines m e (dof_at p j))) (s.columns j l v) ∙ ap (λ d. counted test (column_terms lines m (entry_at q k l) d)) (s.dofs j l v)

columns_same : (test : Contribution → Bool) (lines : Lines) (n a b : ℕ) (p q : LocalBlock) (i k : ℕ) (m : Term) → a ≡ n + n → b ≡ n + n → SameRow n p q i k →
    counted test (flat_map (λ j. column_terms lines m (entry_at p i j) (dof_at p j)) (range_with_len 0 a)) ≡ counted test (flat_map (λ j. column_terms lines m (entry_at q k j) (dof_at q j)) (range_with_len 0 b))
columns_same test lines n a b p q i k m mine theirs s =
    let f : ℕ → List Contribution = λ j. column_terms lines m (entry_at p i j) (dof_at p j) in
    let g : ℕ → List Contribution = λ j. column_terms lines m (entry_at q k j) (dof_at q j) in
    ap (λ c. counted test (flat_map f (range_with_len 0 c))) mine ∙ across_same test f g n (λ j l v. column_same test lines n p q i k m s j l v)
    ∙ sym (ap (λ c. counted test (flat_map g (range_with_len 0 c))) theirs)

master_same : (test : Contribution → Bool) (lines : Lines) (n : ℕ) (p q : LocalBlock) (i k : ℕ) (m : Term) → length p.dofs ≡ n + n → length q.dofs ≡ n + n → SameRow n p q i k →
    counted test (master_terms lines p i m) ≡ counted test (master_terms lines q k m)
unfolding master_terms
master_same test lines n p q i k m mine theirs s =
    let x : Contribution = to m.dof RightSide (load_share m.weight (load_at p i)) in
    let y : Contribution = to m.dof RightSide (load_share m.weight (load_at q k)) in
    let a = counted-append test (x ∷ []) (flat_map (λ j. column_terms lines m (entry_at p i j) (dof_at p j)) (range_with_len 0 (length p.dofs))) in
    let b = counted-append test (y ∷ []) (flat_map (λ j. column_terms lines m (entry_at q k j) (dof_at q j)) (range_with_len 0 (length q.dofs))) in
    let c : counted test (x ∷ []) ≡ counted test (y ∷ []) = ap (λ l. counted test (to m.dof RightSide (load_share m.weight l) ∷ [])) s.load in
    let d = columns_same test lines n (length p.dofs) (length q.dofs) p q i k m mine theirs s in
    omega (arith, a, b, c, d)

terms_same : (test : Contribution → Bool) (f g : Term → List Contribution) (ms : List Term) → ((m : Term) → counted test (f m) ≡ counted test (g m)) → counted test (flat_map f ms) ≡ counted test (flat_map g ms)
terms_same test f g [] h = refl
terms_same test f g (m ∷ ms) h =
    let a = counted-append test (f m) (flat_map f ms) in let b = counted-append test (g m) (flat_map g ms) in let c = h m in let r = terms_same test f g ms h in omega (arith, a, b, c, r)

row_same : (test : Contribution → Bool) (lines : Lines) (n : ℕ) (p q : LocalBlock) (i k : ℕ) → length p.dofs ≡ n + n → length q.dofs ≡ n + n → SameRow n p q i k → counted test (row_terms lines p i) ≡ counted test (row_terms lines q k)
unfolding row_terms
row_same test lines n p q i k mine theirs s =
    let f : Term → List Contribution = master_terms lines p i in
    let g : Term → List Contribution = master_terms lines q k in
    let u : List Contribution = own_by (lines (dof_at p i)) (dof_at p i) (unsigned_abs (entry_at p i i)) in
    let v : List Contribution = own_by (lines (dof_at q k)) (dof_at q k) (unsigned_abs (entry_at q k k)) in
    let a = counted-append test (flat_map f (masters lines (dof_at p i))) u in
    let b = counted-append test (flat_map g (masters lines (dof_at q k))) v in
    let c : counted test (flat_map f (masters lines (dof_at p i))) ≡ counted test (flat_map g (masters lines (dof_at q k))) =
    terms_same test f g (masters lines (dof_at p i)) (λ m. master_same test lines n p q i k m mine theirs s) ∙ ap (λ d. counted test (flat_map g (masters lines d))) s.dof in
    let d : counted test u ≡ counted test v =
    ap (λ x. counted test (own_by (lines x) x (unsigned_abs (entry_at p i i)))) s.dof ∙ ap (λ e. counted test (own_by (lines (dof_at q k)) (dof_at q k) (unsigned_abs e))) s.own in
    omega (arith, a, b, c, d)

rows_same : (test : Contribution → Bool) (lines : Lines) (n a b : ℕ) (p q : LocalBlock) → length p.dofs ≡ n + n → length q.dofs ≡ n + n → a ≡ n + n → b ≡ n + n → ((i k : ℕ) → AreAcross n i k → SameRow n p q i k) →
    counted test (flat_map (row_terms lines p) (range_with_len 0 a)) ≡ counted test (flat_map (row_terms lines q) (range_with_len 0 b))
rows_same test lines n a b p q mine theirs c d s =
    ap (λ m. counted test (flat_map (row_terms lines p) (range_with_len 0 m))) c
    ∙ across_same test (row_terms lines p) (row_terms lines q) n (λ i k h. row_same test lines n p q i k mine theirs (s i k h))
    ∙ sym (ap (λ m. counted test (flat_map (row_terms lines q) (range_with_len 0 m))) d)

block_same : (test : Contribution → Bool) (lines : Lines) (n : ℕ) (p : LocalBlock) → IsBlock p → length p.dofs ≡ n + n → counted test (contributions lines p) ≡ counted test (contributions lines (exchanged_block n p))
unfolding contributions
block_same test lines n p is count =
    rows_same test lines n (length p.dofs) (length (swapped n p.dofs)) p (exchanged_block n p) count (swapped_count n p.dofs count) count (swapped_count n p.dofs count) (λ i k h. row_of n p i k is count h)

-- a form over the dofs of two cells, and the exchanged form over those of the cells in the other order
pub exchanged_same : (test : Contribution → Bool) (lines : Lines) (n : ℕ) (a b : List ℕ) (r : Result LocalForm LocalFault) → length a ≡ n → length (a ++ b) ≡ n + n → ((form : LocalForm) → r ≡ Ok form → IsBlock (record { dofs = a ++ b; form = form })) →
    counted test (of_block lines (with_dofs (a ++ b) r)) ≡ counted test (of_block lines (with_dofs (b ++ a) (exchanged n r)))
exchanged_same test lines n a b (Ok form) first count h =
    block_same test lines n (record { dofs = a ++ b; form = form }) (h form refl) count
    ∙ ap (λ dofs. counted test (contributions lines (record { dofs = dofs; form = exchanged_form n form }))) (swapped-append n a b first)
exchanged_same test lines n a b (Err fault) first count h = refl
