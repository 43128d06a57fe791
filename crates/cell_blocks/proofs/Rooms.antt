-- Arrays with room, whose leading numbers are used.
use Rattle.std.proofs.Common.{◌≡◌, ◌∙◌, sym, ap, refl, subst, ℕ, suc, ◌+◌, ◌<◌, ◌≤◌, List, [], ◌∷◌, ◌++◌, length, map, take, set, get_or, ℤ, ◌≢◌, below_more, get_or-set_other, get_or-set_same, arith}
use Rattle.std.specs.List.{All}
use Rattle.cell_blocks.specs.declared.local.LocalSystem.{LocalSystem}
use Rattle.cell_blocks.specs.LocalBlocks.{LocalBlock, IsBlock, IsSmallEntry}
use Rattle.cell_blocks.specs.Lending.{block_in, IsWhole}
use Rattle.std.proofs.lemmas.List.{get_or-map, get_or-take, length-take, take_more, take_more_set}

length-map : {A B : Type 0} (f : A → B) (xs : List A) → length (map f xs) ≡ length xs
length-map f [] = refl
length-map f (x ∷ xs) = ap suc (length-map f xs)

-- lists with the same elements
pub same_elements : {A : Type 0} (d : A) (xs ys : List A) → length xs ≡ length ys → ((k : ℕ) → k < length ys → get_or xs k d ≡ get_or ys k d) → xs ≡ ys
same_elements d [] [] n h = refl
same_elements d [] (y ∷ ys) n h = absurd (omega (arith, n))
same_elements d (x ∷ xs) [] n h = absurd (omega (arith, n))
same_elements d (x ∷ xs) (y ∷ ys) n h =
    let tail : xs ≡ ys = same_elements d xs ys (omega (arith, n)) (λ k low. h (suc k) (omega (arith, low))) in
    let head : x ≡ y = h 0 (omega arith) in
    cc

-- the leading part of each of the leading rows
pub rows_taken : {A : Type 0} (n : ℕ) (room rows : List (List A)) → n ≤ length room → length rows ≡ n → ((k : ℕ) → k < n → take n (get_or room k []) ≡ get_or rows k []) →
    map (take n) (take n room) ≡ rows
rows_taken n room rows wide count each =
    same_elements [] (map (take n) (take n room)) rows (length-map (take n) (take n room) ∙ length_of ∙ sym count) (λ k low. at k (omega (arith, low, count)))
  where
    length_of : length (take n room) ≡ n
    length_of = omega (arith, length-take n room, wide)

    at : (k : ℕ) → k < n → get_or (map (take n) (take n room)) k [] ≡ get_or rows k []
    at k low = get_or-map (take n) (take n room) k [] [] (omega (arith, low, length_of)) ∙ ap (take n) (get_or-take n room k [] low) ∙ each k low

-- one element more
pub one_more : {A : Type 0} (room numbers : List A) (i : ℕ) (d : A) → i < length room → i < length numbers → take i room ≡ take i numbers → take (i + 1) (set room i (get_or numbers i d)) ≡ take (i + 1) numbers
one_more room numbers i d inside within same =
    take_more_set room i (get_or numbers i d) inside ∙ ap (λ xs. xs ++ get_or numbers i d ∷ []) same ∙ sym (take_more numbers i d within)

-- one row more
pub one_row : (n : ℕ) (room : List (List ℤ)) (rows : List (List ℤ)) (i : ℕ) (row given : List ℤ) → i < length room → given ≡ get_or rows i [] → take n row ≡ given → ((k : ℕ) → k < i → take n (get_or room k []) ≡ get_or rows k []) →
    (k : ℕ) → k < i + 1 → take n (get_or (set room i row) k []) ≡ get_or rows k []
one_row n room rows i row given inside is same each =
    below_more _ _ (λ k low. (let other : k ≢ i = omega (arith, low) in rw get_or-set_other (each k low))) (rw get_or-set_same (same ∙ is))

-- dofs that are written in front, and behind those
pub dofs_held : (n : ℕ) (room dofs : List ℕ) → length dofs ≡ n → take (0 + length dofs) room ≡ dofs → take n room ≡ dofs
dofs_held n room dofs e h = let same : 0 + length dofs ≡ n = omega (arith, e) in ap (λ k. take k room) (sym same) ∙ h

pub both_held : (n : ℕ) (room between here there : List ℕ) → length here + length there ≡ n → take (0 + length here) between ≡ here →
    take (length here + length there) room ≡ take (length here) between ++ there → take n room ≡ here ++ there
both_held n room between here there e first second =
    ap (λ k. take k room) (sym e) ∙ second ∙ ap (λ xs. xs ++ there) (dofs_held (length here) between here refl first)

pub numbers_held : (n : ℕ) (room numbers : List ℤ) → length numbers ≡ n → take (length numbers) room ≡ numbers → take n room ≡ numbers
numbers_held n room numbers e h = ap (λ k. take k room) (sym e) ∙ h

-- a local system of what is held
pub block_is : (n used : ℕ) (dofs held_dofs : List ℕ) (matrix held_matrix : List (List ℤ)) (load held_load : List ℤ) → used ≡ n → take n dofs ≡ held_dofs → map (take n) (take n matrix) ≡ held_matrix → take n load ≡ held_load →
    block_in (record { used = used; dofs = dofs; matrix = matrix; load = load }) ≡ record { dofs = held_dofs; form = record { matrix = held_matrix; load = held_load } }
block_is n used dofs held_dofs matrix held_matrix load held_load u d m l =
    let F : ℕ → LocalBlock = λ k. record { dofs = take k dofs; form = record { matrix = map (take k) (take k matrix); load = take k load } } in
    ap F u ∙ (λ i. record { dofs = d i; form = record { matrix = m i; load = l i } })

-- a row that is shown
module _ (system : LocalSystem) (shown : LocalBlock) (is : block_in system ≡ shown) (whole : IsWhole system) where
  shown_block : IsBlock shown
  shown_block = subst IsBlock is whole.block

  row_there : (i : ℕ) → i < length shown.dofs → i < length shown.form.matrix
  row_there i low = let rows = shown_block.rows in omega (arith, rows, low)

  within_used : (i : ℕ) → i < length shown.dofs → i < system.used
  within_used i low = omega (arith, low, ap (λ (b : LocalBlock). length b.dofs) is, length-take system.used system.dofs)

  row_shown : (i : ℕ) → i < length shown.dofs → take system.used (get_or system.matrix i []) ≡ get_or shown.form.matrix i []
  row_shown i low =
      let there : i < length (take system.used system.matrix) = omega (arith, row_there i low, ap (λ (b : LocalBlock). length b.form.matrix) is, length-map (take system.used) (take system.used system.matrix)) in
      ap (take system.used) (sym (get_or-take system.used system.matrix i [] (within_used i low)))
      ∙ sym (get_or-map (take system.used) (take system.used system.matrix) i [] [] there) ∙ ap (λ (b : LocalBlock). get_or b.form.matrix i []) is

  pub row_long : (i : ℕ) → i < length shown.dofs → length (take system.used (get_or system.matrix i [])) ≡ length shown.dofs
  row_long i low = ap length (row_shown i low) ∙ shown_block.columns i [] (row_there i low)

  pub row_small : (i : ℕ) → i < length shown.dofs → All IsSmallEntry (take system.used (get_or system.matrix i []))
  row_small i low = subst (All IsSmallEntry) (sym (row_shown i low)) (shown_block.small i [] (row_there i low))

  pub few_rows : (i : ℕ) → i < length shown.dofs → i < 18
  few_rows i low = let room = whole.within in let used = within_used i low in omega (arith, used, room)
