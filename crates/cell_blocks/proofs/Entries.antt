-- Entries of blocks.
use Rattle.std.proofs.Common.{◌≡◌, ℕ, zero, suc, refl, ◌∷◌, ◌<◌, ◌≤◌, ◌^◌, List, [], length, ℤ, arith, slice_index_or}
use Rattle.std.specs.Prelude.{unsigned_abs}
use Rattle.cell_blocks.specs.LocalBlocks.{LocalBlock, IsBlock}

pub row_length : (block : LocalBlock) (i : ℕ) (row : List ℤ) → IsBlock block → i < length block.dofs → row ≡ slice_index_or block.form.matrix i [] → length row ≡ length block.dofs
row_length block i row h l e = rw e (h.columns i [] (let r = h.rows in omega (arith, r, l)))

pub entry_small : (block : LocalBlock) (i j : ℕ) (d : ℤ) (row : List ℤ) → IsBlock block → i < length block.dofs → j < length block.dofs → row ≡ slice_index_or block.form.matrix i [] → unsigned_abs (slice_index_or row j d) ≤ 2 ^ 72
entry_small block i j d row h l k e =
    let n = row_length block i row h l e in
    rw e (h.small i [] (let r = h.rows in omega (arith, r, l)) j d (rw (← e) (omega (arith, n, k))))

pub load_length : (block : LocalBlock) (i : ℕ) (load : List ℤ) → IsBlock block → i < length block.dofs → load ≡ block.form.load → i < length load
load_length block i load h l e = rw e (let r = h.load in omega (arith, r, l))

pub load_small : (block : LocalBlock) (i : ℕ) (d : ℤ) (load : List ℤ) → IsBlock block → i < length block.dofs → load ≡ block.form.load → unsigned_abs (slice_index_or load i d) ≤ 2 ^ 72
load_small block i d load h l e = rw e (h.small_load i d (let r = h.load in omega (arith, r, l)))

past_end : {A : Type 0} (xs : List (List A)) (i : ℕ) → length xs ≤ i → [] ≡ slice_index_or xs i []
past_end [] i h = refl
past_end (x ∷ xs) zero h = absurd (omega (arith, h))
past_end (x ∷ xs) (suc i) h = past_end xs i (omega (arith, h))

pub row_past : (block : LocalBlock) (i : ℕ) → IsBlock block → length block.dofs ≤ i → [] ≡ slice_index_or block.form.matrix i []
row_past block i h l = past_end block.form.matrix i (let r = h.rows in omega (arith, r, l))
