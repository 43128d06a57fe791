-- The cells of a chunk are a stretch of numbers.
use Rattle.std.proofs.Common.{◌≡◌, ◌∙◌, sym, ap, refl, ℕ, zero, suc, ◌+◌, ◌-◌, ◌*◌, ◌<◌, ◌≤◌, ◌∷◌, List, length, take, drop, arith, inl, inr, min, mul-le-mul_right, mul-le-mul_left}
use Rattle.std.specs.Int.{div_ceil}
use Rattle.std.specs.List.{range_with_len}
use Rattle.std.proofs.lemmas.Bool.{cases_lt}
use Rattle.std.proofs.lemmas.Grind.{div_ceil_times}
use Rattle.std.proofs.lemmas.List.{take_all}
use Rattle.std.proofs.lemmas.List.FromFn.{length-range_with_len}
use Rattle.mesh_loop.specs.Setup.{MeshProblem, cells_of}
use Rattle.ordered_sum.specs.Chunks.{chunks_of, chunk_cells}

same_stretch : (a b m n : ℕ) → a ≡ b → m ≡ n → range_with_len a m ≡ range_with_len b n
same_stretch a b m n e f = ap (λ x. range_with_len x m) e ∙ ap (range_with_len b) f

take_stretch : (a n k : ℕ) → k ≤ n → take k (range_with_len a n) ≡ range_with_len a k
take_stretch a n zero h = refl
take_stretch a zero (suc k) h = absurd (omega arith)
take_stretch a (suc n) (suc k) h = ap (λ l. a ∷ l) (take_stretch (a + 1) n k (omega arith))

drop_stretch : (a n k : ℕ) → k ≤ n → drop k (range_with_len a n) ≡ range_with_len (a + k) (n - k)
drop_stretch a n zero h = same_stretch a (a + 0) n (n - 0) (omega arith) (omega arith)
drop_stretch a zero (suc k) h = absurd (omega arith)
drop_stretch a (suc n) (suc k) h =
    drop_stretch (a + 1) n k (omega arith)
    ∙ same_stretch (a + 1 + k) (a + suc k) (n - k) (suc n - suc k) (omega arith) (omega arith)

take_some : (a n k count : ℕ) → count ≡ min k n → take k (range_with_len a n) ≡ range_with_len a count
take_some a n k count e = elim (cases_lt k n) [
  | inl less ↦ (let is : k ≡ count = omega (arith, e, less) in take_stretch a n k (omega (arith, less)) ∙ ap (range_with_len a) is)
  | inr rest ↦ (let is : n ≡ count = omega (arith, e, rest) in
      let few : length (range_with_len a n) ≤ k = omega (arith, rest, length-range_with_len a n) in
      take_all k (range_with_len a n) few ∙ ap (range_with_len a) is)
]

-- the cells of chunk k: so many, from the first on
pub chunk_is : (s : MeshProblem) (chunk k first count : ℕ) → first ≡ k * chunk → first ≤ length s.given.forest.cells → count ≡ min chunk (length s.given.forest.cells - first) → chunk_cells s chunk k ≡ range_with_len first count
unfolding chunk_cells
chunk_is s chunk k first count e within f =
    let n : ℕ = length s.given.forest.cells in
    ap (λ j. take chunk (drop j (cells_of s))) (sym e)
    ∙ ap (take chunk) (drop_stretch 0 n first within ∙ same_stretch (0 + first) first (n - first) (n - first) (omega arith) refl)
    ∙ take_some first (n - first) chunk count f

-- a chunk begins at a cell
pub begins_within : (n chunk k : ℕ) → 0 < chunk → k < div_ceil n chunk → k * chunk < n
begins_within n chunk k some inside =
    let top = (div_ceil_times n chunk some).1 in
    let step : (k + 1) * chunk ≤ div_ceil n chunk * chunk = mul-le-mul_right chunk (omega (arith, inside)) in
    omega (arith, top, step)

-- there are at most as many chunks as cells
pub chunks_few : (n chunk : ℕ) → 0 < chunk → div_ceil n chunk ≤ n
chunks_few n chunk some = elim (cases_lt n (div_ceil n chunk)) [
  | inl more ↦ (let top = (div_ceil_times n chunk some).1 in
      let wide : (n + 1) * chunk ≤ div_ceil n chunk * chunk = mul-le-mul_right chunk (omega (arith, more)) in
      let own : n * 1 ≤ n * chunk = mul-le-mul_left n (omega (arith, some)) in
      absurd (omega (arith, top, wide, own)))
  | inr few ↦ few
]

-- all chunks have all cells
pub chunks_reach : (n chunk : ℕ) → 0 < chunk → n ≤ div_ceil n chunk * chunk
chunks_reach n chunk some = (div_ceil_times n chunk some).0
