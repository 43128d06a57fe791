-- What copy objects stand for.
use Rattle.std.proofs.Common.{◌≡◌, ◌∙◌, sym, ap, ℕ, ◌+◌, ◌<◌, ◌≤◌, ◌∷◌, ◌++◌, [], List, length, map, take, get_or, arith, refl, subst}
use Rattle.std.proofs.Math.ListN.{set}
use Rattle.std.specs.List.{range_with_len}
use Rattle.std.specs.declared.result.Result.{Result}
use Rattle.std.proofs.lemmas.List.{get_or-take, length-take, length-map, take_more_set}
use Rattle.std.proofs.lemmas.List.FromFn.{get_or-map-range_with_len, length-map-range_with_len, length-range_with_len, map-range_with_len_more}
use Rattle.std.proofs.lemmas.Grind.{common_steps}
use Rattle.cell_blocks.specs.Blocks.{cell_blocks}
use Rattle.fixed_q1.specs.declared.fault.LocalFault.{LocalFault}
use Rattle.cell_blocks.specs.LocalBlocks.{LocalBlock}
use Rattle.mesh_loop.specs.Setup.{MeshProblem}
use Rattle.ordered_sum.specs.Chunks.{blocks_of, StandFor}

-- the blocks of one cell more are made
pub one_filled : (s : MeshProblem) (first k : ℕ) (copies now : List (Result (List LocalBlock) LocalFault)) (copy : Result (List LocalBlock) LocalFault) → k < length copies → now ≡ set copies k copy →
    copy ≡ cell_blocks s.flags s.given (first + k) → take k copies ≡ blocks_of s (range_with_len first k) → take (k + 1) now ≡ blocks_of s (range_with_len first (k + 1))
one_filled s first k copies now copy inside e made so_far =
    ap (take (k + 1)) e
    ∙ take_more_set copies k copy inside
    ∙ ap (λ l. l ++ copy ∷ []) so_far
    ∙ ap (λ c. blocks_of s (range_with_len first k) ++ c ∷ []) made
    ∙ sym (map-range_with_len_more (cell_blocks s.flags s.given) first k (first + k) refl)

-- copies of so many cells stand for them
pub all_stand : (s : MeshProblem) (first count : ℕ) (cells : List ℕ) (copies : List (Result (List LocalBlock) LocalFault)) → cells ≡ range_with_len first count → take count copies ≡ blocks_of s (range_with_len first count) → StandFor s cells copies
all_stand s first count cells copies e made =
    let P : List ℕ → Type 0 = λ l. StandFor s l copies in
    subst P (sym e) (ap (λ n. take n copies) (length-range_with_len first count) ∙ made)

-- there are as many copies as cells
pub stand_there : (s : MeshProblem) (first count : ℕ) (copies : List (Result (List LocalBlock) LocalFault)) → StandFor s (range_with_len first count) copies → count ≤ length copies
stand_there s first count copies stand =
    let whole : take count copies ≡ blocks_of s (range_with_len first count) = ap (λ n. take n copies) (sym (length-range_with_len first count)) ∙ stand in
    omega (arith, ap length whole, length-take count copies, length-map-range_with_len (cell_blocks s.flags s.given) first count)

-- the copy of cell k
pub copy_is : (s : MeshProblem) (first count k : ℕ) (copies : List (Result (List LocalBlock) LocalFault)) (copy : Result (List LocalBlock) LocalFault) → k < count → StandFor s (range_with_len first count) copies → copy ≡ get_or copies k copy →
    copy ≡ cell_blocks s.flags s.given (first + k)
copy_is s first count k copies copy inside stand e =
    let whole : take count copies ≡ blocks_of s (range_with_len first count) = ap (λ n. take n copies) (sym (length-range_with_len first count)) ∙ stand in
    e ∙ sym (get_or-take count copies k copy inside) ∙ ap (λ l. get_or l k copy) whole ∙ get_or-map-range_with_len (cell_blocks s.flags s.given) first count k (first + k) copy inside refl

pub as_many : (copies : List (Result (List LocalBlock) LocalFault)) (k : ℕ) (copy : Result (List LocalBlock) LocalFault) → length (set copies k copy) ≡ length copies
as_many copies k copy = grind (arith, common_steps)
