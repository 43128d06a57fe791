-- What the visits of a cell give, one visit after another, and what the cells give.
use Rattle.std.proofs.Common.{◌≡◌, ◌∙◌, sym, ap, ap₂, refl, subst, ℕ, suc, ◌+◌, ◌<◌, ◌≤◌, Bool, false, ◌==◌, List, [], ◌∷◌, ◌++◌, length, map, take, arith, slice_index_or, below_more}
use Rattle.std.specs.Prelude.{filter}
use Rattle.std.specs.List.{All, flat_map, range_with_len, list_any}
use Rattle.std.specs.List.Sorted.{IsStrictlyIncreasing}
use Rattle.std.proofs.lemmas.Grind.{flat_map-append}
use Rattle.std.proofs.lemmas.List.{take_more, map_more, map-append, append-nil, append_assoc}
use Rattle.std.proofs.lemmas.List.Elements.{All-append, All-nil, All-head, All-tail, All-more, All-weaker}
use Rattle.std.proofs.lemmas.List.Folds.{list_any_none}
use Rattle.std.proofs.lemmas.List.FromFn.{map-range_with_len_more}
use Rattle.std.proofs.lemmas.Map.Keys.{sorted_from_strictly_increasing}
use Rattle.block_sums.proofs.Runs.{range_next}
use Rattle.mesh_visits.specs.declared.visit.Visit.{Visit}
use Rattle.sparsity.specs.Coupled.{CoupledDofs, has, rows_of}
use Rattle.sparsity.proofs.Having.{rising_is_filter}
use Rattle.mesh_loop.specs.Setup.{MeshProblem, cells_of, cell_visits, visit_masters, visit_rows, coupled_by, coupled_dofs, pattern_of, written_rows}
use Rattle.mesh_loop.specs.Parts.{IsVisitBelow}

abbrev pub coupled : ℕ → List (List ℕ) → CoupledDofs
coupled size lists = record { size = size; lists = lists }

-- one list more for each of the first visits
pub lists_more : {A : Type 0} (f : A → List ℕ) (xs : List A) (k : ℕ) (x : A) (size : ℕ) (old : List (List ℕ)) (now next : CoupledDofs) → k < length xs → x ≡ slice_index_or xs k x → now ≡ coupled size (old ++ map f (take k xs)) →
    next ≡ coupled now.size (now.lists ++ f x ∷ []) → next ≡ coupled size (old ++ map f (take (k + 1) xs))
lists_more f xs k x size old now next h at before after =
    after
    ∙ ap (λ (c : CoupledDofs). coupled c.size (c.lists ++ f x ∷ [])) before
    ∙ ap (λ (ls : List (List ℕ)). coupled size ls) (append_assoc old (map f (take k xs)) (f x ∷ []) ∙ ap (λ y. old ++ (map f (take k xs) ++ f y ∷ [])) at ∙ sym (ap (λ (ls : List (List ℕ)). old ++ ls) (map_more f xs k x h)))

flat_next : {A B : Type 0} (f : A → List B) (xs : List A) (k : ℕ) (d : A) → k < length xs → flat_map f (take (k + 1) xs) ≡ flat_map f (take k xs) ++ f (slice_index_or xs k d)
flat_next f xs k d h =
    ap (flat_map f) (take_more xs k d h) ∙ flat_map-append f (take k xs) (slice_index_or xs k d ∷ []) ∙ ap (λ ys. flat_map f (take k xs) ++ ys) (append-nil (f (slice_index_or xs k d)))

pub items_more : {A : Type 0} (f : A → List ℕ) (xs : List A) (k : ℕ) (x : A) (old now next : List ℕ) → k < length xs → x ≡ slice_index_or xs k x → now ≡ old ++ flat_map f (take k xs) →
    next ≡ now ++ f x → next ≡ old ++ flat_map f (take (k + 1) xs)
items_more f xs k x old now next h at before after =
    after
    ∙ ap (λ (ys : List ℕ). ys ++ f x) before
    ∙ append_assoc old (flat_map f (take k xs)) (f x)
    ∙ ap (λ y. old ++ (flat_map f (take k xs) ++ f y)) at
    ∙ sym (ap (λ (ys : List ℕ). old ++ ys) (flat_next f xs k x h))

pub each_more : {A : Type 0} (P : A → Type 0) (xs : List A) (k : ℕ) (x : A) → k < length xs → x ≡ slice_index_or xs k x → All P (take k xs) → P x → All P (take (k + 1) xs)
each_more P xs k x h at before here = All-more P xs k x h before (subst P at here)

-- the cells
range_more : {A : Type 0} (f : ℕ → List A) (k : ℕ) → flat_map f (range_with_len 0 (k + 1)) ≡ flat_map f (range_with_len 0 k) ++ f k
range_more f k =
    ap (flat_map f) (range_next 0 k) ∙ flat_map-append f (range_with_len 0 k) ((0 + k) ∷ []) ∙ ap (λ ys. flat_map f (range_with_len 0 k) ++ ys) (append-nil (f (0 + k)))
    ∙ ap (λ n. flat_map f (range_with_len 0 k) ++ f n) (let e : 0 + k ≡ k = omega arith in e)

pub cell_coupled : (s : MeshProblem) (cell size : ℕ) (visits : List Visit) (now next : CoupledDofs) → visits ≡ cell_visits s cell → now ≡ coupled size (flat_map (coupled_by s) (range_with_len 0 cell)) →
    next ≡ coupled now.size (now.lists ++ map (visit_masters s cell) visits) → next ≡ coupled size (flat_map (coupled_by s) (range_with_len 0 (cell + 1)))
unfolding coupled_by
cell_coupled s cell size visits now next are before after =
    after
    ∙ ap (λ (c : CoupledDofs). coupled c.size (c.lists ++ map (visit_masters s cell) visits)) before
    ∙ ap (λ (vs : List Visit). coupled size (flat_map (coupled_by s) (range_with_len 0 cell) ++ map (visit_masters s cell) vs)) are
    ∙ sym (ap (λ (ls : List (List ℕ)). coupled size ls) (range_more (coupled_by s) cell))

pub all_coupled : (s : MeshProblem) (n size : ℕ) (now : CoupledDofs) → n ≡ length s.given.forest.cells → size ≡ s.given.dofs.size → now ≡ coupled size (flat_map (coupled_by s) (range_with_len 0 n)) → now ≡ coupled_dofs s
unfolding coupled_dofs
all_coupled s n size now count is so_far = so_far ∙ ap₂ (λ m k. coupled m (flat_map (coupled_by s) (range_with_len 0 k))) is count

all_flat : {A : Type 0} (P : ℕ → Type 0) (f : A → List ℕ) (xs : List A) → All (λ x. All P (f x)) xs → All P (flat_map f xs)
all_flat P f [] h = All-nil P
all_flat P f (x ∷ xs) h = All-append P (f x) (flat_map f xs) (All-head (λ y. All P (f y)) x xs h) (all_flat P f xs (All-tail (λ y. All P (f y)) x xs h))

rows_below : (s : MeshProblem) (cell : ℕ) (visits : List Visit) → All (IsVisitBelow s cell) visits → All (λ d. d < s.given.dofs.size) (flat_map (visit_rows s cell) visits)
rows_below s cell visits h =
    let P : ℕ → Type 0 = λ d. d < s.given.dofs.size in
    all_flat P (visit_rows s cell) visits
    (All-weaker (IsVisitBelow s cell) (λ visit. All P (visit_rows s cell visit)) (λ visit b. All-append P _ _ b.dofs b.masters) visits h)

past_one : (n d x : ℕ) → x < n → n ≤ d → (x == d) ≡ false
past_one n d x low high = grind (arith, low, high)

has_past : (n d : ℕ) (xs : List ℕ) → All (λ x. x < n) xs → n ≤ d → has xs d ≡ false
unfolding has
has_past n d xs h past = list_any_none (λ x. x == d) xs (All-weaker (λ x. x < n) (λ x. (x == d) ≡ false) (λ x low. past_one n d x low past) xs h)

-- a rising list with the rows of the visits is the written rows
pub cell_written : (s : MeshProblem) (cell : ℕ) (visits : List Visit) (list gathered : List ℕ) → visits ≡ cell_visits s cell → gathered ≡ flat_map (visit_rows s cell) visits → All (IsVisitBelow s cell) visits → IsStrictlyIncreasing list →
    ((d : ℕ) → has list d ≡ has gathered d) → list ≡ written_rows s cell
unfolding written_rows
cell_written s cell visits list gathered are is below rising same =
    let whole : gathered ≡ flat_map (visit_rows s cell) (cell_visits s cell) = is ∙ ap (flat_map (visit_rows s cell)) are in
    let low : All (IsVisitBelow s cell) (cell_visits s cell) = subst (All (IsVisitBelow s cell)) are below in
    rising_is_filter (has (flat_map (visit_rows s cell) (cell_visits s cell))) s.given.dofs.size list (sorted_from_strictly_increasing list rising)
    (λ d. same d ∙ ap (λ (xs : List ℕ). has xs d) whole) (λ d past. has_past s.given.dofs.size d (flat_map (visit_rows s cell) (cell_visits s cell)) (rows_below s cell (cell_visits s cell) low) past)

pub rows_more : (s : MeshProblem) (cell : ℕ) (list : List ℕ) (now next : List (List ℕ)) → list ≡ written_rows s cell → now ≡ map (written_rows s) (range_with_len 0 cell) → next ≡ now ++ list ∷ [] →
    next ≡ map (written_rows s) (range_with_len 0 (cell + 1))
rows_more s cell list now next is before after =
    after
    ∙ ap (λ (ls : List (List ℕ)). ls ++ list ∷ []) before
    ∙ ap (λ (l : List ℕ). map (written_rows s) (range_with_len 0 cell) ++ l ∷ []) is
    ∙ sym (map-range_with_len_more (written_rows s) 0 cell cell (omega arith))

pub cells_more : (s : MeshProblem) (cell : ℕ) (visits : List Visit) → visits ≡ cell_visits s cell → ((c : ℕ) → c < cell → All (IsVisitBelow s c) (cell_visits s c)) → All (IsVisitBelow s cell) visits →
    (c : ℕ) → c < cell + 1 → All (IsVisitBelow s c) (cell_visits s c)
cells_more s cell visits are before here =
    let P : ℕ → Type 0 = λ c. All (IsVisitBelow s c) (cell_visits s c) in
    below_more P cell before (subst (All (IsVisitBelow s cell)) are here)

pub pattern_is : (s : MeshProblem) (couplings : CoupledDofs) (pattern : List (List ℕ)) → couplings ≡ coupled_dofs s → pattern ≡ rows_of couplings → pattern ≡ pattern_of s
unfolding pattern_of
pattern_is s couplings pattern are is = is ∙ ap rows_of are
