-- Refined meshes have dofs, and closed lines or a fault of the constraints.
use Rattle.std.proofs.Common.{◌≡◌, ◌∙◌, sym, ap, refl, subst, ℕ, ◌+◌, ◌<◌, ◌≤◌, inl, inr, ⊎_elim, List, [], ◌∷◌, length, map, slice_index, slice_index_or, slice_set, Ok, Err, arith}
use Rattle.std.specs.Prelude.{◌^◌, not, is_some, Some, None, MatchOption}
use Rattle.std.specs.declared.option.Option.{Option}
use Rattle.std.specs.declared.result.Result.{Result}
use Rattle.std.specs.List.{range_with_len}
use Rattle.std.proofs.Math.ListN.{length-set}
use Rattle.std.proofs.Math.Path.{fun_ext}
use Rattle.std.proofs.lemmas.Bool.{cases_lt}
use Rattle.std.proofs.lemmas.List.{get_or_past}
use Rattle.std.proofs.lemmas.List.FromFn.{length-map-range_with_len, get_or-map-range_with_len}
use Rattle.fem_text.specs.Words.{◌>>=◌, unless}
use Rattle.fem_fixed.specs.Lists.{different, rank_among}
use Rattle.corner_names.specs.Names.{Cell, root, node, centre}
use Rattle.corner_names.specs.Cells.{vertex, mid}
use Rattle.hanging_refine.specs.Coarse.{corner_at}
use Rattle.hanging_refine.specs.Refined.{RefinedMesh, named, active_cells, cell_in}
use Rattle.hanging_refine.specs.Grown.{IsGrown}
use Rattle.hanging_refine.proofs.Lists.{map_in, map_length}
use Rattle.hanging_refine.proofs.Unrefined.{by_face}
use Rattle.affine_constraints.specs.declared.fault.CloseFault.{CloseFault}
use Rattle.affine_constraints.specs.Lines.{AffineLine, Lines, lines_in}
use Rattle.affine_constraints.specs.Closing.{AreClosed, IsClosedLine}
use Rattle.affine_constraints.specs.Laws.{IsAnswer}
use Rattle.dof_numbers.specs.Dofs.{IsDegree, Numbering, IsNumberingOf, same_name, cell_names, names_each, name_list, name_dof}
use Rattle.problem_read.specs.Entries.{ProblemParts, Tie}
use Rattle.constrained_mesh.specs.declared.fault.ConstraintFault.{ConstraintFault}
use Rattle.constrained_mesh.specs.declared.fault.ConstraintFault.TheVariants.{UnknownNode, Twice, Cycle, Weight, Terms, NoMemory}
use Rattle.constrained_mesh.specs.MeshLines.{Table, dof_count}
use Rattle.constrained_mesh.specs.Nodes.{Nodes, dof_of_id}
use Rattle.constrained_mesh.specs.Ties.{DofOf, dof_named, terms_named, with_tie, with_ties}
use Rattle.constrained_mesh.specs.Constrained.{Answer, answer_of, ClosesOrFails, IsConstrained}
use Rattle.constrained_mesh.proofs.AnswerLaws.{some}
use Rattle.constrained_mesh.proofs.MemoryLaws.{never}
use Rattle.diagnostics.specs.declared.refusal.Refusal.{Refusal}
use Rattle.diagnostics.specs.declared.ending.Ending.TheVariants.{Refused}
use Rattle.system_setup.specs.Endings.{of_constraints}
use Rattle.system_setup.specs.SetUp.{nodes_of, LinesFor}

-- the dofs of the cells
cell_dofs : ℕ → RefinedMesh → Cell → List ℕ
cell_dofs degree forest x = map (name_dof degree forest) (cell_names degree forest.mesh x)

-- the dofs, if any, of the first nodes
nodes_below : ℕ → RefinedMesh → ℕ → List (Option ℕ)
nodes_below degree forest n = map (λ k. rank_among same_name (name_list degree forest) (node k)) (range_with_len 0 n)

node_below : (degree : ℕ) (forest : RefinedMesh) (n k : ℕ) → k < n → slice_index_or (nodes_below degree forest n) k None ≡ rank_among same_name (name_list degree forest) (node k)
unfolding nodes_below
node_below degree forest n k h = get_or-map-range_with_len (λ j. rank_among same_name (name_list degree forest) (node j)) 0 n k k None h (omega arith)

pub numbering_of : ℕ → RefinedMesh → Numbering
numbering_of degree forest =
    record { degree = degree; size = different same_name (name_list degree forest); cells = map (cell_dofs degree forest) (active_cells forest); nodes = nodes_below degree forest (2 ^ 20) }

pub of_degree : (degree : ℕ) (forest : RefinedMesh) → (numbering_of degree forest).degree ≡ degree
unfolding numbering_of
of_degree degree forest = refl

row_of : (degree : ℕ) (forest : RefinedMesh) (c : ℕ) (d : List ℕ) → c < length forest.cells →
    slice_index_or (map (cell_dofs degree forest) (active_cells forest)) c d ≡ cell_dofs degree forest (cell_in (active_cells forest) c)
row_of degree forest c d h = map_in (cell_dofs degree forest) (active_cells forest) c (root 0) d (let l = map_length named forest.cells in omega arith)

-- each place of a row has the dof of its name, and there are as many as names
vertex_in_row : (degree : ℕ) (forest : RefinedMesh) (x : Cell) (v : ℕ) → v < 4 → slice_index (cell_dofs degree forest x) v ≡ name_dof degree forest (vertex (corner_at forest.mesh) x v)
unfolding cell_dofs
vertex_in_row degree forest x v h =
    by_face (λ w. slice_index (map (name_dof degree forest) (cell_names degree forest.mesh x)) w ≡ name_dof degree forest (vertex (corner_at forest.mesh) x w)) refl refl refl refl v h

middle_in_row : (forest : RefinedMesh) (x : Cell) (f : ℕ) → f < 4 → slice_index (cell_dofs 2 forest x) (4 + f) ≡ name_dof 2 forest (mid (corner_at forest.mesh) x f)
unfolding cell_dofs
middle_in_row forest x f h =
    by_face (λ g. slice_index (map (name_dof 2 forest) (cell_names 2 forest.mesh x)) (4 + g) ≡ name_dof 2 forest (mid (corner_at forest.mesh) x g)) refl refl refl refl f h

centre_in_row : (forest : RefinedMesh) (x : Cell) → slice_index (cell_dofs 2 forest x) 8 ≡ name_dof 2 forest (centre x)
unfolding cell_dofs
centre_in_row forest x = refl

all_in_row : (degree : ℕ) → IsDegree degree → (forest : RefinedMesh) (x : Cell) → length (cell_dofs degree forest x) ≡ names_each degree
unfolding cell_dofs
all_in_row degree (inl one) forest x = (let P : ℕ → Type 0 = λ d. length (cell_dofs d forest x) ≡ names_each d in subst P (sym one) refl)
all_in_row degree (inr two) forest x = (let P : ℕ → Type 0 = λ d. length (cell_dofs d forest x) ≡ names_each d in subst P (sym two) refl)

middle_of_row : (degree : ℕ) → degree ≡ 2 → (forest : RefinedMesh) (x : Cell) (f : ℕ) → f < 4 → slice_index (cell_dofs degree forest x) (4 + f) ≡ name_dof 2 forest (mid (corner_at forest.mesh) x f)
middle_of_row degree two forest x f h = ap (λ d. slice_index (cell_dofs d forest x) (4 + f)) two ∙ middle_in_row forest x f h

centre_of_row : (degree : ℕ) → degree ≡ 2 → (forest : RefinedMesh) (x : Cell) → slice_index (cell_dofs degree forest x) 8 ≡ name_dof 2 forest (centre x)
centre_of_row degree two forest x = ap (λ d. slice_index (cell_dofs d forest x) 8) two ∙ centre_in_row forest x

-- each refined mesh has its dofs
pub numbering_is : (degree : ℕ) → IsDegree degree → (forest : RefinedMesh) → IsNumberingOf forest (numbering_of degree forest)
unfolding numbering_of
numbering_is degree is forest =
    let l : length (map (cell_dofs degree forest) (active_cells forest)) ≡ length forest.cells = map_length (cell_dofs degree forest) (active_cells forest) ∙ map_length named forest.cells in
    record {
      degree = is;
      size = refl;
      count = l;
      each = λ c d h. ap length (row_of degree forest c d (omega arith)) ∙ all_in_row degree is forest (cell_in (active_cells forest) c);
      cells = λ c v h a. ap (λ row. slice_index row v) (row_of degree forest c [] h) ∙ vertex_in_row degree forest (cell_in (active_cells forest) c) v a;
      middles = λ c f two h a. ap (λ row. slice_index row (4 + f)) (row_of degree forest c [] h) ∙ middle_of_row degree two forest (cell_in (active_cells forest) c) f a;
      centres = λ c two h. ap (λ row. slice_index row 8) (row_of degree forest c [] h) ∙ centre_of_row degree two forest (cell_in (active_cells forest) c);
      nodes = λ n h. node_below degree forest (2 ^ 20) n h;
    }

-- the table, if there is one, has so many places
Keeps : ℕ → Result Table ConstraintFault → Type 0
Keeps n outcome = (t : Table) → outcome ≡ Ok t → length t ≡ n

bind_keeps : {A : Type 0} (n : ℕ) (r : Result A ConstraintFault) (next : A → Result Table ConstraintFault) → ((value : A) → r ≡ Ok value → Keeps n (next value)) → Keeps n (r >>= next)
unfolding Keeps
bind_keeps n (Ok value) next more t e = more value refl t e
bind_keeps n (Err fault) next more t e = absurd cc

same_ok : (t u : Table) → (let r : Result Table ConstraintFault = Ok t in r) ≡ Ok u → t ≡ u
same_ok t u e = cc

tie_keeps : (dof_of : DofOf) (table : Table) (tie : Tie) → Keeps (length table) (with_tie dof_of table tie)
unfolding with_tie Keeps
tie_keeps dof_of table tie =
    bind_keeps (length table) (dof_named dof_of tie.node) _ (λ dof d. bind_keeps (length table) (terms_named dof_of tie.terms) _
    (λ terms f. bind_keeps (length table) (unless (Twice dof) (not (is_some (lines_in table dof)))) _
    (λ free g t e. ap length (sym (same_ok (slice_set table dof (Some (record { terms = terms; constant = tie.constant }))) t e)) ∙ length-set table dof (Some (record { terms = terms; constant = tie.constant })))))

ties_keep : (dof_of : DofOf) (table : Table) (ties : List Tie) → Keeps (length table) (with_ties dof_of table ties)
unfolding with_ties Keeps
ties_keep dof_of table [] t e = ap length (sym (same_ok table t e))
ties_keep dof_of table (tie ∷ ties) t e =
    bind_keeps (length table) (with_tie dof_of table tie) (λ next. with_ties dof_of next ties) (λ next d u f. ties_keep dof_of next ties u f ∙ tie_keeps dof_of table tie next d) t e

same_lines : (x y : Lines) → (let r : Answer = Ok x in r) ≡ Ok y → x ≡ y
same_lines x y e = cc

not_lines : (x : Lines) (y : ConstraintFault) → (let r : Answer = Ok x in r) ≡ Err y → ⊥
not_lines x y e = cc

-- a dof past the end is free
free_past : (table : Table) (closed : Lines) → AreClosed (lines_in table) closed → (dof : ℕ) → length table ≤ dof → closed dof ≡ None
free_past table closed are dof h =
    let P : Option AffineLine → Type 0 = λ o. MatchOption o (closed dof ≡ None) (λ line. (result : AffineLine) × (closed dof ≡ Some result) × IsClosedLine closed line result) in
    subst P (get_or_past table dof None h) (are dof)

closing_free : (table : Table) (closing : Result Lines CloseFault) (closed : Lines) → IsAnswer (lines_in table) closing → (let r : Answer = Ok closed in r) ≡ answer_of closing → (dof : ℕ) → length table ≤ dof → closed dof ≡ None
closing_free table (Ok lines) closed is e dof h = ap (λ l. l dof) (same_lines closed lines e) ∙ free_past table lines is.are_closed dof h
closing_free table (Err fault) closed is e dof h = absurd (not_lines closed _ e)

outcome_free : (n : ℕ) (outcome : Result Table ConstraintFault) (closed : Lines) → Keeps n outcome → ClosesOrFails outcome (Ok closed) → (dof : ℕ) → n ≤ dof → closed dof ≡ None
unfolding Keeps
outcome_free n (Ok table) closed keeps w dof h = let l : length table ≡ n = keeps table refl in closing_free table w.closing closed w.is_answer w.answer_is dof (omega arith)
outcome_free n (Err fault) closed keeps w dof h = absurd (not_lines closed fault w)

constrained_free : (nodes : Nodes) (problem : ProblemParts) (closed : Lines) → IsConstrained nodes problem (Ok closed) → (dof : ℕ) → dof_count nodes.degree nodes.forest ≤ dof → closed dof ≡ None
constrained_free nodes problem closed w dof h =
    let s = w.of_mesh.size in
    outcome_free (length w.lines) (with_ties (dof_of_id nodes) w.lines problem.ties) closed (ties_keep (dof_of_id nodes) w.lines problem.ties) w.outcome dof (omega arith)

-- the table of lines with so many places
table_below : Lines → ℕ → Table
table_below closed n = map closed (range_with_len 0 n)

table_length : (closed : Lines) (n : ℕ) → length (table_below closed n) ≡ n
unfolding table_below
table_length closed n = length-map-range_with_len closed 0 n

table_lines : (closed : Lines) (n : ℕ) → ((dof : ℕ) → n ≤ dof → closed dof ≡ None) → lines_in (table_below closed n) ≡ closed
unfolding table_below
table_lines closed n free = fun_ext (λ dof. ⊎_elim
    (λ (h : dof < n). get_or-map-range_with_len closed 0 n dof dof None h (omega arith))
    (λ (h : n ≤ dof). get_or_past (map closed (range_with_len 0 n)) dof None (let l = length-map-range_with_len closed 0 n in omega arith) ∙ sym (free dof h))
    (cases_lt dof n))

refusal_by : (fault : ConstraintFault) → (fault ≡ NoMemory → ⊥) → (r : Refusal) × (of_constraints fault ≡ Refused r)
refusal_by (UnknownNode id) n = (_, refl)
refusal_by (Twice dof) n = (_, refl)
refusal_by (Cycle dof) n = (_, refl)
refusal_by (Weight dof) n = (_, refl)
refusal_by (Terms dof) n = (_, refl)
refusal_by NoMemory n = absurd (n refl)

lined : (degree : ℕ) (ids : List ℕ) (problem : ProblemParts) (forest : RefinedMesh) (answer : Answer) → IsConstrained (nodes_of degree ids forest) problem answer → (outcome : Result Table Refusal) × LinesFor degree ids problem forest outcome
lined degree ids problem forest (Ok closed) w =
    let n : ℕ = dof_count degree forest in
    let same : lines_in (table_below closed n) ≡ closed = table_lines closed n (λ dof h. constrained_free (nodes_of degree ids forest) problem closed w dof h) in
    let P : Lines → Type 0 = λ lines. IsConstrained (nodes_of degree ids forest) problem (Ok lines) in
    (Ok (table_below closed n), (table_length closed n, subst P (sym same) w))
lined degree ids problem forest (Err fault) w =
    let r = refusal_by fault (λ e. never (nodes_of degree ids forest) problem (let P : ConstraintFault → Type 0 = λ f. IsConstrained (nodes_of degree ids forest) problem (Err f) in subst P e w)) in
    (Err r.0, (fault, w, r.1))

-- a refined mesh that is grown has closed lines, or a refusal
pub some_lines : (degree : ℕ) → IsDegree degree → (ids : List ℕ) (problem : ProblemParts) (forest : RefinedMesh) → IsGrown forest → (outcome : Result Table Refusal) × LinesFor degree ids problem forest outcome
some_lines degree is ids problem forest g = let t = some (nodes_of degree ids forest) problem is g in lined degree ids problem forest t.0 t.1
