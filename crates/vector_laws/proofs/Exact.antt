-- The text of a product is that of the matrix times the vector, where no share is rounded.
use Rattle.std.proofs.Common.{◌≡◌, ◌≢◌, ◌∙◌, sym, ap, subst, ℕ, ◌<◌, List, [], ◌∷◌, length, map, slice_index, slice_index_or, arith, refl}
use Rattle.std.specs.Prelude.{Ok, Err}
use Rattle.std.specs.List.{Contains, range_with_len}
use Rattle.std.proofs.lemmas.List.Elements.{Contains-get_or}
use Rattle.std.proofs.lemmas.List.FromFn.{get_or-range_with_len, length-range_with_len, length-map-range_with_len}
use Rattle.conflict_coloring.specs.Coloring.{StandOnce}
use Rattle.fem_text.proofs.OneReading.{ok_same, ok_err}
use Rattle.matrix_market.specs.Texts.{vector_text}
use Rattle.matrix_free.specs.Product as made
use Rattle.matrix_free.specs.Matrix.{IsOrder, matrix_product}
use Rattle.matrix_free.proofs.Orders.{all_in_range}
use Rattle.matrix_free.proofs.System.{same_product}
use Rattle.mesh_loop.specs.Setup.{MeshProblem, cells_of, pattern_of, written_rows}
use Rattle.run_words.specs.declared.options.SystemMode.{SystemMode}
use Rattle.run_words.specs.declared.options.SystemMode.TheVariants as modes
use Rattle.run_outputs.specs.Targets.{first_target}
use Rattle.diagnostics.specs.declared.refusal.Refusal.{Refusal}
use Rattle.diagnostics.specs.Stages.{stops, goes}
use Rattle.system_texts.specs.Sums.{IsOrderOf}
use Rattle.vector_laws.specs.Laws.{ProductsAreExact}

at_range : (n k d : ℕ) → k < n → slice_index_or (range_with_len 0 n) k d ≡ k
at_range n k d low = get_or-range_with_len 0 n k d low ∙ omega arith

range_has : (n c : ℕ) → c < n → Contains (range_with_len 0 n) c
range_has n c low =
    subst (Contains (range_with_len 0 n)) (at_range n c 0 low) (Contains-get_or (range_with_len 0 n) c 0 (let many = length-range_with_len 0 n in omega (arith, many, low)))

apart : (n i j : ℕ) → i < j → j < length (range_with_len 0 n) → slice_index (range_with_len 0 n) i ≢ slice_index (range_with_len 0 n) j
apart n i j low within same =
    let many = length-range_with_len 0 n in
    let e : i ≡ j = sym (at_range n i 0 (omega (arith, many, low, within))) ∙ same ∙ at_range n j 0 (omega (arith, many, within)) in
    omega (arith, low, e)

-- the cells as they come are an order of all cells
range_once : (n : ℕ) → StandOnce n (range_with_len 0 n)
range_once n = record { within = all_in_range (λ c. c < n) n (λ c low. low); each = range_has n; once = apart n }

-- and so is the order in which a mode adds them
order_of : (mode : SystemMode) (s : MeshProblem) (order : List ℕ) → IsOrderOf mode s order → IsOrder s order
order_of modes.Serial s order is = subst (StandOnce (length s.given.forest.cells)) (sym is) (range_once (length s.given.forest.cells))
order_of modes.Ordered s order is = subst (StandOnce (length s.given.forest.cells)) (sym is) (range_once (length s.given.forest.cells))
order_of modes.Colored s order (c, of, is) =
    subst (StandOnce (length s.given.forest.cells)) (sym is)
    (subst (λ n. StandOnce n c.order) (length-map-range_with_len (written_rows s) 0 (length s.given.forest.cells)) of.once)
order_of modes.Pattern s order is = absurd is
order_of modes.Colors s order is = absurd is

pub exact : ProductsAreExact
exact mode output values s rows targets written unrounded (order, of, sum) (stops refusal misfits e) = ok_err targets refusal e
exact mode output values s rows targets written unrounded (order, of, sum) (goes x fits (stops refusal fails e)) = ok_err targets refusal e
exact mode output values s rows targets written unrounded (order, of, sum) (goes x fits (goes list product text)) =
    let same : list ≡ matrix_product (pattern_of s) rows values =
    product.3 ∙ ap (made.product s) fits.0 ∙ same_product s values order rows written fits.1.as_many (order_of mode s order of) unrounded sum in
    ok_same {K = Refusal} targets (first_target output (vector_text list) ∷ []) text ∙ ap (λ l. first_target output (vector_text l) ∷ []) same
