-- The steps from a vector to its texts, one after another.
use Rattle.std.proofs.Common.{◌≡◌, ◌∙◌, ap, sym, subst, ℕ, ℤ, ◌≤◌, ◌^◌, List, [], ◌∷◌, length, arith, refl}
use Rattle.std.specs.Prelude.{All, unsigned_abs, Ok, Err, IfOk, IfErr}
use Rattle.std.specs.declared.result.Result.{Result}
use Rattle.std.specs.List.{range_with_len, flat_map}
use Rattle.std.proofs.lemmas.List.FromFn.{length-map-range_with_len}
use Rattle.hanging_refine.specs.Refined.{RefinedMesh}
use Rattle.dof_numbers.specs.Dofs.{Numbering, IsNumberingOf, same_name, name_list}
use Rattle.fem_fixed.specs.Lists.{different}
use Rattle.constrained_mesh.specs.MeshLines.{dof_count}
use Rattle.fixed_q1.specs.declared.fault.LocalFault.{LocalFault}
use Rattle.jump_refine.specs.declared.fault.IndicatorFault.{IndicatorFault}
use Rattle.jump_refine.specs.declared.fault.IndicatorFault.TheVariants as indicator_faults
use Rattle.jump_refine.specs.Jumps.{IsFunctionOn}
use Rattle.jump_refine.specs.Indicator.{eta, cell_faults, unless_fault, indicators_of, indicators_at, IsFaultOf}
use Rattle.jump_refine.specs.Marks.{AreMarked}
use Rattle.matrix_market.specs.Texts.{vector_text}
use Rattle.conflict_coloring.specs.Coloring.{Coloring}
use Rattle.matrix_free.specs.declared.fault.ApplyFault.{ApplyFault}
use Rattle.matrix_free.specs.declared.fault.ApplyFault.TheVariants as product_faults
use Rattle.matrix_free.specs.Faults.{FaultIs}
use Rattle.matrix_free.specs.Values.{AreValues}
use Rattle.mesh_loop.specs.Setup.{MeshProblem}
use Rattle.run_words.specs.Choice.{Output}
use Rattle.run_outputs.specs.Targets.{Target, first_target}
use Rattle.diagnostics.specs.declared.ending.Ending.{Ending}
use Rattle.diagnostics.specs.Stages.{EndsIn}
use Rattle.diagnostics.proofs.StageLaws.{ends_first, ends_next, goes_well}
use Rattle.system_texts.specs.Sums.{IsColoringOf}
use Rattle.vector_texts.specs.Endings.{of_product, of_indicators}
use Rattle.vector_texts.specs.Fitting.{FittedTo}
use Rattle.vector_texts.specs.Product.{ProductOf, ProductText, ProductTexts}
use Rattle.vector_texts.specs.Marks.{Indicated, MarkedBy, MarkedOn}

-- the product

pub are_values : (s : MeshProblem) (size : ℕ) (values x y : List ℤ) → size ≡ s.given.dofs.size → FittedTo size (2 ^ 20) values (Ok x) → y ≡ x → AreValues s y
are_values s size values x y is fits same =
    let of_values : y ≡ values = same ∙ fits.0 in
    record { as_many = ap length of_values ∙ fits.1.as_many ∙ is; small = subst (λ list. All (λ value. unsigned_abs value ≤ 2 ^ 20) list) (sym of_values) fits.1.small }

pub product_fault_ends : (s : MeshProblem) (x : List ℤ) (c : Coloring) (fault : ApplyFault) (e : Ending) → IsColoringOf s c → FaultIs s x c.order fault → e ≡ of_product fault → EndsIn (ProductOf s x) e
product_fault_ends s x c (product_faults.Local cell fault) e coloring fails is =
    subst (EndsIn (ProductOf s x)) (sym is) (c, coloring, (product_faults.Local cell fault, fails, refl))
product_fault_ends s x c (product_faults.Size cell) e coloring fails is = subst (EndsIn (ProductOf s x)) (sym is) (c, coloring, (product_faults.Size cell, fails, refl))
product_fault_ends s x c product_faults.NoMemory e coloring fails is = subst (EndsIn (ProductOf s x)) (sym is) tt

-- the values as they are seen on the way: those of the text, those that were taken, and those that are multiplied
pub record Product (output : Output) (s : MeshProblem) (values seen x y : List ℤ) (size : ℕ) : Type 0 where
  pub size_is : size ≡ s.given.dofs.size
  pub seen_is : seen ≡ values
  pub fits : FittedTo size (2 ^ 20) seen (Ok x)
  pub same : y ≡ x

fits_here : (output : Output) (s : MeshProblem) (values seen x y : List ℤ) (size : ℕ) → Product output s values seen x y size → FittedTo s.given.dofs.size (2 ^ 20) values (Ok x)
fits_here output s values seen x y size p =
    subst (λ n. FittedTo n (2 ^ 20) values (Ok x)) p.size_is (subst (λ list. FittedTo size (2 ^ 20) list (Ok x)) p.seen_is p.fits)

pub vector_ends_product : (output : Output) (s : MeshProblem) (values seen : List ℤ) (size : ℕ) (e : Ending) → size ≡ s.given.dofs.size → seen ≡ values → EndsIn (FittedTo size (2 ^ 20) seen) e →
    EndsIn (ProductTexts output values s) e
vector_ends_product output s values seen size e size_is seen_is h =
    ends_first _ _ e (subst (λ n. EndsIn (FittedTo n (2 ^ 20) values) e) size_is (subst (λ list. EndsIn (FittedTo size (2 ^ 20) list) e) seen_is h))

pub product_ends : (output : Output) (s : MeshProblem) (values seen x y : List ℤ) (size : ℕ) (e : Ending) → Product output s values seen x y size → EndsIn (ProductOf s y) e →
    EndsIn (ProductTexts output values s) e
product_ends output s values seen x y size e p h =
    ends_next (FittedTo s.given.dofs.size (2 ^ 20) values) _ x e (fits_here output s values seen x y size p) (ends_first (ProductOf s x) (ProductText output) e (subst (λ list. EndsIn (ProductOf s list) e) p.same h))

pub product_goes : (output : Output) (s : MeshProblem) (values seen x y : List ℤ) (size : ℕ) (list written : List ℤ) (targets : List Target) → Product output s values seen x y size →
    ProductOf s y (Ok list) → written ≡ list → targets ≡ first_target output (vector_text written) ∷ [] → ProductTexts output values s (Ok targets)
product_goes output s values seen x y size list written targets p h same is =
    goes_well (FittedTo s.given.dofs.size (2 ^ 20) values) _ x targets (fits_here output s values seen x y size p)
    (goes_well (ProductOf s x) (ProductText output) list targets (subst (λ xs. ProductOf s xs (Ok list)) p.same h)
    (ap Ok (is ∙ ap (λ xs. first_target output (vector_text xs) ∷ []) same)))

-- the marks

pub many_dofs : (forest : RefinedMesh) (dofs : Numbering) → IsNumberingOf forest dofs → dofs.degree ≡ 1 → dofs.size ≡ dof_count 1 forest
many_dofs forest dofs numbered degree = numbered.size ∙ ap (λ degree. different same_name (name_list degree forest)) degree

pub is_function : (forest : RefinedMesh) (dofs : Numbering) (size : ℕ) (values x y : List ℤ) → IsNumberingOf forest dofs → dofs.degree ≡ 1 → size ≡ dofs.size → FittedTo size (2 ^ 31) values (Ok x) →
    y ≡ x → IsFunctionOn forest dofs y
is_function forest dofs size values x y numbered degree is fits same =
    let of_values : y ≡ values = same ∙ fits.0 in
    record {
      numbered = numbered;
      degree = degree;
      count = ap length of_values ∙ fits.1.as_many ∙ is;
      small = subst (λ list. All (λ value. unsigned_abs value ≤ 2 ^ 31) list) (sym of_values) fits.1.small;
    }

told_many : (faults : List (ℕ × LocalFault)) (list etas : List ℕ) → unless_fault faults list ≡ Ok etas → length etas ≡ length list
told_many [] list etas is = (let e : list ≡ etas = cc in sym (ap length e))
told_many (fault ∷ faults) list etas is = cc

pub few_etas : (forest : RefinedMesh) (dofs : Numbering) (x : List ℤ) (list : List ℕ) (n : ℕ) → n ≡ length forest.cells → n ≤ 2 ^ 20 → indicators_of forest dofs x ≡ Ok list → length list ≤ 2 ^ 20
unfolding indicators_at
few_etas forest dofs x list n is few told =
    let many = told_many (flat_map (cell_faults forest) (range_with_len 0 (length forest.cells))) _ list told ∙ length-map-range_with_len (eta forest dofs x) 0 (length forest.cells) in
    omega (arith, many, is, few)

pub indicators_fault_ends : (forest : RefinedMesh) (dofs : Numbering) (x : List ℤ) (fault : IndicatorFault) (e : Ending) → IsFunctionOn forest dofs x → IsFaultOf (indicators_of forest dofs x) fault →
    e ≡ of_indicators fault → EndsIn (Indicated forest x) e
indicators_fault_ends forest dofs x (indicator_faults.Local cell fault) e function fails is =
    subst (EndsIn (Indicated forest x)) (sym is) (dofs, function, (indicator_faults.Local cell fault, fails, refl))
indicators_fault_ends forest dofs x indicator_faults.NoMemory e function fails is = subst (EndsIn (Indicated forest x)) (sym is) tt

pub record Marking (forest : RefinedMesh) (values seen x y : List ℤ) (size : ℕ) : Type 0 where
  pub size_is : size ≡ dof_count 1 forest
  pub seen_is : seen ≡ values
  pub fits : FittedTo size (2 ^ 31) seen (Ok x)
  pub same : y ≡ x

fits_there : (forest : RefinedMesh) (values seen x y : List ℤ) (size : ℕ) → Marking forest values seen x y size → FittedTo (dof_count 1 forest) (2 ^ 31) values (Ok x)
fits_there forest values seen x y size p =
    subst (λ n. FittedTo n (2 ^ 31) values (Ok x)) p.size_is (subst (λ list. FittedTo size (2 ^ 31) list (Ok x)) p.seen_is p.fits)

pub vector_ends_marks : (count : ℕ) (forest : RefinedMesh) (values seen : List ℤ) (size : ℕ) (e : Ending) → size ≡ dof_count 1 forest → seen ≡ values → EndsIn (FittedTo size (2 ^ 31) seen) e →
    EndsIn (MarkedOn count values forest) e
vector_ends_marks count forest values seen size e size_is seen_is h =
    ends_first _ _ e (subst (λ n. EndsIn (FittedTo n (2 ^ 31) values) e) size_is (subst (λ list. EndsIn (FittedTo size (2 ^ 31) list) e) seen_is h))

pub marks_end : (count : ℕ) (forest : RefinedMesh) (values seen x y : List ℤ) (size : ℕ) (e : Ending) → Marking forest values seen x y size → EndsIn (Indicated forest y) e →
    EndsIn (MarkedOn count values forest) e
marks_end count forest values seen x y size e p h =
    ends_next (FittedTo (dof_count 1 forest) (2 ^ 31) values) _ x e (fits_there forest values seen x y size p)
    (ends_first (Indicated forest x) (MarkedBy count) e (subst (λ list. EndsIn (Indicated forest list) e) p.same h))

pub marks_go : (count : ℕ) (forest : RefinedMesh) (values seen x y : List ℤ) (size : ℕ) (etas sorted cells : List ℕ) → Marking forest values seen x y size → Indicated forest y (Ok etas) →
    sorted ≡ etas → AreMarked sorted count cells → MarkedOn count values forest (Ok (etas, cells))
marks_go count forest values seen x y size etas sorted cells p h same marked =
    goes_well (FittedTo (dof_count 1 forest) (2 ^ 31) values) _ x (etas, cells) (fits_there forest values seen x y size p)
    (goes_well (Indicated forest x) (MarkedBy count) etas (etas, cells) (subst (λ list. Indicated forest list (Ok etas)) p.same h)
    (refl, subst (λ list. AreMarked list count cells) same marked))
