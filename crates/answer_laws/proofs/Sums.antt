-- One system has one sum in the order of a mode.
use Rattle.std.proofs.Common.{◌≡◌, ◌∙◌, sym, ap, refl, subst, ℕ, List, map}
use mathlib.Core.Path.{fun_ext}
use Rattle.std.specs.Prelude.{Some, None, Ok, Err}
use Rattle.std.specs.declared.result.Result.{Result}
use Rattle.fem_text.proofs.OneReading.{ok_same, err_same, ok_err}
use Rattle.conflict_coloring.specs.Coloring.{Coloring, IsColoring}
use Rattle.conflict_coloring.specs.Laws.{HaveOneColoring}
use Rattle.serial_sum.specs.SerialSum.{SumIs}
use Rattle.serial_sum.specs.Steps.{FaultIs, failure_fault}
use Rattle.serial_sum.specs.Parts.{CellPart}
use Rattle.serial_sum.specs.declared.sum.AssembleFault.{AssembleFault}
use Rattle.serial_sum.specs.declared.sum.AssembleFault.TheVariants as faults
use Rattle.serial_sum.specs.declared.sum.Failure.{Failure}
use Rattle.serial_sum.specs.declared.sum.Failure.TheVariants.{Local, Sum}
use Rattle.sparsity.specs.declared.rows.Row.{Row}
use Rattle.mesh_loop.specs.Setup.{MeshProblem, cells_of, pattern_of, written_rows}
use Rattle.mesh_loop.specs.Sum.{parts_of}
use Rattle.run_words.specs.declared.options.SystemMode.{SystemMode}
use Rattle.run_words.specs.declared.options.SystemMode.TheVariants as modes
use Rattle.diagnostics.specs.declared.refusal.Refusal.{Refusal}
use Rattle.diagnostics.specs.declared.ending.Ending.{Ending}
use Rattle.diagnostics.specs.declared.ending.Ending.TheVariants.{Refused, NoMemory}
use Rattle.system_texts.specs.Endings.{of_sum}
use Rattle.diagnostics.specs.Stages.{Says}
use Rattle.system_texts.specs.Sums.{IsColoringOf, IsOrderOf, SummedIn, SummedBy, HasNoSums, Summed}
use Rattle.system_laws.specs.Same.{IsSameSystem}
use Rattle.answer_laws.proofs.Steps.{Agree, one_said}

not_refused : {P : Type 0} (r : Refusal) → ◌≡◌ {A = Ending} NoMemory (Refused r) → P
not_refused r h = cc

-- a fault that has a refusal is a failure of the sum
told : (digits : ℕ) (pattern : List (List ℕ)) (parts : List CellPart) (fault : AssembleFault) (r : Refusal) → FaultIs digits pattern parts fault → of_sum fault ≡ Refused r →
    (failure : Failure) × SumIs digits pattern parts (Err failure) × (of_sum (failure_fault failure) ≡ Refused r)
told digits pattern parts (faults.Local cell fault) r h e = (Local cell fault, h, e)
told digits pattern parts (faults.Sum cell row) r h e = (Sum cell row, h, e)
told digits pattern parts faults.NoMemory r h e = not_refused r e

-- what a sum of these parts tells
abbrev Told : ℕ → List (List ℕ) → List CellPart → Result (List Row) Refusal → Type 0
Told digits pattern parts (Ok rows) = SumIs digits pattern parts (Ok rows)
Told digits pattern parts (Err r) = Says (λ (failure : Failure). of_sum (failure_fault failure)) (λ (failure : Failure). SumIs digits pattern parts (Err failure)) r

-- the parts of a system have one sum
abbrev pub HaveOneSum : Type 0
HaveOneSum = (digits : ℕ) (pattern : List (List ℕ)) (parts : List CellPart) (a b : Result (List Row) Failure) → SumIs digits pattern parts a → SumIs digits pattern parts b → a ≡ b

tells : (order : List ℕ) (digits : ℕ) (s : MeshProblem) (outcome : Result (List Row) Refusal) → SummedIn order digits s outcome → Told digits (pattern_of s) (parts_of s order) outcome
tells order digits s (Ok rows) h = h
tells order digits s (Err r) h = told digits (pattern_of s) (parts_of s order) h.0 r h.1 h.2

-- the rows that the cells write are the same
same_written : (s t : MeshProblem) → IsSameSystem s t → map (written_rows s) (cells_of s) ≡ map (written_rows t) (cells_of t)
same_written s t same = ap (λ (rows : ℕ → List ℕ). map rows (cells_of s)) (fun_ext same.rows) ∙ ap (map (written_rows t)) same.cells

-- a mode with an order has sums
has_sums : {P : Type 0} (mode : SystemMode) (s : MeshProblem) (order : List ℕ) → IsOrderOf mode s order → HasNoSums mode → P
has_sums modes.Serial s order h none = absurd none
has_sums modes.Ordered s order h none = absurd none
has_sums modes.Colored s order h none = absurd none
has_sums modes.Pattern s order h none = absurd h
has_sums modes.Colors s order h none = absurd h

-- Sums and colourings are one, as their laws say.
module _ (one_sum : HaveOneSum) (one_coloring : HaveOneColoring) where
  one_failure : (digits : ℕ) (pattern : List (List ℕ)) (parts : List CellPart) (f g : Failure) → SumIs digits pattern parts (Err f) → SumIs digits pattern parts (Err g) →
      of_sum (failure_fault f) ≡ of_sum (failure_fault g)
  one_failure digits pattern parts f g h k =
      ap (λ (failure : Failure). of_sum (failure_fault failure)) (err_same {A = List Row} f g (one_sum digits pattern parts (Err f) (Err g) h k))

  one_told : (digits : ℕ) (pattern : List (List ℕ)) (parts : List CellPart) → Agree (Told digits pattern parts) (Told digits pattern parts)
  one_told digits pattern parts (Ok a) (Ok b) h k = ap Ok (ok_same {K = Failure} a b (one_sum digits pattern parts (Ok a) (Ok b) h k))
  one_told digits pattern parts (Ok a) (Err q) h k = ok_err a k.0 (one_sum digits pattern parts (Ok a) (Err k.0) h k.1)
  one_told digits pattern parts (Err r) (Ok b) h k = ok_err b h.0 (one_sum digits pattern parts (Ok b) (Err h.0) k h.1)
  one_told digits pattern parts (Err r) (Err q) h k =
      ap Err (one_said (λ (failure : Failure). of_sum (failure_fault failure)) (λ (failure : Failure). SumIs digits pattern parts (Err failure)) (one_failure digits pattern parts) r q h k)

  one_summed_in : (order other : List ℕ) (digits : ℕ) (s t : MeshProblem) → IsSameSystem s t → order ≡ other → Agree (SummedIn order digits s) (SummedIn other digits t)
  one_summed_in order other digits s t same is a b h k =
      let parts : parts_of s order ≡ parts_of t other = same.in_order order ∙ ap (parts_of t) is in
      let P : List (List ℕ) → Type 0 = λ pattern. Told digits pattern (parts_of s order) a in
      let Q : List CellPart → Type 0 = λ list. Told digits (pattern_of t) list a in
      one_told digits (pattern_of t) (parts_of t other) a b (subst Q parts (subst P same.pattern (tells order digits s a h))) (tells other digits t b k)

  pub same_coloring : (s t : MeshProblem) → IsSameSystem s t → (c d : Coloring) → IsColoringOf s c → IsColoringOf t d → c ≡ d
  same_coloring s t same c d h k =
      let P : List (List ℕ) → Type 0 = λ rows. IsColoring rows c in
      one_coloring (map (written_rows t) (cells_of t)) c d (subst P (same_written s t same) h) k

  one_order : (mode : SystemMode) (s t : MeshProblem) → IsSameSystem s t → (order other : List ℕ) → IsOrderOf mode s order → IsOrderOf mode t other → order ≡ other
  one_order modes.Serial s t same order other h k = h ∙ same.cells ∙ sym k
  one_order modes.Ordered s t same order other h k = h ∙ same.cells ∙ sym k
  one_order modes.Colored s t same order other (c, is, e) (d, at, f) = e ∙ ap (λ (x : Coloring). x.order) (same_coloring s t same c d is at) ∙ sym f
  one_order modes.Pattern s t same order other h k = absurd h
  one_order modes.Colors s t same order other h k = absurd h

  one_summed_by : (mode : SystemMode) (digits : ℕ) (s t : MeshProblem) → IsSameSystem s t → Agree (SummedBy mode digits s) (SummedBy mode digits t)
  one_summed_by mode digits s t same a b (order, is, h) (other, at, k) =
      one_summed_in order other digits s t same (one_order mode s t same order other is at) a b h k

  pub one_summed : (mode : SystemMode) (digits : ℕ) (s t : MeshProblem) → IsSameSystem s t → Agree (Summed mode digits s) (Summed mode digits t)
  one_summed mode digits s t same (Ok (Some a)) (Ok (Some b)) h k =
      ap (λ (rows : List Row). Ok (Some rows)) (ok_same {K = Refusal} a b (one_summed_by mode digits s t same (Ok a) (Ok b) h k))
  one_summed mode digits s t same (Ok (Some a)) (Ok None) h k = has_sums mode s h.0 h.1 k
  one_summed mode digits s t same (Ok None) (Ok (Some b)) h k = has_sums mode t k.0 k.1 h
  one_summed mode digits s t same (Ok None) (Ok None) h k = refl
  one_summed mode digits s t same (Ok (Some a)) (Err q) h k = ok_err a q (one_summed_by mode digits s t same (Ok a) (Err q) h k)
  one_summed mode digits s t same (Ok None) (Err q) h k = has_sums mode t k.0 k.1 h
  one_summed mode digits s t same (Err r) (Ok (Some b)) h k = ok_err b r (sym (one_summed_by mode digits s t same (Err r) (Ok b) h k))
  one_summed mode digits s t same (Err r) (Ok None) h k = has_sums mode s h.0 h.1 k
  one_summed mode digits s t same (Err r) (Err q) h k = ap Err (err_same {A = List Row} r q (one_summed_by mode digits s t same (Err r) (Err q) h k))
