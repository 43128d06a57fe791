-- A system has texts, or a refusal.
use Rattle.std.proofs.Common.{refl, ℕ, List, [], ◌∷◌, map}
use Rattle.std.specs.Prelude.{Some, None, Ok, Err}
use Rattle.std.specs.declared.option.Option.{Option}
use Rattle.std.specs.declared.result.Result.{Result}
use Rattle.conflict_coloring.specs.Laws.{HaveAColoring}
use Rattle.serial_sum.specs.SerialSum.{SumIs}
use Rattle.serial_sum.specs.Parts.{CellPart}
use Rattle.serial_sum.specs.declared.sum.AssembleFault.TheVariants as faults
use Rattle.serial_sum.specs.declared.sum.Failure.{Failure}
use Rattle.serial_sum.specs.declared.sum.Failure.TheVariants.{Local, Sum}
use Rattle.sparsity.specs.declared.rows.Row.{Row}
use Rattle.matrix_market.specs.Texts.{pattern_text}
use Rattle.color_texts.specs.Text.{colors_text}
use Rattle.mesh_loop.specs.Setup.{MeshProblem, cells_of, pattern_of, written_rows}
use Rattle.mesh_loop.specs.Sum.{parts_of}
use Rattle.run_words.specs.declared.options.SystemMode.{SystemMode}
use Rattle.run_words.specs.declared.options.SystemMode.TheVariants as modes
use Rattle.run_words.specs.Choice.{Choice, Output}
use Rattle.diagnostics.specs.declared.refusal.Refusal.TheVariants as refusals
use Rattle.system_texts.specs.Endings.{of_local}
use Rattle.system_texts.specs.Sums.{IsOrderOf, SummedIn, Summed}
use Rattle.system_texts.specs.Texts.{sum_targets, TextsOf, SystemTexts}
use Rattle.run_outputs.specs.Targets.{first_target}
use Rattle.answer_laws.proofs.Steps.{HasAnOutcome, some_after}

summed_in : (order : List ℕ) (digits : ℕ) (s : MeshProblem) (sum : Result (List Row) Failure) → SumIs digits (pattern_of s) (parts_of s order) sum → HasAnOutcome (SummedIn order digits s)
summed_in order digits s (Ok rows) is = (Ok rows, is)
summed_in order digits s (Err (Local cell fault)) is = (Err (refusals.Local cell (of_local fault)), (faults.Local cell fault, is, refl))
summed_in order digits s (Err (Sum cell row)) is = (Err (refusals.Sum cell row), (faults.Sum cell row, is, refl))

-- sums in this order are those of the mode
summed : (mode : SystemMode) (digits : ℕ) (s : MeshProblem) (order : List ℕ) → IsOrderOf mode s order → HasAnOutcome (SummedIn order digits s) → HasAnOutcome (Summed mode digits s)
summed mode digits s order is (Ok rows, sum) = (Ok (Some rows), (order, is, sum))
summed mode digits s order is (Err refusal, sum) = (Err refusal, (order, is, sum))

-- Each list of parts has a sum and each list of cells a colouring, as their laws say.
module _ (some_sum : (digits : ℕ) (pattern : List (List ℕ)) (parts : List CellPart) → (a : Result (List Row) Failure) × SumIs digits pattern parts a)
    (some_coloring : HaveAColoring) where
  some_texts_of : (mode : SystemMode) (output : Output) (s : MeshProblem) → (rows : Option (List Row)) (digits : ℕ) → Summed mode digits s (Ok rows) → HasAnOutcome (TextsOf mode output s rows)
  some_texts_of mode output s (Some rows) digits is = (Ok (sum_targets output s rows), refl)
  some_texts_of modes.Pattern output s None digits is = (Ok (first_target output (pattern_text (pattern_of s)) ∷ []), (pattern_text (pattern_of s), refl, refl))
  some_texts_of modes.Colors output s None digits is =
      let coloring = some_coloring (map (written_rows s) (cells_of s)) in
      (Ok (first_target output (colors_text coloring.0) ∷ []), (colors_text coloring.0, (coloring.0, coloring.1, refl), refl))
  some_texts_of modes.Serial output s None digits is = absurd is
  some_texts_of modes.Ordered output s None digits is = absurd is
  some_texts_of modes.Colored output s None digits is = absurd is

  some_summed_in : (order : List ℕ) (digits : ℕ) (s : MeshProblem) → HasAnOutcome (SummedIn order digits s)
  some_summed_in order digits s = (let sum = some_sum digits (pattern_of s) (parts_of s order) in summed_in order digits s sum.0 sum.1)

  some_summed : (mode : SystemMode) (digits : ℕ) (s : MeshProblem) → HasAnOutcome (Summed mode digits s)
  some_summed modes.Serial digits s = summed modes.Serial digits s (cells_of s) refl (some_summed_in (cells_of s) digits s)
  some_summed modes.Ordered digits s = summed modes.Ordered digits s (cells_of s) refl (some_summed_in (cells_of s) digits s)
  some_summed modes.Colored digits s =
      let coloring = some_coloring (map (written_rows s) (cells_of s)) in
      summed modes.Colored digits s coloring.0.order (coloring.0, coloring.1, refl) (some_summed_in coloring.0.order digits s)
  some_summed modes.Pattern digits s = (Ok None, tt)
  some_summed modes.Colors digits s = (Ok None, tt)

  pub some_system_texts : (mode : SystemMode) (choice : Choice) (s : MeshProblem) → HasAnOutcome (SystemTexts mode choice s)
  some_system_texts mode choice s =
      some_after (Summed mode choice.digits s) (TextsOf mode choice.output s) (some_summed mode choice.digits s) (λ rows is. some_texts_of mode choice.output s rows choice.digits is)
