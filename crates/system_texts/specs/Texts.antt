-- The texts of a system that are written, and where.
use Rattle.std.specs.Prelude.{◌≡◌, ℕ, List, [], ◌∷◌, length, Some, None, Ok, Err}
use Rattle.std.specs.declared.option.Option.{Option}
use Rattle.std.specs.declared.result.Result.{Result}
use Rattle.conflict_coloring.specs.Coloring.{Coloring}
use Rattle.sparsity.specs.declared.rows.Row.{Row}
use Rattle.matrix_market.specs.Entries.{values_of, right_sides}
use Rattle.matrix_market.specs.Texts.{matrix_text, vector_text, pattern_text}
use Rattle.run_summary.specs.Summary.{summary_text}
use Rattle.color_texts.specs.Text.{colors_text}
use Rattle.mesh_loop.specs.Setup.{MeshProblem, cells_of, pattern_of}
use Rattle.run_words.specs.declared.options.SystemMode.{SystemMode}
use Rattle.run_words.specs.declared.options.SystemMode.TheVariants as modes
use Rattle.run_words.specs.Choice.{Choice, Destination, Output, summary, both}
use Rattle.diagnostics.specs.declared.refusal.Refusal.{Refusal}
use Rattle.diagnostics.specs.declared.ending.Output.TheVariants.{RightSide}
use Rattle.diagnostics.specs.Stages.{Then}
use Rattle.run_outputs.specs.Targets.{Target, first_target}
use Rattle.system_texts.specs.Sums.{IsColoringOf, Summed}

abbrev pub right_side_target : Destination → List Row → Target
right_side_target destination rows = record { output = RightSide; destination = destination; text = vector_text (right_sides rows) }

abbrev pub matrix_of : MeshProblem → List Row → List ℕ
matrix_of s rows = matrix_text (pattern_of s) (values_of rows)

abbrev pub summary_of : MeshProblem → List Row → List ℕ
summary_of s rows = summary_text (length (cells_of s)) (pattern_of s) (values_of rows) (right_sides rows)

-- the texts of the sums: the summary, or the matrix and then the right side, where it is asked for
abbrev pub sum_targets : Output → MeshProblem → List Row → List Target
sum_targets summary s rows = first_target summary (summary_of s rows) ∷ []
sum_targets (both matrix None) s rows = first_target (both matrix None) (matrix_of s rows) ∷ []
sum_targets (both matrix (Some right_side)) s rows =
    first_target (both matrix (Some right_side)) (matrix_of s rows) ∷ right_side_target right_side rows ∷ []

-- the text where there are no sums: of the colours of the cells, or of the pattern
abbrev pub IsPlainText : SystemMode → MeshProblem → List ℕ → Type 0
IsPlainText modes.Colors s text = (c : Coloring) × IsColoringOf s c × (text ≡ colors_text c)
IsPlainText modes.Pattern s text = text ≡ pattern_text (pattern_of s)
IsPlainText modes.Serial s text = ⊥
IsPlainText modes.Ordered s text = ⊥
IsPlainText modes.Colored s text = ⊥

-- the texts of these sums, if there are any
abbrev pub AreTargets : SystemMode → Output → MeshProblem → Option (List Row) → List Target → Type 0
AreTargets mode output s (Some rows) targets = targets ≡ sum_targets output s rows
AreTargets mode output s None targets = (text : List ℕ) × IsPlainText mode s text × (targets ≡ first_target output text ∷ [])

abbrev pub TextsOf : SystemMode → Output → MeshProblem → Option (List Row) → Result (List Target) Refusal → Type 0
TextsOf mode output s rows (Ok targets) = AreTargets mode output s rows targets
TextsOf mode output s rows (Err refusal) = ⊥

-- the sums and then their texts
abbrev pub SystemTexts : SystemMode → Choice → MeshProblem → Result (List Target) Refusal → Type 0
SystemTexts mode choice s = Then (Summed mode choice.digits s) (TextsOf mode choice.output s)
