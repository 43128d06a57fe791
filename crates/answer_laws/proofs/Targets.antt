-- One system has one list of texts.
use Rattle.std.proofs.Common.{◌≡◌, ◌∙◌, sym, ap, ℕ, List, [], ◌∷◌, length}
use Rattle.std.specs.Prelude.{Some, None, Ok, Err}
use Rattle.std.specs.declared.option.Option.{Option}
use Rattle.conflict_coloring.specs.Laws.{HaveOneColoring}
use Rattle.sparsity.specs.declared.rows.Row.{Row}
use Rattle.matrix_market.specs.Entries.{values_of, right_sides}
use Rattle.matrix_market.specs.Texts.{matrix_text, pattern_text}
use Rattle.run_summary.specs.Summary.{summary_text}
use Rattle.color_texts.specs.Text.{colors_text}
use Rattle.mesh_loop.specs.Setup.{MeshProblem}
use Rattle.run_words.specs.declared.options.SystemMode.{SystemMode}
use Rattle.run_words.specs.declared.options.SystemMode.TheVariants as modes
use Rattle.run_words.specs.Choice.{Output, summary, both}
use Rattle.run_outputs.specs.Targets.{Target, first_target}
use Rattle.system_texts.specs.Sums.{Summed}
use Rattle.system_texts.specs.Texts.{right_side_target, matrix_of, summary_of, sum_targets, IsPlainText, AreTargets, TextsOf}
use Rattle.system_laws.specs.Same.{IsSameSystem}
use Rattle.answer_laws.specs.Parts.{HaveOneListOfTexts}
use Rattle.answer_laws.proofs.Steps.{Agree, one_after}
use Rattle.answer_laws.proofs.Sums.{HaveOneSum, same_coloring, one_summed}

same_matrix : (s t : MeshProblem) → IsSameSystem s t → (rows : List Row) → matrix_of s rows ≡ matrix_of t rows
same_matrix s t same rows = λ i. matrix_text (same.pattern i) (values_of rows)

same_summary : (s t : MeshProblem) → IsSameSystem s t → (rows : List Row) → summary_of s rows ≡ summary_of t rows
same_summary s t same rows = λ i. summary_text (length (same.cells i)) (same.pattern i) (values_of rows) (right_sides rows)

same_sum_targets : (output : Output) (s t : MeshProblem) → IsSameSystem s t → (rows : List Row) → sum_targets output s rows ≡ sum_targets output t rows
same_sum_targets summary s t same rows = ap (λ (text : List ℕ). first_target summary text ∷ []) (same_summary s t same rows)
same_sum_targets (both matrix None) s t same rows = ap (λ (text : List ℕ). first_target (both matrix None) text ∷ []) (same_matrix s t same rows)
same_sum_targets (both matrix (Some right_side)) s t same rows =
    ap (λ (text : List ℕ). first_target (both matrix (Some right_side)) text ∷ right_side_target right_side rows ∷ []) (same_matrix s t same rows)

-- Sums and colourings are one, as their laws say.
module _ (one_sum : HaveOneSum) (one_coloring : HaveOneColoring) where
  one_plain : (mode : SystemMode) (s t : MeshProblem) → IsSameSystem s t → (x y : List ℕ) → IsPlainText mode s x → IsPlainText mode t y → x ≡ y
  one_plain modes.Colors s t same x y (c, is, e) (d, at, f) = e ∙ ap colors_text (same_coloring one_sum one_coloring s t same c d is at) ∙ sym f
  one_plain modes.Pattern s t same x y h k = h ∙ ap pattern_text same.pattern ∙ sym k
  one_plain modes.Serial s t same x y h k = absurd h
  one_plain modes.Ordered s t same x y h k = absurd h
  one_plain modes.Colored s t same x y h k = absurd h

  one_targets : (mode : SystemMode) (output : Output) (s t : MeshProblem) → IsSameSystem s t → (rows : Option (List Row)) (x y : List Target) →
      AreTargets mode output s rows x → AreTargets mode output t rows y → x ≡ y
  one_targets mode output s t same (Some rows) x y h k = h ∙ same_sum_targets output s t same rows ∙ sym k
  one_targets mode output s t same None x y (a, is, e) (b, at, f) = e ∙ ap (λ (text : List ℕ). first_target output text ∷ []) (one_plain mode s t same a b is at) ∙ sym f

  one_texts_of : (mode : SystemMode) (output : Output) (s t : MeshProblem) → IsSameSystem s t → (rows : Option (List Row)) → Agree (TextsOf mode output s rows) (TextsOf mode output t rows)
  one_texts_of mode output s t same rows (Ok x) (Ok y) h k = ap Ok (one_targets mode output s t same rows x y h k)
  one_texts_of mode output s t same rows (Ok x) (Err q) h k = absurd k
  one_texts_of mode output s t same rows (Err r) b h k = absurd h

  pub one_system_texts : HaveOneListOfTexts
  one_system_texts mode choice s t same =
      one_after (Summed mode choice.digits s) (Summed mode choice.digits t) (TextsOf mode choice.output s) (TextsOf mode choice.output t)
      (one_summed one_sum one_coloring mode choice.digits s t same) (λ rows is. one_texts_of mode choice.output s t same rows)
