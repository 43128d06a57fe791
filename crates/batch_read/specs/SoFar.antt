-- What the reader holds of the lines that it took.
use Rattle.std.specs.Prelude.{◌≡◌, ◌≤◌, ℕ, List, ◌++◌, map, length, All, MatchOption}
use Rattle.std.specs.declared.option.Option.{Option}
use Rattle.fem_text.specs.WordLines.{Line, Lines}
use Rattle.batch_read.specs.Batch.{words_on, AreTexts, IsJob}

-- the first lines are these jobs, and the rest is left
pub record HoldsSoFar (lines : List Line) (jobs : List (List (List ℕ))) (rest : Lines) : Type 0 where
  pub front : List Line
  pub lines_are : lines ≡ front ++ rest.ahead
  pub jobs_are : jobs ≡ map words_on front
  pub each : All (λ words. IsJob words) jobs
  pub few : length jobs ≤ 65536

-- the first words are these texts, and the rest is left
pub record HoldsTexts (words texts left : List (List ℕ)) : Type 0 where
  pub words_are : words ≡ texts ++ left
  pub each : AreTexts texts

-- the job of the words, or there is none
abbrev pub IsJobOf : List (List ℕ) → Option (List (List ℕ)) → Type 0
IsJobOf words found = MatchOption found (IsJob words → ⊥) (λ job. (job ≡ words) × IsJob words)
