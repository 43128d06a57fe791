-- The text of a batch: what its jobs come to, in their order.
use Rattle.std.specs.Prelude.{◌≡◌, ℕ, suc, List, [], ◌∷◌, ◌++◌, codes, decimal, map, slice_index_or}
use Rattle.std.specs.List.{concat}
use Rattle.fem_text.specs.Memory.{Named}
use Rattle.batch_answers.specs.Outcome.{JobOver, IsAnswer}

-- a job of a list, over texts
abbrev pub job_over : List (List (List ℕ)) → Named → ℕ → JobOver
job_over jobs texts job = record { words = slice_index_or jobs job []; texts = texts }

-- the line of a job with its number and its status, and behind it its text
abbrev pub part_of : ℕ → ℕ → List ℕ → List ℕ
part_of job status text = concat (codes "job " ∷ decimal job ∷ codes " status " ∷ decimal status ∷ codes "\n" ∷ text ∷ [])

-- a status and a text
pub record Outcome : Type 0 where
  pub status : ℕ
  pub text : List ℕ

-- the parts of outcomes that are numbered from here on
abbrev pub parts_from : ℕ → List Outcome → List ℕ
parts_from job [] = []
parts_from job (outcome ∷ outcomes) = part_of job outcome.status outcome.text ++ parts_from (suc job) outcomes

-- each job over its texts comes to its outcome
abbrev pub AreOutcomes : List JobOver → List Outcome → Type 0
AreOutcomes [] [] = Unit {0}
AreOutcomes (job ∷ jobs) (outcome ∷ outcomes) = IsAnswer job.words job.texts outcome.status outcome.text × AreOutcomes jobs outcomes
AreOutcomes [] (outcome ∷ outcomes) = ⊥
AreOutcomes (job ∷ jobs) [] = ⊥

-- the parts of what these come to, one behind the other
pub record IsOutputOf (jobs : List JobOver) (text : List ℕ) : Type 0 where
  pub outcomes : List Outcome
  pub are : AreOutcomes jobs outcomes
  pub text_is : text ≡ parts_from 0 outcomes

-- the text of a batch of these jobs over these texts
abbrev pub IsOutput : List (List (List ℕ)) → Named → List ℕ → Type 0
IsOutput jobs texts text = IsOutputOf (map (λ words. record { words = words; texts = texts }) jobs) text
