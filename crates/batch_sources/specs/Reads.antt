-- What the jobs of a batch ask for, and which texts they read.
use Rattle.std.specs.Prelude.{◌≡◌, ℕ, suc, List, [], ◌∷◌, ◌++◌, map, Some, None}
use Rattle.run_words.specs.Choice.{Choice, Source, texts, generated}
use Rattle.run_words.specs.Jobs.{AskForJob}

-- what each of the jobs asks for
abbrev pub AskForAll : List (List (List ℕ)) → List Choice → Type 0
AskForAll [] [] = Unit {0}
AskForAll (words ∷ jobs) (choice ∷ choices) = AskForJob words choice × AskForAll jobs choices
AskForAll [] (choice ∷ choices) = ⊥
AskForAll (words ∷ jobs) [] = ⊥

-- the names of the texts of a source: the mesh, and then the problem
abbrev pub source_names : Source → List (List ℕ)
source_names (texts mesh format None) = mesh ∷ []
source_names (texts mesh format (Some problem)) = mesh ∷ problem ∷ []
source_names (generated n seed) = []

-- the reads of a job: its number, with each of these names
abbrev pub source_reads : ℕ → Source → List (ℕ × List ℕ)
source_reads job source = map (λ name. (job, name)) (source_names source)

-- the reads of jobs that are numbered from here on, in the order of the work
abbrev pub reads_from : ℕ → List Choice → List (ℕ × List ℕ)
reads_from job [] = []
reads_from job (choice ∷ choices) = source_reads job choice.source ++ reads_from (suc job) choices

abbrev pub job_reads : List Choice → List (ℕ × List ℕ)
job_reads choices = reads_from 0 choices

-- these are the reads of what the jobs ask for
abbrev pub AreReads : List (List (List ℕ)) → List (ℕ × List ℕ) → Type 0
AreReads jobs reads = (choices : List Choice) × AskForAll jobs choices × (reads ≡ job_reads choices)
