-- The texts of several names, each name once.
use Rattle.std.specs.Prelude.{◌≡◌, ◌≤◌, ℕ, List, [], ◌∷◌, ◌++◌, map, fold, length, All, Some, IfSome, if◌then◌else◌}
use Rattle.std.specs.declared.option.Option.{Option}
use Rattle.std.specs.List.{list_any}
use Rattle.std.specs.Str.{bytes_eq}
use Rattle.fem_text.specs.declared.counts.Counts.{Counts}
use Rattle.fem_text.specs.Counts.{after_call, after_good}
use Rattle.fem_text.specs.Outside.{Held}
use Rattle.fem_text.specs.Memory.{Named}
use Rattle.batch_texts.specs.declared.shelf.NameFault.{NameFault}
use Rattle.batch_texts.specs.declared.gather.JobName.{JobName}
use Rattle.batch_texts.specs.Shelf.{size_limit, size_of, IsNameFault, is_failed}

-- the names of texts
abbrev pub names_of : Named → List (List ℕ)
names_of texts = map (λ text. text.0) texts

-- names in the order in which they come first: each is left out where it stands before
abbrev pub with_name : List (List ℕ) → List ℕ → List (List ℕ)
with_name names name = if list_any (bytes_eq name) names then names else names ++ name ∷ []

abbrev pub with_names : List (List ℕ) → List (List ℕ) → List (List ℕ)
with_names names more = fold with_name names more

-- this text stands under this name, where the store tells that
abbrev pub StandsIn : Option Held → List ℕ × List ℕ → Type 0
StandsIn holds text = IfSome holds (λ held. held text.0 ≡ Some text.1)

-- these are the texts of these names, each name once, in the order in which the names come first; all together are within the limit
pub record AreTextsOf (holds : Option Held) (names : List (List ℕ)) (texts : Named) : Type 0 where
  pub names_are : names_of texts ≡ with_names [] names
  pub stand : All (StandsIn holds) texts
  pub few : size_of texts ≤ size_limit

-- the texts of these names are added behind others, those that were there already left out, each by one good read
pub record ShelvesNames (holds : Option Held) (names : List (List ℕ)) (old new : Named) (before now : Counts) : Type 0 where
  pub added : Named
  pub new_is : new ≡ old ++ added
  pub names_are : names_of new ≡ with_names (names_of old) names
  pub stand : All (StandsIn holds) added
  pub few : size_of old ≤ size_limit → size_of new ≤ size_limit
  pub reads : now ≡ after_good (length added) before

-- a read: the number of its job, and its name
abbrev pub seen_name : JobName → ℕ × List ℕ
seen_name read = (read.job, read.name.now)

-- the names of reads
abbrev pub read_names : List (ℕ × List ℕ) → List (List ℕ)
read_names reads = map (λ read. read.1) reads

-- at a read of this job, behind others whose texts are added, the name has no text for this cause
pub record StopsAtJob (holds : Option Held) (reads : List (ℕ × List ℕ)) (old new : Named) (before now : Counts) (job : ℕ) (fault : NameFault) : Type 0 where
  pub front : List (ℕ × List ℕ)
  pub name : List ℕ
  pub behind : List (ℕ × List ℕ)
  pub reads_are : reads ≡ front ++ (job, name) ∷ behind
  pub reached : Counts
  pub shelves : ShelvesNames holds (read_names front) old new before reached
  pub cause : IsNameFault holds name new fault
  pub read : now ≡ after_call (is_failed fault) reached
