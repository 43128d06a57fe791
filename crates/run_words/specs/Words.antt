-- The words of the command line.
use Rattle.std.specs.Prelude.{◌≡◌, ◌≤◌, ℕ, List, ◌∷◌, ◌++◌, Bool, true, false, ◌&&◌, ◌||◌, not, is_some, codes, ◌⊎◌, [], Some, None}
use Rattle.std.specs.declared.option.Option.{Option}
use Rattle.std.specs.List.{flat_map}
use Rattle.std.specs.Str.{bytes_eq}
use Rattle.run_words.specs.declared.name.Name.{Name}
use Rattle.run_words.specs.declared.name.Name.TheVariants as names
use Rattle.run_words.specs.declared.switch.Switch.TheVariants as switches
use Rattle.run_words.specs.declared.mode.ModeName.{ModeName}
use Rattle.run_words.specs.declared.mode.ModeName.TheVariants as modes
use Rattle.run_words.specs.declared.options.SystemMode.TheVariants as systems
use Rattle.run_words.specs.declared.options.Format.{Format}
use Rattle.run_words.specs.declared.options.Format.TheVariants as formats
use Rattle.run_words.specs.Settings.{Setting, words_of, StandsOnce, Given, given_by}
use Rattle.run_words.specs.Values.{is_in_set}
use Rattle.run_words.specs.Choice.{Choice, greatest_degree, mode_name_in, mode_in, degree_in, format_in, chosen}

-- an option doesn't stand, or its value is in its set
abbrev pub passes : (List ℕ → Bool) → Option (List ℕ) → Bool
passes test None = true
passes test (Some value) = test value

abbrev pub AreInSets : Given → Type 0
AreInSets given = (name : Name) → passes (is_in_set name) (given.value name) ≡ true

-- the name is `-`
abbrev pub is_standard : Option (List ℕ) → Bool
is_standard None = false
is_standard (Some name) = bytes_eq name (codes "-")

-- the same name stands twice
abbrev pub are_same : Option (List ℕ) → Option (List ℕ) → Bool
are_same (Some name) (Some other) = bytes_eq name other
are_same _ _ = false

-- the modes that have sums, and so a right side and a summary
abbrev pub has_sums : ModeName → Bool
has_sums (modes.System systems.Serial) = true
has_sums (modes.System systems.Ordered) = true
has_sums (modes.System systems.Colored) = true
has_sums (modes.System systems.Pattern) = false
has_sums (modes.System systems.Colors) = false
has_sums modes.Mesh = false
has_sums modes.Product = false
has_sums modes.Marks = false
has_sums modes.Adapt = true

-- the modes that take marks
abbrev pub takes_mark : ModeName → Bool
takes_mark (modes.System mode) = false
takes_mark modes.Mesh = false
takes_mark modes.Product = false
takes_mark modes.Marks = true
takes_mark modes.Adapt = true

-- the modes that take a vector
abbrev pub takes_vector : ModeName → Bool
takes_vector (modes.System mode) = false
takes_vector modes.Mesh = false
takes_vector modes.Product = true
takes_vector modes.Marks = true
takes_vector modes.Adapt = true

abbrev pub is_msh : Format → Bool
is_msh formats.Ucd = false
is_msh formats.Msh = true

-- the rules between `--mesh`, `--problem`, `--generate`, `--seed` and the format
pub record SourceRules (mesh problem generate seed : Option (List ℕ)) (format : Format) : Type 0 where
  -- one of the mesh and the generator stands, and not both
  pub one_source : is_some mesh ≡ not (is_some generate)
  pub no_problem : (is_some problem && is_some generate) ≡ false
  pub no_seed : (is_some seed && not (is_some generate)) ≡ false
  -- standard input is read once
  pub one_input : (is_standard mesh && is_standard problem) ≡ false
  -- what is generated is in UCD
  pub no_format : (is_msh format && is_some generate) ≡ false

-- the rules between `--matrix`, `--rhs`, `--summary` and the mode
pub record OutputRules (matrix rhs : Option (List ℕ)) (summary sums : Bool) : Type 0 where
  -- no name is written twice
  pub two_names : (are_same matrix rhs && not (is_standard matrix)) ≡ false
  pub needs_sums : ((is_some rhs || summary) && not sums) ≡ false
  pub alone : (summary && (is_some matrix || is_some rhs)) ≡ false

-- of `--ghost` and `--ghost-cells`: what ghosts there are is told by the subdomain
abbrev pub SubdomainRule : Option (List ℕ) → Option (List ℕ) → Bool → Type 0
SubdomainRule subdomain parts cells = ((is_some parts || cells) && not (is_some subdomain)) ≡ false

-- the rules between the mode, `--vector`, `--mark`, `--mesh`, `--problem` and `--generate`
pub record VectorRules (name : ModeName) (vector mark mesh problem generate : Option (List ℕ)) : Type 0 where
  -- a vector stands where the mode takes one, and nowhere else
  pub taken : is_some vector ≡ takes_vector name
  pub no_marks : (is_some mark && not (takes_mark name)) ≡ false
  pub no_generator : (is_some vector && is_some generate) ≡ false
  -- standard input is read once
  pub one_input : (is_standard vector && (is_standard mesh || is_standard problem)) ≡ false

pub record KeepsRules (given : Given) : Type 0 where
  -- the words of a batch ask for no other run
  pub no_batch : is_some (given.value names.Batch) ≡ false
  pub source : SourceRules (given.value names.Mesh) (given.value names.Problem) (given.value names.Generate) (given.value names.Seed) (format_in given)
  pub output : OutputRules (given.value names.Matrix) (given.value names.Rhs) (given.stands switches.Summary) (has_sums (mode_name_in given))
  pub subdomain : SubdomainRule (given.value names.Subdomain) (given.value names.Ghost) (given.stands switches.GhostCells)
  pub degree : degree_in given ≤ greatest_degree (mode_in given)
  pub vector : VectorRules (mode_name_in given) (given.value names.Vector) (given.value names.Mark) (given.value names.Mesh) (given.value names.Problem) (given.value names.Generate)

-- the words ask for this: they are settings, no option stands twice, each value is in its set, the rules between
-- options are kept, and the choice is what the settings give
pub record AskFor (words : List (List ℕ)) (choice : Choice) : Type 0 where
  pub settings : List Setting
  pub words_are : words ≡ flat_map words_of settings
  pub once : StandsOnce settings
  pub in_sets : AreInSets (given_by settings)
  pub rules : KeepsRules (given_by settings)
  pub choice_is : choice ≡ chosen (given_by settings)

-- the words ask for nothing
abbrev pub AskForNothing : List (List ℕ) → Type 0
AskForNothing words = (choice : Choice) → AskFor words choice → ⊥

-- the words ask for something, or for nothing
abbrev pub AskForSomethingOrNothing : List (List ℕ) → Type 0
AskForSomethingOrNothing words = ((choice : Choice) × AskFor words choice) ⊎ AskForNothing words

-- these words stand in a row among the words
pub record StandInARow (row words : List (List ℕ)) : Type 0 where
  pub before : List (List ℕ)
  pub behind : List (List ℕ)
  pub words_are : words ≡ before ++ (row ++ behind)

-- the words name the mode `ordered`, in two words in a row or in one
abbrev pub NameOrdered : List (List ℕ) → Type 0
NameOrdered words = StandInARow (codes "--mode" ∷ codes "ordered" ∷ []) words ⊎ StandInARow (codes "--mode=ordered" ∷ []) words

-- the words name the option of a batch, by itself or with its value
abbrev pub NameBatch : List (List ℕ) → Type 0
NameBatch words = StandInARow (codes "--batch" ∷ []) words ⊎ ((value : List ℕ) × StandInARow ((codes "--batch=" ++ value) ∷ []) words)

-- the words name what may wait: the mode `ordered` or a batch
abbrev pub MayWait : List (List ℕ) → Type 0
MayWait words = NameOrdered words ⊎ NameBatch words
