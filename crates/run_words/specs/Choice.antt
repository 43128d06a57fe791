-- What the words ask for.
use Rattle.std.specs.Prelude.{ℕ, ◌*◌, List, [], Bool, true, false, codes, unwrap_or, if◌then◌else◌, Some, None}
use Rattle.std.specs.declared.option.Option.{Option}
use Rattle.std.specs.Option.{option_map, option_copied}
use Rattle.std.specs.Str.{bytes_eq}
use Rattle.fem_fixed.specs.Numbers.{digits_value}
use Rattle.run_words.specs.declared.name.Name.TheVariants as names
use Rattle.run_words.specs.declared.mode.ModeName.{ModeName}
use Rattle.run_words.specs.declared.mode.ModeName.TheVariants as names_of_modes
use Rattle.run_words.specs.declared.options.Mode as rust_mode
use Rattle.run_words.specs.declared.options.Mode.TheVariants as modes
use Rattle.run_words.specs.declared.options.SystemMode.{SystemMode}
use Rattle.run_words.specs.declared.options.SystemMode.TheVariants as systems
use Rattle.run_words.specs.declared.options.VectorTask.{VectorTask}
use Rattle.run_words.specs.declared.options.VectorTask.TheVariants as tasks
use Rattle.run_words.specs.declared.options.Format.{Format}
use Rattle.run_words.specs.declared.options.Format.TheVariants as formats
use Rattle.run_words.specs.declared.options.Faces.{Faces}
use Rattle.run_words.specs.declared.options.Faces.TheVariants as faces
use Rattle.run_words.specs.declared.options.Plan.{Plan}
use Rattle.run_words.specs.declared.options.Subdomain.{Subdomain}
use Rattle.run_words.specs.declared.switch.Switch.TheVariants as switches
use Rattle.run_words.specs.declared.options.Source as rust_source
use Rattle.run_words.specs.declared.options.Source.TheVariants as sources
use Rattle.run_words.specs.declared.options.Destination as rust_destination
use Rattle.run_words.specs.declared.options.Destination.TheVariants as destinations
use Rattle.run_words.specs.declared.options.Output as rust_output
use Rattle.run_words.specs.declared.options.Output.TheVariants as outputs
use Rattle.run_words.specs.declared.options.Options as rust_options
use Rattle.run_words.specs.Settings.{Given}
use Rattle.run_words.specs.Values.{mode_of, format_of, faces_of}

-- what a run makes: texts of the system, the text of the mesh, or what is made of the vector under a name
pub data Mode : Type 0 where
  of_system : SystemMode → Mode
  of_mesh : Mode
  of_vector : List ℕ → VectorTask → Mode

-- the name of the vector, where the mode has one
abbrev pub vector_in : Mode → Option (List ℕ)
vector_in (of_system mode) = None
vector_in of_mesh = None
vector_in (of_vector name task) = Some name

-- the greatest degree that a mode has: what is marked is marked by the jumps of degree 1
abbrev pub greatest_degree : Mode → ℕ
greatest_degree (of_system mode) = 2
greatest_degree of_mesh = 2
greatest_degree (of_vector name tasks.Product) = 2
greatest_degree (of_vector name (tasks.Marks n)) = 1
greatest_degree (of_vector name (tasks.Adapt n)) = 1

-- what is assembled: the mesh under a name, in a format, with the problem under another name, if any, or what is
-- generated for n cells in a row and a seed
pub data Source : Type 0 where
  texts : List ℕ → Format → Option (List ℕ) → Source
  generated : ℕ → ℕ → Source

-- the format of the mesh text of a source; what is generated is in UCD
abbrev pub source_format : Source → Format
source_format (texts mesh format problem) = format
source_format (generated n seed) = formats.Ucd

pub data Destination : Type 0 where
  standard : Destination
  named : List ℕ → Destination

-- what is written: the summary, or the matrix, pattern, colours, mesh, product or marks, and the right side where it has a
-- destination
pub data Output : Type 0 where
  summary : Output
  both : Destination → Option Destination → Output

pub record Choice : Type 0 where
  pub mode : Mode
  pub source : Source
  pub plan : Plan
  pub digits : ℕ
  pub degree : ℕ
  pub faces : Faces
  pub subdomain : Option Subdomain
  pub output : Output

-- the same, as the program has it

abbrev pub seen_mode : rust_mode.Mode → Mode
seen_mode (modes.System mode) = of_system mode
seen_mode modes.Mesh = of_mesh
seen_mode (modes.Vector name task) = of_vector name.now task

abbrev pub seen_source : rust_source.Source → Source
seen_source (sources.Texts mesh format problem) = texts mesh.now format (option_copied problem)
seen_source (sources.Generated n seed) = generated n seed

abbrev pub seen_destination : rust_destination.Destination → Destination
seen_destination destinations.Standard = standard
seen_destination (destinations.Named name) = named name.now

abbrev pub seen_output : rust_output.Output → Output
seen_output outputs.Summary = summary
seen_output (outputs.Texts matrix rhs) = both (seen_destination matrix) (option_map seen_destination rhs)

abbrev pub seen : rust_options.Options → Choice
seen options = record {
  mode = seen_mode options.mode;
  source = seen_source options.source;
  plan = options.plan;
  digits = options.digits;
  degree = options.degree;
  faces = options.faces;
  subdomain = options.subdomain;
  output = seen_output options.output;
}

-- the number of a value, or else the default
abbrev pub number_or : ℕ → Option (List ℕ) → ℕ
number_or default None = default
number_or default (Some word) = digits_value word

-- what a value names, or else the default
abbrev pub named_or : {X : Type 0} → X → (List ℕ → Option X) → Option (List ℕ) → X
named_or default find None = default
named_or default find (Some word) = unwrap_or (find word) default

-- there are twice as many places in the queue as workers, and as many scratch objects
abbrev pub plan_of : Given → Plan
plan_of given =
    let workers = number_or 4 (given.value names.Workers) in
    record {
      workers = workers;
      queue = number_or (2 * workers) (given.value names.Queue);
      chunk = number_or 8 (given.value names.Chunk);
      scratch = number_or workers (given.value names.Scratch);
    }

-- by the values of `--mesh`, `--problem`, `--generate` and `--seed`, and the format
abbrev pub source_of : Option (List ℕ) → Option (List ℕ) → Option (List ℕ) → Option (List ℕ) → Format → Source
source_of mesh problem None seed format = texts (unwrap_or mesh []) format problem
source_of mesh problem (Some cells) seed format = generated (digits_value cells) (number_or 0 seed)

abbrev pub destination_of : List ℕ → Destination
destination_of name = if bytes_eq name (codes "-") then standard else named name

-- by the values of `--matrix` and `--rhs`, and whether `--summary` stands
abbrev pub output_of : Option (List ℕ) → Option (List ℕ) → Bool → Output
output_of matrix rhs true = summary
output_of matrix rhs false = both (unwrap_or (option_map destination_of matrix) standard) (option_map destination_of rhs)

-- by the values of `--subdomain` and `--ghost`, and whether `--ghost-cells` stands
abbrev pub subdomain_of : Option (List ℕ) → Option (List ℕ) → Bool → Option Subdomain
subdomain_of None parts cells = None
subdomain_of (Some id) parts cells = Some (record { id = digits_value id; ghost_parts = named_or faces.None faces_of parts; ghost_cells = cells })

abbrev pub mode_name_in : Given → ModeName
mode_name_in given = named_or (names_of_modes.System systems.Serial) mode_of (given.value names.Mode)

-- by the name of the mode and the values of `--vector` and `--mark`
abbrev pub mode_from : ModeName → Option (List ℕ) → Option (List ℕ) → Mode
mode_from (names_of_modes.System mode) vector mark = of_system mode
mode_from names_of_modes.Mesh vector mark = of_mesh
mode_from names_of_modes.Product vector mark = of_vector (unwrap_or vector []) tasks.Product
mode_from names_of_modes.Marks vector mark = of_vector (unwrap_or vector []) (tasks.Marks (number_or 1 mark))
mode_from names_of_modes.Adapt vector mark = of_vector (unwrap_or vector []) (tasks.Adapt (number_or 1 mark))

abbrev pub mode_in : Given → Mode
mode_in given = mode_from (mode_name_in given) (given.value names.Vector) (given.value names.Mark)

abbrev pub format_in : Given → Format
format_in given = named_or formats.Ucd format_of (given.value names.Format)

abbrev pub degree_in : Given → ℕ
degree_in given = number_or 1 (given.value names.Degree)

-- what is asked for, with the defaults of the options that do not stand
abbrev pub chosen : Given → Choice
chosen given = record {
  mode = mode_in given;
  source = source_of (given.value names.Mesh) (given.value names.Problem) (given.value names.Generate) (given.value names.Seed) (format_in given);
  plan = plan_of given;
  digits = number_or 0 (given.value names.Digits);
  degree = degree_in given;
  faces = named_or faces.None faces_of (given.value names.Faces);
  subdomain = subdomain_of (given.value names.Subdomain) (given.value names.Ghost) (given.stands switches.GhostCells);
  output = output_of (given.value names.Matrix) (given.value names.Rhs) (given.stands switches.Summary);
}
