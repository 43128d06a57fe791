-- How values are read, one option after another.
use Rattle.std.specs.Prelude.{ℕ, ◌*◌, List, Bool, true, false, ◌&&◌, ◌||◌, not, is_some, codes, if◌then◌else◌, Some, None}
use Rattle.std.specs.declared.option.Option.{Option}
use Rattle.std.specs.Option.{option_map, option_and_then}
use Rattle.std.specs.Str.{bytes_eq}
use Rattle.fem_fixed.specs.Numbers.{digits_value, id_of}
use Rattle.run_words.specs.declared.name.Name.TheVariants as names
use Rattle.run_words.specs.declared.mode.ModeName.{ModeName}
use Rattle.run_words.specs.declared.mode.ModeName.TheVariants as modes
use Rattle.run_words.specs.declared.options.VectorTask.TheVariants as tasks
use Rattle.run_words.specs.declared.options.SystemMode.TheVariants as systems
use Rattle.run_words.specs.declared.options.Format.{Format}
use Rattle.run_words.specs.declared.options.Format.TheVariants as formats
use Rattle.run_words.specs.declared.options.Faces.TheVariants as faces
use Rattle.run_words.specs.declared.options.Plan.{Plan}
use Rattle.run_words.specs.declared.options.Subdomain.{Subdomain}
use Rattle.run_words.specs.declared.switch.Switch.TheVariants as switches
use Rattle.run_words.specs.Settings.{Given}
use Rattle.run_words.specs.Values.{is_name, is_number, is_number_within, mode_of, format_of, faces_of}
use Rattle.run_words.specs.Choice.{Mode, of_system, of_mesh, of_vector, greatest_degree, Source, texts, generated, Destination, standard, named, Output, summary, both, destination_of, Choice}
use Rattle.run_words.specs.Words.{has_sums, is_standard}

abbrev pub ◌>>=◌ : {X Y : Type 0} → Option X → (X → Option Y) → Option Y
o >>= f = option_and_then f o

infixl 1 ◌>>=◌
abbrev pub number_of : List ℕ → Option ℕ
number_of word = if is_number word then Some (digits_value word) else None

abbrev pub number_within : ℕ → ℕ → List ℕ → Option ℕ
number_within least greatest word = if is_number_within least greatest word then Some (digits_value word) else None

abbrev pub name_of : List ℕ → Option (List ℕ)
name_of word = if is_name word then Some word else None

-- what is read of the value, or else the default
abbrev pub read_or : {X : Type 0} → X → (List ℕ → Option X) → Option (List ℕ) → Option X
read_or default read None = Some default
read_or default read (Some word) = read word

unfoldable pub read_plan : Given → Option Plan
read_plan given = do
  workers ← read_or 4 (number_within 1 64) (given.value names.Workers)
  queue ← read_or (2 * workers) (number_within 1 256) (given.value names.Queue)
  chunk ← read_or 8 (number_within 1 64) (given.value names.Chunk)
  scratch ← read_or workers (number_within 1 64) (given.value names.Scratch)
  Some (record { workers = workers; queue = queue; chunk = chunk; scratch = scratch })

-- the names of the mesh and of the problem, where not both are `-`
abbrev pub two_texts : List ℕ → Format → List ℕ → Option Source
two_texts mesh format problem = if bytes_eq mesh (codes "-") && bytes_eq problem (codes "-") then None else Some (texts mesh format (Some problem))

unfoldable pub read_source : Option (List ℕ) → Option (List ℕ) → Option (List ℕ) → Option (List ℕ) → Format → Option Source
read_source (Some mesh) None None None format = name_of mesh >>= (λ name. Some (texts name format None))
read_source (Some mesh) (Some problem) None None format = name_of mesh >>= (λ first. name_of problem >>= (λ second. two_texts first format second))
read_source None None (Some cells) seed formats.Ucd =
    number_within 1 512 cells >>= (λ n. read_or 0 (number_within 0 18446744073709551615) seed >>= (λ s. Some (generated n s)))
read_source _ _ _ _ _ = None

-- a vector may stand beside the source: there are texts, of which none is `-` where the vector is
abbrev pub is_apart : List ℕ → Source → Bool
is_apart name (texts mesh format problem) = not (bytes_eq name (codes "-") && (bytes_eq mesh (codes "-") || is_standard problem))
is_apart name (generated n seed) = false

abbrev pub read_vector : List ℕ → Source → Option (List ℕ)
read_vector word source = name_of word >>= (λ name. if is_apart name source then Some name else None)

unfoldable pub read_mode : ModeName → Option (List ℕ) → Option (List ℕ) → Source → Option Mode
read_mode (modes.System mode) None None source = Some (of_system mode)
read_mode modes.Mesh None None source = Some of_mesh
read_mode modes.Product (Some vector) None source = read_vector vector source >>= (λ name. Some (of_vector name tasks.Product))
read_mode modes.Marks (Some vector) mark source =
    read_vector vector source >>= (λ name. read_or 1 (number_within 1 1048576) mark >>= (λ n. Some (of_vector name (tasks.Marks n))))
read_mode modes.Adapt (Some vector) mark source =
    read_vector vector source >>= (λ name. read_or 1 (number_within 1 1048576) mark >>= (λ n. Some (of_vector name (tasks.Adapt n))))
read_mode _ _ _ _ = None

abbrev pub read_destination : List ℕ → Option Destination
read_destination word = option_map destination_of (name_of word)

abbrev pub is_same_name : Destination → Destination → Bool
is_same_name (named name) (named other) = bytes_eq name other
is_same_name _ _ = false

-- two destinations that aren't one name
abbrev pub two_outputs : Destination → Destination → Option Output
two_outputs matrix rhs = if is_same_name matrix rhs then None else Some (both matrix (Some rhs))

unfoldable pub read_output : Option (List ℕ) → Option (List ℕ) → Bool → Bool → Option Output
read_output None None true sums = if sums then Some summary else None
read_output matrix None false sums = read_or standard read_destination matrix >>= (λ first. Some (both first None))
read_output matrix (Some rhs) false sums =
    if sums then read_or standard read_destination matrix >>= (λ first. read_destination rhs >>= (λ second. two_outputs first second)) else None
read_output _ _ _ _ = None

unfoldable pub read_subdomain : Option (List ℕ) → Option (List ℕ) → Bool → Option (Option Subdomain)
read_subdomain None None false = Some None
read_subdomain (Some word) parts cells =
    id_of word >>= (λ id. read_or faces.None faces_of parts >>= (λ sides. Some (Some (record { id = id; ghost_parts = sides; ghost_cells = cells }))))
read_subdomain _ _ _ = None

-- what is asked of a run that is no batch
unfoldable pub run_reading : Given → Option Choice
run_reading given = do
  name ← read_or (modes.System systems.Serial) mode_of (given.value names.Mode)
  format ← read_or formats.Ucd format_of (given.value names.Format)
  source ← read_source (given.value names.Mesh) (given.value names.Problem) (given.value names.Generate) (given.value names.Seed) format
  mode ← read_mode name (given.value names.Vector) (given.value names.Mark) source
  plan ← read_plan given
  digits ← read_or 0 (number_within 0 64) (given.value names.Digits)
  degree ← read_or 1 (number_within 1 (greatest_degree mode)) (given.value names.Degree)
  faces ← read_or faces.None faces_of (given.value names.Faces)
  subdomain ← read_subdomain (given.value names.Subdomain) (given.value names.Ghost) (given.stands switches.GhostCells)
  output ← read_output (given.value names.Matrix) (given.value names.Rhs) (given.stands switches.Summary) (has_sums name)
  Some (record { mode = mode; source = source; plan = plan; digits = digits; degree = degree; faces = faces; subdomain = subdomain; output = output })

-- no run is asked for beside a batch
unfoldable pub reading : Given → Option Choice
reading given = if is_some (given.value names.Batch) then None else run_reading given
