-- The values that options take.
use Rattle.std.specs.Prelude.{ℕ, List, [], length, Bool, ◌&&◌, ◌||◌, not, nat_eq, nat_lt, nat_le, codes, is_some, if◌then◌else◌, Some, None}
use Rattle.std.specs.Char.{is_ascii_digit}
use Rattle.std.specs.declared.option.Option.{Option}
use Rattle.std.specs.List.{list_all, starts_with}
use Rattle.std.specs.Option.{option_map}
use Rattle.std.specs.Str.{bytes_eq}
use Rattle.fem_fixed.specs.Numbers.{digits_value, is_id}
use Rattle.run_words.specs.declared.name.Name.{Name}
use Rattle.run_words.specs.declared.name.Name.TheVariants as names
use Rattle.run_words.specs.declared.mode.ModeName.{ModeName}
use Rattle.run_words.specs.declared.mode.ModeName.TheVariants as modes
use Rattle.run_words.specs.declared.options.SystemMode.{SystemMode}
use Rattle.run_words.specs.declared.options.SystemMode.TheVariants as systems
use Rattle.run_words.specs.declared.options.Format.{Format}
use Rattle.run_words.specs.declared.options.Format.TheVariants as formats
use Rattle.run_words.specs.declared.options.Faces.{Faces}
use Rattle.run_words.specs.declared.options.Faces.TheVariants as faces

-- a name isn't empty and doesn't begin with `-`, but for `-` alone, which is standard input or output
abbrev pub is_name : List ℕ → Bool
is_name word = not (bytes_eq word []) && (not (starts_with nat_eq word (codes "-")) || bytes_eq word (codes "-"))

-- one to twenty digits
abbrev pub is_number : List ℕ → Bool
is_number word = nat_lt 0 (length word) && nat_le (length word) 20 && list_all is_ascii_digit word

-- a number from a least one to a greatest
abbrev pub is_number_within : ℕ → ℕ → List ℕ → Bool
is_number_within least greatest word = is_number word && nat_le least (digits_value word) && nat_le (digits_value word) greatest

-- the names of modes with texts of a system
unfoldable pub system_mode_of : List ℕ → Option SystemMode
system_mode_of word =
    if bytes_eq word (codes "serial") then Some systems.Serial
    else if bytes_eq word (codes "ordered") then Some systems.Ordered
    else if bytes_eq word (codes "colored") then Some systems.Colored
    else if bytes_eq word (codes "pattern") then Some systems.Pattern
    else if bytes_eq word (codes "colors") then Some systems.Colors
    else None

-- the names of all modes
unfoldable pub mode_of : List ℕ → Option ModeName
mode_of word =
    if bytes_eq word (codes "mesh") then Some modes.Mesh
    else if bytes_eq word (codes "product") then Some modes.Product
    else if bytes_eq word (codes "marks") then Some modes.Marks
    else if bytes_eq word (codes "adapt") then Some modes.Adapt
    else option_map modes.System (system_mode_of word)

-- the names of formats
unfoldable pub format_of : List ℕ → Option Format
format_of word =
    if bytes_eq word (codes "ucd") then Some formats.Ucd
    else if bytes_eq word (codes "msh") then Some formats.Msh
    else None

-- the names of what is visited
unfoldable pub faces_of : List ℕ → Option Faces
faces_of word =
    if bytes_eq word (codes "none") then Some faces.None
    else if bytes_eq word (codes "once") then Some faces.Once
    else if bytes_eq word (codes "both") then Some faces.Both
    else None

-- the value is in the set of its option
unfoldable pub is_in_set : Name → List ℕ → Bool
is_in_set names.Mode value = is_some (mode_of value)
is_in_set names.Mesh value = is_name value
is_in_set names.Problem value = is_name value
is_in_set names.Workers value = is_number_within 1 64 value
is_in_set names.Queue value = is_number_within 1 256 value
is_in_set names.Chunk value = is_number_within 1 64 value
is_in_set names.Scratch value = is_number_within 1 64 value
is_in_set names.Digits value = is_number_within 0 64 value
is_in_set names.Faces value = is_some (faces_of value)
is_in_set names.Matrix value = is_name value
is_in_set names.Rhs value = is_name value
is_in_set names.Generate value = is_number_within 1 512 value
is_in_set names.Seed value = is_number_within 0 18446744073709551615 value
is_in_set names.Format value = is_some (format_of value)
is_in_set names.Subdomain value = is_id value
is_in_set names.Ghost value = is_some (faces_of value)
is_in_set names.Vector value = is_name value
is_in_set names.Mark value = is_number_within 1 1048576 value
is_in_set names.Batch value = is_name value
is_in_set names.Degree value = is_number_within 1 2 value
