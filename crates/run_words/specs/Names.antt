-- The options that have a value.
use Rattle.std.specs.Prelude.{ℕ, List, [], ◌∷◌, codes, Bool, nat_eq}
use Rattle.run_words.specs.declared.name.Name.{Name}
use Rattle.run_words.specs.declared.name.Name.TheVariants as names

-- the word that names an option
unfoldable pub spelled : Name → List ℕ
spelled names.Mode = codes "--mode"
spelled names.Mesh = codes "--mesh"
spelled names.Problem = codes "--problem"
spelled names.Workers = codes "--workers"
spelled names.Queue = codes "--queue"
spelled names.Chunk = codes "--chunk"
spelled names.Scratch = codes "--scratch"
spelled names.Digits = codes "--digits"
spelled names.Faces = codes "--faces"
spelled names.Matrix = codes "--matrix"
spelled names.Rhs = codes "--rhs"
spelled names.Generate = codes "--generate"
spelled names.Seed = codes "--seed"
spelled names.Format = codes "--format"
spelled names.Subdomain = codes "--subdomain"
spelled names.Ghost = codes "--ghost"
spelled names.Vector = codes "--vector"
spelled names.Mark = codes "--mark"
spelled names.Batch = codes "--batch"
spelled names.Degree = codes "--degree"

-- the place of an option among all of them
abbrev pub place_of : Name → ℕ
place_of names.Mode = 0
place_of names.Mesh = 1
place_of names.Problem = 2
place_of names.Workers = 3
place_of names.Queue = 4
place_of names.Chunk = 5
place_of names.Scratch = 6
place_of names.Digits = 7
place_of names.Faces = 8
place_of names.Matrix = 9
place_of names.Rhs = 10
place_of names.Generate = 11
place_of names.Seed = 12
place_of names.Format = 13
place_of names.Subdomain = 14
place_of names.Ghost = 15
place_of names.Vector = 16
place_of names.Mark = 17
place_of names.Batch = 18
place_of names.Degree = 19

-- two options are one exactly where their places are equal
abbrev pub same_name : Name → Name → Bool
same_name name other = nat_eq (place_of name) (place_of other)

abbrev pub all_names : List Name
all_names = names.Mode ∷ names.Mesh ∷ names.Problem ∷ names.Workers ∷ names.Queue ∷ names.Chunk ∷ names.Scratch ∷ names.Digits ∷ names.Faces ∷ names.Matrix ∷ names.Rhs ∷ names.Generate ∷ names.Seed ∷ names.Format ∷ names.Subdomain ∷ names.Ghost ∷ names.Vector ∷ names.Mark ∷ names.Batch ∷ names.Degree ∷ []
