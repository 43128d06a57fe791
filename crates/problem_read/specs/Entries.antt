-- What the lines of a problem text say.
use Rattle.std.specs.Prelude.{ℕ, List, ℤ, Some, None, slice_get}
use Rattle.std.specs.declared.option.Option.{Option}
use Rattle.std.specs.List.{filter_map}
use Rattle.problem_read.specs.declared.ties.TieTerm.{TieTerm}

-- a constraint: the value at a node is the sum of the terms and the constant
pub record Tie : Type 0 where
  pub node : ℕ
  pub terms : List TieTerm
  pub constant : ℤ

-- what one line says; a pair is a material or boundary id and what is set there
pub data Entry : Type 0 where
  diffusion : ℕ × ℤ → Entry
  source : ℕ × ℤ → Entry
  robin : ℕ × (ℤ × ℤ) → Entry
  dirichlet : ℕ × ℤ → Entry
  penalty : ℤ → Entry
  refine : List ℕ → Entry
  constraint : Tie → Entry
  subdomain : ℕ × ℕ → Entry

abbrev pub diffusion_of : Entry → Option (ℕ × ℤ)
diffusion_of (diffusion pair) = Some pair
diffusion_of _ = None

abbrev pub source_of : Entry → Option (ℕ × ℤ)
source_of (source pair) = Some pair
source_of _ = None

abbrev pub robin_of : Entry → Option (ℕ × (ℤ × ℤ))
robin_of (robin pair) = Some pair
robin_of _ = None

abbrev pub dirichlet_of : Entry → Option (ℕ × ℤ)
dirichlet_of (dirichlet pair) = Some pair
dirichlet_of _ = None

abbrev pub penalty_of : Entry → Option ℤ
penalty_of (penalty value) = Some value
penalty_of _ = None

abbrev pub step_of : Entry → Option (List ℕ)
step_of (refine cells) = Some cells
step_of _ = None

abbrev pub tie_of : Entry → Option Tie
tie_of (constraint tie) = Some tie
tie_of _ = None

abbrev pub subdomain_of : Entry → Option (ℕ × ℕ)
subdomain_of (subdomain pair) = Some pair
subdomain_of _ = None

-- what a text says, word by word, each in the order of the lines
pub record ProblemParts : Type 0 where
  pub diffusion : List (ℕ × ℤ)
  pub source : List (ℕ × ℤ)
  pub robin : List (ℕ × (ℤ × ℤ))
  pub dirichlet : List (ℕ × ℤ)
  pub penalty : Option ℤ
  pub steps : List (List ℕ)
  pub ties : List Tie
  pub subdomain : List (ℕ × ℕ)

-- the parts that these lines make
abbrev pub parts_of : List Entry → ProblemParts
parts_of entries =
    record {
      diffusion = filter_map diffusion_of entries;
      source = filter_map source_of entries;
      robin = filter_map robin_of entries;
      dirichlet = filter_map dirichlet_of entries;
      penalty = slice_get (filter_map penalty_of entries) 0;
      steps = filter_map step_of entries;
      ties = filter_map tie_of entries;
      subdomain = filter_map subdomain_of entries;
    }
