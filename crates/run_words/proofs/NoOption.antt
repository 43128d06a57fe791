-- Options of which none passes a test.
use Rattle.std.proofs.Common.{◌≡◌, ◌∙◌, ap, sym, ℕ, List, [], ◌∷◌, Bool, true, false, cond, refl, zero, suc, ◌||◌}
use Rattle.std.specs.Prelude.{Some, None}
use Rattle.std.specs.declared.option.Option.{Option}
use Rattle.std.specs.List.{list_any, slice_get}
use Rattle.run_words.specs.declared.name.Name.{Name}
use Rattle.run_words.specs.declared.name.Name.TheVariants as names
use Rattle.run_words.specs.declared.switch.Switch.{Switch}
use Rattle.run_words.specs.declared.switch.Switch.TheVariants as switches
use Rattle.run_words.specs.Names.{place_of, all_names}
use Rattle.run_words.specs.Switches.{switch_place, all_switches}

-- every option is among all of them
pub stands_at : (name : Name) → slice_get all_names (place_of name) ≡ Some name
stands_at names.Mode = refl
stands_at names.Mesh = refl
stands_at names.Problem = refl
stands_at names.Workers = refl
stands_at names.Queue = refl
stands_at names.Chunk = refl
stands_at names.Scratch = refl
stands_at names.Digits = refl
stands_at names.Faces = refl
stands_at names.Matrix = refl
stands_at names.Rhs = refl
stands_at names.Generate = refl
stands_at names.Seed = refl
stands_at names.Format = refl
stands_at names.Subdomain = refl
stands_at names.Ghost = refl
stands_at names.Vector = refl
stands_at names.Mark = refl
stands_at names.Batch = refl
stands_at names.Degree = refl

pub switch_stands_at : (switch : Switch) → slice_get all_switches (switch_place switch) ≡ Some switch
switch_stands_at switches.Summary = refl
switch_stands_at switches.GhostCells = refl

pub neither : (a b : Bool) → a || b ≡ false → (a ≡ false) × (b ≡ false)
neither true b h = cc
neither false b h = (refl, h)

module _ {X : Type 0} (p : X → Bool) where
  pub none_at : (xs : List X) (i : ℕ) (x : X) → list_any p xs ≡ false → slice_get xs i ≡ Some x → p x ≡ false
  none_at [] i x none at = cc
  none_at (y ∷ ys) zero x none at = let same : y ≡ x = cc in ap p (sym same) ∙ (neither (p y) (list_any p ys) none).0
  none_at (y ∷ ys) (suc i) x none at = none_at ys i x (neither (p y) (list_any p ys) none).1 at

  pub none_any : (xs : List X) → ((x : X) → p x ≡ false) → list_any p xs ≡ false
  none_any [] none = refl
  none_any (y ∷ ys) none = ap (λ b. b || list_any p ys) (none y) ∙ none_any ys none

pub not_none : {X : Type 0} (b : Bool) (o : Option X) (x : X) → cond b None o ≡ Some x → (b ≡ false) × (o ≡ Some x)
not_none true o x h = cc
not_none false o x h = (refl, h)
