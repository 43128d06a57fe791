-- The texts of a map, under their names.
use Rattle.std.proofs.Common.{◌≡◌, sym, refl, ℕ, List, [], ◌∷◌, Bool, true, false, map}
use Rattle.std.specs.Prelude.{Some, cond, String, Vec, string_bytes}
use Rattle.std.specs.declared.option.Option.{Option}
use Rattle.std.specs.declared.alloc.Global.{Global}
use Rattle.std.specs.Option.{option_map}
use Rattle.std.specs.Str.{bytes_eq}
use Rattle.std.specs.Ordering.{nat_cmp}
use Rattle.std.specs.Cmp.Lexicographic.{slice_cmp}
use Rattle.std.specs.BTreeMap.{BTreeMap, get_by_text, is_at}
use Rattle.std.specs.Map.{lookup}
use Rattle.std.proofs.lemmas.Map.Text.{is_eq-slice_cmp}
use mathlib.Core.Path.{fun_ext}
use Rattle.fem_text.specs.Outside.{Held}
use Rattle.fem_text.specs.Memory.{held_of, listed}

-- what stands under each name in a map
abbrev pub texts_of : BTreeMap (String Global) (Vec ℕ Global) → Held
texts_of texts = λ name. option_map (λ text. text.items) (get_by_text texts name)

one_step : {A B : Type 0} (f : A → B) (test other : Bool) (found : A) (left : Option B) (right : Option A) → test ≡ other → left ≡ option_map f right →
    cond test (Some (f found)) left ≡ option_map f (cond other (Some found) right)
one_step f true true found left right e h = refl
one_step f false false found left right e h = h
one_step f true false found left right e h = cc
one_step f false true found left right e h = cc

found : (name : List ℕ) (entries : List (String Global × Vec ℕ Global)) →
    lookup (bytes_eq name) (map (λ entry. (string_bytes entry.0, entry.1.items)) entries)
    ≡ option_map (λ text. text.items) (lookup (is_at (λ key. slice_cmp nat_cmp name (string_bytes key))) entries)
found name [] = refl
found name (entry ∷ more) = one_step (λ text. text.items) _ _ entry.1 _ _ (sym (is_eq-slice_cmp name (string_bytes entry.0))) (found name more)

pub held_listed : (texts : BTreeMap (String Global) (Vec ℕ Global)) (name : List ℕ) → held_of (listed texts) name ≡ texts_of texts name
held_listed texts name = found name texts.entries

pub all_held_listed : (texts : BTreeMap (String Global) (Vec ℕ Global)) → held_of (listed texts) ≡ texts_of texts
all_held_listed texts = fun_ext (λ (name : List ℕ). held_listed texts name)
