-- The search for what may wait, word by word.
use Rattle.std.specs.Prelude.{ℕ, List, [], ◌∷◌, Bool, false, ◌&&◌, ◌||◌, codes, nat_eq}
use Rattle.std.specs.List.{starts_with}
use Rattle.std.specs.Str.{bytes_eq}

abbrev pub begins_with : List ℕ → List (List ℕ) → Bool
begins_with word [] = false
begins_with word (first ∷ words) = bytes_eq first word

-- a word and those behind it begin with the name of the mode `ordered`
unfoldable pub names_ordered : List ℕ → List (List ℕ) → Bool
names_ordered word behind = bytes_eq word (codes "--mode=ordered") || (bytes_eq word (codes "--mode") && begins_with (codes "ordered") behind)

-- a word names the option of a batch
unfoldable pub names_batch : List ℕ → Bool
names_batch word = bytes_eq word (codes "--batch") || starts_with nat_eq word (codes "--batch=")

abbrev pub waits_at : List ℕ → List (List ℕ) → Bool
waits_at word behind = names_ordered word behind || names_batch word

abbrev pub waits : List (List ℕ) → Bool
waits [] = false
waits (word ∷ behind) = waits_at word behind || waits behind
