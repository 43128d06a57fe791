-- Texts under their names, and how they are added.
use Rattle.std.proofs.Common.{◌≡◌, ◌∙◌, ap, sym, refl, ℕ, ◌+◌, ◌<◌, ◌≤◌, List, [], ◌∷◌, ◌++◌, length, take, true, false, cond, arith}
use Rattle.std.specs.Prelude.{Some, None, String, Vec, string_bytes, string_eq, is_some, IfSome}
use Rattle.std.specs.declared.option.Option.{Option}
use Rattle.std.specs.declared.alloc.Global.{Global}
use Rattle.std.specs.Option.{option_map}
use Rattle.std.specs.Str.{bytes_eq}
use Rattle.std.specs.Map.{lookup}
use Rattle.std.proofs.lemmas.Grind.{common_steps}
use Rattle.std.proofs.lemmas.Option.{same_Some}
use Rattle.std.proofs.lemmas.List.{map-append}
use Rattle.fem_text.specs.Outside.{Held, Reads}
use Rattle.fem_text.specs.Memory.{Named, held_of}
use Rattle.batch_texts.specs.declared.shelf.NameFault.TheVariants.{Size}
use Rattle.batch_texts.specs.Shelf.{size_limit, shelved, size_of, is_shelved, ShelvesText, stays, adds, IsTooLarge, IsNameFault}

-- what is found among the texts is what a map has under the name
pub found : (name : List ℕ) (entries : List (String Global × Vec ℕ Global)) → held_of (shelved entries) name ≡ option_map (λ text. text.items) (lookup (λ key. bytes_eq name (string_bytes key)) entries)
found name [] = refl
found name (entry ∷ more) =
    elim (bytes_eq name (string_bytes entry.0)) as (λ b. cond b (Some entry.1.items) (held_of (shelved more) name) ≡ option_map (λ text. text.items) (cond b (Some entry.1) (lookup (λ key. bytes_eq name (string_bytes key)) more))) [
      | true ↦ refl
      | false ↦ found name more
    ]

none_mapped : {A B : Type 0} (f : A → B) (o : Option A) → is_some (option_map f o) ≡ false → o ≡ None
none_mapped f None h = refl
none_mapped f (Some x) h = cc

pub none_there : (name : List ℕ) (entries : List (String Global × Vec ℕ Global)) → is_shelved (shelved entries) name ≡ false → lookup (λ key. bytes_eq name (string_bytes key)) entries ≡ None
none_there name entries h = none_mapped (λ (text : Vec ℕ Global). text.items) _ (ap is_some (sym (found name entries)) ∙ h)

-- the same, by a key that is this name
pub none_under : (name : List ℕ) (key : String Global) (entries : List (String Global × Vec ℕ Global)) → string_bytes key ≡ name → is_shelved (shelved entries) name ≡ false → lookup (λ k. string_eq key k) entries ≡ None
none_under name key entries e h = ap (λ bytes. lookup (λ k. bytes_eq bytes (string_bytes k)) entries) e ∙ none_there name entries h

pub shelved_more : (entries : List (String Global × Vec ℕ Global)) (key : String Global) (text : Vec ℕ Global) (name : List ℕ) → string_bytes key ≡ name → shelved (entries ++ (key, text) ∷ []) ≡ shelved entries ++ (name, text.items) ∷ []
shelved_more entries key text name e = map-append (λ entry. (string_bytes entry.0, entry.1.items)) entries ((key, text) ∷ []) ∙ ap (λ bytes. shelved entries ++ (bytes, text.items) ∷ []) e

pub size_more : (texts : Named) (text : List ℕ × List ℕ) → size_of (texts ++ text ∷ []) ≡ size_of texts + length text.1
size_more [] text = omega arith
size_more (x ∷ xs) text = omega (arith, size_more xs text)

-- ---- what was read
cut_whole : (m : ℕ) (text bytes : List ℕ) → take (m + 1) text ≡ bytes → length bytes ≤ m → text ≡ bytes
cut_whole m text bytes e h = grind (arith, common_steps)

cut_shorter : (m : ℕ) (text bytes : List ℕ) → take (m + 1) text ≡ bytes → length bytes ≤ length text
cut_shorter m text bytes e = grind (arith, common_steps)

whole_known : (known : Option (List ℕ)) (bytes : List ℕ) → option_map (take (size_limit + 1)) known ≡ Some bytes → length bytes ≤ size_limit → known ≡ Some bytes
whole_known None bytes e h = cc
whole_known (Some text) bytes e h = ap Some (cut_whole size_limit text bytes (same_Some (take (size_limit + 1) text) bytes e) h)

long_known : (known : Option (List ℕ)) (bytes : List ℕ) (size : ℕ) → option_map (take (size_limit + 1)) known ≡ Some bytes → size_limit < size + length bytes → (text : List ℕ) × (known ≡ Some text) × (size_limit < size + length text)
long_known None bytes size e h = cc
long_known (Some text) bytes size e h = (text, refl, omega (arith, h, cut_shorter size_limit text bytes (same_Some (take (size_limit + 1) text) bytes e)))

stands : (holds : Option Held) (name bytes : List ℕ) → Reads holds name size_limit bytes → length bytes ≤ size_limit → IfSome holds (λ held. held name ≡ Some bytes)
stands None name bytes r h = tt
stands (Some held) name bytes r h = whole_known (held name) bytes r h

too_large : (holds : Option Held) (name bytes : List ℕ) (texts : Named) → Reads holds name size_limit bytes → size_limit < size_of texts + length bytes → IsTooLarge holds name texts
too_large None name bytes texts r h = tt
too_large (Some held) name bytes texts r h = long_known (held name) bytes (size_of texts) r h

pub is_there : (holds : Option Held) (name : List ℕ) (old : Named) → is_shelved old name ≡ true → ShelvesText holds name old old
is_there holds name old there = stays there refl

pub is_added : (holds : Option Held) (name text : List ℕ) (old new : Named) → is_shelved old name ≡ false → Reads holds name size_limit text → new ≡ old ++ (name, text) ∷ [] → size_of old + length text ≤ size_limit → ShelvesText holds name old new
is_added holds name text old new none-there r added few = adds none-there (record { text = text; stands = stands holds name text r (omega (arith, few)); added = added; few = few })

pub is_too_large : (holds : Option Held) (name text : List ℕ) (old : Named) → is_shelved old name ≡ false → Reads holds name size_limit text → size_limit < size_of old + length text → IsNameFault holds name old Size
is_too_large holds name text old none-there r much = record { new = none-there; cause = too_large holds name text old r much }
