-- Texts that were read, each behind its name and each name once.
use Rattle.std.specs.Prelude.{◌≡◌, ◌+◌, ◌<◌, ◌≤◌, ℕ, List, [], ◌∷◌, ◌++◌, map, length, Bool, true, false, String, Vec, string_bytes, Some, IfSome, is_some, if◌then◌else◌, Ok, Err}
use Rattle.std.specs.declared.option.Option.{Option}
use Rattle.std.specs.declared.result.Result.{Result}
use Rattle.std.specs.declared.alloc.Global.{Global}
use Rattle.fem_text.specs.declared.counts.Counts.{Counts}
use Rattle.fem_text.specs.Counts.{after_call}
use Rattle.fem_text.specs.Outside.{Held, IsAbsent}
use Rattle.fem_text.specs.Memory.{Named, held_of}
use Rattle.batch_texts.specs.declared.shelf.NameFault.{NameFault}
use Rattle.batch_texts.specs.declared.shelf.NameFault.TheVariants.{Absent, Size, Failed, NoMemory}

-- the greatest length of all texts together
unfoldable pub size_limit : ℕ
size_limit = 268435456

-- the texts of a map, in the order of its entries
abbrev pub shelved : List (String Global × Vec ℕ Global) → Named
shelved entries = map (λ entry. (string_bytes entry.0, entry.1.items)) entries

-- how many bytes the texts have
abbrev pub size_of : Named → ℕ
size_of [] = 0
size_of (text ∷ texts) = length text.1 + size_of texts

abbrev pub is_shelved : Named → List ℕ → Bool
is_shelved texts name = is_some (held_of texts name)

-- one more text, which the store holds under the name, where the store tells that
pub record AddsText (holds : Option Held) (name : List ℕ) (old new : Named) : Type 0 where
  pub text : List ℕ
  pub stands : IfSome holds (λ held. held name ≡ Some text)
  pub added : new ≡ old ++ (name, text) ∷ []
  pub few : size_of old + length text ≤ size_limit

-- a text that is there already is not read again; another one is added
pub data ShelvesText (holds : Option Held) (name : List ℕ) (old new : Named) : Type 0 where
  stays : is_shelved old name ≡ true → new ≡ old → ShelvesText holds name old new
  adds : is_shelved old name ≡ false → AddsText holds name old new → ShelvesText holds name old new

-- with its text, which the store holds, where the store tells that, there would be too many bytes
abbrev pub IsTooLarge : Option Held → List ℕ → Named → Type 0
IsTooLarge holds name texts = IfSome holds (λ held. (text : List ℕ) × (held name ≡ Some text) × (size_limit < size_of texts + length text))

-- the name isn't shelved for this cause; a name that is there has none
abbrev pub IsCause : Option Held → List ℕ → Named → NameFault → Type 0
IsCause holds name texts Absent = IsAbsent holds name
IsCause holds name texts Size = IsTooLarge holds name texts
IsCause holds name texts Failed = Unit {0}
IsCause holds name texts NoMemory = Unit {0}

pub record IsNameFault (holds : Option Held) (name : List ℕ) (texts : Named) (fault : NameFault) : Type 0 where
  pub new : is_shelved texts name ≡ false
  pub cause : IsCause holds name texts fault

-- the read failed: it isn't that the name isn't held, that its text is too large, or that memory ran out
abbrev pub is_failed : NameFault → Bool
is_failed Failed = true
is_failed Absent = false
is_failed Size = false
is_failed NoMemory = false

abbrev pub has_failed : Result Unit NameFault → Bool
has_failed (Err fault) = is_failed fault
has_failed (Ok unit) = false

-- a name that is there is no read; any other is one
abbrev pub after_name : Named → List ℕ → Result Unit NameFault → Counts → Counts
after_name texts name result before = if is_shelved texts name then before else after_call (has_failed result) before
