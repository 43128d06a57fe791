-- Words of a line, and the lines that they make.
use Rattle.std.proofs.Common.{◌≡◌, ◌∙◌, ap, refl, ℕ, ◌<◌, List, [], ◌∷◌, length, Bool, true, false, nat_lt, ◌&&◌, not, arith}
use Rattle.std.specs.Prelude.{filter, ◌==◌}
use Rattle.std.specs.List.{list_all, slice_split, All}
use Rattle.std.proofs.lemmas.Bool.Decides.{nat_tests}
use Rattle.std.proofs.lemmas.List.Elements.{All-weaker}
use Rattle.std.proofs.lemmas.List.Folds.{list_all-append}
use Rattle.std.proofs.lemmas.List.Splits.{slice_split_at, slice_split_none}
use Rattle.std.proofs.lemmas.List.Sums.{AllPass-from_list_all}
use Rattle.fem_text.specs.Lines.{is_blank, words_of}
use Rattle.fem_text.specs.WordLines.{has_words}
use Rattle.fem_text.specs.Written.{line_of}

-- a byte of a word: above the blank
abbrev pub is_plain : ℕ → Bool
is_plain byte = nat_lt 32 byte

-- a byte of a line: the blank, or above it
abbrev pub is_shown : ℕ → Bool
is_shown byte = nat_lt 31 byte

pub record IsWord (word : List ℕ) : Type 0 where
  pub plain : list_all is_plain word ≡ true
  pub some : 0 < length word

abbrev pub AreWords : List (List ℕ) → Type 0
AreWords [] = Unit {0}
AreWords (word ∷ words) = IsWord word × AreWords words

not_blank : (byte : ℕ) → is_plain byte ≡ true → is_blank byte ≡ false
not_blank byte h = grind (arith, nat_tests)

no_blank : (word : List ℕ) → IsWord word → All (λ byte. is_blank byte ≡ false) word
no_blank word is = All-weaker (λ byte. is_plain byte ≡ true) (λ byte. is_blank byte ≡ false) not_blank word (AllPass-from_list_all is_plain word is.plain)

split_words : (word : List ℕ) (words : List (List ℕ)) → IsWord word → AreWords words → slice_split is_blank (line_of (word ∷ words)) ≡ word ∷ words
split_words word [] is are = slice_split_none is_blank word (no_blank word is)
split_words word (next ∷ words) is are =
    slice_split_at is_blank word 32 (line_of (next ∷ words)) (no_blank word is) refl ∙ ap (λ rest. word ∷ rest) (split_words next words are.0 are.1)

has_bytes : (word : List ℕ) → 0 < length word → not (length word == 0) ≡ true
has_bytes word h =
    let none : (length word == 0) ≡ false = grind (arith, nat_tests) in
    ap not none

keep_words : (words : List (List ℕ)) → AreWords words → filter (λ word. not (length word == 0)) words ≡ words
keep_words [] are = refl
keep_words (word ∷ words) are = rw (has_bytes word are.0.some) (ap (λ rest. word ∷ rest) (keep_words words are.1))

-- the words of a line are those that it was made of
pub words_of_line : (word : List ℕ) (words : List (List ℕ)) → IsWord word → AreWords words → words_of (line_of (word ∷ words)) ≡ word ∷ words
words_of_line word words is are =
    ap (filter (λ word. not (length word == 0))) (split_words word words is are) ∙ keep_words (word ∷ words) (is, are)

pub line_has_words : (word : List ℕ) (words : List (List ℕ)) → IsWord word → AreWords words → has_words (line_of (word ∷ words)) ≡ true
line_has_words word words is are =
    let some : nat_lt 0 (length (word ∷ words)) ≡ true = grind (arith, nat_tests) in
    ap (λ words. nat_lt 0 (length words)) (words_of_line word words is are) ∙ some

pub and_left : (a b : Bool) → (a && b) ≡ true → a ≡ true
and_left true b h = refl
and_left false b h = h

pub and_right : (a b : Bool) → (a && b) ≡ true → b ≡ true
and_right true b h = h
and_right false b h = cc

shown_byte : (byte : ℕ) → is_plain byte ≡ true → is_shown byte ≡ true
shown_byte byte h = grind (arith, nat_tests)

plain_shown : (word : List ℕ) → list_all is_plain word ≡ true → list_all is_shown word ≡ true
plain_shown [] h = refl
plain_shown (byte ∷ word) h = rw (shown_byte byte (and_left _ _ h)) (plain_shown word (and_right _ _ h))

pub line_is_shown : (word : List ℕ) (words : List (List ℕ)) → IsWord word → AreWords words → list_all is_shown (line_of (word ∷ words)) ≡ true
line_is_shown word [] is are = plain_shown word is.plain
line_is_shown word (next ∷ words) is are =
    list_all-append is_shown word (32 ∷ line_of (next ∷ words)) ∙ rw (plain_shown word is.plain) (line_is_shown next words are.0 are.1)
