-- The words of a line, one part after another.
use Rattle.std.proofs.Common.{◌≡◌, ◌∙◌, sym, ap, refl, ℕ, zero, suc, ◌+◌, ◌<◌, List, [], ◌∷◌, ◌++◌, Bor, length, map, take, drop, set, get_or, false, append_assoc, arith, inl, inr}
use Rattle.std.specs.Prelude.{◌==◌, not, filter, Some, None, MatchOption}
use Rattle.std.specs.declared.option.Option.{Option}
use Rattle.std.specs.List.{slice_split, before_first, after_first, position_or_len}
use Rattle.std.proofs.lemmas.Bool.{cases_lt}
use Rattle.std.proofs.lemmas.List.Splits.{slice_split_first, slice_split_none}
use Rattle.std.proofs.lemmas.List.Sums.{fails_before_first}
use Rattle.std.proofs.lemmas.Grind.{common_steps, take-set_at}
use Rattle.std.proofs.lemmas.List.{map-append}
use Rattle.fem_text.specs.Lines.{is_blank, words_of}

-- the parts that are words
abbrev among : List (List ℕ) → List (List ℕ)
among parts = filter (λ word. not (length word == 0)) parts

-- the words of a text are those of its first part and those behind it
first_part : (text : List ℕ) → words_of text ≡ among (before_first is_blank text ∷ slice_split is_blank (after_first is_blank text))
first_part text = elim (cases_lt (position_or_len is_blank text) (length text)) [
  | inl early ↦ ap among (slice_split_first is_blank text 0 early)
  | inr late ↦ (let whole : text ≡ before_first is_blank text = grind (arith, common_steps) in
      let none : [] ≡ after_first is_blank text = grind (arith, common_steps) in
      ap among (slice_split_none is_blank text (λ k d below. fails_before_first is_blank text k d (omega arith)))
      ∙ (λ i. among (whole i ∷ slice_split is_blank (none i))))
]

a_word : (part : List ℕ) (parts : List (List ℕ)) → 0 < length part → among (part ∷ parts) ≡ part ∷ among parts
a_word [] parts h = absurd (omega arith)
a_word (byte ∷ more) parts h = grind (arith, common_steps)

no_word : (part : List ℕ) (parts : List (List ℕ)) → length part ≡ 0 → among (part ∷ parts) ≡ among parts
no_word part parts h = rw h refl

pub word_first : (text : List ℕ) → 0 < length (before_first is_blank text) → words_of text ≡ before_first is_blank text ∷ words_of (after_first is_blank text)
word_first text some = first_part text ∙ a_word (before_first is_blank text) (slice_split is_blank (after_first is_blank text)) some

pub blank_first : (text : List ℕ) → length (before_first is_blank text) ≡ 0 → words_of text ≡ words_of (after_first is_blank text)
blank_first text none = first_part text ∙ no_word (before_first is_blank text) (slice_split is_blank (after_first is_blank text)) none

-- where no blank stands first, a word begins
starts : (byte : ℕ) (line : List ℕ) → is_blank byte ≡ false → 0 < length (before_first is_blank (byte ∷ line))
starts byte line h = grind (arith, common_steps)

pub first_of : (line : List ℕ) → 0 < length line → is_blank (get_or line 0 0) ≡ false → words_of line ≡ before_first is_blank line ∷ words_of (after_first is_blank line)
first_of [] some h = absurd (omega arith)
first_of (byte ∷ line) some h = word_first (byte ∷ line) (starts byte line h)

drop_more : {A : Type 0} (n : ℕ) (all : List A) → drop 1 (drop n all) ≡ drop (suc n) all
drop_more zero [] = refl
drop_more (suc n) [] = refl
drop_more zero (x ∷ xs) = refl
drop_more (suc n) (x ∷ xs) = drop_more n xs

pub drop_one : (n : ℕ) (all rest : List (List ℕ)) (word : List ℕ) → drop n all ≡ word ∷ rest → rest ≡ drop (n + 1) all
drop_one n all rest word h =
    let next : suc n ≡ n + 1 = omega arith in
    let first : rest ≡ drop 1 (word ∷ rest) = grind (arith, common_steps) in
    first ∙ ap (drop 1) (sym h) ∙ drop_more n all ∙ ap (λ k. drop k all) next

pub drop_none : (n : ℕ) (all rest : List (List ℕ)) → drop n all ≡ [] → rest ≡ [] → rest ≡ drop (n + 1) all
drop_none n all rest h e =
    let next : suc n ≡ n + 1 = omega arith in
    e ∙ ap (drop 1) (sym h) ∙ drop_more n all ∙ ap (λ k. drop k all) next

pub drop_next : (n : ℕ) (all before now : List (List ℕ)) (word : Option (Bor (List ℕ))) → before ≡ drop n all →
    MatchOption word ((before ≡ []) × (now ≡ [])) (λ w. before ≡ w.now ∷ now) → now ≡ drop (n + 1) all
drop_next n all before now None at taken = drop_none n all now (sym at ∙ taken.0) taken.1
drop_next n all before now (Some word) at taken = drop_one n all now word.now (sym at ∙ taken)

-- one word more is kept
pub kept_more : (words left rest : List (List ℕ)) (first : List (Bor (List ℕ))) (count : ℕ) (part : Bor (List ℕ)) → count < length first →
    words ≡ map (λ word. word.now) (take count first) ++ left → left ≡ part.now ∷ rest → words ≡ map (λ word. word.now) (take (count + 1) (set first count part)) ++ rest
kept_more words left rest first count part room is next =
    let before : List (List ℕ) = map (λ (word : Bor (List ℕ)). word.now) (take count first) in
    let now : map (λ (word : Bor (List ℕ)). word.now) (take (count + 1) (set first count part)) ≡ before ++ part.now ∷ [] =
    ap (map (λ (word : Bor (List ℕ)). word.now)) (take-set_at first count (count + 1) part refl room) ∙ map-append (λ (word : Bor (List ℕ)). word.now) (take count first) (part ∷ []) in
    is ∙ ap (λ more. before ++ more) next ∙ sym (append_assoc before (part.now ∷ []) rest) ∙ ap (λ front. front ++ rest) (sym now)
