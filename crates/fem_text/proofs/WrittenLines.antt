-- The lines of a text that was made of lines.
use Rattle.std.proofs.Common.{◌≡◌, ◌∙◌, ap, refl, ℕ, ◌+◌, ◌-◌, ◌<◌, List, [], ◌∷◌, ◌++◌, length, map, Bool, true, false, append_assoc, arith}
use Rattle.std.specs.Prelude.{filter, ◌==◌, None}
use Rattle.std.specs.List.{list_all, slice_split, slice_index}
use Rattle.std.specs.Str.Lines.{strip_carriage_return}
use Rattle.std.proofs.lemmas.Bool.Decides.{nat_tests}
use Rattle.std.proofs.lemmas.List.Elements.{All-weaker}
use Rattle.std.proofs.lemmas.List.Splits.{slice_split_at, length-slice_split}
use Rattle.std.proofs.lemmas.List.Sums.{AllPass-from_list_all}
use Rattle.fem_text.specs.Lines.{without_empty_end, lines_of}
use Rattle.fem_text.specs.WordLines.{Line, numbered, has_words, counts, lines_from, text_lines}
use Rattle.fem_text.specs.Written.{text_of}
use Rattle.fem_text.proofs.WrittenWords.{is_shown}

pub record IsLine (line : List ℕ) : Type 0 where
  pub shown : list_all is_shown line ≡ true
  pub words : has_words line ≡ true

abbrev pub AreLines : List (List ℕ) → Type 0
AreLines [] = Unit {0}
AreLines (line ∷ lines) = IsLine line × AreLines lines

abbrev ends_line : ℕ → Bool
ends_line byte = byte == 10

no_end : (byte : ℕ) → is_shown byte ≡ true → ends_line byte ≡ false
no_end byte h = grind (arith, nat_tests)

more_lines : (line : List ℕ) (parts : List (List ℕ)) → 0 < length parts → without_empty_end (line ∷ parts) ≡ line ∷ without_empty_end parts
more_lines line [] h = absurd (omega arith)
more_lines line (part ∷ parts) h = refl

split_line : (line rest : List ℕ) → IsLine line → slice_split ends_line ((line ++ 10 ∷ []) ++ rest) ≡ line ∷ slice_split ends_line rest
split_line line rest is =
    ap (slice_split ends_line) (append_assoc line (10 ∷ []) rest) ∙
    slice_split_at ends_line line 10 rest
    (All-weaker (λ byte. is_shown byte ≡ true) (λ byte. ends_line byte ≡ false) no_end line (AllPass-from_list_all is_shown line is.shown)) refl

split_lines : (lines : List (List ℕ)) → AreLines lines → without_empty_end (slice_split ends_line (text_of lines)) ≡ lines
split_lines [] are = refl
split_lines (line ∷ lines) are =
    let rest = text_of lines in
    let some : 0 < length (slice_split ends_line rest) = omega (arith, length-slice_split ends_line rest) in
    ap without_empty_end (split_line line rest are.0) ∙ more_lines line (slice_split ends_line rest) some ∙ ap (λ rest. line ∷ rest) (split_lines lines are.1)

shown_at : (line : List ℕ) (k : ℕ) → list_all is_shown line ≡ true → k < length line → is_shown (slice_index line k) ≡ true
shown_at line k h within = AllPass-from_list_all is_shown line h k 0 within

no_return : (byte : ℕ) → is_shown byte ≡ true → (byte == 13) ≡ false
no_return byte h = grind (arith, nat_tests)

ends_without_return : (line : List ℕ) → list_all is_shown line ≡ true → (slice_index line (length line - 1) == 13) ≡ false
ends_without_return [] h = refl
ends_without_return (byte ∷ line) h = no_return _ (shown_at (byte ∷ line) (length (byte ∷ line) - 1) h (omega arith))

strip_none : (line : List ℕ) → IsLine line → strip_carriage_return line ≡ line
strip_none line is = rw (ends_without_return line is.shown) refl

strip_lines : (lines : List (List ℕ)) → AreLines lines → map strip_carriage_return lines ≡ lines
strip_lines [] are = refl
strip_lines (line ∷ lines) are = λ i. strip_none line are.0 i ∷ strip_lines lines are.1 i

lines_of_text : (lines : List (List ℕ)) → AreLines lines → lines_of (text_of lines) ≡ lines
lines_of_text lines are = ap (map strip_carriage_return) (split_lines lines are) ∙ strip_lines lines are

line_counts : (line : List ℕ) → IsLine line → counts None line ≡ true
line_counts line is = rw is.words refl

keep_lines : (before : ℕ) (lines : List (List ℕ)) → AreLines lines → filter (λ (line : Line). counts None line.bytes) (numbered before lines) ≡ numbered before lines
keep_lines before [] are = refl
keep_lines before (line ∷ lines) are =
    rw (line_counts line are.0) (ap (λ (rest : List Line). record { number = before + 1; bytes = line } ∷ rest) (keep_lines (before + 1) lines are.1))

-- all lines of the text count
pub counted_lines : (lines : List (List ℕ)) → AreLines lines → text_lines None (text_of lines) ≡ record { ahead = numbered 0 lines; past = 0 + length lines + 1 }
unfolding lines_from
counted_lines lines are =
    let all = lines_of_text lines are in
    ap (λ lines. lines_from None 0 lines) all ∙ (λ i. record { ahead = keep_lines 0 lines are i; past = 0 + length lines + 1 })
