-- The lines of a text that count, with their numbers, as a reader passes over them.
use Rattle.std.specs.Prelude.{ℕ, ◌+◌, List, [], ◌∷◌, length, drop, filter, Bool, false, not, nat_lt, ◌==◌, ◌&&◌, if◌then◌else◌, Some, None}
use Rattle.std.specs.declared.option.Option.{Option}
use Rattle.std.specs.List.{slice_get}
use Rattle.fem_text.specs.Lines.{lines_of, words_of}

-- a line and its number, counted from 1
pub record Line : Type 0 where
  pub number : ℕ
  pub bytes : List ℕ

-- lines with their numbers, behind this many other lines
abbrev pub numbered : ℕ → List (List ℕ) → List Line
numbered before [] = []
numbered before (bytes ∷ more) = record { number = before + 1; bytes = bytes } ∷ numbered (before + 1) more

abbrev pub has_words : List ℕ → Bool
has_words bytes = nat_lt 0 (length (words_of bytes))

abbrev pub starts_with : ℕ → List ℕ → Bool
starts_with mark [] = false
starts_with mark (byte ∷ more) = byte == mark

-- the first byte is the mark of comments, where comments may stand anywhere
abbrev pub is_comment : Option ℕ → List ℕ → Bool
is_comment None bytes = false
is_comment (Some mark) bytes = starts_with mark bytes

-- a line with words that is no comment
abbrev pub counts : Option ℕ → List ℕ → Bool
counts comments bytes = has_words bytes && not (is_comment comments bytes)

-- lines that are left, and the number that the line after the last one of the text would have
pub record Lines : Type 0 where
  pub ahead : List Line
  pub past : ℕ

-- the lines that count among these, which stand behind this many others
unfoldable pub lines_from : Option ℕ → ℕ → List (List ℕ) → Lines
lines_from comments before lines =
    record { ahead = filter (λ (line : Line). counts comments line.bytes) (numbered before lines); past = before + length lines + 1 }

-- the lines of a text that count
abbrev pub text_lines : Option ℕ → List ℕ → Lines
text_lines comments text = lines_from comments 0 (lines_of text)

-- without the first lines
abbrev pub behind : ℕ → Lines → Lines
behind count lines = record { ahead = drop count lines.ahead; past = lines.past }

-- the number of a line, or of the end of the text
abbrev pub number_or : ℕ → Option Line → ℕ
number_or past None = past
number_or past (Some line) = line.number

-- the number of the line at a place
abbrev pub number_at : Lines → ℕ → ℕ
number_at lines place = number_or lines.past (slice_get lines.ahead place)

-- without the lines at the front that begin with this byte
abbrev pub without_comments : ℕ → List Line → List Line
without_comments mark [] = []
without_comments mark (line ∷ more) = if starts_with mark line.bytes then without_comments mark more else line ∷ more

-- the same, of lines that are left
abbrev pub behind_comments : ℕ → Lines → Lines
behind_comments mark lines = record { ahead = without_comments mark lines.ahead; past = lines.past }
