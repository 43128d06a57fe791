-- The head lines of the sections.
use Rattle.std.specs.Prelude.{ℕ, List, codes, nat_le, Ok}
use Rattle.std.specs.declared.result.Result.{Result}
use Rattle.fem_text.specs.Words.{◌>>=◌, exactly, id_at, unless, this_word}
use Rattle.msh_read.specs.declared.fault.MshKind.{MshKind}
use Rattle.msh_read.specs.declared.fault.MshKind.TheVariants as kinds

-- the version 2.2, the file type 0 of texts, and the size of a number, which isn't used; no rows follow
unfoldable pub format_line : List (List ℕ) → Result ℕ MshKind
format_line words = do
  three ← exactly 3 kinds.Format words
  version ← this_word kinds.Format (codes "2.2") words 0
  text ← this_word kinds.Format (codes "0") words 1
  size ← id_at kinds.Format words 2
  Ok 0

-- how many rows follow, which may be at most so many
unfoldable pub count_line : ℕ → List (List ℕ) → Result ℕ MshKind
count_line limit words = do
  one ← exactly 1 kinds.Section words
  count ← id_at kinds.Section words 0
  few ← unless kinds.Limit (nat_le count limit)
  Ok count
