-- Comments, which may stand before the header.
use Rattle.std.specs.Prelude.{ℕ, List, None}
use Rattle.fem_text.specs.WordLines.{Lines, text_lines, behind_comments}

-- behind the comments at the front, which begin with `#`
abbrev pub from_header : Lines → Lines
from_header lines = behind_comments 35 lines

-- the lines of a text that count: the header, and all lines with words behind it
abbrev pub counted_lines : List ℕ → Lines
counted_lines text = from_header (text_lines None text)
