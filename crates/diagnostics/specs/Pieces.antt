-- Lines in pieces.
use Rattle.std.specs.Prelude.{ℕ, List, decimal}
use Rattle.std.specs.List.{flat_map}
use Rattle.diagnostics.specs.declared.line.Piece.{Piece}
use Rattle.diagnostics.specs.declared.line.Piece.TheVariants.{Text, Number}

abbrev pub piece_text : Piece → List ℕ
piece_text (Text text) = text.now
piece_text (Number number) = decimal number

unfoldable pub pieces_text : List Piece → List ℕ
pieces_text pieces = flat_map piece_text pieces
