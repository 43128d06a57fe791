-- Written right sides are read back.
use Rattle.std.proofs.Common.{◌≡◌, refl, ℕ, ◌<◌, ◌^◌, List, [], ◌∷◌, length, map, false, arith, decimal}
use Rattle.std.specs.Prelude.{Ok, ℤ, All, codes}
use Rattle.std.specs.Fmt.{signed_decimal}
use Rattle.std.specs.Int.{w128}
use Rattle.std.specs.Int.RustNames.{FitsSigned}
use Rattle.std.proofs.lemmas.List.Elements.{All-head, All-tail}
use Rattle.fem_text.specs.Lines.{words_of}
use Rattle.fem_text.specs.WordLines.{starts_with}
use Rattle.fem_text.specs.Words.{id_at, this_word}
use Rattle.matrix_market.specs.Texts.{vector_size_line, vector_front, vector_text}
use Rattle.matrix_market.specs.Lines.{banner_line, vector_size, value_at, vector_entry}
use Rattle.matrix_market.specs.Market.{VectorText, vector_form}
use Rattle.fem_text.proofs.WrittenWords.{AreWords, words_of_line, line_has_words, line_is_shown}
use Rattle.fem_text.proofs.WrittenLines.{IsLine, AreLines}
use Rattle.fem_text.proofs.Decimals.{decimal_digits, decimal_word, signed_word, no_first_mark, id_of_decimal}
use Rattle.matrix_market.proofs.Decimals.{value_of_signed}
use Rattle.matrix_market.proofs.ReadBack.{GiveBack, IsText, says_back}
use Rattle.matrix_market.proofs.Matrices.{unit_is_line}

value_given : (value : ℤ) → FitsSigned w128 value → vector_entry (words_of (signed_decimal value)) ≡ Ok value
unfolding vector_entry value_at
value_given value fits = rw (words_of_line (signed_decimal value) [] (signed_word value fits) tt, value_of_signed value fits) refl

values_given : (values : List ℤ) → All (FitsSigned w128) values → GiveBack vector_entry signed_decimal values
values_given [] fit = tt
values_given (value ∷ values) fit =
    (value_given value (All-head (FitsSigned w128) value values fit), values_given values (All-tail (FitsSigned w128) value values fit))

value_lines : (values : List ℤ) → All (FitsSigned w128) values → AreLines (map signed_decimal values)
value_lines [] fit = tt
value_lines (value ∷ values) fit =
    let is = signed_word value (All-head (FitsSigned w128) value values fit) in (
      record { shown = line_is_shown (signed_decimal value) [] is tt; words = line_has_words (signed_decimal value) [] is tt },
      value_lines values (All-tail (FitsSigned w128) value values fit),
    )

size_words : (size : ℕ) → size < 2 ^ 32 → AreWords (decimal size ∷ codes "1" ∷ [])
size_words size h = (decimal_word size (omega arith), (record { plain = refl; some = omega arith }, tt))

size_given : (size : ℕ) → size < 2 ^ 32 → vector_size (words_of (vector_size_line size)) ≡ Ok size
unfolding vector_size id_at this_word
size_given size h =
    let are = size_words size h in
    rw (words_of_line (decimal size) (codes "1" ∷ []) are.0 are.1, id_of_decimal size h) refl

size_is_line : (size : ℕ) → size < 2 ^ 32 → IsLine (vector_size_line size)
size_is_line size h =
    let are = size_words size h in
    record { shown = line_is_shown (decimal size) (codes "1" ∷ []) are.0 are.1; words = line_has_words (decimal size) (codes "1" ∷ []) are.0 are.1 }

size_no_comment : (size : ℕ) → size < 2 ^ 32 → starts_with 37 (vector_size_line size) ≡ false
size_no_comment size h =
    let are = decimal_digits size (omega arith) in
    no_first_mark (decimal size) (32 ∷ codes "1") 37 are.digits are.some (omega arith)

abbrev banner : List ℕ
banner = codes "%%MatrixMarket matrix array integer general"

banner_is : banner_line (codes "array") (words_of banner) ≡ Ok tt
unfolding banner_line this_word
banner_is = refl

banner_is_line : IsLine banner
banner_is_line = record { shown = refl; words = refl }

vector_parts : (values : List ℤ) → length values < 2 ^ 32 → All (FitsSigned w128) values → IsText vector_form banner (vector_size_line (length values)) signed_decimal (length values) values
vector_parts values h fit = record {
  lines = (banner_is_line, (unit_is_line, (size_is_line (length values) h, value_lines values fit)));
  banner_is = banner_is;
  no_comment = size_no_comment (length values) h;
  size_is = size_given (length values) h;
  count = refl;
  given = values_given values fit;
}

pub vector_read_back : (values : List ℤ) → length values < 2 ^ 32 → All (FitsSigned w128) values → VectorText (vector_text values) values
unfolding vector_text vector_front
vector_read_back values h fit = record {
  size = length values;
  says = says_back vector_form banner (vector_size_line (length values)) signed_decimal (length values) values (vector_parts values h fit);
}
