-- How many bytes the parts of a text take.
use Rattle.std.proofs.Common.{◌≡◌, ◌∙◌, sym, ap, ℕ, ◌+◌, ◌*◌, ◌/◌, ◌%◌, List, [], ◌∷◌, ◌++◌, length, true, false, Bool, decimal, length-append, arith}
use Rattle.std.specs.Prelude.{ℤ, pos, int_lt, unsigned_abs, if◌then◌else◌}
use Rattle.fem_fixed.specs.Mesh.{Mesh}
use Rattle.fem_text.specs.Written.{text_of}
use Rattle.fem_text.proofs.Joined.{text_joins}
use Rattle.ucd_write.specs.Coordinates.{last_digits, minus, size_word, coordinate}
use Rattle.ucd_write.specs.Text.{header_line, node_lines, quad_lines, edge_lines, cell_lines, mesh_text}
use Rattle.ucd_write.proofs.Sixteen.{last_length}

size_length : (size : ℕ) → length (size_word size) ≡ length (decimal (size / 65536)) + 17
unfolding size_word
size_length size =
    let rest = last_length 16 (size % 65536 * 152587890625) in
    omega (arith, length-append (decimal (size / 65536)) (46 ∷ last_digits 16 (size % 65536 * 152587890625)), rest)

minus_length : (negative : Bool) (rest : List ℕ) → length (minus negative ++ rest) ≡ length rest + (if negative then 1 else 0)
minus_length true rest = omega arith
minus_length false rest = omega arith

pub coordinate_length : (ticks : ℤ) → length (coordinate ticks) ≡ length (decimal (unsigned_abs ticks / 65536)) + 17 + (if int_lt ticks (pos 0) then 1 else 0)
unfolding coordinate
coordinate_length ticks =
    minus_length (int_lt ticks (pos 0)) (size_word (unsigned_abs ticks)) ∙ ap (λ n. n + (if int_lt ticks (pos 0) then 1 else 0)) (size_length (unsigned_abs ticks))

both_length : (lines more : List (List ℕ)) → length (text_of (lines ++ more)) ≡ length (text_of lines) + length (text_of more)
both_length lines more = ap length (sym (text_joins [] lines more)) ∙ length-append (text_of lines) (text_of more)

pub mesh_length : (mesh : Mesh) (nodes cells next a b c d : ℕ) → nodes ≡ length mesh.points → cells ≡ length mesh.quads + length mesh.lines → next ≡ length mesh.quads + 1 →
    a ≡ length (text_of (header_line nodes cells ∷ [])) → b ≡ length (text_of (node_lines mesh.ids mesh.points)) → c ≡ length (text_of (quad_lines mesh.ids 1 mesh.quads)) →
    d ≡ length (text_of (edge_lines mesh.ids next mesh.lines)) → a + b + c + d ≡ length (mesh_text mesh)
unfolding mesh_text
mesh_length mesh nodes cells next a b c d n k e ha hb hc hd =
    let header : List ℕ = header_line (length mesh.points) (length mesh.quads + length mesh.lines) in
    let first : a ≡ length (text_of (header ∷ [])) = ha ∙ (λ i. length (text_of (header_line (n i) (k i) ∷ []))) in
    let last : d ≡ length (text_of (edge_lines mesh.ids (length mesh.quads + 1) mesh.lines)) = hd ∙ ap (λ m. length (text_of (edge_lines mesh.ids m mesh.lines))) e in
    let all = both_length (header ∷ []) (node_lines mesh.ids mesh.points ++ cell_lines mesh) in
    let rest = both_length (node_lines mesh.ids mesh.points) (cell_lines mesh) in
    let cell = both_length (quad_lines mesh.ids 1 mesh.quads) (edge_lines mesh.ids (length mesh.quads + 1) mesh.lines) in
    omega (arith, first, hb, hc, last, all, rest, cell)
