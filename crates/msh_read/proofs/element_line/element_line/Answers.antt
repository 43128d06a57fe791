use Rattle.std.proofs.Common.{◌∙◌, sym, ap, ℕ, ◌<◌, ◌^◌, ◌+◌, drop, arith, List}
use Rattle.fem_text.specs.Lines.{words_of}
use Rattle.std.proofs.lemmas.Result.{err_from_is_err_and}
use Rattle.mesh_nodes.specs.Nodes.{ids_of}
use Rattle.mesh_nodes.specs.NodeTable.{node_list}
use Rattle.msh_read.specs.Numbers.{last_of}
use Rattle.msh_read.specs.Elements.{front_of, placed_element}
use Rattle.msh_read.proofs.Kept.{placed_row, other_count, no_ids, no_front}
use Rattle.msh_read.proofs.element_line.element_line.Goals as goal

pub returns-in_err-front : goal.returns-in_err-front
returns-in_err-front c =
    let p = err_from_is_err_and c.from_residual.result c.from_residual.ensures.1 in
    rw (p.1, p.2)
    (no_front (ids_of (node_list c.args.nodes.now)) c.args.quads (words_of c.args.line.now.bytes.now) c.in_err-front.field-0.0
    (sym (c.in_err-front.ensures.value ∙ ap front_of c.of-words.ensures)))

pub returns-in_default : goal.returns-in_default
returns-in_default c =
    no_ids (ids_of (node_list c.args.nodes.now)) c.args.quads (words_of c.args.line.now.bytes.now) c.read_front.new.words c.in_ok-front.front
    (sym (c.in_ok-front.ensures.value ∙ ap front_of c.of-words.ensures)) (c.in_ok-front.ensures.left ∙ ap (drop 3) c.of-words.ensures) c.in_default.ensures.value

pub returns-then-numbers-front : goal.returns-then-numbers-front
returns-then-numbers-front c =
    let small : c.in_ok-front.front.tags < 2 ^ 32 = omega arith in
    other_count (ids_of (node_list c.args.nodes.now)) c.args.quads (words_of c.args.line.now.bytes.now) c.read_front.new.words c.in_ok-front.front c.in-Some.numbers
    (sym (c.in_ok-front.ensures.value ∙ ap front_of c.of-words.ensures)) (c.in_ok-front.ensures.left ∙ ap (drop 3) c.of-words.ensures) c.in-Some.ensures.value small
    (λ same. c.if-numbers-front.true (same ∙ ap (λ n. c.in_ok-front.front.tags + n) (sym c.corner_count.ensures.count)))

pub returns : goal.returns
returns c =
    let small : c.in_ok-front.front.tags < 2 ^ 32 = omega arith in
    let ids : List ℕ = ids_of (node_list c.args.nodes.now) in
    c.placed_element.ensures
    ∙ ap (λ tag. placed_element ids c.in_ok-front.front.shape tag c.args.quads (last_of c.in_ok-front.front.shape c.in-Some.numbers.last)) c.first_tag-tag.ensures
    ∙ placed_row ids c.args.quads (words_of c.args.line.now.bytes.now) c.read_front.new.words c.in_ok-front.front c.in-Some.numbers
    (sym (c.in_ok-front.ensures.value ∙ ap front_of c.of-words.ensures)) (c.in_ok-front.ensures.left ∙ ap (drop 3) c.of-words.ensures) c.in-Some.ensures.value small
    (c.if-numbers-front.false ∙ ap (λ n. c.in_ok-front.front.tags + n) c.corner_count.ensures.count)
