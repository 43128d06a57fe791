use Rattle.std.proofs.Common.{◌∙◌, ap, map, List, ℕ, [], ◌∷◌}
use Rattle.run_words.specs.Choice.{seen_output}
use Rattle.run_outputs.specs.Targets.{seen_target, first_target}
use Rattle.vector_texts.proofs.Chain.{vector_ends_product, product_ends, product_goes}
use Rattle.vector_texts.proofs.product.product_targets.Goals as goal

pub returns-in-Err-clause-ends : goal.returns-in-Err-clause-ends
returns-in-Err-clause-ends g c =
    vector_ends_product (seen_output c.args.options.now.output) c.args.setup.now c.args.values.now c.as_slice.result.now c.size.result c.in-Err.ending c.size.ensures c.as_slice.ensures
    c.in-Err.ensures.ends

pub returns-in-Err-product_of-clause-ends : goal.returns-in-Err-product_of-clause-ends
returns-in-Err-product_of-clause-ends g c =
    product_ends (seen_output c.args.options.now.output) c.args.setup.now c.args.values.now c.as_slice.result.now c.in-Ok.x.items c.as_slice-2.result.now c.size.result c.in-Err-product_of.ending
    (record { size_is = c.size.ensures; seen_is = c.as_slice.ensures; fits = c.in-Ok.ensures.ok; same = c.as_slice-2.ensures.value }) c.in-Err-product_of.ensures.ends

pub returns-clause-ok : goal.returns-clause-ok
returns-clause-ok g c =
    product_goes (seen_output c.args.options.now.output) c.args.setup.now c.args.values.now c.as_slice.result.now c.in-Ok.x.items c.as_slice-2.result.now c.size.result
    c.in-Ok-product_of.list.items c.as_slice-3.result.now (map seen_target c.in_ok-targets.targets.items)
    (record { size_is = c.size.ensures; seen_is = c.as_slice.ensures; fits = c.in-Ok.ensures.ok; same = c.as_slice-2.ensures.value }) c.in-Ok-product_of.ensures.ok c.as_slice-3.ensures.value
    (c.in_ok-targets.ensures ∙ ap (λ (text : List ℕ). first_target (seen_output c.args.options.now.output) text ∷ []) c.in_ok-text.ensures)
