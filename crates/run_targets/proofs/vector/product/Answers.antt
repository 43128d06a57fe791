use Rattle.std.proofs.Common.{map}
use Rattle.run_words.specs.Choice.{seen}
use Rattle.run_outputs.specs.Targets.{seen_target}
use Rattle.diagnostics.proofs.StageLaws.{ends_first}
use Rattle.system_setup.specs.SetUp.{IsSetUp}
use Rattle.vector_texts.specs.Product.{ProductTexts}
use Rattle.run_targets.specs.Defines.{scheme_of}
use Rattle.run_targets.proofs.Steps.{next_goes, next_ends}
use Rattle.run_targets.proofs.vector.product.Goals as goal

pub returns-in-Err-clause-ends : goal.returns-in-Err-clause-ends
returns-in-Err-clause-ends g c =
    ends_first (IsSetUp (scheme_of (seen c.args.options.now)) c.args.read.0 c.args.read.1) (ProductTexts (seen c.args.options.now).output c.args.values.now) c.in-Err.ending c.in-Err.ensures.ends

pub returns-in-Ok-clause-ok : goal.returns-in-Ok-clause-ok
returns-in-Ok-clause-ok g c =
    next_goes (IsSetUp (scheme_of (seen c.args.options.now)) c.args.read.0 c.args.read.1) (ProductTexts (seen c.args.options.now).output c.args.values.now) (λ targets. map seen_target targets.items) c.in-Ok.setup c.product_targets.result
    c.in-Ok.ensures.ok c.product_targets.ensures.ok

pub returns-in-Ok-clause-ends : goal.returns-in-Ok-clause-ends
returns-in-Ok-clause-ends g c =
    next_ends (IsSetUp (scheme_of (seen c.args.options.now)) c.args.read.0 c.args.read.1) (ProductTexts (seen c.args.options.now).output c.args.values.now) c.in-Ok.setup c.product_targets.result c.in-Ok.ensures.ok c.product_targets.ensures.ends
