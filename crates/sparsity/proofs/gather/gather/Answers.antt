use Rattle.std.proofs.Common.{◌∙◌, arith}
use Rattle.sparsity.proofs.Chaining.{gather_first, link_within, next_within, gather_next, gather_last}
use Rattle.sparsity.specs.Coupled.{share_list}
use Rattle.sparsity.proofs.gather.gather.Goals as goal

pub loop-link-init : goal.loop-link-init
loop-link-init c = record {
  link = link_within c.args.lists.now c.args.chains.now.heads.items c.args.chains.now.nodes.items (share_list c.args.lists.now) c.args.i c.index-link.result.now c.requires.row c.requires.chains c.index-link.ensures;
  rest = λ d. gather_first c.args.lists.now c.args.chains.now.heads.items c.args.chains.now.nodes.items c.args.i c.index-link.result.now d c.push.new.self.items c.requires.row c.requires.chains c.index-link.ensures
      (rw c.clear.ensures.items at c.in_ok-push.ensures.items);
}

pub loop-link-preserved : goal.loop-link-preserved
loop-link-preserved c = record {
  link = (let next = next_within c.args.lists.now c.args.chains.now.heads.items c.args.chains.now.nodes.items (share_list c.args.lists.now) c.loop-link.link c.index-node.result.now c.loop-link-test.true c.loop-link.invariant.link
      c.index-node.ensures c.requires.chains in omega (arith, next.0, c.loop-link.invariant.link));
  rest = λ d. gather_next c.args.lists.now c.args.chains.now.heads.items c.args.chains.now.nodes.items (share_list c.args.lists.now) c.loop-link.link d c.index-node.result.now c.loop-link.row.items c.get.result.now
      c.extend_from_slice.new.self.items c.loop-link-test.true c.loop-link.invariant.link c.index-node.ensures c.requires.chains c.get.ensures c.in_ok-extend_from_slice.ensures.items
      ∙ c.loop-link.invariant.rest d;
}

pub returns : goal.returns
returns c = λ d.
    gather_last c.args.lists.now c.args.chains.now.nodes.items c.args.i c.loop-link.link d c.loop-link.row.items (omega (arith, c.loop-link-test.false)) (c.loop-link.invariant.rest d)
