use Rattle.std.proofs.Common.{◌∙◌, ap, arith}
use Rattle.mem_model.specs.Memory.{with_block}
use Rattle.mem_model.proofs.Calls.{limit_is, too_large, is_made}
use Rattle.mem_model.proofs.shared.Memory.allocate.Goals as goal

pub returns-then-len-gt-BLOCK_LIMIT : goal.returns-then-len-gt-BLOCK_LIMIT
returns-then-len-gt-BLOCK_LIMIT c =
    let above = c.if-len-gt-BLOCK_LIMIT.true in
    too_large (Unit {0}) c.args.self.now c.args.name c.args.len c.args.constant (omega (arith, limit_is))

pub returns : goal.returns
returns c =
    let within = c.if-len-gt-BLOCK_LIMIT.false in
    let zeros = c.in_ok-bytes.ensures.items_if_clones_equal (λ y e. e) in
    is_made c.args.self.now _ c.args.name c.args.len c.args.constant _ (omega (arith, limit_is)) (c.in_ok-put_block.ensures ∙ ap (λ bs. with_block c.args.self.now c.args.name c.args.constant bs) zeros)
