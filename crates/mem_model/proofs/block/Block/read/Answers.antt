use Rattle.std.proofs.Common.{false, Some, ap, ◌∙◌}
use Rattle.std.specs.Int.{w64}
use Rattle.std.proofs.lemmas.Int.{to_z-of_z}
use Rattle.mem_model.specs.Memory.{access}
use Rattle.mem_model.specs.Kept.{header_of, word_at}
use Rattle.mem_model.proofs.Calls.{word_read}
use Rattle.mem_model.proofs.block.Block.read.Goals as goal

pub returns : goal.returns
returns c =
    let b = c.args.self.now in
    let cell = c.args.cell in
    c.read_word.ensures
    ∙ word_read cell b.bytes.items c.deref.result.now c.in_ok-start.start c.cell_size-size.result c.access.result c.in_ok-start.was c.cell_size-size.ensures c.deref.ensures.value
    ∙ ap (word_at cell b.bytes.items) (c.access.ensures ∙ (λ i. access (Some (header_of b)) (to_z-of_z w64 c.args.offset c.ranges.offset i) (c.cell_size-size.ensures i) false))
