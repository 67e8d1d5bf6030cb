use Rattle.std.proofs.Common.{◌≡◌, ℕ, ◌+◌, suc, ap, ◌++◌, ◌∷◌, take, drop, ◌∙◌, arith}
use Rattle.std.proofs.lemmas.List.{length-set, set_split}
use Rattle.mem_model.specs.Memory.{Header}
use Rattle.mem_model.proofs.block.Block.set.Goals as goal

pub returns : goal.returns
returns c =
    let b = c.args.self.now in
    let header : ℕ → Header = λ n. record { size = n; constant = b.constant; released = b.released } in (
      ap header (length-set b.bytes.items c.args.at c.args.byte),
      set_split b.bytes.items c.args.at c.args.byte c.requires ∙ ap (λ n. take c.args.at b.bytes.items ++ (c.args.byte ∷ drop n b.bytes.items)) (let e : suc c.args.at ≡ c.args.at + 1 = omega arith in e),
    )
