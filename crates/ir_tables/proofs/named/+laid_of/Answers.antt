use Rattle.std.proofs.Common.{◌≡◌, ◌+◌, option_copied, ap, sym, ◌∙◌, arith}
use Rattle.ir_tables.proofs.Ranks.{list_falls}
use Rattle.ir_tables.proofs.named.+laid_of.Goals as goal

pub name_laid-laid_of-requires : goal.name_laid-laid_of-requires
name_laid-laid_of-requires t c =
    let less = c.in_ok-less-in-InList.ensures in
    let one : c.in-InList.depth ≡ c.in_ok-less-in-InList.less + 1 = omega arith in
    let body = sym c.body_of.ensures ∙ ap option_copied c.in_ok-body-in-InList.was in
    let below = list_falls c.args.named c.in-InList.types c.in-InList.depth c.in_ok-less-in-InList.less c.args.name.now c.in_ok-body-in-InList.body.now c.in-InList.is one body in
    let measure = c.decreases in
    (omega arith, tt)
