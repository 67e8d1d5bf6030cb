use Rattle.std.proofs.Common.{rules, ◌≡◌, ◌≤◌, length, sym, subst}
use Rattle.ir_core.specs.Formed.{Formed, ReadsBack}
use Rattle.ir_core.specs.Text.{Text}
use Rattle.ir_core.specs.Tokens.{text_limit}
use Rattle.text_laws.proofs.Modules.{canonical_text_spells}
use Rattle.ir_print.proofs.module.print_module.Goals as goal

-- the text is the canonical one
pub returns-clause-back : goal.returns-clause-back
returns-clause-back c =
    let e : c.into_list.result ≡ Text c.args.m.now = search rules in
    subst (λ text. Formed c.args.m.now → length text ≤ text_limit → ReadsBack text c.args.m.now) (sym e) (canonical_text_spells c.args.m.now)
