-- A module that is made of parts is spelled by its canonical text.
use Rattle.std.proofs.Common.{◌≡◌, map, refl, ◌∙◌}
use Rattle.ir_core.specs.declared.module.Module.{Module}
use Rattle.ir_core.specs.Tokens.{text_start, lexemes, tokens_from}
use Rattle.ir_core.specs.Text.{Text}
use Rattle.ir_core.specs.Formed.{Formed}
use Rattle.text_laws.specs.Parts.{FormedParts}
use Rattle.text_laws.proofs.Rows.{bare_of, bare_tokens}
use Rattle.text_laws.proofs.Modules.{module_back, whole_text}

pub formed_of_parts : (m : Module) → FormedParts m → Formed m
formed_of_parts m h =
    let b = module_back m h in
    let r = (whole_text m b).at text_start refl refl in
    let ts = lexemes (Text m) (tokens_from (Text m) 0 r.pieces) in
    let e : map bare_of ts ≡ b.tokens = bare_tokens (Text m) 0 r.pieces ∙ r.tokens in
    let a = b.spelled.all ts e in
    record { text = Text m; bytes = r.bytes; pieces = r.pieces; whole = r.make_up; spelled = a.0; spells = a.1; same = a.2 }
