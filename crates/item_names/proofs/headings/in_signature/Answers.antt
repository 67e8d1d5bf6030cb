use Rattle.std.proofs.Common.{Bool, [], sym, ap, ◌∙◌, if◌then◌else◌}
use Rattle.ir_core.specs.NameRefusals.{in_declaration}
use Rattle.ir_core.proofs.EntryPoints.{is_entry_point-some, is_entry_point-none}
use Rattle.name_tables.specs.Least.{least_of}
use Rattle.item_names.proofs.headings.in_signature.Goals as goal

pub returns-in-None : goal.returns-in-None
returns-in-None c =
    let f = c.args.f.now in
    sym (ap (λ (b : Bool). least_of (if b then in_declaration f f.blocks else [])) (is_entry_point-none f.name c.in-None.ensures))

pub returns-in-Some : goal.returns-in-Some
returns-in-Some c =
    let f = c.args.f.now in
    c.in_declaration.ensures ∙ sym (ap (λ (b : Bool). least_of (if b then in_declaration f f.blocks else [])) (is_entry_point-some f.name c.in-Some.entry_point c.in-Some.ensures))
