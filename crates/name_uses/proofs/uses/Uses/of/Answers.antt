use Rattle.std.proofs.Common.{ap, subst, ◌∙◌}
use Rattle.std.specs.List.{flat_map}
use Rattle.ir_core.specs.Wrappers.{inst_callees, inst_wrappers}
use Rattle.ir_tables.specs.Names.{HasPlaces}
use Rattle.shapes.specs.Uses.{fork_names}
use Rattle.name_uses.proofs.UseLaws.{in_blocks}
use Rattle.name_uses.proofs.uses.Uses.of.Goals as goal

pub returns : goal.returns
returns c =
    let m = c.args.m.now in
    let insts = c.requires in
    record {
      used = c.in_ok-used.ensures;
      called = subst (λ names. HasPlaces names c.in_ok-called.field-0) (ap (flat_map inst_callees) insts ∙ in_blocks inst_callees m) c.in_ok-called.ensures;
      forked = subst (λ names. HasPlaces names c.in_ok-forked.field-0) (ap (flat_map fork_names) insts) c.in_ok-forked.ensures;
      wrapping = subst (λ names. HasPlaces names c.in_ok-wrapping.field-0) (ap (flat_map inst_wrappers) insts ∙ in_blocks inst_wrappers m) c.in_ok-wrapping.ensures;
      elsewhere = c.in_ok-elsewhere.ensures;
    }
