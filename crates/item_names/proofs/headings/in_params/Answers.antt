use Rattle.ir_core.specs.NameRefusals.{in_param}
use Rattle.name_tables.proofs.ConstructLaws.{least_append, least_more}
use Rattle.ir_core.specs.Typing.{expects, in_type}
use Rattle.ir_core.specs.FirstForm.{is_scalar}
use Rattle.item_names.proofs.headings.in_params.Goals as goal

pub loop-param-preserved : goal.loop-param-preserved
loop-param-preserved c =
    let p = c.param-item.result in
    let more = least_more (in_param c.args.tables.now) c.args.params.now c.loop-param.param-index p p c.loop-param-test.true c.param-item.is in
    let one = least_append (in_type c.args.tables.now p.ty) (expects (is_scalar p.ty)) in
    cc
