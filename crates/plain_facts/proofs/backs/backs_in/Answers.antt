use Rattle.std.proofs.Common.{[], ◌++◌, ap, ◌∙◌, List}
use Rattle.std.specs.List.{flat_map}
use Rattle.ir_core.specs.declared.instructions.Inst.{Inst}
use Rattle.shapes.specs.Insts.{insts_seen}
use Rattle.plain_facts.specs.Backs.{function_backs, inst_backs}
use Rattle.register_hops.proofs.PlacedLaws.{placed_more}
use Rattle.plain_facts.proofs.backs.backs_in.Goals as goal

pub loop-at-preserved : goal.loop-at-preserved
loop-at-preserved c =
    let m = c.args.numbering.now in
    let at = c.loop-at.at in
    let insts = ap insts_seen c.as_slice.ensures ∙ c.in_ok-insts.ensures in
    placed_more (function_backs m) c.as_slice-functions.result.now at c.index-functions-at.result [] c.loop-at.hops c.add_insts.new.hops c.loop-at-test.true c.index-functions-at.is c.loop-at.invariant
    (c.in_ok-add_insts.ensures ∙ ap (λ (is : List Inst). c.loop-at.hops ++ flat_map (inst_backs m at) is) insts)
