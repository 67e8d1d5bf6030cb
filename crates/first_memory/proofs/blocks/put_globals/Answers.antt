use Rattle.std.proofs.Common.{◌+◌, sym, subst, ap, ◌∙◌, get_or}
use Rattle.mem_model.specs.Memory.{Memory}
use Rattle.first_memory.specs.Blocks.{HasNoGlobals}
use Rattle.first_memory.proofs.Fresh.{globals_after}
use Rattle.first_memory.proofs.Puts.{next_global}
use Rattle.first_memory.proofs.blocks.put_globals.Goals as goal

pub loop-at-preserved : goal.loop-at-preserved
loop-at-preserved c =
    let i = c.loop-at.at in
    let old = c.loop-at.memory in
    let g = c.global-item.result in
    let put = c.in_ok-put_global.ensures in
    let all = c.as_slice-global-items.ensures ∙ ap (λ m. m.globals) c.module.ensures in
    let within = c.loop-at-test.true in
    record {
      fresh = subst (λ (m : Memory). HasNoGlobals m (i + 1)) (sym put) (globals_after old i _ g.constant c.loop-at.invariant.fresh);
      same = next_global c.args.m.now i c.args.m.now.globals g old c.put_global.new.memory _ (rw all at within) (c.global-item.is ∙ ap (λ gs. get_or gs i g) all) put c.loop-at.invariant.same;
    }
