use Rattle.std.proofs.Common.{◌≡◌, drop}
use Rattle.std.specs.List.{flat_map}
use Rattle.ir_core.specs.EntryPoints.{target_init}
use Rattle.ir_core.specs.Wrappers.{is_in, inst_callees}
use Rattle.run_text.proofs.kernels.any_calls_init.Given as goal

-- the answer for the rest is the answer for all
abbrev pub invariant-loop-inst : goal.invariant-loop-inst
invariant-loop-inst l = is_in (flat_map inst_callees (drop l.inst-index l.insts)) target_init ≡ is_in (flat_map inst_callees l.insts) target_init
