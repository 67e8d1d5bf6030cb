use Rattle.std.proofs.Common.{◌≡◌, ◌↔◌, true, sym, subst}
use Rattle.ir_core.specs.declared.module.Module.{Module}
use Rattle.spmd_rules.specs.Rules.{StoresStack, AccessesStack}
use Rattle.spmd_judge.specs.declared.insts.InstRule.{InstRule}
use Rattle.spmd_judge.specs.Judging.{place_of, BreaksInst}
use Rattle.spmd_judge.proofs.insts.breaks_inst.Goals as goal

pub returns-in-StackStored : goal.returns-in-StackStored
returns-in-StackStored c =
    let p = place_of c.args.function c.args.block c.args.index in
    let i = c.args.inst.now in
    let of_rule = subst (λ (m : Module). (c.stores_stack.result ≡ true) ↔ StoresStack m p i) c.requires.facts c.stores_stack.ensures in
    subst (λ (r : InstRule). (c.stores_stack.result ≡ true) ↔ BreaksInst r c.args.m.now p i) (sym c.in-StackStored.is) of_rule

pub returns-in-StackAccessed : goal.returns-in-StackAccessed
returns-in-StackAccessed c =
    let p = place_of c.args.function c.args.block c.args.index in
    let i = c.args.inst.now in
    let of_rule = subst (λ (m : Module). (c.accesses_stack.result ≡ true) ↔ AccessesStack m p i) c.requires.facts c.accesses_stack.ensures in
    subst (λ (r : InstRule). (c.accesses_stack.result ≡ true) ↔ BreaksInst r c.args.m.now p i) (sym c.in-StackAccessed.is) of_rule
