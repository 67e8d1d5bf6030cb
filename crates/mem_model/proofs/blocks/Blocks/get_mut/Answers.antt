use Rattle.std.proofs.Common.{◌≡◌, refl, sym, ap, ◌∙◌}
use Rattle.mem_model.specs.declared.memory.BlockName.TheVariants.{Arg, Global}
use Rattle.mem_model.specs.Rows.{block_in}
use Rattle.mem_model.proofs.Puts.{if_some, arg_put, global_put, heap_put, args_same, globals_same, heap_same, not_counted, tree_has, tree_same, tree_lent}
use Rattle.mem_model.proofs.blocks.Blocks.get_mut.Goals as goal

pub returns-in-Arg : goal.returns-in-Arg
returns-in-Arg c =
    let b = c.args.self.now in
    let is : c.args.name ≡ Arg c.from.result = c.in-Arg.is ∙ ap Arg (sym c.from.ensures) in (
      (refl, (λ w. if_some c.get_mut.result _ _ (arg_put b (c.get_mut.follows.lender w) c.args.name c.from.result w is) (c.get_mut.follows.holds w)), args_same b c.get_mut.follows.lender-at-none c.get_mut.follows.holds-at-none),
      record { writes_back = tt; value = c.get_mut.ensures.value ∙ sym (ap (block_in b) is) },
    )

pub returns-in-Global : goal.returns-in-Global
returns-in-Global c =
    let b = c.args.self.now in
    let is : c.args.name ≡ Global c.from-in-Global.result = c.in-Global.is ∙ ap Global (sym c.from-in-Global.ensures) in (
      (refl, (λ w. if_some c.get_mut-in-Global.result _ _ (global_put b (c.get_mut-in-Global.follows.lender w) c.args.name c.from-in-Global.result w is) (c.get_mut-in-Global.follows.holds w)), globals_same b c.get_mut-in-Global.follows.lender-at-none c.get_mut-in-Global.follows.holds-at-none),
      record { writes_back = tt; value = c.get_mut-in-Global.ensures.value ∙ sym (ap (block_in b) is) },
    )

pub returns-in-Heap : goal.returns-in-Heap
returns-in-Heap c =
    let b = c.args.self.now in (
      (refl, (λ w. if_some c.get_mut-in-Heap.result _ _ (heap_put b (c.get_mut-in-Heap.follows.lender w) c.args.name c.in-Heap.number w c.in-Heap.is) (c.get_mut-in-Heap.follows.holds w)), heap_same b c.get_mut-in-Heap.follows.lender-at-none c.get_mut-in-Heap.follows.holds-at-none),
      record { writes_back = tt; value = c.get_mut-in-Heap.ensures.value ∙ sym (ap (block_in b) c.in-Heap.is) },
    )

pub returns-in-Stack : goal.returns-in-Stack
returns-in-Stack c =
    let b = c.args.self.now in
    let not = not_counted c.args.name c.in-Stack.is in (
      (refl, (λ w. tree_lent b (c.get_mut-in-Stack.follows.lender w) c.get_mut-in-Stack.result c.args.name w not c.get_mut-in-Stack.ensures.value (λ some. ((c.get_mut-in-Stack.follows.holds w).3 some).0)), tree_same b c.get_mut-in-Stack.follows.lender-at-none c.get_mut-in-Stack.follows.holds-at-none),
      record { writes_back = tt; value = c.get_mut-in-Stack.ensures.value ∙ tree_has b c.args.name not },
    )
