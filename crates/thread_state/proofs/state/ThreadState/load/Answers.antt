use Rattle.std.proofs.Common.{Some, ap, sym, ◌∙◌, rules}
use Rattle.std.specs.Int.{w64}
use Rattle.std.proofs.lemmas.Int.{to_z-of_z}
use Rattle.mem_model.specs.Thread.{load_own}
use Rattle.thread_state.proofs.Held.{holds, own_at, own_none}
use Rattle.thread_state.proofs.state.ThreadState.load.Goals as goal

pub returns-in-Some-clause-value : goal.returns-in-Some-clause-value
returns-in-Some-clause-value c = λ m is.
    let s = c.args.self.now in
    let b = c.index.result.now in
    let h = holds s c.args.number c.in-Some.at c.as_slice.result.now c.as_slice.ensures.value (c.in-Some.ensures.place 0 (search rules)) b (search rules) (search rules) in
    c.load.ensures.value
    ∙ ap (λ z. load_own (Some b.bytes.items) z c.args.cell) (to_z-of_z w64 c.args.offset c.ranges.offset)
    ∙ ap (λ o. load_own o c.args.offset c.args.cell) (sym (own_at m s is c.args.number c.in-Some.at b h))

pub returns-in-None-clause-value : goal.returns-in-None-clause-value
returns-in-None-clause-value c = λ m is.
    ap (λ o. load_own o c.args.offset c.args.cell) (sym (own_none m c.args.self.now is c.args.number c.as_slice.result.now c.as_slice.ensures.value (c.in-None.ensures.place 0 (search rules))))
