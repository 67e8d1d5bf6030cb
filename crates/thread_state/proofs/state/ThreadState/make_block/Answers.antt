use Rattle.std.proofs.Common.{◌≡◌, ◌+◌, ◌++◌, [], ◌∷◌, refl, rules}
use Rattle.thread_state.specs.declared.state.StackBlock.{StackBlock}
use Rattle.thread_state.proofs.Makes.{made}
use Rattle.thread_state.proofs.state.ThreadState.make_block.Goals as goal

pub returns-clause-seen : goal.returns-clause-seen
returns-clause-seen c = λ m f rest is frames.
    let s = c.args.self.now in
    let b : StackBlock = record { number = s.counter; bytes = c.in_ok-vec.field-0 } in
    let next : c.in-Some.counter ≡ s.counter + 1 = search rules in
    let items : c.push.new.self.items ≡ s.stack.items ++ b ∷ [] = search rules in
    made m s (record s { counter = c.in-Some.counter; stack = c.push.new.self }) b c.args.size f rest items refl refl refl refl next refl refl (search rules) is frames
