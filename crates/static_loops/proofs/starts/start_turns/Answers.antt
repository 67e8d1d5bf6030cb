use Rattle.std.proofs.Common.{◌≡◌, ℕ, ℤ, ◌∷◌, false, Ok, sym, ap, ◌∙◌, subst, rules, arith, of_z, to_z}
use Rattle.std.specs.Prelude.{◌==◌, if◌then◌else◌}
use Rattle.std.specs.Int.{w64}
use Rattle.std.proofs.lemmas.Int.{to_z-of_z}
use Rattle.std.proofs.lemmas.Bool.Decides.{nat_tests}
use Rattle.mem_model.specs.declared.step.Trap.TheVariants.{Division}
use Rattle.mem_model.specs.Eval.{signed}
use Rattle.mem_model.specs.Thread.{ThreadState}
use Rattle.mem_model.specs.Schedules.{Share, Turns, turns}
use Rattle.mem_model.specs.Steps.{NextStep, Trapped}
use Rattle.mem_model.specs.Entries.{Slots, in_stack, get_own, schedules, starts_turns}
use Rattle.thread_state.specs.Seen.{thread_seen}
use Rattle.static_loops.specs.declared.turns.Loop.{Loop as LoopData}
use Rattle.static_loops.specs.Shares.{loop_seen, turns_seen, AreWords}
use Rattle.static_loops.specs.Starts.{spots_seen, slots_seen, AreSpots, loop_in, HasStarted, puts_share}
use Rattle.static_loops.proofs.Goes.{found_loop, words_fit}
use Rattle.static_loops.proofs.starts.start_turns.Goals as goal

pub go_with-requires-clause-words : goal.go_with-requires-clause-words
go_with-requires-clause-words c =
    let a = c.args.s.now.answers in
    let share : Share = record { number = a.number; count = a.count } in
    subst AreWords (sym c.turns_of-turns.ensures) (words_fit (turns c.args.schedule (loop_seen c.in_ok-range.range) share (to_z w64 (of_z w64 c.sign_extend.result))))

not_zero : (n : ℕ) → (n ≡ 0 → ⊥) → (n == 0) ≡ false
not_zero n some = grind (arith, nat_tests)

pub returns : goal.returns
returns c = λ m f rest is frames.
    let s = c.args.s.now in
    let t : ThreadState = thread_seen m s in
    let spots = c.in_ok-spots.spots in
    let range = c.in_ok-range.range in
    let share : Share = record { number = s.answers.number; count = s.answers.count } in
    let chunk : ℤ = signed 32 c.args.chunk in
    let given : LoopData → Turns = λ l. turns c.args.schedule (loop_seen l) share chunk in
    let go : LoopData → NextStep = λ l. puts_share t f rest (spots_seen spots) (given l) in
    let lies = subst (AreSpots (slots_seen c.args.slots)) c.in_ok-spots.was c.spots_of.ensures in
    let chunk_is : to_z w64 (of_z w64 c.sign_extend.result) ≡ chunk = to_z-of_z w64 c.sign_extend.result (search rules) ∙ c.sign_extend.ensures in
    let found : Ok range ≡ loop_in (f ∷ rest) (spots_seen spots) c.args.increment = sym c.in_ok-range.was ∙ c.loop_of.ensures.value m is ∙ ap (λ fs. loop_in fs (spots_seen spots) c.args.increment) frames in
    let stands : starts_turns t f rest c.args.schedule (slots_seen c.args.slots) c.args.increment c.args.chunk ≡ go range =
    ap (λ (p : Slots). in_stack p (if c.args.increment == 0 then Trapped Division else schedules t f rest c.args.schedule p (signed 32 c.args.increment) chunk)) lies
    ∙ ap (λ b. if b then Trapped Division else schedules t f rest c.args.schedule (spots_seen spots) (signed 32 c.args.increment) chunk) (not_zero c.args.increment c.if-increment-eq0.false)
    ∙ found_loop c.args.increment go (get_own (f ∷ rest) (spots_seen spots).lower) (get_own (f ∷ rest) (spots_seen spots).upper) range found in
    subst (λ nx. HasStarted m s c.go_with.new.s nx c.go_with.result) (sym stands)
    (c.go_with.ensures m f rest (given range) is frames (c.turns_of-turns.ensures ∙ ap (λ z. turns_seen (turns c.args.schedule (loop_seen range) share z)) chunk_is))
