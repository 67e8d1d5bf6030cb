-- Actions that are no events.
use Rattle.std.proofs.Common.{◌≡◌, ℕ, Bool, true, false, List, [], ◌∷◌, Option, Some, None, refl, if◌then◌else◌}
use Rattle.std.specs.Prelude.{slice_get, nat_le}
use Rattle.ir_core.specs.declared.instructions.Typed.{Typed}
use Rattle.ir_core.specs.declared.module.Module.{Module}
use Rattle.ir_core.specs.declared.module.Function.{Function}
use Rattle.ir_core.specs.declared.module.Block.{Block}
use Rattle.ir_core.specs.declared.module.Param.{Param}
use Rattle.mem_model.specs.Memory.{block_limit}
use Rattle.mem_model.specs.declared.memory.Cell.{Cell}
use Rattle.mem_model.specs.declared.memory.Ptr.{Ptr}
use Rattle.mem_model.specs.declared.memory.Word.{Word}
use Rattle.mem_model.specs.declared.step.Barrier.{Barrier}
use Rattle.mem_model.specs.declared.step.Trap.{Trap}
use Rattle.mem_model.specs.Thread.{Name, Frame, ThreadState}
use Rattle.mem_model.specs.Next.{Local, Pending, Trapped, Event, defined_as, with_body, next_call}
use Rattle.interp_local.specs.declared.actions.Action.{Action}
use Rattle.captures.specs.declared.forks.Fork.{Fork as ForkData}
use Rattle.interp_local.specs.declared.actions.Action.TheVariants.{Gives, Passes, Loads, Stores, Updates, Allocates, Shares, Outside, Arrives, Prints, Deinit, StartsLoop, Calls, Jumps, Returns, Makes, Releases, Asks, Forks}
use Rattle.interp_local.specs.declared.actions.Change.{Change}
use Rattle.interp_local.specs.Actions.{acted}
use Rattle.interp.proofs.Happens.{not_pending}

not_allocated : (b : Bool) (u : ThreadState) (x : Trap) (e : Event) → (if b then Local u else Trapped x) ≡ Pending e → ⊥
not_allocated true u x e h = let f : ⊥ = cc in f
not_allocated false u x e h = let f : ⊥ = cc in f

module _ (m : Module) (t : ThreadState) (f : Frame) (rest : List Frame) (x : Option Name) (args : List Typed) where
  not_body : (k : ℕ) (ps : List Param) (bs : List Block) (e : Event) → next_call m t f rest x args (with_body k ps bs) ≡ Pending e → ⊥
  not_body k ps [] e h = let g : ⊥ = cc in g
  not_body k ps (b ∷ bs) e h = not_pending _ _ e h

  not_called : (k : ℕ) (o : Option Function) (e : Event) → next_call m t f rest x args (defined_as k o) ≡ Pending e → ⊥
  not_called k None e h = let g : ⊥ = cc in g
  not_called k (Some g) e h = not_body k g.params g.blocks e h

  -- an action that is an event is one of these
  pub quiet : (a : Action) (e : Event) → ((at : Ptr) (cell : Cell) → a ≡ Loads at cell → ⊥) → ((at : Ptr) (cell : Cell) (word : Word) → a ≡ Stores at cell word → ⊥) → ((at : Ptr) (change : Change) → a ≡ Updates at change → ⊥) → (a ≡ Deinit → ⊥) →
      ((kind : Barrier) → a ≡ Arrives kind → ⊥) → ((n : ℕ) → a ≡ Prints n → ⊥) → ((size : ℕ) → a ≡ Makes size → ⊥) → ((at : Ptr) (size : ℕ) → a ≡ Releases at size → ⊥) → (a ≡ Asks → ⊥) → ((fork : ForkData) (words : Option Word) → a ≡ Forks fork words → ⊥) → ((word : Option Word) → a ≡ Returns word → ⊥) → acted m t f rest x args a ≡ Pending e → ⊥
  quiet (Gives word) e l s u d b p makes frees asks forks r h = let g : ⊥ = cc in g
  quiet Passes e l s u d b p makes frees asks forks r h = let g : ⊥ = cc in g
  quiet Outside e l s u d b p makes frees asks forks r h = let g : ⊥ = cc in g
  quiet StartsLoop e l s u d b p makes frees asks forks r h = let g : ⊥ = cc in g
  quiet (Allocates size) e l s u d b p makes frees asks forks r h = not_allocated (nat_le size block_limit) _ _ e h
  quiet (Shares at) e l s u d b p makes frees asks forks r h = not_pending _ _ e h
  quiet (Calls k) e l s u d b p makes frees asks forks r h = not_called k (slice_get m.functions k) e h
  quiet (Jumps k) e l s u d b p makes frees asks forks r h = not_pending _ _ e h
  quiet (Loads at cell) e l s u d b p makes frees asks forks r h = l at cell refl
  quiet (Stores at cell word) e l s u d b p makes frees asks forks r h = s at cell word refl
  quiet (Updates at change) e l s u d b p makes frees asks forks r h = u at change refl
  quiet Deinit e l s u d b p makes frees asks forks r h = d refl
  quiet (Arrives kind) e l s u d b p makes frees asks forks r h = b kind refl
  quiet (Prints n) e l s u d b p makes frees asks forks r h = p n refl
  quiet (Makes size) e l s u d b p makes frees asks forks r h = makes size refl
  quiet (Releases at size) e l s u d b p makes frees asks forks r h = frees at size refl
  quiet Asks e l s u d b p makes frees asks forks r h = asks refl
  quiet (Forks fork words) e l s u d b p makes frees asks forks r h = forks fork words refl
  quiet (Returns word) e l s u d b p makes frees asks forks r h = r word refl
