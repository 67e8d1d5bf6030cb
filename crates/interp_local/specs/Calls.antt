-- A call of a function with blocks: its registers, of which the parameters have the words of the operands.
use Rattle.std.specs.Prelude.{◌≡◌, ℕ, zero, suc, List, [], ◌∷◌, slice_get, Option, Some, None, Result, Ok, Err}
use Rattle.ir_core.specs.declared.module.Module.{Module}
use Rattle.ir_core.specs.declared.module.Function.{Function}
use Rattle.mem_model.specs.declared.memory.Word.{Word}
use Rattle.mem_model.specs.declared.step.Trap.{Trap}
use Rattle.mem_model.specs.Next.{CallsFunction, CallsOther, defined_at}

-- the function at a place, where it has blocks
abbrev pub IsBody : Module → ℕ → Option Function → Type 0
IsBody m k None = defined_at m (Some k) ≡ CallsOther
IsBody m k (Some f) = (slice_get m.functions k ≡ Some f) × (defined_at m (Some k) ≡ CallsFunction k f.params)

-- words in the first places, so many at most
abbrev pub put_words : ℕ → List Word → List (Option Word) → List (Option Word)
put_words n [] values = values
put_words zero (word ∷ words) values = values
put_words (suc n) (word ∷ words) [] = []
put_words (suc n) (word ∷ words) (value ∷ values) = Some word ∷ put_words n words values

-- the words of operands are in the first places, or there is their trap
abbrev pub AreBound : {U : Type 0} → Result (List Word) Trap → ℕ → List (Option Word) → List (Option Word) → Result U Trap → Type 0
AreBound (Ok words) params old new (Ok u) = new ≡ put_words params words old
AreBound (Err e) params old new (Err f) = e ≡ f
AreBound _ params old new _ = ⊥
