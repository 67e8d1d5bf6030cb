-- What an action gives, and does to what threads share.
use Rattle.std.specs.Prelude.{ℕ, pos, false, List, [], ◌∷◌, ◌++◌, ◌+◌, Option, Some, None, Result, Ok, Err}
use Rattle.mem_model.specs.declared.memory.Word.{Word}
use Rattle.mem_model.specs.declared.memory.BlockName.TheVariants.{Heap}
use Rattle.mem_model.specs.declared.memory.Ptr.TheVariants.{At}
use Rattle.mem_model.specs.declared.memory.Word.TheVariants.{Int, Ptr as Address}
use Rattle.mem_model.specs.declared.memory.Cell.TheVariants.{Int as IntCell}
use Rattle.mem_model.specs.declared.step.Trap.{Trap}
use Rattle.mem_model.specs.Memory.{Memory, Load, Store, Allocate, Release}
use Rattle.mem_model.specs.Values.{updated}
use Rattle.mem_model.specs.Update.{Updated, Update}
use Rattle.mem_model.specs.Steps.{Action, Loads, Stores, Updates, Prints, Makes, Releases}

-- the memory, how many heap blocks were made, and the printed values
pub record Common : Type 0 where
  pub memory : Memory
  pub heaps : ℕ
  pub prints : List ℕ

-- what is common after an action, and the word that answers it
pub record Effect : Type 0 where
  pub common : Common
  pub answer : Option Word

abbrev pub loaded : Common → Result Word Trap → Result Effect Trap
loaded c (Err e) = Err e
loaded c (Ok word) = Ok (record { common = c; answer = Some word })

abbrev pub stored : Common → Result Memory Trap → Result Effect Trap
stored c (Err e) = Err e
stored c (Ok m) = Ok (record { common = record c { memory = m }; answer = None })

abbrev pub changed : Common → Result Updated Trap → Result Effect Trap
changed c (Err e) = Err e
changed c (Ok u) = Ok (record { common = record c { memory = u.memory }; answer = Some (Int u.old) })

-- a new heap block is named by how many were made before it
abbrev pub made : Common → Result Memory Trap → Result Effect Trap
made c (Err e) = Err e
made c (Ok m) = Ok (record { common = record c { memory = m; heaps = c.heaps + 1 }; answer = Some (Address (At (Heap c.heaps) (pos 0))) })

abbrev pub Do : Action → Common → Result Effect Trap
Do (Loads at cell) c = loaded c (Load c.memory at cell)
Do (Stores at cell given) c = stored c (Store c.memory at cell given)
Do (Updates at width op n) c = changed c (Update c.memory at (IntCell width) (λ old. updated op width old n))
Do (Prints n) c = Ok (record { common = record c { prints = c.prints ++ n ∷ [] }; answer = None })
Do (Makes size) c = made c (Allocate c.memory (Heap c.heaps) size false)
Do (Releases at size) c = stored c (Release c.memory at size)
