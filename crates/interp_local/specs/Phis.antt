-- A branch assigns the phis of its target at once: their words are gathered first, and then assigned one after another.
use Rattle.std.specs.Prelude.{◌≡◌, ℕ, List, [], ◌∷◌, ◌++◌, drop, reverse, slice_get, Option, Some, None, Result, Ok, Err}
use Rattle.std.specs.List.{flat_map}
use Rattle.ir_core.specs.declared.instructions.Inst.{Inst}
use Rattle.ir_core.specs.declared.module.Module.{Module}
use Rattle.ir_core.specs.declared.module.Block.{Block}
use Rattle.ir_core.specs.Places.{PhiNode, block_in, place_in, result_names, edge_from}
use Rattle.mem_model.specs.declared.memory.Word.{Word}
use Rattle.mem_model.specs.declared.step.Trap.{Trap}
use Rattle.mem_model.specs.Thread.{Name, Registers, Code, assigned}
use Rattle.mem_model.specs.Values.{and_then}
use Rattle.mem_model.specs.Next.{phi_word}
use Rattle.thread_state.specs.declared.state.Frame.{Frame as FrameData}
use Rattle.thread_state.specs.declared.state.ThreadState.{ThreadState as ThreadData}
use Rattle.thread_state.specs.Seen.{thread_seen, IsSeen}
use Rattle.thread_state.specs.Moves.{room_of}
use Rattle.interp_local.specs.Operands.{registers}

abbrev pub phi_result : PhiNode → List Name
phi_result p = result_names p.result

-- the results of phis, in their order
abbrev pub results : List PhiNode → List Name
results phis = flat_map phi_result phis

-- a word is kept for a phi with a result alone
abbrev pub with_kept : Option Name → Word → List Word → List Word
with_kept None word words = words
with_kept (Some x) word words = word ∷ words

-- the words that are kept for phis, of which each takes the operand of the edge from a block, or the trap
abbrev pub phi_words : Module → Registers → Name → List PhiNode → Result (List Word) Trap
phi_words m r from [] = Ok []
phi_words m r from (p ∷ ps) = and_then (phi_word m r (edge_from p.edges from)) (λ word. and_then (phi_words m r from ps) (λ words. Ok (with_kept p.result word words)))

abbrev pub rest_words : Option Name → List Word → List Word
rest_words None words = words
rest_words (Some x) words = drop 1 words

abbrev pub assigned_first : Option Name → List Word → Registers → Registers
assigned_first (Some x) (word ∷ words) r = assigned r (Some x) word
assigned_first _ _ r = r

-- the registers with the kept words as the results of phis
abbrev pub assigned_words : List PhiNode → List Word → Registers → Registers
assigned_words [] words r = r
assigned_words (p ∷ ps) words r = assigned_words ps (rest_words p.result words) (assigned_first p.result words r)

-- a call whose registers have the results of phis
abbrev pub with_words : List PhiNode → List Word → Code → Code
with_words phis words c = record c { registers = assigned_words phis words c.registers }

-- the words stand at the front of the room, or there is their trap
abbrev pub AreKept : {U : Type 0} → Result (List Word) Trap → List Word → Result U Trap → Type 0
AreKept (Ok words) room (Ok u) = (behind : List Word) × (room ≡ words ++ behind)
AreKept (Err e) room (Err f) = e ≡ f
AreKept _ room _ = ⊥

-- the words of phis are gathered in the room of the innermost call, and the state means what it did
abbrev pub HasGathered : {U : Type 0} → Module → Name → List PhiNode → ThreadData → ThreadData → Result U Trap → Type 0
HasGathered m from phis old new result = IsSeen m new (thread_seen m old) × AreKept (phi_words m (registers m old) from phis) (room_of new) result

-- ---- blocks

abbrev pub first_block : Module → List FrameData → Option Block
first_block m [] = None
first_block m (f ∷ outer) = block_in (slice_get m.functions f.function) f.block

-- the block in which the innermost call stands
abbrev pub block_of : Module → ThreadData → Option Block
block_of m s = first_block m (reverse s.frames.items)

-- each result of these instructions is one of these registers
abbrev pub HavePlaces : List Name → List Inst → Type 0
HavePlaces names insts = (n : ℕ) (i : Inst) (x : Name) → slice_get insts n ≡ Some i → i.result ≡ Some x → (k : ℕ) × (place_in names x ≡ Some k)
