-- Blocks that are put one after another.
use Rattle.std.proofs.Common.{◌≡◌, ℕ, ◌+◌, ◌<◌, List, length, drop, get_or, sym, ap, ◌∙◌}
use Rattle.std.proofs.lemmas.List.{drop_more}
use Rattle.ir_core.specs.declared.module.Module.{Module}
use Rattle.ir_core.specs.declared.module.Global.{Global}
use Rattle.mem_model.specs.declared.launch.Arg.{Arg}
use Rattle.mem_model.specs.declared.launch.Arg.TheVariants.{Buffer, Int, Null}
use Rattle.mem_model.specs.declared.memory.BlockName.TheVariants.{Global as GlobalBlock}
use Rattle.mem_model.specs.Memory.{Memory, with_block}
use Rattle.mem_model.specs.Launching.{with_buffer, with_buffers}
use Rattle.mem_model.specs.Globals.{contents, with_globals}
use Rattle.first_memory.specs.Blocks.{HasNoArgs}
use Rattle.first_memory.proofs.Fresh.{args_after, args_left}

pub buffer_after : (i : ℕ) (a : Arg) (m : Memory) → HasNoArgs m i → HasNoArgs (with_buffer i a m) (i + 1)
buffer_after i (Buffer bytes) m fresh = args_after m i _ _ fresh
buffer_after i (Int n) m fresh = args_left m i fresh
buffer_after i Null m fresh = args_left m i fresh

pub next_buffer : (i : ℕ) (args : List Arg) (a : Arg) (m new : Memory) (whole : Memory) → i < length args → a ≡ get_or args i a → new ≡ with_buffer i a m → with_buffers i (drop i args) m ≡ whole → with_buffers (i + 1) (drop (i + 1) args) new ≡ whole
next_buffer i args a m new whole l is put same =
    ap (with_buffers (i + 1) (drop (i + 1) args)) (put ∙ ap (λ b. with_buffer i b m) is)
    ∙ sym (ap (λ (as_ : List Arg). with_buffers i as_ m) (drop_more args i a l))
    ∙ same

pub next_global : (m : Module) (i : ℕ) (gs : List Global) (g : Global) (old new : Memory) (whole : Memory) → i < length gs → g ≡ get_or gs i g → new ≡ with_block old (GlobalBlock i) g.constant (contents m g.ty g.init) → with_globals m i (drop i gs) old ≡ whole → with_globals m (i + 1) (drop (i + 1) gs) new ≡ whole
next_global m i gs g old new whole l is put same =
    ap (with_globals m (i + 1) (drop (i + 1) gs)) (put ∙ ap (λ (h : Global). with_block old (GlobalBlock i) h.constant (contents m h.ty h.init)) is)
    ∙ sym (ap (λ (hs : List Global). with_globals m i hs old) (drop_more gs i g l))
    ∙ same
