-- The module with its machine off has the same next step at every state of a thread that runs user code.
use Rattle.std.proofs.Common.{◌≡◌, ℕ, ◌+◌, List, [], ◌∷◌, ◌++◌, Bool, true, false, Option, Some, None, Ok, refl, sym, ap, ◌∙◌, length, map, drop}
use Rattle.std.specs.Prelude.{◌&&◌, slice_get, option_map, if◌then◌else◌}
use Rattle.std.specs.List.{flat_map}
use Rattle.std.specs.Str.{bytes_eq}
use Rattle.std.proofs.lemmas.Option.{slice_get-map}
use Rattle.ir_core.specs.declared.types.Ty.{Ty}
use Rattle.ir_core.specs.declared.module.Module.{Module}
use Rattle.ir_core.specs.declared.module.Global.{Global}
use Rattle.ir_core.specs.declared.module.Init.{Init, fold-Init}
use Rattle.ir_core.specs.declared.module.Init.TheOpen.{Init-F}
use Rattle.ir_core.specs.Layout.{Size}
use Rattle.ir_core.specs.declared.module.Function.{Function}
use Rattle.ir_core.specs.declared.module.Block.{Block}
use Rattle.ir_core.specs.declared.instructions.Inst.{Inst}
use Rattle.ir_core.specs.declared.module.Param.{Param}
use Rattle.ir_core.specs.declared.instructions.Value.{Value}
use Rattle.ir_core.specs.declared.instructions.Value.TheVariants.{Int as IntValue, Null, Local as Register, Global as GlobalValue}
use Rattle.ir_core.specs.declared.instructions.Typed.{Typed}
use Rattle.ir_core.specs.declared.instructions.Kind.{Kind}
use Rattle.ir_core.specs.declared.instructions.Kind.TheVariants.{Phi, Alloca, Gep, Fence, Call, Br, CondBr, Switch, Ret, Unreachable}
use Rattle.ir_core.specs.declared.rtl.Rtl.{Rtl}
use Rattle.ir_core.specs.declared.rtl.Rtl.TheVariants.{TargetInit, TargetDeinit, Parallel}
use Rattle.ir_core.specs.EntryPoints.{target_init, entry_points}
use Rattle.ir_core.specs.MachineOff.{calls_init, operands_off, kind_off, inst_off, block_off, function_off, machine_off}
use Rattle.mem_model.specs.declared.launch.Launch.{Launch}
use Rattle.mem_model.specs.declared.memory.BlockName.TheVariants.{Global as GlobalBlock}
use Rattle.mem_model.specs.declared.memory.Byte.{Byte}
use Rattle.mem_model.specs.declared.memory.Word.{Word}
use Rattle.mem_model.specs.declared.memory.Word.TheVariants.{Int}
use Rattle.mem_model.specs.declared.phase.LoopPoint.TheVariants.{Sleeps}
use Rattle.mem_model.specs.declared.phase.Phase.TheVariants.{Begins, Loops}
use Rattle.mem_model.specs.Memory.{Memory, no_blocks, with_block}
use Rattle.mem_model.specs.Thread.{Name, Place, Registers, Answers, Frame, ThreadState, assigned, bound}
use Rattle.ir_core.specs.Places.{block_in, inst_in, inst_at, block_name, labels_of, labels, function_name, function_place, global_place, place_in, PhiNode, with_phi, leading_phis, phis_in, phis_at, edge_from, name_in, label_at}
use Rattle.mem_model.specs.Values.{address_of, value_word, of_type, operand, and_then, operand_words, index_of, path_of}
use Rattle.mem_model.specs.Regions.{function_named, number_given, fork_by, fork_of}
use Rattle.mem_model.specs.Entries.{first_named, is_worker, runs_loop, begins_kernel, forks, next_known, next_entry}
use Rattle.mem_model.specs.Next.{NextStep, Local, with_found, with_result, with_frames, goes_on, goes_in, phi_word, with_phis, enters, to_block, to_label, CallsEntry, CallsFunction, CallsOther, Callee, with_body, defined_as, defined_at, entry_or, callee_of, called, next_call, next_kind, next_inst, next_in, next_frames, Next, result_of, resumed_frames, resumed, line_of, frames_line, line_at}
use Rattle.mem_model.specs.Globals.{padded, Filled, found_bytes, init_layer, element_layer, contents, with_globals}
use Rattle.mem_model.specs.Launching.{params_of, arg_words, first_registers, Role, idle_thread, thread_at, first_thread, with_buffers, first_memory}
use Rattle.team_model.specs.Team.{mode_operand, kind_modes, inst_modes, block_modes, is_spmd_mode, is_spmd_function, function_at, is_spmd}
use Rattle.refine_laws.proofs.QuietSteps.{AllBegin, RunsUser}

-- ---- look-ups

names_same : (bs : List Block) → map block_name (map block_off bs) ≡ map block_name bs
names_same [] = refl
names_same (b ∷ bs) = ap (λ ns. block_name b ∷ ns) (names_same bs)

labels_of_same : (o : Option Function) → labels_of (option_map function_off o) ≡ labels_of o
labels_of_same None = refl
labels_of_same (Some f) = names_same f.blocks

pub labels_same : (m : Module) (f : ℕ) → labels (machine_off m) f ≡ labels m f
labels_same m f = ap labels_of (slice_get-map function_off m.functions f) ∙ labels_of_same (slice_get m.functions f)

block_in_off : (o : Option Function) (b : ℕ) → block_in (option_map function_off o) b ≡ option_map block_off (block_in o b)
block_in_off None b = refl
block_in_off (Some f) b = slice_get-map block_off f.blocks b

inst_in_off : (o : Option Block) (i : ℕ) → inst_in (option_map block_off o) i ≡ option_map inst_off (inst_in o i)
inst_in_off None i = refl
inst_in_off (Some b) i = slice_get-map inst_off b.insts i

block_at_off : (m : Module) (f b : ℕ) → block_in (slice_get (machine_off m).functions f) b ≡ option_map block_off (block_in (slice_get m.functions f) b)
block_at_off m f b = ap (λ o. block_in o b) (slice_get-map function_off m.functions f) ∙ block_in_off (slice_get m.functions f) b

pub inst_at_off : (m : Module) (p : Place) → inst_at (machine_off m) p ≡ option_map inst_off (inst_at m p)
inst_at_off m p = ap (λ o. inst_in o p.index) (block_at_off m p.function p.block) ∙ inst_in_off (block_in (slice_get m.functions p.function) p.block) p.index

function_names_same : (fs : List Function) → map function_name (map function_off fs) ≡ map function_name fs
function_names_same [] = refl
function_names_same (f ∷ fs) = ap (λ ns. function_name f ∷ ns) (function_names_same fs)

pub function_place_same : (m : Module) (x : Name) → function_place (machine_off m) x ≡ function_place m x
function_place_same m x = ap (λ ns. place_in ns x) (function_names_same m.functions)

name_in_same : (o : Option Block) → name_in (option_map block_off o) ≡ name_in o
name_in_same None = refl
name_in_same (Some b) = refl

label_at_same : (m : Module) (p : Place) → label_at (machine_off m) p ≡ label_at m p
label_at_same m p = ap name_in (block_at_off m p.function p.block) ∙ name_in_same (block_in (slice_get m.functions p.function) p.block)

with_phi_same : (x : Option Name) (k : Kind) (phis : List PhiNode) → with_phi x (kind_off k) phis ≡ with_phi x k phis
with_phi_same x (Call tail_word ret callee operands) phis = refl
with_phi_same x _ phis = refl

leading_phis_same : (is : List Inst) → leading_phis (map inst_off is) ≡ leading_phis is
leading_phis_same [] = refl
leading_phis_same (i ∷ is) = ap (with_phi i.result (kind_off i.kind)) (leading_phis_same is) ∙ with_phi_same i.result i.kind (leading_phis is)

phis_in_same : (o : Option Block) → phis_in (option_map block_off o) ≡ phis_in o
phis_in_same None = refl
phis_in_same (Some b) = leading_phis_same b.insts

phis_at_same : (m : Module) (f b : ℕ) → phis_at (machine_off m) f b ≡ phis_at m f b
phis_at_same m f b = ap phis_in (block_at_off m f b) ∙ phis_in_same (block_in (slice_get m.functions f) b)

-- ---- operands

value_same : (m : Module) (r : Registers) (v : Value) → value_word (machine_off m) r v ≡ value_word m r v
value_same m r (IntValue n) = refl
value_same m r Null = refl
value_same m r (Register x) = refl
value_same m r (GlobalValue x) = ap (address_of (global_place m x)) (function_place_same m x)

operand_same : (m : Module) (r : Registers) (ty : Ty) (v : Value) → operand (machine_off m) r ty v ≡ operand m r ty v
operand_same m r ty v = ap (λ found. and_then found (of_type ty)) (value_same m r v)

words_same : (m : Module) (r : Registers) (vs : List Typed) → operand_words (machine_off m) r vs ≡ operand_words m r vs
words_same m r [] = refl
words_same m r (v ∷ vs) = λ i. and_then (value_same m r v.value i) (λ word. and_then (words_same m r vs i) (λ words. Ok (word ∷ words)))

path_same : (m : Module) (r : Registers) (vs : List Typed) → path_of (machine_off m) r vs ≡ path_of m r vs
path_same m r [] = refl
path_same m r (v ∷ vs) = λ i. and_then (operand_same m r v.ty v.value i) (λ word. and_then (index_of v.ty word) (λ n. and_then (path_same m r vs i) (λ path. Ok (n ∷ path))))

-- ---- branches

phi_word_same : (m : Module) (r : Registers) (o : Option Value) → phi_word (machine_off m) r o ≡ phi_word m r o
phi_word_same m r None = refl
phi_word_same m r (Some v) = value_same m r v

with_phis_same : (m : Module) (before : Registers) (from : Name) (ps : List PhiNode) (r : Registers) → with_phis (machine_off m) before from ps r ≡ with_phis m before from ps r
with_phis_same m before from [] r = refl
with_phis_same m before from (p ∷ ps) r = λ i. and_then (phi_word_same m before (edge_from p.edges from) i) (λ word. with_phis_same m before from ps (assigned r p.result word) i)

abbrev phi_place : Frame → ℕ → List PhiNode → Place
phi_place f b phis = record { function = f.code.at.function; block = b; index = length phis }

abbrev enters_with : Module → ThreadState → Frame → List Frame → ℕ → Name → List PhiNode → NextStep
enters_with m t f rest b from phis = with_found (with_phis m f.code.registers from phis f.code.registers) (enters t f rest (phi_place f b phis))

to_block_same : (m : Module) (t : ThreadState) (f : Frame) (rest : List Frame) (o : Option ℕ) → to_block (machine_off m) t f rest o ≡ to_block m t f rest o
to_block_same m t f rest None = refl
to_block_same m t f rest (Some b) =
    (λ i. enters_with (machine_off m) t f rest b (label_at_same m f.code.at i) (phis_at_same m f.code.at.function b i))
    ∙ (λ i. with_found (with_phis_same m f.code.registers (label_at m f.code.at) (phis_at m f.code.at.function b) f.code.registers i) (enters t f rest (phi_place f b (phis_at m f.code.at.function b))))

pub to_label_same : (m : Module) (t : ThreadState) (f : Frame) (rest : List Frame) (x : Name) → to_label (machine_off m) t f rest x ≡ to_label m t f rest x
to_label_same m t f rest x = ap (λ ls. to_block (machine_off m) t f rest (place_in ls x)) (labels_same m f.code.at.function) ∙ to_block_same m t f rest (place_in (labels m f.code.at.function) x)

-- ---- calls

with_body_same : (k : ℕ) (ps : List Param) (bs : List Block) → with_body k ps (map block_off bs) ≡ with_body k ps bs
with_body_same k ps [] = refl
with_body_same k ps (b ∷ bs) = refl

defined_as_same : (k : ℕ) (o : Option Function) → defined_as k (option_map function_off o) ≡ defined_as k o
defined_as_same k None = refl
defined_as_same k (Some f) = with_body_same k f.params f.blocks

defined_at_same : (m : Module) (o : Option ℕ) → defined_at (machine_off m) o ≡ defined_at m o
defined_at_same m None = refl
defined_at_same m (Some k) = ap (defined_as k) (slice_get-map function_off m.functions k) ∙ defined_as_same k (slice_get m.functions k)

named_same : (m : Module) (v : Value) → function_named (machine_off m) v ≡ function_named m v
named_same m (GlobalValue x) = function_place_same m x
named_same m _ = refl

fork_same : (m : Module) (operands : List Typed) → fork_of (machine_off m) operands ≡ fork_of m operands
fork_same m (place ∷ number ∷ test ∷ threads ∷ bind ∷ function ∷ wrapper ∷ words ∷ n ∷ []) = λ i. fork_by (named_same m function.value i) (named_same m wrapper.value i) (number_given n.value)
fork_same m _ = refl

entry_same : (m : Module) (t : ThreadState) (f : Frame) (rest : List Frame) (x : Option Name) (operands : List Typed) (r : Rtl) → next_entry (machine_off m) t f rest x operands r ≡ next_entry m t f rest x operands r
entry_same m t f rest x operands TargetInit = refl
entry_same m t f rest x operands TargetDeinit = refl
entry_same m t f rest x operands Parallel = λ i. with_found (words_same m f.code.registers operands i) (λ words. with_result (fork_same m operands i) (forks t f rest words))
entry_same m t f rest x operands r = ap (λ found. with_found found (next_known t f rest x r)) (words_same m f.code.registers operands)

next_call_same : (m : Module) (t : ThreadState) (f : Frame) (rest : List Frame) (x : Option Name) (operands : List Typed) (c : Callee) → next_call (machine_off m) t f rest x operands c ≡ next_call m t f rest x operands c
next_call_same m t f rest x operands (CallsEntry r) = entry_same m t f rest x operands r
next_call_same m t f rest x operands (CallsFunction k ps) = ap (λ found. with_found found (λ words. Local (with_frames t (called k ps words x ∷ f ∷ rest)))) (words_same m f.code.registers operands)
next_call_same m t f rest x operands CallsOther = refl

-- the entry points behind __kmpc_target_init
abbrev pub later_entry : Name → Option Rtl
later_entry y = first_named (drop 1 entry_points) y

module _ (m : Module) (t : ThreadState) (user : is_worker t ≡ false) (f : Frame) (rest : List Frame) where
  -- an init call reads no operand but its flag, which says nothing to a thread that runs user code
  begins_same : (x : Option Name) (a b : List Typed) → begins_kernel t f rest x a ≡ begins_kernel t f rest x b
  begins_same x a b = goes_by a ∙ sym (goes_by b)
    where
      goes_by : (operands : List Typed) → begins_kernel t f rest x operands ≡ Local (goes_on t f rest x (Int t.answers.init))
      goes_by operands = ap (λ worker. if worker && runs_loop operands then Local (goes_in t f rest (Loops Sleeps)) else Local (goes_on t f rest x (Int t.answers.init))) user

  either_call_same : (x : Option Name) (operands : List Typed) (init : Bool) (o : Option Rtl) (c : Callee) →
      next_call (machine_off m) t f rest x (if init then operands_off operands else operands) (entry_or (if init then Some TargetInit else o) c) ≡ next_call m t f rest x operands (entry_or (if init then Some TargetInit else o) c)
  either_call_same x operands true o c = begins_same x (operands_off operands) operands
  either_call_same x operands false o c = next_call_same m t f rest x operands (entry_or o c)

  call_same : (x : Option Name) (operands : List Typed) (v : Value) → next_call (machine_off m) t f rest x (if calls_init v then operands_off operands else operands) (callee_of (machine_off m) v) ≡ next_call m t f rest x operands (callee_of m v)
  call_same x operands (GlobalValue y) =
      (λ i. next_call (machine_off m) t f rest x (if bytes_eq y target_init then operands_off operands else operands) (entry_or (if bytes_eq y target_init then Some TargetInit else later_entry y) (defined_here i)))
      ∙ either_call_same x operands (bytes_eq y target_init) (later_entry y) (defined_at m (function_place m y))
    where
      defined_here : defined_at (machine_off m) (function_place (machine_off m) y) ≡ defined_at m (function_place m y)
      defined_here = ap (defined_at (machine_off m)) (function_place_same m y) ∙ defined_at_same m (function_place m y)
  call_same x operands _ = refl

  -- ---- steps

  kind_same : (x : Option Name) (k : Kind) → next_kind (machine_off m) t f rest x (kind_off k) ≡ next_kind m t f rest x k
  kind_same x (Call tail_word ret callee operands) = call_same x operands callee
  kind_same x (Phi ty edges) = refl
  kind_same x (Alloca ty align) = refl
  kind_same x (Fence order) = refl
  kind_same x (Ret None) = refl
  kind_same x Unreachable = refl
  kind_same x (Br to) = to_label_same m t f rest to
  kind_same x (CondBr c then_to else_to) = simp (value_same m, to_label_same m) refl
  kind_same x (Switch on other cases) = simp (value_same m, to_label_same m) refl
  kind_same x (Gep inbounds ty base path) = simp (value_same m, path_same m) refl
  kind_same x _ = simp (value_same m) refl

  inst_same : (o : Option Inst) → next_inst (machine_off m) t f rest (option_map inst_off o) ≡ next_inst m t f rest o
  inst_same None = refl
  inst_same (Some i) = kind_same i.result i.kind

frames_same : (m : Module) (t : ThreadState) → is_worker t ≡ false → (fs : List Frame) → AllBegin fs → next_frames (machine_off m) t fs ≡ next_frames m t fs
frames_same m t user [] h = refl
frames_same m t user (f ∷ rest) h =
    (λ i. next_in (machine_off m) t f rest (inst_at_off m f.code.at i) (h.0 i)) ∙ inst_same m t user f rest (inst_at m f.code.at) ∙ sym (ap (next_in m t f rest (inst_at m f.code.at)) h.0)

pub next_same : (m : Module) (t : ThreadState) → RunsUser t → Next (machine_off m) t ≡ Next m t
next_same m t user = frames_same m t user.0 t.frames user.1

-- ---- behind an event

result_same : (o : Option Inst) → result_of (option_map inst_off o) ≡ result_of o
result_same None = refl
result_same (Some i) = refl

resumed_frames_same : (m : Module) (t : ThreadState) (fs : List Frame) (answer : Option Word) → resumed_frames (machine_off m) t fs answer ≡ resumed_frames m t fs answer
resumed_frames_same m t [] answer = refl
resumed_frames_same m t (f ∷ rest) None = refl
resumed_frames_same m t (f ∷ rest) (Some word) = ap (λ o. goes_on t f rest (result_of o) word) (inst_at_off m f.code.at) ∙ ap (λ x. goes_on t f rest x word) (result_same (inst_at m f.code.at))

pub resumed_same : (m : Module) (t : ThreadState) (answer : Option Word) → resumed (machine_off m) t answer ≡ resumed m t answer
resumed_same m t answer = resumed_frames_same m t t.frames answer

-- ---- lines

line_same : (o : Option Inst) → line_of (option_map inst_off o) ≡ line_of o
line_same None = refl
line_same (Some i) = refl

frames_line_same : (m : Module) (fs : List Frame) → frames_line (machine_off m) fs ≡ frames_line m fs
frames_line_same m [] = refl
frames_line_same m (f ∷ rest) = ap line_of (inst_at_off m f.code.at) ∙ line_same (inst_at m f.code.at)

pub line_at_same : (m : Module) (t : ThreadState) → line_at (machine_off m) t ≡ line_at m t
line_at_same m t = frames_line_same m t.frames

-- ---- the start

init_layer_same : (m : Module) (i : Init-F (Ty → List Byte) Filled) (ty : Ty) → init_layer (machine_off m) i ty ≡ init_layer m i ty
init_layer_same m Init-F.Zero ty = refl
init_layer_same m (Init-F.Int n) ty = refl
init_layer_same m Init-F.Null ty = refl
init_layer_same m (Init-F.Addr x) ty = ap (λ o. found_bytes (address_of (global_place m x) o)) (function_place_same m x)
init_layer_same m (Init-F.Bytes bytes) ty = refl
init_layer_same m (Init-F.Square elements) ty = refl
init_layer_same m (Init-F.Braces elements) ty = refl

contents_same : (m : Module) (ty : Ty) (init : Option Init) → contents (machine_off m) ty init ≡ contents m ty init
contents_same m ty None = refl
contents_same m ty (Some init) = λ k. padded (Size m.types ty) (fold-Init (Ty → List Byte) Filled (λ i ty. init_layer_same m i ty k) (element_layer m) init ty)

with_globals_same : (m : Module) (i : ℕ) (gs : List Global) (memory : Memory) → with_globals (machine_off m) i gs memory ≡ with_globals m i gs memory
with_globals_same m i [] memory = refl
with_globals_same m i (g ∷ gs) memory =
    ap (λ bytes. with_globals (machine_off m) (i + 1) gs (with_block memory (GlobalBlock i) g.constant bytes)) (contents_same m g.ty g.init)
    ∙ with_globals_same m (i + 1) gs (with_block memory (GlobalBlock i) g.constant (contents m g.ty g.init))

pub first_memory_same : (m : Module) (l : Launch) → first_memory (machine_off m) l ≡ first_memory m l
first_memory_same m l = with_globals_same m 0 m.globals (with_buffers 0 l.args no_blocks)

params_same : (o : Option Function) → params_of (option_map function_off o) ≡ params_of o
params_same None = refl
params_same (Some f) = refl

first_registers_same : (m : Module) (k : ℕ) (l : Launch) → first_registers (machine_off m) k l ≡ first_registers m k l
first_registers_same m k l = ap (λ ps. bound ps (arg_words 0 l.args)) (ap params_of (slice_get-map function_off m.functions k) ∙ params_same (slice_get m.functions k))

thread_at_same : (m : Module) (l : Launch) (role : Role) (answers : Answers) (o : Option ℕ) → thread_at (machine_off m) l role answers o ≡ thread_at m l role answers o
thread_at_same m l role answers None = refl
thread_at_same m l role answers (Some k) = λ i. record (idle_thread role answers) {
  frames = record { code = record { at = record { function = k; block = 0; index = 0 }; phase = Begins; registers = first_registers_same m k l i; back = None }; blocks = [] } ∷ [];
}

pub first_thread_same : (m : Module) (l : Launch) (role : Role) (answers : Answers) → first_thread (machine_off m) l role answers ≡ first_thread m l role answers
first_thread_same m l role answers = ap (thread_at (machine_off m) l role answers) (function_place_same m l.kernel) ∙ thread_at_same m l role answers (function_place m l.kernel)

-- ---- the mode

mode_same : (operands : List Typed) → mode_operand (operands_off operands) ≡ mode_operand operands
mode_same [] = refl
mode_same (a ∷ []) = refl
mode_same (a ∷ b ∷ []) = refl
mode_same (a ∷ b ∷ c ∷ []) = refl
mode_same (a ∷ b ∷ c ∷ d ∷ more) = refl

call_modes_same : (init : Bool) (operands : List Typed) → (if init then mode_operand (if init then operands_off operands else operands) else []) ≡ (if init then mode_operand operands else [])
call_modes_same true operands = mode_same operands
call_modes_same false operands = refl

kind_modes_same : (k : Kind) → kind_modes (kind_off k) ≡ kind_modes k
kind_modes_same (Call tail_word ret callee operands) = call_modes_same (calls_init callee) operands
kind_modes_same _ = refl

insts_modes_same : (is : List Inst) → flat_map inst_modes (map inst_off is) ≡ flat_map inst_modes is
insts_modes_same [] = refl
insts_modes_same (i ∷ is) = ap (λ ms. ms ++ flat_map inst_modes (map inst_off is)) (kind_modes_same i.kind) ∙ ap (λ ms. inst_modes i ++ ms) (insts_modes_same is)

blocks_modes_same : (bs : List Block) → flat_map block_modes (map block_off bs) ≡ flat_map block_modes bs
blocks_modes_same [] = refl
blocks_modes_same (b ∷ bs) = ap (λ ms. ms ++ flat_map block_modes (map block_off bs)) (insts_modes_same b.insts) ∙ ap (λ ms. block_modes b ++ ms) (blocks_modes_same bs)

spmd_function_same : (o : Option Function) → is_spmd_function (option_map function_off o) ≡ is_spmd_function o
spmd_function_same None = refl
spmd_function_same (Some f) = ap is_spmd_mode (blocks_modes_same f.blocks)

spmd_at_same : (m : Module) (o : Option ℕ) → is_spmd_function (function_at (machine_off m) o) ≡ is_spmd_function (function_at m o)
spmd_at_same m None = refl
spmd_at_same m (Some k) = ap is_spmd_function (slice_get-map function_off m.functions k) ∙ spmd_function_same (slice_get m.functions k)

pub spmd_same : (m : Module) (l : Launch) → is_spmd (machine_off m) l ≡ is_spmd m l
spmd_same m l = ap (λ o. is_spmd_function (function_at (machine_off m) o)) (function_place_same m l.kernel) ∙ spmd_at_same m (function_place m l.kernel)
