-- A thread that runs user code of a module that calls quietly: all its calls begin their instructions, and it shares nothing but memory.
use Rattle.std.proofs.Common.{◌≡◌, ℕ, zero, suc, List, [], ◌∷◌, ◌++◌, true, false, ◌&&◌, Option, Some, None, Result, refl, sym, ap, ◌∙◌, subst}
use Rattle.std.specs.Prelude.{slice_get, nat_le, if◌then◌else◌}
use Rattle.std.specs.List.{flat_map, list_all}
use Rattle.std.proofs.lemmas.Bool.{and_parts, and_from}
use Rattle.ir_core.specs.declared.types.Ty.{Ty}
use Rattle.ir_core.specs.declared.instructions.Value.{Value}
use Rattle.ir_core.specs.declared.instructions.Value.TheVariants.{Global as GlobalValue}
use Rattle.ir_core.specs.declared.instructions.Typed.{Typed}
use Rattle.ir_core.specs.declared.instructions.RmwOp.{RmwOp}
use Rattle.ir_core.specs.declared.instructions.Kind.{Kind}
use Rattle.ir_core.specs.declared.instructions.Kind.TheVariants.{Bin, ICmp, Cast, Select, Phi, Alloca, Load as LoadInst, Store as StoreInst, Rmw, Gep, Fence, Call, Br, CondBr, Switch, Ret, Unreachable as UnreachableInst}
use Rattle.ir_core.specs.declared.instructions.Inst.{Inst}
use Rattle.ir_core.specs.declared.module.Module.{Module}
use Rattle.ir_core.specs.declared.module.Function.{Function}
use Rattle.ir_core.specs.declared.module.Block.{Block}
use Rattle.ir_core.specs.declared.module.Param.{Param}
use Rattle.ir_core.specs.declared.rtl.Rtl.{Rtl}
use Rattle.ir_core.specs.declared.rtl.Rtl.TheVariants.{TargetInit, TargetDeinit}
use Rattle.ir_core.specs.Layout.{Size}
use Rattle.ir_core.specs.Places.{Name, Place, block_in, inst_in, inst_at, function_place, labels, place_in}
use Rattle.ir_core.specs.Wrappers.{value_names, kind_callees, inst_callees, block_callees, callees}
use Rattle.mem_model.specs.declared.memory.Ptr.{Ptr}
use Rattle.mem_model.specs.declared.memory.Byte.{Byte}
use Rattle.mem_model.specs.declared.memory.Word.{Word}
use Rattle.mem_model.specs.declared.memory.Word.TheVariants.{Int}
use Rattle.mem_model.specs.declared.memory.Cell.{Cell}
use Rattle.mem_model.specs.declared.phase.Phase.TheVariants.{Begins, Loops}
use Rattle.mem_model.specs.declared.phase.LoopPoint.TheVariants.{Sleeps}
use Rattle.mem_model.specs.declared.step.Trap.{Trap}
use Rattle.mem_model.specs.declared.step.Trap.TheVariants.{TooLarge}
use Rattle.mem_model.specs.Memory.{block_limit}
use Rattle.mem_model.specs.Thread.{Registers, Code, Frame, ThreadState, Spot, Where, InStack, Elsewhere, put_in}
use Rattle.mem_model.specs.Entries.{is_worker, runs_loop, begins_kernel, next_entry}
use Rattle.mem_model.specs.Next.{Action, Loads, Stores, Updates, Event, Does, Deinit, Leaves, NextStep, Local, Trapped, with_found, with_number, with_pointer, with_result, with_scalar, with_frames, goes_on, goes_in, enters, to_block, to_label, loads, stores, updates, allocates, entry_of, with_body, defined_as, defined_at, entry_or, callee_of, called, next_call, goes_back, back_in, returns, next_kind, next_inst, next_in, next_frames, Next, resumed_frames, resumed}
use Rattle.mem_model.proofs.Runs.{some_injective, none_is_not_some}
use Rattle.mem_model.proofs.StepCases.{LeadsTo, if_found, if_number, if_pointer, if_result, if_either, if_scalar}
use Rattle.refine_laws.specs.Quiet.{is_quiet, is_quiet_name, AllQuiet, CallsQuietly}

-- ---- what the instruction at a place calls

pub all_parts : (xs ys : List Name) → AllQuiet (xs ++ ys) → (AllQuiet xs) × (AllQuiet ys)
all_parts [] ys e = (refl, e)
all_parts (x ∷ xs) ys e =
    let p = and_parts (is_quiet_name x) (list_all is_quiet_name (xs ++ ys)) e in
    let q = all_parts xs ys p.1 in
    (and_from (is_quiet_name x) (list_all is_quiet_name xs) p.0 q.0, q.1)

-- the names of one element, where all names of a list are quiet
quiet_at : {A : Type 0} (names : A → List Name) (xs : List A) (n : ℕ) (x : A) → AllQuiet (flat_map names xs) → slice_get xs n ≡ Some x → AllQuiet (names x)
quiet_at names [] n x e h = none_is_not_some h
quiet_at names (y ∷ ys) zero x e h = ap (λ z. list_all is_quiet_name (names z)) (sym (some_injective h)) ∙ (all_parts (names y) (flat_map names ys) e).0
quiet_at names (y ∷ ys) (suc n) x e h = quiet_at names ys n x (all_parts (names y) (flat_map names ys) e).1 h

-- an instruction, where there is one, calls quietly
abbrev pub QuietInst : Option Inst → Type 0
QuietInst None = Unit {0}
QuietInst (Some i) = AllQuiet (inst_callees i)

inst_quiet : (b : Block) (i : ℕ) (o : Option Inst) → slice_get b.insts i ≡ o → AllQuiet (block_callees b) → QuietInst o
inst_quiet b i None is h = tt
inst_quiet b i (Some x) is h = quiet_at inst_callees b.insts i x h is

block_quiet : (f : Function) (b i : ℕ) (o : Option Block) → slice_get f.blocks b ≡ o → AllQuiet (callees f) → QuietInst (inst_in o i)
block_quiet f b i None is h = tt
block_quiet f b i (Some x) is h = inst_quiet x i (slice_get x.insts i) refl (quiet_at block_callees f.blocks b x h is)

function_quiet : (fs : List Function) (k b i : ℕ) (o : Option Function) → slice_get fs k ≡ o → AllQuiet (flat_map callees fs) → QuietInst (inst_in (block_in o b) i)
function_quiet fs k b i None is h = tt
function_quiet fs k b i (Some f) is h = block_quiet f b i (slice_get f.blocks b) refl (quiet_at callees fs k f h is)

pub quiet_inst_at : (m : Module) → CallsQuietly m → (p : Place) → QuietInst (inst_at m p)
quiet_inst_at m quiet p = function_quiet m.functions p.function p.block p.index (slice_get m.functions p.function) refl quiet

-- ---- threads that run user code

-- each of these calls begins its instruction
abbrev pub AllBegin : List Frame → Type 0
AllBegin [] = Unit {0}
AllBegin (f ∷ fs) = (f.code.phase ≡ Begins) × AllBegin fs

-- __kmpc_target_init answers -1 to it, and it stands in no fork and in no loop of the runtime
abbrev pub RunsUser : ThreadState → Type 0
RunsUser t = (is_worker t ≡ false) × AllBegin t.frames

-- an event of memory, of a kernel's end, or of the thread's
abbrev pub QuietAction : Action → Type 0
QuietAction (Loads p cell) = Unit {0}
QuietAction (Stores p cell given) = Unit {0}
QuietAction (Updates p width op n) = Unit {0}
QuietAction _ = ⊥

abbrev pub QuietEvent : Event → Type 0
QuietEvent (Does action) = QuietAction action
QuietEvent Deinit = Unit {0}
QuietEvent Leaves = Unit {0}
QuietEvent _ = ⊥

abbrev pub QuietStep : NextStep → Type 0
QuietStep = LeadsTo RunsUser QuietEvent

quiet_found : {A : Type 0} (r : Result A Trap) (go : A → NextStep) → ((x : A) → QuietStep (go x)) → QuietStep (with_found r go)
quiet_found = if_found RunsUser QuietEvent

quiet_number : (w : Word) (go : ℕ → NextStep) → ((n : ℕ) → QuietStep (go n)) → QuietStep (with_number w go)
quiet_number = if_number RunsUser QuietEvent

quiet_pointer : (w : Word) (go : Ptr → NextStep) → ((p : Ptr) → QuietStep (go p)) → QuietStep (with_pointer w go)
quiet_pointer = if_pointer RunsUser QuietEvent

quiet_result : {A : Type 0} (o : Option A) (go : A → NextStep) → ((x : A) → QuietStep (go x)) → QuietStep (with_result o go)
quiet_result = if_result RunsUser QuietEvent

quiet_scalar : (ty : Ty) (go : NextStep) → QuietStep go → QuietStep (with_scalar ty go)
quiet_scalar = if_scalar RunsUser QuietEvent

-- bytes that are put into a block move no call
put_begins : (spot : Spot) (bytes : List Byte) (fs : List Frame) → AllBegin fs → AllBegin (put_in spot bytes fs)
put_begins spot bytes [] h = tt
put_begins spot bytes (f ∷ fs) h = (h.0, put_begins spot bytes fs h.1)

module _ (m : Module) (t : ThreadState) (user : is_worker t ≡ false) (f : Frame) (rest : List Frame) (h : AllBegin (f ∷ rest)) where
  -- the innermost call goes on at another instruction
  quiet_on : (x : Option Name) (word : Word) → QuietStep (Local (goes_on t f rest x word))
  quiet_on x word = (user, (refl, h.1))

  quiet_put : (spot : Spot) (bytes : List Byte) (c : Code) → c.phase ≡ Begins → QuietStep (Local (with_frames t (put_in spot bytes (record f { code = c } ∷ rest))))
  quiet_put spot bytes c begins = (user, put_begins spot bytes (record f { code = c } ∷ rest) (begins, h.1))

  quiet_loads : (x : Option Name) (cell : Cell) (w : Where) → QuietStep (loads t f rest x cell w)
  quiet_loads x cell (InStack spot offset) = search (quiet_found, quiet_on)
  quiet_loads x cell (Elsewhere p) = tt

  quiet_stores : (cell : Cell) (word : Word) (w : Where) → QuietStep (stores t f rest cell word w)
  quiet_stores cell word (InStack spot offset) = search (quiet_found, quiet_put)
  quiet_stores cell word (Elsewhere p) = tt

  quiet_updates : (x : Option Name) (width : ℕ) (op : RmwOp) (k : ℕ) (w : Where) → QuietStep (updates t f rest x width op k w)
  quiet_updates x width op k (InStack spot offset) = search (quiet_found, quiet_number, quiet_put)
  quiet_updates x width op k (Elsewhere p) = tt

  quiet_allocates : (x : Option Name) (size : ℕ) → QuietStep (allocates t f rest x size)
  quiet_allocates x size = if_either RunsUser QuietEvent (nat_le size block_limit) _ (Trapped TooLarge) (user, (refl, h.1)) tt

  quiet_begins : (x : Option Name) (operands : List Typed) → QuietStep (begins_kernel t f rest x operands)
  quiet_begins x operands =
      subst (λ worker. QuietStep (if worker && runs_loop operands then Local (goes_in t f rest (Loops Sleeps)) else Local (goes_on t f rest x (Int t.answers.init)))) (sym user) (quiet_on x (Int t.answers.init))

  quiet_entry : (x : Option Name) (operands : List Typed) (r : Rtl) → is_quiet (Some r) ≡ true → QuietStep (next_entry m t f rest x operands r)
  quiet_entry x operands TargetInit q = quiet_begins x operands
  quiet_entry x operands TargetDeinit q = tt
  quiet_entry x operands _ q = let no : ⊥ = cc in absurd no

  quiet_called : (k : ℕ) (params : List Param) (words : List Word) (x : Option Name) → QuietStep (Local (with_frames t (called k params words x ∷ f ∷ rest)))
  quiet_called k params words x = (user, (refl, h))

  quiet_body : (x : Option Name) (operands : List Typed) (k : ℕ) (params : List Param) (bs : List Block) → QuietStep (next_call m t f rest x operands (with_body k params bs))
  quiet_body x operands k params [] = tt
  quiet_body x operands k params (b ∷ bs) = search (quiet_found, quiet_called)

  quiet_function : (x : Option Name) (operands : List Typed) (k : ℕ) (o : Option Function) → QuietStep (next_call m t f rest x operands (defined_as k o))
  quiet_function x operands k None = tt
  quiet_function x operands k (Some g) = quiet_body x operands k g.params g.blocks

  quiet_defined : (x : Option Name) (operands : List Typed) (o : Option ℕ) → QuietStep (next_call m t f rest x operands (defined_at m o))
  quiet_defined x operands None = tt
  quiet_defined x operands (Some k) = quiet_function x operands k (slice_get m.functions k)

  quiet_callee : (x : Option Name) (operands : List Typed) (y : Name) (o : Option Rtl) → is_quiet o ≡ true → QuietStep (next_call m t f rest x operands (entry_or o (defined_at m (function_place m y))))
  quiet_callee x operands y None q = quiet_defined x operands (function_place m y)
  quiet_callee x operands y (Some r) q = quiet_entry x operands r q

  quiet_call : (x : Option Name) (operands : List Typed) (v : Value) → AllQuiet (value_names v) → QuietStep (next_call m t f rest x operands (callee_of m v))
  quiet_call x operands (GlobalValue y) q = quiet_callee x operands y (entry_of y) (and_parts (is_quiet_name y) _ q).0
  quiet_call x operands _ q = tt

  quiet_enters : (at : Place) (r : Registers) → QuietStep (enters t f rest at r)
  quiet_enters at r = (user, (refl, h.1))

  quiet_block : (o : Option ℕ) → QuietStep (to_block m t f rest o)
  quiet_block None = tt
  quiet_block (Some b) = search (quiet_found, quiet_enters)

  quiet_label : (x : Name) → QuietStep (to_label m t f rest x)
  quiet_label x = quiet_block (place_in (labels m f.code.at.function) x)

-- a return brings a call on that began its instruction
quiet_back : (t : ThreadState) → is_worker t ≡ false → (f : Frame) (rest : List Frame) → AllBegin rest → (back : Option Name) (word : Option Word) → QuietStep (Local (goes_back t f rest back word))
quiet_back t user f rest h back None = (user, (refl, h))
quiet_back t user f rest h back (Some word) = (user, (refl, h))

quiet_returns : (t : ThreadState) → is_worker t ≡ false → (fs : List Frame) → AllBegin fs → (back : Option Name) (word : Option Word) → QuietStep (returns t fs back word)
quiet_returns t user [] h back word = tt
quiet_returns t user (f ∷ rest) h back word = subst (λ p. QuietStep (Local (back_in p t f rest back word))) (sym h.0) (quiet_back t user f rest h.1 back word)

module _ (m : Module) (t : ThreadState) (user : is_worker t ≡ false) (f : Frame) (rest : List Frame) (h : AllBegin (f ∷ rest)) where
  quiet_kind : (x : Option Name) (k : Kind) → AllQuiet (kind_callees k) → QuietStep (next_kind m t f rest x k)
  quiet_kind x (Bin op flags ty a b) q = search (quiet_found, quiet_number, quiet_on m t user f rest h) depth 12
  quiet_kind x (ICmp pred ty a b) q = search (quiet_found, quiet_result, quiet_on m t user f rest h)
  quiet_kind x (Cast op from to) q = search (quiet_found, quiet_scalar, quiet_on m t user f rest h)
  quiet_kind x (Select c a b) q = search (quiet_found, quiet_number, quiet_on m t user f rest h) depth 12
  quiet_kind x (Phi ty edges) q = tt
  quiet_kind x (Alloca ty align) q = quiet_allocates m t user f rest h x (Size m.types ty)
  quiet_kind x (LoadInst ty at order align) q = search (quiet_found, quiet_pointer, quiet_scalar, quiet_loads m t user f rest h)
  quiet_kind x (StoreInst value at order align) q = search (quiet_found, quiet_pointer, quiet_stores m t user f rest h)
  quiet_kind x (Rmw op at value order align) q = search (quiet_found, quiet_pointer, quiet_number, quiet_updates m t user f rest h)
  quiet_kind x (Gep inbounds ty base path) q = search (quiet_found, quiet_pointer, quiet_result, quiet_on m t user f rest h) depth 12
  quiet_kind x (Fence order) q = (user, (refl, h.1))
  quiet_kind x (Call tail_word ret callee operands) q = quiet_call m t user f rest h x operands callee q
  quiet_kind x (Br to) q = quiet_label m t user f rest h to
  quiet_kind x (CondBr c then_to else_to) q = search (quiet_found, quiet_number, quiet_label m t user f rest h)
  quiet_kind x (Switch on other cases) q = search (quiet_found, quiet_number, quiet_label m t user f rest h)
  quiet_kind x (Ret None) q = quiet_returns t user rest h.1 f.code.back None
  quiet_kind x (Ret (Some v)) q = search (quiet_found, quiet_returns t user rest h.1 f.code.back)
  quiet_kind x UnreachableInst q = tt

  quiet_inst : (o : Option Inst) → QuietInst o → QuietStep (next_inst m t f rest o)
  quiet_inst None q = tt
  quiet_inst (Some i) q = quiet_kind i.result i.kind q

quiet_frames : (m : Module) → CallsQuietly m → (t : ThreadState) → is_worker t ≡ false → (fs : List Frame) → AllBegin fs → QuietStep (next_frames m t fs)
quiet_frames m quiet t user [] h = tt
quiet_frames m quiet t user (f ∷ rest) h =
    subst (λ p. QuietStep (next_in m t f rest (inst_at m f.code.at) p)) (sym h.0) (quiet_inst m t user f rest h (inst_at m f.code.at) (quiet_inst_at m quiet f.code.at))

-- a thread that runs user code goes on in it, and its events are quiet
pub quiet_next : (m : Module) → CallsQuietly m → (t : ThreadState) → RunsUser t → QuietStep (Next m t)
quiet_next m quiet t user = quiet_frames m quiet t user.0 t.frames user.1

user_resumed : (m : Module) (t : ThreadState) → RunsUser t → (fs : List Frame) → AllBegin fs → (answer : Option Word) → RunsUser (resumed_frames m t fs answer)
user_resumed m t user [] h answer = user
user_resumed m t user (f ∷ rest) h None = (user.0, (refl, h.1))
user_resumed m t user (f ∷ rest) h (Some word) = (user.0, (refl, h.1))

-- so it does behind an event
pub runs_user_resumed : (m : Module) (t : ThreadState) → RunsUser t → (answer : Option Word) → RunsUser (resumed m t answer)
runs_user_resumed m t user answer = user_resumed m t user t.frames user.1 answer
