-- A launch that is read of a module's text fits the module.
use Rattle.std.proofs.Common.{◌≡◌, ℕ, ◌+◌, ◌-◌, ◌^◌, ◌<◌, ◌≤◌, List, [], ◌∷◌, length, replicate, codes, Option, Some, None, option_and_then, Result, Ok, Err, Bool, true, false, nat_lt, nat_le, ◌&&◌, if◌then◌else◌, refl, subst, arith}
use Rattle.std.proofs.lemmas.List.{length-replicate}
use Rattle.std.proofs.lemmas.Bool.{and_parts, leb-true}
use Rattle.std.proofs.lemmas.Nat.{pow_pos}
use Rattle.std.proofs.Math.Nat.{mod-lt}
use Rattle.ir_core.specs.declared.types.Ty.{Ty}
use Rattle.ir_core.specs.declared.types.Ty.TheVariants.{Int as IntTy, Ptr}
use Rattle.ir_core.specs.declared.module.Module.{Module}
use Rattle.ir_core.specs.declared.module.Function.{Function}
use Rattle.ir_core.specs.declared.module.Param.{Param}
use Rattle.ir_core.specs.Numbers.{fits, modulo}
use Rattle.accepted_laws.proofs.Names.{names_are_places}
use Rattle.checked_modules.specs.Checked.{HasNoRefusal}
use Rattle.mem_model.specs.declared.launch.Launch.{Launch}
use Rattle.mem_model.specs.declared.launch.Arg.{Arg}
use Rattle.mem_model.specs.declared.launch.Arg.TheVariants.{Buffer, Int as IntArg, Null}
use Rattle.mem_model.specs.Memory.{block_limit}
use Rattle.mem_model.specs.Launching.{Fits, FitsParam, FitParams, buffer_size, buffer_sizes, threads_limit, steps_limit, buffers_limit}
use Rattle.run_text.specs.declared.launch.LaunchFaultKind.{LaunchFaultKind}
use Rattle.run_text.specs.declared.launch.LaunchFaultKind.TheVariants.{ArgumentForm, ArgumentSize, ThreadsRange, StepsRange, TextSize}
use Rattle.run_text.specs.declared.launch.LaunchFault.{LaunchFault}
use Rattle.run_text.specs.Lines.{Line, lines, behind, numeral}
use Rattle.run_text.specs.Kept.{kept_lines}
use Rattle.run_text.specs.LaunchText.{ArgForm, Zeros, Bytes, NullForm, NumberForm, kernel_line, in_range, threads_line, steps_line, sized, arg_for, formed_arg, arg_form, or_fault, next_line, and_more, arguments, launch_with, launch_in, launch_limit, LaunchOf, fault_at}
use Rattle.run_text.specs.Stages.{behind_steps, behind_threads, behind_kernel}
use Rattle.run_text.proofs.NamedKernels.{IsKernelOf, line_names_kernel}

-- ---- arguments

sized_by : (left size : ℕ) (bytes : List ℕ) (a : Arg) → length bytes ≡ size → (b : Bool) → (nat_le size block_limit && nat_le size left) ≡ b →
    ◌≡◌ {A = Result Arg LaunchFaultKind} (if b then Ok (Buffer bytes) else Err ArgumentSize) (Ok a) → FitsParam Ptr a × (buffer_size a ≤ left)
sized_by left size bytes a n false h e = let f : ⊥ = cc in absurd f
sized_by left size bytes a n true h e =
    let p = and_parts (nat_le size block_limit) (nat_le size left) h in
    let block = leb-true size block_limit p.0 in
    let all = leb-true size left p.1 in
    let same : Buffer bytes ≡ a = cc in
    subst (λ x. FitsParam Ptr x × (buffer_size x ≤ left)) same (omega arith, omega arith)

sized_fits : (left size : ℕ) (bytes : List ℕ) (a : Arg) → length bytes ≡ size → sized left size bytes ≡ Ok a → FitsParam Ptr a × (buffer_size a ≤ left)
sized_fits left size bytes a n e = sized_by left size bytes a n (nat_le size block_limit && nat_le size left) refl e

int_by : (left width : ℕ) (is_negative : Bool) (n : ℕ) (a : Arg) (b : Bool) →
    ◌≡◌ {A = Result Arg LaunchFaultKind} (if b then Ok (IntArg (modulo width is_negative n)) else Err ArgumentForm) (Ok a) → FitsParam (IntTy width) a × (buffer_size a ≤ left)
int_by left width is_negative n a false e = let f : ⊥ = cc in absurd f
int_by left width is_negative n a true e =
    let same : IntArg (modulo width is_negative n) ≡ a = cc in
    subst (λ x. FitsParam (IntTy width) x × (buffer_size x ≤ left)) same (below width is_negative n, omega arith)
  where
    below : (width : ℕ) (is_negative : Bool) (n : ℕ) → modulo width is_negative n < 2 ^ width
    below width true n = mod-lt (2 ^ width - n) (pow_pos width)
    below width false n = mod-lt n (pow_pos width)

arg_fits : (left : ℕ) (ty : Ty) (f : ArgForm) (a : Arg) → arg_for left ty f ≡ Ok a → FitsParam ty a × (buffer_size a ≤ left)
arg_fits left Ptr (Zeros n) a e = sized_fits left n (replicate n 0) a (length-replicate n 0) e
arg_fits left Ptr (Bytes bytes) a e = sized_fits left (length bytes) bytes a refl e
arg_fits left Ptr NullForm a e = let same : Null ≡ a = cc in subst (λ x. FitsParam Ptr x × (buffer_size x ≤ left)) same (tt, omega arith)
arg_fits left Ptr (NumberForm is_negative n) a e = let f : ⊥ = cc in absurd f
arg_fits left (IntTy width) (NumberForm is_negative n) a e = int_by left width is_negative n a (fits width is_negative n) e
arg_fits left (IntTy width) (Zeros n) a e = let f : ⊥ = cc in absurd f
arg_fits left (IntTy width) (Bytes bytes) a e = let f : ⊥ = cc in absurd f
arg_fits left (IntTy width) NullForm a e = let f : ⊥ = cc in absurd f
arg_fits left _ f a e = let f : ⊥ = cc in absurd f

formed_fits : (left : ℕ) (ty : Ty) (o : Option ArgForm) (a : Arg) → formed_arg left ty o ≡ Ok a → FitsParam ty a × (buffer_size a ≤ left)
formed_fits left ty None a e = let f : ⊥ = cc in absurd f
formed_fits left ty (Some f) a e = arg_fits left ty f a e

-- what goes on behind a line that was read
fault_by : {A B X : Type 0} (line : ℕ) (r : Result A LaunchFaultKind) (go : A → Result B LaunchFault) (y : B) → ((x : A) → r ≡ Ok x → go x ≡ Ok y → X) → or_fault line r go ≡ Ok y → X
fault_by line (Err fault) go y k e = let f : ⊥ = cc in absurd f
fault_by line (Ok x) go y k e = k x refl e

more_by : {X : Type 0} (arg : Arg) (r : Result (List Arg) LaunchFault) (args : List Arg) → ((rest : List Arg) → r ≡ Ok rest → (arg ∷ rest) ≡ args → X) → and_more arg r ≡ Ok args → X
more_by arg (Err fault) args k e = let f : ⊥ = cc in absurd f
more_by arg (Ok rest) args k e = let same : (arg ∷ rest) ≡ args = cc in k rest refl same

abbrev FitAll : ℕ → List Param → List Arg → Type 0
FitAll left ps args = FitParams ps args × (buffer_sizes args ≤ left)

args_fit : (end left : ℕ) (ps : List Param) (ls : List Line) (args : List Arg) → arguments end left ps ls ≡ Ok args → FitAll left ps args
args_fit end left [] [] args e = let same : [] ≡ args = cc in subst (FitAll left []) same (tt, omega arith)
args_fit end left [] (l ∷ ls) args e = let f : ⊥ = cc in absurd f
args_fit end left (p ∷ ps) [] args e = let f : ⊥ = cc in absurd f
args_fit end left (p ∷ ps) (l ∷ ls) args e =
    fault_by l.number (formed_arg left p.ty (arg_form l.bytes)) (λ arg. and_more arg (arguments end (left - buffer_size arg) ps ls)) args
    (λ arg r h.
    more_by arg (arguments end (left - buffer_size arg) ps ls) args
    (λ rest s same.
    let one = formed_fits left p.ty (arg_form l.bytes) arg r in
    let more = args_fit end (left - buffer_size arg) ps ls rest s in
    subst (FitAll left (p ∷ ps)) same ((one.0, more.0), omega (arith, one.1, more.1)))
    h)
    e

-- ---- the lines

module _ (m : Module) (rules : HasNoRefusal m) where
  range_by : (limit : ℕ) (fault : LaunchFaultKind) (k n : ℕ) (b : Bool) → (nat_le 1 k && nat_le k limit) ≡ b → ◌≡◌ {A = Result ℕ LaunchFaultKind} (if b then Ok k else Err fault) (Ok n) → (1 ≤ n) × (n ≤ limit)
  range_by limit fault k n false h e = let f : ⊥ = cc in absurd f
  range_by limit fault k n true h e =
      let p = and_parts (nat_le 1 k) (nat_le k limit) h in
      let same : k ≡ n = cc in
      subst (λ x. (1 ≤ x) × (x ≤ limit)) same (leb-true 1 k p.0, leb-true k limit p.1)

  in_the_range : (limit : ℕ) (fault : LaunchFaultKind) (o : Option ℕ) (n : ℕ) → in_range limit fault o ≡ Ok n → (1 ≤ n) × (n ≤ limit)
  in_the_range limit fault None n e = let f : ⊥ = cc in absurd f
  in_the_range limit fault (Some k) n e = range_by limit fault k n (nat_le 1 k && nat_le k limit) refl e

  line_by : {A B X : Type 0} (end : ℕ) (read : List ℕ → Result A LaunchFaultKind) (ls : List Line) (go : A → List Line → Result B LaunchFault) (y : B) →
      ((bytes : List ℕ) (rest : List Line) (x : A) → read bytes ≡ Ok x → go x rest ≡ Ok y → X) → next_line end read ls go ≡ Ok y → X
  line_by end read [] go y k e = let f : ⊥ = cc in absurd f
  line_by end read (l ∷ ls) go y k e = fault_by l.number (read l.bytes) (λ x. go x ls) y (k l.bytes ls) e

  args_by : (f : Function) (threads steps : ℕ) (l : Launch) → IsKernelOf m f → (1 ≤ threads) × (threads ≤ threads_limit) → (1 ≤ steps) × (steps ≤ steps_limit) →
      (r : Result (List Arg) LaunchFault) → ((args : List Arg) → r ≡ Ok args → FitAll buffers_limit f.params args) → launch_with f threads steps r ≡ Ok l → Fits m l
  args_by f threads steps l is t s (Err fault) fit e = let g : ⊥ = cc in absurd g
  args_by f threads steps l is t s (Ok args) fit e =
      let same : ◌≡◌ {A = Launch} (record { kernel = f.name; threads = threads; steps = steps; args = args }) l = cc in
      let all = fit args refl in
      subst (Fits m) same (record { place = is.place; function = f; named = names_are_places m rules.names is.place f is.there; there = is.there; is_kernel = is.kernel; threads = t; steps = s; params = all.0; buffers = all.1 })

  launch_by : (end : ℕ) (ls : List Line) (l : Launch) → launch_in m end ls ≡ Ok l → Fits m l
  launch_by end ls l e =
      line_by end (kernel_line m) ls (behind_kernel end) l
      (λ kernel more f k. line_by end threads_line more (behind_threads f end) l
      (λ threads_bytes more threads t. line_by end steps_line more (behind_steps f end threads) l
      (λ steps_bytes more steps s.
      args_by f threads steps l (line_names_kernel m kernel f k)
      (in_the_range threads_limit ThreadsRange (option_and_then numeral (behind (codes "threads ") threads_bytes)) threads t)
      (in_the_range steps_limit StepsRange (option_and_then numeral (behind (codes "steps ") steps_bytes)) steps s)
      (arguments end buffers_limit f.params more) (args_fit end buffers_limit f.params more))))
      e

  launch_if : (b : Bool) (text : List ℕ) (l : Launch) → ◌≡◌ {A = Result Launch LaunchFault} (if b then Err (fault_at 1 TextSize) else launch_in m (length (lines text) + 1) (kept_lines 1 text)) (Ok l) → Fits m l
  launch_if true text l e = let f : ⊥ = cc in absurd f
  launch_if false text l e = launch_by (length (lines text) + 1) (kept_lines 1 text) l e

  pub launch_fits : (text : List ℕ) (l : Launch) → LaunchOf m text ≡ Ok l → Fits m l
  launch_fits text l e = launch_if (nat_lt launch_limit (length text)) text l e
