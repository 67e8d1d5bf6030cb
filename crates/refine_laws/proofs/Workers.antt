-- What a worker does in a kernel whose machine is off: it asks, tests, branches and leaves.
use Rattle.std.proofs.Common.{◌≡◌, ◌<◌, ℕ, zero, suc, List, [], ◌∷◌, length, cond, Some, None, refl, ap, ◌∙◌, arith}
use Rattle.std.specs.Prelude.{false, option_map, slice_get}
use Rattle.std.proofs.lemmas.Slice.Eq.{bytes_eq-Decides}
use Rattle.ir_core.specs.declared.module.Module.{Module}
use Rattle.ir_core.specs.declared.module.Function.{Function}
use Rattle.ir_core.specs.MachineOff.{inst_off, machine_off}
use Rattle.mem_model.specs.declared.launch.Launch.{Launch}
use Rattle.mem_model.specs.declared.memory.Word.{Word}
use Rattle.mem_model.specs.declared.memory.Word.TheVariants.{Int}
use Rattle.mem_model.specs.declared.phase.Phase.TheVariants.{Begins}
use Rattle.mem_model.specs.Thread.{Name, Place, Registers, Frame, ThreadState, assigned}
use Rattle.ir_core.specs.Places.{inst_at, function_place, block_in, inst_in, labels_of, place_in, PhiNode, phis_in, label_at}
use Rattle.mem_model.specs.Next.{NextStep, Local, Pending, Leaves, with_found, with_phis, enters, to_block, next_inst, Next}
use Rattle.mem_model.specs.Launching.{first_registers, thread_at}
use Rattle.team_model.specs.Team.{answers_at, role}
use Rattle.refine_laws.proofs.WayOut.{WayOut}
use Rattle.refine_laws.proofs.SameNext.{to_label_same, inst_at_off, first_thread_same}
use Rattle.refine_laws.proofs.KernelShape.{KernelShape, minus_one}

-- a name is found where it was just put
pub found : (r : Registers) (x : Name) (w : Word) → assigned r (Some x) w x ≡ Some w
found r x w = ap (λ b. cond b (Some w) (r x)) ((bytes_eq-Decides x x).1 refl)

module _ (m : Module) (l : Launch) (k : ℕ) (g : Function) (there : slice_get m.functions k ≡ Some g) (sh : KernelShape g.blocks) where
  -- the module with its machine off
  abbrev out : Module
  out = machine_off m

  abbrev place : ℕ → ℕ → Place
  place b i = record { function = k; block = b; index = i }

  abbrev pub asked : ℕ → Registers
  asked n = assigned (first_registers m k l) (Some sh.x) (Int n)

  abbrev pub tested : ℕ → Registers
  tested n = assigned (asked n) (Some sh.y) (Int 0)

  -- where a worker is after j steps, and with which registers
  abbrev worker_place : ℕ → Place
  worker_place zero = place 0 0
  worker_place (suc zero) = place 0 1
  worker_place (suc (suc zero)) = place 0 2
  worker_place (suc (suc (suc j))) = place 2 0

  abbrev worker_registers : ℕ → ℕ → Registers
  worker_registers n zero = first_registers m k l
  worker_registers n (suc zero) = asked n
  worker_registers n (suc (suc j)) = tested n

  abbrev pub worker_frame : ℕ → ℕ → Frame
  worker_frame n j = record { code = record { at = worker_place j; phase = Begins; registers = worker_registers n j; back = None }; blocks = [] }

  abbrev pub worker : ℕ → ℕ → ThreadState
  worker n j = record { own = n; size = l.threads; enters = false; counter = 0; frames = worker_frame n j ∷ []; answers = answers_at n 0 }

  abbrev pub worker_does : ℕ → ℕ → NextStep
  worker_does n zero = Local (worker n 1)
  worker_does n (suc zero) = Local (worker n 2)
  worker_does n (suc (suc zero)) = Local (worker n 3)
  worker_does n (suc (suc (suc j))) = Pending Leaves

  -- a worker with its last step before it, behind the phis of its block
  abbrev arrives : ℕ → List PhiNode → NextStep
  arrives n phis =
      with_found (with_phis m (tested n) (label_at m (place 0 2)) phis (tested n)) (enters (worker n 2) (worker_frame n 2) [] (record { function = k; block = 2; index = length phis }))

  -- its next step is that of the instruction at which it stands
  stands_at : (n j b i : ℕ) → worker_place j ≡ place b i → Next out (worker n j) ≡ next_inst out (worker n j) (worker_frame n j) [] (option_map inst_off (inst_in (slice_get g.blocks b) i))
  stands_at n j b i at = ap (next_inst out (worker n j) (worker_frame n j) []) (ap (inst_at out) at ∙ inst_at_off m (place b i) ∙ ap (λ o. option_map inst_off (inst_in (block_in o b) i)) there)

  pub worker_next : (n j : ℕ) → n < minus_one → Next out (worker n j) ≡ worker_does n j
  worker_next n zero low = stands_at n 0 0 0 refl ∙ sh.asks out (worker n 0) (worker_frame n 0) []
  worker_next n (suc zero) low = stands_at n 1 0 1 refl ∙ sh.tests out (worker n 1) (worker_frame n 1) [] n low (found (first_registers m k l) sh.x (Int n))
  worker_next n (suc (suc zero)) low =
      stands_at n 2 0 2 refl
      ∙ sh.branches out (worker n 2) (worker_frame n 2) [] (found (asked n) sh.y (Int 0))
      ∙ to_label_same m (worker n 2) (worker_frame n 2) [] sh.exit
      ∙ ap (λ o. to_block m (worker n 2) (worker_frame n 2) [] (place_in (labels_of o) sh.exit)) there
      ∙ ap (to_block m (worker n 2) (worker_frame n 2) []) sh.exit_place
      ∙ ap (arrives n) (ap (λ o. phis_in (block_in o 2)) there ∙ sh.no_phis)
  worker_next n (suc (suc (suc j))) low = stands_at n (suc (suc (suc j))) 2 0 refl ∙ sh.returns out (worker n (suc (suc (suc j)))) (worker_frame n (suc (suc (suc j))))

  -- a worker of such a kernel is on its way out from the start
  pub way_out : function_place m l.kernel ≡ Some k → l.threads < minus_one → WayOut out l 3
  way_out named few = record {
    state = worker;
    begins = λ i. first_thread_same m l (role l false i) (answers_at i 0) ∙ ap (thread_at m l (role l false i) (answers_at i 0)) named;
    goes = goes;
    leaves = λ i low. worker_next i 3 (omega arith);
    stays = λ i. refl;
  }
    where
      goes : (i j : ℕ) → i < l.threads → j < 3 → Next out (worker i j) ≡ Local (worker i (suc j))
      goes i zero low h = worker_next i 0 (omega arith)
      goes i (suc zero) low h = worker_next i 1 (omega arith)
      goes i (suc (suc zero)) low h = worker_next i 2 (omega arith)
      goes i (suc (suc (suc j))) low h = absurd (omega arith)
