-- What holds of a thread's next step, whichever it is: a case for each of the small functions that lead to one.
use Rattle.std.proofs.Common.{ℕ, Bool, true, false, Option, Some, None, Result, Ok, Err}
use Rattle.std.specs.Prelude.{if◌then◌else◌}
use Rattle.ir_core.specs.declared.types.Ty.{Ty}
use Rattle.ir_core.specs.FirstForm.{is_scalar}
use Rattle.mem_model.specs.declared.memory.Ptr.{Ptr}
use Rattle.mem_model.specs.declared.memory.Word.{Word}
use Rattle.mem_model.specs.declared.memory.Word.TheVariants.{Int, Ptr as Address}
use Rattle.mem_model.specs.declared.step.Trap.{Trap}
use Rattle.mem_model.specs.declared.step.Trap.TheVariants.{Unreachable}
use Rattle.mem_model.specs.Thread.{ThreadState}
use Rattle.mem_model.specs.Steps.{Event, NextStep, Local, Pending, Trapped, with_found, with_number, with_pointer, with_result, with_scalar}

-- the state behind a step of the thread's own is one of P, and a pending event is one of E
abbrev pub LeadsTo : (ThreadState → Type 0) → (Event → Type 0) → NextStep → Type 0
LeadsTo P E (Local u) = P u
LeadsTo P E (Pending event) = E event
LeadsTo P E _ = Unit {0}

module _ (P : ThreadState → Type 0) (E : Event → Type 0) where
  pub if_found : {A : Type 0} (r : Result A Trap) (go : A → NextStep) → ((x : A) → LeadsTo P E (go x)) → LeadsTo P E (with_found r go)
  if_found (Err e) go h = tt
  if_found (Ok x) go h = h x

  pub if_number : (w : Word) (go : ℕ → NextStep) → ((n : ℕ) → LeadsTo P E (go n)) → LeadsTo P E (with_number w go)
  if_number (Int n) go h = h n
  if_number (Address p) go h = tt

  pub if_pointer : (w : Word) (go : Ptr → NextStep) → ((p : Ptr) → LeadsTo P E (go p)) → LeadsTo P E (with_pointer w go)
  if_pointer (Int n) go h = tt
  if_pointer (Address p) go h = h p

  pub if_result : {A : Type 0} (o : Option A) (go : A → NextStep) → ((x : A) → LeadsTo P E (go x)) → LeadsTo P E (with_result o go)
  if_result None go h = tt
  if_result (Some x) go h = h x

  pub if_either : (test : Bool) (x y : NextStep) → LeadsTo P E x → LeadsTo P E y → LeadsTo P E (if test then x else y)
  if_either true x y h k = h
  if_either false x y h k = k

  pub if_scalar : (ty : Ty) (go : NextStep) → LeadsTo P E go → LeadsTo P E (with_scalar ty go)
  if_scalar ty go h = if_either (is_scalar ty) go (Trapped Unreachable) h tt
