-- Where the kernel stands that a line names.
use Rattle.std.proofs.Common.{◌≡◌, ℕ, suc, List, [], ◌∷◌, codes, Option, Some, None, Ok, Bool, true, false, cond, refl, ap, subst, slice_get}
use Rattle.std.proofs.lemmas.Bool.{and_parts}
use Rattle.std.specs.Str.{bytes_eq}
use Rattle.ir_core.specs.declared.module.Module.{Module}
use Rattle.ir_core.specs.declared.module.Function.{Function}
use Rattle.ir_core.specs.Text.{name_text}
use Rattle.mem_model.specs.Launching.{is_kernel}
use Rattle.run_text.specs.Lines.{behind}
use Rattle.run_text.specs.LaunchText.{first_function, kernel_named, known_kernel, named_kernel, kernel_line}

-- one of these functions, with its place, that passes a test
record Passes (is : Function → Bool) (fs : List Function) (f : Function) : Type 0 where
  place : ℕ
  there : slice_get fs place ≡ Some f
  passed : is f ≡ true

first_by : (is : Function → Bool) (g : Function) (gs : List Function) (f : Function) → (first_function is gs ≡ Some f → Passes is gs f) → (b : Bool) → is g ≡ b → cond b (Some g) (first_function is gs) ≡ Some f → Passes is (g ∷ gs) f
first_by is g gs f more true h e =
    let same : g ≡ f = cc in
    subst (Passes is (g ∷ gs)) same (record { place = 0; there = refl; passed = h })
first_by is g gs f more false h e = let rest = more e in record { place = suc rest.place; there = rest.there; passed = rest.passed }

first_passes : (is : Function → Bool) (fs : List Function) (f : Function) → first_function is fs ≡ Some f → Passes is fs f
first_passes is [] f e = let h : ⊥ = cc in absurd h
first_passes is (g ∷ gs) f e = first_by is g gs f (first_passes is gs f) (is g) refl e

-- a kernel of the module, with its place
pub record IsKernelOf (m : Module) (f : Function) : Type 0 where
  pub place : ℕ
  pub there : slice_get m.functions place ≡ Some f
  pub kernel : is_kernel f ≡ true

known_is : (o : Option Function) (f : Function) → known_kernel o ≡ Ok f → o ≡ Some f
known_is None f e = let h : ⊥ = cc in absurd h
known_is (Some g) f e = let h : g ≡ f = cc in ap Some h

named_is_kernel : (m : Module) (o : Option (List ℕ)) (f : Function) → named_kernel m o ≡ Ok f → IsKernelOf m f
named_is_kernel m None f e = let g : ⊥ = cc in absurd g
named_is_kernel m (Some []) f e = let g : ⊥ = cc in absurd g
named_is_kernel m (Some (c ∷ cs)) f e =
    let first = first_passes _ m.functions f (known_is (kernel_named m (c ∷ cs)) f e) in
    let both = and_parts (is_kernel f) (bytes_eq (name_text f.name) (c ∷ cs)) first.passed in
    record { place = first.place; there = first.there; kernel = both.0 }

pub line_names_kernel : (m : Module) (line : List ℕ) (f : Function) → kernel_line m line ≡ Ok f → IsKernelOf m f
line_names_kernel m line f e = named_is_kernel m (behind (codes "kernel ") line) f e
