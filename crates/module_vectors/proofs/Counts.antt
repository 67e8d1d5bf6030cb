-- A module whose registers were counted, function by function.
use Rattle.std.proofs.Common.{◌≡◌, ℕ, ◌<◌, ◌≤◌, ◌^◌, length, Option, None, sym, subst, arith, slice_get, ◌⊎◌, inl, inr}
use Rattle.std.proofs.lemmas.Bool.{cases_lt}
use Rattle.std.proofs.lemmas.Option.{slice_get_past}
use Rattle.ir_core.specs.declared.module.Function.{Function}
use Rattle.ir_core.specs.declared.module.Module.{Module}
use Rattle.ir_core.specs.Places.{register_names, register_names_of}
use Rattle.ir_tables.specs.Indexed.{CanBeCounted}

pub counted : (m : Module) (n : ℕ) → length m.functions ≤ n → ((f : ℕ) → f < n → length (register_names m f) < 2 ^ 64) → CanBeCounted m
counted m n all each f = by (cases_lt f n)
  where
    by : (f < n) ⊎ (n ≤ f) → length (register_names m f) < 2 ^ 64
    by (inl lt) = each f lt
    by (inr le) =
        let none : slice_get m.functions f ≡ None = slice_get_past m.functions f (omega arith) in
        subst (λ (o : Option Function). length (register_names_of o) < 2 ^ 64) (sym none) (omega arith)
