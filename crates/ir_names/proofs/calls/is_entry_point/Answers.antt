use Rattle.std.proofs.Common.{◌≡◌, ℕ, List, Option, Some, None, MatchOption, is_some, sym, ◌∙◌}
use Rattle.ir_core.specs.declared.rtl.Rtl.{Rtl}
use Rattle.ir_core.specs.EntryPoints.{entry_name, is_entry_point}
use Rattle.ir_core.proofs.EntryPoints.{is_entry_point-some, is_entry_point-none}
use Rattle.ir_names.proofs.calls.is_entry_point.Goals as goal

found : (x : List ℕ) (o : Option Rtl) → MatchOption o ((r : Rtl) → entry_name r ≡ x → ⊥) (λ r. entry_name r ≡ x) → is_some o ≡ is_entry_point x
found x None none = sym (is_entry_point-none x none)
found x (Some r) same = sym (is_entry_point-some x r same)

pub returns : goal.returns
returns c = c.is_some.ensures ∙ found c.args.name.now c.of.result c.of.ensures
