use Rattle.std.proofs.Common.{◌≡◌, drop, filter}
use Rattle.std.specs.Option.{option_copied}
use Rattle.std.specs.Str.{bytes_eq}
use Rattle.ir_core.specs.Layout.{body_of}
use Rattle.ir_tables.proofs.Scans.{only_more}
use Rattle.ir_tables.proofs.named.body_of.Given as goal

-- what is found so far, where the rest has no type of the name
abbrev pub invariant-loop-def : goal.invariant-loop-def
invariant-loop-def l = only_more (option_copied l.body) (filter (λ d. bytes_eq d.name l.name) (drop l.def-index l.types)) ≡ body_of l.types l.name
