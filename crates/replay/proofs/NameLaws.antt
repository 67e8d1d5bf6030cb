-- The names of what is shown, one by one.
use Rattle.std.proofs.Common.{◌≡◌, ℕ, ◌+◌, ◌<◌, List, ◌∷◌, length, drop, get_or, ap}
use Rattle.std.proofs.lemmas.List.{drop_more}
use Rattle.ir_core.specs.declared.module.Global.{Global}
use Rattle.mem_model.specs.declared.launch.Arg.{Arg}
use Rattle.mem_model.specs.Launching.{buffer_names, global_names}

pub buffer_more : (i : ℕ) (args : List Arg) (a : Arg) → i < length args → buffer_names i (drop i args) ≡ buffer_names i (get_or args i a ∷ drop (i + 1) args)
buffer_more i args a l = ap (buffer_names i) (drop_more args i a l)

pub global_more : (i : ℕ) (globals : List Global) (g : Global) → i < length globals → global_names i (drop i globals) ≡ global_names i (get_or globals i g ∷ drop (i + 1) globals)
global_more i globals g l = ap (global_names i) (drop_more globals i g l)
