-- Which functions an instruction calls and forks, by their places.
use Rattle.std.specs.Prelude.{ℕ, List, [], ◌∷◌, Bool, not, ◌&&◌, Option, Some, None, option_and_then, slice_get, if◌then◌else◌}
use Rattle.std.specs.List.{flat_map}
use Rattle.ir_core.specs.declared.instructions.Inst.{Inst}
use Rattle.ir_core.specs.declared.module.Module.{Module}
use Rattle.ir_core.specs.declared.module.Function.{Function}
use Rattle.ir_core.specs.Places.{Name, function_place}
use Rattle.ir_core.specs.Wrappers.{inst_callees, is_wrapper}
use Rattle.shapes.specs.Uses.{fork_names}
use Rattle.shapes.specs.Wrappers.{is_defined}

-- a function that stands on call paths
abbrev pub is_on_paths : Module → Function → Bool
is_on_paths m f = is_defined f && not (is_wrapper m f)

abbrev pub as_list : Option ℕ → List ℕ
as_list None = []
as_list (Some at) = at ∷ []

abbrev pub if_on_paths : Module → ℕ → Option Function → Option ℕ
if_on_paths m at None = None
if_on_paths m at (Some f) = if is_on_paths m f then Some at else None

-- the place of a function that stands on call paths
abbrev pub path_place : Module → Name → Option ℕ
path_place m x = option_and_then (λ at. if_on_paths m at (slice_get m.functions at)) (function_place m x)

-- the functions on call paths that an instruction calls
abbrev pub called : Module → Inst → List ℕ
called m i = flat_map (λ x. as_list (path_place m x)) (inst_callees i)

-- the region functions that an instruction forks
abbrev pub forked : Module → Inst → List ℕ
forked m i = flat_map (λ x. as_list (function_place m x)) (fork_names i)
