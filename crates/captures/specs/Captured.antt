-- What threads may share of their words.
use Rattle.std.specs.Prelude.{◌≡◌, ◌≤◌, List, length}
use Rattle.std.specs.List.{All}
use Rattle.mem_model.specs.declared.memory.Ptr.{Ptr}
use Rattle.mem_model.specs.Thread.{Elsewhere, where_is}

-- no address in a stack
abbrev pub IsShared : Ptr → Type 0
IsShared p = where_is p ≡ Elsewhere p

-- so many words as the capture area holds
abbrev pub AreCaptured : List Ptr → Type 0
AreCaptured ps = (length ps ≤ 64) × All IsShared ps
