-- What the world outside gives and takes, and when it may be said to have failed.
use Rattle.std.specs.Prelude.{◌≡◌, ℕ, ◌+◌, ◌-◌, ◌^◌, ◌<◌, ◌≤◌, min, List, ◌++◌, length, take, drop, Option, Some, None, Result, OnErr}

-- a count of faults has risen, or stands at its end
abbrev pub Rose : ℕ → ℕ → Type 0
Rose before after = min (before + 1) (2 ^ 64 - 1) ≤ after

-- a count of faults did not fall, and where the call failed it rose
pub record HasCause {T E : Type 0} (before after : ℕ) (result : Result T E) : Type 0 where
  pub later : before ≤ after
  pub failed : OnErr result (Rose before after)

-- where the content is told, this many bytes at the front of the buffer are its bytes from a place on,
-- and they are none only at its end or where the buffer has no room
abbrev pub GivesFrom : Option (List ℕ) → ℕ → List ℕ → ℕ → Type 0
GivesFrom None at buffer count = Unit {0}
GivesFrom (Some content) at buffer count =
    (take count buffer ≡ take count (drop at content)) × (count ≡ 0 → 0 < length buffer → length content ≤ at)

-- where the content is told and fills the front of a buffer, it fills this many bytes more of it after a read,
-- and none only at its end
abbrev pub ReadsMore : Option (List ℕ) → List ℕ → ℕ → List ℕ → ℕ → Type 0
ReadsMore None before filled after count = Unit {0}
ReadsMore (Some content) before filled after count =
    take filled before ≡ take filled content → (take (filled + count) after ≡ take (filled + count) content) × (count ≡ 0 → length content ≤ filled)

-- what was taken, where it is told, has grown by these bytes
abbrev pub Grows : Option (List ℕ) → Option (List ℕ) → List ℕ → Type 0
Grows None after bytes = Unit {0}
Grows (Some before) None bytes = ⊥
Grows (Some before) (Some after) bytes = after ≡ before ++ bytes

-- what was taken, where it is told, has grown by some of these bytes, from their front on
abbrev pub GrowsByFront : Option (List ℕ) → Option (List ℕ) → List ℕ → Type 0
GrowsByFront before after bytes = (count : ℕ) × Grows before after (take count bytes)
