-- Static schedules: which turns of a loop a thread of a region makes (OpenMP 5.1, "worksharing-loop construct").
use Rattle.std.specs.Prelude.{ℕ, ◌+◌, ◌-◌, ◌*◌, ◌/◌, ◌%◌, min, ℤ, pos, ◌+ℤ◌, ◌-ℤ◌, ◌*ℤ◌, int_lt, int_div, unsigned_abs, nat_lt, ◌==◌, Bool, false, ◌&&◌, not, Option, Some, None, if◌then◌else◌}

-- a loop of numbers from lower to upper by steps of an increment
pub record Loop : Type 0 where
  pub lower : ℤ
  pub upper : ℤ
  pub increment : ℤ

-- thread number t of so many
pub record Share : Type 0 where
  pub number : ℕ
  pub count : ℕ

-- what a thread is given: its own bounds where there are turns, the way to its next turns, and whether it makes the last one
pub record Turns : Type 0 where
  pub last : Bool
  pub bounds : Option (ℤ × ℤ)
  pub stride : ℤ

-- ---- how many turns the loop has

abbrev pub has_turns : Loop → Bool
has_turns l = if int_lt l.increment (pos 0) then not (int_lt l.lower l.upper) else not (int_lt l.upper l.lower)

abbrev pub trip_count : Loop → ℕ
trip_count l = if has_turns l then unsigned_abs (int_div (l.upper -ℤ l.lower) l.increment) + 1 else 0

-- so many turns from a number
abbrev pub after_turns : Loop → ℤ → ℕ → ℤ
after_turns l from n = from +ℤ (pos n *ℤ l.increment)

-- ---- schedule 33: chunks in turn

abbrev pub chunk_or_one : ℤ → ℕ
chunk_or_one chunk = if int_lt chunk (pos 1) then 1 else unsigned_abs chunk

abbrev pub chunked : Loop → Share → ℕ → ℕ → Turns
chunked l s chunk n =
    let lower = after_turns l l.lower (s.number * chunk) in
    record { last = s.number == ((n - 1) / chunk) % s.count; bounds = Some (lower, after_turns l lower (chunk - 1)); stride = pos (s.count * chunk) *ℤ l.increment }

-- ---- schedule 34: one piece for each thread, the first ones by one turn longer

abbrev pub piece : ℕ → Share → ℕ
piece n s = if nat_lt s.number (n % s.count) then n / s.count + 1 else n / s.count

abbrev pub piece_begin : ℕ → Share → ℕ
piece_begin n s = s.number * (n / s.count) + min s.number (n % s.count)

abbrev pub in_pieces : Loop → Share → ℕ → Turns
in_pieces l s n =
    let lower = after_turns l l.lower (piece_begin n s) in
    record {
      last = not (piece n s == 0) && (piece_begin n s + piece n s == n);
      bounds = Some (lower, lower +ℤ ((pos (piece n s) -ℤ pos 1) *ℤ l.increment));
      stride = pos n *ℤ l.increment;
    }

-- ---- the schedules

-- a loop without turns keeps its bounds
abbrev pub no_turns : Loop → Turns
no_turns l = record { last = false; bounds = None; stride = l.increment }

abbrev pub turns_by : ℕ → Loop → Share → ℤ → ℕ → Turns
turns_by schedule l s chunk n = if schedule == 33 then chunked l s (chunk_or_one chunk) n else in_pieces l s n

abbrev pub turns : ℕ → Loop → Share → ℤ → Turns
turns schedule l s chunk = if trip_count l == 0 then no_turns l else turns_by schedule l s chunk (trip_count l)
