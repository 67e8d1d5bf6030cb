-- Parts behind commas, and then attachments, which stand behind commas too.
use Rattle.std.specs.Prelude.{ℕ, zero, suc, List, [], ◌∷◌, length}
use Rattle.std.specs.Prelude.{Option, Some as Present, None as Absent}
use Rattle.read_forms.specs.Read.{Read, ◌>>=◌, done, maybe_at, at_mark, put_all}
use Rattle.read_ends.specs.Ends.{behind_comma_at}

-- one part and those behind it
unfoldable pub row_at : {X : Type 0} → Read X → Read (List X) → Read (List X)
row_at f more = do
  x ← f
  xs ← more
  done (x ∷ xs)

-- at most so many parts
abbrev pub rows_in : {X : Type 0} → Read X → ℕ → Read (List X)
rows_in f zero = done []
rows_in f (suc n) = maybe_at [] (at_mark 44) (behind_comma_at [] (row_at f (rows_in f n)))

unfoldable pub rows_at : {X : Type 0} → Read X → Read (List X)
rows_at f ts = rows_in f (length ts) ts

-- parts that follow those that were read before
abbrev pub rows_after : {X : Type 0} → Read X → List X → Read (List X)
rows_after f out ts = put_all out (rows_at f ts)

-- behind a comma, one part more, or the attachments
unfoldable pub some_at : {X : Type 0} → Read X → Read (Option X)
some_at f = do
  x ← f
  done (Present x)

unfoldable pub one_row_at : {X : Type 0} → Read X → Read (Option X)
one_row_at f = behind_comma_at Absent (some_at f)
