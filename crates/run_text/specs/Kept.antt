-- The lines of a launch's text that are not skipped.
use Rattle.std.specs.Prelude.{◌≡◌, ℕ, ◌+◌, ◌≤◌, List, ◌∷◌, length}
use Rattle.std.specs.List.{filter}
use Rattle.run_text.specs.Lines.{Line, lines, numbered}
use Rattle.run_text.specs.LaunchText.{is_kept}

-- in a text that begins with the line of this number
abbrev pub kept_lines : ℕ → List ℕ → List Line
kept_lines number text = filter is_kept (numbered number (lines text))

-- the next line that is not skipped, and the text behind it
pub record IsNext (number : ℕ) (text : List ℕ) (at : ℕ) (line rest : List ℕ) : Type 0 where
  pub is : kept_lines number text ≡ record { number = at; bytes = line } ∷ kept_lines (at + 1) rest
  pub within : at + 1 + length rest ≤ number + length text
