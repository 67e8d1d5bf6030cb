-- What files that are kept in memory hold under a name.
use Rattle.std.specs.Prelude.{ℕ, List, Option, IsSome, All, map}
use Rattle.std.specs.List.{find, IsDistinct}
use Rattle.std.specs.Option.{option_and_then}
use Rattle.std.specs.Str.{bytes_eq}
use Rattle.io_edge.specs.declared.memory.NamedFile.{NamedFile}

-- the names of the files
abbrev pub names_of : List NamedFile → List (List ℕ)
names_of files = map (λ file. file.name) files

-- no two files have one name
abbrev pub HaveDistinctNames : List NamedFile → Type 0
HaveDistinctNames files = IsDistinct bytes_eq (names_of files)

-- each file has bytes
abbrev pub HaveBytes : List NamedFile → Type 0
HaveBytes files = All (λ file. IsSome file.bytes) files

-- the first file of a name
abbrev pub file_of : List NamedFile → List ℕ → Option NamedFile
file_of files name = find (λ file. bytes_eq file.name name) files

-- the bytes that stand under a name
abbrev pub content_of : List NamedFile → List ℕ → Option (List ℕ)
content_of files name = option_and_then (λ file. file.bytes) (file_of files name)
