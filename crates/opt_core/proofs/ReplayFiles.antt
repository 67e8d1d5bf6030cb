-- The three files of a replay in memory.
use Rattle.std.proofs.Common.{◌≡◌, ℕ, List, [], ◌∷◌, codes, Option, Some, Contains, refl, sym, subst, arith}
use Rattle.std.specs.List.{IsDistinct}
use Rattle.std.specs.Str.{bytes_eq}
use Rattle.io_edge.specs.declared.memory.NamedFile.{NamedFile}
use Rattle.io_edge.specs.Files.{HaveDistinctNames, names_of}
use Rattle.opt_core.specs.Replay.{Paths, AreServed}

abbrev names : List (List ℕ)
names = codes "a.ll" ∷ codes "launch" ∷ codes "schedule" ∷ []

pub are_distinct : (files : List NamedFile) → names_of files ≡ names → HaveDistinctNames files
unfolding IsDistinct
are_distinct files e = subst (IsDistinct bytes_eq) (sym e) ((refl, (refl, tt)), ((refl, tt), (tt, tt)))

abbrev paths : Paths
paths = record { «module» = codes "a.ll"; launch = codes "launch"; schedule = codes "schedule" }

all_there : AreServed (Contains names) (Some paths)
all_there = ((0, omega arith, refl), (1, omega arith, refl), (2, omega arith, refl))

pub are_there : (files : List NamedFile) (words : Option Paths) → names_of files ≡ names → words ≡ Some paths → AreServed (λ name. Contains (names_of files) name) words
are_there files words e f = subst (λ (w : Option Paths). AreServed (Contains (names_of files)) w) (sym f) (subst (λ (ns : List (List ℕ)). AreServed (Contains ns) (Some paths)) (sym e) all_there)
