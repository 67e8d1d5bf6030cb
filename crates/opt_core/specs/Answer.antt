-- What the program answers: to its words, and to the text of a module.
use Rattle.std.specs.Prelude.{◌≡◌, ◌⊎◌, ℕ, List, [], ◌∷◌, ◌++◌, codes, Option, Some, None, map, string_bytes, if◌then◌else◌}
use Rattle.std.specs.Str.{bytes_eq}
use Rattle.std.specs.declared.string.String.{String}
use Rattle.std.specs.declared.alloc.Global.{Global}
use Rattle.ir_core.specs.declared.module.Module.{Module}
use Rattle.ir_core.specs.declared.answers.Or.{Or}
use Rattle.ir_core.specs.declared.answers.Or.TheVariants.{Refused, Memory}
use Rattle.ir_core.specs.declared.refusal.Refusal.{Refusal}
use Rattle.ir_core.specs.FirstForm.{HasFirstForm}
use Rattle.ir_core.specs.Language.{Reads}
use Rattle.ir_core.specs.TextRefusals.{IsTextRefusal}
use Rattle.ir_core.specs.MachineOff.{machine_off, Remarks}
use Rattle.ir_core.specs.Text.{Text}
use Rattle.ir_core.specs.Notes.{refusal_text, remarks_text}
use Rattle.checked_modules.specs.Checked.{HasNoRefusal}
use Rattle.ir_check.specs.Refusal.{IsRefused}
use Rattle.shapes.specs.Refusals.{unbuilt}
use Rattle.refine_laws.specs.Refines.{RefinesSource}
use Rattle.io_edge.specs.Outside.{Rose, Grows, GrowsByFront}

-- ---- words

abbrev pub texts : List (String Global) → List (List ℕ)
texts words = map string_bytes words

-- the file that the words name: they are opt and one word
abbrev pub path_of : List (List ℕ) → Option (List ℕ)
path_of (command ∷ path ∷ []) = if bytes_eq command (codes "opt") then Some path else None
path_of _ = None

-- ---- replies: a status, and what is to be written on the output and on the notes

-- a status with its line on the notes, and nothing on the output
abbrev pub IsNote : ℕ → List ℕ → ℕ → List ℕ → List ℕ → Type 0
IsNote wanted line status out notes = (status ≡ wanted) × (out ≡ []) × (notes ≡ line)

abbrev pub IsBadWords : ℕ → List ℕ → List ℕ → Type 0
IsBadWords = IsNote 2 (codes "ompopt: bad command line\n")

abbrev pub IsInputFailed : ℕ → List ℕ → List ℕ → Type 0
IsInputFailed = IsNote 5 (codes "ompopt: input failed\n")

abbrev pub IsOutOfMemory : ℕ → List ℕ → List ℕ → Type 0
IsOutOfMemory = IsNote 7 (codes "ompopt: out of memory\n")

-- the text spells this module, of which nothing is refused, and each entry point that it calls can be run
abbrev pub Accepts : List ℕ → Module → Type 0
Accepts text m = Reads text m × HasNoRefusal m × (unbuilt m ≡ None)

-- why a text is refused: no text of the grammar begins so; or the module that it spells is refused; or nothing is refused of it, and it
-- calls an entry point that can't be run yet
abbrev pub IsRefusal : List ℕ → Refusal → Type 0
IsRefusal text r =
    IsTextRefusal text r
    ⊎ ((m : Module) × Reads text m × IsRefused m r)
    ⊎ ((m : Module) × Reads text m × HasNoRefusal m × (unbuilt m ≡ Some r))

-- a call of an entry point that can't be run yet
abbrev pub IsUnbuilt : Module → Or Refusal → Type 0
IsUnbuilt m (Refused r) = unbuilt m ≡ Some r
IsUnbuilt m Memory = ⊥

-- the text spells no module that is taken, or memory ran out
abbrev pub IsNotAccepted : List ℕ → Or Refusal → Type 0
IsNotAccepted text (Refused r) = IsRefusal text r × ((m : Module) → Accepts text m → ⊥)
IsNotAccepted text Memory = Unit {0}

-- by now it is claimed of modules of the first form alone
abbrev pub RefinesFirst : Module → Module → Type 0
RefinesFirst m out = HasFirstForm m → RefinesSource m out

-- the module with its machines off, which refines the module as read where that has the first form, and the remarks on it
abbrev pub IsOptimised : List ℕ → ℕ → List ℕ → List ℕ → Type 0
IsOptimised text status out notes = (m : Module) × Accepts text m × RefinesFirst m (machine_off m) × (status ≡ 0) × (out ≡ Text (machine_off m)) × (notes ≡ remarks_text (Remarks m))

abbrev pub IsTextRefused : List ℕ → ℕ → List ℕ → List ℕ → Type 0
IsTextRefused text status out notes = (r : Refusal) × IsRefusal text r × ((m : Module) → Accepts text m → ⊥) × IsNote 3 (refusal_text r ++ codes "\n") status out notes

abbrev pub IsTextReply : List ℕ → ℕ → List ℕ → List ℕ → Type 0
IsTextReply text status out notes = IsOptimised text status out notes ⊎ IsTextRefused text status out notes

-- it holds of the text of a file; where that isn't told, of some text
abbrev pub OfText : Option (List ℕ) → (List ℕ → Type 0) → Type 0
OfText None Holds = (text : List ℕ) × Holds text
OfText (Some text) Holds = Holds text

abbrev pub IsFileReply : Option (List ℕ) → ℕ → List ℕ → List ℕ → Type 0
IsFileReply held status out notes = OfText held (λ text. IsTextReply text status out notes)

-- the answer to the words
abbrev pub IsAnswer : Option (List ℕ) → (List ℕ → Option (List ℕ)) → ℕ → List ℕ → List ℕ → Type 0
IsAnswer None held status out notes = IsBadWords status out notes
IsAnswer (Some path) held status out notes = IsFileReply (held path) status out notes

-- a failed input of the file that the words name
abbrev pub IsFailure : Option (List ℕ) → ℕ → List ℕ → List ℕ → Type 0
IsFailure None status out notes = ⊥
IsFailure (Some path) status out notes = IsInputFailed status out notes

-- the reply to the words: their answer, or that an input failed or memory ran out
abbrev pub IsReply : Option (List ℕ) → (List ℕ → Option (List ℕ)) → ℕ → List ℕ → List ℕ → Type 0
IsReply path held status out notes = IsAnswer path held status out notes ⊎ IsFailure path status out notes ⊎ IsOutOfMemory status out notes

-- ---- what is written

-- the reply is written whole; or the status is 6, and a front of the output or, behind the whole output, of the notes is written
abbrev pub IsWritten : ℕ → ℕ → List ℕ → List ℕ → (out out' notes notes' : Option (List ℕ)) → Type 0
IsWritten status replied o n out out' notes notes' =
    ((status ≡ replied) × Grows out out' o × Grows notes notes' n)
    ⊎ ((status ≡ 6) × GrowsByFront out out' o × Grows notes notes' [])
    ⊎ ((status ≡ 6) × Grows out out' o × GrowsByFront notes notes' n)

-- what the sinks have taken at this status, of a reply of this kind
abbrev pub IsTold : (ℕ → List ℕ → List ℕ → Type 0) → (out out' notes notes' : Option (List ℕ)) → ℕ → Type 0
IsTold IsOfKind out out' notes notes' status =
    (replied : ℕ) × (o n : List ℕ) × IsOfKind replied o n × IsWritten status replied o n out out' notes notes'

-- the count of the file that the words name has risen
abbrev pub HasRisen : Option (List ℕ) → (List ℕ → ℕ) → (List ℕ → ℕ) → Type 0
HasRisen None before after = ⊥
HasRisen (Some path) before after = Rose (before path) (after path)
