-- A thread's turns can be stored where each word can be stored at first; and then where the innermost call stands makes no difference.
use Rattle.std.proofs.Common.{◌≡◌, ℕ, ℤ, List, [], ◌∷◌, Bool, true, false, Option, Some, None, Result, Ok, Err, refl, sym, ap, ◌∙◌, subst}
use Rattle.std.specs.Int.{from_bool}
use Rattle.mem_model.specs.declared.memory.Byte.{Byte}
use Rattle.mem_model.specs.declared.memory.Cell.TheVariants.{Int as IntCell}
use Rattle.mem_model.specs.declared.memory.Word.{Word}
use Rattle.mem_model.specs.declared.memory.Word.TheVariants.{Int}
use Rattle.mem_model.specs.declared.step.Trap.{Trap}
use Rattle.mem_model.specs.Answers.{only_trap}
use Rattle.mem_model.specs.Eval.{truth, wrapped}
use Rattle.mem_model.specs.Values.{and_then}
use Rattle.mem_model.specs.Thread.{Spot, Frame, Where, InStack, Elsewhere, find_in, put_in, store_own}
use Rattle.mem_model.proofs.Runs.{some_injective}
use Rattle.mem_model.specs.Steps.{code_past}
use Rattle.mem_model.specs.Schedules.{Turns}
use Rattle.mem_model.specs.Entries.{Slots, put_own, put_bounds, put_turns, int32, truth_word}
use Rattle.thread_state.specs.Moves.{on_first}
use Rattle.static_loops.specs.declared.starts.Spots.{Spots}
use Rattle.static_loops.specs.declared.turns.Bounds.{Bounds}
use Rattle.static_loops.specs.declared.turns.Turns.{Turns as TurnsData}
use Rattle.static_loops.specs.Shares.{bounds_seen, turns_seen}
use Rattle.static_loops.specs.Starts.{spots_seen}
use Rattle.static_loops.proofs.Puts.{SameSizes, put_sizes, put_alike, then_fit}

pub truth_is : (b : Bool) → truth_word b ≡ Int (truth b)
truth_is true = refl
truth_is false = refl

pub truth_byte : (b : Bool) → from_bool b ≡ truth b
truth_byte true = refl
truth_byte false = refl

then_sizes : (fs hs : List Frame) (r : Result (List Frame) Trap) (go : List Frame → Result (List Frame) Trap) → ((gs : List Frame) → r ≡ Ok gs → SameSizes fs gs) → ((gs : List Frame) → go gs ≡ Ok hs → SameSizes gs hs) → and_then r go ≡ Ok hs → SameSizes fs hs
then_sizes fs hs (Err e) go first second is = let f : ⊥ = cc in absurd f
then_sizes fs hs (Ok gs) go first second is = λ v. second gs is v ∙ first gs refl v

-- ---- what fits

module _ (s : Spots) where
  abbrev pub last_fits : List Frame → Result (Unit {0}) Trap
  last_fits fs = only_trap (put_own fs (spots_seen s).last (IntCell 32) (Int 0))

  abbrev pub lower_fits : List Frame → Result (Unit {0}) Trap
  lower_fits fs = only_trap (put_own fs (spots_seen s).lower (IntCell 32) (Int 0))

  abbrev pub upper_fits : List Frame → Result (Unit {0}) Trap
  upper_fits fs = only_trap (put_own fs (spots_seen s).upper (IntCell 32) (Int 0))

  abbrev pub stride_fits : List Frame → Result (Unit {0}) Trap
  stride_fits fs = only_trap (put_own fs (spots_seen s).stride (IntCell 32) (Int 0))

  pub bounds_are : (fs : List Frame) (given : ℤ × ℤ) → only_trap (put_bounds (spots_seen s) (Some given) fs) ≡ and_then (lower_fits fs) (λ u. upper_fits fs)
  bounds_are fs given =
      then_fit (put_own fs (spots_seen s).lower (IntCell 32) (int32 given.0)) (λ gs. put_own gs (spots_seen s).upper (IntCell 32) (int32 given.1)) (upper_fits fs)
      (λ gs is. put_alike fs gs (s.upper.thread, s.upper.number) s.upper.offset (wrapped 32 given.1) 0 (put_sizes fs gs (s.lower.thread, s.lower.number) s.lower.offset (wrapped 32 given.0) is))
      ∙ ap (λ r. and_then r (λ u. upper_fits fs)) (put_alike fs fs (s.lower.thread, s.lower.number) s.lower.offset (wrapped 32 given.0) 0 (λ v. refl))

  bounds_alike : (fs gs : List Frame) (given : Option (ℤ × ℤ)) → SameSizes fs gs → only_trap (put_bounds (spots_seen s) given gs) ≡ only_trap (put_bounds (spots_seen s) given fs)
  bounds_alike fs gs None same = refl
  bounds_alike fs gs (Some given) same =
      bounds_are gs given
      ∙ (λ i. and_then (put_alike fs gs (s.lower.thread, s.lower.number) s.lower.offset 0 0 same i) (λ u. put_alike fs gs (s.upper.thread, s.upper.number) s.upper.offset 0 0 same i))
      ∙ sym (bounds_are fs given)

  bounds_sizes : (fs hs : List Frame) (given : Option (ℤ × ℤ)) → put_bounds (spots_seen s) given fs ≡ Ok hs → SameSizes fs hs
  bounds_sizes fs hs None is = let same : fs ≡ hs = cc in subst (SameSizes fs) same (λ v. refl)
  bounds_sizes fs hs (Some given) is =
      then_sizes fs hs (put_own fs (spots_seen s).lower (IntCell 32) (int32 given.0)) (λ gs. put_own gs (spots_seen s).upper (IntCell 32) (int32 given.1))
      (λ gs. put_sizes fs gs (s.lower.thread, s.lower.number) s.lower.offset (wrapped 32 given.0))
      (λ gs. put_sizes gs hs (s.upper.thread, s.upper.number) s.upper.offset (wrapped 32 given.1)) is

  pub turns_are : (fs : List Frame) (given : Turns) → only_trap (put_turns (spots_seen s) given fs) ≡ and_then (last_fits fs) (λ u. and_then (only_trap (put_bounds (spots_seen s) given.bounds fs)) (λ v. stride_fits fs))
  turns_are fs given =
      let n = truth given.last in
      let bounds = put_bounds (spots_seen s) given.bounds in
      let stride : List Frame → Result (List Frame) Trap = λ hs. put_own hs (spots_seen s).stride (IntCell 32) (int32 given.stride) in
      let rest : Result (Unit {0}) Trap = and_then (only_trap (bounds fs)) (λ v. stride_fits fs) in
      ap (λ word. only_trap (and_then (put_own fs (spots_seen s).last (IntCell 32) word) (λ gs. and_then (bounds gs) stride))) (truth_is given.last)
      ∙ then_fit (put_own fs (spots_seen s).last (IntCell 32) (Int n)) (λ gs. and_then (bounds gs) stride) rest
      (λ gs is.
      let first = put_sizes fs gs (s.last.thread, s.last.number) s.last.offset n is in
      then_fit (bounds gs) stride (stride_fits fs) (λ hs there. put_alike fs hs (s.stride.thread, s.stride.number) s.stride.offset (wrapped 32 given.stride) 0 (λ v. bounds_sizes gs hs given.bounds there v ∙ first v))
      ∙ ap (λ r. and_then r (λ v. stride_fits fs)) (bounds_alike fs gs given.bounds first))
      ∙ ap (λ r. and_then r (λ u. rest)) (put_alike fs fs (s.last.thread, s.last.number) s.last.offset n 0 (λ v. refl))

  -- ---- the same from the words

  pub some_fits : (fs : List Frame) (bounds : Option Bounds) (b : Bounds) (given : Option (ℤ × ℤ)) → bounds ≡ Some b → bounds ≡ bounds_seen given → only_trap (put_bounds (spots_seen s) given fs) ≡ and_then (lower_fits fs) (λ u. upper_fits fs)
  some_fits fs bounds b None some is = let f : ⊥ = cc in absurd f
  some_fits fs bounds b (Some given) some is = bounds_are fs given

pub none_bounds : (s : Slots) (fs : List Frame) (bounds : Option Bounds) (given : Option (ℤ × ℤ)) → ((b : Bounds) → bounds ≡ Some b → ⊥) → bounds ≡ bounds_seen given → put_bounds s given fs ≡ Ok fs
none_bounds s fs bounds None none is = refl
none_bounds s fs bounds (Some given) none is = absurd (none _ is)

pub some_bounds : (s : Slots) (fs : List Frame) (bounds : Option Bounds) (b : Bounds) (given : Option (ℤ × ℤ)) → bounds ≡ Some b → bounds ≡ bounds_seen given → put_bounds s given fs ≡ and_then (put_own fs s.lower (IntCell 32) (Int b.lower)) (λ gs. put_own gs s.upper (IntCell 32) (Int b.upper))
some_bounds s fs bounds b None some is = let f : ⊥ = cc in absurd f
some_bounds s fs bounds b (Some given) some is =
    let same : record { lower = wrapped 32 given.0; upper = wrapped 32 given.1 } ≡ b = some_injective (sym is ∙ some) in
    ap (λ (d : Bounds). and_then (put_own fs s.lower (IntCell 32) (Int d.lower)) (λ gs. put_own gs s.upper (IntCell 32) (Int d.upper))) same

pub words_put : (s : Slots) (fs : List Frame) (turns : TurnsData) (given : Turns) (n : ℕ) → turns ≡ turns_seen given → n ≡ truth turns.last → put_turns s given fs ≡ and_then (put_own fs s.last (IntCell 32) (Int n)) (λ gs. and_then (put_bounds s given.bounds gs) (λ hs. put_own hs s.stride (IntCell 32) (Int turns.stride)))
words_put s fs turns given n is number =
    let word : truth_word given.last ≡ Int n = truth_is given.last ∙ ap Int (ap (λ t. truth t.last) (sym is) ∙ sym number) in
    let stride : wrapped 32 given.stride ≡ turns.stride = ap (λ t. t.stride) (sym is) in
    λ i. and_then (put_own fs s.last (IntCell 32) (word i)) (λ gs. and_then (put_bounds s given.bounds gs) (λ hs. put_own hs s.stride (IntCell 32) (Int (stride i))))

-- ---- behind the call's instruction

abbrev pub past : List Frame → List Frame
past = on_first code_past

-- the same whether the innermost call has gone past its instruction or not
abbrev pub IsPastToo : (List Frame → Result (List Frame) Trap) → Type 0
IsPastToo put = (fs : List Frame) → put (past fs) ≡ and_then (put fs) (λ gs. Ok (past gs))

put_in_past : (f : Frame) (rest : List Frame) (spot : Spot) (r : Result (List Byte) Trap) → and_then r (λ bytes. Ok (put_in spot bytes (past (f ∷ rest)))) ≡ and_then (and_then r (λ bytes. Ok (put_in spot bytes (f ∷ rest)))) (λ gs. Ok (past gs))
put_in_past f rest spot (Err e) = refl
put_in_past f rest spot (Ok bytes) = refl

own_past : (w : Where) (word : Word) → IsPastToo (λ fs. put_own fs w (IntCell 32) word)
own_past (Elsewhere p) word fs = refl
own_past (InStack spot offset) word [] = refl
own_past (InStack spot offset) word (f ∷ rest) = put_in_past f rest spot (store_own (find_in (f ∷ rest) spot) offset (IntCell 32) word)

both_past_by : (go : List Frame → Result (List Frame) Trap) → IsPastToo go → (r : Result (List Frame) Trap) → and_then (and_then r (λ gs. Ok (past gs))) go ≡ and_then (and_then r go) (λ gs. Ok (past gs))
both_past_by go is (Err e) = refl
both_past_by go is (Ok gs) = is gs

both_past : (put go : List Frame → Result (List Frame) Trap) → IsPastToo put → IsPastToo go → IsPastToo (λ fs. and_then (put fs) go)
both_past put go first second fs = ap (λ r. and_then r go) (first fs) ∙ both_past_by go second (put fs)

bounds_past : (s : Slots) (given : Option (ℤ × ℤ)) → IsPastToo (put_bounds s given)
bounds_past s None fs = refl
bounds_past s (Some given) fs = both_past (λ gs. put_own gs s.lower (IntCell 32) (int32 given.0)) (λ gs. put_own gs s.upper (IntCell 32) (int32 given.1)) (own_past s.lower (int32 given.0)) (own_past s.upper (int32 given.1)) fs

pub turns_past : (s : Slots) (given : Turns) → IsPastToo (put_turns s given)
turns_past s given =
    both_past (λ gs. put_own gs s.last (IntCell 32) (truth_word given.last)) (λ gs. and_then (put_bounds s given.bounds gs) (λ hs. put_own hs s.stride (IntCell 32) (int32 given.stride))) (own_past s.last (truth_word given.last))
    (both_past (put_bounds s given.bounds) (λ hs. put_own hs s.stride (IntCell 32) (int32 given.stride)) (bounds_past s given.bounds) (own_past s.stride (int32 given.stride)))
