-- The block of a number in the calls is the one at its place in the stack.
use Rattle.std.proofs.Common.{◌≡◌, ℕ, zero, suc, ◌+◌, ◌-◌, ◌<◌, ◌≤◌, List, [], ◌∷◌, ◌++◌, map, take, drop, set, reverse, refl, sym, ap, ◌∙◌, subst, arith, slice_get, Option, Some, None, Result, Ok, inl, inr, Bool, true, false, cond}
use Rattle.std.proofs.lemmas.List.{reverse-append, map-append, take-map, drop-map, take-append-drop, take-take, drop-take}
use Rattle.std.proofs.lemmas.Bool.Decides.{nat_tests}
use Rattle.std.proofs.lemmas.Bool.{cases_lt}
use Rattle.mem_model.proofs.Runs.{some_injective}
use Rattle.thread_state.specs.Stored.{IsBlockPlace}
use Rattle.ir_core.specs.declared.module.Module.{Module}
use Rattle.mem_model.specs.declared.memory.Byte.{Byte}
use Rattle.mem_model.specs.declared.memory.Cell.{Cell}
use Rattle.mem_model.specs.declared.step.Trap.{Trap}
use Rattle.mem_model.specs.Words.{cell_size, word_in}
use Rattle.mem_model.specs.Thread.{word_from, Spot, same_spot, or_else, find_block, find_in, put_block, put_in}
use Rattle.thread_state.specs.declared.state.Frame.{Frame as FrameData}
use Rattle.thread_state.specs.declared.state.StackBlock.{StackBlock}
use Rattle.thread_state.specs.Seen.{code_seen, block_seen, blocks_seen, frames_seen, AreFrames, AreBlocks}

abbrev Seen : Type 0
Seen = List (Spot × List Byte)

-- ---- found among the blocks, the newest first

or_else_assoc : (a b c : Option (List Byte)) → or_else (or_else a b) c ≡ or_else a (or_else b c)
or_else_assoc None b c = refl
or_else_assoc (Some x) b c = refl

or_else_none : (a : Option (List Byte)) → or_else a None ≡ a
or_else_none None = refl
or_else_none (Some x) = refl

cond_or : (b : Bool) (x : List Byte) (rest other : Option (List Byte)) → or_else (cond b (Some x) rest) other ≡ cond b (Some x) (or_else rest other)
cond_or true x rest other = refl
cond_or false x rest other = refl

find-append : (xs ys : Seen) (spot : Spot) → find_block (xs ++ ys) spot ≡ or_else (find_block xs spot) (find_block ys spot)
find-append [] ys spot = refl
find-append (b ∷ bs) ys spot = ap (cond (same_spot spot b.0) (Some b.1)) (find-append bs ys spot) ∙ sym (cond_or (same_spot spot b.0) b.1 (find_block bs spot) (find_block ys spot))

-- the blocks below an end are those below a place before it and those from there on
split : {X : Type 0} (xs : List X) (base end : ℕ) → base ≤ end → take end xs ≡ take base xs ++ take (end - base) (drop base xs)
split xs base end le =
    let whole : end ≡ base + (end - base) = omega arith in
    sym (take-append-drop base (take end xs))
    ∙ (λ i. take-take base end xs le i ++ drop base (take (whole i) xs))
    ∙ ap (λ ys. take base xs ++ ys) (drop-take base (end - base) xs)

module _ (m : Module) (own : ℕ) (stack : List StackBlock) (spot : Spot) where
  abbrev pub newest : ℕ → List (Spot × List Byte)
  newest end = reverse (map (block_seen own) (take end stack))

  newest_split : (base end : ℕ) → base ≤ end → newest end ≡ blocks_seen own stack base end ++ newest base
  newest_split base end le =
      ap (λ bs. reverse (map (block_seen own) bs)) (split stack base end le)
      ∙ ap reverse (map-append (block_seen own) (take base stack) (take (end - base) (drop base stack)))
      ∙ reverse-append (map (block_seen own) (take base stack)) (map (block_seen own) (take (end - base) (drop base stack)))

  pub find_frames : (end : ℕ) (fs : List FrameData) → AreFrames m end fs → find_in (frames_seen m own stack end fs) spot ≡ find_block (newest end) spot
  find_frames end [] are = ap (λ n. find_block (newest n) spot) (sym are)
  find_frames end (f ∷ outer) are =
      ap (or_else (find_block (blocks_seen own stack f.base end) spot)) (find_frames f.base outer are.4)
      ∙ sym (find-append (blocks_seen own stack f.base end) (newest f.base) spot)
      ∙ ap (λ bs. find_block bs spot) (sym (newest_split f.base end are.2))

-- ---- found by its number

-- the spot of a block of another number is another
not_same : (own n k : ℕ) → (n ≡ k → ⊥) → same_spot (own, n) (own, k) ≡ false
not_same own n k other = grind (arith, nat_tests)

the_same : (own n : ℕ) → same_spot (own, n) (own, n) ≡ true
the_same own n = grind (arith, nat_tests)

abbrev pub Misses : ℕ → List StackBlock → Type 0
Misses n [] = Unit {0}
Misses n (b ∷ bs) = (n ≡ b.number → ⊥) × Misses n bs

-- the numbers above one are others
above : (n low : ℕ) (bs : List StackBlock) → n < low → AreBlocks low bs → Misses n bs
above n low [] lt are = tt
above n low (b ∷ bs) lt are = let le = are.0 in ((λ e. omega arith), above n (b.number + 1) bs (omega arith) are.1)

module _ (own n : ℕ) where
  abbrev pub found : List StackBlock → Option (List Byte)
  found bs = find_block (reverse (map (block_seen own) bs)) (own, n)

  found_cons : (b : StackBlock) (bs : List StackBlock) → found (b ∷ bs) ≡ or_else (found bs) (cond (same_spot (own, n) (own, b.number)) (Some b.bytes.items) None)
  found_cons b bs =
      ap (λ cs. find_block cs (own, n)) (reverse-append (block_seen own b ∷ []) (map (block_seen own) bs))
      ∙ find-append (reverse (map (block_seen own) bs)) (block_seen own b ∷ []) (own, n)

  pub found_none : (bs : List StackBlock) → Misses n bs → found bs ≡ None
  found_none [] miss = refl
  found_none (b ∷ bs) miss =
      found_cons b bs
      ∙ (λ i. or_else (found_none bs miss.1 i) (cond (not_same own n b.number miss.0 i) (Some b.bytes.items) None))

  pub found_at : (low : ℕ) (bs : List StackBlock) (i : ℕ) (b : StackBlock) → AreBlocks low bs → slice_get bs i ≡ Some b → b.number ≡ n → found bs ≡ Some b.bytes.items
  found_at low [] i b are at is = let f : ⊥ = cc in absurd f
  found_at low (c ∷ bs) zero b are at is =
      let same : c ≡ b = cc in
      let number : c.number ≡ n = ap (λ d. d.number) same ∙ is in
      found_cons c bs
      ∙ (λ j. or_else (found_none bs (above n (c.number + 1) bs (omega arith) are.1) j) (cond (same_spot (own, n) (own, number j)) (Some (same j).bytes.items) None))
      ∙ ap (λ t. cond t (Some b.bytes.items) None) (the_same own n)
  found_at low (c ∷ bs) (suc i) b are at is =
      found_cons c bs ∙ ap (λ o. or_else o (cond (same_spot (own, n) (own, c.number)) (Some c.bytes.items) None)) (found_at (c.number + 1) bs i b are.1 at is)

pub misses : (n : ℕ) (bs : List StackBlock) → ((k : ℕ) (b : StackBlock) → slice_get bs k ≡ Some b → b.number ≡ n → ⊥) → Misses n bs
misses n [] none = tt
misses n (b ∷ bs) none = ((λ e. none 0 b refl (sym e)), misses n bs (λ k. none (suc k)))

-- ---- the numbers rise

pub number_low : (low : ℕ) (bs : List StackBlock) (i : ℕ) (b : StackBlock) → AreBlocks low bs → slice_get bs i ≡ Some b → low ≤ b.number
number_low low [] i b are at = let f : ⊥ = cc in absurd f
number_low low (c ∷ bs) zero b are at = subst (λ d. low ≤ d.number) (some_injective at) are.0
number_low low (c ∷ bs) (suc i) b are at = let le = are.0 in let more = number_low (c.number + 1) bs i b are.1 at in omega arith

pub rises : (low : ℕ) (bs : List StackBlock) (i j : ℕ) (b c : StackBlock) → AreBlocks low bs → slice_get bs i ≡ Some b → slice_get bs j ≡ Some c → i < j → b.number < c.number
rises low [] i j b c are at to lt = let f : ⊥ = cc in absurd f
rises low (d ∷ bs) i zero b c are at to lt = absurd (omega arith)
rises low (d ∷ bs) zero (suc j) b c are at to lt =
    let more = number_low (d.number + 1) bs j c are.1 to in
    let same : d.number ≡ b.number = ap (λ e. e.number) (some_injective at) in
    omega arith
rises low (d ∷ bs) (suc i) (suc j) b c are at to lt = rises (d.number + 1) bs i j b c are.1 at to (omega arith)

-- ---- other bytes in a block

module _ (own n : ℕ) (bytes : List Byte) where
  abbrev put : Spot × List Byte → Spot × List Byte
  put = put_block (own, n) bytes

  pub put_misses : (bs : List StackBlock) → Misses n bs → map put (map (block_seen own) bs) ≡ map (block_seen own) bs
  put_misses [] miss = refl
  put_misses (b ∷ bs) miss = λ i. ((own, b.number), cond (not_same own n b.number miss.0 i) bytes b.bytes.items) ∷ put_misses bs miss.1 i

  pub put_at : (low : ℕ) (bs : List StackBlock) (i : ℕ) (b c : StackBlock) → AreBlocks low bs → slice_get bs i ≡ Some b → b.number ≡ n → c.number ≡ n → c.bytes.items ≡ bytes → map (block_seen own) (set bs i c) ≡ map put (map (block_seen own) bs)
  put_at low [] i b c are at is same to = let f : ⊥ = cc in absurd f
  put_at low (d ∷ bs) zero b c are at is same to =
      let number : d.number ≡ n = ap (λ e. e.number) (some_injective at) ∙ is in
      let head : block_seen own c ≡ put (block_seen own d) = (λ j. ((own, (same ∙ sym number) j), to j)) ∙ (λ j. ((own, d.number), cond (sym (the_same own n) j) bytes d.bytes.items)) ∙ (λ j. ((own, d.number), cond (same_spot (own, n) (own, sym number j)) bytes d.bytes.items)) in
      (λ j. head j ∷ sym (put_misses bs (above n (d.number + 1) bs (omega arith) are.1)) j)
  put_at low (d ∷ bs) (suc i) b c are at is same to =
      let more = number_low (d.number + 1) bs i b are.1 at in
      λ j. ((own, d.number), cond (sym (not_same own n d.number (λ e. omega arith)) j) bytes d.bytes.items) ∷ put_at (d.number + 1) bs i b c are.1 at is same to j

pub map-reverse : {X Y : Type 0} (f : X → Y) (xs : List X) → map f (reverse xs) ≡ reverse (map f xs)
map-reverse f [] = refl
map-reverse f (x ∷ xs) =
    ap (map f) (reverse-append (x ∷ []) xs) ∙ map-append f (reverse xs) (x ∷ []) ∙ ap (λ ys. ys ++ f x ∷ []) (map-reverse f xs) ∙ sym (reverse-append (f x ∷ []) (map f xs))

-- the calls over a stack in which every block is seen put
module _ (m : Module) (own : ℕ) (spot : Spot) (bytes : List Byte) (old new : List StackBlock) (is : map (block_seen own) new ≡ map (put_block spot bytes) (map (block_seen own) old)) where
  part : (base end : ℕ) → blocks_seen own new base end ≡ map (put_block spot bytes) (blocks_seen own old base end)
  part base end =
      let n : ℕ = end - base in
      ap reverse (sym (take-map (block_seen own) n (drop base new)) ∙ ap (take n) (sym (drop-map (block_seen own) base new) ∙ ap (drop base) is ∙ drop-map (put_block spot bytes) base (map (block_seen own) old)) ∙ take-map (put_block spot bytes) n (drop base (map (block_seen own) old)))
      ∙ ap (λ bs. reverse (map (put_block spot bytes) bs)) (ap (take n) (drop-map (block_seen own) base old) ∙ take-map (block_seen own) n (drop base old))
      ∙ sym (map-reverse (put_block spot bytes) (map (block_seen own) (take n (drop base old))))

  pub put_frames : (end : ℕ) (fs : List FrameData) → frames_seen m own new end fs ≡ put_in spot bytes (frames_seen m own old end fs)
  put_frames end [] = refl
  put_frames end (f ∷ outer) = λ i. record { code = code_seen m outer f; blocks = part f.base end i } ∷ put_frames f.base outer i

-- ---- the search

-- the numbers before one place are lower, and those from another on higher
pub record Between (stack : List StackBlock) (n low high : ℕ) : Type 0 where
  pub lower : (k : ℕ) (b : StackBlock) → slice_get stack k ≡ Some b → k < low → b.number < n
  pub higher : (k : ℕ) (b : StackBlock) → slice_get stack k ≡ Some b → high ≤ k → n < b.number

at_or_below : (least : ℕ) (stack : List StackBlock) (i j : ℕ) (b c : StackBlock) → AreBlocks least stack → slice_get stack i ≡ Some b → slice_get stack j ≡ Some c → i ≤ j → b.number ≤ c.number
at_or_below least stack i j b c are at to le = elim (cases_lt i j) [
  | inl lt ↦ let less = rises least stack i j b c are at to lt in omega arith
  | inr ge ↦
      let same : b.number ≡ c.number = ap (λ d. d.number) (some_injective (sym at ∙ ap (slice_get stack) (let e : i ≡ j = omega arith in e) ∙ to)) in
      omega arith
]

module _ (least : ℕ) (stack : List StackBlock) (are : AreBlocks least stack) (n low high middle : ℕ) (b : StackBlock) (at : slice_get stack middle ≡ Some b) (within : Between stack n low high) where
  pub above_middle : b.number < n → Between stack n (middle + 1) high
  above_middle less = record {
    lower = λ k c to lt. let le = at_or_below least stack k middle c b are to at (omega arith) in omega arith;
    higher = within.higher;
  }

  pub below_middle : n < b.number → Between stack n low middle
  below_middle more = record {
    lower = within.lower;
    higher = λ k c to ge. let le = at_or_below least stack middle k b c are at to ge in omega arith;
  }

pub no_place : (stack : List StackBlock) (n low high : ℕ) → high ≤ low → Between stack n low high → IsBlockPlace stack n None
no_place stack n low high end within k b at is = elim (cases_lt k low) [
  | inl lt ↦ let less = within.lower k b at lt in omega arith
  | inr ge ↦ let more = within.higher k b at (omega arith) in omega arith
]

-- ---- a word read in a block

pub word_read : (cell : Cell) (bytes part : List Byte) (start size : ℕ) (r : Result ℕ Trap) → r ≡ Ok start → size ≡ cell_size cell → part ≡ bytes → word_in cell (take (start + size - start) (drop start part)) ≡ word_from cell bytes r
word_read cell bytes part start size r was is there =
    let count : start + size - start ≡ cell_size cell = omega (arith, is) in
    (λ i. word_in cell (take (count i) (drop start (there i)))) ∙ ap (word_from cell bytes) (sym was)
