-- Numbers of 32 bits stored in a stack: whether one can be doesn't depend on what was stored before.
use Rattle.std.proofs.Common.{◌≡◌, ℕ, ◌+◌, ◌-◌, ◌≤◌, ℤ, pos, negsuc, List, [], ◌∷◌, ◌++◌, map, take, drop, length, Bool, true, false, cond, Option, Some, None, Result, Ok, Err, refl, sym, ap, ◌∙◌, subst, arith, length-append, length-drop}
use Rattle.std.specs.Prelude.{nat_le, if◌then◌else◌}
use Rattle.std.proofs.lemmas.List.{length-take-le}
use Rattle.std.proofs.lemmas.Bool.Decides.{nat_tests}
use Rattle.mem_model.specs.declared.memory.Byte.{Byte}
use Rattle.mem_model.specs.declared.memory.Cell.TheVariants.{Int as IntCell}
use Rattle.mem_model.specs.declared.memory.Word.TheVariants.{Int}
use Rattle.mem_model.specs.declared.step.Trap.{Trap}
use Rattle.mem_model.specs.declared.step.Trap.TheVariants.{NoBlock, OutOfBlock}
use Rattle.mem_model.specs.Answers.{only_trap}
use Rattle.mem_model.specs.Words.{word_bytes}
use Rattle.mem_model.specs.Memory.{inside}
use Rattle.mem_model.specs.Values.{and_then}
use Rattle.mem_model.specs.Thread.{Spot, Frame, InStack, same_spot, or_else, find_block, find_in, put_block, put_in, spliced, store_own}
use Rattle.mem_model.specs.Entries.{put_own}

-- ---- a block with other bytes

abbrev replaced : Option (List Byte) → List Byte → Option (List Byte)
replaced None bytes = None
replaced (Some x) bytes = Some bytes

same_is : (a b : Spot) → same_spot a b ≡ true → a ≡ b
same_is (t, n) (u, k) e =
    let first : t ≡ u = grind (arith, nat_tests) in
    let second : n ≡ k = grind (arith, nat_tests) in
    λ i. (first i, second i)

the_same : (a : Spot) → same_spot a a ≡ true
the_same (t, n) = grind (arith, nat_tests)

same_step : (t : Bool) (bytes x : List Byte) (rest new : Option (List Byte)) → new ≡ replaced rest bytes → cond t (Some (cond t bytes x)) new ≡ replaced (cond t (Some x) rest) bytes
same_step true bytes x rest new e = refl
same_step false bytes x rest new e = e

block_same : (spot : Spot) (bytes : List Byte) (bs : List (Spot × List Byte)) → find_block (map (put_block spot bytes) bs) spot ≡ replaced (find_block bs spot) bytes
block_same spot bytes [] = refl
block_same spot bytes (b ∷ bs) = same_step (same_spot spot b.0) bytes b.1 (find_block bs spot) (find_block (map (put_block spot bytes) bs) spot) (block_same spot bytes bs)

or_replaced : (a c : Option (List Byte)) (bytes : List Byte) → or_else (replaced a bytes) (replaced c bytes) ≡ replaced (or_else a c) bytes
or_replaced None c bytes = refl
or_replaced (Some x) c bytes = refl

find_same : (spot : Spot) (bytes : List Byte) (fs : List Frame) → find_in (put_in spot bytes fs) spot ≡ replaced (find_in fs spot) bytes
find_same spot bytes [] = refl
find_same spot bytes (f ∷ fs) = (λ i. or_else (block_same spot bytes f.blocks i) (find_same spot bytes fs i)) ∙ or_replaced (find_block f.blocks spot) (find_in fs spot) bytes

other_step : (spot v name : Spot) (t u : Bool) → same_spot spot v ≡ false → same_spot v name ≡ t → same_spot spot name ≡ u → (bytes x : List Byte) (rest new : Option (List Byte)) → new ≡ rest → cond t (Some (cond u bytes x)) new ≡ cond t (Some x) rest
other_step spot v name false u other p q bytes x rest new e = e
other_step spot v name true false other p q bytes x rest new e = refl
other_step spot v name true true other p q bytes x rest new e =
    let here : spot ≡ v = same_is spot name q ∙ sym (same_is v name p) in
    let yes : same_spot spot v ≡ true = ap (same_spot spot) (sym here) ∙ the_same spot in
    let f : ⊥ = cc in absurd f

block_other : (spot v : Spot) (bytes : List Byte) (bs : List (Spot × List Byte)) → same_spot spot v ≡ false → find_block (map (put_block spot bytes) bs) v ≡ find_block bs v
block_other spot v bytes [] other = refl
block_other spot v bytes (b ∷ bs) other = other_step spot v b.0 (same_spot v b.0) (same_spot spot b.0) other refl refl bytes b.1 (find_block bs v) (find_block (map (put_block spot bytes) bs) v) (block_other spot v bytes bs other)

find_other : (spot v : Spot) (bytes : List Byte) (fs : List Frame) → same_spot spot v ≡ false → find_in (put_in spot bytes fs) v ≡ find_in fs v
find_other spot v bytes [] other = refl
find_other spot v bytes (f ∷ fs) other = λ i. or_else (block_other spot v bytes f.blocks other i) (find_other spot v bytes fs other i)

-- ---- sizes of blocks

abbrev pub size_of : Option (List Byte) → Option ℕ
size_of None = None
size_of (Some bytes) = Some (length bytes)

-- the same blocks, each as long as it was
abbrev pub SameSizes : List Frame → List Frame → Type 0
SameSizes fs gs = (spot : Spot) → size_of (find_in gs spot) ≡ size_of (find_in fs spot)

sizes_by : (spot v : Spot) (bytes old : List Byte) (fs : List Frame) (t : Bool) → same_spot spot v ≡ t → find_in fs spot ≡ Some old → length bytes ≡ length old → size_of (find_in (put_in spot bytes fs) v) ≡ size_of (find_in fs v)
sizes_by spot v bytes old fs false e there size = ap size_of (find_other spot v bytes fs e)
sizes_by spot v bytes old fs true e there size =
    let here : spot ≡ v = same_is spot v e in
    subst (λ w. size_of (find_in (put_in spot bytes fs) w) ≡ size_of (find_in fs w)) here
    (ap size_of (find_same spot bytes fs ∙ ap (λ o. replaced o bytes) there) ∙ ap Some size ∙ sym (ap size_of there))

inside_by : (size offset count start : ℕ) (t : Bool) → nat_le (offset + count) size ≡ t → ◌≡◌ {A = Result ℕ Trap} (if t then Ok offset else Err OutOfBlock) (Ok start) → start + count ≤ size
inside_by size offset count start true p e = let same : offset ≡ start = cc in let le : offset + count ≤ size = grind (arith, nat_tests) in omega arith
inside_by size offset count start false p e = let f : ⊥ = cc in absurd f

inside_ok : (size : ℕ) (offset : ℤ) (count start : ℕ) → inside size offset count ≡ Ok start → start + count ≤ size
inside_ok size (pos offset) count start e = inside_by size offset count start (nat_le (offset + count) size) refl e
inside_ok size (negsuc offset) count start e = let f : ⊥ = cc in absurd f

three_parts : (a b d : List Byte) (n : ℕ) → length a + length b + length d ≡ n → length (a ++ b ++ d) ≡ n
three_parts a b d n e = length-append (a ++ b) d ∙ ap (λ k. k + length d) (length-append a b) ∙ e

spliced_size : (old new : List Byte) (start : ℕ) → start + length new ≤ length old → length (take start old ++ new ++ drop (start + length new) old) ≡ length old
spliced_size old new start le =
    let room : start ≤ length old = omega arith in
    let first : length (take start old) ≡ start = length-take-le start old room in
    let third : length (drop (start + length new) old) ≡ length old - (start + length new) = length-drop (start + length new) old in
    three_parts (take start old) new (drop (start + length new) old) (length old) (omega (arith, first, third))

stored_size : (old out : List Byte) (n : ℕ) (r : Result ℕ Trap) → ((start : ℕ) → r ≡ Ok start → start + 4 ≤ length old) → spliced old (word_bytes (IntCell 32) (Int n)) r ≡ Ok out → length out ≡ length old
stored_size old out n (Err e) within is = let f : ⊥ = cc in absurd f
stored_size old out n (Ok start) within is =
    let new : List Byte = word_bytes (IntCell 32) (Int n) in
    let same : take start old ++ new ++ drop (start + length new) old ≡ out = cc in
    ap length (sym same) ∙ spliced_size old new start (within start refl)

block_put : (fs gs : List Frame) (spot : Spot) (old : List Byte) (r : Result (List Byte) Trap) → find_in fs spot ≡ Some old → ((out : List Byte) → r ≡ Ok out → length out ≡ length old) → and_then r (λ bytes. Ok (put_in spot bytes fs)) ≡ Ok gs → SameSizes fs gs
block_put fs gs spot old (Err e) there size is = let f : ⊥ = cc in absurd f
block_put fs gs spot old (Ok out) there size is = λ v.
    let same : put_in spot out fs ≡ gs = cc in
    subst (λ hs. size_of (find_in hs v) ≡ size_of (find_in fs v)) same (sizes_by spot v out old fs (same_spot spot v) refl there (size out refl))

put_by : (fs gs : List Frame) (spot : Spot) (offset : ℤ) (n : ℕ) (o : Option (List Byte)) → find_in fs spot ≡ o → and_then (store_own o offset (IntCell 32) (Int n)) (λ bytes. Ok (put_in spot bytes fs)) ≡ Ok gs → SameSizes fs gs
put_by fs gs spot offset n None there is = let f : ⊥ = cc in absurd f
put_by fs gs spot offset n (Some old) there is =
    block_put fs gs spot old (spliced old (word_bytes (IntCell 32) (Int n)) (inside (length old) offset 4)) there
    (λ out. stored_size old out n (inside (length old) offset 4) (λ start. inside_ok (length old) offset 4 start)) is

pub put_sizes : (fs gs : List Frame) (spot : Spot) (offset : ℤ) (n : ℕ) → put_own fs (InStack spot offset) (IntCell 32) (Int n) ≡ Ok gs → SameSizes fs gs
put_sizes fs gs spot offset n is = put_by fs gs spot offset n (find_in fs spot) refl is

-- ---- whether a number can be stored

abbrev fits_at : Option ℕ → ℤ → Result (Unit {0}) Trap
fits_at None offset = Err NoBlock
fits_at (Some size) offset = only_trap (inside size offset 4)

spliced_trap : (old new : List Byte) (r : Result ℕ Trap) → only_trap (spliced old new r) ≡ only_trap r
spliced_trap old new (Err e) = refl
spliced_trap old new (Ok start) = refl

store_trap : (o : Option (List Byte)) (offset : ℤ) (n : ℕ) → only_trap (store_own o offset (IntCell 32) (Int n)) ≡ fits_at (size_of o) offset
store_trap None offset n = refl
store_trap (Some old) offset n = spliced_trap old (word_bytes (IntCell 32) (Int n)) (inside (length old) offset 4)

pub then_trap : {A B : Type 0} (r : Result A Trap) (go : A → B) → only_trap (and_then r (λ x. Ok (go x))) ≡ only_trap r
then_trap (Err e) go = refl
then_trap (Ok x) go = refl

put_trap : (fs : List Frame) (spot : Spot) (offset : ℤ) (n : ℕ) → only_trap (put_own fs (InStack spot offset) (IntCell 32) (Int n)) ≡ fits_at (size_of (find_in fs spot)) offset
put_trap fs spot offset n = then_trap (store_own (find_in fs spot) offset (IntCell 32) (Int n)) (λ bytes. put_in spot bytes fs) ∙ store_trap (find_in fs spot) offset n

-- behind stores it is as before them, and for one number as for another
pub put_alike : (fs gs : List Frame) (spot : Spot) (offset : ℤ) (n k : ℕ) → SameSizes fs gs → only_trap (put_own gs (InStack spot offset) (IntCell 32) (Int n)) ≡ only_trap (put_own fs (InStack spot offset) (IntCell 32) (Int k))
put_alike fs gs spot offset n k same = put_trap gs spot offset n ∙ ap (λ o. fits_at o offset) (same spot) ∙ sym (put_trap fs spot offset k)

pub then_fit : {A : Type 0} (r : Result A Trap) (go : A → Result (List Frame) Trap) (t : Result (Unit {0}) Trap) → ((x : A) → r ≡ Ok x → only_trap (go x) ≡ t) → only_trap (and_then r go) ≡ and_then (only_trap r) (λ u. t)
then_fit (Err e) go t h = refl
then_fit (Ok x) go t h = h x refl
