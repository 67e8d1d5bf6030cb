-- A load behind a store.
use Rattle.std.proofs.Common.{◌≡◌, ℕ, zero, suc, ◌+◌, ◌<◌, ◌≤◌, List, [], ◌∷◌, length, ℤ, pos, Bool, true, false, cond, ◌&&◌, Option, Some, None, Result, Ok, Err, refl, sym, ap, ◌∙◌, subst, arith, ◌⊎◌, inl, inr}
use Rattle.std.specs.Prelude.{if◌then◌else◌}
use Rattle.std.specs.FinMap as fin
use Rattle.std.specs.FinMap.{FinMap, get-insert}
use Rattle.std.specs.Ordering.{eq_by_cmp, nat_cmp, is_eq}
use Rattle.std.proofs.lemmas.Bool.{and_parts, false_from_ne_true}
use Rattle.std.proofs.lemmas.Cmp.{eq_by_cmp_equiv}
use Rattle.mem_model.specs.declared.memory.BlockName.{BlockName}
use Rattle.mem_model.specs.declared.memory.Ptr.TheVariants.{Num as Number, At}
use Rattle.mem_model.specs.declared.memory.Byte.{Byte}
use Rattle.mem_model.specs.declared.memory.Word.{Word}
use Rattle.mem_model.specs.declared.memory.Word.TheVariants.{Int}
use Rattle.mem_model.specs.declared.memory.Cell.{Cell}
use Rattle.mem_model.specs.declared.step.Trap.{Trap}
use Rattle.mem_model.specs.declared.step.Trap.TheVariants.{Released, OutOfBlock, Constant}
use Rattle.mem_model.specs.Blocks.{block_cmp, place_cmp, same_block}
use Rattle.mem_model.specs.Words.{cell_size, word_bytes, word_in}
use Rattle.mem_model.specs.Memory.{Memory, Header, Given, Shares, Leaks, inside, unless, then_unless, access, byte_or_zero, bytes_at, put_bytes, load_from, store_to, Load}
use Rattle.mem_model.specs.MemoryLaws.{StoreThenLoad, OtherBlockStays, OtherBytesStay, StoreKeepsBlocks}
use Rattle.mem_model.proofs.Orders.{place_total, both_equal, number_same, block_same}
use Rattle.mem_model.proofs.WordLaws.{word_back, word_length}

-- ---- one byte

place_apart : (a b : BlockName) (o p : ℕ) → (a ≡ b → o ≡ p → ⊥) → eq_by_cmp place_cmp (a, o) (b, p) ≡ false
place_apart a b o p not =
    false_from_ne_true (eq_by_cmp place_cmp (a, o) (b, p)) (λ e. let q : (same_block a b ≡ true) × (is_eq (nat_cmp o p) ≡ true) = and_parts _ _ (sym (both_equal (block_cmp a b) (nat_cmp o p)) ∙ e) in not (block_same a b q.0) (number_same o p q.1))

pub insert_here : (y : FinMap place_cmp Byte) (a : BlockName) (o : ℕ) (v : Byte) → fin.get (fin.insert y (a, o) v) (a, o) ≡ Some v
insert_here y a o v = get-insert place_total y (a, o) v (a, o) ∙ ap (λ t. cond t (Some v) (fin.get y (a, o))) ((eq_by_cmp_equiv place_total).refl (a, o))

pub insert_apart : (y : FinMap place_cmp Byte) (a b : BlockName) (o p : ℕ) (v : Byte) → (b ≡ a → p ≡ o → ⊥) → fin.get (fin.insert y (a, o) v) (b, p) ≡ fin.get y (b, p)
insert_apart y a b o p v not = get-insert place_total y (a, o) v (b, p) ∙ ap (λ t. cond t (Some v) (fin.get y (b, p))) (place_apart b a p o not)

-- ---- many bytes

pub put_apart : (y : FinMap place_cmp Byte) (a : BlockName) (at : ℕ) (xs : List Byte) (b : BlockName) (k : ℕ) → (b ≡ a → at ≤ k → k < at + length xs → ⊥) → fin.get (put_bytes y a at xs) (b, k) ≡ fin.get y (b, k)
put_apart y a at [] b k not = refl
put_apart y a at (x ∷ xs) b k not =
    put_apart (fin.insert y (a, at) x) a (at + 1) xs b k (λ e low high. not e (omega arith) (omega arith)) ∙ insert_apart y a b at k x (λ e q. not e (omega arith) (omega arith))

pub put_back : (m : Memory) (y : FinMap place_cmp Byte) (a : BlockName) (at : ℕ) (xs : List Byte) → bytes_at (record m { bytes = put_bytes y a at xs }) a at (length xs) ≡ xs
put_back m y a at [] = refl
put_back m y a at (x ∷ xs) = λ i. byte_or_zero (first i) ∷ put_back m (fin.insert y (a, at) x) a (at + 1) xs i
  where
    first : fin.get (put_bytes (fin.insert y (a, at) x) a (at + 1) xs) (a, at) ≡ Some x
    first = put_apart (fin.insert y (a, at) x) a (at + 1) xs a at (λ e low high. omega arith) ∙ insert_here y a at x

pub bytes_same : (m n : Memory) (b : BlockName) (k count : ℕ) → ((j : ℕ) → k ≤ j → j < k + count → fin.get n.bytes (b, j) ≡ fin.get m.bytes (b, j)) → bytes_at n b k count ≡ bytes_at m b k count
bytes_same m n b k zero same = refl
bytes_same m n b k (suc count) same =
    λ i. byte_or_zero (same k (omega arith) (omega arith) i) ∷ bytes_same m n b (k + 1) count (λ j low high. same j (omega arith) (omega arith)) i

-- ---- what an access that a store makes says

-- where a write may go, a read may
reads : (released : Bool) (r : Result ℕ Trap) (constant : Bool) (o : ℕ) → unless released Released (then_unless r (true && constant) Constant) ≡ Ok o → unless released Released (then_unless r (false && constant) Constant) ≡ Ok o
reads true r constant o e = absurd (let f : ⊥ = cc in f)
reads false (Err trap) constant o e = absurd (let f : ⊥ = cc in f)
reads false (Ok x) true o e = absurd (let f : ⊥ = cc in f)
reads false (Ok x) false o e = e

pub access_reads : (h : Option Header) (offset : ℤ) (count o : ℕ) → access h offset count true ≡ Ok o → access h offset count false ≡ Ok o
access_reads None offset count o e = absurd (let f : ⊥ = cc in f)
access_reads (Some header) offset count o e = reads header.released (inside header.size offset count) header.constant o e

begins : (released lies fails : Bool) (place o : ℕ) → unless released Released (then_unless (if lies then Ok place else Err OutOfBlock) fails Constant) ≡ Ok o → o ≡ place
begins true lies fails place o e = absurd (let f : ⊥ = cc in f)
begins false false fails place o e = absurd (let f : ⊥ = cc in f)
begins false true true place o e = absurd (let f : ⊥ = cc in f)
begins false true false place o e = cc

access_begins : (h : Option Header) (place count : ℕ) (writes : Bool) (o : ℕ) → access h (pos place) count writes ≡ Ok o → o ≡ place
access_begins None place count writes o e = absurd (let f : ⊥ = cc in f)
access_begins (Some header) place count writes o e = begins header.released _ (writes && header.constant) place o e

-- ---- what a store that goes through leaves

abbrev pub stored_at : Memory → BlockName → ℕ → List Byte → Memory
stored_at m block offset bytes = record m { bytes = put_bytes m.bytes block offset bytes }

abbrev pub given_word : Given → Word
given_word (Shares word) = word
given_word Leaks = Int 0

pub record Stored (m after : Memory) (block : BlockName) (cell : Cell) (given : Given) (r : Result ℕ Trap) : Type 0 where
  pub offset : ℕ
  pub begins_at : r ≡ Ok offset
  pub leaves : stored_at m block offset (word_bytes cell (given_word given)) ≡ after

pub ok_same : (m n : Memory) → ◌≡◌ {A = Result Memory Trap} (Ok m) (Ok n) → m ≡ n
ok_same m n e = cc

pub stored : (m after : Memory) (block : BlockName) (cell : Cell) (given : Given) (r : Result ℕ Trap) → store_to m block cell given r ≡ Ok after → Stored m after block cell given r
stored m after block cell given (Err trap) e = absurd (let f : ⊥ = cc in f)
stored m after block cell Leaks (Ok o) e = absurd (let f : ⊥ = cc in f)
stored m after block cell (Shares word) (Ok o) e = record { offset = o; begins_at = refl; leaves = ok_same _ after e }

-- ---- the laws

pub store_then_load : StoreThenLoad
store_then_load m after (Number n) cell word holds e = absurd (let f : ⊥ = cc in f)
store_then_load m after (At block offset) cell word holds e = subst (λ a. Load a (At block offset) cell ≡ Ok word) st.leaves loads
  where
    st : Stored m after block cell (Shares word) (access (fin.get m.blocks block) offset (cell_size cell) true)
    st = stored m after block cell (Shares word) _ e

    held : bytes_at (stored_at m block st.offset (word_bytes cell word)) block st.offset (cell_size cell) ≡ word_bytes cell word
    held = subst (λ k. bytes_at (stored_at m block st.offset (word_bytes cell word)) block st.offset k ≡ word_bytes cell word) (word_length cell word holds) (put_back m m.bytes block st.offset (word_bytes cell word))

    loads : Load (stored_at m block st.offset (word_bytes cell word)) (At block offset) cell ≡ Ok word
    loads = ap (load_from (stored_at m block st.offset (word_bytes cell word)) block cell) (access_reads (fin.get m.blocks block) offset (cell_size cell) st.offset st.begins_at) ∙ ap (word_in cell) held ∙ word_back cell word holds

pub load_same : (m n : Memory) (b : BlockName) (cell : Cell) (r : Result ℕ Trap) → ((o : ℕ) → r ≡ Ok o → bytes_at n b o (cell_size cell) ≡ bytes_at m b o (cell_size cell)) → load_from n b cell r ≡ load_from m b cell r
load_same m n b cell (Err trap) same = refl
load_same m n b cell (Ok o) same = ap (word_in cell) (same o refl)

-- a load that no written byte meets
unmet : (m : Memory) (block other : BlockName) (at : ℕ) (xs : List Byte) (place : ℤ) (read : Cell) → ((o j : ℕ) → access (fin.get m.blocks other) place (cell_size read) false ≡ Ok o → o ≤ j → j < o + cell_size read → other ≡ block → at ≤ j → j < at + length xs → ⊥) → Load (stored_at m block at xs) (At other place) read ≡ Load m (At other place) read
unmet m block other at xs place read not =
    load_same m (stored_at m block at xs) other read _ (λ o e. bytes_same m (stored_at m block at xs) other o (cell_size read) (λ j low high. put_apart m.bytes block at xs other j (not o j e low high)))

pub other_block_stays : OtherBlockStays
other_block_stays m after block other offset place cell read given apart e = subst (λ a. Load a (At other place) read ≡ Load m (At other place) read) st.leaves (unmet m block other st.offset (word_bytes cell (given_word given)) place read (λ o j r low high same from till. apart same))
  where
    st : Stored m after block cell given (access (fin.get m.blocks block) offset (cell_size cell) true)
    st = stored m after block cell given _ e

pub other_bytes_stay : OtherBytesStay
other_bytes_stay m after block offset place cell read word holds apart e = subst (λ a. Load a (At block (pos place)) read ≡ Load m (At block (pos place)) read) st.leaves (unmet m block block st.offset (word_bytes cell word) (pos place) read (λ o j r low high same from till. meets o j (access_begins _ place (cell_size read) false o r) low high from till))
  where
    st : Stored m after block cell (Shares word) (access (fin.get m.blocks block) (pos offset) (cell_size cell) true)
    st = stored m after block cell (Shares word) _ e

    meets : (o j : ℕ) → o ≡ place → o ≤ j → j < o + cell_size read → st.offset ≤ j → j < st.offset + length (word_bytes cell word) → ⊥
    meets o j is low high from till = far (word_length cell word holds) (access_begins _ offset (cell_size cell) true st.offset st.begins_at) apart
      where
        far : length (word_bytes cell word) ≡ cell_size cell → st.offset ≡ offset → (place + cell_size read ≤ offset) ⊎ (offset + cell_size cell ≤ place) → ⊥
        far long there (inl before) = omega arith
        far long there (inr behind) = omega arith

pub store_keeps_blocks : StoreKeepsBlocks
store_keeps_blocks m after (Number n) cell given e = absurd (let f : ⊥ = cc in f)
store_keeps_blocks m after (At block offset) cell given e = sym (ap (λ (a : Memory). a.blocks) st.leaves)
  where
    st : Stored m after block cell given (access (fin.get m.blocks block) offset (cell_size cell) true)
    st = stored m after block cell given _ e
