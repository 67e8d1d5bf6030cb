-- What the kept blocks become where one of them changes, is made or is released, and what a load reads from them.
use Rattle.std.proofs.Common.{◌≡◌, ℕ, zero, suc, ◌+◌, ◌-◌, ◌<◌, ◌≤◌, List, [], ◌∷◌, ◌++◌, length, take, drop, Bool, true, false, cond, Some, refl, sym, ap, ◌∙◌, arith, ◌⊎◌, inl, inr}
use Rattle.std.specs.Prelude.{option_map, slice_get}
use Rattle.std.specs.FinMap as fin
use Rattle.std.proofs.lemmas.Bool.{cases_lt, false≢true}
use Rattle.std.proofs.lemmas.List.{length-take-le}
use Rattle.mem_model.specs.declared.memory.BlockName.{BlockName}
use Rattle.mem_model.specs.declared.memory.Byte.{Byte}
use Rattle.mem_model.specs.declared.block.Block.{Block}
use Rattle.mem_model.specs.Blocks.{same_block}
use Rattle.mem_model.specs.Orders.{block_equiv}
use Rattle.mem_model.specs.Memory.{Header, put_bytes}
use Rattle.mem_model.specs.Kept.{header_of, memory_of, IsOverwritten}
use Rattle.mem_model.proofs.Orders.{block_same}
use Rattle.mem_model.proofs.StoreLaws.{put_apart}
use Rattle.mem_model.proofs.KeptLaws.{found, byte_in, blocks_get, bytes_get, put_at, memory_is}

-- ---- elements of lists

slice_get_front : {A : Type 0} (xs ys : List A) (i : ℕ) → i < length xs → slice_get (xs ++ ys) i ≡ slice_get xs i
slice_get_front [] ys i lt = absurd (omega arith)
slice_get_front (x ∷ xs) ys zero lt = refl
slice_get_front (x ∷ xs) ys (suc i) lt = slice_get_front xs ys i (omega arith)

slice_get_behind : {A : Type 0} (xs ys : List A) (i j : ℕ) → length xs + j ≡ i → slice_get (xs ++ ys) i ≡ slice_get ys j
slice_get_behind [] ys i j e = ap (slice_get ys) (let z : i ≡ j = omega arith in z)
slice_get_behind (x ∷ xs) ys zero j e = absurd (omega arith)
slice_get_behind (x ∷ xs) ys (suc i) j e = slice_get_behind xs ys i j (omega arith)

slice_get_take : {A : Type 0} (n : ℕ) (xs : List A) (i : ℕ) → i < n → slice_get (take n xs) i ≡ slice_get xs i
slice_get_take zero xs i lt = absurd (omega arith)
slice_get_take (suc n) [] i lt = refl
slice_get_take (suc n) (x ∷ xs) zero lt = refl
slice_get_take (suc n) (x ∷ xs) (suc i) lt = slice_get_take n xs i (omega arith)

slice_get_drop : {A : Type 0} (n : ℕ) (xs : List A) (i j : ℕ) → n + i ≡ j → slice_get (drop n xs) i ≡ slice_get xs j
slice_get_drop zero xs i j e = ap (slice_get xs) (let z : i ≡ j = omega arith in z)
slice_get_drop (suc n) [] i j e = refl
slice_get_drop (suc n) (x ∷ xs) i zero e = absurd (omega arith)
slice_get_drop (suc n) (x ∷ xs) i (suc j) e = slice_get_drop n xs i j (omega arith)

-- a list with other elements from a place on
module _ {A : Type 0} (xs : List A) (o : ℕ) (ws : List A) (le : o + length ws ≤ length xs) where
  front : length (take o xs) ≡ o
  front = length-take-le o xs (omega arith)

  spliced_before : (i : ℕ) → i < o → slice_get (take o xs ++ (ws ++ drop (o + length ws) xs)) i ≡ slice_get xs i
  spliced_before i lt = slice_get_front (take o xs) _ i (omega (arith, front)) ∙ slice_get_take o xs i lt

  spliced_inside : (i : ℕ) → o ≤ i → i < o + length ws → slice_get (take o xs ++ (ws ++ drop (o + length ws) xs)) i ≡ slice_get ws (i - o)
  spliced_inside i low high = slice_get_behind (take o xs) _ i (i - o) (omega (arith, front)) ∙ slice_get_front ws _ (i - o) (omega arith)

  spliced_behind : (i : ℕ) → o + length ws ≤ i → slice_get (take o xs ++ (ws ++ drop (o + length ws) xs)) i ≡ slice_get xs i
  spliced_behind i low = slice_get_behind (take o xs) _ i (i - o) (omega (arith, front)) ∙ slice_get_behind ws _ (i - o) (i - (o + length ws)) (omega arith) ∙ slice_get_drop (o + length ws) xs _ i (omega arith)

-- ---- a block in the place of another

pub record Replaced (es new_es : List (BlockName × Block)) (name : BlockName) (old new : Block) : Type 0 where
  pub was : found name es ≡ Some old
  pub finds : (q : BlockName) → found q new_es ≡ cond (same_block name q) (Some new) (found q es)

pub nothing_changes : (es new_es : List (BlockName × Block)) → ((q : BlockName) → found q new_es ≡ found q es) → memory_of new_es ≡ memory_of es
nothing_changes es new_es same = memory_is new_es (memory_of es) (λ q. ap (option_map header_of) (same q) ∙ sym (blocks_get es q)) (λ q i. ap (λ b. byte_in b i) (same q) ∙ sym (bytes_get es q i))

module _ (es new_es : List (BlockName × Block)) (name : BlockName) (old new : Block) (r : Replaced es new_es name old new) where
  pub here : (q : BlockName) → same_block name q ≡ true → found q es ≡ Some old
  here q is = ap (λ x. found x es) (sym (block_same name q is)) ∙ r.was

  pub finds_new : (q : BlockName) → same_block name q ≡ true → found q new_es ≡ Some new
  finds_new q is = r.finds q ∙ ap (λ t. cond t (Some new) (found q es)) is

  pub finds_old : (q : BlockName) → same_block name q ≡ false → found q new_es ≡ found q es
  finds_old q is = r.finds q ∙ ap (λ t. cond t (Some new) (found q es)) is

  pub stays : new ≡ old → memory_of new_es ≡ memory_of es
  stays same = nothing_changes es new_es (λ q. by_test q (same_block name q) refl)
    where
      by_test : (q : BlockName) (t : Bool) → same_block name q ≡ t → found q new_es ≡ found q es
      by_test q true is = finds_new q is ∙ ap (λ (b : Block). Some b) same ∙ sym (here q is)
      by_test q false is = finds_old q is

  pub overwritten : (o : ℕ) (ws : List Byte) → IsOverwritten old o ws new → o + length ws ≤ length old.bytes.items → memory_of new_es ≡ record (memory_of es) { bytes = put_bytes (memory_of es).bytes name o ws }
  overwritten o ws h le = memory_is new_es (record (memory_of es) { bytes = put_bytes (memory_of es).bytes name o ws }) (λ q. header q (same_block name q) refl) (λ q i. byte q i (same_block name q) refl)
    where
      header : (q : BlockName) (t : Bool) → same_block name q ≡ t → option_map header_of (found q new_es) ≡ fin.get (memory_of es).blocks q
      header q true is = ap (option_map header_of) (finds_new q is) ∙ ap (λ (x : Header). Some x) h.0 ∙ sym (ap (option_map header_of) (here q is)) ∙ sym (blocks_get es q)
      header q false is = ap (option_map header_of) (finds_old q is) ∙ sym (blocks_get es q)

      was_at : (i : ℕ) → fin.get (memory_of es).bytes (name, i) ≡ slice_get old.bytes.items i
      was_at i = bytes_get es name i ∙ ap (λ b. byte_in b i) r.was

      inside : (i : ℕ) → (i < o) ⊎ (o ≤ i) → (i < o + length ws) ⊎ (o + length ws ≤ i) → slice_get new.bytes.items i ≡ fin.get (put_bytes (memory_of es).bytes name o ws) (name, i)
      inside i (inl before) till = ap (λ xs. slice_get xs i) h.1 ∙ spliced_before old.bytes.items o ws le i before ∙ sym (put_apart (memory_of es).bytes name o ws name i (λ s l k. omega arith) ∙ was_at i)
      inside i (inr from) (inl till) = ap (λ xs. slice_get xs i) h.1 ∙ spliced_inside old.bytes.items o ws le i from till ∙ sym (put_at (memory_of es).bytes name o ws i from till)
      inside i (inr from) (inr behind) = ap (λ xs. slice_get xs i) h.1 ∙ spliced_behind old.bytes.items o ws le i behind ∙ sym (put_apart (memory_of es).bytes name o ws name i (λ s l k. omega arith) ∙ was_at i)

      byte : (q : BlockName) (i : ℕ) (t : Bool) → same_block name q ≡ t → byte_in (found q new_es) i ≡ fin.get (put_bytes (memory_of es).bytes name o ws) (q, i)
      byte q i true is = ap (λ b. byte_in b i) (finds_new q is) ∙ inside i (cases_lt i o) (cases_lt i (o + length ws)) ∙ ap (λ x. fin.get (put_bytes (memory_of es).bytes name o ws) (x, i)) (block_same name q is)
      byte q i false is = ap (λ b. byte_in b i) (finds_old q is) ∙ sym (put_apart (memory_of es).bytes name o ws q i (λ s l k. false≢true (sym is ∙ ap (same_block name) s ∙ block_equiv.refl name)) ∙ bytes_get es q i)
