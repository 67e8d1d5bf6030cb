-- Captured words, gathered one after another.
use Rattle.std.proofs.Common.{◌≡◌, ℕ, suc, ℤ, pos, negsuc, ◌+◌, ◌*◌, ◌-◌, ◌^◌, ◌<◌, ◌+ℤ◌, min, List, [], ◌∷◌, ◌++◌, length, Option, Some, None, Result, Ok, Err, refl, sym, ap, ◌∙◌, arith}
use Rattle.std.proofs.lemmas.Bool.Decides.{nat_tests}
use Rattle.std.proofs.lemmas.List.{append_assoc}
use Rattle.std.proofs.Math.IntN.{+ℤ_assoc}
use Rattle.std.specs.Int.{saturate_to_bits}
use Rattle.mem_model.specs.declared.memory.Ptr.{Ptr}
use Rattle.mem_model.specs.declared.memory.Byte.{Byte}
use Rattle.mem_model.specs.declared.memory.Word.{Word}
use Rattle.mem_model.specs.declared.memory.Cell.TheVariants.{Ptr as PtrCell}
use Rattle.mem_model.specs.declared.step.Trap.{Trap}
use Rattle.mem_model.specs.Memory.{inside}
use Rattle.mem_model.specs.Values.{and_then}
use Rattle.mem_model.specs.Thread.{word_from, load_own}
use Rattle.mem_model.specs.Regions.{shared_word, words_in}
use Rattle.captures.specs.Words.{word_at}

-- ---- beyond the largest offset

farther : (size n : ℕ) → size < 2 ^ 63 → inside size (pos (min n (2 ^ 63 - 1))) 8 ≡ inside size (pos n) 8
farther size n small = grind (arith, nat_tests)

far : (size : ℕ) (z : ℤ) → size < 2 ^ 63 → inside size (saturate_to_bits 63 z) 8 ≡ inside size z 8
far size (pos n) small = farther size n small
far size (negsuc n) small = refl

-- a short block has nothing there
pub load_far : (block : Option (List Byte)) (z : ℤ) → ((bytes : List Byte) → block ≡ Some bytes → length bytes < 2 ^ 63) → load_own block (saturate_to_bits 63 z) PtrCell ≡ load_own block z PtrCell
load_far None z short = refl
load_far (Some bytes) z short = ap (word_from PtrCell bytes) (far (length bytes) z (short bytes refl))

-- ---- one word more

and_then-assoc : {A B C : Type 0} (r : Result A Trap) (f : A → Result B Trap) (g : B → Result C Trap) → and_then r (λ x. and_then (f x) g) ≡ and_then (and_then r f) g
and_then-assoc (Err e) f g = refl
and_then-assoc (Ok x) f g = refl

module _ (block : Option (List Byte)) where
  one_first : (z : ℤ) (n : ℕ) → words_in block z (suc n) ≡ and_then (word_at block z) (λ p. and_then (words_in block (z +ℤ pos 8) n) (λ ps. Ok (p ∷ ps)))
  one_first z n = and_then-assoc (load_own block z PtrCell) shared_word (λ p. and_then (words_in block (z +ℤ pos 8) n) (λ ps. Ok (p ∷ ps)))

  abbrev pub behind : List Ptr → ℤ → ℕ → Result (List Ptr) Trap
  behind words z n = and_then (words_in block z n) (λ ps. Ok (words ++ ps))

  -- before the first word
  pub behind_none : (words : List Ptr) (z y : ℤ) (n k : ℕ) → words ≡ [] → z ≡ y → n ≡ k → words_in block z n ≡ behind words y k
  behind_none words z y n k none same all = none_yet (words_in block z n) ∙ (λ i. behind (sym none i) (same i) (all i))
    where
      none_yet : (r : Result (List Ptr) Trap) → r ≡ and_then r (λ ps. Ok ([] ++ ps))
      none_yet (Ok ps) = refl
      none_yet (Err e) = refl

  with_first : (words : List Ptr) (p : Ptr) (r : Result (List Ptr) Trap) → and_then (and_then r (λ ps. Ok (p ∷ ps))) (λ ps. Ok (words ++ ps)) ≡ and_then r (λ ps. Ok ((words ++ p ∷ []) ++ ps))
  with_first words p (Err e) = refl
  with_first words p (Ok ps) = ap Ok (sym (append_assoc words (p ∷ []) ps))

  pub word_more : (words : List Ptr) (p : Ptr) (z : ℤ) (n : ℕ) → word_at block z ≡ Ok p → behind words z (suc n) ≡ behind (words ++ p ∷ []) (z +ℤ pos 8) n
  word_more words p z n found =
      ap (λ r. and_then r (λ ps. Ok (words ++ ps))) (one_first z n ∙ ap (λ r. and_then r (λ q. and_then (words_in block (z +ℤ pos 8) n) (λ ps. Ok (q ∷ ps)))) found)
      ∙ with_first words p (words_in block (z +ℤ pos 8) n)

  pub no_word : (words : List Ptr) (e : Trap) (z : ℤ) (n : ℕ) → word_at block z ≡ Err e → behind words z (suc n) ≡ Err e
  no_word words e z n trapped =
      ap (λ r. and_then r (λ ps. Ok (words ++ ps))) (one_first z n ∙ ap (λ r. and_then r (λ q. and_then (words_in block (z +ℤ pos 8) n) (λ ps. Ok (q ∷ ps)))) trapped)

  further : (z : ℤ) (k : ℕ) → (z +ℤ pos (8 * k)) +ℤ pos 8 ≡ z +ℤ pos (8 * (k + 1))
  further z k = +ℤ_assoc z (pos (8 * k)) (pos 8) ∙ ap (λ d. z +ℤ pos d) (omega arith)

  -- the words from a place on, of which the first is there
  pub gathers : (words new : List Ptr) (p : Ptr) (z : ℤ) (k n : ℕ) → k < n → new ≡ words ++ p ∷ [] → word_at block (z +ℤ pos (8 * k)) ≡ Ok p → words_in block z n ≡ behind words (z +ℤ pos (8 * k)) (n - k) →
      words_in block z n ≡ behind new (z +ℤ pos (8 * (k + 1))) (n - (k + 1))
  gathers words new p z k n low is found whole =
      let left : n - k ≡ suc (n - (k + 1)) = omega arith in
      whole
      ∙ ap (behind words (z +ℤ pos (8 * k))) left
      ∙ word_more words p (z +ℤ pos (8 * k)) (n - (k + 1)) found
      ∙ (λ i. behind (sym is i) (further z k i) (n - (k + 1)))

  -- of which the first traps
  pub traps : (words : List Ptr) (e : Trap) (z : ℤ) (k n : ℕ) → k < n → word_at block (z +ℤ pos (8 * k)) ≡ Err e → words_in block z n ≡ behind words (z +ℤ pos (8 * k)) (n - k) → words_in block z n ≡ Err e
  traps words e z k n low trapped whole =
      let left : n - k ≡ suc (n - (k + 1)) = omega arith in
      whole ∙ ap (behind words (z +ℤ pos (8 * k))) left ∙ no_word words e (z +ℤ pos (8 * k)) (n - (k + 1)) trapped

-- ---- the word at a place

module _ (block : Option (List Byte)) (short : (bytes : List Byte) → block ≡ Some bytes → length bytes < 2 ^ 63) (z offset : ℤ) (near : offset ≡ saturate_to_bits 63 z) (loaded : Result Word Trap) (same : loaded ≡ load_own block offset PtrCell) where
  loads : load_own block z PtrCell ≡ loaded
  loads = sym (load_far block z short) ∙ ap (λ o. load_own block o PtrCell) (sym near) ∙ sym same

  pub word_is : (word : Word) (result : Result Ptr Trap) → loaded ≡ Ok word → result ≡ shared_word word → result ≡ word_at block z
  word_is word result found is = is ∙ ap (λ r. and_then r shared_word) (sym (loads ∙ found))

  pub word_traps : (e : Trap) (result : Result Ptr Trap) → loaded ≡ Err e → result ≡ Err e → result ≡ word_at block z
  word_traps e result found is = is ∙ ap (λ r. and_then r shared_word) (sym (loads ∙ found))
