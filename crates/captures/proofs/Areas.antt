-- A word is stored in the capture area.
use Rattle.std.proofs.Common.{◌≡◌, ℕ, zero, suc, pos, ◌+◌, ◌*◌, ◌<◌, List, [], ◌∷◌, drop, length, slice_get, true, false, Some, Result, Ok, Err, IsOk, refl, sym, ap, ◌∙◌, subst, arith}
use Rattle.std.specs.Prelude.{◌&&◌, if◌then◌else◌}
use Rattle.std.proofs.lemmas.Bool.{le-leb}
use Rattle.mem_model.specs.declared.memory.BlockName.TheVariants.{Captures}
use Rattle.mem_model.specs.declared.memory.Ptr.{Ptr}
use Rattle.mem_model.specs.declared.memory.Ptr.TheVariants.{At}
use Rattle.mem_model.specs.declared.memory.Word.TheVariants.{Ptr as Address}
use Rattle.mem_model.specs.declared.memory.Cell.TheVariants.{Ptr as PtrCell}
use Rattle.mem_model.specs.declared.step.Trap.{Trap}
use Rattle.mem_model.specs.declared.step.Trap.TheVariants.{Released, OutOfBlock, Constant}
use Rattle.mem_model.specs.Memory.{Memory, Shares, unless, then_unless, access, store_to, Store}
use Rattle.mem_model.specs.Answers.{IsDone}
use Rattle.mem_model.specs.Thread.{given_at, given_of}
use Rattle.mem_model.proofs.Runs.{some_injective}
use Rattle.team_model.specs.Team.{published}
use Rattle.captures.specs.Captured.{IsShared}
use Rattle.captures.specs.Published.{IsArea, with_word}

pub stores : (m : Memory) (k : ℕ) (p : Ptr) → IsArea m → k < 64 → IsShared p → Store m (At Captures (pos (8 * k))) PtrCell (given_of (Address p)) ≡ Ok (with_word m k p)
stores m k p area low shared =
    (λ i. store_to m Captures PtrCell (given_at (shared i)) (access (area i) (pos (8 * k)) 8 true))
    ∙ ap (λ t. store_to m Captures PtrCell (Shares (Address p)) (unless false Released (then_unless (if t then Ok (8 * k) else Err OutOfBlock) (true && false) Constant))) (le-leb (8 * k + 8) 512 (omega arith))

pub done : {U : Type 0} (m new : Memory) (k : ℕ) (p : Ptr) (result : Result U Trap) → IsArea m → k < 64 → IsShared p → IsDone (Store m (At Captures (pos (8 * k))) PtrCell (given_of (Address p))) m new result → IsOk result × (new ≡ with_word m k p)
done m new k p result area low shared is = subst (λ r. IsDone r m new result) (stores m k p area low shared) is

-- ---- one word more

drop_first : (xs : List Ptr) (at : ℕ) (p : Ptr) → slice_get xs at ≡ Some p → drop at xs ≡ p ∷ drop (suc at) xs
drop_first [] at p there = let f : ⊥ = cc in absurd f
drop_first (x ∷ xs) zero p there = ap (λ y. y ∷ xs) (some_injective there)
drop_first (x ∷ xs) (suc at) p there = drop_first xs at p there

pub word_put : (words : List Ptr) (at : ℕ) (p : Ptr) (old m new : Memory) → slice_get words at ≡ Some p → new ≡ with_word m at p → (published at (drop at words) m ≡ published 0 words old) × IsArea m → (published (at + 1) (drop (at + 1) words) new ≡ published 0 words old) × IsArea new
word_put words at p old m new there is so_far =
    let next : at + 1 ≡ suc at = omega arith in (
      ap (published (at + 1) (drop (at + 1) words)) is
          ∙ ap (λ k. published (at + 1) (drop k words) (with_word m at p)) next
          ∙ ap (λ ps. published at ps m) (sym (drop_first words at p there))
          ∙ so_far.0,
      subst IsArea (sym is) so_far.1,
    )

-- there is a word at each place before the end
pub no_end : (xs : List Ptr) (at : ℕ) → at < length xs → ((p : Ptr) → slice_get xs at ≡ Some p → ⊥) → ⊥
no_end [] at low none = omega arith
no_end (x ∷ xs) zero low none = none x refl
no_end (x ∷ xs) (suc at) low none = no_end xs at (omega arith) none
