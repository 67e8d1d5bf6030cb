-- The order of block names is total, and equality of pointers is an equivalence.
use Rattle.std.specs.Prelude.{◌≡◌, ℕ, true, ◌&&◌, refl}
use Rattle.std.proofs.Common.{ap, ◌∙◌}
use Rattle.std.proofs.lemmas.Bool.{and_parts, false≢true}
use Rattle.std.specs.Cmp.{IsTotalOrder, IsEquivalence, on_total, then_total, nat_cmp_total, eq_by_cmp_equiv, int_eq_equiv, nat_eq_equiv}
use Rattle.std.specs.Ordering.{int_eq}
use Rattle.mem_model.specs.declared.memory.Ptr.{Ptr}
use Rattle.mem_model.specs.declared.memory.Ptr.TheVariants.{Num, At}
use Rattle.mem_model.specs.Blocks.{block_code, code_cmp, block_cmp, same_block, same_ptr}

pub code_total : IsTotalOrder code_cmp
code_total = then_total (on_total (λ (x : ℕ × (ℕ × ℕ)). x.0) nat_cmp_total) (then_total (on_total (λ (x : ℕ × (ℕ × ℕ)). x.1.0) nat_cmp_total) (on_total (λ (x : ℕ × (ℕ × ℕ)). x.1.1) nat_cmp_total))

pub block_total : IsTotalOrder block_cmp
block_total = on_total block_code code_total

pub block_equiv : IsEquivalence same_block
block_equiv = eq_by_cmp_equiv block_total

ptr_refl : (p : Ptr) → same_ptr p p ≡ true
ptr_refl (Num n) = nat_eq_equiv.refl n
ptr_refl (At a i) = ap (λ t. t && int_eq i i) (block_equiv.refl a) ∙ int_eq_equiv.refl i

ptr_symm : (p q : Ptr) → same_ptr p q ≡ same_ptr q p
ptr_symm (Num m) (Num n) = nat_eq_equiv.symm m n
ptr_symm (Num m) (At b j) = refl
ptr_symm (At a i) (Num n) = refl
ptr_symm (At a i) (At b j) = λ k. block_equiv.symm a b k && int_eq_equiv.symm i j k

ptr_congr : (p q r : Ptr) → same_ptr p q ≡ true → same_ptr p r ≡ same_ptr q r
ptr_congr (Num l) (Num m) (Num n) e = nat_eq_equiv.congr l m n e
ptr_congr (Num l) (Num m) (At c k) e = refl
ptr_congr (Num l) (At b j) r e = absurd (false≢true e)
ptr_congr (At a i) (Num m) r e = absurd (false≢true e)
ptr_congr (At a i) (At b j) (Num n) e = refl
ptr_congr (At a i) (At b j) (At c k) e = parts (and_parts (same_block a b) (int_eq i j) e)
  where
    parts : (same_block a b ≡ true) × (int_eq i j ≡ true) → (same_block a c && int_eq i k) ≡ (same_block b c && int_eq j k)
    parts q = λ t. block_equiv.congr a b c q.0 t && int_eq_equiv.congr i j k q.1 t

pub ptr_equiv : IsEquivalence same_ptr
ptr_equiv = record { refl = ptr_refl; symm = ptr_symm; congr = ptr_congr }
