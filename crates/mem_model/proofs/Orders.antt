-- The orders of blocks and places are total, and tell all of them apart.
use Rattle.std.proofs.Common.{◌≡◌, ℕ, zero, suc, true, ◌&&◌, refl, sym, ap, ◌∙◌, arith}
use Rattle.std.specs.Cmp.{IsTotalOrder}
use Rattle.std.specs.declared.cmp.Ordering.{Ordering}
use Rattle.std.specs.declared.cmp.Ordering.TheVariants.{Less, Equal, Greater}
use Rattle.std.specs.Ordering.{nat_cmp, is_eq, ordering_then}
use Rattle.std.proofs.lemmas.Bool.{and_parts}
use Rattle.std.proofs.lemmas.Bool.Decides.{nat_tests}
use Rattle.std.proofs.lemmas.Cmp.{on_total, then_total, nat_cmp_total}
use Rattle.mem_model.specs.declared.memory.BlockName.{BlockName}
use Rattle.mem_model.specs.declared.memory.BlockName.TheVariants.{Arg, Global, Heap, Stack, Captures, Code}
pub use Rattle.mem_model.specs.Orders.{block_total}
use Rattle.mem_model.specs.Blocks.{block_code, code_cmp, place_cmp, same_block}

pub place_total : IsTotalOrder place_cmp
place_total = then_total (on_total (λ (x : BlockName × ℕ). x.0) block_total) (on_total (λ (x : BlockName × ℕ). x.1) nat_cmp_total)

pub both_equal : (r s : Ordering) → is_eq (ordering_then r s) ≡ (is_eq r && is_eq s)
both_equal Less s = refl
both_equal Equal s = refl
both_equal Greater s = refl

pub number_same : (x y : ℕ) → is_eq (nat_cmp x y) ≡ true → x ≡ y
number_same x y e = grind (arith, nat_tests)

-- ---- the block with a code

block_of : ℕ × (ℕ × ℕ) → BlockName
block_of (zero, (n, k)) = Arg n
block_of (suc zero, (n, k)) = Global n
block_of (suc (suc zero), (n, k)) = Heap n
block_of (suc (suc (suc zero)), (n, k)) = Stack n k
block_of (suc (suc (suc (suc zero))), (n, k)) = Captures
block_of (suc (suc (suc (suc (suc more)))), (n, k)) = Code n

block_back : (a : BlockName) → block_of (block_code a) ≡ a
unfolding block_of
block_back (Arg n) = refl
block_back (Global n) = refl
block_back (Heap n) = refl
block_back (Stack t n) = refl
block_back Captures = refl
block_back (Code n) = refl

code_same : (x y : ℕ × (ℕ × ℕ)) → is_eq (code_cmp x y) ≡ true → x ≡ y
code_same x y e = codes (number_same x.0 y.0 parts.0) (number_same x.1.0 y.1.0 more.0) (number_same x.1.1 y.1.1 more.1)
  where
    parts : (is_eq (nat_cmp x.0 y.0) ≡ true) × (is_eq (ordering_then (nat_cmp x.1.0 y.1.0) (nat_cmp x.1.1 y.1.1)) ≡ true)
    parts = and_parts _ _ (sym (both_equal (nat_cmp x.0 y.0) _) ∙ e)

    more : (is_eq (nat_cmp x.1.0 y.1.0) ≡ true) × (is_eq (nat_cmp x.1.1 y.1.1) ≡ true)
    more = and_parts _ _ (sym (both_equal (nat_cmp x.1.0 y.1.0) _) ∙ parts.1)

    codes : x.0 ≡ y.0 → x.1.0 ≡ y.1.0 → x.1.1 ≡ y.1.1 → x ≡ y
    codes p q r = λ i. (p i, (q i, r i))

pub block_same : (a b : BlockName) → same_block a b ≡ true → a ≡ b
block_same a b e = sym (block_back a) ∙ ap block_of (code_same (block_code a) (block_code b) e) ∙ block_back b
