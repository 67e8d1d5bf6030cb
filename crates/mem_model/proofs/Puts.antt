-- What a change of one row, or of the tree, is for all blocks.
use Rattle.std.proofs.Common.{◌≡◌, ℕ, zero, suc, ◌<◌, List, [], ◌∷◌, length, slice_set, true, false, cond, Option, Some, None, ◌⊎◌, inl, inr, MutBor, refl, sym, ap, ◌∙◌, subst, arith}
use Rattle.std.specs.Prelude.{nat_eq, IsSome}
use Rattle.std.specs.Option.{OnSome, option_copied_mut}
use Rattle.std.specs.BTreeMap.{BTreeMap}
use Rattle.std.specs.Ordering.{nat_cmp, is_eq, ordering_then}
use Rattle.std.specs.declared.cmp.Ordering.{Ordering}
use Rattle.std.specs.declared.cmp.Ordering.TheVariants.{Less, Equal, Greater}
use Rattle.std.proofs.Math.Dec.{eqb-zero-suc, eqb-suc-zero, eqb-suc-suc}
use Rattle.std.proofs.lemmas.Bool.{false_from_ne_true, false≢true}
use Rattle.std.proofs.lemmas.Bool.Decides.{nat_tests}
use Rattle.mem_model.specs.declared.memory.BlockName.{BlockName}
use Rattle.mem_model.specs.declared.memory.BlockName.TheVariants.{Arg, Global, Heap, Stack, Captures, Code}
use Rattle.mem_model.specs.declared.block.Block.{Block}
use Rattle.mem_model.specs.declared.blocks.Row.{Row}
use Rattle.mem_model.specs.declared.blocks.Blocks.{Blocks}
use Rattle.mem_model.specs.Blocks.{same_block}
use Rattle.mem_model.specs.Rows.{in_slots, Puts, SameSlots, block_in, HasPut, SameBlocks, is_counted}
use Rattle.mem_model.proofs.Orders.{block_same}
use Rattle.mem_model.proofs.KeptLaws.{found}

-- ---- numbers

number_test : (m n : ℕ) → nat_eq m n ≡ is_eq (nat_cmp m n)
number_test m n = grind (arith, nat_tests)

no_more : (r : Ordering) → is_eq r ≡ is_eq (ordering_then r Equal)
no_more Less = refl
no_more Equal = refl
no_more Greater = refl

same_number : (m n : ℕ) → nat_eq m n ≡ is_eq (ordering_then (nat_cmp m n) Equal)
same_number m n = number_test m n ∙ no_more (nat_cmp m n)

-- a row compares numbers, and names compare their codes
at_number : (b : Block) (was : Option Block) (m n : ℕ) → cond (nat_eq m n) (Some b) was ≡ cond (is_eq (ordering_then (nat_cmp m n) Equal)) (Some b) was
at_number b was m n = ap (λ t. cond t (Some b) was) (same_number m n)

-- what follows where a look-up has found something
pub if_some : {A : Type 0} (r : Option A) (P Q : Type 0) → (P → Q) → OnSome r P → OnSome r Q
if_some None P Q f h = tt
if_some (Some x) P Q f h = f h

-- ---- a row

-- a slot that is set
pub set_puts : (slots : List (Option Block)) (n : ℕ) (w : Block) → n < length slots → Puts slots n w (slice_set slots n (Some w))
set_puts [] n w lt k = absurd (omega arith)
set_puts (s ∷ slots) zero w lt zero = refl
set_puts (s ∷ slots) zero w lt (suc k) = ap (λ t. cond t (Some w) (in_slots slots k)) (sym (eqb-zero-suc k))
set_puts (s ∷ slots) (suc n) w lt zero = ap (λ t. cond t (Some w) s) (sym (eqb-suc-zero n))
set_puts (s ∷ slots) (suc n) w lt (suc k) = set_puts slots n w (omega arith) k ∙ ap (λ t. cond t (Some w) (in_slots slots k)) (sym (eqb-suc-suc n k))

module _ (b : Blocks) (row : Row) (name : BlockName) (n : ℕ) where
  module _ (w : Block) where
    arg_is : Puts b.args.slots.items n w row.slots.items → HasPut b (Arg n) w (record b { args = row })
    arg_is puts (Arg k) = puts k ∙ at_number w (in_slots b.args.slots.items k) n k
    arg_is puts (Global k) = refl
    arg_is puts (Heap k) = refl
    arg_is puts (Stack t k) = refl
    arg_is puts Captures = refl
    arg_is puts (Code k) = refl

    global_is : Puts b.globals.slots.items n w row.slots.items → HasPut b (Global n) w (record b { globals = row })
    global_is puts (Arg k) = refl
    global_is puts (Global k) = puts k ∙ at_number w (in_slots b.globals.slots.items k) n k
    global_is puts (Heap k) = refl
    global_is puts (Stack t k) = refl
    global_is puts Captures = refl
    global_is puts (Code k) = refl

    heap_is : Puts b.heap.slots.items n w row.slots.items → HasPut b (Heap n) w (record b { heap = row })
    heap_is puts (Arg k) = refl
    heap_is puts (Global k) = refl
    heap_is puts (Heap k) = puts k ∙ at_number w (in_slots b.heap.slots.items k) n k
    heap_is puts (Stack t k) = refl
    heap_is puts Captures = refl
    heap_is puts (Code k) = refl

    pub arg_put : name ≡ Arg n → Puts b.args.slots.items n w row.slots.items → HasPut b name w (record b { args = row })
    arg_put is puts = subst (λ x. HasPut b x w (record b { args = row })) (sym is) (arg_is puts)

    pub global_put : name ≡ Global n → Puts b.globals.slots.items n w row.slots.items → HasPut b name w (record b { globals = row })
    global_put is puts = subst (λ x. HasPut b x w (record b { globals = row })) (sym is) (global_is puts)

    pub heap_put : name ≡ Heap n → Puts b.heap.slots.items n w row.slots.items → HasPut b name w (record b { heap = row })
    heap_put is puts = subst (λ x. HasPut b x w (record b { heap = row })) (sym is) (heap_is puts)

module _ (b : Blocks) (row : Row) where
  pub args_same : SameSlots b.args.slots.items row.slots.items → SameBlocks b (record b { args = row })
  args_same same (Arg k) = same k
  args_same same (Global k) = refl
  args_same same (Heap k) = refl
  args_same same (Stack t k) = refl
  args_same same Captures = refl
  args_same same (Code k) = refl

  pub globals_same : SameSlots b.globals.slots.items row.slots.items → SameBlocks b (record b { globals = row })
  globals_same same (Arg k) = refl
  globals_same same (Global k) = same k
  globals_same same (Heap k) = refl
  globals_same same (Stack t k) = refl
  globals_same same Captures = refl
  globals_same same (Code k) = refl

  pub heap_same : SameSlots b.heap.slots.items row.slots.items → SameBlocks b (record b { heap = row })
  heap_same same (Arg k) = refl
  heap_same same (Global k) = refl
  heap_same same (Heap k) = same k
  heap_same same (Stack t k) = refl
  heap_same same Captures = refl
  heap_same same (Code k) = refl

-- ---- the tree

-- the names that the tree is for
pub not_counted : (name : BlockName) → ((t : ℕ) × (n : ℕ) × (name ≡ Stack t n)) ⊎ ((name ≡ Captures) ⊎ ((n : ℕ) × (name ≡ Code n))) → is_counted name ≡ false
not_counted name (inl stack) = ap is_counted stack.2
not_counted name (inr (inl captures)) = ap is_counted captures
not_counted name (inr (inr code)) = ap is_counted code.1

pub tree_has : (b : Blocks) (name : BlockName) → is_counted name ≡ false → found name b.others.entries ≡ block_in b name
tree_has b (Arg n) not = absurd (false≢true (sym not))
tree_has b (Global n) not = absurd (false≢true (sym not))
tree_has b (Heap n) not = absurd (false≢true (sym not))
tree_has b (Stack t n) not = refl
tree_has b Captures not = refl
tree_has b (Code n) not = refl

module _ (b : Blocks) (tree : BTreeMap BlockName Block) where
  pub tree_same : tree ≡ b.others → SameBlocks b (record b { others = tree })
  tree_same same q = ap (λ t. block_in (record b { others = t }) q) same

  pub tree_same_entries : tree.entries ≡ b.others.entries → SameBlocks b (record b { others = tree })
  tree_same_entries same (Arg k) = refl
  tree_same_entries same (Global k) = refl
  tree_same_entries same (Heap k) = refl
  tree_same_entries same (Stack t k) = ap (found (Stack t k)) same
  tree_same_entries same Captures = ap (found Captures) same
  tree_same_entries same (Code k) = ap (found (Code k)) same

  module _ (name : BlockName) (w : Block) (not : is_counted name ≡ false) (finds : (q : BlockName) → found q tree.entries ≡ cond (same_block name q) (Some w) (found q b.others.entries)) where
    other : (q : BlockName) → is_counted q ≡ true → block_in b q ≡ cond (same_block name q) (Some w) (block_in b q)
    other q counted = sym (ap (λ t. cond t (Some w) (block_in b q)) (false_from_ne_true (same_block name q) (λ e. false≢true (sym not ∙ ap is_counted (block_same name q e) ∙ counted))))

    pub tree_put : HasPut b name w (record b { others = tree })
    tree_put (Arg k) = other (Arg k) refl
    tree_put (Global k) = other (Global k) refl
    tree_put (Heap k) = other (Heap k) refl
    tree_put (Stack t k) = finds (Stack t k)
    tree_put Captures = finds Captures
    tree_put (Code k) = finds (Code k)

  -- the same where a look-up has found the block
  pub tree_lent : (r : Option (MutBor Block)) (name : BlockName) (w : Block) → is_counted name ≡ false → option_copied_mut r ≡ found name b.others.entries → (IsSome (found name b.others.entries) → (q : BlockName) → found q tree.entries ≡ cond (same_block name q) (Some w) (found q b.others.entries)) → OnSome r (HasPut b name w (record b { others = tree }))
  tree_lent None name w not was finds = tt
  tree_lent (Some x) name w not was finds = tree_put name w not (finds (subst (λ o. IsSome o) was refl))
