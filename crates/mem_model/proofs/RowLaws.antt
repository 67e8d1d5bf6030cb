-- What rows and a tree keep under a name is what their entries give for it.
use Rattle.std.proofs.Common.{◌≡◌, ℕ, zero, suc, List, [], ◌∷◌, ◌++◌, Bool, true, false, cond, Option, Some, None, Result, Ok, Err, refl, sym, ap, ◌∙◌, Bor, MutBor}
use Rattle.std.specs.Prelude.{is_some, IsSome, MatchResult}
use Rattle.std.specs.Option.{option_copied, OnSome}
use Rattle.std.specs.FinMap as fin
use Rattle.std.proofs.lemmas.Bool.{false_from_ne_true, false≢true}
use Rattle.mem_model.specs.declared.memory.BlockName.{BlockName}
use Rattle.mem_model.specs.declared.memory.BlockName.TheVariants.{Arg, Global, Heap, Stack, Captures, Code}
use Rattle.mem_model.specs.declared.block.Block.{Block}
use Rattle.mem_model.specs.declared.blocks.Blocks.{Blocks}
use Rattle.mem_model.specs.Blocks.{same_block}
use Rattle.mem_model.specs.Orders.{block_equiv}
use Rattle.mem_model.specs.Kept.{memory_of}
use Rattle.mem_model.specs.Memory.{Memory, no_blocks, with_block}
use Rattle.mem_model.specs.Rows.{in_slots, IsEmpty, block_in, HasPut, SameBlocks, row_entries, is_counted, uncounted, entries_of}
use Rattle.mem_model.proofs.Orders.{block_same}
use Rattle.mem_model.proofs.KeptLaws.{found, memory_of_none}
use Rattle.mem_model.proofs.Changes.{Replaced, nothing_changes}
use Rattle.mem_model.proofs.Calls.{made, holds_block}

-- names that differ don't compare alike
differ : (a b : BlockName) → (a ≡ b → ⊥) → same_block a b ≡ false
differ a b unlike = false_from_ne_true (same_block a b) (λ e. unlike (block_same a b e))

-- ---- one row

-- a name that is none of the row's is looked for behind it
past_row : (kind : ℕ → BlockName) (slots : List (Option Block)) (rest : List (BlockName × Block)) (q : BlockName) → ((n : ℕ) → same_block q (kind n) ≡ false) → found q (row_entries kind slots ++ rest) ≡ found q rest
past_row kind [] rest q unlike = refl
past_row kind (None ∷ slots) rest q unlike = past_row (λ n. kind (suc n)) slots rest q (λ n. unlike (suc n))
past_row kind (Some b ∷ slots) rest q unlike =
    ap (λ t. cond t (Some b) (found q (row_entries (λ n. kind (suc n)) slots ++ rest))) (unlike zero) ∙ past_row (λ n. kind (suc n)) slots rest q (λ n. unlike (suc n))

abbrev TellsApart : (ℕ → BlockName) → Type 0
TellsApart kind = (m n : ℕ) → kind m ≡ kind n → m ≡ n

next_apart : (kind : ℕ → BlockName) → TellsApart kind → TellsApart (λ n. kind (suc n))
next_apart kind apart m n e = let same : suc m ≡ suc n = apart (suc m) (suc n) e in let z : m ≡ n = cc in z

first_apart : (kind : ℕ → BlockName) → TellsApart kind → (n : ℕ) → same_block (kind zero) (kind (suc n)) ≡ false
first_apart kind apart n = differ (kind zero) (kind (suc n)) (λ e. let same : zero ≡ suc n = apart zero (suc n) e in let f : ⊥ = cc in f)

-- a name of the row is found there
in_row : (kind : ℕ → BlockName) → TellsApart kind → (slots : List (Option Block)) (rest : List (BlockName × Block)) (n : ℕ) → found (kind n) rest ≡ None → found (kind n) (row_entries kind slots ++ rest) ≡ in_slots slots n
in_row kind apart [] rest n none = none
in_row kind apart (None ∷ slots) rest zero none = past_row (λ n. kind (suc n)) slots rest (kind zero) (first_apart kind apart) ∙ none
in_row kind apart (None ∷ slots) rest (suc n) none = in_row (λ n. kind (suc n)) (next_apart kind apart) slots rest n none
in_row kind apart (Some b ∷ slots) rest zero none = ap (λ t. cond t (Some b) (found (kind zero) (row_entries (λ n. kind (suc n)) slots ++ rest))) (block_equiv.refl (kind zero))
in_row kind apart (Some b ∷ slots) rest (suc n) none =
    ap (λ t. cond t (Some b) (found (kind (suc n)) (row_entries (λ n. kind (suc n)) slots ++ rest))) (block_equiv.symm (kind (suc n)) (kind zero) ∙ first_apart kind apart n)
    ∙ in_row (λ n. kind (suc n)) (next_apart kind apart) slots rest n none

-- ---- the tree

tree_step : (q : BlockName) (e : BlockName × Block) (rest kept : List (BlockName × Block)) (t : Bool) → is_counted e.0 ≡ t → is_counted q ≡ false → found q kept ≡ found q rest → found q (cond t kept (e ∷ kept)) ≡ found q (e ∷ rest)
tree_step q e rest kept true is not same = same ∙ sym (ap (λ s. cond s (Some e.1) (found q rest)) (differ q e.0 (λ p. false≢true (sym not ∙ ap is_counted p ∙ is))))
tree_step q e rest kept false is not same = ap (cond (same_block q e.0) (Some e.1)) same

-- a name without a count is found in the tree
in_tree : (q : BlockName) → is_counted q ≡ false → (es : List (BlockName × Block)) → found q (uncounted es) ≡ found q es
in_tree q not [] = refl
in_tree q not (e ∷ es) = tree_step q e es (uncounted es) (is_counted e.0) refl not (in_tree q not es)

none_step : (q : BlockName) (e : BlockName × Block) (kept : List (BlockName × Block)) (t : Bool) → is_counted e.0 ≡ t → is_counted q ≡ true → found q kept ≡ None → found q (cond t kept (e ∷ kept)) ≡ None
none_step q e kept true is counted none = none
none_step q e kept false is counted none = ap (λ s. cond s (Some e.1) (found q kept)) (differ q e.0 (λ p. false≢true (sym is ∙ sym (ap is_counted p) ∙ counted))) ∙ none

-- a counted name isn't
not_in_tree : (q : BlockName) → is_counted q ≡ true → (es : List (BlockName × Block)) → found q (uncounted es) ≡ None
not_in_tree q counted [] = refl
not_in_tree q counted (e ∷ es) = none_step q e (uncounted es) (is_counted e.0) refl counted (not_in_tree q counted es)

-- ---- all blocks

arg_apart : TellsApart Arg
arg_apart m n e = let z : m ≡ n = cc in z

global_apart : TellsApart Global
global_apart m n e = let z : m ≡ n = cc in z

heap_apart : TellsApart Heap
heap_apart m n e = let z : m ≡ n = cc in z

module _ (b : Blocks) where
  abbrev tree : List (BlockName × Block)
  tree = uncounted b.others.entries

  abbrev behind_globals : List (BlockName × Block)
  behind_globals = row_entries Heap b.heap.slots.items ++ tree

  abbrev behind_args : List (BlockName × Block)
  behind_args = row_entries Global b.globals.slots.items ++ behind_globals

  behind_rows : (q : BlockName) → ((n : ℕ) → same_block q (Arg n) ≡ false) → ((n : ℕ) → same_block q (Global n) ≡ false) → ((n : ℕ) → same_block q (Heap n) ≡ false) → found q (entries_of b) ≡ found q tree
  unfolding entries_of
  behind_rows q arg global heap = past_row Arg b.args.slots.items behind_args q arg ∙ past_row Global b.globals.slots.items behind_globals q global ∙ past_row Heap b.heap.slots.items tree q heap

  -- what is found under a name
  pub found_in : (q : BlockName) → found q (entries_of b) ≡ block_in b q
  unfolding entries_of
  found_in (Arg n) =
      in_row Arg arg_apart b.args.slots.items behind_args n
      (past_row Global b.globals.slots.items behind_globals (Arg n) (λ k. refl) ∙ past_row Heap b.heap.slots.items tree (Arg n) (λ k. refl) ∙ not_in_tree (Arg n) refl b.others.entries)
  found_in (Global n) =
      past_row Arg b.args.slots.items behind_args (Global n) (λ k. refl)
      ∙ in_row Global global_apart b.globals.slots.items behind_globals n (past_row Heap b.heap.slots.items tree (Global n) (λ k. refl) ∙ not_in_tree (Global n) refl b.others.entries)
  found_in (Heap n) =
      past_row Arg b.args.slots.items behind_args (Heap n) (λ k. refl)
      ∙ past_row Global b.globals.slots.items behind_globals (Heap n) (λ k. refl)
      ∙ in_row Heap heap_apart b.heap.slots.items tree n (not_in_tree (Heap n) refl b.others.entries)
  found_in (Stack t n) = behind_rows (Stack t n) (λ k. refl) (λ k. refl) (λ k. refl) ∙ in_tree (Stack t n) refl b.others.entries
  found_in Captures = behind_rows Captures (λ k. refl) (λ k. refl) (λ k. refl) ∙ in_tree Captures refl b.others.entries
  found_in (Code n) = behind_rows (Code n) (λ k. refl) (λ k. refl) (λ k. refl) ∙ in_tree (Code n) refl b.others.entries

-- ---- the memory that they are

pub memory_of_empty : (b : Blocks) → IsEmpty b → memory_of (entries_of b) ≡ no_blocks
unfolding entries_of
memory_of_empty b e = (λ i. memory_of (row_entries Arg (e.args i) ++ (row_entries Global (e.globals i) ++ (row_entries Heap (e.heap i) ++ uncounted (e.others i))))) ∙ memory_of_none

module _ (b new_b : Blocks) where
  pub same_shown : SameBlocks b new_b → memory_of (entries_of new_b) ≡ memory_of (entries_of b)
  same_shown same = nothing_changes (entries_of b) (entries_of new_b) (λ q. found_in new_b q ∙ same q ∙ sym (found_in b q))

  module _ (name : BlockName) (new : Block) (put : HasPut b name new new_b) where
    pub put_finds : (q : BlockName) → found q (entries_of new_b) ≡ cond (same_block name q) (Some new) (found q (entries_of b))
    put_finds q = found_in new_b q ∙ put q ∙ ap (cond (same_block name q) (Some new)) (sym (found_in b q))

    pub replaced : (old : Block) → block_in b name ≡ Some old → Replaced (entries_of b) (entries_of new_b) name old new
    replaced old was = record { was = found_in b name ∙ was; finds = put_finds }

    -- what a new block shows
    pub put_shown : found name (entries_of b) ≡ None → new.released ≡ false → memory_of (entries_of new_b) ≡ with_block (memory_of (entries_of b)) name new.constant new.bytes.items
    put_shown none fresh = made (entries_of b) (entries_of new_b) name new none put_finds fresh

-- the same of a call that may want memory
pub inserted : {T E : Type 0} (r : Result T E) (b new_b : Blocks) (name : BlockName) (new : Block) → found name (entries_of b) ≡ None → new.released ≡ false → MatchResult r (λ _. HasPut b name new new_b) (λ _. SameBlocks b new_b) → MatchResult r (λ _. memory_of (entries_of new_b) ≡ with_block (memory_of (entries_of b)) name new.constant new.bytes.items) (λ _. memory_of (entries_of new_b) ≡ memory_of (entries_of b))
inserted (Ok x) b new_b name new none fresh put = put_shown b new_b name new put none fresh
inserted (Err e) b new_b name new none fresh same = same_shown b new_b same

-- what holds where a look-up has found a block
pub where_found : (r : Option (MutBor Block)) (P : Type 0) → IsSome r → OnSome r P → P
where_found None P some h = absurd (false≢true some)
where_found (Some x) P some h = h

copied_is : {T : Type 0} (r : Option (Bor T)) → is_some r ≡ is_some (option_copied r)
copied_is None = refl
copied_is (Some x) = refl

-- whether a look-up has found a block
pub got : (r : Option (Bor Block)) (b : Blocks) (name : BlockName) (m : Memory) → option_copied r ≡ block_in b name → memory_of (entries_of b) ≡ m → is_some r ≡ is_some (fin.get m.blocks name)
got r b name m e is = copied_is r ∙ ap is_some (e ∙ sym (found_in b name)) ∙ holds_block (entries_of b) name m is
