-- What a call on kept blocks answers is what the definition says of the memory that they are.
use Rattle.std.proofs.Common.{◌≡◌, ℕ, zero, suc, ◌+◌, ◌-◌, ◌<◌, ◌≤◌, List, [], ◌∷◌, length, take, drop, get_or, ℤ, pos, negsuc, Bool, true, false, cond, ◌&&◌, Option, Some, None, Result, Ok, Err, refl, sym, ap, ◌∙◌, subst, arith, replicate, ◌⊎◌, inl, inr}
use Rattle.std.specs.Prelude.{option_map, slice_get, if◌then◌else◌, IsSome, is_some, nat_le}
use Rattle.std.specs.FinMap as fin
use Rattle.std.specs.FinMap.{get-empty}
use Rattle.std.proofs.lemmas.Bool.{cases_lt, false≢true, leb-true, le-leb}
use Rattle.std.proofs.lemmas.Bool.Decides.{nat_tests}
use Rattle.std.proofs.lemmas.List.{drop_more, take_all}
use Rattle.std.proofs.lemmas.Option.{slice_get_past, slice_get-get_or}
use Rattle.ir_core.specs.declared.answers.Or.TheVariants.{Refused}
use Rattle.mem_model.specs.declared.memory.BlockName.{BlockName}
use Rattle.mem_model.specs.declared.memory.BlockName.TheVariants.{Arg, Global, Heap, Stack, Captures, Code}
use Rattle.mem_model.specs.declared.memory.Ptr.{Ptr}
use Rattle.mem_model.specs.declared.memory.Ptr.TheVariants.{Num as Number, At}
use Rattle.mem_model.specs.declared.memory.Byte.{Byte}
use Rattle.mem_model.specs.declared.memory.Byte.TheVariants.{Num}
use Rattle.mem_model.specs.declared.memory.Word.{Word}
use Rattle.mem_model.specs.declared.memory.Word.TheVariants.{Int, Ptr as Address}
use Rattle.mem_model.specs.declared.memory.Cell.{Cell}
use Rattle.mem_model.specs.declared.memory.Cell.TheVariants.{Int as IntCell, Ptr as PtrCell}
use Rattle.mem_model.specs.declared.block.Block.{Block}
use Rattle.mem_model.specs.declared.step.Trap.{Trap}
use Rattle.mem_model.specs.declared.step.Trap.TheVariants.{NoBlock, Released, OutOfBlock, Constant, TooLarge}
use Rattle.mem_model.specs.Blocks.{block_cmp, same_block}
use Rattle.mem_model.specs.Orders.{block_equiv}
use Rattle.mem_model.specs.Words.{cell_size, word_bytes, word_in}
use Rattle.mem_model.specs.Memory.{Memory, no_blocks, Header, Given, Shares, Leaks, unless, then_unless, access, byte_or_zero, bytes_at, put_bytes, load_from, store_to, with_block, header_size, is_all, release_header, block_limit, Load, Store, Allocate, Release}
use Rattle.mem_model.specs.Kept.{header_of, memory_of, word_at, IsOverwritten, IsWritten, released_by, IsReleased}
use Rattle.mem_model.specs.Answers.{IsOf, IsDone, IsMade, only_trap, with_byte}
use Rattle.mem_model.specs.Thread.{given_of}
use Rattle.mem_model.proofs.Orders.{block_same}
use Rattle.mem_model.proofs.WordLaws.{number_length}
use Rattle.mem_model.proofs.StoreLaws.{put_apart}
use Rattle.mem_model.proofs.BlockLaws.{header_here, header_apart}
use Rattle.mem_model.proofs.KeptLaws.{found, byte_in, blocks_get, bytes_get, put_at, memory_is}
use Rattle.mem_model.proofs.Changes.{Replaced, here, finds_new, finds_old, stays, overwritten}

-- ---- reads

-- an access that goes lies in its block
lies : (released within fails : Bool) (place o : ℕ) → unless released Released (then_unless (if within then Ok place else Err OutOfBlock) fails Constant) ≡ Ok o → (within ≡ true) × (o ≡ place)
lies true within fails place o e = absurd (let f : ⊥ = cc in f)
lies false false fails place o e = absurd (let f : ⊥ = cc in f)
lies false true true place o e = absurd (let f : ⊥ = cc in f)
lies false true false place o e = (refl, (let q : o ≡ place = cc in q))

nowhere : (released fails : Bool) (o : ℕ) → unless released Released (then_unless (Err OutOfBlock) fails Constant) ≡ Ok o → ⊥
nowhere true fails o e = let f : ⊥ = cc in f
nowhere false fails o e = let f : ⊥ = cc in f

pub access_fits : (b : Block) (offset : ℤ) (count : ℕ) (writes : Bool) (o : ℕ) → access (Some (header_of b)) offset count writes ≡ Ok o → o + count ≤ length b.bytes.items
access_fits b (pos place) count writes o e =
    let h = lies b.released (nat_le (place + count) (length b.bytes.items)) (writes && b.constant) place o e in
    let le = leb-true (place + count) (length b.bytes.items) h.0 in
    let same = h.1 in
    omega arith
access_fits b (negsuc place) count writes o e = absurd (nowhere b.released (writes && b.constant) o e)

pub bytes_held : (m : Memory) (q : BlockName) (items : List Byte) → ((i : ℕ) → fin.get m.bytes (q, i) ≡ slice_get items i) → (k count : ℕ) → k + count ≤ length items → bytes_at m q k count ≡ take count (drop k items)
bytes_held m q items holds k zero le = refl
bytes_held m q items holds k (suc count) le =
    (λ i. byte_or_zero (one i) ∷ bytes_held m q items holds (k + 1) count (omega arith) i) ∙ ap (take (suc count)) (sym (drop_more items k (Num 0) (omega arith)))
  where
    one : fin.get m.bytes (q, k) ≡ Some (get_or items k (Num 0))
    one = holds k ∙ slice_get-get_or items k (Num 0) (omega arith)

module _ (es : List (BlockName × Block)) (name : BlockName) (b : Block) (was : found name es ≡ Some b) where
  pub header_is : fin.get (memory_of es).blocks name ≡ Some (header_of b)
  header_is = blocks_get es name ∙ ap (option_map header_of) was

  pub byte_is : (i : ℕ) → fin.get (memory_of es).bytes (name, i) ≡ slice_get b.bytes.items i
  byte_is i = bytes_get es name i ∙ ap (λ o. byte_in o i) was

  reads : (cell : Cell) (r : Result ℕ Trap) → ((o : ℕ) → r ≡ Ok o → o + cell_size cell ≤ length b.bytes.items) → word_at cell b.bytes.items r ≡ load_from (memory_of es) name cell r
  reads cell (Err trap) fits = refl
  reads cell (Ok o) fits = ap (word_in cell) (sym (bytes_held (memory_of es) name b.bytes.items byte_is o (cell_size cell) (fits o refl)))

  pub kept_load : (offset : ℤ) (cell : Cell) → word_at cell b.bytes.items (access (Some (header_of b)) offset (cell_size cell) false) ≡ Load (memory_of es) (At name offset) cell
  kept_load offset cell =
      reads cell (access (Some (header_of b)) offset (cell_size cell) false) (access_fits b offset (cell_size cell) false)
      ∙ ap (λ h. load_from (memory_of es) name cell (access h offset (cell_size cell) false)) (sym header_is)

  kept_bytes_shown : b.bytes.items ≡ bytes_at (memory_of es) name 0 (header_size (fin.get (memory_of es).blocks name))
  kept_bytes_shown =
      sym (bytes_held (memory_of es) name b.bytes.items byte_is 0 (length b.bytes.items) (omega arith) ∙ take_all (length b.bytes.items) b.bytes.items (omega arith))
      ∙ ap (λ h. bytes_at (memory_of es) name 0 (header_size h)) (sym header_is)

pub no_header : (es : List (BlockName × Block)) (name : BlockName) → found name es ≡ None → fin.get (memory_of es).blocks name ≡ None
no_header es name none = blocks_get es name ∙ ap (option_map header_of) none

pub load_none : (es : List (BlockName × Block)) (name : BlockName) (offset : ℤ) (cell : Cell) → found name es ≡ None → ◌≡◌ {A = Result Word Trap} (Err NoBlock) (Load (memory_of es) (At name offset) cell)
load_none es name offset cell none = ap (λ h. load_from (memory_of es) name cell (access h offset (cell_size cell) false)) (sym (no_header es name none))

-- ---- writes

only_of : (m : Memory) (name : BlockName) (cell : Cell) (word : Word) (r : Result ℕ Trap) → only_trap r ≡ only_trap (store_to m name cell (Shares word) r)
only_of m name cell word (Err e) = refl
only_of m name cell word (Ok o) = refl

pub kept_reach : (es : List (BlockName × Block)) (name : BlockName) (b : Block) → found name es ≡ Some b → (offset : ℤ) (cell : Cell) (word : Word) → only_trap (access (Some (header_of b)) offset (cell_size cell) true) ≡ only_trap (Store (memory_of es) (At name offset) cell (Shares word))
kept_reach es name b was offset cell word =
    ap (λ h. only_trap (access h offset (cell_size cell) true)) (sym (header_is es name b was)) ∙ only_of (memory_of es) name cell word (access (fin.get (memory_of es).blocks name) offset (cell_size cell) true)

word_room : (cell : Cell) (word : Word) → IsOf cell word → length (word_bytes cell word) ≡ cell_size cell
word_room (IntCell width) (Int n) h = number_length (cell_size (IntCell width)) n
word_room (IntCell width) (Address p) h = absurd h
word_room PtrCell (Int n) h = absurd h
word_room PtrCell (Address (Number n)) h = number_length 8 n
word_room PtrCell (Address (At block offset)) h = refl

pub shared_word : (word given : Word) → given_of word ≡ Shares given → given ≡ word
shared_word (Int n) given e = let q : given ≡ Int n = cc in q
shared_word (Address (Number n)) given e = let q : given ≡ Address (Number n) = cc in q
shared_word (Address (At (Arg n) offset)) given e = let q : given ≡ Address (At (Arg n) offset) = cc in q
shared_word (Address (At (Global n) offset)) given e = let q : given ≡ Address (At (Global n) offset) = cc in q
shared_word (Address (At (Heap n) offset)) given e = let q : given ≡ Address (At (Heap n) offset) = cc in q
shared_word (Address (At (Stack t n) offset)) given e = absurd (let f : ⊥ = cc in f)
shared_word (Address (At Captures offset)) given e = let q : given ≡ Address (At Captures offset) = cc in q
shared_word (Address (At (Code n) offset)) given e = let q : given ≡ Address (At (Code n) offset) = cc in q

given_room : (cell : Cell) (word given : Word) → IsOf cell word → given_of word ≡ Shares given → length (word_bytes cell given) ≡ cell_size cell
given_room cell word given holds e = ap (λ w. length (word_bytes cell w)) (shared_word word given e) ∙ word_room cell word holds

pub store_none : (es : List (BlockName × Block)) (name : BlockName) (offset : ℤ) (cell : Cell) (given : Given) → found name es ≡ None → Store (memory_of es) (At name offset) cell given ≡ Err NoBlock
store_none es name offset cell given none = ap (λ h. store_to (memory_of es) name cell given (access h offset (cell_size cell) true)) (no_header es name none)

release_is : (es : List (BlockName × Block)) (name : BlockName) (n : ℕ) → name ≡ Heap n → (offset : ℤ) (count : ℕ) (h : Header) → fin.get (memory_of es).blocks name ≡ Some h → Release (memory_of es) (At name offset) count ≡ release_header (memory_of es) name offset count (Some h)
release_is es name n heap offset count h is =
    ap (λ x. Release (memory_of es) (At x offset) count) heap ∙ sym (ap (λ x. release_header (memory_of es) x offset count (fin.get (memory_of es).blocks x)) heap) ∙ ap (release_header (memory_of es) name offset count) is

pub release_none : (es : List (BlockName × Block)) (name : BlockName) (n : ℕ) → name ≡ Heap n → (offset : ℤ) (count : ℕ) → found name es ≡ None → Release (memory_of es) (At name offset) count ≡ Err NoBlock
release_none es name n heap offset count none =
    ap (λ x. Release (memory_of es) (At x offset) count) heap ∙ sym (ap (λ x. release_header (memory_of es) x offset count (fin.get (memory_of es).blocks x)) heap) ∙ ap (release_header (memory_of es) name offset count) (no_header es name none)

module _ (es new_es : List (BlockName × Block)) (name : BlockName) (old new : Block) (r : Replaced es new_es name old new) where
  stores : {U : Type 0} (cell : Cell) (given : Given) (result : Result U Trap) (at : Result ℕ Trap) → ((o : ℕ) → at ≡ Ok o → o + cell_size cell ≤ length old.bytes.items) → ((word : Word) → given ≡ Shares word → length (word_bytes cell word) ≡ cell_size cell) → IsWritten at cell given old new result → IsDone (store_to (memory_of es) name cell given at) (memory_of es) (memory_of new_es) result
  stores cell given result (Err trap) fits room h = (h.0, stays es new_es name old new r h.1)
  stores cell Leaks result (Ok o) fits room h = (h.0, stays es new_es name old new r h.1)
  stores cell (Shares word) result (Ok o) fits room h =
      let size = room word refl in
      let le = fits o refl in
      (h.0, overwritten es new_es name old new r o (word_bytes cell word) h.1 (omega arith))

  pub kept_store : {U : Type 0} (offset : ℤ) (cell : Cell) (word : Word) (result : Result U Trap) → IsOf cell word → IsWritten (access (Some (header_of old)) offset (cell_size cell) true) cell (given_of word) old new result → IsDone (Store (memory_of es) (At name offset) cell (given_of word)) (memory_of es) (memory_of new_es) result
  kept_store offset cell word result holds h =
      subst (λ x. IsDone (store_to (memory_of es) name cell (given_of word) (access x offset (cell_size cell) true)) (memory_of es) (memory_of new_es) result) (sym (header_is es name old r.was))
      (stores cell (given_of word) result (access (Some (header_of old)) offset (cell_size cell) true) (access_fits old offset (cell_size cell) true) (λ given e. given_room cell word given holds e) h)

  pub kept_set : (at : ℕ) (byte : Byte) → at < length old.bytes.items → IsOverwritten old at (byte ∷ []) new → memory_of new_es ≡ with_byte (memory_of es) name at byte
  kept_set at byte lt h = overwritten es new_es name old new r at (byte ∷ []) h (omega arith)

  -- ---- a block that is released

  marked : (h : Header) → new.bytes.items ≡ old.bytes.items → header_of new ≡ h → memory_of new_es ≡ record (memory_of es) { blocks = fin.insert (memory_of es).blocks name h }
  marked h items is = memory_is new_es (record (memory_of es) { blocks = fin.insert (memory_of es).blocks name h }) (λ q. header q (same_block name q) refl) (λ q i. byte q i (same_block name q) refl)
    where
      header : (q : BlockName) (t : Bool) → same_block name q ≡ t → option_map header_of (found q new_es) ≡ fin.get (fin.insert (memory_of es).blocks name h) q
      header q true same = ap (option_map header_of) (finds_new es new_es name old new r q same) ∙ ap (λ (x : Header). Some x) is ∙ sym (ap (fin.get (fin.insert (memory_of es).blocks name h)) (sym (block_same name q same)) ∙ header_here (memory_of es).blocks name h)
      header q false same = ap (option_map header_of) (finds_old es new_es name old new r q same) ∙ sym (blocks_get es q) ∙ sym (header_apart (memory_of es).blocks name q h (λ e. false≢true (sym same ∙ ap (same_block name) e ∙ block_equiv.refl name)))

      byte : (q : BlockName) (i : ℕ) (t : Bool) → same_block name q ≡ t → byte_in (found q new_es) i ≡ fin.get (memory_of es).bytes (q, i)
      byte q i true same = ap (λ b. byte_in b i) (finds_new es new_es name old new r q same) ∙ ap (λ xs. slice_get xs i) items ∙ sym (ap (λ b. byte_in b i) (here es new_es name old new r q same)) ∙ sym (bytes_get es q i)
      byte q i false same = ap (λ b. byte_in b i) (finds_old es new_es name old new r q same) ∙ sym (bytes_get es q i)

  releases : {U : Type 0} (released whole : Bool) (result : Result U Trap) → released_by released whole old new result → IsDone (if released then Err Released else if whole then Ok (record (memory_of es) { blocks = fin.insert (memory_of es).blocks name (record (header_of old) { released = true }) }) else Err OutOfBlock) (memory_of es) (memory_of new_es) result
  releases true whole result h = (h.0, stays es new_es name old new r h.1)
  releases false false result h = (h.0, stays es new_es name old new r h.1)
  releases false true result h = (h.0, marked (record (header_of old) { released = true }) h.1 h.2)

  pub kept_release : {U : Type 0} (n : ℕ) → name ≡ Heap n → (offset : ℤ) (count : ℕ) (result : Result U Trap) → IsReleased count offset old new result → IsDone (Release (memory_of es) (At name offset) count) (memory_of es) (memory_of new_es) result
  kept_release n heap offset count result h =
      subst (λ x. IsDone x (memory_of es) (memory_of new_es) result) (sym (release_is es name n heap offset count (header_of old) (header_is es name old r.was)))
      (releases old.released (is_all (length old.bytes.items) offset count) result h)

-- ---- a block that is made

pub made : (es new_es : List (BlockName × Block)) (name : BlockName) (new : Block) → found name es ≡ None → ((q : BlockName) → found q new_es ≡ cond (same_block name q) (Some new) (found q es)) → new.released ≡ false → memory_of new_es ≡ with_block (memory_of es) name new.constant new.bytes.items
made es new_es name new none finds fresh = memory_is new_es (with_block (memory_of es) name new.constant new.bytes.items) (λ q. header q (same_block name q) refl) (λ q i. byte q i (same_block name q) refl)
  where
    h : Header
    h = record { size = length new.bytes.items; constant = new.constant; released = false }

    own : (q : BlockName) → same_block name q ≡ true → found q new_es ≡ Some new
    own q same = finds q ∙ ap (λ t. cond t (Some new) (found q es)) same

    other : (q : BlockName) → same_block name q ≡ false → found q new_es ≡ found q es
    other q same = finds q ∙ ap (λ t. cond t (Some new) (found q es)) same

    apart : (q : BlockName) → same_block name q ≡ false → q ≡ name → ⊥
    apart q same e = false≢true (sym same ∙ ap (same_block name) e ∙ block_equiv.refl name)

    header : (q : BlockName) (t : Bool) → same_block name q ≡ t → option_map header_of (found q new_es) ≡ fin.get (fin.insert (memory_of es).blocks name (record { size = length new.bytes.items; constant = new.constant; released = false })) q
    header q true same = ap (option_map header_of) (own q same) ∙ ap (λ b. Some (record { size = length new.bytes.items; constant = new.constant; released = b })) fresh ∙ sym (ap (fin.get (fin.insert (memory_of es).blocks name h)) (sym (block_same name q same)) ∙ header_here (memory_of es).blocks name h)
    header q false same = ap (option_map header_of) (other q same) ∙ sym (blocks_get es q) ∙ sym (header_apart (memory_of es).blocks name q h (apart q same))

    was_none : (i : ℕ) → fin.get (memory_of es).bytes (name, i) ≡ None
    was_none i = bytes_get es name i ∙ ap (λ b. byte_in b i) none

    inside : (i : ℕ) → (i < length new.bytes.items) ⊎ (length new.bytes.items ≤ i) → slice_get new.bytes.items i ≡ fin.get (put_bytes (memory_of es).bytes name 0 new.bytes.items) (name, i)
    inside i (inl lt) = sym (put_at (memory_of es).bytes name 0 new.bytes.items i (omega arith) (omega arith) ∙ ap (slice_get new.bytes.items) (let z : i - 0 ≡ i = omega arith in z))
    inside i (inr le) = slice_get_past new.bytes.items i le ∙ sym (put_apart (memory_of es).bytes name 0 new.bytes.items name i (λ s l k. omega arith) ∙ was_none i)

    byte : (q : BlockName) (i : ℕ) (t : Bool) → same_block name q ≡ t → byte_in (found q new_es) i ≡ fin.get (put_bytes (memory_of es).bytes name 0 new.bytes.items) (q, i)
    byte q i true same = ap (λ b. byte_in b i) (own q same) ∙ inside i (cases_lt i (length new.bytes.items)) ∙ ap (λ x. fin.get (put_bytes (memory_of es).bytes name 0 new.bytes.items) (x, i)) (block_same name q same)
    byte q i false same = ap (λ b. byte_in b i) (other q same) ∙ sym (put_apart (memory_of es).bytes name 0 new.bytes.items q i (λ s l k. apart q same s) ∙ bytes_get es q i)

-- ---- one block

pub word_read : (cell : Cell) (items now : List Byte) (start size : ℕ) (r : Result ℕ Trap) → r ≡ Ok start → size ≡ cell_size cell → now ≡ items → word_in cell (take (start + size - start) (drop start now)) ≡ word_at cell items r
word_read cell items now start size r e s d =
    ap (λ k. word_in cell (take k (drop start now))) (let z : start + size - start ≡ cell_size cell = omega arith in z) ∙ ap (λ xs. word_in cell (take (cell_size cell) (drop start xs))) d ∙ ap (word_at cell items) (sym e)

-- what is done is done also where the memory, the pointer and the answer are named otherwise
pub done_along : {U : Type 0} (call : Memory → Ptr → Result Memory Trap) {m n : Memory} {p q : Ptr} {a b : Memory} {r s : Result U Trap} → m ≡ n → p ≡ q → a ≡ b → r ≡ s → IsDone (call m p) m a r → IsDone (call n q) n b s
done_along {U} call {m} {n} {p} {q} {a} {b} {r} {s} em ep ea er h =
    let first : IsDone (call n p) n a r = subst (λ x. IsDone (call x p) x a r) em h in
    let second : IsDone (call n q) n a r = subst (λ x. IsDone (call n x) n a r) ep first in
    let third : IsDone (call n q) n b r = subst (λ x. IsDone (call n q) n x r) ea second in
    subst (λ x. IsDone (call n q) n b x) er third

pub refused : {U : Type 0} (x : Result Memory Trap) (trap : Trap) (m a : Memory) (r : Result U Trap) → x ≡ Err trap → r ≡ Err trap → a ≡ m → IsDone x m a r
refused x trap m a r e f g = subst (λ y. IsDone y m a r) (sym e) (f, g)

-- ---- what is shown

abbrev shown_in : BlockName → Memory → List Byte
shown_in name m = bytes_at m name 0 (header_size (fin.get m.blocks name))

abbrev pub HasBlock : BlockName → Memory → Type 0
HasBlock name m = IsSome (fin.get m.blocks name)

pub shows : (es : List (BlockName × Block)) (name : BlockName) (b : Block) (m : Memory) → found name es ≡ Some b → memory_of es ≡ m → b.bytes.items ≡ shown_in name m
shows es name b m was is = kept_bytes_shown es name b was ∙ ap (shown_in name) is

pub shows_nothing : (es : List (BlockName × Block)) (name : BlockName) (m : Memory) → found name es ≡ None → memory_of es ≡ m → HasBlock name m → ⊥
shows_nothing es name m none is has = false≢true (subst (λ h. IsSome h) (no_header es name none) (subst (HasBlock name) (sym is) has))

has_header : (o : Option Block) → is_some o ≡ is_some (option_map header_of o)
has_header None = refl
has_header (Some b) = refl

pub holds_block : (es : List (BlockName × Block)) (name : BlockName) (m : Memory) → memory_of es ≡ m → is_some (found name es) ≡ is_some (fin.get m.blocks name)
holds_block es name m is = has_header (found name es) ∙ ap is_some (sym (blocks_get es name)) ∙ ap (λ x. is_some (fin.get x.blocks name)) is

pub new_has_none : (m : Memory) (name : BlockName) → m ≡ no_blocks → fin.get m.blocks name ≡ None
new_has_none m name e = ap (λ x. fin.get x.blocks name) e ∙ get-empty block_cmp name

-- ---- what a new block answers

no_block : (o : Option Block) → option_map header_of o ≡ None → o ≡ None
no_block None e = refl
no_block (Some b) e = absurd (let f : ⊥ = cc in f)

pub not_found : (es : List (BlockName × Block)) (name : BlockName) → fin.get (memory_of es).blocks name ≡ None → found name es ≡ None
not_found es name e = no_block (found name es) (sym (blocks_get es name) ∙ e)

pub limit_is : block_limit ≡ 1048576
unfolding block_limit
limit_is = refl

above : (a b : ℕ) → b < a → nat_le a b ≡ false
above a b lt = grind (arith, nat_tests)

pub too_large : (U : Type 0) (m : Memory) (name : BlockName) (len : ℕ) (constant : Bool) → block_limit < len → IsMade {U = U} (Allocate m name len constant) m m (Err (Refused TooLarge))
too_large U m name len constant lt = subst (λ t. IsMade {U = U} (if t then Ok (with_block m name constant (replicate len (Num 0))) else Err TooLarge) m m (Err (Refused TooLarge))) (sym (above len block_limit lt)) (refl, refl)

pub is_made : {U : Type 0} (m new : Memory) (name : BlockName) (len : ℕ) (constant : Bool) (u : U) → len ≤ block_limit → new ≡ with_block m name constant (replicate len (Num 0)) → IsMade (Allocate m name len constant) m new (Ok u)
is_made m new name len constant u le e = subst (λ t. IsMade (if t then Ok (with_block m name constant (replicate len (Num 0))) else Err TooLarge) m new (Ok u)) (sym (le-leb len block_limit le)) e
