-- What a new block and a released one show.
use Rattle.std.proofs.Common.{◌≡◌, ℕ, ℤ, List, length, replicate, Bool, true, false, cond, Option, Some, None, Result, Ok, Err, refl, ap, ◌∙◌, subst}
use Rattle.std.specs.Prelude.{if◌then◌else◌}
use Rattle.std.specs.FinMap as fin
use Rattle.std.specs.FinMap.{FinMap, get-insert}
use Rattle.std.specs.Ordering.{eq_by_cmp}
use Rattle.std.proofs.lemmas.Bool.{false_from_ne_true}
use Rattle.std.proofs.lemmas.List.{length-replicate}
use Rattle.std.proofs.lemmas.Cmp.{eq_by_cmp_equiv}
use Rattle.mem_model.specs.declared.memory.BlockName.{BlockName}
use Rattle.mem_model.specs.declared.memory.BlockName.TheVariants.{Heap}
use Rattle.mem_model.specs.declared.memory.Ptr.TheVariants.{At}
use Rattle.mem_model.specs.declared.memory.Byte.{Byte}
use Rattle.mem_model.specs.declared.memory.Byte.TheVariants.{Num}
use Rattle.mem_model.specs.declared.memory.Cell.{Cell}
use Rattle.mem_model.specs.declared.step.Trap.{Trap}
use Rattle.mem_model.specs.declared.step.Trap.TheVariants.{Released, OutOfBlock, TooLarge}
use Rattle.mem_model.specs.Blocks.{block_cmp}
use Rattle.mem_model.specs.Words.{cell_size}
use Rattle.mem_model.specs.Memory.{Memory, Header, access, bytes_at, load_from, with_block, is_all, release_header, Load}
use Rattle.mem_model.specs.MemoryLaws.{NewBlock, NewBytes, NewBlockApart, ReleaseThenTraps, ReleaseApart}
use Rattle.mem_model.proofs.Orders.{block_total, block_same}
use Rattle.mem_model.proofs.AccessTests.{gone, released_traps}
use Rattle.mem_model.proofs.StoreLaws.{put_apart, put_back, bytes_same, load_same, ok_same}

pub header_here : (x : FinMap block_cmp Header) (a : BlockName) (h : Header) → fin.get (fin.insert x a h) a ≡ Some h
header_here x a h = get-insert block_total x a h a ∙ ap (λ t. cond t (Some h) (fin.get x a)) ((eq_by_cmp_equiv block_total).refl a)

pub header_apart : (x : FinMap block_cmp Header) (a b : BlockName) (h : Header) → (b ≡ a → ⊥) → fin.get (fin.insert x a h) b ≡ fin.get x b
header_apart x a b h not = get-insert block_total x a h b ∙ ap (λ t. cond t (Some h) (fin.get x b)) (false_from_ne_true (eq_by_cmp block_cmp b a) (λ e. not (block_same b a e)))

-- a load gives the same in two memories that agree on its block
load_alike : (m n : Memory) (b : BlockName) (place : ℤ) (read : Cell) → fin.get n.blocks b ≡ fin.get m.blocks b → ((o : ℕ) → fin.get n.bytes (b, o) ≡ fin.get m.bytes (b, o)) → Load n (At b place) read ≡ Load m (At b place) read
load_alike m n b place read blocks bytes =
    ap (λ h. load_from n b read (access h place (cell_size read) false)) blocks ∙ load_same m n b read (access (fin.get m.blocks b) place (cell_size read) false) (λ o e. bytes_same m n b o (cell_size read) (λ j low high. bytes j))

-- ---- a new block

made : (m after : Memory) (goes : Bool) → ◌≡◌ {A = Result Memory Trap} (if goes then Ok m else Err TooLarge) (Ok after) → m ≡ after
made m after true e = ok_same m after e
made m after false e = absurd (let f : ⊥ = cc in f)

abbrev zeros : ℕ → List Byte
zeros size = replicate size (Num 0)

pub new_block : NewBlock
new_block m after block size constant e =
    subst (λ (a : Memory). fin.get a.blocks block ≡ Some (record { size = size; constant = constant; released = false })) (made (with_block m block constant (zeros size)) after _ e)
    (header_here m.blocks block (record { size = length (zeros size); constant = constant; released = false }) ∙ ap (λ k. Some (header_of k)) (length-replicate size (Num 0)))
  where
    header_of : ℕ → Header
    header_of k = record { size = k; constant = constant; released = false }

pub new_bytes : NewBytes
new_bytes m after block size constant e =
    subst (λ (a : Memory). bytes_at a block 0 size ≡ zeros size) (made (with_block m block constant (zeros size)) after _ e)
    (subst (λ k. bytes_at (with_block m block constant (zeros size)) block 0 k ≡ zeros size) (length-replicate size (Num 0)) (put_back (with_block m block constant (zeros size)) m.bytes block 0 (zeros size)))

pub new_block_apart : NewBlockApart
new_block_apart m after block other size constant place read apart e =
    subst (λ (a : Memory). Load a (At other place) read ≡ Load m (At other place) read) (made (with_block m block constant (zeros size)) after _ e)
    (load_alike m (with_block m block constant (zeros size)) other place read (header_apart m.blocks block other _ apart) (λ o. put_apart m.bytes block 0 (zeros size) other o (λ same low high. apart same)))

-- ---- a released block

record Gone (m after : Memory) (block : BlockName) : Type 0 where
  pub header : Header
  pub leaves : gone m block header ≡ after

gone_by : (m after : Memory) (block : BlockName) (header : Header) (released all : Bool) → ◌≡◌ {A = Result Memory Trap} (if released then Err Released else if all then Ok (gone m block header) else Err OutOfBlock) (Ok after) → Gone m after block
gone_by m after block header true all e = absurd (let f : ⊥ = cc in f)
gone_by m after block header false false e = absurd (let f : ⊥ = cc in f)
gone_by m after block header false true e = record { header = header; leaves = ok_same (gone m block header) after e }

gone_when : (m after : Memory) (block : BlockName) (offset : ℤ) (count : ℕ) (h : Option Header) → release_header m block offset count h ≡ Ok after → Gone m after block
gone_when m after block offset count None e = absurd (let f : ⊥ = cc in f)
gone_when m after block offset count (Some header) e = gone_by m after block header header.released (is_all header.size offset count) e

pub release_then_traps : ReleaseThenTraps
release_then_traps m after n offset place count cell given e =
    released_traps after (Heap n) place cell given (record g.header { released = true }) (subst (λ (a : Memory). fin.get a.blocks (Heap n) ≡ Some (record g.header { released = true })) g.leaves (header_here m.blocks (Heap n) (record g.header { released = true }))) refl
  where
    g : Gone m after (Heap n)
    g = gone_when m after (Heap n) offset count (fin.get m.blocks (Heap n)) e

pub release_apart : ReleaseApart
release_apart m after n offset place count other read apart e =
    subst (λ (a : Memory). Load a (At other place) read ≡ Load m (At other place) read) g.leaves
    (load_alike m (gone m (Heap n) g.header) other place read (header_apart m.blocks (Heap n) other (record g.header { released = true }) apart) (λ o. refl))
  where
    g : Gone m after (Heap n)
    g = gone_when m after (Heap n) offset count (fin.get m.blocks (Heap n)) e
