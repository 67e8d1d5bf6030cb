-- What each test of an access answers.
use Rattle.std.proofs.Common.{◌≡◌, ℕ, ◌+◌, ◌≤◌, ◌<◌, ℤ, pos, negsuc, Bool, true, false, ◌&&◌, Option, Some, None, Result, Ok, Err, refl, ap, ◌∙◌, arith, nat_le, replicate}
use Rattle.std.specs.Prelude.{if◌then◌else◌}
use Rattle.std.proofs.lemmas.Bool.{le-leb, leb-true, eqb-true, eq-eqb, false_from_ne_true}
use Rattle.std.specs.FinMap as fin
use Rattle.mem_model.specs.declared.memory.BlockName.{BlockName}
use Rattle.mem_model.specs.declared.memory.BlockName.TheVariants.{Arg, Global, Heap, Stack, Captures, Code}
use Rattle.mem_model.specs.declared.memory.Ptr.TheVariants.{Num as Number, At}
use Rattle.mem_model.specs.declared.memory.Byte.TheVariants.{Num}
use Rattle.mem_model.specs.declared.memory.Cell.{Cell}
use Rattle.mem_model.specs.declared.step.Trap.{Trap}
use Rattle.mem_model.specs.declared.step.Trap.TheVariants.{NoBlock, Released, OutOfBlock, Constant, TooLarge}
use Rattle.mem_model.specs.Words.{cell_size, word_bytes}
use Rattle.mem_model.specs.Memory.{Memory, Header, Given, Shares, Leaks, inside, unless, then_unless, access, load_from, store_to, put_bytes, with_block, is_all, release_header, Load, Store, block_limit}
use Rattle.mem_model.specs.MemoryLaws.{Lies, IsAll, NumberTraps, MissingTraps, ReleasedTraps, OutsideTraps, ConstantTraps, LeakTraps, LoadReads, StoreGoes, AllocateGoes, ReleaseGoes, AllocateLarge, ReleaseHeapOnly, ReleaseMissing, ReleaseTwice, ReleasePart}

outside : (size : ℕ) (offset : ℤ) (count : ℕ) → (Lies size offset count → ⊥) → inside size offset count ≡ Err OutOfBlock
outside size (pos o) count not = ap (λ t. if t then Ok o else Err OutOfBlock) (false_from_ne_true (nat_le (o + count) size) (λ e. not (leb-true (o + count) size e)))
outside size (negsuc o) count not = refl

-- where bytes that lie in a block begin
abbrev pub begin : ℤ → ℕ
begin (pos offset) = offset
begin (negsuc offset) = 0

within : (size : ℕ) (offset : ℤ) (count : ℕ) → Lies size offset count → inside size offset count ≡ Ok (begin offset)
within size (pos o) count lies = ap (λ t. if t then Ok o else Err OutOfBlock) (le-leb (o + count) size lies)
within size (negsuc o) count lies = absurd lies

released : (header : Header) (offset : ℤ) (count : ℕ) (writes : Bool) → header.released ≡ true → access (Some header) offset count writes ≡ Err Released
released header offset count writes e = ap (λ r. unless r Released (then_unless (inside header.size offset count) (writes && header.constant) Constant)) e

out_of_block : (header : Header) (offset : ℤ) (count : ℕ) (writes : Bool) → header.released ≡ false → (Lies header.size offset count → ⊥) → access (Some header) offset count writes ≡ Err OutOfBlock
out_of_block header offset count writes e not =
    ap (λ r. unless r Released (then_unless (inside header.size offset count) (writes && header.constant) Constant)) e ∙ ap (λ r. then_unless r (writes && header.constant) Constant) (outside header.size offset count not)

pub in_block : (header : Header) (offset : ℤ) (count : ℕ) (writes : Bool) → header.released ≡ false → Lies header.size offset count → access (Some header) offset count writes ≡ unless (writes && header.constant) Constant (Ok (begin offset))
in_block header offset count writes e lies =
    ap (λ r. unless r Released (then_unless (inside header.size offset count) (writes && header.constant) Constant)) e ∙ ap (λ r. then_unless r (writes && header.constant) Constant) (within header.size offset count lies)

-- ---- loads and stores, by what the look-up and the tests answer

abbrev Accessed : Memory → BlockName → ℤ → Cell → Bool → Result ℕ Trap → Type 0
Accessed m block offset cell writes r = access (fin.get m.blocks block) offset (cell_size cell) writes ≡ r

both_trap : (m : Memory) (block : BlockName) (offset : ℤ) (cell : Cell) (given : Given) (trap : Trap) → ((writes : Bool) → Accessed m block offset cell writes (Err trap)) → (Load m (At block offset) cell ≡ Err trap) × (Store m (At block offset) cell given ≡ Err trap)
both_trap m block offset cell given trap e = (ap (load_from m block cell) (e false), ap (store_to m block cell given) (e true))

found : (m : Memory) (block : BlockName) (offset : ℤ) (cell : Cell) (h : Option Header) → fin.get m.blocks block ≡ h → (writes : Bool) → Accessed m block offset cell writes (access h offset (cell_size cell) writes)
found m block offset cell h e writes = ap (λ x. access x offset (cell_size cell) writes) e

pub number_traps : NumberTraps
number_traps m n cell given = (refl, refl)

pub missing_traps : MissingTraps
missing_traps m block offset cell given e = both_trap m block offset cell given NoBlock (found m block offset cell None e)

pub released_traps : ReleasedTraps
released_traps m block offset cell given header e r =
    both_trap m block offset cell given Released (λ writes. found m block offset cell (Some header) e writes ∙ released header offset (cell_size cell) writes r)

pub outside_traps : OutsideTraps
outside_traps m block offset cell given header e r not =
    both_trap m block offset cell given OutOfBlock (λ writes. found m block offset cell (Some header) e writes ∙ out_of_block header offset (cell_size cell) writes r not)

-- a store to a block that is there, and in which the bytes lie
goes_on : (m : Memory) (block : BlockName) (offset : ℤ) (cell : Cell) (given : Given) (header : Header) (constant : Bool) → fin.get m.blocks block ≡ Some header → header.released ≡ false → Lies header.size offset (cell_size cell) → header.constant ≡ constant → Store m (At block offset) cell given ≡ store_to m block cell given (unless constant Constant (Ok (begin offset)))
goes_on m block offset cell given header constant e r lies c =
    ap (store_to m block cell given) (found m block offset cell (Some header) e true ∙ in_block header offset (cell_size cell) true r lies ∙ ap (λ x. unless x Constant (Ok (begin offset))) c)

pub constant_traps : ConstantTraps
constant_traps m block offset cell given header e r lies c = goes_on m block offset cell given header true e r lies c

pub leak_traps : LeakTraps
leak_traps m block offset cell header e r lies c = goes_on m block offset cell Leaks header false e r lies c

pub load_reads : LoadReads
load_reads m block offset cell header e r lies =
    ap (load_from m block cell) (found m block (pos offset) cell (Some header) e false ∙ in_block header (pos offset) (cell_size cell) false r lies)

pub store_goes : StoreGoes
store_goes m block offset cell word header e r lies c =
    (record m { bytes = put_bytes m.bytes block (begin offset) (word_bytes cell word) }, goes_on m block offset cell (Shares word) header false e r lies c)

-- ---- blocks come and go

pub allocate_goes : AllocateGoes
allocate_goes m block size constant below =
    (with_block m block constant (replicate size (Num 0)), ap (λ t. if t then Ok (with_block m block constant (replicate size (Num 0))) else Err TooLarge) (le-leb size block_limit below))

absurd_above : (a b : ℕ) → b < a → a ≤ b → ⊥
absurd_above a b over under = omega arith

pub allocate_large : AllocateLarge
allocate_large m block size constant above =
    ap (λ t. if t then Ok (with_block m block constant (replicate size (Num 0))) else Err TooLarge) (false_from_ne_true (nat_le size block_limit) (λ e. absurd_above size block_limit above (leb-true size block_limit e)))

pub release_heap_only : ReleaseHeapOnly
release_heap_only m (Number n) count not = refl
release_heap_only m (At (Heap n) offset) count not = absurd (not tt)
release_heap_only m (At (Arg n) offset) count not = refl
release_heap_only m (At (Global n) offset) count not = refl
release_heap_only m (At (Stack t n) offset) count not = refl
release_heap_only m (At Captures offset) count not = refl
release_heap_only m (At (Code n) offset) count not = refl

pub release_missing : ReleaseMissing
release_missing m n offset count e = ap (release_header m (Heap n) offset count) e

abbrev pub gone : Memory → BlockName → Header → Memory
gone m block header = record m { blocks = fin.insert m.blocks block (record header { released = true }) }

released_next : (m : Memory) (block : BlockName) (offset : ℤ) (count : ℕ) (header : Header) → header.released ≡ true → release_header m block offset count (Some header) ≡ Err Released
released_next m block offset count header r = ap (λ t. if t then Err Released else if is_all header.size offset count then Ok (gone m block header) else Err OutOfBlock) r

pub release_twice : ReleaseTwice
release_twice m n offset count header e r = ap (release_header m (Heap n) offset count) e ∙ released_next m (Heap n) offset count header r

all_is : (size : ℕ) (offset : ℤ) (count : ℕ) → is_all size offset count ≡ true → IsAll size offset count
all_is size (pos o) count e = grind (arith, eqb-true)
all_is size (negsuc o) count e = absurd (let f : ⊥ = cc in f)

part_next : (m : Memory) (block : BlockName) (offset : ℤ) (count : ℕ) (header : Header) → header.released ≡ false → is_all header.size offset count ≡ false → release_header m block offset count (Some header) ≡ Err OutOfBlock
part_next m block offset count header r e =
    ap (λ t. if t then Err Released else if is_all header.size offset count then Ok (gone m block header) else Err OutOfBlock) r ∙ ap (λ t. if t then Ok (gone m block header) else Err OutOfBlock) e

pub release_part : ReleasePart
release_part m n offset count header e r not =
    ap (release_header m (Heap n) offset count) e ∙ part_next m (Heap n) offset count header r (false_from_ne_true (is_all header.size offset count) (λ a. not (all_is header.size offset count a)))

whole_next : (m : Memory) (block : BlockName) (offset : ℤ) (count : ℕ) (header : Header) → header.released ≡ false → is_all header.size offset count ≡ true → release_header m block offset count (Some header) ≡ Ok (gone m block header)
whole_next m block offset count header r e =
    ap (λ t. if t then Err Released else if is_all header.size offset count then Ok (gone m block header) else Err OutOfBlock) r ∙ ap (λ t. if t then Ok (gone m block header) else Err OutOfBlock) e

all_so : (size : ℕ) (offset : ℤ) (count : ℕ) → IsAll size offset count → is_all size offset count ≡ true
all_so size offset count all = ap (λ o. is_all size o count) all.0 ∙ eq-eqb count size all.1

pub release_goes : ReleaseGoes
release_goes m n offset count header e r all =
    (gone m (Heap n) header, ap (release_header m (Heap n) offset count) e ∙ whole_next m (Heap n) offset count header r (all_so header.size offset count all))
